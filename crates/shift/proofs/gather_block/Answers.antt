-- `shift::gather_block` meets its contract: the cells of the block that were passed along its chain are gathered, and the chain goes on while one is missing.
-- Assumes nothing.
use Prim.Native.Nat.{ℕ, ◌*◌, ◌<◌}
use native.Mathlib.Omega.{arith}
use mathlib.Core.List.{List}
use lib.ListN.{length}
use Rattle.grid.proofs.SideLaws.{cell_small}
use Rattle.reach.proofs.ChainWalks.{Walk, Walk-start, Walk-more, walk_less}
use Rattle.shift.proofs.Passed.{block_of, block_goes_on, block_passed, block_grows, block_stays}
use Rattle.shift.proofs.Shifts.{Gathered, Gathered-none, Gathered-more, gathered_all}
use Rattle.shift.proofs.gather_block.Invariants.{Amid}
use Rattle.shift.proofs.gather_block.Goals as goal
use Rattle.shift.proofs.gather_block.Goals.{Start, then-linked-i-eq-ARROW_BLOCK, else-linked-i-eq-ARROW_BLOCK}

-- the block's name is a place of the arrays
small : (c : Start) → c.args.f < 1024
small c = let g = c.args.linked.now.info.grid in cell_small (record { tall = g.tall; wide = g.wide; within = c.requires.name })

-- what holds where these cells were passed and their block cells gathered
amid : (c : Start) {passed rows columns : List ℕ} {k i : ℕ} → let info = c.args.linked.now.info in let n = info.grid.height * info.grid.width in
    Walk info.owners.now n c.args.f passed i → Gathered info.grid.width (block_of info.kinds.now passed) c.args.rows.now c.args.columns.now rows columns k
    → Amid info.kinds.now info.owners.now n info.grid.width c.args.f (length c.args.rows.now) c.args.rows.now c.args.columns.now rows columns k i
amid c {passed} {k = k} {i} walk so_far = record { passed = passed; walk = walk; so_far = so_far; goes_on = goes_on }
  where
    kinds : List ℕ
    kinds = c.args.linked.now.info.kinds.now

    goes_on : k < length c.args.rows.now → i < 1024
    goes_on l = block_goes_on c.args.linked.now.chains kinds c.args.f (small c) walk (omega (arith, l, so_far.many, c.requires.rows))

pub loop-k-init : goal.loop-k-init
loop-k-init c =
    let s = (goal.at.loop-k-init c).Start in
    let l = c.args.linked.now in
    rw (c.from-i.ensures, c.from.ensures) (amid s (Walk-start l.chains c.args.f (small s)) (Gathered-none l.info.grid.width c.args.rows.now c.args.columns.now))

pub loop-k-smaller : goal.loop-k-smaller
loop-k-smaller c =
    let s = (goal.at.loop-k-smaller c).Start in
    let I = c.loop-k.invariant in
    rw c.from-i-in-loop-k.ensures (walk_less c.args.linked.now.chains c.args.f (small s) I.walk (I.goes_on (omega (arith, c.loop-k-test.true, c.loop-k.auto.rows))))

pub loop-k-preserved : goal.loop-k-preserved
loop-k-preserved c =
    let s = (goal.at.loop-k-preserved c).Start in
    let l = c.args.linked.now in
    let kinds = l.info.kinds.now in
    let w = l.info.grid.width in
    let I = c.loop-k.invariant in
    let walk = Walk-more l.chains c.args.f (small s) I.walk (I.goes_on (omega (arith, c.loop-k-test.true, c.loop-k.auto.rows))) in
    elim c.if-linked-i-eq-ARROW_BLOCK.branch [
      | then-linked-i-eq-ARROW_BLOCK b ↦
          let grows = block_grows kinds I.passed c.loop-k.i b.if-linked-i-eq-ARROW_BLOCK.true in
          rw (c.from-i-in-loop-k.ensures, b.rows-is, b.columns-is, b.k-is)
          (amid s walk (rw grows (Gathered-more w (block_of kinds I.passed) c.loop-k.i I.so_far (omega (arith, c.loop-k-test.true, c.loop-k.auto.rows)) (omega (arith, c.loop-k-test.true, c.loop-k.auto.rows, c.requires.columns)))))
      | else-linked-i-eq-ARROW_BLOCK b ↦
          let stays = block_stays kinds I.passed c.loop-k.i b.if-linked-i-eq-ARROW_BLOCK.false in
          rw (c.from-i-in-loop-k.ensures, b.rows-is, b.columns-is, b.k-is) (amid s walk (rw stays I.so_far))
    ]

pub returns : goal.returns
returns c =
    let a = c.args in
    let I = c.loop-k.invariant in
    let all = block_passed a.linked.now.chains a.linked.now.info.kinds.now a.f (small (goal.at.returns c).Start) I.walk (omega (arith, c.requires.rows, I.so_far.many, c.loop-k-test.false, c.loop-k.auto.rows)) in
    gathered_all (rw all at I.so_far) (omega (arith, c.loop-k-test.false, c.loop-k.auto.rows)) (omega (arith, c.requires.columns, c.loop-k-test.false, c.loop-k.auto.rows))
