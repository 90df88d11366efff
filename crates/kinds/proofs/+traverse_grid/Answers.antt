-- `kinds::traverse_grid` meets its contract: the cells with no group become fewer with each call, and the walks from the neighbours in the directions passed are done.
-- Assumes nothing.
use Prim.Native.Nat.{ℕ}
use native.Mathlib.Omega.{arith}
use lib.ListN.{set}
use mathlib.Core.Path.{refl}
use mathlib.Core.Bool.{true}
use Rattle.grid.specs.Side.{sized, InGrid}
use Rattle.groups.proofs.LabellingLaws.{set_still, Added-Only}
use Rattle.grid.proofs.ArrayLaws.{fewer_set}
use Rattle.kinds.proofs.Traversal.{Turn, Turn-none, Turn-more, Turn-all}
use Rattle.grid.proofs.AroundLaws.{side_Adjacent, side_cell, side_at, side_off, sides_none, sides_all}
use Rattle.kinds.proofs.+traverse_grid.Goals as goal
use Rattle.kinds.proofs.+traverse_grid.Goals.{Start, in-Some, in_default}

-- the cell that the walk begins at
here : {t : ℕ} (c : Start t) → InGrid c.args.grid.height c.args.grid.width c.args.i
here c = record { tall = c.args.grid.tall; wide = c.args.grid.wide; within = c.requires.cell }

pub loop-k-init : goal.loop-k-init
loop-k-init t c =
    let named = set c.args.owners.now c.args.i c.args.name in
    λ p _ _. sides_none (Turn (sized c.args.grid.height c.args.grid.width) p c.args.i c.args.name named named) _ _ (Turn-none c.requires.name)

pub traverse_grid-requires : goal.traverse_grid-requires
traverse_grid-requires t c =
    let fall = fewer_set c.args.owners.now c.args.i c.args.name c.if-owners-i-ne-UNLABELLED.false (λ e. omega (arith, e, c.requires.name)) (omega arith) in (
      omega (arith, fall, c.decreases, (c.loop-k.invariant (λ _. true) refl (λ _ _. refl)).fewer),
      (c.in-Some.ensures.inside, c.requires.name),
    )

pub loop-k-preserved : goal.loop-k-preserved
loop-k-preserved t c =
    let named = set c.args.owners.now c.args.i c.args.name in
    λ p o only.
    let T = c.loop-k.invariant p o only in
    let cell = here (goal.at.loop-k-preserved t c).Start in
    elim c.match-toward.branch [
      | in-Some v ↦ side_at cell c.loop-k.k c.toward.result c.toward.ensures.neighbour (Turn (sized c.args.grid.height c.args.grid.width) p c.args.i c.args.name named c.match-toward.owners) _ v.in-Some.is
          (rw v.owners-is (Turn-more c.requires.name o (side_Adjacent cell c.loop-k.k c.toward.result c.toward.ensures.neighbour _ v.in-Some.is) (v.traverse_grid.ensures.walked p (Added-Only T.added only)) v.traverse_grid.ensures.fewer_free T))
      | in_default v ↦ side_off cell c.loop-k.k c.toward.result c.toward.ensures.neighbour (Turn (sized c.args.grid.height c.args.grid.width) p c.args.i c.args.name named c.match-toward.owners) v.in_default.is
          (rw v.owners-is T)
    ]

pub returns-clause-walked : goal.returns-clause-walked
returns-clause-walked t c =
    let u = c.if-owners-i-ne-UNLABELLED.false in
    let fall = fewer_set c.args.owners.now c.args.i c.args.name u (λ e. omega (arith, e, c.requires.name)) (omega arith) in λ p only.
    let o = only c.args.i u in
    Turn-all c.requires.name o u
    (sides_all (Turn (sized c.args.grid.height c.args.grid.width) p c.args.i c.args.name (set c.args.owners.now c.args.i c.args.name) c.loop-k.owners) (sized c.args.grid.height c.args.grid.width) c.args.i c.loop-k.k (omega (arith, c.loop-k.auto.k-end)) c.loop-k-test.false
    (c.loop-k.invariant p o (λ j x. only j (set_still c.args.owners.now c.args.i c.args.name u j x))))

pub returns-clause-fewer_free : goal.returns-clause-fewer_free
returns-clause-fewer_free t c =
    let u = c.if-owners-i-ne-UNLABELLED.false in
    let fall = fewer_set c.args.owners.now c.args.i c.args.name u (λ e. omega (arith, e, c.requires.name)) (omega arith) in omega (arith, fall, (c.loop-k.invariant (λ _. true) refl (λ _ _. refl)).fewer)
