-- `kinds::look_around` meets its contract: the arrow blocks of the neighbours in the directions passed are met.
-- Assumes nothing.
use Prim.Native.Nat.{ℕ}
use mathlib.Core.List.{List}
use native.Mathlib.Omega.{arith}
use Rattle.grid.specs.Side.{sized, InGrid}
use Rattle.grid.proofs.SideLaws.{cell_small}
use Rattle.grid.proofs.AroundLaws.{side_cell, side_at, side_off, sides_none, sides_all}
use Rattle.kinds.specs.Inside.{Owned, arrow_blocks_at}
use Rattle.kinds.specs.declared.Touched.TheVariants.{Nobody}
use Rattle.kinds.proofs.Owners.{Owned-none}
use Rattle.kinds.proofs.look_around.Goals as goal
use Rattle.kinds.proofs.look_around.Goals.{Start, in-Some, in_default}

-- the cell that is looked around
here : (c : Start) → InGrid c.args.grid.height c.args.grid.width c.args.i
here c = record { tall = c.args.grid.tall; wide = c.args.grid.wide; within = c.requires }

pub loop-k-init : goal.loop-k-init
loop-k-init c =
    let a = c.args in
    sides_none (λ (l : List ℕ). Owned (arrow_blocks_at a.blocks.now.labels a.blocks.now.arrowed l) Nobody) _ _ (Owned-none _ _)

pub loop-k-preserved : goal.loop-k-preserved
loop-k-preserved c =
    let a = c.args in
    let cell = here (goal.at.loop-k-preserved c).Start in
    elim c.match-toward.branch [
      | in-Some v ↦ side_at cell c.loop-k.k c.toward.result c.toward.ensures.neighbour (λ (m : List ℕ). Owned (arrow_blocks_at a.blocks.now.labels a.blocks.now.arrowed m) c.match-toward.touched) _ v.in-Some.is
          (rw v.touched-is (v.meet_at-touched.ensures _ c.loop-k.invariant))
      | in_default v ↦ side_off cell c.loop-k.k c.toward.result c.toward.ensures.neighbour (λ (m : List ℕ). Owned (arrow_blocks_at a.blocks.now.labels a.blocks.now.arrowed m) c.match-toward.touched) v.in_default.is
          (rw v.touched-is c.loop-k.invariant)
    ]

pub returns : goal.returns
returns c =
    let a = c.args in
    sides_all (λ (m : List ℕ). Owned (arrow_blocks_at a.blocks.now.labels a.blocks.now.arrowed m) c.loop-k.touched) (sized a.grid.height a.grid.width) a.i c.loop-k.k
    (omega (arith, c.loop-k.auto.k-end)) c.loop-k-test.false c.loop-k.invariant
