-- What holds at each turn of the loop of `shift::ShiftTest::fits_chain`, and what falls from turn to turn.
-- Assumes nothing.
use Prim.Native.Nat.{ℕ, ◌-◌, ◌*◌}
use mathlib.Core.Path.{◌≡◌}
use mathlib.Core.Bool.{Bool, false}
use mathlib.Core.List.{List}
use Rattle.grid.specs.Lists.{any}
use Rattle.shift.specs.Test.{fits_at}
use Rattle.reach.proofs.ChainWalks.{Walk}
use Rattle.shift.proofs.ShiftTest.fits_chain.Given as goal

-- no shift to a cell that was passed fits
pub record Amid (owners : List ℕ) (n m : ℕ) (test : ℕ → Bool) (t : ℕ) : Type 0 where
  pub passed : List ℕ
  pub walk : Walk owners n m passed t
  pub none : any test passed ≡ false

abbrev pub invariant-loop-t : goal.invariant-loop-t
invariant-loop-t l = Amid l.self.block.linked.info.owners.now (l.self.block.linked.info.grid.height * l.self.block.linked.info.grid.width) l.m (fits_at l.self) l.t

abbrev pub decreases-loop-t : goal.decreases-loop-t
decreases-loop-t l = 1024 - l.t
