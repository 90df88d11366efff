-- What holds at each turn of the loop of `shift::gather_block`, and what falls from turn to turn.
-- Assumes nothing.
use Prim.Native.Nat.{ℕ, ◌-◌, ◌*◌, ◌<◌}
use mathlib.Core.List.{List}
use lib.ListN.{length}
use Rattle.shift.proofs.Shifts.{Gathered}
use Rattle.reach.proofs.ChainWalks.{Walk}
use Rattle.shift.proofs.Passed.{block_of}
use Rattle.shift.proofs.gather_block.Given as goal

-- the cells of the block that were passed are gathered; while one of the `all` is missing, the chain goes on
pub record Amid (kinds owners : List ℕ) (n w f all : ℕ) (rows₀ columns₀ rows columns : List ℕ) (k i : ℕ) : Type 0 where
  pub passed : List ℕ
  pub walk : Walk owners n f passed i
  pub so_far : Gathered w (block_of kinds passed) rows₀ columns₀ rows columns k
  pub goes_on : k < all → i < 1024

abbrev pub invariant-loop-k : goal.invariant-loop-k
invariant-loop-k l =
    Amid l.linked.info.kinds.now l.linked.info.owners.now (l.linked.info.grid.height * l.linked.info.grid.width) l.linked.info.grid.width l.f (length l.initial.rows)
    l.initial.rows l.initial.columns l.rows l.columns l.k l.i

abbrev pub decreases-loop-k : goal.decreases-loop-k
decreases-loop-k l = 1024 - l.i
