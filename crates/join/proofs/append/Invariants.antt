-- What holds at each turn of the loop of `join::append`.
-- Assumes nothing.
use Prim.Native.Nat.{ℕ}
use lib.ListN.{take}
use Rattle.join.specs.Inside.{Gives, Behind}
use Rattle.join.proofs.append.Given as goal

abbrev pub invariant-loop-k : goal.invariant-loop-k
invariant-loop-k g l = (G : ℕ → ℕ) → Gives (goal.F-post g l.each) G l.list → Behind l.at G (take l.k l.list) l.initial.line l.line
