-- `join::join_codes` meets its contract: the first j codes are in the array.
-- Assumes nothing.
use Prim.Native.Nat.{ℕ}
use native.Mathlib.Omega.{arith}
use mathlib.Core.Path.{ap, ◌∙◌}
use mathlib.Core.List.{List}
use lib.ListN.{set}
use Rattle.grid.proofs.FilledLaws.{filled_none, filled_more}
use Rattle.join.specs.Inside.{code_on}
use Rattle.join.proofs.PieceLaws.{room}
use Rattle.join.proofs.join_codes.Goals as goal

pub loop-j-init : goal.loop-j-init
loop-j-init c = filled_none 0 (code_on c.args.left.now c.args.right.now)

pub loop-j-preserved : goal.loop-j-preserved
loop-j-preserved c =
    ap (λ (x : List ℕ). set x c.loop-j.j c.code_at.result) c.loop-j.invariant
    ∙ filled_more 0 (code_on c.args.left.now c.args.right.now) c.loop-j.j c.code_at.result (omega (arith, room c.requires)) c.code_at.ensures
