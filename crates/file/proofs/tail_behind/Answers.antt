-- `file::tail_behind` meets its contract.
-- Assumes nothing.
use Prim.Native.Nat.{◌+◌, ◌*◌}
use native.Mathlib.Omega.{arith}
use mathlib.Core.Path.{◌≡◌, refl}
use mathlib.Core.Bool.{true}
use Rattle.record.proofs.HeadLaws.{bytes_for_lem}
use Rattle.form.proofs.AcceptedLaws.{kept}
use Rattle.writer.proofs.ArrayLaws.{Parts, parts}
use Rattle.record.specs.Problem.{puzzle_of, total_of}
use Rattle.record.specs.declared.Problem.{Problem}
use Rattle.form.specs.Form.{problem_formed}
use Rattle.file.proofs.tail_behind.Goals as goal

-- the arrays of a problem that is well formed
of : (q : Problem) → problem_formed q ≡ true → Parts q
of q f = let k = kept q f refl in parts (puzzle_of q) k.valid q k.arrays

pub record_length-requires : goal.record_length-requires
record_length-requires c = let b = of c.args.problem.now c.requires in (b.tall, b.wide, b.few, b.short)

pub size-requires : goal.size-requires
size-requires c = let b = of c.args.problem.now c.requires in (b.tall, b.wide)

pub invariant_of-tail-clause-near : goal.invariant_of-tail-clause-near
invariant_of-tail-clause-near c =
    let q = c.args.problem.now in
    let b = of q c.requires in
    omega (arith, c.record_length.ensures, bytes_for_lem (21 + 2 * (q.height * q.width) + 18 * q.count + 2 * total_of q), c.size.ensures.value, c.size.ensures.small, b.few, b.short)
