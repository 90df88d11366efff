-- `reason::write_answer` meets its contract: the text ends within its room, and is what is written.
-- Assumes nothing.
use native.Mathlib.Omega.{arith}
use lib.Seq.{length-take-le}
use Rattle.text.proofs.Writing.{write_within, text_taken}
use Rattle.std.proofs.lemmas.Grind.{common_steps}
use Rattle.reason.proofs.write_answer.Goals as goal

pub slice_bounds-text-end : goal.slice_bounds-text-end
slice_bounds-text-end g c = omega (arith, write_within c.respond-end.ensures (omega arith))

pub slice_bounds-write_all-end : goal.slice_bounds-write_all-end
slice_bounds-write_all-end g c =
    let within = write_within c.respond-end.ensures (omega arith) in
    omega (arith, length-take-le c.respond-end.result c.respond-end.new.out within)

pub returns : goal.returns
returns g c = grind (arith, common_steps, text_taken)
