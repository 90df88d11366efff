-- `answer::find_in` meets its contract: the refusal of the parts, or what the host call says.
-- Assumes nothing.
use mathlib.Core.Path.{ap, ◌∙◌}
use mir.Syntax.{w32}
use mir.ValLaws.{to_z-of_z}
use Rattle.std.specs.Prelude.{ℕ, Err}
use Rattle.refusal.specs.Refusals.{number_of, Outcome}
use Rattle.literals.specs.Literals.{Found}
use Rattle.calls.specs.Found.{returned, output_after}
use Rattle.text.specs.Told.{told_by}
use Rattle.answer.proofs.Inputs.{host_program}
use Rattle.answer.proofs.Answers.{refusal_told, refusal_leaves}
use Rattle.answer.proofs.find_in.Goals as goal

pub returns-in-Ok-clause-told : goal.returns-in-Ok-clause-told
returns-in-Ok-clause-told c =
    let e = host_program c.args.input.now c.in-Ok.record.now c.in-Ok.decisions.now c.args.found.now c.in-Ok.ensures c.told-found in
    c.read_code.ensures ∙ ap told_by (to_z-of_z w32 c.evolmino_find.result (record { sfits = c.evolmino_find.type_inv }) ∙ c.evolmino_find.ensures.0 ∙ ap returned e)

pub returns-in-Ok-clause-found : goal.returns-in-Ok-clause-found
returns-in-Ok-clause-found c =
    let e = host_program c.args.input.now c.in-Ok.record.now c.in-Ok.decisions.now c.args.found.now c.in-Ok.ensures c.told-found in
    c.evolmino_find.ensures.1 ∙ ap (λ (o : Outcome Found). output_after o c.args.found.now) e

pub returns-in-Err-clause-told : goal.returns-in-Err-clause-told
returns-in-Err-clause-told c = ap (λ (k : ℕ). Err k) (c.from.ensures ∙ c.number.ensures) ∙ refusal_told c.args.input.now (number_of c.in-Err.refusal) c.in-Err.ensures

pub returns-in-Err-clause-found : goal.returns-in-Err-clause-found
returns-in-Err-clause-found c = refusal_leaves c.args.input.now (number_of c.in-Err.refusal) c.in-Err.ensures c.args.found.now
