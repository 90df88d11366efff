-- `calls::ask_on` meets its contract: the leaf is put together, and asked.
-- Assumes nothing.
use mathlib.Core.Path.{sym, ◌∙◌}
use Rattle.calls.proofs.Opening.{edition_not_0, formed_small, formed_arrays}
use Rattle.calls.proofs.ask_on.Goals as goal

pub invariant_of-leaf : goal.invariant_of-leaf
invariant_of-leaf g c =
    let q = c.args.problem.now in
    let f = c.requires.formed in
    record { tall = (formed_small q f).0; wide = (formed_small q f).1; arrows = formed_arrays q f; played = λ z. edition_not_0 c.args.edition (sym c.number.ensures ∙ z); sized = c.requires.sized }
