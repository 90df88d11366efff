-- `certificate::Certificate::all_literals` meets its contract.
-- Assumes nothing.
use Rattle.std.proofs.Common.{rules, tests, arith, ◌∙◌, refl}
use Rattle.std.proofs.lemmas.Iterator.{YieldsList-from_range}
use Rattle.std.proofs.lemmas.Iterator.Search.{all_from_yields_List}
use Rattle.certificate.specs.Certificate.{head_at}
use Rattle.certificate.proofs.Heads.{all_upto}
use Rattle.certificate.proofs.Certificate.all_literals.Goals as goal

pub returns : goal.returns
unfolding head_at
returns c =
    let test = head_at c.args.self.now in
    all_from_yields_List test _ _ _ c.all.ensures.ran (YieldsList-from_range 0 c.args.n c.args.n refl (omega arith)) (λ x b q k. search (rules, tests)) ∙ all_upto test c.args.n
