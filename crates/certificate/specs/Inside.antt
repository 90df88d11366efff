-- What the steps of the check of a certificate answer, by the numbers of the definitions.
-- Assumes nothing.
use Rattle.std.specs.Prelude.{ℕ, ◌+◌, cond, List, Option, Some, None, Ok, Err}
use Rattle.std.specs.declared.result.Result.{Result}
use Rattle.refusal.specs.Refusals.{number_of}
use Rattle.refusal.specs.declared.Refusal.{Refusal}
use Rattle.certificate.specs.Certificate.{whole, next}
use Rattle.certificate.specs.declared.Clause.{Clause}
use Rattle.certificate.specs.declared.Clause.TheVariants.{False, Unit, Other}
use Rattle.certificate.specs.declared.Closing.{Closing}
use Rattle.certificate.specs.declared.Closing.TheVariants.{Contradiction, Undecided}

-- what a clause comes to, as `look_from` counts
abbrev pub clause_number : Clause → ℕ
clause_number False = 0
clause_number (Unit w) = w + 2
clause_number Other = 1

-- what a step comes to, as the first part of a `State`
abbrev pub closing_number : Result Closing Refusal → ℕ
closing_number (Ok Undecided) = 0
closing_number (Ok Contradiction) = 1
closing_number (Err r) = number_of r

-- 0, or the number of a refusal
abbrev pub refusal_number : {A : Type 0} → Result A Refusal → ℕ
refusal_number (Ok a) = 0
refusal_number (Err r) = number_of r

-- where the whole step at p ends
abbrev pub end_of : List ℕ → ℕ → Option ℕ
end_of ws p = cond (whole ws p) (Some (next ws p)) None
