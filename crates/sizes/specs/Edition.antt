-- The two editions, and the number of each.
-- Assumes nothing.
use Rattle.std.specs.Prelude.{ℕ, ◌≡◌, true, false, Ok, Err}
use Rattle.std.specs.declared.result.Result.{Result}
use Rattle.record.specs.Leaf.{is_edition}
use Rattle.refusal.specs.declared.Refusal.TheVariants as refusals
use Rattle.refusal.specs.declared.Refusal.{Refusal}
use Rattle.sizes.specs.declared.Edition.{Edition}
use Rattle.sizes.specs.declared.Edition.TheVariants.{One, Two}

-- the number of an edition
abbrev pub edition_number : Edition → ℕ
edition_number One = 1
edition_number Two = 2

-- the edition of a number, or its refusal
abbrev pub EditionOf : ℕ → Result Edition Refusal → Type 0
EditionOf n (Ok e) = (is_edition n ≡ true) × (edition_number e ≡ n)
EditionOf n (Err r) = (is_edition n ≡ false) × (r ≡ refusals.Edition)
