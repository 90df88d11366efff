-- `certain::lowest_undecided` meets its contract: the number that `find` gives is the first of an undecided cell.
-- Assumes nothing.
use Rattle.std.proofs.Common.{rules, tests, arith, ℕ, ◌<◌, ◌≤◌, ◌≡◌, List, length, get_or}
use mathlib.Core.Path.{sym, ◌∙◌}
use lib.ListN.{take}
use lib.Seq.{get_or-take, length-take-le}
use Rattle.std.specs.Prelude.{Option, Some, None, MatchOption}
use Rattle.std.proofs.lemmas.Iterator.{first_from_Range}
use Rattle.std.proofs.lemmas.List.{get_or_read}
use Rattle.certain.specs.Inside.{lowest_or}
use Rattle.certain.specs.Tree.{lowest}
use Rattle.certain.proofs.LowestLaws.{lowest_is, lowest_end}
use Rattle.certain.proofs.lowest_undecided.Goals as goal

-- the first of n cells that is undecided, or none
abbrev IsFirst : List ℕ → ℕ → Option ℕ → Type 0
IsFirst cells n r = MatchOption r ((k : ℕ) → 0 ≤ k → k < n → get_or cells k 0 ≡ 2 → ⊥)
    (λ i. (0 ≤ i) × (i < n) × (get_or cells i 0 ≡ 2) × ((k : ℕ) → 0 ≤ k → k < i → get_or cells k 0 ≡ 2 → ⊥))

first : (cells : List ℕ) (n : ℕ) → n ≤ length cells → (r : Option ℕ) → IsFirst cells n r → lowest_or n r ≡ lowest (take n cells)
first cells n long None x =
    let z = length-take-le n cells long in
    sym z ∙ lowest_end (take n cells) (λ j k q. x j (omega arith) (omega (arith, z, k)) (sym (get_or-take n cells j 0 (omega (arith, z, k))) ∙ q))
first cells n long (Some i) x =
    lowest_is (take n cells) i (omega (arith, length-take-le n cells long, x.1)) (λ j k q. x.3 j (omega arith) k (sym (get_or-take n cells j 0 (omega (arith, k, x.1))) ∙ q)) (get_or-take n cells i 0 x.1 ∙ x.2)

pub returns-clause-lowest : goal.returns-clause-lowest
returns-clause-lowest c =
    let cells = c.args.cells.now in
    first cells c.args.n (omega (arith, c.requires)) _ (first_from_Range _ _ _ _ (λ k. get_or cells k 0 ≡ 2) (λ k. get_or cells k 0 ≡ 2 → ⊥) c.find.ensures.ran
    (λ x q k. grind (arith, tests, get_or_read))
    (λ x q k. (search rules, grind (arith, tests, get_or_read))))
