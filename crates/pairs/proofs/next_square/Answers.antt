-- `pairs::next_square` meets its contract: no place before the one found holds a square.
-- Assumes nothing.
use native.Mathlib.Omega.{arith}
use Rattle.std.proofs.Common.{rules, tests, ◌≡◌, ℕ, ◌≤◌, ◌<◌, false, true, List, get_or, Option, None, Some, MatchOption}
use Rattle.std.proofs.lemmas.Iterator.{first_from_Range}
use Rattle.std.proofs.lemmas.List.{get_or_read}
use Rattle.grid.specs.Cells.{square}
use Rattle.growth.specs.Pairs.{NextSquare}
use Rattle.pairs.proofs.next_square.Goals as goal

next : (cells arrows : List ℕ) (from to : ℕ) (r : Option ℕ) → from ≤ to
    → MatchOption r ((k : ℕ) → from ≤ k → k < to → square cells (get_or arrows k 0) ≡ false)
    (λ i. (from ≤ i) × (i < to) × (square cells (get_or arrows i 0) ≡ true) × ((k : ℕ) → from ≤ k → k < i → square cells (get_or arrows k 0) ≡ false))
    → MatchOption r (NextSquare cells arrows from to to) (λ k. (k < to) × NextSquare cells arrows from to k)
next cells arrows from to None order x = record { low = order; high = omega arith; none = x; some = λ h. absurd (omega (arith, h)) }
next cells arrows from to (Some i) order x = (x.1, record { low = x.0; high = omega (arith, x.1); none = x.3; some = λ _. x.2 })

pub returns : goal.returns
unfolding square
returns c =
    let cells = c.args.cells.now in
    let arrows = c.args.arrow.now in
    next cells arrows _ _ _ c.requires.from
    (first_from_Range _ _ _ _ (λ k. square cells (get_or arrows k 0) ≡ true) (λ k. square cells (get_or arrows k 0) ≡ false) c.find.ensures.ran
    (λ x q k. grind (arith, tests, get_or_read))
    (λ x q k. (search rules, grind (arith, tests, get_or_read))))
