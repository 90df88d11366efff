-- Sizes as bytes: each 16-bit number is two bytes, the most significant first.
-- Assumes nothing.
use Rattle.std.specs.Prelude.{ℕ, ◌+◌, ◌*◌, List, [], ◌∷◌}
use Rattle.record.specs.Record.{Puzzle, Outcome, ok, refused, ◌>>=◌}
use Rattle.record.specs.Leaf.{Range, sizes_of}

-- the numbers in the bytes; an odd byte is a list that ends inside a range
unfoldable pub numbers_in : List ℕ → Outcome (List ℕ)
numbers_in [] = ok []
numbers_in (x ∷ []) = refused 22
numbers_in (x ∷ y ∷ bytes) =
    numbers_in bytes >>= λ ns.
    ok ((x * 256 + y) ∷ ns)

-- the sizes in the bytes, beside arrow cells of a puzzle
unfoldable pub sizes_in : Puzzle → List ℕ → Outcome (List Range)
sizes_in p bytes =
    numbers_in bytes >>= λ ns.
    sizes_of p ns
