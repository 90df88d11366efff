-- Arrow cells, and the pairs of squares of an arrow with none between them.
-- Assumes nothing.
use Rattle.std.specs.Prelude.{ℕ, suc, ◌+◌, ◌≡◌, true, false, cond, length}
use mathlib.Core.List.{List, [], ◌∷◌, ◌++◌, Memᴰ}
use Rattle.grid.specs.Cells.{square}
pub use Rattle.record.specs.Arrows.{OnArrow}
unfoldable pub use Rattle.record.specs.Arrows.{on_arrow}

-- two squares of an arrow with none between them
pub record Pair : Type 0 where
  pub last : ℕ
  pub between : List ℕ
  pub cur : ℕ

-- the pairs of an arrow after the square i, with the cells passed since
unfoldable pub pairs_from : List ℕ → ℕ → List ℕ → List ℕ → List Pair
pairs_from cells i passed [] = []
pairs_from cells i passed (j ∷ js) =
    cond (square cells j)
    (record { last = i; between = passed; cur = j } ∷ pairs_from cells j [] js)
    (pairs_from cells i (passed ++ (j ∷ [])) js)

-- the pairs of an arrow, in arrow order
unfoldable pub pairs : List ℕ → List ℕ → List Pair
pairs cells [] = []
pairs cells (i ∷ js) = cond (square cells i) (pairs_from cells i [] js) (pairs cells js)

-- the same in meaning: p is two squares of the arrow a with none between them
pub record Parted (cells a : List ℕ) (p : Pair) : Type 0 where
  pub before : List ℕ
  pub behind : List ℕ
  -- the arrow is its parts
  pub whole : a ≡ before ++ (p.last ∷ (p.between ++ (p.cur ∷ behind)))
  pub first : square cells p.last ≡ true
  pub second : square cells p.cur ≡ true
  pub none : (k : ℕ) → Memᴰ k p.between → square cells k ≡ false

module _ {cells a : List ℕ} {p : Pair} (q : Parted cells a p) where
  -- the position on the arrow of the first of the pair
  abbrev pub pos_last : ℕ
  pos_last = length q.before

  -- the position of the second
  abbrev pub pos_cur : ℕ
  pos_cur = suc (pos_last + length p.between)
