-- What the functions for the fence promise each other.
-- Assumes nothing.
use Rattle.std.specs.Prelude.{ℕ, ◌+◌, ◌-◌, ◌%◌, ◌≤◌, ◌<◌, ◌≡◌, Bool, cond, ◌&&◌, not, List, ◌∷◌, ◌++◌, map, eqb, length, get_or, take, drop}
use Rattle.std.proofs.Math.Bool.{So}
use Rattle.grid.specs.Cells.{word}
use Rattle.grid.specs.Lists.{upto, any, filter}
use Rattle.grid.specs.Grid.{Grid, neighbours}
use Rattle.kinds.specs.Kinds.{View, fence}
use Rattle.kinds.specs.Inside.{of_block}

-- ---- the ordered part

-- the index of a literal's number
abbrev pub key : ℕ → ℕ
key x = x % 32768

-- p is the place of x among the first count numbers, by rising index
pub record Place (a : List ℕ) (count x p : ℕ) : Type 0 where
  pub within : p ≤ count
  pub before : 0 < p → key (get_or a (p - 1) 0) < key x
  pub behind : p < count → key x ≤ key (get_or a p 0)

-- the numbers from p to count stand one place on
pub record Shifted (a b : List ℕ) (p count : ℕ) : Type 0 where
  pub as_long : length b ≡ length a
  pub low : (k : ℕ) → k < p → get_or b k 0 ≡ get_or a k 0
  pub moved : (k : ℕ) → p ≤ k → k < count → get_or b (k + 1) 0 ≡ get_or a k 0
  pub high : (k : ℕ) → count < k → get_or b k 0 ≡ get_or a k 0

-- x stands at its place among the first numbers, or its index did so already; what is behind is as it was
pub data Inserted (a : List ℕ) (count x r : ℕ) (b : List ℕ) : Type 0 where
  old : {p : ℕ} → Place a count x p → p < count → key (get_or a p 0) ≡ key x → r ≡ count → b ≡ a → Inserted a count x r b
  new : {p : ℕ} → Place a count x p → (p < count → key (get_or a p 0) ≡ key x → ⊥) → r ≡ count + 1
      → take r b ≡ take p (take count a) ++ (x ∷ drop p (take count a)) → drop r b ≡ drop r a → length b ≡ length a → Inserted a count x r b

-- the number of the literal of cell i: 1 in an arrow block, 0 elsewhere
unfoldable pub lit_at : List ℕ → ℕ → ℕ
lit_at kinds i = cond (eqb (get_or kinds i 0) 1) (32768 + i) i

-- the first c numbers of the part are the literals of the cells below n that pass the test, rising; behind them the part is as in base
pub record Ordered (kinds : List ℕ) (n : ℕ) (base : List ℕ) (test : ℕ → Bool) (part : List ℕ) (c : ℕ) : Type 0 where
  pub list : take c part ≡ map (lit_at kinds) (filter test (upto n))
  pub number : c ≡ length (filter test (upto n))
  pub rest : drop c part ≡ drop c base
  pub long : length part ≡ length base
  pub room : n < length base
  pub small : n ≤ 1024

-- with a cell of an arrow block all its cells pass
abbrev pub Whole : List ℕ → List ℕ → (ℕ → Bool) → Type 0
Whole kinds owners test = (a b : ℕ) → So (test a) → get_or kinds a 0 ≡ 1 → get_or kinds b 0 ≡ 1 → get_or owners a 0 ≡ get_or owners b 0 → So (test b)

module _ (kinds owners : List ℕ) where
  -- cell j is in an arrow block other than f, and x is in the same
  unfoldable pub in_disturbing : ℕ → ℕ → ℕ → Bool
  in_disturbing f j x = eqb (get_or kinds j 0) 1 && not (eqb (get_or owners j 0) f) && of_block kinds owners (get_or owners j 0) x

-- a neighbour of cell i is marked
unfoldable pub touched : List ℕ → Grid → ℕ → Bool
touched marks g i = any (λ j. eqb (get_or marks j 0) 1) (neighbours g i)

module _ (cells kinds owners marks : List ℕ) (g : Grid) (f : ℕ) where
  -- cell i brings x into the fence of f, whose reach is marked: itself if it is empty, the other arrow blocks beside it if it is undecided
  unfoldable pub adds : ℕ → ℕ → Bool
  adds i x =
      cond (eqb (get_or kinds i 0) 0) (touched marks g i && eqb i x)
      (eqb (get_or cells i 0) 2 && touched marks g i && any (λ j. in_disturbing kinds owners f j x) (neighbours g i))

-- one of the first k cells brings x into the fence
unfoldable pub adds_among : (cells kinds owners marks : List ℕ) → Grid → ℕ → ℕ → ℕ → Bool
adds_among cells kinds owners marks g f k x = any (λ i. adds cells kinds owners marks g f i x) (upto k)

-- the fence of f in the part's first places, the rest as it was
pub record Fenced (v : View) (f : ℕ) (before after : List ℕ) (r : ℕ) : Type 0 where
  pub list : take r after ≡ map word (fence v f)
  pub number : r ≡ length (fence v f)
  pub rest : drop r after ≡ drop r before
  pub long : length after ≡ length before
