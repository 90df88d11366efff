-- A reason has at most 3 × H × W + 1 literals.
-- Assumes nothing.
use Prim.Native.Nat.{ℕ, zero, suc, ◌+◌, ◌*◌, ◌≤◌}
use native.Mathlib.Omega.{arith}
use mathlib.Core.Path.{◌≡◌, refl}
use mathlib.Core.Bool.{Bool, true, false, cond, ◌&&◌, not}
use mathlib.Core.List.{List, [], ◌∷◌, ◌++◌, Memᴰ}
use mathlib.Core.Option.{none, some}
use Rattle.std.proofs.Math.Option.{none-ne-some}
use lib.Dec.{eqb}
use lib.ListN.{length, length-append}
use Rattle.grid.proofs.ListLaws.{filter-length, length-tail, length-init, flat_map-mem}
use Rattle.grid.proofs.GridLaws.{cells_length}
use Rattle.grid.specs.Lists.{filter, any, flat_map, tail, init, last}
use Rattle.grid.specs.Grid.{Grid, size, cells_of, touches}
use Rattle.record.specs.Record.{Puzzle, read_record, ok}
use Rattle.record.proofs.RecordLaws.{record_Valid}
use Rattle.record.proofs.FreshLaws.{one_length, arrows_length}
use Rattle.grid.specs.Cells.{Literal, square, empty, potential}
use Rattle.groups.proofs.ArrowLaws.{pairs-Parted, pos_below}
use Rattle.groups.specs.Groups.{labels, group, names}
use Rattle.groups.specs.Arrows.{on_arrow, Pair, pairs}
use Rattle.kinds.specs.Kinds.{View, view, view_with}
use Rattle.literals.proofs.Pass.{each-length}
use Rattle.units.specs.Units.{reason1_at, reason1}
use Rattle.paths.specs.Paths.{Entry, reason2_at, reason2, path, parent, list_from, way}
use Rattle.literals.specs.Literals.{Found, or_else, reason_if, first_found_of, each}
use Rattle.growth.specs.Growth.{block_name, reason_grow, reason3_at, gap, reason_shrink, reason4_at, reason4a_at, reason4b_at, reason34}
use Rattle.reasons.specs.Reasons.{find_reason}
use Rattle.kinds.proofs.Lengths.{block-length, fence-length}
use Rattle.record.specs.Leaf.{Range, Leaf}
use Rattle.sized.specs.Sized.{reason_low, reason_high, reason5_at, reason5}

-- a reason of this length at most
Short : ℕ → Found → Type 0
Short n r = (l : List Literal) → r ≡ some l → length l ≤ n

some-Short : (n : ℕ) (r : List Literal) → length r ≤ n → Short n (some r)
unfolding Short
some-Short n r h l e = let q : r ≡ l = cc in rw (← q) h

none-Short : (n : ℕ) → Short n none
unfolding Short
none-Short n l e = absurd (none-ne-some l e)

or_else-Short : (n : ℕ) (a b : Found) → Short n a → Short n b → Short n (or_else a b)
unfolding or_else
or_else-Short n none b h k = k
or_else-Short n (some r) b h k = h

first_of-Short : {A : Type 0} (n : ℕ) (f : A → Found) (l : List A) → ((x : A) → Memᴰ x l → Short n (f x)) → Short n (first_found_of f l)
unfolding first_found_of
first_of-Short n f [] h = none-Short n
first_of-Short n f (x ∷ xs) h = or_else-Short n (f x) (first_found_of f xs) (h x (Memᴰ.head refl)) (first_of-Short n f xs (λ y m. h y (Memᴰ.tail m)))

reason_if-Short : (n : ℕ) (t : Bool) (r : List Literal) → length r ≤ n → Short n (reason_if t r)
unfolding reason_if
reason_if-Short n true r h = some-Short n r h
reason_if-Short n false r h = none-Short n

path-length : (k : ℕ) (cs : List Entry) (a b : ℕ) → length (path k cs a b) ≤ suc k
unfolding path
path-length zero cs a b = omega arith
path-length (suc k) cs a b = go (eqb a b) (path k cs (parent cs a) b) (path-length k cs (parent cs a) b)
  where
    go : (t : Bool) (r : List ℕ) → length r ≤ suc k → length (cond t (a ∷ []) (a ∷ r)) ≤ suc (suc k)
    go true r h = omega arith
    go false r h = omega arith

-- the bound
abbrev bound : Grid → ℕ
bound g = 3 * size g + 1

module _ (p : Puzzle) (cells : List ℕ) where
  abbrev g : Grid
  g = p.grid

  abbrev arrows : List (List ℕ)
  arrows = p.arrows

  length1 : (c : List ℕ) → length (each 0 (filter (λ i. empty cells i && touches g c i) (cells_of g)) ++ each 1 (last 0 (filter (square cells) c) ∷ [])) ≤ bound g
  length1 c = rw (length-append, each-length, each-length) (omega (arith, filter-length (λ i. empty cells i && touches g c i) (cells_of g), cells_length g))

  short1 : Short (bound g) (reason1 p cells)
  unfolding reason1 reason1_at
  short1 = first_of-Short (bound g) _ (names g (potential cells) (labels g (potential cells))) λ f m. at (group g (potential cells) (labels g (potential cells)) f)
    where
      at : (c : List ℕ) → Short (bound g) (reason1_at p cells c)
      at c = reason_if-Short (bound g) (any (square cells) c && not (any (on_arrow arrows) c)) _ (length1 c)

  short2 : Short (bound g) (reason2 p cells)
  unfolding reason2 reason2_at
  short2 = first_of-Short (bound g) _ (names g (square cells) (labels g (square cells))) λ f m. at (filter (on_arrow arrows) (group g (square cells) (labels g (square cells)) f))
    where
      at : (c : List ℕ) → Short (bound g) (reason2_at g cells c)
      at [] = none-Short (bound g)
      at (a ∷ []) = none-Short (bound g)
      at (a ∷ b ∷ c) =
          some-Short (bound g) (each 1 (way g cells a b)) (rw each-length (omega (arith, path-length (size g) (list_from g cells b) a b)))

-- a pair whose gap is no longer than the grid is large
module _ (v : View) (e : Pair) (h : length e.between ≤ size v.grid) where
  grow_length : length (reason_grow v e) ≤ bound v.grid
  unfolding reason_grow
  grow_length = rw (length-append, length-append, each-length, each-length) (omega (arith, block-length v (block_name v e.last), fence-length v (block_name v e.cur)))

  short3 : Short (bound v.grid) (reason3_at v e)
  unfolding reason3_at
  short3 = reason_if-Short (bound v.grid) _ (reason_grow v e) grow_length

  shrink_length : length (reason_shrink v e) ≤ bound v.grid
  unfolding reason_shrink gap
  shrink_length =
      simp (length-append, each-length) (omega (
        arith,
        block-length v (block_name v e.cur),
        fence-length v (block_name v e.last),
        filter-length (empty v.cells) (tail (init e.between)),
        length-tail (init e.between),
        length-init e.between,
      ))

  short4 : (k : ℕ) → Short (bound v.grid) (reason4_at v e k)
  unfolding reason4_at reason4a_at reason4b_at
  short4 k = or_else-Short (bound v.grid) _ _ (reason_if-Short (bound v.grid) _ (reason_grow v e) grow_length) (by_edition (eqb k 1))
    where
      by_edition : (t : Bool) → Short (bound v.grid) (cond t (reason4b_at v e) none)
      by_edition true = reason_if-Short (bound v.grid) _ (reason_shrink v e) shrink_length
      by_edition false = none-Short (bound v.grid)

-- a sized cell
module _ (v : View) (q : Range) where
  short5 : Short (bound v.grid) (reason5_at v q)
  unfolding reason5_at reason_low reason_high
  short5 = or_else-Short (bound v.grid) _ _
      (reason_if-Short (bound v.grid) _ _ (simp (length-append, each-length) (omega (arith, fence-length v (block_name v q.cell)))))
      (reason_if-Short (bound v.grid) _ _ (rw each-length (omega (arith, block-length v (block_name v q.cell)))))

-- a pair's cells lie on an arrow
pairs-length : (cells a : List ℕ) (p : Pair) → Memᴰ p (pairs cells a) → length p.between ≤ length a
pairs-length cells a p m = omega (arith, pos_below cells a p (pairs-Parted cells a p m))

-- a reason is no longer than the bound, if no arrow is longer than the grid
pub reason_length : (l : Leaf) (cells : List ℕ) → ((a : List ℕ) → Memᴰ a l.puzzle.arrows → length a ≤ size l.puzzle.grid)
    → (r : List Literal) → find_reason l cells ≡ some r → length r ≤ 3 * size l.puzzle.grid + 1
unfolding find_reason reason34 reason5 Short view view_with
reason_length l cells h =
    or_else-Short (bound p.grid) _ _ (short1 p cells) (or_else-Short (bound p.grid) _ _ (short2 p cells)
    (or_else-Short (bound p.grid) _ _
    (or_else-Short (bound p.grid) _ _ (first_of-Short (bound p.grid) (reason3_at v) ps (λ e m. short3 v e (fit e m))) (first_of-Short (bound p.grid) (λ k. reason4_at v k l.edition) ps (λ k m. short4 v k (fit k m) l.edition)))
    (first_of-Short (bound p.grid) (reason5_at v) _ (λ q _. short5 v q))))
  where
    p : Puzzle
    p = l.puzzle

    v : View
    v = view p cells

    ps : List Pair
    ps = flat_map (pairs cells) p.arrows

    fit : (e : Pair) → Memᴰ e ps → length e.between ≤ size p.grid
    fit e m = let r = flat_map-mem (pairs cells) p.arrows m in omega (arith, pairs-length cells r.0 e r.2, h r.0 r.1)

-- a reason found on a record that is read fits the buffer
pub found_length : (l : Leaf) (s : List ℕ) → read_record s ≡ ok l.puzzle → (cells : List ℕ) (r : List Literal)
    → find_reason l cells ≡ some r → length r ≤ 3 * size l.puzzle.grid + 1
found_length l s k cells r f =
    reason_length l cells (λ a m. omega (arith, one_length l.puzzle.arrows a m, arrows_length l.puzzle (record_Valid s k))) r f
