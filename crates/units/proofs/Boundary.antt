-- The literals of reason 1: the last cell that passes, and what they are of a potential group.
-- Assumes nothing.
use Prim.Native.Nat.{ℕ, ◌+◌, ◌≤◌, ◌<◌}
use native.Mathlib.Omega.{arith}
use mathlib.Core.Path.{◌≡◌, refl, sym, ap, ◌∙◌}
use mathlib.Core.Bool.{Bool, true, false, ◌&&◌}
use mathlib.Core.List.{List, [], ◌∷◌, ◌++◌, append-nil, Memᴰ}
use lib.Dec.{eqb}
use lib.ListN.{get_or, take}
use lib.Seq.{get_or-take}
use Rattle.grid.specs.Lists.{upto, any, filter, last, member}
use Rattle.grid.specs.Grid.{Grid, size, cells_of, neighbours, touches}
use Rattle.grid.proofs.ListLaws.{filter-mem, upto-mem}
use Rattle.grid.proofs.GridLaws.{beside, on_grid}
use Rattle.grid.proofs.AppendLaws.{last_more, any_agree, filter-upto, upto_more, filter_more, filter-filter, member-filter}
use Rattle.grid.specs.Cells.{empty, potential, square}
use Rattle.groups.specs.Groups.{labels, group}
use Rattle.groups.specs.Arrays.{label_array}
use Rattle.groups.proofs.LabelLaws.{label_test, label_group}
use Rattle.literals.specs.Literals.{each}
use Rattle.literals.specs.Inside.{Wrote}
use Rattle.units.specs.Arrays.{boundary_of}

-- ---- the last cell that passes: a loop from behind

module _ (t : ℕ → Bool) (i : ℕ) where
  pub last_hit : t i ≡ true → last 0 (filter t (upto (i + 1))) ≡ i
  last_hit e = rw (upto_more i, filter_more t (upto i) i, e) (last_more 0 (filter t (upto i)) i)

  pub last_miss : t i ≡ false → last 0 (filter t (upto (i + 1))) ≡ last 0 (filter t (upto i))
  last_miss e = rw (upto_more i, filter_more t (upto i) i, e, append-nil (filter t (upto i))) refl

  last_low : (d : ℕ) (l : List ℕ) → d < 1024 → ((x : ℕ) → Memᴰ x l → x < 1024) → last d l < 1024
  unfolding last
  last_low d [] h k = h
  last_low d (x ∷ xs) h k = last_low x xs (k x (Memᴰ.head refl)) (λ y m. k y (Memᴰ.tail m))

  -- it is a cell
  pub last_cell : i ≤ 1024 → last 0 (filter t (upto i)) < 1024
  last_cell h = last_low 0 (filter t (upto i)) (omega arith) (λ x m. omega (arith, upto-mem i (filter-mem t (upto i) m).0))

-- ---- what they are of a group

-- a cell touches a group by its neighbours' labels
pub touches_by : (g : Grid) (p : ℕ → Bool) (f i : ℕ) → i < size g → f < 1024 → any (λ j. eqb (get_or (label_array g p) j 0) f) (neighbours g i) ≡ touches g (group g p (labels g p) f) i
unfolding touches group cells_of
touches_by g p f i h k = any_agree _ (λ j. member j (group g p (labels g p) f)) (neighbours g i)
    (λ j m. let l = on_grid g h (beside g i m) in label_test g p j f l k ∙ sym (member-filter (λ i. p i && eqb (get_or (labels g p) i 0) f) (size g) j l))

module _ (g : Grid) (cells groups : List ℕ) (f : ℕ) (a : groups ≡ label_array g (potential (take (size g) cells))) (h : f < 1024) where
  -- the empty cells that touch the group
  pub empties_are : filter (λ i. eqb (get_or cells i 0) 0 && any (λ j. eqb (get_or groups j 0) f) (neighbours g i)) (upto (size g))
      ≡ filter (λ i. empty (take (size g) cells) i && touches g (group g (potential (take (size g) cells)) (labels g (potential (take (size g) cells))) f) i) (cells_of g)
  unfolding cells_of empty
  empties_are = filter-upto _ _ (size g) (λ i l. rw (a, touches_by g (potential (take (size g) cells)) f i l h, get_or-take (size g) cells i 0 l) refl)

  -- its squares
  squares_are : filter (λ i. eqb (get_or groups i 0) f && eqb (get_or cells i 0) 1) (upto (size g))
      ≡ filter (square (take (size g) cells)) (group g (potential (take (size g) cells)) (labels g (potential (take (size g) cells))) f)
  unfolding square
  squares_are =
      let p = potential (take (size g) cells) in
      sym (ap (filter (square (take (size g) cells))) (sym (label_group g p f h)) ∙ filter-filter (square (take (size g) cells)) (λ i. eqb (get_or (label_array g p) i 0) f) (upto (size g))
      ∙ filter-upto _ _ (size g) (λ i l. rw (a, get_or-take (size g) cells i 0 l) refl))

  -- all of reason 1
  pub boundary_are : {before after : List ℕ} {count x : ℕ}
      → Wrote (each 0 (filter (λ i. eqb (get_or cells i 0) 0 && any (λ j. eqb (get_or groups j 0) f) (neighbours g i)) (upto (size g))) ++ ((x, 1) ∷ [])) before after count
      → x ≡ last 0 (filter (λ i. eqb (get_or groups i 0) f && eqb (get_or cells i 0) 1) (upto (size g))) → Wrote (boundary_of g (take (size g) cells) f) before after count
  unfolding each
  boundary_are w e = rw (e, squares_are, empties_are) at w
