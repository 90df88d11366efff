-- Masks: what each entry says, and the marks that are a mask.
-- Assumes nothing.
use Prim.Native.Nat.{ℕ, ◌≤◌, ◌<◌}
use native.Mathlib.Decide.{dec_lt}
use native.Mathlib.Omega.{arith}
use mathlib.Core.Path.{◌≡◌, refl, sym, ap, ◌∙◌}
use mathlib.Core.Bool.{Bool, false, cond, ◌||◌}
use mathlib.Core.List.{List, [], ◌∷◌, Memᴰ}
use lib.Dec.{eqb}
use lib.ListN.{get_or, take, length-take}
use Rattle.std.specs.List.{All}
use Rattle.std.proofs.lemmas.List.{get_or_default, get_or-take}
use Rattle.grid.specs.Lists.{any, member}
use Rattle.grid.specs.Marks.{Marks}
use Rattle.grid.specs.Grid.{Grid, size, cells_of}
use Rattle.grid.proofs.ListLaws.{So-false, member-mem}
use Rattle.grid.proofs.FilledLaws.{filled_at, filled_past, filled_length, filled_is}
use Rattle.grid.proofs.AppendLaws.{any-append}
use Rattle.grid.proofs.MarkLaws.{Marks-same, mark_test}
use Rattle.record.specs.Problem.{arrow_cells}
use Rattle.groups.specs.Arrays.{mask_of}
use Rattle.groups.specs.Arrows.{on_arrow}

module _ (g : Grid) (p : ℕ → Bool) where
  -- the entry of a cell
  abbrev entry : ℕ → ℕ
  entry i = cond (p i) 1 0

  -- an entry of the grid, and one behind it
  pub mask_at : (i : ℕ) → i < size g → get_or (mask_of g p) i 0 ≡ entry i
  unfolding mask_of cells_of
  mask_at i h = filled_at 0 entry (size g) i h

  pub mask_behind : (i : ℕ) → size g ≤ i → i < 1024 → get_or (mask_of g p) i 0 ≡ 0
  unfolding mask_of cells_of
  mask_behind i h k = filled_past 0 entry (size g) i h k

  -- an entry of the grid is 1 exactly where the test passes
  pub mask_test : (i : ℕ) → i < size g → eqb (get_or (mask_of g p) i 0) 1 ≡ p i
  mask_test i h = ap (λ (x : ℕ). eqb x 1) (mask_at i h) ∙ mark_test (p i)

  -- no cell behind the grid passes: the mask is the marks
  module _ (small : size g ≤ 1024) (out : (i : ℕ) → size g ≤ i → p i ≡ false) where
    pub Marks-mask : {M : List ℕ} → Marks M p → M ≡ mask_of g p
    unfolding mask_of cells_of
    Marks-mask {M} k = filled_is 0 entry (size g) M small k.long (λ i l. k.at i (omega arith)) (λ i l m. k.at i m ∙ rw (out i l))

    pub mask_Marks : Marks (mask_of g p) p
    unfolding mask_of cells_of
    mask_Marks = record { long = filled_length 0 entry (size g) small; at = λ i h. by i h (dec_lt i (size g)) }
      where
        by : (i : ℕ) → i < 1024 → Dec (i < size g) → get_or (mask_of g p) i 0 ≡ entry i
        by i h (yes l) = mask_at i l
        by i h (no l) = mask_behind i (omega arith) h ∙ rw (out i (omega arith)) refl

-- a cell of some arrow is one of the arrows' cells
pub on_arrow_lem : (arrows : List (List ℕ)) (i : ℕ) → member i (arrow_cells arrows) ≡ on_arrow arrows i
unfolding arrow_cells on_arrow member
on_arrow_lem [] i = refl
on_arrow_lem (a ∷ rest) i = any-append (eqb i) a (arrow_cells rest) ∙ ap (λ (t : Bool). any (eqb i) a || t) (on_arrow_lem rest i)

-- the first places of a line of cells
pub line_cells : (l : List ℕ) (total : ℕ) → ((k : ℕ) → k < total → get_or l k 0 < 1024) → All (λ i. i < 1024) (take total l)
line_cells l total cells k d h =
    let low : k < total = omega (arith, h, length-take total l) in
    rw (get_or_default (take total l) k d 0 h, get_or-take total l k 0 low) (cells k low)

-- what `mark_arrow_cells` gives, where the line holds the arrows' cells
pub arrow_Marks : (g : Grid) (arrows : List (List ℕ)) {M : List ℕ} (l : List ℕ) → size g ≤ 1024 → l ≡ arrow_cells arrows → ((i : ℕ) → Memᴰ i l → i < size g)
    → Marks M (λ i. member i l) → M ≡ mask_of g (on_arrow arrows)
arrow_Marks g arrows l small e on k = Marks-mask g (on_arrow arrows) small out (Marks-same (λ i. member i l) (on_arrow arrows) (λ i _. same i) k)
  where
    same : (i : ℕ) → member i l ≡ on_arrow arrows i
    same i = ap (member i) e ∙ on_arrow_lem arrows i

    out : (i : ℕ) → size g ≤ i → on_arrow arrows i ≡ false
    out i h = sym (same i) ∙ So-false (member i l) (λ m. omega (arith, on i (member-mem i l m)))
