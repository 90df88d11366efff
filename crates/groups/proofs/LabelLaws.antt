-- The labels in an array: what each entry says.
-- Assumes nothing.
use Prim.Native.Nat.{ℕ, ◌≤◌, ◌<◌}
use native.Mathlib.Decide.{dec_lt}
use native.Mathlib.Omega.{arith}
use mathlib.Core.Logic.{◌⊎◌, inl, inr}
use mathlib.Core.Path.{◌≡◌, sym, ◌∙◌}
use mathlib.Core.Bool.{Bool, true, false, So, false≢true, ◌&&◌}
use mathlib.Core.List.{List}
use lib.Dec.{eqb}
use lib.ListN.{get_or, take, length-take, get_or-eq_default}
use lib.Seq.{get_or-take}
use borrow.Author.Tests.{ne_eqb}
use Rattle.grid.specs.Link.{here}
use Rattle.grid.proofs.LinkLaws.{Linked-end, Linked-start}
use Rattle.grid.specs.Lists.{upto, filter}
use Rattle.grid.specs.Grid.{Grid, size, cells_of}
use Rattle.grid.proofs.ListLaws.{split}
use Rattle.grid.proofs.AppendLaws.{filter-upto}
use Rattle.grid.proofs.FilledLaws.{filled_at, filled_past}
use Rattle.grid.specs.Cells.{empty, square, potential}
use Rattle.groups.specs.Groups.{Joined, labels, group}
use Rattle.groups.specs.declared.Members.{Members}
use Rattle.groups.specs.declared.Members.TheVariants.{Potential, Squares}
use Rattle.groups.specs.Arrays.{no_group, label_at, label_array, counts}
use Rattle.groups.proofs.GroupLaws.{label, label_linked, linked_label, label_own, label_least, linked_size}

module _ (g : Grid) (p : ℕ → Bool) where
  -- an entry of the grid
  pub label_at_lem : (i : ℕ) → i < size g → get_or (label_array g p) i 0 ≡ label_at g p i
  unfolding label_array cells_of
  label_at_lem i h = filled_at no_group (label_at g p) (size g) i h

  -- a cell that passes has its group's name
  pub label_in : (i : ℕ) → i < size g → So (p i) → get_or (label_array g p) i 0 ≡ label g p i
  unfolding label_at
  label_in i h o = label_at_lem i h ∙ rw o

  -- a cell that does not pass has none
  pub label_out : (i : ℕ) → i < size g → p i ≡ false → get_or (label_array g p) i 0 ≡ no_group
  unfolding label_at
  label_out i h o = label_at_lem i h ∙ rw o

  -- and so has every entry behind the grid
  pub label_behind : (i : ℕ) → size g ≤ i → i < 1024 → get_or (label_array g p) i 0 ≡ no_group
  unfolding label_array cells_of
  label_behind i h k = filled_past no_group (label_at g p) (size g) i h k

  -- the cells of the group named f
  pub label_test : (i f : ℕ) → i < size g → f < 1024 → eqb (get_or (label_array g p) i 0) f ≡ (p i && eqb (label g p i) f)
  label_test i f h k = go (split (p i))
    where
      go : (p i ≡ true) ⊎ (p i ≡ false) → eqb (get_or (label_array g p) i 0) f ≡ (p i && eqb (label g p i) f)
      go (inl o) = rw (label_in i h o, o)
      go (inr o) = rw (label_out i h o, o) (ne_eqb no_group f (λ e. omega (arith, e)))

  pub label_group : (f : ℕ) → f < 1024 → filter (λ i. eqb (get_or (label_array g p) i 0) f) (upto (size g)) ≡ group g p (labels g p) f
  unfolding group cells_of
  label_group f k = filter-upto _ _ (size g) (λ i h. label_test i f h k)

  module _ (fits : size g ≤ 1024) where
    -- the cell i has a name exactly when it is on the grid and passes
    pub named_passes : (i : ℕ) → i < 1024 → get_or (label_array g p) i 0 < no_group → (i < size g) × So (p i)
    named_passes i h l = go (dec_lt i (size g)) (split (p i))
      where
        go : Dec (i < size g) → (p i ≡ true) ⊎ (p i ≡ false) → (i < size g) × So (p i)
        go (yes k) (inl o) = (k, o)
        go (yes k) (inr o) = absurd (omega (arith, label_out i k o))
        go (no k) o = absurd (omega (arith, label_behind i (omega (arith, k)) h))

    pub passes_named : (i : ℕ) → i < size g → So (p i) → get_or (label_array g p) i 0 < no_group
    passes_named i h o = omega (arith, label_in i h o, label_least g p i i h h (here o))

  -- one name exactly when joined
  pub Joined-name : (i j : ℕ) → i < size g → Joined g p i j → get_or (label_array g p) i 0 ≡ get_or (label_array g p) j 0
  Joined-name i j h n = label_in i h (Linked-start n) ∙ label_linked g p i j h n ∙ sym (label_in j (linked_size g p h n) (Linked-end n))

  pub name_Joined : (i j : ℕ) → i < size g → j < size g → So (p i) → So (p j) → get_or (label_array g p) i 0 ≡ get_or (label_array g p) j 0 → Joined g p i j
  name_Joined i j h k o q e = linked_label g p i j h k o (sym (label_in i h o) ∙ e ∙ label_in j k q)

  -- the name is a cell of the group, and its least
  pub name_own : (i : ℕ) → i < size g → So (p i) → Joined g p i (get_or (label_array g p) i 0)
  name_own i h o = rw (label_in i h o) (label_own g p i h o)

  pub name_least : (i j : ℕ) → i < size g → Joined g p i j → get_or (label_array g p) i 0 ≤ j
  name_least i j h n = omega (arith, label_in i h (Linked-start n), label_least g p i j h (linked_size g p h n) n)

-- a cell counts by its own entry
pub counts-take : (m : Members) (cells : List ℕ) (n i : ℕ) → i < n → counts m (take n cells) i ≡ counts m cells i
unfolding counts potential empty square
counts-take Potential cells n i h = rw (get_or-take n cells i 0 h)
counts-take Squares cells n i h = rw (get_or-take n cells i 0 h)

-- and only cells of the grid count
pub counts_below : (m : Members) (cells : List ℕ) (n i : ℕ) → So (counts m (take n cells) i) → i < n
unfolding counts potential empty square
counts_below m cells n i o = go (dec_lt i n)
  where
    past : (m : Members) → get_or (take n cells) i 0 ≡ 0 → counts m (take n cells) i ≡ false
    past Potential e = rw e
    past Squares e = rw e

    go : Dec (i < n) → i < n
    go (yes h) = h
    go (no h) = absurd (false≢true (sym (past m (get_or-eq_default (take n cells) 0 {n = i} (simp length-take (omega (arith, h))))) ∙ o))
