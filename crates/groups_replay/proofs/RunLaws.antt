-- Laws of counting the arrow blocks of a board one after another.
-- Assumes nothing.
use Prim.Native.Nat.{ℕ, ◌+◌, ◌≤◌, ◌<◌}
use native.Mathlib.Numerals.{add-one}
use mathlib.Core.Bool.{Bool, not, cond}
use mathlib.Core.Path.{◌≡◌, refl, ap, ◌∙◌}
use mathlib.Core.List.{List, [], ◌∷◌}
use lib.Dec.{eqb}
use lib.ListN.{length, get_or, take, drop, drop_of_length-le}
use lib.Seq.{drop-cons}
use borrow.Author.Tests.{eq-eqb, ne_eqb}
use Rattle.grid.specs.Lists.{filter}
use Rattle.grid.specs.Grid.{Grid, size, cells_of}
use Rattle.grid.proofs.ListLaws.{filter-mem, upto-mem}
use Rattle.grid.proofs.AppendLaws.{filter_agree}
use Rattle.groups.specs.Groups.{labels, names}
use Rattle.groups.specs.Arrays.{tally_of, GroupTable}
use Rattle.groups_replay.specs.Blocks.{arrowed_of}

module _ (arrowed fs : List ℕ) (k : ℕ) where
  left : k < length fs → arrowed_of arrowed (drop k fs) ≡ cond (not (eqb (get_or arrowed (get_or fs k 0) 0) 0)) (get_or fs k 0 ∷ arrowed_of arrowed (drop (k + 1) fs)) (arrowed_of arrowed (drop (k + 1) fs))
  left h = rw (add-one, drop-cons fs k 0) refl

  -- of the names from one on that has arrow cells, it is the first
  pub left_next : k < length fs → (get_or arrowed (get_or fs k 0) 0 ≡ 0 → ⊥) → arrowed_of arrowed (drop k fs) ≡ get_or fs k 0 ∷ arrowed_of arrowed (drop (k + 1) fs)
  left_next h some = left h ∙ rw (ne_eqb _ 0 some) refl

  -- one that has none is passed over
  pub left_without : k < length fs → get_or arrowed (get_or fs k 0) 0 ≡ 0 → arrowed_of arrowed (drop k fs) ≡ arrowed_of arrowed (drop (k + 1) fs)
  left_without h none = left h ∙ rw (eq-eqb _ 0 none) refl

  -- behind the last none is left
  pub left_none : length fs ≤ k → arrowed_of arrowed (drop k fs) ≡ []
  left_none h = rw (drop_of_length-le fs h) refl

-- of the first cells in a table of groups, those with arrow cells are those of the groups that have one
pub names_arrowed : (g : Grid) (p : ℕ → Bool) {sq arrow : ℕ → Bool} {groups firsts squares arrowed : List ℕ} {count : ℕ} → GroupTable g p sq arrow groups firsts squares arrowed count
    → arrowed_of arrowed (take count firsts) ≡ filter (λ f. not (eqb (tally_of g p arrow f) 0)) (names g p (labels g p))
unfolding names cells_of
names_arrowed g p {arrow = arrow} {arrowed = arrowed} T =
    ap (arrowed_of arrowed) T.firsts_are
    ∙ filter_agree (λ f. not (eqb (get_or arrowed f 0) 0)) (λ f. not (eqb (tally_of g p arrow f) 0)) (names g p (labels g p)) (λ f m. ap (λ (k : ℕ). not (eqb k 0)) (T.arrowed_are.at f (upto-mem (size g) (filter-mem _ (cells_of g) m).0)))
