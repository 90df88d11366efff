-- The size of an arrow block is the count of its squares.
-- Assumes nothing.
use Prim.Native.Nat.{ℕ, ◌≤◌, ◌<◌}
use native.Mathlib.Decide.{dec_lt}
use native.Mathlib.Omega.{arith}
use mathlib.Core.Path.{◌≡◌, refl, sym, ap, ◌∙◌, subst}
use mathlib.Core.Bool.{Bool, So, ◌&&◌}
use mathlib.Core.List.{List}
use lib.Dec.{eqb}
use lib.ListN.{length, get_or, get_or-eq_default}
use borrow.Author.Tests.{eqb-true, eq-eqb}
use Rattle.std.proofs.lemmas.Bool.{and_from}
use Rattle.grid.specs.Lists.{upto}
use Rattle.grid.specs.Grid.{Grid, size, cells_of}
use Rattle.grid.proofs.ListLaws.{So-false, and-true, upto-mem}
use Rattle.grid.proofs.AppendLaws.{same_test, filter-filter, filter_agree}
use Rattle.grid.proofs.FilledLaws.{filled_past, filled_length}
use Rattle.record.specs.Record.{Puzzle}
use Rattle.grid.specs.Cells.{empty, square}
use Rattle.groups.specs.Groups.{labels, group}
use Rattle.groups.specs.Arrays.{tally_of}
use Rattle.groups.proofs.GroupLaws.{label_own, label_linked}
use Rattle.kinds.specs.Kinds.{Kind, vacant, barrier, floating, in_block, neighbour, is_in, has, arrow_block, blocks_touched, kind_at, View, view, view_with, block}
use Rattle.kinds.specs.Arrays.{kind_code, kind_array}
use Rattle.kinds.specs.Inside.{Held}
use Rattle.grid.proofs.CellLaws.{square_not_empty}
use Rattle.kinds.proofs.Bridge.{in_of}
use Rattle.kinds.proofs.BlockArrays.{kind_get}
use Rattle.reach.proofs.Reaches.{code_get}

-- a kind with the number 1 is in some arrow block
in_some : (k : Kind) → kind_code k ≡ 1 → (e : ℕ) × So (is_in e k)
unfolding kind_code is_in
in_some vacant e = absurd (omega (arith, e))
in_some barrier e = absurd (omega (arith, e))
in_some floating e = absurd (omega (arith, e))
in_some (in_block f) e = (f, eq-eqb f f refl)
in_some (neighbour f) e = absurd (omega (arith, e))

module _ (p : Puzzle) (small : size p.grid ≤ 1024) (cells K O : List ℕ) (H : Held (view p cells) K O) (f : ℕ) (block_is : get_or K f 0 ≡ 1) where
  abbrev g : Grid
  g = p.grid

  abbrev v : View
  v = view p cells

  abbrev kind : ℕ → Kind
  kind i = get_or v.kinds i vacant

  abbrev label : ℕ → ℕ
  label i = get_or (labels g (square cells)) i 0

  abbrev arrowed : ℕ → Bool
  arrowed = arrow_block p cells (labels g (square cells))

  abbrev listed : ℕ → List ℕ
  listed = blocks_touched p cells (labels g (square cells))

  -- the name of a block is a cell
  pub block_cell : f < size g
  unfolding kind_array view view_with cells_of
  block_cell = by (dec_lt f (size g))
    where
      none : (Dec (f < 1024)) → size g ≤ f → get_or K f 0 ≡ 0
      none (yes h) l = ap (λ (x : List ℕ). get_or x f 0) H.kind ∙ filled_past 0 (λ j. kind_code (kind j)) (size g) f l h
      none (no h) l = ap (λ (x : List ℕ). get_or x f 0) H.kind ∙ get_or-eq_default (kind_array v) 0 {n = f} (omega (arith, filled_length 0 (λ j. kind_code (kind j)) (size g) small))

      by : Dec (f < size g) → f < size g
      by (yes l) = l
      by (no l) = absurd (omega (arith, block_is, none (dec_lt f 1024) (omega arith)))

  -- what the kind of a cell of the block e says
  in_block_lem : (i e : ℕ) → i < size g → So (is_in e (kind i)) → So (square cells i) × So (arrowed (label i)) × (label i ≡ e)
  unfolding kind_at view view_with
  in_block_lem i e l h = in_of (empty cells i) (square cells i) (arrowed (label i)) (label i) (listed i) e (subst (λ k. So (is_in e k)) (kind_get p cells (labels g (square cells)) i l) h)

  -- a square of an arrow block has the kind
  block_in : (i : ℕ) → i < size g → So (square cells i) → So (arrowed (label i)) → So (is_in (label i) (kind i))
  unfolding kind_at is_in view view_with
  block_in i l s a =
      ap (is_in (label i)) (kind_get p cells (labels g (square cells)) i l)
      ∙ rw (So-false (empty cells i) (square_not_empty cells i s), s, a) (eq-eqb (label i) (label i) refl)

  -- f is the name of a square's block: it is an arrow block
  named : (i : ℕ) → i < size g → So (square cells i) → label i ≡ f → So (arrowed f)
  named i l s e =
      let own : label f ≡ f = subst (λ x. label x ≡ x) e (sym (label_linked g (square cells) i (label i) l (label_own g (square cells) i l s))) in
      let r = in_some (kind f) (sym (code_get p small cells K O H f block_cell) ∙ block_is) in
      subst (λ x. So (arrowed x)) own (in_block_lem f r.0 block_cell r.1).1

  pub block_size : length (block v f) ≡ tally_of g (square cells) (square cells) f
  unfolding block has group cells_of view view_with
  block_size = ap length (filter_agree (λ i. is_in f (kind i)) (λ i. (square cells i && eqb (label i) f) && square cells i) (upto (size g)) (λ i m. same i (upto-mem (size g) m))
      ∙ sym (filter-filter (square cells) (λ i. square cells i && eqb (label i) f) (upto (size g))))
    where
      same : (i : ℕ) → i < size g → is_in f (kind i) ≡ ((square cells i && eqb (label i) f) && square cells i)
      same i l = same_test (is_in f (kind i)) ((square cells i && eqb (label i) f) && square cells i)
          (λ h. let q = in_block_lem i f l h in and_from _ _ (and_from _ _ q.0 (eq-eqb (label i) f q.2)) q.0)
          (λ h. let q = and-true (square cells i && eqb (label i) f) _ h in
          let e : label i ≡ f = eqb-true (label i) f (and-true (square cells i) _ q.0).1 in
          subst (λ x. So (is_in x (kind i))) e (block_in i l q.1 (rw e (named i l q.1 e))))
