-- The marks that are computed are those of the reach.
-- Assumes nothing.
use Prim.Native.Nat.{ℕ, ◌*◌, ◌≤◌, ◌<◌}
use native.Mathlib.Omega.{arith}
use mathlib.Core.Path.{◌≡◌, refl, sym, ap, ◌∙◌}
use mathlib.Core.Bool.{Bool, false, So, cond, ◌&&◌, ◌||◌, or-false}
use mathlib.Core.List.{List}
use lib.Dec.{eqb}
use lib.ListN.{length, get_or}
use borrow.Author.Tests.{eqb-true, lt-ltb}
use Rattle.grid.specs.Lists.{upto, any}
use Rattle.grid.specs.Marks.{Marks}
use Rattle.grid.specs.Grid.{Grid, size, cells_of, neighbours}
use Rattle.grid.specs.Side.{sized}
use Rattle.grid.specs.Link.{here}
use Rattle.grid.proofs.ListLaws.{So-false, and-true, any-mem, upto-mem}
use Rattle.grid.proofs.GridLaws.{beside as side, on_grid}
use Rattle.grid.proofs.AppendLaws.{filter_agree, any_agree}
use Rattle.grid.proofs.FilledLaws.{filled_at, filled_same}
use Rattle.grid.proofs.MarkLaws.{Marks-same, mark_is}
use Rattle.record.specs.Record.{Puzzle}
use Rattle.groups.specs.Arrays.{mask_of}
use Rattle.groups.proofs.GroupLaws.{label_least}
use Rattle.groups.proofs.MarkLaws.{Marks-mask}
use Rattle.kinds.specs.Kinds.{Kind, vacant, barrier, floating, in_block, neighbour, is_floating, is_in, is_neighbour, has, View, view, view_with, float_near, in_reach, reach}
use Rattle.kinds.specs.Arrays.{kind_code, owner_by, kind_array, owner_array, reach_mask}
use Rattle.kinds.specs.Inside.{puzzle_with, Held}
use Rattle.reach.specs.Inside.{near_at, near_among, reaches, reaches_at, Reached, Reach}

-- ---- a kind by its number and owner

beside_by : (k : Kind) (m f : ℕ) → (eqb (kind_code k) 2 && eqb (owner_by m k) f) ≡ is_neighbour f k
unfolding kind_code owner_by is_neighbour
beside_by vacant m f = refl
beside_by barrier m f = refl
beside_by floating m f = refl
beside_by (in_block e) m f = refl
beside_by (neighbour e) m f = refl

floating_by : (k : Kind) (m x : ℕ) → (eqb (kind_code k) 4 && eqb (owner_by m k) x) ≡ (is_floating k && eqb m x)
unfolding kind_code owner_by is_floating
floating_by vacant m x = refl
floating_by barrier m x = refl
floating_by floating m x = refl
floating_by (in_block e) m x = refl
floating_by (neighbour e) m x = refl

reaches_by : (k : Kind) (m f : ℕ) (near : List ℕ) (b : Bool) → (So (is_floating k) → m < 1024) → (m < 1024 → eqb (get_or near m 0) 1 ≡ b)
    → reaches near f (kind_code k) (owner_by m k) ≡ (is_in f k || is_neighbour f k || (is_floating k && b))
unfolding kind_code owner_by is_in is_neighbour is_floating reaches
reaches_by vacant m f near b l e = refl
reaches_by barrier m f near b l e = refl
reaches_by floating m f near b l e = rw (lt-ltb m 1024 (l refl)) (e (l refl))
reaches_by (in_block x) m f near b l e = sym (or-false (eqb x f)) ∙ sym (or-false (eqb x f || false))
reaches_by (neighbour x) m f near b l e = sym (or-false (eqb x f))

-- ---- what the arrays of a view hold

module _ (p : Puzzle) (small : size p.grid ≤ 1024) (cells K O : List ℕ) (H : Held (view p cells) K O) where
  abbrev g : Grid
  g = p.grid

  abbrev v : View
  v = view p cells

  -- the kind of a cell, and the name of its floating group
  abbrev kind : ℕ → Kind
  kind i = get_or v.kinds i vacant

  abbrev float : ℕ → ℕ
  float i = get_or v.floats i 0

  pub code_get : (i : ℕ) → i < size g → get_or K i 0 ≡ kind_code (kind i)
  unfolding kind_array view view_with cells_of
  code_get i l = ap (λ (x : List ℕ). get_or x i 0) H.kind ∙ filled_at 0 (λ j. kind_code (kind j)) (size g) i l

  pub owner_get : (i : ℕ) → i < size g → get_or O i 0 ≡ owner_by (float i) (kind i)
  unfolding owner_array view view_with cells_of
  owner_get i l = ap (λ (x : List ℕ). get_or x i 0) H.owner ∙ filled_at 1024 (λ j. owner_by (float j) (kind j)) (size g) i l

  -- a floating group is named by a cell of the grid
  float_low : (i : ℕ) → i < size g → So (is_floating (kind i)) → float i < size g
  unfolding view view_with has
  float_low i l o = omega (arith, label_least g (has is_floating v.kinds) i i l l (here o))

  module _ (f : ℕ) where
    pub near_is : (m : ℕ) → near_among K O g f (size g) m ≡ float_near v f m
    unfolding near_among near_at float_near has cells_of view view_with
    near_is m = any_agree _ _ (upto (size g)) (λ i x. at i (upto-mem (size g) x))
      where
        inner : (i : ℕ) → i < size g → any (λ j. eqb (get_or K j 0) 4 && eqb (get_or O j 0) m) (neighbours g i) ≡ any (λ j. is_floating (kind j) && eqb (float j) m) (neighbours g i)
        inner i l = any_agree _ _ (neighbours g i) (λ j x.
            let q = on_grid g l (side g i x) in
            rw (code_get j q, owner_get j q) (floating_by (kind j) (float j) m))

        at : (i : ℕ) → i < size g → (eqb (get_or K i 0) 2 && eqb (get_or O i 0) f && any (λ j. eqb (get_or K j 0) 4 && eqb (get_or O j 0) m) (neighbours g i)) ≡ (is_neighbour f (kind i) && any (λ j. is_floating (kind j) && eqb (float j) m) (neighbours g i))
        at i l = rw (inner i l, code_get i l, owner_get i l, beside_by (kind i) (float i) f)

    pub near_out : (m : ℕ) → size g ≤ m → float_near v f m ≡ false
    unfolding float_near has cells_of view view_with
    near_out m h = So-false (float_near v f m) (λ s.
        let r = any-mem _ (upto (size g)) s in
        let a = and-true (is_neighbour f (kind r.0)) _ r.2 in
        let t = any-mem _ (neighbours g r.0) a.1 in
        let b = and-true (is_floating (kind t.0)) _ t.2 in
        let l = on_grid g (upto-mem (size g) r.1) (side g r.0 t.1) in
        omega (arith, float_low t.0 l b.0, eqb-true (float t.0) m b.1))

    -- near: the marks of the floating groups in the reach
    module _ (near : List ℕ) (M : Marks near (near_among K O g f (size g))) where
      pub groups_are : near ≡ mask_of g (float_near v f)
      groups_are = Marks-mask g (float_near v f) small near_out (Marks-same _ (float_near v f) (λ m _. near_is m) M)

      pub reaches_is : (i : ℕ) → i < size g → reaches_at K O near f i ≡ in_reach v f i
      unfolding reaches_at in_reach has
      reaches_is i l = rw (code_get i l, owner_get i l)
          (reaches_by (kind i) (float i) f near (float_near v f (float i)) (λ o. omega (arith, float_low i l o))
          (λ h. mark_is M (float i) h ∙ near_is (float i)))

      Reach-is : (marks : List ℕ) (r : ℕ) → Reached K O near f (size g) marks r → Reach v f near marks r
      unfolding reach reach_mask mask_of cells_of view view_with
      Reach-is marks r R = record {
        groups = groups_are;
        marked = R.marked ∙ filled_same 0 (λ i. cond (reaches_at K O near f i) 1 0) (λ i. cond (in_reach v f i) 1 0) (size g) small (λ i l. rw (reaches_is i l));
        number = R.number ∙ ap length (filter_agree (reaches_at K O near f) (in_reach v f) (upto (size g)) (λ i m. reaches_is i (upto-mem (size g) m)));
      }

-- what the two passes leave
pub Reach-computed : (h w : ℕ) → h * w ≤ 1024 → (K O : List ℕ) (f : ℕ) (near marks : List ℕ) (r : ℕ) → Marks near (near_among K O (sized h w) f (h * w)) → Reached K O near f (h * w) marks r
    → (arrows : List (List ℕ)) (cells : List ℕ) → Held (view (puzzle_with (sized h w) arrows) cells) K O → Reach (view (puzzle_with (sized h w) arrows) cells) f near marks r
unfolding size
Reach-computed h w small K O f near marks r m R arrows cells H = Reach-is (puzzle_with (sized h w) arrows) small cells K O H f near m marks r R
