-- The reach of a block is its own cells and those of the floating groups listed for it.
-- Assumes nothing.
use Prim.Native.Nat.{ℕ, ◌+◌, ◌*◌, ◌≤◌, ◌<◌}
use native.Mathlib.Decide.{dec_lt}
use native.Mathlib.Omega.{arith}
use mathlib.Core.Logic.{◌⊎◌, inl, inr}
use mathlib.Core.Path.{◌≡◌, refl, sym, ap, ◌∙◌, subst}
use mathlib.Core.Bool.{Bool, true, false, So, cond, ◌&&◌, ◌||◌, not, false≢true, or-false}
use mathlib.Core.List.{List, ◌∷◌, Memᴰ}
use lib.Dec.{eqb}
use lib.ListN.{length, get_or, take, get_or-eq_default}
use borrow.Author.Tests.{eqb-true, eq-eqb, ne_eqb}
use Rattle.grid.specs.Lists.{upto, any, filter, member}
use Rattle.grid.specs.Marks.{Marks}
use Rattle.grid.specs.Grid.{Grid, size, cells_of, neighbours}
use Rattle.grid.specs.Side.{sized}
use Rattle.grid.proofs.LinkLaws.{Linked-end}
use Rattle.grid.proofs.ListLaws.{split, So-false, and-true, any-mem, upto-mem, filter-mem, once-mem, member-mem, mem-member}
use Rattle.grid.proofs.GridLaws.{beside as side, on_grid}
use Rattle.grid.proofs.SideLaws.{area}
use Rattle.grid.proofs.AppendLaws.{same_test, filter_agree}
use Rattle.grid.proofs.FilledLaws.{filled_past, filled_length}
use Rattle.grid.proofs.MarkLaws.{Marks-same}
use Rattle.record.specs.Record.{Puzzle}
use Rattle.grid.specs.Cells.{empty, square}
use Rattle.groups.specs.Groups.{labels}
use Rattle.groups.proofs.MarkLaws.{mask_Marks}
use Rattle.groups.proofs.GroupLaws.{label_own, label_linked, linked_size}
use Rattle.kinds.specs.Kinds.{Kind, vacant, barrier, floating, in_block, neighbour, is_floating, is_in, is_neighbour, has, arrow_block, blocks_touched, kind_at, View, view, view_with, float_near, in_reach, reach}
use Rattle.kinds.specs.Arrays.{kind_code, owner_by, kind_array}
use Rattle.kinds.specs.Inside.{Limits, puzzle_with, Held}
use Rattle.reach.specs.Inside.{near_among, reaches_at}
use Rattle.reach.specs.Chains.{owned_by, cells_from}
use Rattle.reach.specs.Near.{beside_owned, Sizes, SquaresOf, Listed, NearFloats}
use Rattle.kinds.proofs.Bridge.{in_of, beside_of}
use Rattle.kinds.proofs.BlockArrays.{kind_get}
use Rattle.reach.proofs.Reaches.{code_get, owner_get, near_is, near_out, groups_are, reaches_is}
use Rattle.reach.proofs.NearLaws.{cells_are, sizes_split, Listed-same, total, total_same, owned_in, any_owned, length_owned}

-- a square of an arrow block is not floating
block_kind : (k : Kind) → kind_code k ≡ 1 → is_floating k ≡ false
unfolding kind_code is_floating
block_kind vacant e = refl
block_kind barrier e = refl
block_kind floating e = absurd (omega (arith, e))
block_kind (in_block f) e = refl
block_kind (neighbour f) e = refl

module _ (p : Puzzle) (small : size p.grid ≤ 1024) (cells K O : List ℕ) (H : Held (view p cells) K O) where
  abbrev g : Grid
  g = p.grid

  abbrev v : View
  v = view p cells

  -- the kind of a cell, and the names of its floating group and of its block
  abbrev kind : ℕ → Kind
  kind i = get_or v.kinds i vacant

  abbrev float : ℕ → ℕ
  float i = get_or v.floats i 0

  abbrev label : ℕ → ℕ
  label i = get_or (labels g (square cells)) i 0

  -- the block named f has an arrow cell
  abbrev arrowed : ℕ → Bool
  arrowed = arrow_block p cells (labels g (square cells))

  abbrev listed : ℕ → List ℕ
  listed = blocks_touched p cells (labels g (square cells))

  -- the name of an arrow block is no floating cell
  arrow_name : (j : ℕ) → j < size g → So (square cells j) → So (arrowed (label j)) → is_floating (kind (label j)) ≡ false
  unfolding kind_at is_floating view view_with
  arrow_name j l s a =
      let r = label_own g (square cells) j l s in
      let own : label (label j) ≡ label j = sym (label_linked g (square cells) j (label j) l r) in
      let end : square cells (label j) ≡ true = Linked-end r in
      ap is_floating (kind_get p cells (labels g (square cells)) (label j) (linked_size g (square cells) l r)) ∙ rw (end, own, a) (go (empty cells (label j)))
    where
      go : (e : Bool) → is_floating (cond e vacant (in_block (label j))) ≡ false
      go true = refl
      go false = refl

  in_name : (i e : ℕ) → i < size g → So (is_in e (kind i)) → is_floating (kind e) ≡ false
  unfolding kind_at view view_with
  in_name i e l h =
      let q = in_of (empty cells i) (square cells i) (arrowed (label i)) (label i) (listed i) e (subst (λ k. So (is_in e k)) (kind_get p cells (labels g (square cells)) i l) h) in
      subst (λ x. is_floating (kind x) ≡ false) q.2 (arrow_name i l q.0 q.1)

  beside_name : (i e : ℕ) → i < size g → So (is_neighbour e (kind i)) → is_floating (kind e) ≡ false
  unfolding kind_at blocks_touched view view_with
  beside_name i e l h =
      let q = beside_of (empty cells i) (square cells i) (arrowed (label i)) (label i) (listed i) e (subst (λ k. So (is_neighbour e k)) (kind_get p cells (labels g (square cells)) i l) h) in
      let m : Memᴰ e (listed i) = subst (Memᴰ e) (sym q.2) (mathlib.Core.List.Memᴰ.head refl) in
      let r = mathlib.Core.List.Memᴰ.of_map label _ (once-mem _ m) in
      let t = filter-mem (λ j. square cells j && arrowed (label j)) (neighbours g i) r.1 in
      let u = and-true (square cells r.0) _ t.1 in
      subst (λ x. is_floating (kind x) ≡ false) r.2 (arrow_name r.0 (on_grid g l (side g i t.0)) u.0 u.1)

  -- the name of a floating group is a floating cell
  float_own : (j : ℕ) → j < size g → So (is_floating (kind j)) → So (is_floating (kind (float j)))
  unfolding view view_with has
  float_own j l o = Linked-end (label_own g (has is_floating v.kinds) j l o)

  float_name : (f m : ℕ) → float_near v f m ≡ true → So (is_floating (kind m))
  unfolding float_near has cells_of view view_with
  float_name f m s =
      let r = any-mem _ (upto (size g)) s in
      let a = and-true (is_neighbour f (kind r.0)) _ r.2 in
      let t = any-mem _ (neighbours g r.0) a.1 in
      let b = and-true (is_floating (kind t.0)) _ t.2 in
      let l = on_grid g (upto-mem (size g) r.1) (side g r.0 t.1) in
      subst (λ x. So (is_floating (kind x))) (eqb-true (float t.0) m b.1) (float_own t.0 l b.0)

  -- no cell of a floating group is a square of an arrow block
  floats_only : (f m : ℕ) → float_near v f m ≡ true → length (filter (beside_owned K O m) (upto (size g))) ≡ length (cells_from O (size g) m 0)
  unfolding beside_owned owned_by kind_code owner_by is_in
  floats_only f m s = ap length (filter_agree (beside_owned K O m) (owned_by O m) (upto (size g)) (λ i q. at i (upto-mem (size g) q)) ∙ sym (cells_are O (size g) m))
    where
      other : (i : ℕ) → i < size g → (k : Kind) → kind i ≡ k → eqb (owner_by (float i) k) m ≡ true → kind_code k ≡ 1 → ⊥
      other i l vacant e o c = omega (arith, c)
      other i l barrier e o c = omega (arith, c)
      other i l floating e o c = omega (arith, c)
      other i l (in_block x) e o c =
          let q : x ≡ m = eqb-true x m o in
          false≢true (sym (in_name i m l (subst (λ k. So (is_in m k)) (sym e) (eq-eqb x m q))) ∙ float_name f m s)
      other i l (neighbour x) e o c = omega (arith, c)

      at : (i : ℕ) → i < size g → (eqb (get_or O i 0) m && not (eqb (get_or K i 0) 1)) ≡ eqb (get_or O i 0) m
      at i l = go (split (eqb (get_or O i 0) m)) (split (eqb (get_or K i 0) 1))
        where
          go : (eqb (get_or O i 0) m ≡ true) ⊎ (eqb (get_or O i 0) m ≡ false) → (eqb (get_or K i 0) 1 ≡ true) ⊎ (eqb (get_or K i 0) 1 ≡ false) → (eqb (get_or O i 0) m && not (eqb (get_or K i 0) 1)) ≡ eqb (get_or O i 0) m
          go (inr a) b = rw a refl
          go (inl a) (inr b) = rw (a, b) refl
          go (inl a) (inl b) = absurd (other i l (kind i) refl (ap (λ (o : ℕ). eqb o m) (sym (owner_get p small cells K O H i l)) ∙ a) (sym (code_get p small cells K O H i l) ∙ eqb-true (get_or K i 0) 1 b))

  module _ (f : ℕ) (near groups : List ℕ) (c : ℕ) (N : NearFloats v f near groups c) where
    near_Marks : Marks near (near_among K O g f (size g))
    unfolding view view_with
    near_Marks = Marks-same (float_near v f) _ (λ m _. sym (near_is p small cells K O H f m)) (subst (λ (l : List ℕ). Marks l (float_near v f)) (sym N.marked) (mask_Marks g (float_near v f) small (near_out p small cells K O H f)))

    abbrev gs : List ℕ
    gs = take c groups

    -- the listed groups are those near
    member_near : (m : ℕ) → m < 1024 → member m gs ≡ float_near v f m
    member_near m h = same_test (member m gs) (float_near v f m) (λ s. ((N.listed m).0 (member-mem m gs s)).1) (λ s. mem-member m gs ((N.listed m).1 (h, s)))

    member_not : (m : ℕ) → (m < 1024 → float_near v f m ≡ true → ⊥) → member m gs ≡ false
    member_not m no_one = So-false (member m gs) (λ s. let r = (N.listed m).0 (member-mem m gs s) in no_one r.0 r.1)

    not_near : (m : ℕ) → is_floating (kind m) ≡ false → member m gs ≡ false
    not_near m e = member_not m (λ _ s. false≢true (sym e ∙ float_name f m s))

    module _ (block : get_or K f 0 ≡ 1) where
      f_in : f < size g
      unfolding kind_array view view_with cells_of
      f_in = by (dec_lt f (size g))
        where
          none : (Dec (f < 1024)) → size g ≤ f → get_or K f 0 ≡ 0
          none (yes h) l = ap (λ (x : List ℕ). get_or x f 0) H.kind ∙ filled_past 0 (λ j. kind_code (kind j)) (size g) f l h
          none (no h) l = ap (λ (x : List ℕ). get_or x f 0) H.kind ∙ get_or-eq_default (kind_array v) 0 {n = f} (omega (arith, filled_length 0 (λ j. kind_code (kind j)) (size g) small))

          by : Dec (f < size g) → f < size g
          by (yes l) = l
          by (no l) = absurd (omega (arith, block, none (dec_lt f 1024) (omega arith)))

      f_kind : is_floating (kind f) ≡ false
      f_kind = block_kind (kind f) (sym (code_get p small cells K O H f f_in) ∙ block)

      -- a cell is in the reach if its owner is f or a listed group
      owner_in : (i : ℕ) → i < size g → in_reach v f i ≡ owned_in O (f ∷ gs) i
      unfolding in_reach has member is_in is_neighbour is_floating owner_by
      owner_in i l = by (kind i) refl ∙ ap (λ (o : ℕ). eqb o f || member o gs) (sym (owner_get p small cells K O H i l))
        where
          outside : false ≡ (eqb 1024 f || member 1024 gs)
          outside = rw (ne_eqb 1024 f (λ e. omega (arith, e, f_in, small)), member_not 1024 (λ h _. omega (arith, h))) refl

          by : (k : Kind) → kind i ≡ k → (is_in f k || is_neighbour f k || (is_floating k && float_near v f (float i))) ≡ (eqb (owner_by (float i) k) f || member (owner_by (float i) k) gs)
          by vacant e = outside
          by barrier e = outside
          by floating e =
              let o : So (is_floating (kind (float i))) = float_own i l (ap is_floating e) in
              let other : eqb (float i) f ≡ false = ne_eqb (float i) f (λ q. false≢true (sym f_kind ∙ subst (λ x. So (is_floating (kind x))) q o)) in
              rw other (sym (near_float (float i) o))
            where
              near_float : (m : ℕ) → So (is_floating (kind m)) → member m gs ≡ float_near v f m
              near_float m o = go (dec_lt m 1024)
                where
                  go : Dec (m < 1024) → member m gs ≡ float_near v f m
                  go (yes h) = member_near m h
                  go (no h) = member_not m (λ k _. omega (arith, k)) ∙ sym (near_out p small cells K O H f m (omega arith))
          by (in_block e) q = or-false (eqb e f || false) ∙ ap (λ (b : Bool). eqb e f || b) (sym (not_near e (in_name i e l (subst (λ k. So (is_in e k)) (sym q) (eq-eqb e e refl)))))
          by (neighbour e) q = ap (λ (b : Bool). eqb e f || b) (sym (not_near e (beside_name i e l (subst (λ k. So (is_neighbour e k)) (sym q) (eq-eqb e e refl)))))

      reach_owned : reach v f ≡ filter (owned_in O (f ∷ gs)) (upto (size g))
      unfolding reach cells_of view view_with
      reach_owned = filter_agree (in_reach v f) (owned_in O (f ∷ gs)) (upto (size g)) (λ i m. owner_in i (upto-mem (size g) m))

      f_apart : ¬ Memᴰ f gs
      f_apart q = false≢true (sym f_kind ∙ float_name f f ((N.listed f).0 q).1)

      any-reach : (q : ℕ → Bool) → any q (reach v f) ≡ (any q (cells_from O (size g) f 0) || any (λ m. any q (cells_from O (size g) m 0)) gs)
      any-reach q = ap (any q) reach_owned ∙ any_owned O (size g) q (f ∷ gs)

      length-reach : length (reach v f) ≡ length (cells_from O (size g) f 0) + total (λ m. length (cells_from O (size g) m 0)) gs
      unfolding total
      length-reach = ap length reach_owned ∙ length_owned O (size g) (f ∷ gs) (f_apart, N.distinct)

-- ---- for a grid of h by w cells

-- what the walk over the cells of f leaves
pub near_computed : (h w : ℕ) → h * w ≤ 1024 → (K O : List ℕ) (f : ℕ) (near groups : List ℕ) (r : ℕ) → Listed (near_among K O (sized h w) f (h * w)) near groups r
    → (arrows : List (List ℕ)) (cells : List ℕ) → Held (view (puzzle_with (sized h w) arrows) cells) K O → NearFloats (view (puzzle_with (sized h w) arrows) cells) f near groups r
unfolding size view view_with
near_computed h w small K O f near groups r L arrows cells H =
    let p = puzzle_with (sized h w) arrows in
    let S = Listed-same L (float_near (view p cells) f) (λ m _. near_is p small cells K O H f m) in
    record { marked = groups_are p small cells K O H f near L.marked; long = S.long; few = S.few; distinct = S.distinct; listed = S.listed }

module _ (h w : ℕ) (limits : Limits h w) (arrows : List (List ℕ)) (cells K O : List ℕ) (H : Held (view (puzzle_with (sized h w) arrows) cells) K O)
    (f : ℕ) (near groups : List ℕ) (c : ℕ) (N : NearFloats (view (puzzle_with (sized h w) arrows) cells) f near groups c) where
  small : h * w ≤ 1024
  small = area h w limits.tall limits.wide

  -- the test of the reach, by the marks of the floating groups
  pub reached_is : (i : ℕ) → i < h * w → reaches_at K O near f i ≡ in_reach (view (puzzle_with (sized h w) arrows) cells) f i
  unfolding size
  reached_is i l = let p = puzzle_with (sized h w) arrows in reaches_is p small cells K O H f near (near_Marks p small cells K O H f near groups c N) i l

  -- f is the name of an arrow block: its reach is its own cells and those of the listed groups
  pub reach-any : get_or K f 0 ≡ 1 → (q : ℕ → Bool)
      → any q (reach (view (puzzle_with (sized h w) arrows) cells) f) ≡ (any q (cells_from O (h * w) f 0) || any (λ m. any q (cells_from O (h * w) m 0)) (take c groups))
  unfolding size
  reach-any b q = any-reach (puzzle_with (sized h w) arrows) small cells K O H f near groups c N b q

  reach-length : get_or K f 0 ≡ 1 → length (reach (view (puzzle_with (sized h w) arrows) cells) f) ≡ length (cells_from O (h * w) f 0) + total (λ m. length (cells_from O (h * w) m 0)) (take c groups)
  unfolding size
  reach-length b = length-reach (puzzle_with (sized h w) arrows) small cells K O H f near groups c N b

  -- its size by the squares of the block and the sizes of the groups
  pub reach_sum : get_or K f 0 ≡ 1 → f < 1024 → (sizes squares : List ℕ) → Sizes K O (h * w) sizes → SquaresOf K O (h * w) squares f
      → get_or squares f 0 + get_or sizes f 0 + total (λ m. get_or sizes m 0) (take c groups) ≡ length (reach (view (puzzle_with (sized h w) arrows) cells) f)
  unfolding size
  reach_sum b l sizes squares S Q =
      let own : get_or squares f 0 + get_or sizes f 0 ≡ length (cells_from O (h * w) f 0) = omega (arith, Q, S.at f l, sizes_split K O (h * w) f) in
      let rest : total (λ m. get_or sizes m 0) (take c groups) ≡ total (λ m. length (cells_from O (h * w) m 0)) (take c groups)
      = total_same _ _ (take c groups) (λ m q. S.at m ((N.listed m).0 q).0 ∙ floats_only (puzzle_with (sized h w) arrows) small cells K O H f m ((N.listed m).0 q).1) in
      omega (arith, own, rest, reach-length b)
