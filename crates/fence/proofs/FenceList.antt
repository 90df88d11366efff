-- The cells that are inserted are those of the fence.
-- Assumes nothing.
use Prim.Native.Nat.{ℕ, suc, ◌+◌, ◌*◌, ◌≤◌, ◌<◌}
use native.Mathlib.Nat.{zero-add}
use native.Mathlib.Decide.{ℕ_discrete}
use native.Mathlib.Omega.{arith}
use mathlib.Core.Logic.{◌⊎◌, inl, inr}
use mathlib.Core.Path.{◌≡◌, refl, sym, ap, ◌∙◌, subst}
use mathlib.Core.Bool.{Bool, true, false, So, cond, ◌&&◌, not, false≢true}
use mathlib.Core.List.{List, [], ◌∷◌, ◌++◌, map, Memᴰ, map-append}
use lib.Dec.{eqb}
use lib.ListN.{length, get_or, take, length-map}
use lib.Seq.{get_or-take}
use borrow.Author.Tests.{eqb-true, eq-eqb, ne_eqb}
use Rattle.std.proofs.lemmas.Bool.{and_from}
use Rattle.grid.specs.Lists.{upto, any, filter, flat_map, member}
use Rattle.grid.specs.Grid.{Grid, size, cells_of, neighbours, touches}
use Rattle.grid.specs.Side.{sized}
use Rattle.grid.proofs.ListLaws.{and-true, any-mem, mem-any, upto-mem, mem-upto}
use Rattle.grid.proofs.GridLaws.{beside as side, on_grid, adj_sym}
use Rattle.grid.proofs.AppendLaws.{same_test, any_agree, filter_agree, member-filter}
use Rattle.record.specs.Record.{Puzzle}
use Rattle.grid.specs.Cells.{Literal, empty, square, undecided, word}
use Rattle.groups.specs.Groups.{labels}
use Rattle.groups.proofs.MarkLaws.{mask_test}
use Rattle.kinds.specs.Kinds.{Kind, vacant, barrier, floating, in_block, neighbour, kind_touching, blocks_touched, kind_at, is_in, has, View, view, view_with, in_reach, reach, disturbing, fence_at, fence}
use Rattle.kinds.specs.Arrays.{kind_code, owner_by, reach_mask}
use Rattle.kinds.specs.Inside.{puzzle_with, Held}
use Rattle.fence.specs.Inside.{lit_at, Ordered, in_disturbing, touched, adds, adds_among, Fenced}
use Rattle.kinds.proofs.BlockArrays.{in_by, kind_get}
use Rattle.reach.proofs.Reaches.{code_get, owner_get}

-- an undecided cell is not vacant
touching_code : (l : List ℕ) → kind_code (kind_touching l) ≡ 0 → ⊥
unfolding kind_code kind_touching
touching_code [] e = omega (arith, e)
touching_code (x ∷ []) e = omega (arith, e)
touching_code (x ∷ y ∷ l) e = omega (arith, e)

-- ---- the fence as a filtered list

-- what the fence says of a cell, as a test
module _ (v : View) (f : ℕ) (r : List ℕ) where
  fenced : ℕ → Kind → Bool
  fenced i vacant = touches v.grid r i
  fenced i barrier = false
  fenced i floating = false
  fenced i (in_block e) = not (eqb e f) && disturbing v r e
  fenced i (neighbour e) = false

  fence_word : (K : List ℕ) (i : ℕ) (k : Kind) → get_or K i 0 ≡ kind_code k → map word (fence_at v f r i k) ≡ cond (fenced i k) (lit_at K i ∷ []) []
  unfolding fence_at fenced word lit_at kind_code
  fence_word K i vacant e = rw e (by (touches v.grid r i))
    where
      by : (b : Bool) → map word (cond b ((i, 0) ∷ []) []) ≡ cond b (i ∷ []) []
      by true = ap (λ (x : ℕ). x ∷ []) (zero-add i)
      by false = refl
  fence_word K i barrier e = refl
  fence_word K i floating e = refl
  fence_word K i (in_block x) e = rw e (by (not (eqb x f) && disturbing v r x))
    where
      by : (b : Bool) → map word (cond b ((i, 1) ∷ []) []) ≡ cond b ((32768 + i) ∷ []) []
      by true = refl
      by false = refl
  fence_word K i (neighbour x) e = refl

flat_filter : (F : ℕ → List Literal) (lit : ℕ → ℕ) (t : ℕ → Bool) (l : List ℕ) → ((x : ℕ) → Memᴰ x l → map word (F x) ≡ cond (t x) (lit x ∷ []) []) → map word (flat_map F l) ≡ map lit (filter t l)
flat_filter F lit t [] h = refl
flat_filter F lit t (x ∷ l) h = map-append word (F x) (flat_map F l) ∙ rw (h x (Memᴰ.head refl), flat_filter F lit t l (λ y m. h y (Memᴰ.tail m))) (by (t x))
  where
    by : (b : Bool) → cond b (lit x ∷ []) [] ++ map lit (filter t l) ≡ map lit (cond b (x ∷ filter t l) (filter t l))
    by true = refl
    by false = refl

-- ---- what a kind's number says

module _ (v : View) (f : ℕ) (r : List ℕ) where
  fenced_empty : (x : ℕ) (k : Kind) → kind_code k ≡ 0 → So (touches v.grid r x) → So (fenced v f r x k)
  unfolding fenced kind_code
  fenced_empty x vacant e s = s
  fenced_empty x barrier e s = absurd (omega (arith, e))
  fenced_empty x floating e s = absurd (omega (arith, e))
  fenced_empty x (in_block a) e s = absurd (omega (arith, e))
  fenced_empty x (neighbour a) e s = absurd (omega (arith, e))

  fenced_block : (x m : ℕ) (k : Kind) → kind_code k ≡ 1 → ((e : ℕ) → owner_by m k ≡ e → So (not (eqb e f) && disturbing v r e)) → So (fenced v f r x k)
  unfolding fenced kind_code owner_by
  fenced_block x m vacant e s = absurd (omega (arith, e))
  fenced_block x m barrier e s = absurd (omega (arith, e))
  fenced_block x m floating e s = absurd (omega (arith, e))
  fenced_block x m (in_block a) e s = s a refl
  fenced_block x m (neighbour a) e s = absurd (omega (arith, e))

  -- what is fenced is vacant or in another arrow block
  fenced_says : (x m : ℕ) (k : Kind) → So (fenced v f r x k)
      → ((kind_code k ≡ 0) × So (touches v.grid r x)) ⊎ ((e : ℕ) × (kind_code k ≡ 1) × (owner_by m k ≡ e) × So (not (eqb e f) && disturbing v r e))
  unfolding fenced kind_code owner_by
  fenced_says x m vacant s = inl (refl, s)
  fenced_says x m barrier s = absurd (false≢true s)
  fenced_says x m floating s = absurd (false≢true s)
  fenced_says x m (in_block a) s = inr (a, refl, refl, s)
  fenced_says x m (neighbour a) s = absurd (false≢true s)

-- ---- the cells that are inserted. values is the array of the cells
module _ (p : Puzzle) (small : size p.grid ≤ 1024) (values K O marks : List ℕ) (f : ℕ)
    (H : Held (view p (take (size p.grid) values)) K O) (M : marks ≡ reach_mask (view p (take (size p.grid) values)) f) where
  abbrev g : Grid
  g = p.grid

  abbrev cells : List ℕ
  cells = take (size g) values

  abbrev v : View
  v = view p cells

  -- the reach
  abbrev R : List ℕ
  R = reach v f

  abbrev kind : ℕ → Kind
  kind i = get_or v.kinds i vacant

  abbrev float : ℕ → ℕ
  float i = get_or v.floats i 0

  code : (i : ℕ) → i < size g → get_or K i 0 ≡ kind_code (kind i)
  code = code_get p small cells K O H

  owner : (i : ℕ) → i < size g → get_or O i 0 ≡ owner_by (float i) (kind i)
  owner = owner_get p small cells K O H

  marked_is : (j : ℕ) → j < size g → eqb (get_or marks j 0) 1 ≡ member j R
  unfolding reach_mask reach cells_of view view_with
  marked_is j l =
      ap (λ (m : List ℕ). eqb (get_or m j 0) 1) M ∙ mask_test g (in_reach v f) j l ∙ sym (member-filter (in_reach v f) (size g) j l)

  touched_is : (i : ℕ) → i < size g → touched marks g i ≡ touches g R i
  unfolding touched touches
  touched_is i l = any_agree _ _ (neighbours g i) (λ j m. marked_is j (on_grid g l (side g i m)))

  value : (i : ℕ) → i < size g → get_or cells i 0 ≡ get_or values i 0
  value i l = get_or-take (size g) values i 0 l

  open_code : (i : ℕ) → i < size g → get_or cells i 0 ≡ 2 → get_or K i 0 ≡ 0 → ⊥
  unfolding kind_at empty square view view_with
  open_code i l e z =
      let k : kind i ≡ kind_touching (blocks_touched p cells (labels g (square cells)) i) =
      kind_get p cells (labels g (square cells)) i l ∙ rw e in
      touching_code (blocks_touched p cells (labels g (square cells)) i) (sym (ap kind_code k) ∙ sym (code i l) ∙ z)

  -- a cell of the arrow block e, by the arrays and by the kinds
  in_is : (j e : ℕ) → j < size g → (eqb (get_or K j 0) 1 && eqb (get_or O j 0) e) ≡ is_in e (kind j)
  in_is j e l = rw (code j l, owner j l) (in_by (kind j) (float j) e)

  -- an inserted cell is fenced
  there : (x : ℕ) → x < size g → (i : ℕ) → i < size g → So (adds values K O marks g f i x) → So (fenced v f R x (kind x))
  unfolding adds in_disturbing disturbing has cells_of view view_with undecided
  there x lx i l s = by (ℕ_discrete (get_or K i 0) 0)
    where
      by : Dec (get_or K i 0 ≡ 0) → So (fenced v f R x (kind x))
      by (yes k) =
          let h : So (touched marks g i && eqb i x) = rw k at s in
          let q = and-true (touched marks g i) _ h in
          let e : i ≡ x = eqb-true i x q.1 in
          fenced_empty v f R x (kind x) (sym (code x lx) ∙ ap (λ (y : ℕ). get_or K y 0) (sym e) ∙ k) (subst (λ (y : ℕ). So (touches g R y)) e (sym (touched_is i l) ∙ q.0))
      by (no k) =
          let h : So (eqb (get_or values i 0) 2 && touched marks g i && any (λ j. in_disturbing K O f j x) (neighbours g i)) = rw (ne_eqb (get_or K i 0) 0 k) at s in
          let a = and-true (eqb (get_or values i 0) 2 && touched marks g i) _ h in
          let b = and-true (eqb (get_or values i 0) 2) _ a.0 in
          let j = any-mem (λ j. in_disturbing K O f j x) (neighbours g i) a.1 in
          let lj = on_grid g l (side g i j.1) in
          let c = and-true (eqb (get_or K j.0 0) 1 && not (eqb (get_or O j.0 0) f)) _ j.2 in
          let d = and-true (eqb (get_or K j.0 0) 1) _ c.0 in
          let w = and-true (eqb (get_or K x 0) 1) _ c.1 in
          let o : get_or O x 0 ≡ get_or O j.0 0 = eqb-true (get_or O x 0) (get_or O j.0 0) w.1 in
          fenced_block v f R x (float x) (kind x) (sym (code x lx) ∙ eqb-true (get_or K x 0) 1 w.0) (λ e q.
          let oe : get_or O j.0 0 ≡ e = sym o ∙ owner x lx ∙ q in
          and_from _ _ (subst (λ (y : ℕ). So (not (eqb y f))) oe d.1)
          (mem-any _ (upto (size g)) (mem-upto (size g) lj) (and_from _ _
          (sym (in_is j.0 e lj) ∙ and_from _ _ d.0 (eq-eqb (get_or O j.0 0) e oe))
          (mem-any _ (neighbours g j.0) (adj_sym g i j.0 (l, j.1)).1
          (and_from _ _ (eq-eqb (get_or cells i 0) 2 (value i l ∙ eqb-true (get_or values i 0) 2 b.0)) (sym (touched_is i l) ∙ b.1))))))

  -- a fenced cell is inserted
  back : (x : ℕ) → x < size g → So (fenced v f R x (kind x)) → (i : ℕ) × (i < size g) × So (adds values K O marks g f i x)
  unfolding adds in_disturbing disturbing has cells_of view view_with undecided
  back x lx s = by (fenced_says v f R x (float x) (kind x) s)
    where
      by : ((kind_code (kind x) ≡ 0) × So (touches g R x)) ⊎ ((e : ℕ) × (kind_code (kind x) ≡ 1) × (owner_by (float x) (kind x) ≡ e) × So (not (eqb e f) && disturbing v R e)) → (i : ℕ) × (i < size g) × So (adds values K O marks g f i x)
      by (inl (z, t)) = (x, lx, rw (code x lx ∙ z) (and_from _ _ (touched_is x lx ∙ t) (eq-eqb x x refl)))
      by (inr (e, z, q, t)) =
          let a = and-true (not (eqb e f)) _ t in
          let j = any-mem _ (upto (size g)) a.1 in
          let lj = upto-mem (size g) j.1 in
          let b = and-true (is_in e (kind j.0)) _ j.2 in
          let u = any-mem _ (neighbours g j.0) b.1 in
          let lu = on_grid g lj (side g j.0 u.1) in
          let c = and-true (eqb (get_or cells u.0 0) 2) _ u.2 in
          let two : get_or cells u.0 0 ≡ 2 = eqb-true (get_or cells u.0 0) 2 c.0 in
          let d = and-true (eqb (get_or K j.0 0) 1) _ (in_is j.0 e lj ∙ b.0) in
          let oe : get_or O j.0 0 ≡ e = eqb-true (get_or O j.0 0) e d.1 in (
            u.0,
            lu,
            rw (ne_eqb (get_or K u.0 0) 0 (open_code u.0 lu two)) (and_from _ _
                (and_from _ _ (eq-eqb (get_or values u.0 0) 2 (sym (value u.0 lu) ∙ two)) (touched_is u.0 lu ∙ c.1))
                (mem-any _ (neighbours g u.0) (adj_sym g j.0 u.0 (lj, u.1)).1
                (and_from _ _ (and_from _ _ d.0 (subst (λ (y : ℕ). So (not (eqb y f))) (sym oe) a.0))
                (and_from _ _ (eq-eqb (get_or K x 0) 1 (code x lx ∙ z)) (eq-eqb (get_or O x 0) (get_or O j.0 0) (owner x lx ∙ q ∙ sym oe)))))),
          )

  among_is : (x : ℕ) → x < size g → adds_among values K O marks g f (size g) x ≡ fenced v f R x (kind x)
  unfolding adds_among
  among_is x lx = same_test _ _
      (λ s. let r = any-mem (λ i. adds values K O marks g f i x) (upto (size g)) s in there x lx r.0 (upto-mem (size g) r.1) r.2)
      (λ s. let r = back x lx s in mem-any (λ i. adds values K O marks g f i x) (upto (size g)) (mem-upto (size g) r.1) r.2)

  -- the literals are those of the fence
  fence_list : map (lit_at K) (filter (adds_among values K O marks g f (size g)) (upto (size g))) ≡ map word (fence v f)
  unfolding fence cells_of view view_with
  fence_list =
      ap (map (lit_at K)) (filter_agree _ (λ x. fenced v f R x (kind x)) (upto (size g)) (λ x m. among_is x (upto-mem (size g) m)))
      ∙ sym (flat_filter (λ i. fence_at v f R i (kind i)) (lit_at K) (λ x. fenced v f R x (kind x)) (upto (size g)) (λ i m. fence_word v f R K i (kind i) (code i (upto-mem (size g) m))))

length_lit : (K l : List ℕ) → length (map (lit_at K) l) ≡ length l
length_lit K [] = refl
length_lit K (x ∷ l) = ap (λ (n : ℕ). suc n) (length_lit K l)

-- what the pass leaves: `now` is the part as the fence has it, and `after` as it is given back
pub fence_computed : (h w : ℕ) → (values K O marks : List ℕ) (f : ℕ) (before : List ℕ) {now after : List ℕ} {c : ℕ} → after ≡ now
    → Ordered K (h * w) before (adds_among values K O marks (sized h w) f (h * w)) now c
    → (arrows : List (List ℕ)) → Held (view (puzzle_with (sized h w) arrows) (take (h * w) values)) K O → marks ≡ reach_mask (view (puzzle_with (sized h w) arrows) (take (h * w) values)) f
    → Fenced (view (puzzle_with (sized h w) arrows) (take (h * w) values)) f before after c
unfolding size
fence_computed h w values K O marks f before {now} {after} {c} e Q arrows H M =
    let same = fence_list (puzzle_with (sized h w) arrows) Q.small values K O marks f H M in
    rw e (record {
      list = Q.list ∙ same;
      number = Q.number ∙ sym (length_lit K (filter (adds_among values K O marks (sized h w) f (h * w)) (upto (h * w)))) ∙ ap length same ∙ length-map (fence (view (puzzle_with (sized h w) arrows) (take (h * w) values)) f) word;
      rest = Q.rest;
      long = Q.long;
    })
