-- The arrays that are computed hold the view of the board.
-- Assumes nothing.
use Prim.Native.Nat.{ℕ, ◌*◌, ◌≤◌, ◌<◌}
use native.Mathlib.Decide.{dec_lt}
use native.Mathlib.Omega.{arith}
use mathlib.Core.Logic.{◌⊎◌, inl, inr}
use mathlib.Core.Path.{◌≡◌, refl, sym, ap, ◌∙◌, fun_ext}
use mathlib.Core.Bool.{Bool, true, false, So, cond, ◌&&◌, not, false≢true}
use mathlib.Core.List.{List, [], ◌∷◌, map, Memᴰ}
use lib.Dec.{eqb, ltb}
use lib.ListN.{length, get_or, take, get_or-eq_default}
use lib.Seq.{get_or-take}
use borrow.Author.Tests.{lt-ltb, ltb-true}
use Rattle.grid.specs.Lists.{filter, once}
use Rattle.grid.specs.Grid.{Grid, size, cells_of, neighbours}
use Rattle.grid.specs.Side.{sized}
use Rattle.grid.specs.Link.{here}
use Rattle.grid.proofs.ListLaws.{split, and-true, filter-mem, once-mem}
use Rattle.grid.proofs.GridLaws.{beside as side, on_grid}
use Rattle.grid.proofs.FilledLaws.{filled_at, filled_past, filled_is, filled_length, filled_same}
use Rattle.record.specs.Record.{Puzzle}
use Rattle.grid.specs.Cells.{empty, square}
use Rattle.groups.specs.Groups.{labels, group}
use Rattle.groups.specs.Arrows.{on_arrow}
use Rattle.groups.specs.Arrays.{label_at}
use Rattle.groups.specs.Flood.{Unlabelled, Sofar}
use Rattle.groups.proofs.GroupLaws.{label_least}
use Rattle.groups.proofs.TableLaws.{tally_any, any-filter}
use Rattle.groups.proofs.LabelLaws.{label_at_lem}
use Rattle.groups.proofs.LabellingLaws.{sofar_label}
use Rattle.kinds.specs.Kinds.{Kind, vacant, barrier, floating, in_block, neighbour, is_floating, kind_touching, arrow_block, blocks_touched, kind_at, kinds_of, has, view, view_with}
use Rattle.kinds.specs.Arrays.{kind_code, owner_by, kind_array, owner_array}
use Rattle.kinds.specs.Inside.{puzzle_with, arrow_block_at, arrow_blocks_at, kind_in, codes_in, owners_in, Given, Held, unnamed}
use Rattle.kinds.proofs.Filled.{owners_length}
use Rattle.kinds.proofs.BlockArrays.{kind_get, kind_past}

-- the number of the kind is that of floating cells
unfoldable pub floats : List ℕ → ℕ → Bool
floats kinds j = eqb (get_or kinds j 0) 4

module _ (p : Puzzle) (small : size p.grid ≤ 1024) (cells blocks A : List ℕ) (given : Given p cells blocks A) where
  abbrev g : Grid
  g = p.grid

  -- the name of the block of a square
  abbrev block_name : ℕ → ℕ
  block_name i = get_or (labels g (square cells)) i 0

  -- the block named f has an arrow cell
  abbrev arrowed : ℕ → Bool
  arrowed = arrow_block p cells (labels g (square cells))

  -- a square's name is a cell of the grid
  label_below : (i : ℕ) → i < size g → So (square cells i) → block_name i < size g
  label_below i l s = omega (arith, label_least g (square cells) i i l l (here s))

  -- what the arrays hold at a cell
  block_at : (i : ℕ) → i < size g → get_or blocks i 0 ≡ cond (square cells i) (block_name i) 1024
  unfolding label_at
  block_at i l = ap (λ (b : List ℕ). get_or b i 0) given.named ∙ label_at_lem g (square cells) i l

  -- ---- kinds, with the counts of arrow cells in A

  mark_at : (f : ℕ) → f < size g → not (eqb (get_or A f 0) 0) ≡ arrowed f
  unfolding arrow_block group
  mark_at f h =
      tally_any g (square cells) given.counted f h
      ∙ any-filter (on_arrow p.arrows) (λ i. square cells i && eqb (block_name i) f) (cells_of g)

  -- the cell is a square of an arrow block
  abbrev in_arrow : ℕ → Bool
  in_arrow j = square cells j && arrowed (block_name j)

  arrow_at : (j : ℕ) → j < size g → arrow_block_at blocks A j ≡ cond (in_arrow j) (block_name j) 1024
  unfolding arrow_block_at
  arrow_at j l = by (square cells j) refl
    where
      by : (s : Bool) → square cells j ≡ s → cond (ltb (get_or blocks j 0) 1024 && not (eqb (get_or A (get_or blocks j 0) 0) 0)) (get_or blocks j 0) 1024 ≡ cond (s && arrowed (block_name j)) (block_name j) 1024
      by true e =
          let b : get_or blocks j 0 ≡ block_name j = block_at j l ∙ rw e in
          let low : block_name j < 1024 = omega (arith, label_below j l e) in
          rw (b, lt-ltb (block_name j) 1024 low, mark_at (block_name j) (label_below j l e))
      by false e =
          let b : get_or blocks j 0 ≡ 1024 = block_at j l ∙ rw e in
          rw b

  in_arrow_low : (j : ℕ) → j < size g → ltb (arrow_block_at blocks A j) 1024 ≡ in_arrow j
  in_arrow_low j l = rw (arrow_at j l) (by (in_arrow j) refl)
    where
      by : (b : Bool) → in_arrow j ≡ b → ltb (cond b (block_name j) 1024) 1024 ≡ b
      by true e = lt-ltb (block_name j) 1024 (omega (arith, label_below j l (and-true (square cells j) (arrowed (block_name j)) e).0))
      by false e = refl

  arrows_at : (l : List ℕ) → ((x : ℕ) → Memᴰ x l → x < size g) → arrow_blocks_at blocks A l ≡ map block_name (filter in_arrow l)
  unfolding arrow_blocks_at
  arrows_at [] h = refl
  arrows_at (x ∷ l) h = rw (in_arrow_low x (h x (Memᴰ.head refl))) (by (in_arrow x) refl (arrows_at l (λ y m. h y (Memᴰ.tail m))))
    where
      by : (b : Bool) → in_arrow x ≡ b → filter (λ f. ltb f 1024) (map (arrow_block_at blocks A) l) ≡ map block_name (filter in_arrow l)
          → cond b (arrow_block_at blocks A x ∷ filter (λ f. ltb f 1024) (map (arrow_block_at blocks A) l)) (filter (λ f. ltb f 1024) (map (arrow_block_at blocks A) l)) ≡ map block_name (cond b (x ∷ filter in_arrow l) (filter in_arrow l))
      by true e q = rw (arrow_at x (h x (Memᴰ.head refl)), e, q)
      by false e q = q

-- a kind's number tells whether it is floating
code_floating : (k : Kind) → eqb (kind_code k) 4 ≡ is_floating k
unfolding kind_code is_floating
code_floating vacant = refl
code_floating barrier = refl
code_floating floating = refl
code_floating (in_block f) = refl
code_floating (neighbour f) = refl

-- only a floating cell's owner goes by its floating group
owner_floating : (k : Kind) (m : ℕ) → So (is_floating k) → m ≡ owner_by m k
unfolding is_floating owner_by
owner_floating vacant m h = absurd (false≢true h)
owner_floating barrier m h = absurd (false≢true h)
owner_floating floating m h = refl
owner_floating (in_block f) m h = absurd (false≢true h)
owner_floating (neighbour f) m h = absurd (false≢true h)

owner_other : (k : Kind) (m : ℕ) → is_floating k ≡ false → owner_by unnamed k ≡ owner_by m k
unfolding is_floating owner_by
owner_other vacant m h = refl
owner_other barrier m h = refl
owner_other floating m h = absurd (false≢true (sym h))
owner_other (in_block f) m h = refl
owner_other (neighbour f) m h = refl

owner_unnamed : (k : Kind) → So (is_floating k) → owner_by unnamed k ≡ unnamed
unfolding is_floating owner_by
owner_unnamed vacant h = absurd (false≢true h)
owner_unnamed barrier h = absurd (false≢true h)
owner_unnamed floating h = refl
owner_unnamed (in_block f) h = absurd (false≢true h)
owner_unnamed (neighbour f) h = absurd (false≢true h)

-- a cell without a name is floating, since the names of arrow blocks are small
only_floating : (e s a : Bool) (x : ℕ) (l : List ℕ) → (So a → x < 1024) → ((f : ℕ) → Memᴰ f l → f < 1024)
    → owner_by unnamed (cond e vacant (cond s (cond a (in_block x) floating) (kind_touching l))) ≡ unnamed → So (is_floating (cond e vacant (cond s (cond a (in_block x) floating) (kind_touching l))))
unfolding is_floating owner_by kind_touching
only_floating true s a x l low lows h = absurd (omega (arith, h))
only_floating false true true x l low lows h = absurd (omega (arith, h, low refl))
only_floating false true false x l low lows h = refl
only_floating false false a x [] low lows h = refl
only_floating false false a x (f ∷ []) low lows h = absurd (omega (arith, h, lows f (Memᴰ.head refl)))
only_floating false false a x (f ∷ e ∷ es) low lows h = absurd (omega (arith, h))

-- ---- the arrays before the walks
module _ (blocks A : List ℕ) (g : Grid) (values : List ℕ) (n : ℕ) (small : n ≤ 1024) where
  code_past : (i : ℕ) → n ≤ i → get_or (codes_in blocks A g values n) i 0 ≡ 0
  unfolding codes_in
  code_past i l = by (dec_lt i 1024)
    where
      by : Dec (i < 1024) → get_or (codes_in blocks A g values n) i 0 ≡ 0
      by (yes h) = filled_past 0 (λ j. kind_code (kind_in blocks A g values j)) n i l h
      by (no h) = get_or-eq_default (codes_in blocks A g values n) 0 {n = i} (omega (arith, filled_length 0 (λ j. kind_code (kind_in blocks A g values j)) n small))

  floats-unnamed : (i : ℕ) → So (floats (codes_in blocks A g values n) i) → get_or (owners_in blocks A g values n) i 0 ≡ unnamed
  unfolding floats codes_in owners_in
  floats-unnamed i h = by (dec_lt i n)
    where
      by : Dec (i < n) → get_or (owners_in blocks A g values n) i 0 ≡ unnamed
      by (yes l) =
          let e : get_or (codes_in blocks A g values n) i 0 ≡ kind_code (kind_in blocks A g values i) = filled_at 0 (λ j. kind_code (kind_in blocks A g values j)) n i l in
          filled_at 1024 (λ j. owner_by unnamed (kind_in blocks A g values j)) n i l
          ∙ owner_unnamed (kind_in blocks A g values i) (sym (ap (λ (x : ℕ). eqb x 4) e ∙ code_floating (kind_in blocks A g values i)) ∙ h)
      by (no l) = absurd (false≢true (sym (ap (λ (x : ℕ). eqb x 4) (code_past i (omega arith))) ∙ h))

  kind_floating : (i : ℕ) → owner_by unnamed (kind_in blocks A g values i) ≡ unnamed → So (is_floating (kind_in blocks A g values i))
  unfolding kind_in arrow_blocks_at
  kind_floating i h = only_floating (eqb (get_or values i 0) 0) (eqb (get_or values i 0) 1) (ltb (arrow_block_at blocks A i) 1024) (arrow_block_at blocks A i) (once (arrow_blocks_at blocks A (neighbours g i)))
      (ltb-true (arrow_block_at blocks A i) 1024)
      (λ f m. ltb-true f 1024 (filter-mem (λ (x : ℕ). ltb x 1024) (map (arrow_block_at blocks A) (neighbours g i)) (once-mem (arrow_blocks_at blocks A (neighbours g i)) m)).1)
      h

  unnamed-floats : (i : ℕ) → get_or (owners_in blocks A g values n) i 0 ≡ unnamed → So (floats (codes_in blocks A g values n) i)
  unfolding floats codes_in owners_in
  unnamed-floats i h = by (dec_lt i n) (dec_lt i 1024)
    where
      by : Dec (i < n) → Dec (i < 1024) → So (floats (codes_in blocks A g values n) i)
      by (yes l) _ =
          ap (λ (x : ℕ). eqb x 4) (filled_at 0 (λ j. kind_code (kind_in blocks A g values j)) n i l) ∙ code_floating (kind_in blocks A g values i)
          ∙ kind_floating i (sym (filled_at 1024 (λ j. owner_by unnamed (kind_in blocks A g values j)) n i l) ∙ h)
      by (no l) (yes m) = absurd (omega (arith, h, filled_past 1024 (λ j. owner_by unnamed (kind_in blocks A g values j)) n i (omega arith) m))
      by (no l) (no m) = absurd (omega (arith, h, get_or-eq_default (owners_in blocks A g values n) 0 {n = i} (omega (arith, owners_length blocks A g values n small))))

  -- the floating cells, and no others, have no name
  pub none_named : (K L : List ℕ) → K ≡ codes_in blocks A g values n → L ≡ owners_in blocks A g values n → Unlabelled (floats K) L
  none_named K L e q = rw (e, q) (record { only = unnamed-floats; all = floats-unnamed })

-- ---- the view, from the arrays of the kinds and owners of its cells. values is the array of the cells
module _ (p : Puzzle) (small : size p.grid ≤ 1024) (values blocks A : List ℕ) (given : Given p (take (size p.grid) values) blocks A) where
  abbrev grid : Grid
  grid = p.grid

  abbrev cells : List ℕ
  cells = take (size grid) values

  -- the kind of a cell
  abbrev kind : ℕ → Kind
  kind = kind_at p cells (labels grid (square cells))

  -- the kinds of all cells
  abbrev kinds : List Kind
  kinds = kinds_of p cells (labels grid (square cells))

  kind_square : (i : ℕ) → i < size grid → So (square cells i) → cond (ltb (arrow_block_at blocks A i) 1024) (in_block (arrow_block_at blocks A i)) floating ≡ cond (arrow_block p cells (labels grid (square cells)) (get_or (labels grid (square cells)) i 0)) (in_block (get_or (labels grid (square cells)) i 0)) floating
  kind_square i l q =
      let e : (square cells i && F) ≡ F = rw q in
      rw (in_arrow_low p small cells blocks A given i l, arrow_at p small cells blocks A given i l, e) (by F)
    where
      m : ℕ
      m = get_or (labels grid (square cells)) i 0

      F : Bool
      F = arrow_block p cells (labels grid (square cells)) m

      by : (b : Bool) → cond b (in_block (cond b m 1024)) floating ≡ cond b (in_block m) floating
      by true = refl
      by false = refl

  kind_pick : (e s : Bool) (a b c d : Kind) → (So s → a ≡ b) → c ≡ d → cond e vacant (cond s a c) ≡ cond e vacant (cond s b d)
  kind_pick true s a b c d f q = refl
  kind_pick false true a b c d f q = f refl
  kind_pick false false a b c d f q = q

  kind_is : (i : ℕ) → i < size grid → kind_in blocks A grid values i ≡ kind i
  unfolding kind_in kind_at blocks_touched empty square
  kind_is i l =
      rw (← (get_or-take (size grid) values i 0 l)) (kind_pick (empty cells i) (square cells i) _ _ _ _ (kind_square i l)
      (ap (λ (t : List ℕ). kind_touching (once t)) (arrows_at p small cells blocks A given (neighbours grid i) (λ x m. on_grid grid l (side grid i m)))))

  abbrev K : List ℕ
  K = codes_in blocks A grid values (size grid)

  code_at : (i : ℕ) → i < size grid → get_or K i 0 ≡ kind_code (kind i)
  unfolding codes_in
  code_at i l = filled_at 0 (λ j. kind_code (kind_in blocks A grid values j)) (size grid) i l ∙ ap kind_code (kind_is i l)

  owner_at : (i : ℕ) → i < size grid → get_or (owners_in blocks A grid values (size grid)) i 0 ≡ owner_by unnamed (kind i)
  unfolding owners_in
  owner_at i l = filled_at 1024 (λ j. owner_by unnamed (kind_in blocks A grid values j)) (size grid) i l ∙ ap (owner_by unnamed) (kind_is i l)

  owner_past : (i : ℕ) → size grid ≤ i → i < 1024 → get_or (owners_in blocks A grid values (size grid)) i 0 ≡ 1024
  unfolding owners_in
  owner_past i l h = filled_past 1024 (λ j. owner_by unnamed (kind_in blocks A grid values j)) (size grid) i l h

  -- the floating cells
  float_in : (i : ℕ) → i < size grid → floats K i ≡ is_floating (kind i)
  unfolding floats
  float_in i l = ap (λ (x : ℕ). eqb x 4) (code_at i l) ∙ code_floating (kind i)

  float_out : (i : ℕ) → size grid ≤ i → floats K i ≡ false
  unfolding floats
  float_out i l = ap (λ (x : ℕ). eqb x 4) (code_past blocks A grid values (size grid) small i l)

  float_is : (i : ℕ) → floats K i ≡ has is_floating kinds i
  unfolding has is_floating
  float_is i = by (dec_lt i (size grid))
    where
      by : Dec (i < size grid) → floats K i ≡ is_floating (get_or kinds i vacant)
      by (yes l) = float_in i l ∙ ap is_floating (sym (kind_get p cells (labels grid (square cells)) i l))
      by (no l) = float_out i (omega arith) ∙ sym (ap is_floating (kind_past p cells (labels grid (square cells)) i (omega arith)))

  float_on : (i : ℕ) → So (floats K i) → i < size grid
  float_on i h = by (dec_lt i (size grid))
    where
      by : Dec (i < size grid) → i < size grid
      by (yes l) = l
      by (no l) = absurd (false≢true (sym (float_out i (omega arith)) ∙ h))

  -- the array of kinds
  kinds_are : K ≡ kind_array (view p cells)
  unfolding kind_array view view_with codes_in cells_of
  kinds_are = filled_same 0 (λ i. kind_code (kind_in blocks A grid values i)) (λ i. kind_code (get_or kinds i vacant)) (size grid) small (λ i l. ap kind_code (kind_is i l ∙ sym (kind_get p cells (labels grid (square cells)) i l)))

  -- the array of owners, after the walks
  owners_are : (L : List ℕ) → Sofar grid (floats K) (owners_in blocks A grid values (size grid)) (size grid) L → L ≡ owner_array (view p cells)
  unfolding owner_array view view_with cells_of
  owners_are L S = filled_is 1024 (λ i. owner_by (get_or (labels grid (has is_floating kinds)) i 0) (get_or kinds i vacant)) (size grid) L small (S.long ∙ long) front back
    where
      long : length (owners_in blocks A grid values (size grid)) ≡ 1024
      long = owners_length blocks A grid values (size grid) small

      by : (i : ℕ) → i < size grid → (floats K i ≡ true) ⊎ (floats K i ≡ false) → get_or L i 0 ≡ owner_by (get_or (labels grid (has is_floating kinds)) i 0) (kind i)
      by i l (inl h) = sofar_label float_on S i h ∙ ap (λ (q : ℕ → Bool). get_or (labels grid q) i 0) (fun_ext float_is) ∙ owner_floating (kind i) _ (sym (float_in i l) ∙ h)
      by i l (inr h) = S.others i h ∙ owner_at i l ∙ owner_other (kind i) _ (sym (float_in i l) ∙ h)

      front : (i : ℕ) → i < size grid → get_or L i 0 ≡ owner_by (get_or (labels grid (has is_floating kinds)) i 0) (get_or kinds i vacant)
      front i l = by i l (split (floats K i)) ∙ ap (owner_by (get_or (labels grid (has is_floating kinds)) i 0)) (sym (kind_get p cells (labels grid (square cells)) i l))

      back : (i : ℕ) → size grid ≤ i → i < 1024 → get_or L i 0 ≡ 1024
      back i l h = S.others i (float_out i l) ∙ owner_past i l h

-- what the two passes leave
pub detailed : (h w : ℕ) → h * w ≤ 1024 → (values blocks A K L₀ L : List ℕ) → K ≡ codes_in blocks A (sized h w) values (h * w) → L₀ ≡ owners_in blocks A (sized h w) values (h * w)
    → Sofar (sized h w) (floats K) L₀ (h * w) L
    → (arrows : List (List ℕ)) → Given (puzzle_with (sized h w) arrows) (take (h * w) values) blocks A → Held (view (puzzle_with (sized h w) arrows) (take (h * w) values)) K L
unfolding size
detailed h w small values blocks A K L₀ L k o S arrows given = record {
  kind = k ∙ kinds_are (puzzle_with (sized h w) arrows) small values blocks A given;
  owner = owners_are (puzzle_with (sized h w) arrows) small values blocks A given L (rw (k, o) at S);
}
