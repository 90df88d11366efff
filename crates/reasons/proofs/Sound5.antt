-- Reason 5: which of its two cases was given, and that each is sound.
-- Assumes nothing.
use Prim.Native.Nat.{ℕ}
use mathlib.Core.Path.{◌≡◌, refl, sym, subst}
use mathlib.Core.Bool.{Bool, So}
use mathlib.Core.List.{List, Memᴰ}
use mathlib.Core.Option.{none, some}
use native.Mathlib.Omega.{arith}
use lib.Dec.{ltb}
use lib.ListN.{length}
use borrow.Author.Tests.{eq-eqb, ltb-true}
use Rattle.grid.specs.Lists.{filter}
use Rattle.grid.proofs.ListLaws.{filter-mem, mem-filter}
use Rattle.grid.specs.Grid.{Grid, size}
use Rattle.grid.specs.Link.{here}
use Rattle.grid.proofs.LinkLaws.{Linked-map}
use Rattle.grid.proofs.Count.{count_mono}
use Rattle.grid.specs.Cells.{Literal, square, Agrees}
use Rattle.groups.specs.Arrows.{OnArrow}
use Rattle.kinds.proofs.Bridge.{decisions, Dec-Reach, block_name}
use Rattle.kinds.specs.Kinds.{View, view, view_with, block, reach}
use Rattle.kinds.specs.Meaning.{PartialBoard, Block, Setting, partial_of}
use Rattle.kinds.proofs.Confine.{Fenced, OneArrow, confined}
use Rattle.kinds.proofs.Fence.{in_Block, length-Reach, length-block, fenced}
use Rattle.literals.specs.Literals.{each, reason_if}
use Rattle.growth.specs.Growth.{block_name as view_name, cell_fence}
use Rattle.reasons.proofs.First.{first_some, first_none, or_else-some, or_else-none, reason_if-some, reason_if-none, Agrees-each}
use Rattle.record.specs.Leaf.{Range}
use Rattle.record.specs.Sizes.{GoodSizes}
use Rattle.sized.specs.Sized.{reason_low, reason_high, reason5_at, reason5}
use Rattle.reasons.proofs.Plain.{SizesAt}

module _ (set : Setting) where
  open set use {puzzle, cells}

  abbrev grid : Grid
  grid = puzzle.grid

  -- the board, as Confine takes it
  abbrev B : PartialBoard
  B = partial_of set

  -- the view of the board
  abbrev v : View
  v = view puzzle cells

  module _ (q : Range) where
    -- the name of the cell's block
    abbrev pub sized_name : ℕ
    sized_name = block_name set q.cell

    -- the reach of its block is smaller than the lowest
    abbrev pub too_low : Bool
    too_low = ltb (length (reach v sized_name)) q.lowest

    -- the cell, then the fence of its block
    abbrev pub low_literals : List Literal
    low_literals = cell_fence v q.cell sized_name

    -- its block is larger than the highest
    abbrev pub too_high : Bool
    too_high = ltb q.highest (length (block v sized_name))

    -- its cells
    abbrev pub high_literals : List Literal
    high_literals = each 1 (block v sized_name)

    pub size_none : reason5_at v q ≡ none → (¬ So too_low) × (¬ So too_high)
    unfolding reason5_at reason_low reason_high view_name view view_with
    size_none e = let w = or_else-none (reason_if too_low low_literals) (reason_if too_high high_literals) e in (reason_if-none too_low low_literals w.0, reason_if-none too_high high_literals w.1)

  -- a reason of sizes is one of two
  pub data Told5 (sizes : List Range) (r : List Literal) : Type 0 where
    told_too_low : (q : Range) → Memᴰ q sizes → So (square cells q.cell) → So (too_low q) → low_literals q ≡ r → Told5 sizes r
    told_too_high : (q : Range) → Memᴰ q sizes → So (square cells q.cell) → So (too_high q) → high_literals q ≡ r → Told5 sizes r

  -- the sized cells that are square
  abbrev pub filled_of : List Range → List Range
  filled_of sizes = filter (λ (q : Range). square cells q.cell) sizes

  pub told_5 : (sizes : List Range) (r : List Literal) → reason5 v sizes ≡ some r → Told5 sizes r
  unfolding reason5 reason5_at reason_low reason_high view_name view view_with
  told_5 sizes r e =
      let w = first_some (reason5_at v) (filled_of sizes) r e in
      let k = filter-mem (λ (q : Range). square cells q.cell) sizes w.1 in
      or_else-some (reason_if (too_low w.0) (low_literals w.0)) (reason_if (too_high w.0) (high_literals w.0)) r w.2
      (λ h. let u = reason_if-some (too_low w.0) (low_literals w.0) r h in told_too_low w.0 k.0 k.1 u.0 u.1)
      (λ h. let u = reason_if-some (too_high w.0) (high_literals w.0) r h in told_too_high w.0 k.0 k.1 u.0 u.1)

  -- where none is given no sized square fails a test
  pub none_5 : (sizes : List Range) → reason5 v sizes ≡ none → (q : Range) → Memᴰ q sizes → So (square cells q.cell) → (¬ So (too_low q)) × (¬ So (too_high q))
  unfolding reason5 view view_with
  none_5 sizes e q m s = size_none q (first_none (reason5_at v) (filled_of sizes) e (mem-filter (λ (q : Range). square cells q.cell) sizes m s))

  -- a filling that agrees and meets the rules
  module _ (sizes : List Range) (good : GoodSizes puzzle sizes) (full : List ℕ) (one : OneArrow B (λ c. So (square full c))) (sized : SizesAt sizes puzzle full) where
    -- the squares of the full board
    abbrev F : ℕ → Type 0
    F c = So (square full c)

    low_sound : (q : Range) → Memᴰ q sizes → So (square cells q.cell) → So (too_low q) → Agrees full (low_literals q) → ⊥
    unfolding square each
    low_sound q m s h ag =
        let c = q.cell in
        let ar : OnArrow puzzle.arrows c = (good.each q m).on in
        let w = sized q m (eq-eqb _ _ (ag c 1 (Memᴰ.head refl))) in
        let fence : Fenced B F c = fenced set full c ar s (λ i w k. ag i w (Memᴰ.tail k)) in
        omega (
          arith,
          ltb-true,
          w.least,
          w.block_size.1,
          count_mono w.block_size.0 (Dec-Reach set c) (size grid) (λ x _ b. confined B (decisions set) F one c ar s fence x b),
          length-Reach set c ar s (Dec-Reach set c),
        )

    high_sound : (q : Range) → Memᴰ q sizes → So (square cells q.cell) → So (too_high q) → Agrees full (high_literals q) → ⊥
    unfolding square
    high_sound q m s h ag =
        let c = q.cell in
        let ar : OnArrow puzzle.arrows c = (good.each q m).on in
        let all : (x : ℕ) → Block B c x → F x = λ x b. eq-eqb _ _ (Agrees-each full 1 (block v (sized_name q)) ag x (in_Block set c x ar b)) in
        let w = sized q m (all c (here s)) in
        omega (
          arith,
          ltb-true,
          w.most,
          w.block_size.1,
          count_mono ((decisions set).blk c) w.block_size.0 (size grid) (λ x _ b. Linked-map all b),
          length-block set c ar s,
        )

    -- the reasons of sizes are sound
    pub reason5_sound : (r : List Literal) → reason5 v sizes ≡ some r → Agrees full r → ⊥
    reason5_sound r e ag = go (told_5 sizes r e)
      where
        go : Told5 sizes r → ⊥
        go (told_too_low q m s h z) = low_sound q m s h (subst (Agrees full) (sym z) ag)
        go (told_too_high q m s h z) = high_sound q m s h (subst (Agrees full) (sym z) ag)
