-- The definitions give each reason exactly where it applies.
-- Assumes nothing.
use Prim.Native.Nat.{ℕ, ◌+◌}
use native.Mathlib.Omega.{arith}
use mathlib.Core.Logic.{◌↔◌, ◌⊎◌, inl, inr}
use mathlib.Core.Path.{◌≡◌, refl, sym, ◌∙◌, subst}
use mathlib.Core.Bool.{Bool, false, So}
use mathlib.Core.List.{List, Memᴰ}
use mathlib.Core.Option.{none, some}
use lib.ListN.{length}
use Rattle.grid.specs.Lists.{init, tail, filter}
use Rattle.grid.specs.Grid.{Grid, size}
use Rattle.grid.specs.Cells.{square, ValidCells}
use Rattle.grid.proofs.ListLaws.{filter-mem, mem-filter}
use Rattle.grid.proofs.LinkLaws.{Linked-trans, Linked-map, Linked-end}
use Rattle.grid.proofs.Count.{count_iff}
use Rattle.record.proofs.LineLaws.{valid_arrows}
use Rattle.record.specs.Leaf.{Range, Leaf, leaf_with}
use Rattle.record.proofs.LeafLaws.{ValidLeaf}
use Rattle.groups.specs.Arrows.{OnArrow, Pair}
use Rattle.groups.specs.Rules.{Next}
use Rattle.groups.proofs.RulesLaws.{Next-pair, pair_Next}
use Rattle.kinds.specs.Kinds.{View, view, view_with, block, reach}
use Rattle.kinds.specs.Meaning.{Setting}
use Rattle.kinds.proofs.Bridge.{decisions, Dec-Reach, block_name}
use Rattle.kinds.proofs.Fence.{length-Reach, length-block}
use Rattle.literals.specs.Literals.{first_found_of}
use Rattle.units.specs.Units.{reason1}
use Rattle.paths.specs.Paths.{reason2}
use Rattle.growth.specs.Growth.{block_name as view_name, gap, most_apart, reason3_at, reason4a_at, reason4b_at, reason4_at, reason34}
use Rattle.growth.proofs.Gap.{most_apart_lem}
use Rattle.sized.specs.Sized.{reason_low, reason_high, reason5_at, reason5}
use Rattle.reasons.specs.Reasons.{find_reason}
use Rattle.reasons.proofs.Sound1.{filled_So}
use Rattle.reasons.proofs.Sound2.{Two-of}
use Rattle.reasons.proofs.Quiet12.{quiet_1, quiet_2}
use Rattle.reasons.proofs.Sound34.{placed, three_some, three_none}
use Rattle.reasons.proofs.Chosen.{Reason1-chosen}
use Rattle.verdict.specs.Applies.{ReachOf, BlockOf, Size, Lone, TwoArrowCells, NoShift, Unshiftable, TooSmall, TooLarge, Misgrown, TooLow, TooHigh, OutOfRange, Applies, first, second, third, fourth, fifth, Given, pairs_of, Meant}
use Rattle.verdict.proofs.GivenLaws.{Given-not, Given-or, Given-first, Given-less, Given-one}

module _ (set : Setting) where
  open set use {puzzle, cells, valid}

  abbrev grid : Grid
  grid = puzzle.grid

  abbrev arrows : List (List ℕ)
  arrows = puzzle.arrows

  -- the view of the board
  abbrev v : View
  v = view puzzle cells

  -- ---- reasons 1 and 2

  lone : Given (reason1 puzzle cells) ↔ Lone puzzle cells
  lone = (
    λ (r, e).
        let w = ((Reason1-chosen puzzle cells valid.long r).0 e).stranded in
        record { cell = w.some.0; filled = w.some.2; none = λ c l. w.none c (Linked-trans w.some.1 l) },
    λ w. Given-not (reason1 puzzle cells) (λ e. quiet_1 set e w.cell w.filled (λ c l. w.none c (Linked-map (λ x q. filled_So set x (Linked-end q)) l))),
  )

  two_arrow_cells : Given (reason2 puzzle cells) ↔ TwoArrowCells puzzle cells
  two_arrow_cells = (
    λ (r, e).
        let w = Two-of set r e in
        record { a = w.b; b = w.a; one = w.arrow_b; two = w.arrow_a; differ = λ q. w.differ (sym q); joined = w.joined },
    λ w. Given-not (reason2 puzzle cells) (λ e. quiet_2 set e w.a w.b w.one w.two w.differ w.joined),
  )

  -- ---- reason 3

  -- of a pair
  no_shift : (q : Pair) → Memᴰ q (pairs_of puzzle cells) → Given (reason3_at v q) ↔ NoShift puzzle cells q.last q.cur
  no_shift q m =
      let w = placed set q m in (
        λ (r, h). subst (λ (z : Pair). NoShift puzzle cells z.last z.cur) (sym w.is) (three_some set w.spot r (subst (λ z. reason3_at v z ≡ some r) w.is h)).1,
        λ n. Given-not (reason3_at v q) (λ h.
            let k = three_none set w.spot (subst (λ z. reason3_at v z ≡ none) w.is h) in
            subst (λ (z : Pair). NoShift puzzle cells z.last z.cur) w.is n k.0 k.1),
      )

  unshiftable : Given (first_found_of (reason3_at v) (pairs_of puzzle cells)) ↔ Unshiftable puzzle cells
  unshiftable =
      let w = Given-first (reason3_at v) (pairs_of puzzle cells) in (
        λ g. let (q, m, k) = w.0 g in record { last = q.last; cur = q.cur; next = Next-pair puzzle cells valid.long q m; no_shift = (no_shift q m).0 k },
        λ u.
            let q : Pair = record { last = u.last; between = u.next.between; cur = u.cur } in
            let m : Memᴰ q (pairs_of puzzle cells) = pair_Next puzzle cells valid.long u.last u.cur u.next in
            w.1 (q, m, (no_shift q m).1 u.no_shift),
      )

  -- ---- the sizes of blocks and reaches

  module _ (c : ℕ) (o : OnArrow arrows c) (s : So (square cells c)) where
    reach-Size : (k : ℕ) → Size puzzle (ReachOf puzzle cells c) k → length (reach v (block_name set c)) ≡ k
    reach-Size k (d, e) = length-Reach set c o s d ∙ e

    Size-reach : Size puzzle (ReachOf puzzle cells c) (length (reach v (block_name set c)))
    Size-reach = (Dec-Reach set c, sym (length-Reach set c o s (Dec-Reach set c)))

    block-Size : (k : ℕ) → Size puzzle (BlockOf puzzle cells c) k → length (block v (block_name set c)) ≡ k
    block-Size k (d, e) = length-block set c o s ∙ count_iff ((decisions set).blk c) d (size grid) (λ i _ h. h) (λ i _ h. h) ∙ e

    Size-block : Size puzzle (BlockOf puzzle cells c) (length (block v (block_name set c)))
    Size-block = ((decisions set).blk c, sym (length-block set c o s))

  -- ---- reason 4

  module _ (q : Pair) (n : Next puzzle cells q.last q.cur) where
    -- both are arrow cells
    last_on : OnArrow arrows q.last
    last_on = (_, n.arrow, mathlib.Core.List.Memᴰ.append_right n.before (mathlib.Core.List.Memᴰ.head refl))

    cur_on : OnArrow arrows q.cur
    cur_on = (_, n.arrow, mathlib.Core.List.Memᴰ.append_right n.before (mathlib.Core.List.Memᴰ.tail (mathlib.Core.List.Memᴰ.append_right n.between (mathlib.Core.List.Memᴰ.head refl))))

    too_small : Given (reason4a_at v q) ↔ TooSmall puzzle cells q.last q.cur
    unfolding reason4a_at view_name view view_with
    too_small =
        let w = Given-less (length (reach v (block_name set q.cur))) (length (block v (block_name set q.last)) + 1) _ in (
          λ g. record { reached = _; filled = _; reach_size = Size-reach q.cur cur_on n.second; block_size = Size-block q.last last_on n.first; less = w.0 g },
          λ t. w.1 (omega (arith, t.less, reach-Size q.cur cur_on n.second t.reached t.reach_size, block-Size q.last last_on n.first t.filled t.block_size)),
        )

    too_large : Given (reason4b_at v q) ↔ TooLarge puzzle cells q.last q.between q.cur
    unfolding reason4b_at view_name view view_with gap
    too_large =
        let w = Given-less (length (reach v (block_name set q.last)) + 1 + most_apart cells false (tail (init q.between))) (length (block v (block_name set q.cur))) _ in (
          λ g. record { reached = _; filled = _; reach_size = Size-reach q.last last_on n.first; block_size = Size-block q.cur cur_on n.second; less = w.0 g },
          λ t. w.1 (omega (arith, t.less, reach-Size q.last last_on n.first t.reached t.reach_size, block-Size q.cur cur_on n.second t.filled t.block_size)),
        )

    wrong : (e : ℕ) → Given (reason4_at v q e) ↔ (TooSmall puzzle cells q.last q.cur ⊎ ((e ≡ 1) × TooLarge puzzle cells q.last q.between q.cur))
    unfolding reason4_at
    wrong e =
        let w = Given-one e (reason4b_at v q) in
        Given-or (reason4a_at v q) _ too_small (λ g. let k = w.0 g in (k.0, too_large.0 k.1), λ k. w.1 (k.0, too_large.1 k.1))

  misgrown : (e : ℕ) → Given (first_found_of (λ q. reason4_at v q e) (pairs_of puzzle cells)) ↔ Misgrown puzzle cells e
  misgrown e =
      let w = Given-first (λ q. reason4_at v q e) (pairs_of puzzle cells) in (
        λ g. let (q, m, k) = w.0 g in record { last = q.last; cur = q.cur; next = Next-pair puzzle cells valid.long q m; wrong = (wrong q (Next-pair puzzle cells valid.long q m) e).0 k },
        λ u.
            let q : Pair = record { last = u.last; between = u.next.between; cur = u.cur } in
            w.1 (q, pair_Next puzzle cells valid.long u.last u.cur u.next, (wrong q u.next e).1 u.wrong),
      )

  -- ---- reason 5

  module _ (r : Range) (o : OnArrow arrows r.cell) (s : So (square cells r.cell)) where
    too_low : Given (reason_low v r) ↔ TooLow puzzle cells r
    unfolding reason_low view_name view view_with
    too_low =
        let w = Given-less (length (reach v (block_name set r.cell))) r.lowest _ in (
          λ g. record { reached = _; reach_size = Size-reach r.cell o s; less = w.0 g },
          λ t. w.1 (omega (arith, t.less, reach-Size r.cell o s t.reached t.reach_size)),
        )

    too_high : Given (reason_high v r) ↔ TooHigh puzzle cells r
    unfolding reason_high view_name view view_with
    too_high =
        let w = Given-less r.highest (length (block v (block_name set r.cell))) _ in (
          λ g. record { filled = _; block_size = Size-block r.cell o s; more = w.0 g },
          λ t. w.1 (omega (arith, t.more, block-Size r.cell o s t.filled t.block_size)),
        )

    out : Given (reason5_at v r) ↔ (TooLow puzzle cells r ⊎ TooHigh puzzle cells r)
    unfolding reason5_at
    out = Given-or (reason_low v r) (reason_high v r) too_low too_high

  module _ (e : ℕ) (sizes : List Range) (on : (r : Range) → Memᴰ r sizes → OnArrow arrows r.cell) where
    -- the sized cell is square
    abbrev filled : Range → Bool
    filled r = square cells r.cell

    out_of_range : Given (reason5 v sizes) ↔ OutOfRange puzzle cells sizes
    unfolding reason5 view view_with
    out_of_range =
        let w = Given-first (reason5_at v) (filter filled sizes) in (
          λ g. let (r, m, k) = w.0 g in let f = filter-mem filled sizes m in record { range = r; listed = f.0; filled = f.1; wrong = (out r (on r f.0) f.1).0 k },
          λ u. w.1 (u.range, mem-filter filled sizes u.listed u.filled, (out u.range (on u.range u.listed) u.filled).1 u.wrong),
        )

    -- ---- some reason

    -- one of five
    abbrev Some : Type 0
    Some = Lone puzzle cells ⊎ (TwoArrowCells puzzle cells ⊎ ((Unshiftable puzzle cells ⊎ Misgrown puzzle cells e) ⊎ OutOfRange puzzle cells sizes))

    applies : Some → Applies (leaf_with e sizes puzzle) cells
    applies (inl w) = first w
    applies (inr (inl w)) = second w
    applies (inr (inr (inl (inl w)))) = third w
    applies (inr (inr (inl (inr w)))) = fourth w
    applies (inr (inr (inr w))) = fifth w

    of_Applies : Applies (leaf_with e sizes puzzle) cells → Some
    of_Applies (first w) = inl w
    of_Applies (second w) = inr (inl w)
    of_Applies (third w) = inr (inr (inl (inl w)))
    of_Applies (fourth w) = inr (inr (inl (inr w)))
    of_Applies (fifth w) = inr (inr (inr w))

    some_Applies : Given (find_reason (leaf_with e sizes puzzle) cells) ↔ Applies (leaf_with e sizes puzzle) cells
    unfolding find_reason reason34 view view_with
    some_Applies =
        let w = Given-or (reason1 puzzle cells) _ lone (Given-or (reason2 puzzle cells) _ two_arrow_cells (Given-or (reason34 e v) (reason5 v sizes)
        (Given-or (first_found_of (reason3_at v) (pairs_of puzzle cells)) (first_found_of (λ q. reason4_at v q e) (pairs_of puzzle cells)) unshiftable (misgrown e)) out_of_range)) in
        (λ g. applies (w.0 g), λ u. w.1 (of_Applies u))

-- so it is on the cells of every board of a leaf that may stand
pub meant : (l : Leaf) → ValidLeaf l → (cells : List ℕ) → ValidCells l.puzzle.grid cells → Meant l cells
meant l v cells valid =
    let set : Setting = record { puzzle = l.puzzle; lines = valid_arrows l.puzzle v.puzzle; cells = cells; valid = valid } in
    let on : (r : Range) → Memᴰ r l.sizes → OnArrow l.puzzle.arrows r.cell = λ r m. (v.sizes.each r m).on in
    record {
      one = lone set;
      two = two_arrow_cells set;
      three = unshiftable set;
      four = misgrown set l.edition;
      gap = most_apart_lem cells;
      five = out_of_range set l.edition l.sizes on;
      some = some_Applies set l.edition l.sizes on;
    }
