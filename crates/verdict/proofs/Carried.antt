-- A reason that applies on a board applies on every board that is the same up to the names of its cells.
-- Assumes nothing.
use Prim.Native.Nat.{ℕ, ◌+◌, ◌<◌}
use mathlib.Core.Logic.{◌⊎◌, inl, inr}
use mathlib.Core.Path.{◌≡◌, sym, ap, ◌∙◌, subst}
use mathlib.Core.Bool.{false}
use mathlib.Core.List.{List, map, Memᴰ}
use Rattle.grid.specs.Lists.{init, tail}
use Rattle.grid.proofs.ListLaws.{init-mem, tail-mem, init-map, tail-map}
use Rattle.grid.specs.Grid.{size}
use Rattle.record.specs.Leaf.{Range}
use Rattle.groups.specs.Rules.{Contains, Next}
use Rattle.kinds.specs.Meaning.{Setting, partial_of, Block, Reach}
use Rattle.kinds.proofs.Bridge.{sq<}
use Rattle.units.specs.Chosen.{SamePotential}
use Rattle.growth.specs.Growth.{most_apart}
use Rattle.verdict.specs.Applies.{Lone, TwoArrowCells, NoShift, Unshiftable, TooSmall, TooLarge, Misgrown, TooLow, TooHigh, OutOfRange}
use Rattle.verdict.specs.Isomorphism.{range_to}
use Rattle.verdict.proofs.AlikeLaws.{grid_of, Alike, reverse, arrow<, both_home, square_to, arrow_to, potential_to, Block-to, block_Size_to, reach_Size_to, Contains-to, apart_same, between<, Next-to}

module _ {a b : Setting} {to from : ℕ → ℕ} (s : Alike a b to from) where
  open s use {there, home}

  pub Lone-to : Lone a.puzzle a.cells → Lone b.puzzle b.cells
  Lone-to r = record {
    cell = to r.cell;
    filled = square_to s r.cell r.filled;
    none = λ c l o. r.none (from c)
        (subst (λ z. SamePotential (grid_of a) a.cells z (from c)) (home r.cell (sq< a r.cell r.filled)) (potential_to (reverse s) (to r.cell) c l))
        (arrow_to (reverse s) c o);
  }

  pub TwoArrowCells-to : TwoArrowCells a.puzzle a.cells → TwoArrowCells b.puzzle b.cells
  TwoArrowCells-to r = record {
    a = to r.a;
    b = to r.b;
    one = arrow_to s r.a r.one;
    two = arrow_to s r.b r.two;
    differ = λ e. r.differ (both_home s (λ x y. x ≡ y) r.a r.b (arrow< a r.a r.one) (arrow< a r.b r.two) (ap from e));
    joined = Block-to s r.a r.b r.joined;
  }

  module _ (i j : ℕ) (n : Next a.puzzle a.cells i j) where
    -- both lie on the grid
    il : i < size (grid_of a)
    il = sq< a i n.first

    jl : j < size (grid_of a)
    jl = sq< a j n.second

    NoShift-to : NoShift a.puzzle a.cells i j → NoShift b.puzzle b.cells (to i) (to j)
    NoShift-to r t c =
        let w = Contains-to (reverse s) (to i) (to j) (there.into i il) (there.into j jl) t c in
        r w.0 (both_home s (λ x y. Contains (grid_of a) w.0 (Block (partial_of a) x) (Reach (partial_of a) y)) i j il jl w.1)

    TooSmall-to : TooSmall a.puzzle a.cells i j → TooSmall b.puzzle b.cells (to i) (to j)
    TooSmall-to r = record {
      reached = r.reached;
      filled = r.filled;
      reach_size = reach_Size_to s j jl r.reached r.reach_size;
      block_size = block_Size_to s i il r.filled r.block_size;
      less = r.less;
    }

    -- the gap goes over
    gap_same : most_apart b.cells false (tail (init (map to n.between))) ≡ most_apart a.cells false (tail (init n.between))
    gap_same =
        ap (λ z. most_apart b.cells false (tail z)) (init-map to n.between)
        ∙ ap (most_apart b.cells false) (tail-map to (init n.between))
        ∙ apart_same s false (tail (init n.between)) (λ x m. between< s i j n x (init-mem n.between (tail-mem (init n.between) m)))

    TooLarge-to : TooLarge a.puzzle a.cells i n.between j → TooLarge b.puzzle b.cells (to i) (map to n.between) (to j)
    TooLarge-to r = record {
      reached = r.reached;
      filled = r.filled;
      reach_size = reach_Size_to s i il r.reached r.reach_size;
      block_size = block_Size_to s j jl r.filled r.block_size;
      less = subst (λ z. r.reached + 1 + z < r.filled) (sym gap_same) r.less;
    }

  pub Unshiftable-to : Unshiftable a.puzzle a.cells → Unshiftable b.puzzle b.cells
  Unshiftable-to r = record { last = to r.last; cur = to r.cur; next = Next-to s r.last r.cur r.next; no_shift = NoShift-to r.last r.cur r.next r.no_shift }

  pub Misgrown-to : (e : ℕ) → Misgrown a.puzzle a.cells e → Misgrown b.puzzle b.cells e
  Misgrown-to e r = record { last = to r.last; cur = to r.cur; next = Next-to s r.last r.cur r.next; wrong = go r.wrong }
    where
      go : TooSmall a.puzzle a.cells r.last r.cur ⊎ ((e ≡ 1) × TooLarge a.puzzle a.cells r.last r.next.between r.cur)
          → TooSmall b.puzzle b.cells (to r.last) (to r.cur) ⊎ ((e ≡ 1) × TooLarge b.puzzle b.cells (to r.last) (map to r.next.between) (to r.cur))
      go (inl w) = inl (TooSmall-to r.last r.cur r.next w)
      go (inr (q, w)) = inr (q, TooLarge-to r.last r.cur r.next w)

  -- with every size at the cell that its cell is taken to
  pub OutOfRange-to : {sizes sizes' : List Range} → ((r : Range) → Memᴰ r sizes → Memᴰ (range_to to r) sizes')
      → OutOfRange a.puzzle a.cells sizes → OutOfRange b.puzzle b.cells sizes'
  OutOfRange-to z r = record { range = range_to to r.range; listed = z r.range r.listed; filled = square_to s r.range.cell r.filled; wrong = go r.wrong }
    where
      l : r.range.cell < size (grid_of a)
      l = sq< a r.range.cell r.filled

      go : TooLow a.puzzle a.cells r.range ⊎ TooHigh a.puzzle a.cells r.range
          → TooLow b.puzzle b.cells (range_to to r.range) ⊎ TooHigh b.puzzle b.cells (range_to to r.range)
      go (inl w) = inl (record { reached = w.reached; reach_size = reach_Size_to s r.range.cell l w.reached w.reach_size; less = w.less })
      go (inr w) = inr (record { filled = w.filled; block_size = block_Size_to s r.range.cell l w.filled w.block_size; more = w.more })
