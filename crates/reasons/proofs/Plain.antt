-- The arrows by position, and the block rules as Rules states them and by positions.
-- Assumes nothing.
use Prim.Native.Nat.{ℕ, ◌<◌}
use mathlib.Core.Path.{◌≡◌, refl, sym, ◌∙◌, subst}
use mathlib.Core.Bool.{So}
use mathlib.Core.List.{List, ◌∷◌, ◌++◌, Memᴰ}
use native.Mathlib.Omega.{arith}
use lib.ListN.{length, get_or, take}
use Rattle.grid.proofs.GridLaws.{adj_sym}
use Rattle.grid.proofs.ListLaws.{at_mem, So-false}
use Rattle.grid.specs.Grid.{Grid, size, Adjacent}
use Rattle.grid.proofs.LinkLaws.{Linked-start, Linked-trans, Linked-sym}
use Rattle.record.specs.Record.{Puzzle}
use Rattle.grid.specs.Cells.{square}
use Rattle.grid.proofs.CellLaws.{square_below}
use Rattle.groups.specs.Arrows.{OnArrow, Pair, Parted, pos_last, pos_cur}
use Rattle.groups.proofs.ArrowLaws.{NextAt, at_last, at_cur, pos_below, position, mid, tip, whole, mid_clear}
use Rattle.record.specs.Leaf.{Range, leaf_with}
use Rattle.groups.specs.Rules.{Next, InRange, BlockRules, Grown, SameBlock}
use Rattle.reasons.proofs.Refute.{Rules}

-- one of the arrows
abbrev pub Which : List (List ℕ) → Type 0
Which arrows = (l : List ℕ) × Memᴰ l arrows

-- how many cells it has
abbrev pub line_len : (arrows : List (List ℕ)) → Which arrows → ℕ
line_len arrows t = length t.0

-- its cell at position k
abbrev pub line_at : (arrows : List (List ℕ)) → Which arrows → ℕ → ℕ
line_at arrows t k = get_or t.0 k 0

-- its cells are arrow cells
pub on_line : (arrows : List (List ℕ)) (t : Which arrows) (k : ℕ) → k < line_len arrows t → OnArrow arrows (line_at arrows t k)
on_line arrows t k l = (t.0, t.1, at_mem t.0 k l)

-- the block rules of a full board, by positions
abbrev pub RulesAt : ℕ → Puzzle → List ℕ → Type 0
RulesAt e p full = Rules e (Adjacent p.grid) (OnArrow p.arrows) p.grid (Which p.arrows) (line_len p.arrows) (line_at p.arrows) (λ c. So (square full c))

-- the sizes of a full board
abbrev pub SizesAt : List Range → Puzzle → List ℕ → Type 0
SizesAt sizes p full = (r : Range) → Memᴰ r sizes → So (square full r.cell) → InRange p full r

module _ (e : ℕ) (sizes : List Range) (p : Puzzle) (full : List ℕ) (long : length full ≡ size p.grid) where
  abbrev g : Grid
  g = p.grid

  abbrev arrows : List (List ℕ)
  arrows = p.arrows

  -- the squares of the full board
  abbrev S : ℕ → Type 0
  S c = So (square full c)

  low : (c : ℕ) → S c → c < size g
  low c s = omega (arith, square_below full c s, long)

  -- from the rules as stated to positions
  pub plain_rules : BlockRules (leaf_with e sizes p) full → RulesAt e p full
  plain_rules r = record {
    has = λ c s. let o = r.one c (low c s) s in (o.cell, o.arrow, o.within);
    one = λ d e ad ae l. let o = r.one d (low d (Linked-start l)) (Linked-start l) in
        o.unique d (Linked-trans l (Linked-sym (adj_sym g) l)) ad ∙ sym (o.unique e l ae);
    grow = λ t i j jl pr. r.grown (line_at arrows t i) (line_at arrows t j) (next t i j jl pr);
  }
    where
      next : (t : Which arrows) (i j : ℕ) → j < line_len arrows t → NextAt S (line_at arrows t) i j → Next p full (line_at arrows t i) (line_at arrows t j)
      next t i j jl pr = record {
        before = take i t.0;
        between = mid S t.0 i j jl pr;
        behind = tip S t.0 i j jl pr;
        arrow = subst (λ z. Memᴰ z arrows) (whole S t.0 i j jl pr) t.1;
        first = pr.1;
        second = pr.2;
        none = λ k m. So-false (square full k) (mid_clear S t.0 i j jl pr k m);
      }

  -- and back
  pub rules_plain : RulesAt e p full → SizesAt sizes p full → BlockRules (leaf_with e sizes p) full
  rules_plain r z = record {
    one = λ i l s. let w = r.has i s in record {
      cell = w.0;
      within = w.2;
      arrow = w.1;
      unique = λ j k aj. r.one j w.0 aj w.1 (Linked-trans (Linked-sym (adj_sym g) k) w.2);
    };
    grown = grown;
    sized = z;
  }
    where
      grown : (i j : ℕ) → Next p full i j → Grown e g (SameBlock g full i) (SameBlock g full j)
      grown i j n =
          let pr : Pair = record { last = i; between = n.between; cur = j } in
          let arrow : List ℕ = n.before ++ (i ∷ (n.between ++ (j ∷ n.behind))) in
          let q : Parted full arrow pr = record { before = n.before; behind = n.behind; whole = refl; first = n.first; second = n.second; none = n.none } in
          subst (λ z. Grown e g (SameBlock g full z) (SameBlock g full j)) (at_last full arrow pr q)
          (subst (λ z. Grown e g (SameBlock g full (get_or arrow (pos_last q) 0)) (SameBlock g full z)) (at_cur full arrow pr q)
          (r.grow (arrow, n.arrow) (pos_last q) (pos_cur q) (pos_below full arrow pr q) (position full arrow pr q)))
