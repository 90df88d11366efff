-- What two squares on every arrow mean: under the block rules they are two different blocks. So a full board is finished exactly when black and
-- given cells are kept, the block rules hold and each arrow passes two different blocks or more.
-- Assumes nothing.
use Prim.Native.Nat.{ℕ, ◌≤◌, ◌<◌}
use native.Mathlib.Omega.{arith}
use native.Mathlib.Decide.{ℕ_discrete}
use mathlib.Core.Logic.{◌↔◌}
use mathlib.Core.Path.{◌≡◌, sym, ◌∙◌}
use mathlib.Core.Bool.{true}
use mathlib.Core.List.Memᴰ
use mathlib.Core.List.{List, [], ◌∷◌, Memᴰ}
use lib.Dec.{eqb}
use lib.ListN.{get_or}
use borrow.Author.Tests.{eqb-true, eq-eqb}
use Rattle.grid.specs.Link.{here}
use Rattle.grid.specs.Grid.{size}
use Rattle.grid.specs.Cells.{square}
use Rattle.record.specs.Record.{ok}
use Rattle.grid.proofs.CellLaws.{square_below}
use Rattle.record.specs.Leaf.{Leaf, leaf_of}
use Rattle.record.specs.Valid.{ValidArrows}
use Rattle.record.proofs.LineLaws.{valid_arrows}
use Rattle.record.proofs.LeafLaws.{leaf_valid}
use Rattle.board.specs.Board.{Full}
use Rattle.groups.specs.Rules.{BlockRules}
use Rattle.finished.specs.Finished.{KeepsGiven, TwoSquares, TwoBlocks, Finished}

module _ (l : Leaf) (lines : ValidArrows l.puzzle.grid l.puzzle.arrows) (cells : List ℕ) (rules : BlockRules l cells) (a : List ℕ) (m : Memᴰ a l.puzzle.arrows) where
  -- a block has exactly one arrow cell, so two squares of an arrow are not in one
  squares_blocks : TwoSquares cells a → TwoBlocks l.puzzle cells a
  squares_blocks t =
      let o = rules.one t.first (lines.on a m t.first t.on.0) t.squares.0 in
      record {
        first = t.first;
        second = t.second;
        on = t.on;
        squares = t.squares;
        apart = λ b. t.apart (o.unique t.first (here t.squares.0) (a, m, t.on.0) ∙ sym (o.unique t.second b (a, m, t.on.1)));
      }

  -- a square is in its own block, so those of two blocks are two
  blocks_squares : TwoBlocks l.puzzle cells a → TwoSquares cells a
  blocks_squares t = record { first = t.first; second = t.second; on = t.on; squares = t.squares; apart = λ e. t.apart (rw (← e) (here t.squares.0)) }

-- a full board of an accepted record is finished in its edition, with its sizes, exactly when black and given cells are kept, the block rules hold and each arrow passes two
-- different blocks or more
pub Finished-blocks : (s : List ℕ) (e : ℕ) (ns : List ℕ) (l : Leaf) → leaf_of s e ns ≡ ok l → (cells : List ℕ) → Full l.puzzle.grid cells
    → Finished l cells ↔ (KeepsGiven l.puzzle cells × BlockRules l cells × ((a : List ℕ) → Memᴰ a l.puzzle.arrows → TwoBlocks l.puzzle cells a))
Finished-blocks s e ns l k cells full =
    let lines = valid_arrows l.puzzle (leaf_valid s e ns k).puzzle in (
      λ f. (f.kept, f.rules, λ a m. squares_blocks l lines cells f.rules a m (f.two a m)),
      λ w. record { decided = full; kept = w.0; rules = w.1; two = λ a m. blocks_squares l lines cells w.1 a m (w.2 a m) },
    )

-- a puzzle with an arrow of one cell is never finished
pub one_cell_never : (l : Leaf) (i : ℕ) → Memᴰ (i ∷ []) l.puzzle.arrows → (cells : List ℕ) → ¬ Finished l cells
one_cell_never l i m cells f =
    let t = f.two (i ∷ []) m in
    t.apart (Memᴰ.eq_of_singleton t.on.0 ∙ sym (Memᴰ.eq_of_singleton t.on.1))

not_one : (x : ℕ) → x ≤ 1 → ¬ (eqb x 1 ≡ true) → x ≡ 0
not_one x h n = go (ℕ_discrete x 1)
  where
    go : Dec (x ≡ 1) → x ≡ 0
    go (yes e) = absurd (n (eq-eqb x 1 e))
    go (no m) = omega arith

-- a full board of a puzzle with no arrow is finished exactly when all its cells are empty and no square is given
pub no_arrow : (l : Leaf) → l.puzzle.arrows ≡ [] → (cells : List ℕ) → Full l.puzzle.grid cells
    → Finished l cells ↔ (((i : ℕ) → i < size l.puzzle.grid → get_or cells i 0 ≡ 0) × ((i : ℕ) → i < size l.puzzle.grid → ¬ (get_or l.puzzle.given i 0 ≡ 2)))
unfolding square
no_arrow l e cells full = (
  λ f. let none : (i : ℕ) → i < size l.puzzle.grid → ¬ (square cells i ≡ true) = λ i h q. let o = f.rules.one i h q in nowhere o.arrow in
      let empty : (i : ℕ) → i < size l.puzzle.grid → get_or cells i 0 ≡ 0 = λ i h. not_one (get_or cells i 0) (full.each i h) (none i h) in
      (empty, λ i h g. omega (arith, empty i h, f.kept.given i h g)),
  λ w. record {
    decided = full;
    kept = record { black = λ i h _. w.0 i h; given = λ i h g. absurd (w.1 i h g) };
    rules = record {
      one = λ i h q. absurd (omega (arith, w.0 i h, eqb-true (get_or cells i 0) 1 q));
      grown = λ i j n. absurd (Memᴰ.not-nil (rw e at n.arrow));
      sized = λ r m q. absurd (omega (arith, w.0 r.cell (omega (arith, square_below cells r.cell q, full.long)), eqb-true (get_or cells r.cell 0) 1 q));
    };
    two = λ a m. absurd (Memᴰ.not-nil (rw e at m));
  },
)
  where
    nowhere : {i : ℕ} → (a : List ℕ) × Memᴰ a l.puzzle.arrows × Memᴰ i a → ⊥
    nowhere o = Memᴰ.not-nil (rw e at o.1)
