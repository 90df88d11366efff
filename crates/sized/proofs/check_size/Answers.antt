-- `sized::check_size` meets its contract: the name of a sized square's block is in the array, and its reach and its size are held against the sizes.
-- Assumes nothing.
use Prim.Native.Nat.{ℕ}
use native.Mathlib.Omega.{arith}
use mathlib.Core.Path.{◌≡◌, refl, ◌∙◌}
use mathlib.Core.Bool.{true, false}
use mathlib.Core.List.{List}
use lib.ListN.{get_or}
use borrow.Author.Tests.{eq-eqb, ne_eqb}
use Rattle.grid.specs.Cells.{square}
use Rattle.growth.specs.Pairs.{view_on}
use Rattle.growth.proofs.PairSizes.{view_size}
use Rattle.sized.proofs.SizeLaws.{is_within, is_low, is_high, not_sized, not_square, size_kind, size_low, low_found, size_none, high_found}
use Rattle.sized.proofs.check_size.Goals as goal

-- a cell that is 1 is square, and one that is not is not
closed-cell : (cells : List ℕ) (i : ℕ) → get_or cells i 0 ≡ 1 → square cells i ≡ true
unfolding square
closed-cell cells i h = eq-eqb (get_or cells i 0) 1 h

open-cell : (cells : List ℕ) (i : ℕ) → (get_or cells i 0 ≡ 1 → ⊥) → square cells i ≡ false
unfolding square
open-cell cells i h = ne_eqb (get_or cells i 0) 1 h

pub returns-then-low-eq0 : goal.returns-then-low-eq0
returns-then-low-eq0 c = λ lines k. not_sized k c.args.i c.requires.cell (rw c.from-low.ensures at c.if-low-eq0.true) c.args.buffer.now

pub returns-then-info-i-ne-SQUARE : goal.returns-then-info-i-ne-SQUARE
returns-then-info-i-ne-SQUARE c = λ lines k. not_square k c.args.i c.requires.cell (rw c.from-low.ensures at c.if-low-eq0.false) (open-cell _ c.args.i c.if-info-i-ne-SQUARE.true) c.args.buffer.now

pub count_reach-reach-requires : goal.count_reach-reach-requires
count_reach-reach-requires c =
    let grid = c.args.scene.now.linked.info.grid in
    record { name = size_low c.args.i c.requires.board c.requires.cell (rw c.from-low.ensures at c.if-low-eq0.false) c.if-info-i-ne-SQUARE.false grid.tall grid.wide }

pub block_size-size-requires : goal.block_size-size-requires
block_size-size-requires c =
    let grid = c.args.scene.now.linked.info.grid in
    record { name = size_low c.args.i c.requires.board c.requires.cell (rw c.from-low.ensures at c.if-low-eq0.false) c.if-info-i-ne-SQUARE.false grid.tall grid.wide }

pub returns-in-Low : goal.returns-in-Low
returns-in-Low c = λ lines k.
    let filled = closed-cell c.args.scene.now.linked.info.cells.now c.args.i c.if-info-i-ne-SQUARE.false in
    let kind = size_kind k c.args.i c.requires.cell (rw c.from-low.ensures at c.if-low-eq0.false) filled in
    low_found k c.args.i c.requires.cell (rw c.from-low.ensures at c.if-low-eq0.false) filled refl
    (omega (arith, is_low c.in-Low.ensures, c.count_reach-reach.ensures lines k.held kind))
    (c.reason_for_cell.ensures lines k.held)

pub returns-in-High : goal.returns-in-High
returns-in-High c = λ lines k.
    let info = c.args.scene.now.linked.info in
    let filled = closed-cell info.cells.now c.args.i c.if-info-i-ne-SQUARE.false in
    let kind = size_kind k c.args.i c.requires.cell (rw c.from-low.ensures at c.if-low-eq0.false) filled in
    let q = is_high c.in-High.ensures in
    high_found k c.args.i c.requires.cell (rw c.from-low.ensures at c.if-low-eq0.false) filled refl
    (omega (arith, q.0, c.count_reach-reach.ensures lines k.held kind))
    (omega (arith, q.1, c.block_size-size.ensures lines k.held kind))
    (c.reason_for_arrow_block.ensures.wrote (view_on info.grid.height info.grid.width lines info.cells.now) k.held (c.size-n.ensures.value ∙ view_size info.grid.height info.grid.width lines info.cells.now))

pub returns-in-Within : goal.returns-in-Within
returns-in-Within c = λ lines k.
    let filled = closed-cell c.args.scene.now.linked.info.cells.now c.args.i c.if-info-i-ne-SQUARE.false in
    let kind = size_kind k c.args.i c.requires.cell (rw c.from-low.ensures at c.if-low-eq0.false) filled in
    let q = is_within c.in-Within.ensures in
    size_none k c.args.i c.requires.cell (rw c.from-low.ensures at c.if-low-eq0.false) filled refl
    (omega (arith, q.0, c.count_reach-reach.ensures lines k.held kind))
    (omega (arith, q.1, c.block_size-size.ensures lines k.held kind))
