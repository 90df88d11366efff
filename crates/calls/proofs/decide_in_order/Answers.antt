-- `calls::decide_in_order` meets its contract: the decisions are placed on the arrays of the fresh board of a puzzle of the grid.
-- Assumes nothing.
use Prim.Native.Nat.{ℕ}
use mathlib.Core.Path.{◌≡◌, refl, sym, subst}
use mathlib.Core.Bool.{true}
use mathlib.Core.List.{List, []}
use lib.ListN.{replicate}
use Rattle.grid.specs.Grid.{size}
use Rattle.grid.specs.Side.{sized}
use Rattle.record.specs.Record.{Puzzle}
use Rattle.record.specs.Problem.{problem_of, grid_of}
use Rattle.record.specs.Valid.{Valid}
use Rattle.record.specs.Leaf.{in_edition}
use Rattle.sizes.specs.Kept.{lowest_of, highest_of}
use Rattle.board.specs.Form.{well_formed}
use Rattle.board.specs.Decide.{with_decisions, placed_from}
use Rattle.board.specs.Inside.{fresh_of, Stands}
use Rattle.board.specs.declared.Board.{Board}
use Rattle.std.specs.Prelude.{Ok, Err}
use Rattle.fields.proofs.OutcomeLaws.{agrees_fault}
use Rattle.calls.proofs.Steps.{fresh_well, decides, first_leaf, fresh_first, plain, plain_Valid}
use Rattle.calls.proofs.decide_in_order.Goals as goal

-- the fresh board of a puzzle in edition 1 without sizes
abbrev fresh : Puzzle → Board
fresh p = fresh_of (problem_of p) 1 (lowest_of []) (highest_of [])

-- a fresh board has a well formed one's arrays
well : (p : Puzzle) → Valid p → well_formed (with_decisions (fresh p) (replicate 1024 2) (replicate 1024 0) 0) ≡ true
well p v = fresh_well (in_edition 1 p) (first_leaf p v) (fresh_first p v)

pub place_all-requires : goal.place_all-requires
unfolding grid_of problem_of plain size
place_all-requires c =
    let g = sized c.args.grid.height c.args.grid.width in
    record { given = record { board = fresh (plain g); area = sym c.size.ensures.value; well = well (plain g) (plain_Valid g c.requires (c.args.grid.tall, c.args.grid.wide)) } }

pub returns-in_err-place_all : goal.returns-in_err-place_all
unfolding grid_of problem_of plain size
returns-in_err-place_all c =
    let g = sized c.args.grid.height c.args.grid.width in
    let p = plain g in
    let v = plain_Valid g c.requires (c.args.grid.tall, c.args.grid.wide) in
    agrees_fault _ c.from_residual.result c.in_err-place_all.field-0.0 c.from_residual.ensures.1
    (decides (in_edition 1 p) (first_leaf p v) (fresh_first p v) c.args.decisions.now c.place_all.new.cells c.place_all.new.order c.place_all.new.decided (Err c.in_err-place_all.field-0.0) (c.in_err-place_all.ensures (fresh p) (sym c.size.ensures.value) (well p v)))

pub returns : goal.returns
unfolding grid_of problem_of plain size
returns c =
    let g = sized c.args.grid.height c.args.grid.width in
    let p = plain g in
    let v = plain_Valid g c.requires (c.args.grid.tall, c.args.grid.wide) in
    decides (in_edition 1 p) (first_leaf p v) (fresh_first p v) c.args.decisions.now c.place_all.new.cells c.place_all.new.order c.place_all.new.decided (Ok tt) (c.in_ok-place_all.ensures (fresh p) (sym c.size.ensures.value) (well p v))
