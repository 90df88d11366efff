-- `calls::certain_cells::write_certain` meets its contract: the steps are written, and behind them the cells where they are told.
-- Assumes nothing.
use native.Mathlib.Omega.{arith}
use mathlib.Core.Path.{◌≡◌, ap}
use lib.ListN.{length}
use borrow.Author.Rules.{rules}
use Rattle.certain.specs.Told.{answer_as, cells_as, facts_as}
use Rattle.calls.proofs.ToldLaws.{Says-told, Says-none, Says-spent}
use Rattle.calls.proofs.certain_cells.write_certain.Goals as goal

pub returns-in-Told : goal.returns-in-Told
returns-in-Told c =
    let told = facts_as c.args.facts.now in
    let cells : told.cells ≡ c.in-Told.cells = ap cells_as c.in-Told.is in
    let long : length c.write_behind.new.output ≡ length c.args.output.now = search rules in
    let s = Says-told c.args.n told c.args.output.now (ap answer_as c.in-Told.is) c.requires.1 long c.write_steps.ensures (rw cells c.write_behind.ensures) in
    record { number = s.0; few = omega arith; bytes = s.1 }

pub returns-in-Impossible : goal.returns-in-Impossible
returns-in-Impossible c =
    let s = Says-none c.args.n (facts_as c.args.facts.now) c.args.output.now (ap answer_as c.in-Impossible.is) c.write_steps.ensures in
    record { number = s.0; few = omega arith; bytes = s.1 }

pub returns-in-Spent : goal.returns-in-Spent
returns-in-Spent c =
    let s = Says-spent c.args.n (facts_as c.args.facts.now) c.args.output.now (ap answer_as c.in-Spent.is) c.write_steps.ensures in
    record { number = s.0; few = omega arith; bytes = s.1 }
