-- `clauses::write_puzzle` meets its contract: the length is counted first, and what is written then is the sheet.
-- Assumes nothing.
use native.Mathlib.Omega.{arith}
use mathlib.Core.Path.{refl}
use Rattle.std.proofs.Common.{rules}
use Rattle.clauses.proofs.AnswerLaws.{long, Writes-13, Writes-sheet}
use Rattle.clauses.proofs.write_puzzle.Goals as goal

pub returns-then-output-count : goal.returns-then-output-count
returns-then-output-count c =
    let w = c.write_sheet.ensures in
    Writes-13 c.args.puzzle.now w.few refl w.sheet c.args.output.now c.if-output-count.true

pub returns : goal.returns
returns c =
    let w = c.write_sheet.ensures in
    Writes-sheet c.args.puzzle.now w.few refl c.write_sheet-2.ensures.sheet c.args.output.now refl
    (omega (arith, c.if-output-count.false, long c.args.puzzle.now w.few refl w.sheet c.args.output.now)) _ (search rules)
