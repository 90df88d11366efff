-- `answer::respond` meets its contract: what the program finds, and its text.
-- Assumes nothing.
use native.Mathlib.Omega.{arith}
use Rattle.answer.proofs.Answers.{count_small, text_printed}
use Rattle.answer.proofs.respond.Goals as goal

pub push_told-requires-clause-count : goal.push_told-requires-clause-count
push_told-requires-clause-count c = count_small c.args.input.now c.find_in-told.ensures.told c.find_in-told.new.found (omega (arith, c.find_in-told.array_long))

pub returns : goal.returns
returns c =
    let e = text_printed c.args.input.now c.find_in-told.ensures.told _ c.find_in-told.new.found c.find_in-told.ensures.found in
    rw e at c.push_told.ensures.written
