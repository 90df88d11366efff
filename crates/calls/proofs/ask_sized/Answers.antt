-- `calls::ask_sized` meets its contract: the refusal of the sizes comes first, and then what is said of the leaf with them.
-- Assumes nothing.
use mathlib.Core.Path.{sym, ◌∙◌}
use Rattle.record.specs.Problem.{puzzle_of}
use Rattle.sizes.specs.Bytes.{sizes_in}
use Rattle.sizes.specs.Edition.{edition_number}
use Rattle.sizes.specs.Inside.{sizes_said}
use Rattle.calls.proofs.Opened.{sizes_refused, sizes_ok}
use Rattle.calls.proofs.Opening.{edition_not_0, told_ok, told_fault, formed_Drawn, formed_small, formed_arrays, SizesKept, sizes_kept, kept_on, kept_all}
use Rattle.calls.proofs.ask_sized.Goals as goal

pub read-requires : goal.read-requires
read-requires g c = record { drawn = (puzzle_of c.args.problem.now, formed_Drawn c.args.problem.now c.requires.formed) }

pub returns-in_err-sizes-clause-told : goal.returns-in_err-sizes-clause-told
unfolding sizes_in sizes_said
returns-in_err-sizes-clause-told g c =
    let p = puzzle_of c.args.problem.now in
    told_fault (g.Q.Question.told c.args.question.now) c.args.output.now c.from_residual.result c.in_err-sizes.field-0.0 c.from_residual.ensures.1
    (sizes_refused (edition_number c.args.edition) c.args.sizes.now p (c.in_err-sizes.ensures p (formed_Drawn c.args.problem.now c.requires.formed)))

pub ask_on-requires-clause-sized : goal.ask_on-requires-clause-sized
unfolding sizes_in sizes_said
ask_on-requires-clause-sized g c =
    let q = c.args.problem.now in
    let f = c.requires.formed in
    kept_on q f (sizes_kept q f c.args.sizes.now c.in_ok-sizes.sizes.lowest c.in_ok-sizes.sizes.highest (c.in_ok-sizes.ensures (puzzle_of q) (formed_Drawn q f)))

pub returns-clause-told : goal.returns-clause-told
unfolding sizes_in sizes_said
returns-clause-told g c =
    let q = c.args.problem.now in
    let f = c.requires.formed in
    let k : SizesKept q f c.args.sizes.now c.in_ok-sizes.sizes.lowest c.in_ok-sizes.sizes.highest = sizes_kept q f c.args.sizes.now c.in_ok-sizes.sizes.lowest c.in_ok-sizes.sizes.highest (c.in_ok-sizes.ensures (puzzle_of q) (formed_Drawn q f)) in
    told_ok (g.Q.Question.told c.args.question.now) c.args.output.now c.ask_on.new.output c.ask_on.result (sizes_ok (edition_number c.args.edition) c.args.sizes.now (puzzle_of q) k.are)
    (rw (kept_all q f k) at c.ask_on.ensures.told)
