-- `record_replay::refusal_differs` meets its contract: what is read of the record, without its problem, is held against the number.
-- Assumes nothing.
use Rattle.std.proofs.Common.{rules}
use mathlib.Core.Path.{refl}
use Rattle.record_replay.proofs.ReadingLaws.{is_refused}
use Rattle.record_replay.proofs.refusal_differs.Goals as goal

pub returns : goal.returns
returns c =
    is_refused c.args.record.now c.args.refusal c.read.result c.map.result c.read.ensures (search (rules, c.map.ensures)) c.answer_differs.result
    (c.answer_differs.ensures (λ a b. (λ _. refl, λ _. refl)))
