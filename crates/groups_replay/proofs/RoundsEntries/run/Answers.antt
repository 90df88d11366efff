-- `groups_replay::RoundsEntries::run` goes through an entry: its record, its decisions, and what the board that they leave counts.
-- Assumes nothing.
use native.Mathlib.Omega.{arith}
use Rattle.groups_replay.proofs.RecordLaws.{cut_short}
use Rattle.groups_replay.proofs.RoundsEntries.run.Goals as goal

pub returns-in_err-bytes : goal.returns-in_err-bytes
returns-in_err-bytes c = rw c.from_residual.ensures (cut_short c.args.self.now c.args.cursor.list.now c.args.cursor.at (omega (arith, c.in_err-bytes.ensures.short)))

pub returns-in_err-count : goal.returns-in_err-count
returns-in_err-count c =
    let bytes = c.in_ok-bytes.ensures in
    let short = rw (bytes.same, bytes.taken.1) at c.in_err-count.ensures.short.0 in
    rw c.from_residual-in_err-count.ensures (cut_short c.args.self.now c.args.cursor.list.now c.args.cursor.at (omega (arith, short)))

pub returns-in_err-decisions : goal.returns-in_err-decisions
returns-in_err-decisions c =
    let bytes = c.in_ok-bytes.ensures in
    let count = c.in_ok-count.ensures in
    let short = rw (count.same, count.taken.0, count.taken.2, bytes.same, bytes.taken.1) at c.in_err-decisions.ensures.short.0 in
    rw c.from_residual-in_err-decisions.ensures (cut_short c.args.self.now c.args.cursor.list.now c.args.cursor.at (omega (arith, short)))
