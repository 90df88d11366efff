-- `turn::write_turned` meets its contract: each way out by its own law.
-- Assumes nothing.
use native.Mathlib.Omega.{arith}
use mathlib.Core.Path.{◌≡◌, sym, ap, ◌∙◌}
use lib.ListN.{length}
use Rattle.refusal.specs.declared.Refusal.TheVariants.{Turning, RecordOutputShort}
use Rattle.record.specs.Write.{write_record}
use Rattle.record.proofs.RecordLaws.{record_Valid}
use Rattle.record.proofs.Accepted.{write_read, record_length}
use Rattle.exported.proofs.WrittenLaws.{Writes-refused, Writes-fault, Writes-ok}
use Rattle.turn.specs.Turn.{turned}
use Rattle.turn.proofs.BackLaws.{turn_refused, ok_turn}
use Rattle.turn.proofs.AnswerLaws.{Bytes-of, turn_14, turn_15}
use Rattle.turn.proofs.PuzzleLaws.{turned-length}
use Rattle.turn.proofs.write_turned.Goals as goal
use Rattle.turn.proofs.write_turned.Goals.{In_ok-puzzle}

pub returns-in_err-puzzle : goal.returns-in_err-puzzle
returns-in_err-puzzle c =
    Writes-fault _ c.args.output.now _ _ c.from_residual.ensures.1 (turn_refused c.args.k (length c.args.output.now) c.args.«record».now _ (sym c.in_err-puzzle.ensures))

-- 14
pub returns-then-k-gt7 : goal.returns-then-k-gt7
returns-then-k-gt7 c =
    let p = c.in_ok-puzzle in
    Writes-refused _ c.args.output.now Turning (turn_14 c.args.k (length c.args.output.now) c.args.«record».now p.puzzle (sym p.ensures) c.if-k-gt7.true)

-- 15
pub returns-then-output-record : goal.returns-then-output-record
returns-then-output-record c =
    let p = c.in_ok-puzzle in
    Writes-refused _ c.args.output.now RecordOutputShort (turn_15 c.args.k (length c.args.output.now) c.args.«record».now p.puzzle (sym p.ensures) c.if-k-gt7.false c.if-output-record.true)

-- the turned record is as long
long : (c : In_ok-puzzle) → length (write_record (turned c.args.k c.in_ok-puzzle.puzzle)) ≡ length c.args.«record».now
long c =
    let s = c.args.«record».now in
    let e = sym c.in_ok-puzzle.ensures in
    turned-length c.args.k c.in_ok-puzzle.puzzle (record_Valid s e) ∙ ap length (write_read s e (Bytes-of s (λ k. omega (arith, c.shared_slice_known-1.given k))))

pub write-requires : goal.write-requires
write-requires c =
    let t = c.turn_puzzle.ensures (record_Valid c.args.«record».now (sym c.in_ok-puzzle.ensures)) in
    rw t (omega (arith, long (goal.at.write-requires c).In_ok-puzzle, c.if-output-record.false))

pub returns : goal.returns
returns c =
    let s = c.args.«record».now in
    let e = sym c.in_ok-puzzle.ensures in
    let t = c.turn_puzzle.ensures (record_Valid s e) in
    let w = rw t at c.write.ensures in
    Writes-ok _ c.args.output.now (write_record (turned c.args.k c.in_ok-puzzle.puzzle)) c.write.new.out c.write.result
    (ok_turn c.args.k (length c.args.output.now) s c.in_ok-puzzle.puzzle e (omega (arith, c.if-k-gt7.false)) (omega (arith, c.if-output-record.false))) w.count
    (omega (arith, w.count, long (goal.at.returns c).In_ok-puzzle, record_length s e)) w.whole
