-- `groups_replay::rounds::Rounds::run_record` meets its contract: a refusal leaves no board, and the board that there is is gone through.
-- Assumes nothing.
use Rattle.groups_replay.proofs.RecordLaws.{not_opened, not_decided, record_told}
use Rattle.groups_replay.proofs.rounds.Rounds.run_record.Goals as goal

pub returns-in_err-ok : goal.returns-in_err-ok
returns-in_err-ok c =
    let a = c.args in
    rw c.from_residual.ensures (not_opened a.self a.record.now a.decisions.now a.cursor.list.now a.cursor.at c.open.result c.open.ensures c.in_err-ok.ensures.value)

pub returns-in_err-board : goal.returns-in_err-board
returns-in_err-board c =
    let a = c.args in
    rw c.from_residual-in_err-board.ensures (not_decided a.self a.record.now a.decisions.now a.cursor.list.now a.cursor.at c.open.result c.decide_all.result c.open.ensures c.in_ok-ok.ensures.value c.decide_all.ensures c.in_err-board.ensures.value)

pub returns : goal.returns
returns c =
    let a = c.args in
    record_told a.self a.record.now a.decisions.now a.cursor.list.now a.cursor.at c.open.result c.decide_all.result c.open.ensures c.in_ok-ok.ensures.value c.decide_all.ensures c.in_ok-board.ensures.value _ c.run_board.ensures
