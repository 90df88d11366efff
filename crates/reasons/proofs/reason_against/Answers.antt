-- `reasons::reason_against` meets its contract: the board, the player and the buffer are tested, then the first reason is looked for.
-- Assumes nothing.
use Prim.Native.Nat.{◌*◌, ◌+◌, ◌<◌, ◌≤◌}
use native.Mathlib.Omega.{arith}
use lib.ListN.{length}
use Rattle.std.proofs.lemmas.Result.{err_from_is_err_and}
use Rattle.reasons.proofs.FindLaws.{find_ill, find_stranger, find_short, find_found}
use Rattle.reasons.proofs.reason_against.Goals as goal

pub returns-in_err-leaf : goal.returns-in_err-leaf
returns-in_err-leaf c =
    let e = c.in_err-leaf.ensures.refused in
    let p = err_from_is_err_and c.from_residual.result c.from_residual.ensures.1 in
    rw (p.1, p.2, e.1) (find_ill c.args.board.now c.args.player c.args.buffer.now e.0)

pub returns-then-from-ge-PLAYERS : goal.returns-then-from-ge-PLAYERS
returns-then-from-ge-PLAYERS c = find_stranger c.args.board.now c.args.player c.args.buffer.now c.in_ok-leaf.ensures.lent.0 (omega (arith, c.if-from-ge-PLAYERS.true, c.from.ensures))

pub returns-then-buffer-size : goal.returns-then-buffer-size
returns-then-buffer-size c =
    let e = c.in_ok-leaf.ensures.lent in
    let short : length c.args.buffer.now < 3 * (c.args.board.now.problem.height * c.args.board.now.problem.width) + 1 =
    rw (c.size.ensures.value, c.grid.ensures.0, c.grid.ensures.1, e.2) at c.if-buffer-size.true in
    find_short c.args.board.now c.args.player c.args.buffer.now e.0 (omega (arith, c.if-from-ge-PLAYERS.false, c.from.ensures)) short

pub returns : goal.returns
returns c =
    let e = c.in_ok-leaf.ensures.lent in
    let long : 3 * (c.args.board.now.problem.height * c.args.board.now.problem.width) + 1 ≤ length c.args.buffer.now =
    rw (c.size.ensures.value, c.grid.ensures.0, c.grid.ensures.1, e.2) at c.if-buffer-size.false in
    find_found c.args.board.now c.args.player c.args.buffer.now e.0 (omega (arith, c.if-from-ge-PLAYERS.false, c.from.ensures)) long e.1 e.2 c.find_inconsistency-found.ensures
