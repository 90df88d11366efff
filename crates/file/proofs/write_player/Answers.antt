-- `file::write_player` meets its contract: a refusal, and the grade.
-- Assumes nothing.
use native.Mathlib.Omega.{arith}
use mathlib.Core.Path.{refl}
use lib.ListN.{length}
use Rattle.file.proofs.AnswerLaws.{player_refused, player_bounds, player_given_lem}
use Rattle.file.proofs.write_player.Goals as goal

pub returns-in_err-player : goal.returns-in_err-player
returns-in_err-player c = player_refused (length c.args.output.now) c.args.file.now c.args.output.now _ _ c.from_residual.ensures.1 c.in_err-player.ensures

pub bounds-output-0 : goal.bounds-output-0
bounds-output-0 c = omega (arith, (player_bounds (length c.args.output.now) c.args.file.now c.in_ok-player.ensures).0)

pub returns : goal.returns
returns c = player_given_lem (length c.args.output.now) c.args.file.now c.in_ok-player.ensures c.args.output.now refl
