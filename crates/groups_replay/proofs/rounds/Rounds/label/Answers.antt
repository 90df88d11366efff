-- `groups_replay::rounds::Rounds::label` computes the groups in each round. The rounds run out.
-- Assumes nothing.
use Rattle.grid.specs.Side.{sized}
use Rattle.grid.proofs.GridLaws.{size_most}
use Rattle.groups.proofs.TableLaws.{table_few}
use Rattle.groups_replay.proofs.rounds.Rounds.label.Goals as goal

pub loop-i-preserved : goal.loop-i-preserved
loop-i-preserved c =
    let t = c.compute_connected_components.ensures in
    let g = c.args.board.now.grid in
    (table_few (sized g.height g.width) _ t (size_most (sized g.height g.width) g.tall g.wide), λ _. t)
