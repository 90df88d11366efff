-- `groups_replay::blocks::run_names` meets its contract: a block after the other, as long as the list goes on behind it.
-- Assumes nothing.
use lib.ListN.{take}
use Rattle.std.specs.Prelude.{None, Some}
use Rattle.groups_replay.specs.Blocks.{none_left, cut_before, next}
use Rattle.groups_replay.proofs.RunLaws.{left_next, left_without, left_none}
use Rattle.groups_replay.proofs.blocks.run_names.Goals as goal
use Rattle.groups_replay.proofs.blocks.run_names.Goals.{then-blocks-from-ne0+in_ok-at, else-blocks-from-ne0}

pub returns-in_err-at : goal.returns-in_err-at
returns-in_err-at c =
    let blocks = c.args.blocks.now in
    let left = left_next blocks.arrowed (take blocks.count blocks.firsts) c.loop-f.f-index c.loop-f-test.true (rw c.from.ensures at c.if-blocks-from-ne0.true) in
    λ arrows held. rw c.from_residual.ensures (rw c.of-found.ensures at (c.loop-f.invariant.runs arrows held None (rw left (cut_before c.in_err-at.was))))

pub loop-f-preserved : goal.loop-f-preserved
loop-f-preserved c =
    let blocks = c.args.blocks.now in
    let fs = take blocks.count blocks.firsts in
    elim c.if-blocks-from-ne0.branch [
      | then-blocks-from-ne0+in_ok-at w ↦
          let left = left_next blocks.arrowed fs c.loop-f.f-index c.loop-f-test.true (rw c.from.ensures at w.if-blocks-from-ne0.true) in
          record {
            within = rw (w.found-is, w.then-found.ensures) w.run_block.ensures.within;
            runs = λ arrows held all q. c.loop-f.invariant.runs arrows held all
                (rw left (next w.in_ok-at.at w.run_block.result w.in_ok-at.was (w.run_block.ensures.held arrows held) (rw (w.found-is, w.then-found.ensures) at q)));
          }
      | else-blocks-from-ne0 w ↦
          let left = left_without blocks.arrowed fs c.loop-f.f-index c.loop-f-test.true (rw c.from.ensures at w.if-blocks-from-ne0.false) in
          record { within = rw w.found-is c.loop-f.invariant.within; runs = λ arrows held all q. c.loop-f.invariant.runs arrows held all (rw left (rw w.found-is at q)) }
    ]

pub returns : goal.returns
returns c =
    let blocks = c.args.blocks.now in
    let left = left_none blocks.arrowed (take blocks.count blocks.firsts) c.loop-f.f-index c.loop-f-test.false in
    λ arrows held. rw c.of-found.ensures at (c.loop-f.invariant.runs arrows held (Some c.loop-f.found) (rw left none_left))
