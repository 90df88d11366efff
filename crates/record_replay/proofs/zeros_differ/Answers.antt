-- `record_replay::zeros_differ` holds the numbers against zeros.
-- Assumes nothing.
use Rattle.std.proofs.Common.{rules, ◌<◌, ◌≢◌, ℕ, length, get_or}
use Rattle.std.specs.Bool.{Decides}
use Rattle.std.proofs.iter.runs.Made.{chains}
use Rattle.replay.proofs.ComparisonLaws.{test_told}
use Rattle.replay.proofs.ListLaws.{any_differs}
use Rattle.record_replay.proofs.zeros_differ.Goals as goal

pub returns : goal.returns
returns c =
    let l = c.args.numbers.now in
    let told : Decides c.any.result ((i : ℕ) × (i < length l) × (get_or l i 0 ≢ 0)) = (search (rules, chains), search (rules, chains)) in
    test_told _ c.any.result (any_differs l (λ _. 0) c.any.result told)
