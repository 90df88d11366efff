-- `replay::Cursor::numbers_differ` meets its contract: it compares each number with what is said for its place.
-- Assumes nothing.
use Rattle.std.proofs.Common.{rules, ◌<◌, ◌≢◌, ℕ, length, get_or}
use Rattle.std.specs.Bool.{Decides}
use Rattle.std.proofs.iter.runs.Sources.{ranges}
use Rattle.replay.specs.Lists.{number_in}
use Rattle.replay.proofs.ListLaws.{any_differs}
use Rattle.replay.proofs.Cursor.numbers_differ.Goals as goal

pub returns : goal.returns
returns c =
    let a = c.args in
    let said = number_in a.self.list.now a.self.at a.n a.behind in
    let told : Decides c.any.result ((i : ℕ) × (i < length a.numbers.now) × (get_or a.numbers.now i 0 ≢ said i)) = (search (rules, ranges), search (rules, ranges)) in
    any_differs a.numbers.now said c.any.result told
