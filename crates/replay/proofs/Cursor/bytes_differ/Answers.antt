-- `replay::Cursor::bytes_differ` meets its contract: it compares each byte with what is said for its place.
-- Assumes nothing.
use Rattle.std.proofs.Common.{rules, ◌<◌, ◌≢◌, ℕ, length, get_or}
use Rattle.std.specs.Bool.{Decides}
use Rattle.std.proofs.iter.runs.Sources.{ranges}
use Rattle.replay.specs.Lists.{byte_in}
use Rattle.replay.proofs.ListLaws.{any_differs}
use Rattle.replay.proofs.Cursor.bytes_differ.Goals as goal

pub returns : goal.returns
returns c =
    let a = c.args in
    let said = byte_in a.self.list.now a.self.at a.n a.from a.other in
    let told : Decides c.any.result ((i : ℕ) × (i < length a.bytes.now) × (get_or a.bytes.now i 0 ≢ said i)) = (search (rules, ranges), search (rules, ranges)) in
    any_differs a.bytes.now said c.any.result told
