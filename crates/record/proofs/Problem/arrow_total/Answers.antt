-- `record::Problem::arrow_total` meets its contract: the last of the ends.
-- Assumes nothing.
use Prim.Native.Nat.{◌-◌}
use mathlib.Core.Path.{◌≡◌, ◌∙◌}
use lib.ListN.{length, get_or, take}
use Rattle.std.proofs.Common.{rules}
use Rattle.grid.proofs.AppendLaws.{last_at}
use Rattle.record.proofs.Problem.arrow_total.Goals as goal

pub returns : goal.returns
returns c =
    let ends = take c.args.self.now.count c.args.self.now.ends in
    let e : c.map_or.result ≡ get_or ends (length ends - 1) 0 = search rules in
    e ∙ last_at ends
