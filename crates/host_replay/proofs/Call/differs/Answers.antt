-- `host_replay::Call::differs` holds the number that is returned and then the whole array against what the list says.
-- Assumes nothing.
use Rattle.std.proofs.Common.{rules}
use Rattle.replay.specs.Lists.{byte_in}
use Rattle.host_replay.proofs.HostCallLaws.{this_number, fresh_so}
use Rattle.host_replay.proofs.Call.differs.Goals as goal

pub returns-else-returned-self : goal.returns-else-returned-self
returns-else-returned-self c =
    let call = c.args.self.now in
    this_number call.«record».now call.decisions.now call.size call.small _ fresh_so c.evolmino_find-returned.result c.evolmino_find-returned.ensures.0 call.expected (byte_in call.literals.list.now call.literals.at call.count 64 170)
    (record { sfits = c.evolmino_find-returned.type_inv }) (search (rules, c.fits-self)) c.if-returned-self.false _ c.evolmino_find-returned.ensures.1 c.bytes_differ.result c.bytes_differ.ensures
