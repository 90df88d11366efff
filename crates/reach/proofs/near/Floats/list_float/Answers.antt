-- `reach::near::Floats::list_float` meets its contract: a floating cell's group is marked and listed, unless it is already.
-- Assumes nothing.
use Rattle.reach.proofs.NearLaws.{float_new, Listing-room}
use Rattle.reach.proofs.near.Floats.list_float.Goals as goal

pub bounds-self-count : goal.bounds-self-count
bounds-self-count c = Listing-room _ c.requires.listing c.if-name-ge-NO_GROUP.false (rw c.from-m.ensures at c.if-self-m-eq1.false)

pub returns : goal.returns
returns c = λ t L. rw c.from-m.ensures (float_new c.args.info.now.kinds.now c.args.info.now.owners.now L c.args.j c.if-info-j-ne-FLOATING.false c.if-name-ge-NO_GROUP.false (rw c.from-m.ensures at c.if-self-m-eq1.false))
