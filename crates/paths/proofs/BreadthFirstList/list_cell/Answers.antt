-- `paths::BreadthFirstList::list_cell` meets its contract: one way out for each case: no square, listed before, listed now.
-- Assumes nothing.
use Rattle.paths.proofs.Listings.{offer_plain, offer_seen, offer_new}
use Rattle.paths.proofs.BreadthFirstList.list_cell.Goals as goal

pub returns-then-cells-j-ne-SQUARE : goal.returns-then-cells-j-ne-SQUARE
returns-then-cells-j-ne-SQUARE c =
    let s = c.args.self.now in
    offer_plain c.args.cells.now s.from s.order.items c.args.j c.args.p c.if-cells-j-ne-SQUARE.true

pub returns-then-self-j-ne-UNLISTED : goal.returns-then-self-j-ne-UNLISTED
returns-then-self-j-ne-UNLISTED c =
    let s = c.args.self.now in
    offer_seen c.args.cells.now s.from s.order.items c.args.j c.args.p c.if-cells-j-ne-SQUARE.false c.if-self-j-ne-UNLISTED.true

pub returns : goal.returns
returns c =
    let s = c.args.self.now in
    rw c.push.ensures.items
    (offer_new c.args.cells.now s.from s.order.items c.args.j c.args.p c.if-cells-j-ne-SQUARE.false c.if-self-j-ne-UNLISTED.false)
