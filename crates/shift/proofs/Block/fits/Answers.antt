-- `shift::Block::fits` meets its contract: the shifts to the cells of the block named e are tested, and to those of the floating groups near it.
-- Assumes nothing.
use Rattle.std.proofs.Common.{Bool, ◌||◌, rules, tests, true, false, sym, refl, ◌∙◌, ◌≡◌, ◌<◌, take}
use Rattle.std.proofs.lemmas.Iterator.{YieldsList-from_slice}
use Rattle.std.proofs.lemmas.Iterator.Adapters.{serves_from_places}
use Rattle.std.proofs.lemmas.Iterator.Search.{any_from_yields_List}
use Rattle.kinds.specs.Inside.{Limits}
use Rattle.shift.proofs.ShiftChains.{chains_are}
use Rattle.shift.proofs.Block.fits.Goals as goal

-- a test or another, by the first
second : {a b r t : Bool} → (a || b) ≡ t → a ≡ false → r ≡ b → r ≡ t
second e n q = rw (q, ← e, n) refl

first : {a t : Bool} (b : Bool) → (a || b) ≡ t → a ≡ true → a ≡ t
first b e y = rw (← e, y) refl

pub any-requires-clause-callable : goal.any-requires-clause-callable
any-requires-clause-callable c =
    let groups = take c.list_near-count.result c.list_near-count.new.self.groups.now in
    serves_from_places (YieldsList-from_slice groups cc) (λ x q k. search (rules, tests)) (λ x k l e. let small : x.now < 1024 = rw e (c.list_near-count.ensures.names k x.now l) in search rules)

pub returns-then-fits_chain : goal.returns-then-fits_chain
returns-then-fits_chain c =
    let g = c.args.self.now.linked.info.grid in
    let limits : Limits g.height g.width = record { tall = g.tall; wide = g.wide } in
    λ lines cells held arrow places.
    let chains = rw (← c.row.ensures.value, ← c.column.ensures.value) at (chains_are g.height g.width limits lines cells c.args.e c.args.f held (c.list_near-count.ensures.near lines cells held) arrow places) in
    c.fits_chain.ensures ∙ first _ chains (sym c.fits_chain.ensures ∙ c.if-fits_chain.true)

pub returns-else-fits_chain : goal.returns-else-fits_chain
returns-else-fits_chain c =
    let g = c.args.self.now.linked.info.grid in
    let limits : Limits g.height g.width = record { tall = g.tall; wide = g.wide } in
    let groups = take c.list_near-count.result c.list_near-count.new.self.groups.now in
    λ lines cells held arrow places.
    let chains = rw (← c.row.ensures.value, ← c.column.ensures.value) at (chains_are g.height g.width limits lines cells c.args.e c.args.f held (c.list_near-count.ensures.near lines cells held) arrow places) in
    second chains (sym c.fits_chain.ensures ∙ c.if-fits_chain.false)
    (any_from_yields_List _ c.any.new.self _ c.any.result c.any.ensures.ran (YieldsList-from_slice groups cc) (λ x b q k. search (rules, tests)))
