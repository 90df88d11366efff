-- `groups::spread` meets its contract: the neighbours in the directions before k have been offered.
-- Assumes nothing.
use mathlib.Core.Path.{◌≡◌, sym, ◌∙◌}
use mathlib.Core.Bool.{true}
use native.Mathlib.Omega.{arith}
use Rattle.groups.specs.Flood.{beyond, within}
use Rattle.groups.proofs.FloodLaws.{Offers-none, Offers-more, Spread-does}
use Rattle.groups.proofs.spread.Goals as goal
use Rattle.groups.proofs.spread.Goals.{in-Some, in_default}

pub loop-k-init : goal.loop-k-init
loop-k-init c = λ p. Offers-none (omega (arith, c.requires.room))

pub offer-waiting-requires : goal.offer-waiting-requires
offer-waiting-requires c = record {
  cell = c.in-Some.ensures.small;
  seed = c.requires.seed;
  room = (c.loop-k.invariant (λ _. true)).room;
}

pub loop-k-preserved : goal.loop-k-preserved
loop-k-preserved c = λ p. Offers-more c.requires.seed (c.loop-k.invariant p) (elim c.match-toward.branch [
  | in-Some v ↦ within _ (sym v.in-Some.is ∙ c.toward.ensures.neighbour) (rw (v.labels-is, v.stack-is, v.waiting-is) v.offer-waiting.ensures)
  | in_default v ↦ beyond (sym v.in_default.is ∙ c.toward.ensures.neighbour) v.labels-is v.stack-is v.waiting-is
])

pub returns : goal.returns
returns c =
    let all : c.loop-k.k ≡ 4 = omega (arith, c.loop-k.auto.k-end, c.loop-k-test.false) in
    λ p. Spread-does c.args.grid.tall c.args.grid.wide c.requires c.from-i.ensures (rw all at (c.loop-k.invariant p))
