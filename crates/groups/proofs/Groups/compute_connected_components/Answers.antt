-- `groups::Groups::compute_connected_components` meets its contract. The loop's invariant: every group with a cell below s is labelled, and each that has its first cell there is in the table.
-- Assumes nothing.
use Prim.Native.Nat.{ℕ, ◌≤◌, ◌<◌, ◌*◌}
use native.Mathlib.Omega.{arith}
use borrow.Author.Rules.{rules}
use mathlib.Core.Path.{◌≡◌, ap, ◌∙◌}
use mathlib.Core.List.{List}
use lib.ListN.{take}
use Rattle.grid.specs.Grid.{size}
use Rattle.grid.specs.Side.{sized}
use Rattle.groups.specs.declared.Groups.{Groups}
use Rattle.groups.specs.declared.Members.{Members}
use Rattle.groups.specs.Arrays.{counts}
use Rattle.groups.specs.Flood.{Marked}
use Rattle.groups.specs.Table.{Unused}
use Rattle.grid.proofs.SideLaws.{area}
use Rattle.groups.proofs.FloodLaws.{marked_yet, unused, flooded}
use Rattle.groups.proofs.LabelLaws.{counts-take, counts_below}
use Rattle.groups.proofs.LabellingLaws.{Sofar-none, Sofar-more}
use Rattle.groups.proofs.TableLaws.{named_few, Tabled-none, Tabled-more, tabled}
use Rattle.groups.proofs.Groups.compute_connected_components.Goals as goal
use Rattle.groups.proofs.Groups.compute_connected_components.Goals.{After-put_first_labels, In-loop-s}

-- the cells of the grid alone are marked
marked : (m : Members) (cells : List ℕ) {n : ℕ} {L : List ℕ} → Marked (counts m cells) n L → Marked (counts m (take n cells)) n L
marked m cells {n} T = record { long = T.long; below = λ j h. T.below j h ∙ rw (counts-take m cells n j h); behind = T.behind }

module _ (c : After-put_first_labels) where
  few : c.args.grid.height * c.args.grid.width ≤ 1024
  few = area c.args.grid.height c.args.grid.width c.args.grid.tall c.args.grid.wide

  marks : Marked (counts c.args.members (take (c.args.grid.height * c.args.grid.width) c.args.cells.now)) (c.args.grid.height * c.args.grid.width) c.put_first_labels.new.self.labels
  marks = rw c.size-n.ensures.value at (marked c.args.members c.args.cells.now c.put_first_labels.ensures.marked)

small : (c : In-loop-s) → c.loop-s.s < 1024
small c = omega (arith, c.loop-s-test.true, c.size-n.ensures.small)

pub loop-s-init : goal.loop-s-init
unfolding size
loop-s-init c =
    let a = c.args in
    let at = (goal.at.loop-s-init c).After-put_first_labels in (
      Sofar-none (marked_yet (sized a.grid.height a.grid.width) (few at) (counts_below a.members a.cells.now (a.grid.height * a.grid.width)) (marks at)),
      Tabled-none _ _ _ (search rules) (search rules) (search rules),
    )

pub keep_first-number-requires : goal.keep_first-number-requires
keep_first-number-requires c = (small (goal.at.keep_first-number-requires c).In-loop-s, named_few c.loop-s.invariant.1.firsts_are)

pub loop-s-preserved : goal.loop-s-preserved
unfolding size
loop-s-preserved c =
    let a = c.args in
    let at = (goal.at.loop-s-preserved c).After-put_first_labels in
    let low = small (goal.at.loop-s-preserved c).In-loop-s in
    let v = c.loop-s.invariant in
    let none : Unused c.loop-s.s c.loop-s.self.labels = unused (sized a.grid.height a.grid.width) (few at) (counts_below a.members a.cells.now (a.grid.height * a.grid.width)) (marks at) low v.0 in
    let f = c.keep_first-number.ensures in
    let W = (rw f.listed at c.flood.ensures.walked) _ v.0.only in
    let r = rw f.listed at c.flood.ensures.counted in (
      Sofar-more v.0 W,
      Tabled-more low v.0 W none v.1 (ap (λ (G : Groups). G.firsts) r) f.counted (ap (λ (G : Groups). G.squares) r) (ap (λ (G : Groups). G.arrowed) r),
    )

pub returns : goal.returns
unfolding size
returns c =
    let a = c.args in
    let at = (goal.at.returns c).After-put_first_labels in
    let v = c.loop-s.invariant in
    let g = sized a.grid.height a.grid.width in
    let n = a.grid.height * a.grid.width in
    let end : c.loop-s.s ≡ n = omega (arith, c.loop-s.auto.s-end, c.loop-s-test.false, c.size-n.ensures.value) in
    tabled g _ (few at) (flooded g (few at) (counts_below a.members a.cells.now n) (marks at) (rw end at v.0)) (rw end at v.1)
