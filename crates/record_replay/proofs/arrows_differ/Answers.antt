-- `record_replay::arrows_differ` holds one arrow after another against what the list says, and then what stands behind them.
-- Assumes nothing.
use Rattle.std.proofs.Common.{rules, List}
use Prim.Native.Nat.{ℕ, ◌+◌, ◌-◌, ◌*◌, ◌≤◌, ◌<◌}
use mathlib.Core.Path.{◌≡◌, subst, ◌∙◌}
use native.Mathlib.Omega.{arith}
use lib.ListN.{length, take, drop}
use lib.Seq.{get_or-take, length-take-le}
use Rattle.replay.specs.Comparisons.{DiffersUnless}
use Rattle.replay.specs.Lists.{number_at, number_in, differs}
use Rattle.record_replay.specs.Problems.{ZerosFrom}
use Rattle.replay.proofs.ComparisonLaws.{fails_so, then_differs}
use Rattle.record_replay.proofs.ProblemLaws.{no_arrows, too_short, too_long, other_cells, other_end, this_arrow, behind_left, rest_told}
use Rattle.record_replay.proofs.arrows_differ.Goals as goal
use Rattle.record_replay.proofs.arrows_differ.Goals.{In-Some, After-numbers_differ}

-- a place among the first of the ends
within : (count : ℕ) (ends : List ℕ) → count ≤ length ends → (i : ℕ) → i < length (take count ends) → i < count
within count ends long i lt = omega (arith, length-take-le count ends long, lt)

-- the number of cells
cells_of : (c : In-Some) → c.in-Some.n ≡ number_at c.args.said.list.now c.loop-stop.arrow.at
cells_of c = rw c.loop-stop.invariant.1 at c.in-Some.ensures.taken.0

-- the answer about them
cells_told : (c : After-numbers_differ) → c.numbers_differ.result ≡ differs (take (c.loop-stop.end + c.in-Some.n - c.loop-stop.end) (drop c.loop-stop.end c.args.line.now)) (number_in c.args.said.list.now (c.loop-stop.arrow.at + 2) c.in-Some.n 0) 0
cells_told c = rw (c.in-Some.ensures.same ∙ c.loop-stop.invariant.1, c.in-Some.ensures.taken.2) at c.numbers_differ.ensures

pub returns-in_default : goal.returns-in_default
returns-in_default c =
    let a = c.args in
    let i = c.loop-stop in
    let short : length i.arrow.list.now < i.arrow.at + 2 = search (rules, c.number.ensures.short) in
    too_short a.said.list.now a.line.now a.ends.now a.said.at a.count i.arrow.at i.end i.stop-index (within c.args.count c.args.ends.now (search rules) c.loop-stop.stop-index c.loop-stop-test.true) i.invariant.2 (rw i.invariant.1 at short)

pub returns-then-next-gt1024 : goal.returns-then-next-gt1024
returns-then-next-gt1024 c =
    let a = c.args in
    let i = c.loop-stop in
    too_long a.said.list.now a.line.now a.ends.now a.said.at a.count i.arrow.at i.end i.stop-index c.in-Some.n (cells_of (goal.at.returns-then-next-gt1024 c).In-Some) (within c.args.count c.args.ends.now (search rules) c.loop-stop.stop-index c.loop-stop-test.true) i.invariant.2 c.if-next-gt1024.true

pub returns-then-numbers_differ : goal.returns-then-numbers_differ
returns-then-numbers_differ c =
    let a = c.args in
    let i = c.loop-stop in
    other_cells a.said.list.now a.line.now a.ends.now a.said.at a.count i.arrow.at i.end i.stop-index c.in-Some.n (cells_of (goal.at.returns-then-numbers_differ c).In-Some) (within c.args.count c.args.ends.now (search rules) c.loop-stop.stop-index c.loop-stop-test.true) i.invariant.2 c.numbers_differ.result (cells_told (goal.at.returns-then-numbers_differ c).After-numbers_differ) c.if-numbers_differ.true

pub returns-then-from-end : goal.returns-then-from-end
returns-then-from-end c =
    let a = c.args in
    let i = c.loop-stop in
    other_end a.said.list.now a.line.now a.ends.now a.said.at a.count i.arrow.at i.end i.stop-index c.in-Some.n (cells_of (goal.at.returns-then-from-end c).In-Some) (within c.args.count c.args.ends.now (search rules) c.loop-stop.stop-index c.loop-stop-test.true) i.invariant.2 c.from.result (c.from.ensures ∙ get_or-take a.count a.ends.now i.stop-index 0 (within a.count a.ends.now (search rules) i.stop-index c.loop-stop-test.true)) c.if-from-end.true

pub loop-stop-preserved : goal.loop-stop-preserved
loop-stop-preserved c =
    let a = c.args in
    let i = c.loop-stop in (
      omega arith,
      c.skip.ensures.same ∙ (c.in-Some.ensures.same ∙ i.invariant.1),
      λ r d. this_arrow a.said.list.now a.line.now a.ends.now a.said.at a.count i.arrow.at i.end i.stop-index c.in-Some.n (cells_of (goal.at.loop-stop-preserved c).In-Some) (within c.args.count c.args.ends.now (search rules) c.loop-stop.stop-index c.loop-stop-test.true) i.invariant.2
          (search (rules, c.number.new.self.inside)) (omega arith) c.numbers_differ.result (cells_told (goal.at.loop-stop-preserved c).After-numbers_differ) c.if-numbers_differ.false c.from.result (c.from.ensures ∙ get_or-take a.count a.ends.now i.stop-index 0 (within a.count a.ends.now (search rules) i.stop-index c.loop-stop-test.true)) c.if-from-end.false r
          (behind_left a.said.list.now a.line.now a.ends.now (i.arrow.at + 2) (2 * c.in-Some.n) c.skip.new.self.at (i.end + c.in-Some.n) (i.stop-index + 1) (a.count - (i.stop-index + 1)) (search (rules, c.skip.ensures.inside)) (search (rules, c.skip.ensures.short)) r d),
    )

pub returns-then-zeros_differ : goal.returns-then-zeros_differ
returns-then-zeros_differ c =
    let a = c.args in
    let i = c.loop-stop in
    let line = rest_told a.line.now i.end (search rules) c.zeros_differ.result c.zeros_differ.ensures in
    i.invariant.2 c.zeros_differ.result (no_arrows a.said.list.now a.line.now a.ends.now i.arrow.at i.end i.stop-index (a.count - i.stop-index) (omega arith) c.zeros_differ.result
    (fails_so c.zeros_differ.result c.if-zeros_differ.true (λ s. line.1 c.if-zeros_differ.true s.0)))

pub returns-else-zeros_differ : goal.returns-else-zeros_differ
returns-else-zeros_differ c =
    let a = c.args in
    let i = c.loop-stop in
    let last : a.count ≡ i.stop-index = omega arith in
    let second = c.zeros_differ-else-zeros_differ.result in
    let line = rest_told a.line.now i.end (search rules) c.zeros_differ.result c.zeros_differ.ensures in
    let ends = rest_told a.ends.now a.count (search rules) second c.zeros_differ-else-zeros_differ.ensures in
    i.invariant.2 second (no_arrows a.said.list.now a.line.now a.ends.now i.arrow.at i.end i.stop-index (a.count - i.stop-index) (omega arith) second
    (then_differs (line.0 c.if-zeros_differ.false) second (subst (λ (k : ℕ). DiffersUnless second (ZerosFrom a.ends.now k)) last ends)))
