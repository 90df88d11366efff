-- `clauses::Sheet::write_arrows` meets its contract.
-- Assumes nothing.
use Prim.Native.Nat.{◌-◌, ◌<◌}
use native.Mathlib.Omega.{arith}
use mathlib.Core.Path.{◌≡◌, sym, ◌∙◌}
use lib.ListN.{length, get_or, take, drop}
use Rattle.std.proofs.lemmas.List.{length-take, get_or-take}
use Rattle.grid.proofs.AppendLaws.{last_none}
use Rattle.clauses.proofs.ArrowLaws.{start_more, push_no_arrow, push_arrow, squares_there}
use Rattle.clauses.proofs.Sheet.write_arrows.Goals as goal

pub loop-end-init : goal.loop-end-init
loop-end-init c = record {
  start = sym (last_none c.args.problem.now.ends);
  order = λ h. omega arith;
  written = push_no_arrow c.args.problem.now.arrows c.args.problem.now.ends c.args.self.now;
}

pub loop-end-preserved : goal.loop-end-preserved
loop-end-preserved c =
    let q = c.args.problem.now in
    let k = c.loop-end.end-index in
    let l : k < q.count = omega (arith, c.loop-end-test.true, length-take q.count q.ends) in
    let h : k < length q.ends = omega (arith, l, c.requires.ends_long) in
    let to : c.from-to.result ≡ get_or q.ends k 0 = c.from-to.ensures ∙ get_or-take q.count q.ends k 0 l in
    let n = c.from-to.result - c.loop-end.from in
    record {
      start = start_more q.arrows q.ends k h to;
      order = λ l. omega (arith, to, c.requires.ends_rise k l);
      written = push_arrow q.arrows q.ends k h c.loop-end.invariant.start to c.loop-end.invariant.written
          (c.write_arrow.ensures (take n (drop c.loop-end.from q.arrows)) (squares_there q.arrows c.squares-squares.result c.loop-end.from n c.squares-squares.ensures));
    }
