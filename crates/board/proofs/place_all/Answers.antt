-- `board::place_all` meets its contract: what is left of the bytes makes of the board what the whole makes of the first.
-- Assumes nothing.
use native.Mathlib.Omega.{arith}
use mathlib.Core.Path.{◌∙◌}
use Prim.Native.Nat.{◌+◌}
use Rattle.std.proofs.lemmas.List.{take_rest}
use Rattle.std.proofs.lemmas.Result.{err_from_is_err_and}
use Rattle.board.specs.Inside.{whole, part}
use Rattle.board.specs.Decide.{with_decisions, refused_with}
use Rattle.board.proofs.BoardForm.{Whole-is, whole_room, whole_most}
use Rattle.board.proofs.Fold.{two_refused, two_put, odd_byte, no_byte}
use Rattle.board.proofs.place_all.Goals as goal

pub place-requires : goal.place-requires
place-requires c =
    let h = c.requires.given in
    let b = with_decisions h.board c.loop-left.cells c.loop-left.order c.loop-left.decided in
    let w = Whole-is b (c.loop-left.invariant h.board h.area h.well).well in
    (omega (arith, h.area, whole_most b w), λ i l e. whole_room b w i (rw h.area l) e)

pub returns-in_err-place : goal.returns-in_err-place
returns-in_err-place c b e w =
    let i = c.loop-left.invariant b e w in
    let p = err_from_is_err_and c.from_residual.result c.from_residual.ensures.1 in
    rw (p.1, p.2) (rw i.same (two_refused b c.loop-left.cells c.loop-left.order c.args.n c.loop-left.decided e i.well c.loop-left.left.now c.in-len2-up.len_at_least c.from_be_bytes.ensures (omega arith) c.in_err-place.ensures))

pub overflow_add-decided : goal.overflow_add-decided
overflow_add-decided c =
    let h = c.requires.given in
    let i = c.loop-left.invariant h.board h.area h.well in
    let r = two_put h.board c.loop-left.cells c.loop-left.order c.args.n c.loop-left.decided h.area i.well c.loop-left.left.now c.in-len2-up.len_at_least c.from_be_bytes.ensures (omega arith) c.in_ok-place.ensures in
    omega (arith, (Whole-is (with_decisions h.board c.place.new.cells c.place.new.order (c.loop-left.decided + 1)) r.1).few)

pub loop-left-preserved : goal.loop-left-preserved
loop-left-preserved c b e w =
    let i = c.loop-left.invariant b e w in
    let r = two_put b c.loop-left.cells c.loop-left.order c.args.n c.loop-left.decided e i.well c.loop-left.left.now c.in-len2-up.len_at_least c.from_be_bytes.ensures (omega arith) c.in_ok-place.ensures in
    record { well = r.1; same = rw take_rest (i.same ∙ r.0) }

pub returns-then-not-is_empty : goal.returns-then-not-is_empty
unfolding refused_with
returns-then-not-is_empty c b e w =
    let i = c.loop-left.invariant b e w in
    rw (i.same ∙ odd_byte (with_decisions b c.loop-left.cells c.loop-left.order c.loop-left.decided) c.loop-left.left.now c.in_default.len_below (grind arith)) part

pub returns : goal.returns
returns c b e w =
    let i = c.loop-left.invariant b e w in
    rw (i.same ∙ no_byte (with_decisions b c.loop-left.cells c.loop-left.order c.loop-left.decided) c.loop-left.left.now (grind arith)) whole
