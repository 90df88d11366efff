-- `join::write_joined` meets its contract: 18, 19, 15 and the joined record, each by its own law.
-- Assumes nothing.
use Prim.Native.Nat.{◌+◌, ◌*◌, ◌≤◌}
use native.Mathlib.Omega.{arith}
use mathlib.Core.Path.{◌≡◌, sym, ◌∙◌}
use lib.ListN.{length}
use Rattle.refusal.specs.declared.Refusal.TheVariants.{UnequalHeights, TooWide, RecordOutputShort}
use Rattle.record.specs.Record.{Puzzle}
use Rattle.record.specs.Valid.{Valid}
use Rattle.record.specs.Problem.{problem_of, total_of}
use Rattle.record.specs.declared.Problem.{Problem}
use Rattle.record.specs.Write.{write_record}
use Rattle.record.proofs.Accepted.{record_length}
use Rattle.fields.specs.Fields.{bytes_for}
use Rattle.form.proofs.AcceptedLaws.{Kept, kept, valid_formed, valid_kept}
use Rattle.writer.proofs.ArrayLaws.{parts, length_in}
use Rattle.writer.proofs.BridgeLaws.{written_length}
use Rattle.exported.proofs.WrittenLaws.{Writes-refused, Writes-ok}
use Rattle.join.specs.Join.{joined_grid, joined}
use Rattle.join.proofs.JoinLaws.{joined-Valid, joined_read}
use Rattle.join.proofs.BesideLaws.{same_height, same_width, level_of, wide_of}
use Rattle.join.proofs.AnswerLaws.{join_18, join_19, join_15, join_done}
use Rattle.join.proofs.write_joined.Goals as goal

-- two puzzles that can be joined: the joined one and the length of its record
record Whole (p q : Puzzle) : Type 0 where
  level : p.grid.height ≡ q.grid.height
  wide : (joined_grid p q).width ≤ 32
  good : Valid (joined p q)
  small : length (write_record (joined p q)) ≤ 4096

whole_is : {p q : Puzzle} {l r : Problem} → Kept p l → Kept q r → l.height ≡ r.height → l.width + 1 + r.width ≤ 32 → Whole p q
whole_is {p} {q} left right h k =
    let level = level_of left right h in
    let wide = wide_of left right k in
    record {
      level = level;
      wide = wide;
      good = joined-Valid p q level left.valid right.valid wide;
      small = omega (arith, record_length (write_record (joined p q)) (joined_read p q level left.valid right.valid wide));
    }

length_is : {p : Puzzle} {z : Problem} → Valid p → z ≡ problem_of p → bytes_for (21 + 2 * (z.height * z.width) + 18 * z.count + 2 * total_of z) ≡ length (write_record p)
length_is {p} {z} v e = length_in p v z e ∙ sym (written_length p v)

pub overflow_add-width : goal.overflow_add-width
overflow_add-width c =
    let k = kept c.left.inside.problem c.left.invariant c.left.view_is in
    omega (arith, (parts c.args.left.now k.valid c.left.inside.problem k.arrays).wide)

pub overflow_add-width-2 : goal.overflow_add-width-2
overflow_add-width-2 c =
    let k = kept c.left.inside.problem c.left.invariant c.left.view_is in
    let m = kept c.right.inside.problem c.right.invariant c.right.view_is in
    omega (arith, (parts c.args.left.now k.valid c.left.inside.problem k.arrays).wide, (parts c.args.right.now m.valid c.right.inside.problem m.arrays).wide)

-- 18
pub returns-then-left-right : goal.returns-then-left-right
returns-then-left-right c =
    let k = kept c.left.inside.problem c.left.invariant c.left.view_is in
    let m = kept c.right.inside.problem c.right.invariant c.right.view_is in
    Writes-refused _ c.args.output.now UnequalHeights
    (join_18 (length c.args.output.now) c.args.left.now c.args.right.now
    (λ h. c.if-left-right.true (same_height c.args.left.now c.left.inside.problem k.arrays ∙ h ∙ sym (same_height c.args.right.now c.right.inside.problem m.arrays))))

-- 19
pub returns-then-width-gt32 : goal.returns-then-width-gt32
returns-then-width-gt32 c =
    let k = kept c.left.inside.problem c.left.invariant c.left.view_is in
    let m = kept c.right.inside.problem c.right.invariant c.right.view_is in
    Writes-refused _ c.args.output.now TooWide
    (join_19 (length c.args.output.now) c.args.left.now c.args.right.now (level_of k m c.if-left-right.false)
    (omega (arith, c.if-width-gt32.true, same_width c.args.left.now c.left.inside.problem k.arrays, same_width c.args.right.now c.right.inside.problem m.arrays)))

pub put_beside-requires-clause-level : goal.put_beside-requires-clause-level
put_beside-requires-clause-level c =
    level_of (kept c.left.inside.problem c.left.invariant c.left.view_is) (kept c.right.inside.problem c.right.invariant c.right.view_is) c.if-left-right.false

pub put_beside-requires-clause-wide : goal.put_beside-requires-clause-wide
put_beside-requires-clause-wide c =
    wide_of (kept c.left.inside.problem c.left.invariant c.left.view_is) (kept c.right.inside.problem c.right.invariant c.right.view_is) (omega (arith, c.if-width-gt32.false))

pub record_length-length-requires : goal.record_length-length-requires
record_length-length-requires c =
    let z = whole_is (kept c.left.inside.problem c.left.invariant c.left.view_is) (kept c.right.inside.problem c.right.invariant c.right.view_is) c.if-left-right.false (omega (arith, c.if-width-gt32.false)) in
    let b = parts (joined c.args.left.now c.args.right.now) z.good c.put_beside.result c.put_beside.ensures in
    (b.tall, b.wide, b.few, b.short)

-- 15
pub returns-then-output-length : goal.returns-then-output-length
returns-then-output-length c =
    let z = whole_is (kept c.left.inside.problem c.left.invariant c.left.view_is) (kept c.right.inside.problem c.right.invariant c.right.view_is) c.if-left-right.false (omega (arith, c.if-width-gt32.false)) in
    Writes-refused _ c.args.output.now RecordOutputShort
    (join_15 (length c.args.output.now) c.args.left.now c.args.right.now z.level z.wide (omega (arith, c.if-output-length.true, c.record_length-length.ensures, length_is z.good c.put_beside.ensures)))

pub invariant_of-whole : goal.invariant_of-whole
invariant_of-whole c =
    let z = whole_is (kept c.left.inside.problem c.left.invariant c.left.view_is) (kept c.right.inside.problem c.right.invariant c.right.view_is) c.if-left-right.false (omega (arith, c.if-width-gt32.false)) in
    valid_formed (joined c.args.left.now c.args.right.now) z.good c.put_beside.ensures

pub write-requires : goal.write-requires
write-requires c =
    let z = whole_is (kept c.left.inside.problem c.left.invariant c.left.view_is) (kept c.right.inside.problem c.right.invariant c.right.view_is) c.if-left-right.false (omega (arith, c.if-width-gt32.false)) in
    rw (valid_kept (joined c.args.left.now c.args.right.now) z.good c.put_beside.ensures) (omega (arith, c.if-output-length.false, c.record_length-length.ensures, length_is z.good c.put_beside.ensures))

pub returns : goal.returns
returns c =
    let p = c.args.left.now in
    let q = c.args.right.now in
    let z = whole_is (kept c.left.inside.problem c.left.invariant c.left.view_is) (kept c.right.inside.problem c.right.invariant c.right.view_is) c.if-left-right.false (omega (arith, c.if-width-gt32.false)) in
    let w = rw (valid_kept (joined p q) z.good c.put_beside.ensures) at c.write.ensures in
    Writes-ok _ c.args.output.now (write_record (joined p q)) c.write.new.out c.write.result
    (join_done (length c.args.output.now) p q z.level z.wide (omega (arith, c.if-output-length.false, c.record_length-length.ensures, length_is z.good c.put_beside.ensures))) w.count
    (omega (arith, w.count, z.small)) w.whole
