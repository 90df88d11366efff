-- What was written of a puzzle in arrays is its record.
-- Assumes nothing.
use Prim.Native.Nat.{ℕ, ◌+◌, ◌-◌, ◌/◌, ◌≤◌, ◌<◌}
use Rattle.std.specs.Int.{div_ceil}
use native.Mathlib.Omega.{arith}
use native.Mathlib.Decide.{dec_lt}
use mathlib.Core.Path.{◌≡◌, refl, sym, ap, ◌∙◌}
use mathlib.Core.List.{List, [], ◌++◌}
use lib.ListN.{length, get_or, drop, length-append, length-drop, get_or-append}
use lib.Seq.{ext_get_or, get_or-append-add, get_or-drop}
use Rattle.grid.proofs.SideLaws.{area}
use Rattle.fields.specs.Fields.{bytes_for}
use Rattle.record.specs.Record.{Puzzle}
use Rattle.record.specs.Head.{head_bits}
use Rattle.record.specs.Valid.{Valid}
use Rattle.record.specs.Problem.{problem_of, puzzle_of}
use Rattle.record.specs.declared.Problem.{Problem}
use Rattle.record.specs.Write.{pack, record_bits, write_record}
use Rattle.record.proofs.BitLaws.{length-bits_at, record_bits_lem}
use Rattle.record.proofs.WriteLaws.{round_trip}
use Rattle.record.proofs.LinesLaws.{problem_Lines}
use Rattle.record.proofs.PackLaws.{pack_byte, length-pack}
use Rattle.record.proofs.ProblemLaws.{problem_puzzle}
use Rattle.writer.specs.Wrote.{Wrote, Appends, Ready, Recorded, fields_size}
use Rattle.writer.specs.declared.BitWriter.{BitWriter}
use Rattle.writer.proofs.ArrayLaws.{parts, length_in}

-- what was written is the record
recorded : (p : Puzzle) (old new : List ℕ) → Wrote old (record_bits p) new → length (write_record p) ≤ length old → new ≡ write_record p ++ drop (length (write_record p)) old
unfolding write_record
recorded p old new w room = ext_get_or 0 new (r ++ drop (length r) old) (w.long ∙ omega (arith, length-append r (drop (length r) old), length-drop (length r) old)) each
  where
    m : ℕ
    m = (length (record_bits p) + 7) / 8

    r : List ℕ
    r = pack m (record_bits p)

    lr : length r ≡ m
    lr = length-pack m (record_bits p)

    each : (i : ℕ) → i < length new → get_or new i 0 ≡ get_or (r ++ drop (length r) old) i 0
    each i l = go (dec_lt i m)
      where
        go : Dec (i < m) → get_or new i 0 ≡ get_or (r ++ drop (length r) old) i 0
        go (yes h) = w.bytes i (omega arith) ∙ sym (get_or-append r (drop (length r) old) 0 i (omega (arith, lr)) ∙ pack_byte m (record_bits p) i h)
        go (no h) =
            let e : i ≡ length r + (i - length r) = omega (arith, lr) in
            w.behind i (omega arith) ∙ sym (ap (λ (k : ℕ). get_or (r ++ drop (length r) old) k 0) e ∙ get_or-append-add r (drop (length r) old) (i - length r) 0 ∙ get_or-drop (length r) old (i - length r) 0 ∙ ap (λ (k : ℕ). get_or old k 0) (sym e))

-- how long the record of a puzzle is, known before it is written
pub written_length : (p : Puzzle) → Valid p → length (write_record p) ≡ bytes_for (head_bits p)
unfolding write_record bytes_for
written_length p v =
    let r = record_bits_lem (write_record p) (round_trip p v) in
    length-pack ((length (record_bits p) + 7) / 8) (record_bits p) ∙ ap (λ (n : ℕ). (n + 7) / 8) (ap length r.0 ∙ length-bits_at (write_record p) 0 (head_bits p))

module _ (p : Puzzle) (v : Valid p) (q : Problem) (e : q ≡ problem_of p) where
  -- the puzzle in the arrays
  same_puzzle : puzzle_of q ≡ p
  same_puzzle = ap puzzle_of e ∙ problem_puzzle p v

  -- how many bytes its fields have
  bytes_are : length (write_record p) ≡ bytes_for (fields_size q)
  bytes_are = written_length p v ∙ sym (length_in p v q e)

  high : 0 < q.height
  unfolding problem_of
  high = rw e v.low.0

  -- how many bits, at most
  small : fields_size q ≤ 65536
  small = let r = parts p v q e in omega (arith, r.few, r.short, area q.height q.width r.tall r.wide)

  -- where its record has room, so have its fields
  pub ready : {s : BitWriter} → s.at ≡ 0 → length (write_record p) ≤ length s.out.now → Ready q s
  unfolding bytes_for
  ready z fit = record { high = high; lines = problem_Lines p v q e; room = (omega (arith, bytes_are), omega (arith, small)) }

  -- its fields, written to the front of the lent bytes, are its record; where the writer keeps these, what stands in them then is what was lent
  pub fields_Recorded : {s t : BitWriter} {after : List ℕ} → s.at ≡ 0 → Ready q s → Appends (fields_size q) (record_bits (puzzle_of q)) s t → (s.out.ghost_name ≡ t.out.ghost_name → after ≡ t.out.now)
      → {n : ℕ} → n ≡ div_ceil t.at 8 → Recorded p s.out.now after n
  unfolding bytes_for
  fields_Recorded {s} {t} z r a back d =
      let w : Wrote s.out.now (record_bits p) t.out.now =
      rw (← same_puzzle) (a.wrote s.out.now [] (sym z) (record { long = refl; bytes = λ k l. absurd (omega arith); behind = λ k l. refl })) in
      record {
        count = omega (arith, a.place, z, bytes_are, d);
        whole = back (sym a.same) ∙ recorded p s.out.now t.out.now w (omega (arith, bytes_are, r.room.0));
      }
