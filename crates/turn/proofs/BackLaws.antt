-- The turned record: when it is given, its length, and that turning back gives the same bytes.
-- Assumes nothing.
use Prim.Native.Nat.{ℕ, ◌≤◌, ◌<◌}
use native.Mathlib.Omega.{arith}
use mathlib.Core.Path.{◌≡◌, sym, ap, ◌∙◌}
use mathlib.Core.List.{List}
use lib.Dec.{ltb, leb}
use lib.ListN.{length}
use borrow.Author.Tests.{lt-ltb, ltb-true, le-leb, leb-true}
use Rattle.fields.specs.Fields.{Outcome, ok, refused, ◌>>=◌, unless}
use Rattle.fields.proofs.OutcomeLaws.{bind_ok, unless-ok, ok-eq}
use Rattle.record.specs.Record.{Puzzle, read_record, Bytes}
use Rattle.record.specs.Write.{write_record}
use Rattle.record.proofs.RecordLaws.{record_Valid}
use Rattle.record.proofs.Accepted.{write_read}
use Rattle.turn.specs.Turn.{turned, inverse, turn_record}
use Rattle.turn.proofs.InverseLaws.{inverse_small}
use Rattle.turn.proofs.PuzzleLaws.{turned-length, turned_read, turned_back}

-- what a turned record is
pub record TurnedRecord (k n : ℕ) (s t : List ℕ) : Type 0 where
  pub puzzle : Puzzle
  pub read : read_record s ≡ ok puzzle
  pub small : k < 8
  pub fits : length s ≤ n
  pub written : t ≡ write_record (turned k puzzle)

pub turn_ok : (k n : ℕ) (s : List ℕ) {t : List ℕ} → turn_record k n s ≡ ok t → TurnedRecord k n s t
unfolding turn_record
turn_ok k n s {t} e =
    let a = bind_ok (read_record s) _ e in
    let b = bind_ok (unless (ltb k 8) 14) _ a.2 in
    let c = bind_ok (unless (leb (length s) n) 15) _ b.2 in
    record {
      puzzle = a.0;
      read = a.1;
      small = ltb-true k 8 (unless-ok (ltb k 8) 14 b.1);
      fits = leb-true (length s) n (unless-ok (leb (length s) n) 15 c.1);
      written = sym (ok-eq c.2);
    }

pub ok_turn : (k n : ℕ) (s : List ℕ) (p : Puzzle) → read_record s ≡ ok p → k < 8 → length s ≤ n → turn_record k n s ≡ ok (write_record (turned k p))
unfolding turn_record ◌>>=◌ unless
ok_turn k n s p e l f = rw (e, lt-ltb k 8 l, le-leb (length s) n f)

module _ (k n : ℕ) (s : List ℕ) (bytes : Bytes s) {t : List ℕ} (e : turn_record k n s ≡ ok t) where
  -- it is as long
  turn_length : length t ≡ length s
  turn_length =
      let r = turn_ok k n s e in
      ap length r.written ∙ turned-length k r.puzzle (record_Valid s r.read) ∙ ap length (write_read s r.read bytes)

  -- turned back: the same bytes
  turn_back : (m : ℕ) → length s ≤ m → turn_record (inverse k) m t ≡ ok s
  turn_back m l =
      let r = turn_ok k n s e in
      let v = record_Valid s r.read in
      let b = turned_back k r.puzzle v in
      let w : write_record (turned (inverse k) (turned k r.puzzle)) ≡ s = ap write_record b ∙ write_read s r.read bytes in
      ok_turn (inverse k) m t (turned k r.puzzle) (ap read_record r.written ∙ turned_read k r.puzzle v) (inverse_small k r.small) (omega (arith, turn_length)) ∙ ap {B = Outcome (List ℕ)} ok w

-- what turning makes of an accepted record s of the puzzle p, in an output of n bytes: t, which is a record, as long, and turned back by the
-- inverse gives s
pub record TurnsBack (k n : ℕ) (s : List ℕ) (p : Puzzle) : Type 0 where
  pub bytes : List ℕ
  pub turns : turn_record k n s ≡ ok bytes
  pub long : length bytes ≡ length s
  pub accepted : read_record bytes ≡ ok (turned k p)
  pub small : inverse k < 8
  pub back : turn_record (inverse k) n bytes ≡ ok s

-- so it is for each of the eight turnings
pub turns_back : (k : ℕ) → k < 8 → (s : List ℕ) → Bytes s → {p : Puzzle} → read_record s ≡ ok p → (n : ℕ) → length s ≤ n → TurnsBack k n s p
turns_back k l s bytes {p} e n h =
    let t = ok_turn k n s p e l h in
    record {
      bytes = write_record (turned k p);
      turns = t;
      long = turn_length k n s bytes t;
      accepted = turned_read k p (record_Valid s e);
      small = inverse_small k l;
      back = turn_back k n s bytes t n h;
    }

-- refusals: the record's own, then 14, then 15
pub turn_refused : (k n : ℕ) (s : List ℕ) (f : ℕ) → read_record s ≡ refused f → turn_record k n s ≡ refused f
unfolding turn_record ◌>>=◌
turn_refused k n s f e = rw e
