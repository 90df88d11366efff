-- The answers of `join`, and what a joined record is.
-- Assumes nothing.
use Prim.Native.Nat.{ℕ, ◌≤◌, ◌<◌}
use mathlib.Core.Path.{◌≡◌, sym, ap, ◌∙◌}
use mathlib.Core.List.{List}
use lib.Dec.{eqb, leb}
use lib.ListN.{length}
use borrow.Author.Tests.{eqb-true, eq-eqb, ne_eqb, leb-true, le-leb, lt-leb}
use Rattle.fields.specs.Fields.{ok, refused, ◌>>=◌, unless}
use Rattle.fields.proofs.OutcomeLaws.{bind_ok, unless-ok, ok-eq}
use Rattle.record.specs.Record.{Puzzle, read_record}
use Rattle.record.specs.Write.{write_record}
use Rattle.record.proofs.RecordLaws.{record_Valid}
use Rattle.join.specs.Join.{joined_grid, joined, join_puzzles, join_record}
use Rattle.join.proofs.JoinLaws.{joined_read}

-- two records: the refusals of the left, of the right, and what comes then
module _ (n : ℕ) (s t : List ℕ) where
  pub left_refused : (k : ℕ) → read_record s ≡ refused k → join_record n s t ≡ refused k
  unfolding join_record ◌>>=◌
  left_refused k e = rw e

  pub right_refused : (p : Puzzle) (k : ℕ) → read_record s ≡ ok p → read_record t ≡ refused k → join_record n s t ≡ refused k
  unfolding join_record ◌>>=◌
  right_refused p k e f = rw (e, f)

  pub both_read : (p q : Puzzle) → read_record s ≡ ok p → read_record t ≡ ok q → join_record n s t ≡ join_puzzles n p q
  unfolding join_record ◌>>=◌
  both_read p q e f = rw (e, f)

-- two puzzles
module _ (n : ℕ) (p q : Puzzle) where
  pub join_18 : (p.grid.height ≡ q.grid.height → ⊥) → join_puzzles n p q ≡ refused 18
  unfolding join_puzzles ◌>>=◌ unless
  join_18 h = rw (ne_eqb p.grid.height q.grid.height h)

  module _ (level : p.grid.height ≡ q.grid.height) where
    pub join_19 : 32 < (joined_grid p q).width → join_puzzles n p q ≡ refused 19
    unfolding join_puzzles ◌>>=◌ unless
    join_19 w = rw (eq-eqb p.grid.height q.grid.height level, lt-leb (joined_grid p q).width 32 w)

    pub join_15 : (joined_grid p q).width ≤ 32 → n < length (write_record (joined p q)) → join_puzzles n p q ≡ refused 15
    unfolding join_puzzles ◌>>=◌ unless
    join_15 w f = rw (eq-eqb p.grid.height q.grid.height level, le-leb (joined_grid p q).width 32 w, lt-leb (length (write_record (joined p q))) n f)

    pub join_done : (joined_grid p q).width ≤ 32 → length (write_record (joined p q)) ≤ n → join_puzzles n p q ≡ ok (write_record (joined p q))
    unfolding join_puzzles ◌>>=◌ unless
    join_done w f = rw (eq-eqb p.grid.height q.grid.height level, le-leb (joined_grid p q).width 32 w, le-leb (length (write_record (joined p q))) n f)

-- what a joined record is: it is read as the joined puzzle of two accepted records
pub record JoinedRecord (n : ℕ) (s t r : List ℕ) : Type 0 where
  pub left : Puzzle
  pub right : Puzzle
  pub read_left : read_record s ≡ ok left
  pub read_right : read_record t ≡ ok right
  pub level : left.grid.height ≡ right.grid.height
  pub wide : (joined_grid left right).width ≤ 32
  pub fits : length r ≤ n
  pub written : r ≡ write_record (joined left right)
  pub read : read_record r ≡ ok (joined left right)

pub join_ok : (n : ℕ) (s t : List ℕ) {r : List ℕ} → join_record n s t ≡ ok r → JoinedRecord n s t r
unfolding join_record join_puzzles
join_ok n s t {r} e =
    let a = bind_ok (read_record s) _ e in
    let b = bind_ok (read_record t) _ a.2 in
    let p : Puzzle = a.0 in
    let q : Puzzle = b.0 in
    let c = bind_ok (unless (eqb p.grid.height q.grid.height) 18) _ b.2 in
    let d = bind_ok (unless (leb (joined_grid p q).width 32) 19) _ c.2 in
    let f = bind_ok (unless (leb (length (write_record (joined p q))) n) 15) _ d.2 in
    let level : p.grid.height ≡ q.grid.height = eqb-true _ _ (unless-ok _ 18 c.1) in
    let wide : (joined_grid p q).width ≤ 32 = leb-true _ 32 (unless-ok _ 19 d.1) in
    let fits : length (write_record (joined p q)) ≤ n = leb-true _ n (unless-ok _ 15 f.1) in
    let z : write_record (joined p q) ≡ r = ok-eq f.2 in
    record {
      left = p;
      right = q;
      read_left = a.1;
      read_right = b.1;
      level = level;
      wide = wide;
      fits = rw (← z) fits;
      written = sym z;
      read = ap read_record (sym z) ∙ joined_read p q level (record_Valid s a.1) (record_Valid t b.1) wide;
    }

-- and two accepted records of equal height have one where the joined width and the output allow it
pub ok_join : (n : ℕ) (s t : List ℕ) (p q : Puzzle) → read_record s ≡ ok p → read_record t ≡ ok q → p.grid.height ≡ q.grid.height → (joined_grid p q).width ≤ 32
    → length (write_record (joined p q)) ≤ n → join_record n s t ≡ ok (write_record (joined p q))
ok_join n s t p q e d level wide fits = both_read n s t p q e d ∙ join_done n p q level wide fits
