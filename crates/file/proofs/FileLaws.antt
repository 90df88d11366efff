-- The player's and the setter's reader, and the writer.
-- Assumes nothing.
use Prim.Native.Nat.{ℕ, ◌+◌, ◌-◌, ◌*◌, ◌≤◌, ◌<◌}
use native.Mathlib.Omega.{arith}
use native.Mathlib.Decide.{dec_lt}
use mathlib.Core.Path.{◌≡◌, refl, sym, ap, ◌∙◌}
use mathlib.Core.Bool.{Bool, true, false}
use mathlib.Core.List.Memᴰ
use mathlib.Core.List.{List}
use lib.Dec.{leb}
use lib.ListN.{length, get_or, take, drop, take-append-drop, length-drop, get_or-eq_default}
use lib.Seq.{drop_at}
use Rattle.grid.specs.Grid.{size}
use Rattle.fields.specs.Fields.{Outcome, ok, refused, ◌>>=◌, unless, bit}
use Rattle.fields.proofs.OutcomeLaws.{bind_ok, unless-ok, ok-eq}
use Rattle.fields.proofs.ReadLaws.{bind_value}
use Rattle.record.specs.Record.{Puzzle, Bytes}
use Rattle.record.specs.Leaf.{Leaf, in_edition, is_edition}
use Rattle.record.specs.Valid.{Valid}
use Rattle.record.specs.Write.{write_record}
use Rattle.record.specs.Head.{Head, read_head}
use Rattle.record.proofs.PackLaws.{Bits}
use Rattle.record.proofs.WriteLaws.{round_trip}
use Rattle.record.proofs.Accepted.{write_read}
use Rattle.record.proofs.HeadLaws.{head_room, head_same, head_prefix, record_more, head_Valid}
use Rattle.finished.specs.Finished.{Finished, finished_test}
use Rattle.finished.proofs.FinishedLaws.{Finished-means}
use Rattle.file.specs.File.{tail_of, cells_in, Tail, tail_test, grade_in, solution_in, Graded, Solved, graded_in, solved_in, player_behind, setter_behind, read_player, read_setter, write_tail, write_file, SolutionBit, SolutionAlone}
use Rattle.file.specs.Call.{to_player, player_within, player_given}
use Rattle.file.proofs.TailLaws.{bit-drop, Bytes-same, test_same, grade_same, tail_room, Tail-means, wrote_test, wrote_grade, wrote_solution, solution_length, tail_again}

-- ---- what is accepted

-- the player's reader accepts exactly a record with a tail behind it
pub player_says : (s : List ℕ) {g : Graded} → read_player s ≡ ok g → (h : Head) × (read_head s ≡ ok h) × (tail_test (tail_of s h) (cells_in h) ≡ true) × (graded_in s h ≡ g)
unfolding read_player player_behind
player_says s e =
    let a = bind_ok (read_head s) _ e in
    let b = bind_ok (unless (tail_test (tail_of s a.0) (cells_in a.0)) 20) _ a.2 in
    (a.0, a.1, unless-ok _ 20 b.1, ok-eq b.2)

-- and gives that record
pub player_head : (s : List ℕ) {g : Graded} → read_player s ≡ ok g → read_head s ≡ ok g.head
player_head s e = let r = player_says s e in r.1 ∙ (unfold graded_in in ap (λ (g : Graded). ok g.head) r.3)

pub player_accepts : (s : List ℕ) {h : Head} → read_head s ≡ ok h → tail_test (tail_of s h) (cells_in h) ≡ true → read_player s ≡ ok (graded_in s h)
unfolding read_player player_behind ◌>>=◌ unless
player_accepts s e a = rw (e, a) refl

module _ (e : ℕ) (s : List ℕ) where
  -- the setter's one whose solution is finished, too
  pub setter_says : {f : Solved} → read_setter e s ≡ ok f → (h : Head) × (read_head s ≡ ok h) × (tail_test (tail_of s h) (cells_in h) ≡ true) × (is_edition e ≡ true)
      × (finished_test (in_edition e h.puzzle) (solution_in (tail_of s h) (cells_in h)) ≡ true) × (solved_in s h ≡ f)
  unfolding read_setter setter_behind
  setter_says r =
      let a = bind_ok (read_head s) _ r in
      let t = tail_of s a.0 in
      let b = bind_ok (unless (tail_test t (cells_in a.0)) 20) _ a.2 in
      let c = bind_ok (unless (is_edition e) 16) _ b.2 in
      let d = bind_ok (unless (finished_test (in_edition e a.0.puzzle) (solution_in t (cells_in a.0))) 21) _ c.2 in
      (a.0, a.1, unless-ok _ 20 b.1, unless-ok _ 16 c.1, unless-ok _ 21 d.1, ok-eq d.2)

  module _ {h : Head} (r : read_head s ≡ ok h) where
    -- the test of the solution, and what it means
    means : (finished_test (in_edition e h.puzzle) (solution_in (tail_of s h) (cells_in h)) ≡ true → Finished (in_edition e h.puzzle) (solution_in (tail_of s h) (cells_in h)))
        × (Finished (in_edition e h.puzzle) (solution_in (tail_of s h) (cells_in h)) → finished_test (in_edition e h.puzzle) (solution_in (tail_of s h) (cells_in h)) ≡ true)
    means = Finished-means (in_edition e h.puzzle) (head_Valid s r) (solution_in (tail_of s h) (cells_in h)) (solution_length (tail_of s h) (cells_in h))

    accepts : tail_test (tail_of s h) (cells_in h) ≡ true → is_edition e ≡ true → finished_test (in_edition e h.puzzle) (solution_in (tail_of s h) (cells_in h)) ≡ true → read_setter e s ≡ ok (solved_in s h)
    unfolding read_setter setter_behind ◌>>=◌ unless
    accepts a b c = rw (r, a, b, c) refl

    -- a record with a tail behind it whose solution is finished in the edition is accepted
    pub setter_accepts : Tail (tail_of s h) (cells_in h) → is_edition e ≡ true → Finished (in_edition e h.puzzle) (solution_in (tail_of s h) (cells_in h)) → read_setter e s ≡ ok (solved_in s h)
    setter_accepts t b f = accepts ((Tail-means (tail_of s h) (cells_in h)).1 t) b (means.1 f)

  -- what is accepted is finished in that edition
  pub setter_vouches : {f : Solved} → read_setter e s ≡ ok f → Finished (in_edition e f.graded.head.puzzle) f.solution
  setter_vouches {f} r =
      let w = setter_says r in
      let h : Head = w.0 in
      rw (← w.5) (unfold solved_in graded_in in (means w.1).0 w.4)

  -- and the player's reader accepts it, with the same record and grade
  pub setter_player : {f : Solved} → read_setter e s ≡ ok f → read_player s ≡ ok f.graded
  setter_player {f} r =
      let w = setter_says r in
      player_accepts s w.1 w.2 ∙ (unfold solved_in in ap (λ (g : Solved). ok g.graded) w.5)

  -- so both agree on record and grade where both accept
  pub agree : {f : Solved} {g : Graded} → read_setter e s ≡ ok f → read_player s ≡ ok g → f.graded ≡ g
  agree r q = ok-eq (sym (setter_player r) ∙ q)

-- ---- the player's reader sees nothing of the solution

module _ (s t : List ℕ) (bs : Bytes s) (bt : Bytes t) (d : SolutionAlone s t) where
  -- the records are the same
  same_head : {h : Head} → read_head s ≡ ok h → read_head t ≡ ok h
  same_head {h} e = head_same s t e (omega (arith, head_room s e, d.long)) (λ j l. d.same j (omega (arith, head_room s e)) (λ b. away j l b (cc (b.accepted, e))))
    where
      away : (j : ℕ) → j < 8 * h.bytes → (b : SolutionBit s j) → b.head ≡ h → ⊥
      away j l b q = let f : 8 * h.bytes + 3 ≤ j = rw (← q) b.from in omega arith

  module _ {h : Head} (e : read_head s ≡ ok h) where
    -- a bit of the tail that is not of the solution
    same_bit : (k : ℕ) → k < 8 * length (tail_of s h) → (3 ≤ k → k < 3 + cells_in h → ⊥) → bit (tail_of s h) k ≡ bit (tail_of t h) k
    same_bit k l n =
        bit-drop s h.bytes k
        ∙ d.same (8 * h.bytes + k) (omega (arith, length-drop h.bytes s)) (λ b. out b (cc (b.accepted, e)))
        ∙ sym (bit-drop t h.bytes k)
      where
        out : (b : SolutionBit s (8 * h.bytes + k)) → b.head ≡ h → ⊥
        out b q =
            let f : 8 * h.bytes + 3 ≤ 8 * h.bytes + k = rw q at b.from in
            let g : 8 * h.bytes + k < 8 * h.bytes + 3 + cells_in h = rw q at b.to in
            n (omega arith) (omega arith)

    same_test : tail_test (tail_of s h) (cells_in h) ≡ tail_test (tail_of t h) (cells_in h)
    same_test =
        let n : length (tail_of s h) ≡ length (tail_of t h) = length-drop h.bytes s ∙ ap (λ (k : ℕ). k - h.bytes) d.long ∙ sym (length-drop h.bytes t) in
        test_same (tail_of s h) (tail_of t h) (cells_in h) n (λ k l u. same_bit k u (λ x y. omega arith))

    -- so is what stands behind them, but for the solution
    behind_blind : player_behind s h ≡ player_behind t h
    unfolding player_behind
    behind_blind = go (tail_test (tail_of s h) (cells_in h)) refl
      where
        same_graded : tail_test (tail_of s h) (cells_in h) ≡ true → graded_in s h ≡ graded_in t h
        same_graded f =
            let r = tail_room (tail_of s h) (cells_in h) f in
            unfold graded_in in ap (λ (x : ℕ). record { head = h; grade = x }) (grade_same (tail_of s h) (tail_of t h) (λ k l. same_bit k (omega arith) (λ x y. omega arith)))

        go : (b : Bool) → tail_test (tail_of s h) (cells_in h) ≡ b
            → (unless (tail_test (tail_of s h) (cells_in h)) 20 >>= λ _. ok (graded_in s h)) ≡ (unless (tail_test (tail_of t h) (cells_in h)) 20 >>= λ _. ok (graded_in t h))
        go true f = rw (← same_test, f, same_graded f) refl
        go false f = unfold unless ◌>>=◌ in rw (← same_test, f) refl

  -- what reads a file by its head, and of the rest what is the same
  headed : {A : Type 0} (F : List ℕ → Head → Outcome A) → ((h : Head) → read_head s ≡ ok h → F s h ≡ F t h) → (read_head s >>= F s) ≡ (read_head t >>= F t)
  headed {A} F same = go (read_head s) refl
    where
      go : (o : Outcome Head) → read_head s ≡ o → (read_head s >>= F s) ≡ (read_head t >>= F t)
      go (refused k) e = ap (λ (x : List ℕ). read_head x >>= F x) (Bytes-same s t bs bt d.long (λ j l. d.same j l (λ b. let q : ok b.head ≡ refused k = sym b.accepted ∙ e in let z : ◌≡◌ {A = ℕ} 0 1 = cc in omega arith)))
      go (ok h) e = bind_value (F s) e ∙ same h e ∙ sym (bind_value (F t) (same_head e))

  -- the player's reader answers the same, refusals included
  pub player_blind : read_player s ≡ read_player t
  unfolding read_player
  player_blind = headed player_behind (λ h e. behind_blind e)

  -- and so does the exported call, with an output of any length
  pub call_blind : (n : ℕ) → player_given n s ≡ player_given n t
  unfolding player_given player_within
  call_blind n =
      ap (λ (o : Outcome Graded). o >>= λ f. ok (to_player f))
      (headed (λ x h. unless (leb 1 n) 11 >>= λ _. player_behind x h) (λ h e. ap (λ (o : Outcome Graded). unless (leb 1 n) 11 >>= λ _. o) (behind_blind e)))

  -- it is the same whichever of the two files is taken first
  pub alone_sym : SolutionAlone t s
  alone_sym = record { long = sym d.long; same = λ k l n. sym (d.same k (omega (arith, d.long)) (λ b. n (record { head = b.head; accepted = same_head b.accepted; from = b.from; to = b.to }))) }

-- ---- read and written

Bytes-take : (s : List ℕ) (n : ℕ) → Bytes s → Bytes (take n s)
Bytes-take s n h x k = h x (rw take-append-drop at (Memᴰ.append_left (drop n s) k))

Bytes-drop : (s : List ℕ) (n : ℕ) → Bytes s → Bytes (drop n s)
Bytes-drop s n h x k = h x (rw take-append-drop at (Memᴰ.append_right (take n s) k))

-- what is read, written again, is the file
again : (s : List ℕ) {h : Head} → read_head s ≡ ok h → tail_test (tail_of s h) (cells_in h) ≡ true → Bytes s → write_file h.puzzle (grade_in (tail_of s h)) (solution_in (tail_of s h) (cells_in h)) ≡ s
unfolding write_file
again s {h} e a bs =
    rw (write_read (take h.bytes s) (head_prefix s e) (Bytes-take s h.bytes bs), tail_again (tail_of s h) (cells_in h) a (Bytes-drop s h.bytes bs))
    (take-append-drop h.bytes s)

-- a file that the player's reader accepts is the one that is written for its puzzle, its grade and some solution
pub player_write : (s : List ℕ) {g : Graded} → read_player s ≡ ok g → Bytes s
    → (solution : List ℕ) × (length solution ≡ cells_in g.head) × (write_file g.head.puzzle g.grade solution ≡ s)
player_write s {g} e bs =
    let r = player_says s e in
    let h = r.0 in
    rw (← r.3) (unfold graded_in in (solution_in (tail_of s h) (cells_in h), solution_length (tail_of s h) (cells_in h), again s r.1 r.2 bs))

-- one that the setter's reader accepts is the one that is written for all that it gives
pub setter_write : (e : ℕ) (s : List ℕ) {f : Solved} → read_setter e s ≡ ok f → Bytes s → write_file f.graded.head.puzzle f.graded.grade f.solution ≡ s
setter_write e s {f} r bs =
    let w = setter_says e s r in
    rw (← w.5) (unfold solved_in graded_in in again s w.1 w.2 bs)

-- ---- written and read

-- what is written for a valid puzzle, a grade below 8 and a bit for each cell is read again
module _ (p : Puzzle) (v : Valid p) (grade : ℕ) (small : grade < 8) (solution : List ℕ) (long : length solution ≡ size p.grid) (each : Bits solution) where
  abbrev headed_by : Head
  headed_by = record { puzzle = p; bytes = length (write_record p) }

  file : List ℕ
  file = write_file p grade solution

  wrote_head : read_head file ≡ ok headed_by
  unfolding file write_file
  wrote_head = record_more (write_record p) (write_tail grade solution) (round_trip p v)

  wrote_tail : tail_of file headed_by ≡ write_tail grade solution
  unfolding file write_file
  wrote_tail = drop_at (write_record p) (write_tail grade solution) (length (write_record p)) refl

  wrote_tested : tail_test (tail_of file headed_by) (size p.grid) ≡ true
  wrote_tested = ap (λ (t : List ℕ). tail_test t (size p.grid)) wrote_tail ∙ ap (tail_test (write_tail grade solution)) (sym long) ∙ wrote_test grade solution small each

  wrote_graded : graded_in file headed_by ≡ record { head = headed_by; grade = grade }
  unfolding graded_in
  wrote_graded = ap (λ (g : ℕ). record { head = headed_by; grade = g }) (ap grade_in wrote_tail ∙ wrote_grade grade solution small each)

  wrote_cells : solution_in (tail_of file headed_by) (size p.grid) ≡ solution
  wrote_cells = ap (λ (t : List ℕ). solution_in t (size p.grid)) wrote_tail ∙ ap (solution_in (write_tail grade solution)) (sym long) ∙ wrote_solution grade solution small each

  pub written_player : read_player (write_file p grade solution) ≡ ok (record { head = headed_by; grade = grade })
  written_player = unfold file in (player_accepts file wrote_head wrote_tested ∙ ap {B = Outcome Graded} ok wrote_graded)

  pub written_setter : (e : ℕ) → is_edition e ≡ true → finished_test (in_edition e p) solution ≡ true
      → read_setter e (write_file p grade solution) ≡ ok (record { graded = record { head = headed_by; grade = grade }; solution = solution })
  written_setter e a b = unfold file solved_in in (accepts e file wrote_head wrote_tested a (rw wrote_cells b) ∙ rw (wrote_graded, wrote_cells) refl)

-- the cells of a finished board are bits
Finished-Bits : (l : Leaf) (cells : List ℕ) → Finished l cells → Bits cells
Finished-Bits l cells f k = go (dec_lt k (size l.puzzle.grid))
  where
    go : Dec (k < size l.puzzle.grid) → get_or cells k 0 < 2
    go (yes t) = omega (arith, f.decided.each k t)
    go (no t) = rw (get_or-eq_default cells 0 {n = k} (omega (arith, f.decided.long))) (omega arith)

-- what is written for a valid puzzle, a grade below 8 and a solution that is finished in an edition, the setter's reader gives again
pub Finished-written : (e : ℕ) (p : Puzzle) → Valid p → is_edition e ≡ true → (grade : ℕ) → grade < 8 → (solution : List ℕ) → Finished (in_edition e p) solution
    → read_setter e (write_file p grade solution) ≡ ok (record { graded = record { head = record { puzzle = p; bytes = length (write_record p) }; grade = grade }; solution = solution })
Finished-written e p v a grade l solution f =
    written_setter p v grade l solution f.decided.long (Finished-Bits (in_edition e p) solution f) e a
    ((Finished-means (in_edition e p) v solution f.decided.long).1 f)
