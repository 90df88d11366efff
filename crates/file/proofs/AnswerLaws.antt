-- The readers of a file: each way out of them.
-- Assumes nothing.
use Prim.Native.Nat.{ℕ, suc, ◌+◌, ◌*◌, ◌≤◌, ◌<◌}
use native.Mathlib.Omega.{arith}
use mathlib.Core.Path.{◌≡◌, refl, sym, ap, ◌∙◌}
use mathlib.Core.Bool.{Bool, true, false}
use mathlib.Core.List.{List, [], ◌∷◌, ◌++◌}
use lib.Dec.{leb}
use lib.IntN.{pos}
use lib.ListN.{length, take, drop, set}
use borrow.Author.Tests.{le-leb, lt-leb, leb-true}
use Rattle.grid.specs.Lists.{array_of}
use Rattle.grid.specs.Grid.{size}
use Rattle.grid.proofs.ArrayLaws.{array_take}
use Rattle.grid.proofs.FilledLaws.{filled_more}
use Rattle.std.specs.Prelude.{Ok, Err}
use Rattle.std.specs.Result.{IsErrAnd}
use Rattle.std.specs.declared.result.Result.{Result}
use Rattle.refusal.specs.declared.Refusal.{Refusal}
use Rattle.refusal.specs.Refusals.{number_of}
use Rattle.fields.specs.Fields.{Outcome, ok, refused, ◌>>=◌, unless, bit, number, bytes_for}
use Rattle.fields.proofs.OutcomeLaws.{bind_ok, unless-ok, ok-eq}
use Rattle.fields.proofs.ReadLaws.{bind_value, bind_refused}
use Rattle.record.specs.Record.{Puzzle}
use Rattle.record.specs.Leaf.{in_edition, is_edition}
use Rattle.record.specs.Problem.{problem_of, puzzle_of, as_problem, total_of}
use Rattle.record.specs.Head.{Head, read_head, puzzle_in}
use Rattle.record.specs.declared.Problem.{Problem}
use Rattle.record.proofs.ProblemLaws.{problem_puzzle}
use Rattle.record.proofs.RecordLaws.{Valid-size}
use Rattle.record.proofs.HeadLaws.{head_bytes, head_Valid, head_length}
use Rattle.form.specs.Form.{problem_formed}
use Rattle.form.proofs.ProblemForm.{is_Formed, valid_Formed}
use Rattle.exported.specs.Written.{output_with}
use Rattle.writer.proofs.ArrayLaws.{length_in}
use Rattle.finished.specs.Finished.{Finished, finished_test}
use Rattle.file.specs.File.{tail_of, cells_in, tail_test, grade_in, solution_in, Graded, Solved, graded_in, solved_in, player_behind, setter_behind, read_player, read_setter}
use Rattle.file.specs.Answers.{graded_as, player_of, solved_as, setter_of, Gives}
use Rattle.file.specs.Inside.{record_end, has_tail}
use Rattle.file.specs.Call.{Given, to_player, to_setter, player_within, setter_within, player_given, setter_given, given_length, given_bytes}
use Rattle.file.specs.declared.Player.{Player}
use Rattle.file.specs.declared.Setter.{Setter}
use Rattle.file.proofs.TailLaws.{solution_length, cell_bit}
use Rattle.file.proofs.FileLaws.{player_head, setter_vouches, setter_player, agree}

-- a refusal
pub player_no : {k : ℕ} → player_of (refused k) ≡ refused k
unfolding player_of ◌>>=◌
player_no = refl

pub setter_no : {k : ℕ} → setter_of (refused k) ≡ refused k
unfolding setter_of ◌>>=◌
setter_no = refl

player_back : (o : Outcome Graded) {k : ℕ} → refused k ≡ player_of o → o ≡ refused k
unfolding player_of ◌>>=◌
player_back (refused j) {k} e = let z : j ≡ k = cc in ap {B = Outcome Graded} refused z
player_back (ok f) e = let z : ◌≡◌ {A = ℕ} 0 1 = cc in absurd (omega arith)

player_got : (o : Outcome Graded) {p : Player} → ok p ≡ player_of o → (f : Graded) × (o ≡ ok f) × (p ≡ graded_as f)
unfolding player_of ◌>>=◌
player_got (refused k) e = let z : ◌≡◌ {A = ℕ} 0 1 = cc in absurd (omega arith)
player_got (ok f) {p} e = (f, refl, cc)

setter_back : (o : Outcome Solved) {k : ℕ} → refused k ≡ setter_of o → o ≡ refused k
unfolding setter_of ◌>>=◌
setter_back (refused j) {k} e = let z : j ≡ k = cc in ap {B = Outcome Solved} refused z
setter_back (ok f) e = let z : ◌≡◌ {A = ℕ} 0 1 = cc in absurd (omega arith)

setter_got : (o : Outcome Solved) {p : Setter} → ok p ≡ setter_of o → (f : Solved) × (o ≡ ok f) × (p ≡ solved_as f)
unfolding setter_of ◌>>=◌
setter_got (refused k) e = let z : ◌≡◌ {A = ℕ} 0 1 = cc in absurd (omega arith)
setter_got (ok f) {p} e = (f, refl, cc)

-- ---- a record that is refused, and one that is not

-- the problem that was read at the head of a file
head_no : (o : Outcome Head) {k : ℕ} → refused k ≡ as_problem (puzzle_in o) → o ≡ refused k
unfolding as_problem puzzle_in ◌>>=◌
head_no (refused j) {k} e = let z : j ≡ k = cc in ap {B = Outcome Head} refused z
head_no (ok h) e = let z : ◌≡◌ {A = ℕ} 0 1 = cc in absurd (omega arith)

head_yes : (o : Outcome Head) {q : Problem} → ok q ≡ as_problem (puzzle_in o) → (h : Head) × (o ≡ ok h) × (q ≡ problem_of h.puzzle)
unfolding as_problem puzzle_in ◌>>=◌
head_yes (refused k) e = let z : ◌≡◌ {A = ℕ} 0 1 = cc in absurd (omega arith)
head_yes (ok h) {q} e = (h, refl, cc)

pub head_fault : (s : List ℕ) {k : ℕ} → refused k ≡ as_problem (puzzle_in (read_head s)) → read_head s ≡ refused k
head_fault s e = head_no (read_head s) e

pub head_ok : (s : List ℕ) {q : Problem} → ok q ≡ as_problem (puzzle_in (read_head s)) → (h : Head) × (read_head s ≡ ok h) × (q ≡ problem_of h.puzzle)
head_ok s e = head_yes (read_head s) e

-- it is well formed
pub head_formed : (s : List ℕ) (q : Problem) → ok q ≡ as_problem (puzzle_in (read_head s)) → problem_formed q ≡ true
head_formed s q e =
    let h = head_ok s e in
    rw h.2 (is_Formed (problem_of h.0.puzzle) (valid_Formed h.0.puzzle (head_Valid s h.1)))

pub player_unread : (n : ℕ) (s : List ℕ) {k : ℕ} → read_head s ≡ refused k → player_within n s ≡ refused k
unfolding player_within ◌>>=◌
player_unread n s e = rw e refl

pub setter_unread : (n e : ℕ) (s : List ℕ) {k : ℕ} → read_head s ≡ refused k → setter_within n e s ≡ refused k
unfolding setter_within ◌>>=◌
setter_unread n e s r = rw r refl

module _ (s : List ℕ) {h : Head} (r : read_head s ≡ ok h) where
  -- the arrays that were read: how long the record is, and how many cells it has
  module _ (q : Problem) (f : q ≡ problem_of h.puzzle) where
    pub length_found : (n : ℕ) → n ≡ bytes_for (21 + 2 * (q.height * q.width) + 18 * q.count + 2 * total_of q) → n ≡ h.bytes
    length_found n e = e ∙ length_in h.puzzle (head_Valid s r) q f ∙ sym (head_bytes s r)

    pub cells_found : q.height * q.width ≡ cells_in h
    unfolding problem_of size
    cells_found = ap (λ (x : Problem). x.height * x.width) f

    pub cells_few : q.height * q.width ≤ 1024
    cells_few = omega (arith, cells_found, Valid-size (head_Valid s r))

    -- the test of the tail
    pub tested : (n : ℕ) → n ≡ h.bytes → (b : Bool) → b ≡ tail_test (drop n s) (q.height * q.width) → b ≡ tail_test (tail_of s h) (cells_in h)
    tested n e b t = t ∙ ap (λ (k : ℕ). tail_test (drop k s) (q.height * q.width)) e ∙ ap (tail_test (tail_of s h)) cells_found

    -- and of the solution, in arrays
    pub judged : (e : ℕ) (cells : List ℕ) (n : ℕ) → n ≡ h.bytes → cells ≡ array_of 0 (solution_in (drop n s) (q.height * q.width)) → (b : Bool)
        → b ≡ finished_test (in_edition e (puzzle_of q)) (take (q.height * q.width) cells) → b ≡ finished_test (in_edition e h.puzzle) (solution_in (tail_of s h) (cells_in h))
    judged e cells n w a b t =
        let p : puzzle_of q ≡ h.puzzle = ap puzzle_of f ∙ problem_puzzle h.puzzle (head_Valid s r) in
        let c : cells ≡ array_of 0 (solution_in (tail_of s h) (cells_in h)) =
        a ∙ ap (λ (k : ℕ). array_of 0 (solution_in (drop k s) (q.height * q.width))) w ∙ ap (λ (k : ℕ). array_of 0 (solution_in (tail_of s h) k)) cells_found in
        let l : take (q.height * q.width) cells ≡ solution_in (tail_of s h) (cells_in h) =
        ap (take (q.height * q.width)) c
        ∙ ap (λ (k : ℕ). take k (array_of 0 (solution_in (tail_of s h) (cells_in h)))) (cells_found ∙ sym (solution_length (tail_of s h) (cells_in h)))
        ∙ array_take 0 (solution_in (tail_of s h) (cells_in h)) in
        t ∙ ap (λ (x : Puzzle). finished_test (in_edition e x) (take (q.height * q.width) cells)) p ∙ ap (finished_test (in_edition e h.puzzle)) l

-- a file whose record is read into arrays: where the record ends, how many cells it has, and whether a tail stands behind it
pub record Behind (s : List ℕ) (q : Problem) (tail : Bool) : Type 0 where
  pub head : Head
  pub reads : read_head s ≡ ok head
  pub is : q ≡ problem_of head.puzzle
  pub bytes : record_end q ≡ head.bytes
  pub cells : q.height * q.width ≡ cells_in head
  pub tailed : tail ≡ tail_test (tail_of s head) (cells_in head)

pub behind : (s : List ℕ) {q : Problem} → ok q ≡ as_problem (puzzle_in (read_head s)) → {b : Bool} → has_tail q s ≡ b → Behind s q b
behind s {q} o {b} t =
    let h = head_ok s o in
    let w = length_found s h.1 q h.2 (record_end q) refl in
    record { head = h.0; reads = h.1; is = h.2; bytes = w; cells = cells_found s h.1 q h.2; tailed = tested s h.1 q h.2 (record_end q) w b (sym t) }

module _ (s : List ℕ) {h : Head} (r : read_head s ≡ ok h) where
  module _ (n : ℕ) where
    pub player_11 : n < 1 → player_within n s ≡ refused 11
    unfolding player_within ◌>>=◌ unless
    player_11 l = rw (r, lt-leb 1 n l) refl

    pub player_20 : 1 ≤ n → tail_test (tail_of s h) (cells_in h) ≡ false → player_within n s ≡ refused 20
    unfolding player_within player_behind ◌>>=◌ unless
    player_20 l t = rw (r, le-leb 1 n l, t) refl

    pub player_done : 1 ≤ n → tail_test (tail_of s h) (cells_in h) ≡ true → (m g : ℕ) → m ≡ h.bytes → g ≡ grade_in (drop m s)
        → ◌≡◌ {A = Outcome Player} (ok (record { length = m; grade = g })) (player_of (player_within n s))
    unfolding player_within player_behind graded_in player_of ◌>>=◌ unless
    player_done l t m g e f = rw (r, le-leb 1 n l, t, f, e) refl

    module _ (e : ℕ) where
      pub setter_11 : n < 1 + cells_in h → setter_within n e s ≡ refused 11
      unfolding setter_within ◌>>=◌ unless
      setter_11 l = rw (r, lt-leb (1 + cells_in h) n l) refl

      module _ (l : 1 + cells_in h ≤ n) where
        pub setter_20 : tail_test (tail_of s h) (cells_in h) ≡ false → setter_within n e s ≡ refused 20
        unfolding setter_within setter_behind ◌>>=◌ unless
        setter_20 t = rw (r, le-leb (1 + cells_in h) n l, t) refl

        module _ (t : tail_test (tail_of s h) (cells_in h) ≡ true) where
          pub setter_16 : is_edition e ≡ false → setter_within n e s ≡ refused 16
          unfolding setter_within setter_behind ◌>>=◌ unless
          setter_16 a = rw (r, le-leb (1 + cells_in h) n l, t, a) refl

          module _ (a : is_edition e ≡ true) where
            pub setter_21 : finished_test (in_edition e h.puzzle) (solution_in (tail_of s h) (cells_in h)) ≡ false → setter_within n e s ≡ refused 21
            unfolding setter_within setter_behind ◌>>=◌ unless
            setter_21 b = rw (r, le-leb (1 + cells_in h) n l, t, a, b) refl

            pub setter_done : finished_test (in_edition e h.puzzle) (solution_in (tail_of s h) (cells_in h)) ≡ true
                → (m g k : ℕ) (cells : List ℕ) → m ≡ h.bytes → g ≡ grade_in (drop m s) → k ≡ cells_in h → cells ≡ array_of 0 (solution_in (drop m s) k)
                → ◌≡◌ {A = Outcome Setter} (ok (record { player = record { length = m; grade = g }; count = k; cells = cells })) (setter_of (setter_within n e s))
            unfolding setter_within setter_behind solved_in graded_in setter_of ◌>>=◌ unless
            setter_done b m g k cells w f c d = rw (r, le-leb (1 + cells_in h) n l, t, a, b, d, f, w, c, solution_length (tail_of s h) (cells_in h)) refl

-- ---- the solution

-- one cell more in the array
pub solution_more : (s : List ℕ) (n i : ℕ) {x : ℕ} → i < 1024 → x ≡ number s (8 * n + 3 + i) 1 → set (array_of 0 (solution_in (drop n s) i)) i x ≡ array_of 0 (solution_in (drop n s) (i + 1))
unfolding solution_in
solution_more s n i {x} l e = filled_more 0 (λ j. bit (drop n s) (3 + j)) i x l (e ∙ cell_bit s n i)

-- ---- the readers with room for all that they give

-- a later step that is the same for the value there is
same_step : {A B : Type 0} (o : Outcome A) (f g : A → Outcome B) → ((x : A) → o ≡ ok x → f x ≡ g x) → (o >>= f) ≡ (o >>= g)
unfolding ◌>>=◌
same_step (refused k) f g h = refl
same_step (ok x) f g h = h x refl

pub player_room : (s : List ℕ) → player_within 1 s ≡ read_player s
unfolding player_within read_player ◌>>=◌ unless
player_room s = same_step (read_head s) _ _ (λ h e. refl)

pub setter_room : (e : ℕ) (s : List ℕ) → setter_within 1025 e s ≡ read_setter e s
unfolding setter_within read_setter
setter_room e s = same_step (read_head s) _ _ (λ h r. go h (le-leb (1 + cells_in h) 1025 (omega (arith, Valid-size (head_Valid s r)))))
  where
    go : (h : Head) → leb (1 + cells_in h) 1025 ≡ true → (unless (leb (1 + cells_in h) 1025) 11 >>= λ _. setter_behind e s h) ≡ setter_behind e s h
    go h t = unfold ◌>>=◌ unless in rw t refl

-- ---- the bytes that are written

-- the grade stands in front
pub grade_first : (grade : ℕ) (old : List ℕ) → 1 ≤ length old → set old 0 grade ≡ grade ∷ drop 1 (set old 0 grade)
grade_first grade [] h = absurd (omega arith)
grade_first grade (x ∷ old) h = refl

-- and changes nothing behind it
pub grade_alone : (grade k : ℕ) (old : List ℕ) → drop (1 + k) (set old 0 grade) ≡ drop (1 + k) old
grade_alone grade k old = let m : 1 + k ≡ suc k = omega arith in rw m (go old)
  where
    go : (l : List ℕ) → drop (suc k) (set l 0 grade) ≡ drop (suc k) l
    go [] = refl
    go (x ∷ l) = refl

pub grade_put : (grade : ℕ) (old : List ℕ) → 1 ≤ length old → set old 0 grade ≡ (grade ∷ []) ++ drop 1 old
grade_put grade old h = grade_first grade old h ∙ ap (λ (l : List ℕ). grade ∷ l) (grade_alone grade 0 old)

-- ---- the exported calls

-- a refusal, also at the exit of a `?`, and what is given
module _ (o : Outcome Given) (old : List ℕ) where
  Gives-refused : (r : Refusal) → o ≡ refused (number_of r) → Gives o (Err r) old old
  unfolding given_length given_bytes output_with ◌>>=◌
  Gives-refused r e = rw e (record { returned = refl; few = λ n h. let z : ◌≡◌ {A = ℕ} 0 1 = cc in absurd (omega arith); output = refl })

  Gives-fault : (a : Result ℕ Refusal) (r : Refusal) → IsErrAnd a (λ y. y ≡ r) → o ≡ refused (number_of r) → Gives o a old old
  Gives-fault (Ok n) r x e = absurd x
  Gives-fault (Err y) r x e = rw x (Gives-refused r e)

  Gives-ok : (a : Given) (new : List ℕ) (n : ℕ) → o ≡ ok a → n ≡ a.length → n ≤ 2819 → new ≡ a.bytes ++ drop (length a.bytes) old → Gives o (Ok n) old new
  unfolding given_length given_bytes output_with ◌>>=◌
  Gives-ok a new n e f h g = rw e (record { returned = ap pos f; few = λ m q. let z : n ≡ m = cc in omega (arith, h); output = g })

module _ (n : ℕ) (s : List ℕ) where
  -- what is accepted with an output of n bytes: there is room, and the reader accepts it
  pub player_in : {f : Graded} → player_within n s ≡ ok f → (1 ≤ n) × (read_player s ≡ ok f)
  unfolding player_within read_player
  player_in r =
      let a = bind_ok (read_head s) _ r in
      let b = bind_ok (unless (leb 1 n) 11) _ a.2 in
      (leb-true 1 n (unless-ok _ 11 b.1), bind_value (player_behind s) a.1 ∙ b.2)

  pub setter_in : (e : ℕ) {f : Solved} → setter_within n e s ≡ ok f → (1 + cells_in f.graded.head ≤ n) × (read_setter e s ≡ ok f)
  unfolding setter_within read_setter
  setter_in e {f} r =
      let a = bind_ok (read_head s) _ r in
      let b = bind_ok (unless (leb (1 + cells_in a.0) n) 11) _ a.2 in
      let t : read_setter e s ≡ ok f = bind_value (setter_behind e s) a.1 ∙ b.2 in
      let h : a.0 ≡ f.graded.head = ok-eq (sym a.1 ∙ player_head s (setter_player e s t)) in
      (rw (← h) (leb-true (1 + cells_in a.0) n (unless-ok _ 11 b.1)), t)

  -- there is room for its cells, and the record is not long
  setter_fits : (e : ℕ) {f : Solved} → setter_within n e s ≡ ok f → (1 + length f.solution ≤ n) × (length f.solution ≤ 1024) × (f.graded.head.bytes ≤ 2819)
  setter_fits e r =
      let b = setter_in e r in
      let h = player_head s (setter_player e s b.1) in
      let l = (setter_vouches e s b.1).decided.long in
      (omega (arith, b.0), omega (arith, Valid-size (head_Valid s h)), head_length s h)

  -- what the setter's call accepts is finished in that edition
  pub call_vouches : (e : ℕ) {a : Given} → setter_given n e s ≡ ok a → (f : Solved) × (a ≡ to_setter f) × Finished (in_edition e f.graded.head.puzzle) f.solution
  unfolding setter_given
  call_vouches e r = let b = bind_ok (setter_within n e s) _ r in (b.0, sym (ok-eq b.2), setter_vouches e s (setter_in e b.1).1)

  -- the player's call
  pub player_fault : {k : ℕ} → refused k ≡ player_of (player_within n s) → player_given n s ≡ refused k
  unfolding player_given
  player_fault e = bind_refused _ (player_back (player_within n s) e)

  pub player_refused : (old : List ℕ) (a : Result ℕ Refusal) (r : Refusal) → IsErrAnd a (λ y. y ≡ r) → refused (number_of r) ≡ player_of (player_within n s) → Gives (player_given n s) a old old
  player_refused old a r x e = Gives-fault (player_given n s) old a r x (player_fault e)

  module _ {p : Player} (e : ok p ≡ player_of (player_within n s)) where
    player_taken : (f : Graded) × (player_within n s ≡ ok f) × (p ≡ graded_as f)
    player_taken = player_got (player_within n s) e

    pub player_bounds : (1 ≤ n) × (p.length ≤ 2819)
    player_bounds =
        let w = player_taken in
        let b = player_in w.1 in
        (b.0, omega (arith, ap (λ (x : Player). x.length) w.2, head_length s (player_head s b.1)))

    pub player_given_lem : (old : List ℕ) → length old ≡ n → Gives (player_given n s) (Ok p.length) old (set old 0 p.grade)
    unfolding player_given to_player
    player_given_lem old l =
        let w = player_taken in
        Gives-ok _ old (to_player w.0) (set old 0 p.grade) p.length (bind_value _ w.1) (ap (λ (x : Player). x.length) w.2) player_bounds.1
        (grade_put p.grade old (omega (arith, player_bounds.0)) ∙ ap (λ (x : Player). (x.grade ∷ []) ++ drop 1 old) w.2)

  -- the setter's call in the edition e
  module _ (e : ℕ) where
    pub setter_fault : {k : ℕ} → refused k ≡ setter_of (setter_within n e s) → setter_given n e s ≡ refused k
    unfolding setter_given
    setter_fault d = bind_refused _ (setter_back (setter_within n e s) d)

    pub setter_refused : (old : List ℕ) (a : Result ℕ Refusal) (r : Refusal) → IsErrAnd a (λ y. y ≡ r) → refused (number_of r) ≡ setter_of (setter_within n e s) → Gives (setter_given n e s) a old old
    setter_refused old a r x d = Gives-fault (setter_given n e s) old a r x (setter_fault d)

    module _ {p : Setter} (m : ok p ≡ setter_of (setter_within n e s)) where
      setter_taken : (f : Solved) × (setter_within n e s ≡ ok f) × (p ≡ solved_as f)
      setter_taken = setter_got (setter_within n e s) m

      pub setter_bounds : (1 + p.count ≤ n) × (p.count ≤ 1024) × (p.player.length ≤ 2819)
      setter_bounds = let w = setter_taken in rw w.2 (setter_fits e w.1)

      front : (f : Solved) (old : List ℕ)
          → ((solved_as f).player.grade ∷ take (solved_as f).count (solved_as f).cells) ++ drop (1 + (solved_as f).count) old ≡ (to_setter f).bytes ++ drop (length (to_setter f).bytes) old
      unfolding to_setter
      front f old = let k : 1 + length f.solution ≡ suc (length f.solution) = omega arith in rw (array_take 0 f.solution, k) refl

      pub setter_given_lem : (old new : List ℕ) → new ≡ (p.player.grade ∷ take p.count p.cells) ++ drop (1 + p.count) old → Gives (setter_given n e s) (Ok p.player.length) old new
      unfolding setter_given
      setter_given_lem old new z =
          let w = setter_taken in
          let f = w.0 in
          Gives-ok _ old (to_setter f) new p.player.length (bind_value _ w.1) (ap (λ (x : Setter). x.player.length) w.2 ∙ (unfold to_setter in refl)) setter_bounds.2
          (z ∙ ap (λ (x : Setter). (x.player.grade ∷ take x.count x.cells) ++ drop (1 + x.count) old) w.2 ∙ front f old)

-- both calls agree where both accept: they return the same length, and the player's byte is the setter's first
pub call_agree : (m n e : ℕ) (s : List ℕ) {a b : Given} → player_given m s ≡ ok a → setter_given n e s ≡ ok b → (a.length ≡ b.length) × (a.bytes ≡ take 1 b.bytes)
unfolding player_given setter_given to_player to_setter
call_agree m n e s {a} {b} q r =
    let x = bind_ok (player_within m s) _ q in
    let y = bind_ok (setter_within n e s) _ r in
    let g = agree e s (setter_in n s e y.1).1 (player_in m s x.1).1 in (
      ap (λ (c : Given). c.length) (sym (ok-eq x.2)) ∙ ap (λ (c : Graded). c.head.bytes) (sym g) ∙ ap (λ (c : Given). c.length) (ok-eq y.2),
      ap (λ (c : Given). c.bytes) (sym (ok-eq x.2)) ∙ ap (λ (c : Graded). c.grade ∷ []) (sym g) ∙ ap (λ (c : Given). take 1 c.bytes) (ok-eq y.2),
    )
