-- What a list of calls leaves: the board of the decisions that the plain machine keeps and of the accepted finds. Refusal 6 is exact.
-- Assumes nothing.
use Prim.Native.Nat.{ℕ, zero, suc, ◌+◌, ◌-◌, ◌≤◌, ◌<◌, min}
use native.Mathlib.Nat.{min-eq_left, min-le_right}
use native.Mathlib.Omega.{arith}
use native.Mathlib.Decide.{ℕ_discrete, dec_le}
use mathlib.Core.Logic.{◌↔◌}
use mathlib.Core.Path.{◌≡◌, refl, sym, ap, ap₂, ◌∙◌}
use mathlib.Core.Bool.{Bool, true, false, So, cond, ◌&&◌, ◌||◌, not, true≢false}
use mathlib.Core.List.{List, [], ◌∷◌, ◌++◌, map, map-append}
use lib.Dec.{eqb, leb, ltb}
use lib.ListN.{length, get_or, set, length-set, length-append, length-map}
use lib.Seq.{ext_get_or, get_or-set_same, get_or-set_other, get_or_at, set-set, set-get_or}
use borrow.Author.Tests.{eqb-true, eqb-false, eq-eqb, ne_eqb, ltb-true, leb-true, le-leb, lt-leb, lt-ltb, le-ltb}
use Rattle.grid.specs.Lists.{any, init, array_of}
use Rattle.grid.specs.Grid.{Grid, size}
use Rattle.grid.proofs.ListLaws.{Dec-So, So-false}
use Rattle.grid.proofs.ArrayLaws.{array_set, array_more, array_less, array_in}
use Rattle.grid.proofs.AppendLaws.{init_more}
use Rattle.record.specs.Record.{Puzzle, Outcome, ok, refused}
use Rattle.record.specs.Leaf.{Leaf, leaf_of}
use Rattle.record.specs.Sizes.{numbers_of, Words}
use Rattle.record.specs.Write.{write_record}
use Rattle.record.specs.Problem.{problem_of, puzzle_of, grid_of, number_of, blank, Done}
use Rattle.record.proofs.RecordLaws.{Valid-size}
use Rattle.record.proofs.LeafLaws.{ValidLeaf, leaf_ok, ok_leaf, leaf_valid}
use Rattle.record.proofs.SizesLaws.{good_read}
use Rattle.record.proofs.WriteLaws.{round_trip, written_Bytes}
use Rattle.form.specs.Form.{problem_formed, good_size}
use Rattle.sizes.proofs.FormLaws.{kept_Words}
use Rattle.board.specs.declared.Board.{Board}
use Rattle.grid.specs.Cells.{Literal}
use Rattle.board.specs.Board.{value_at, cells_after, Call, decide, undo, find, decided, after, refusal, after_all, SameCells, SameDecisions, enough, asks, how_often}
use Rattle.board.specs.Kept.{no_hints, board_of, sizes_on, leaf_on, opening, open_of, blank_board}
use Rattle.board.specs.Form.{Counts, well_formed}
use Rattle.board.specs.Decide.{area, decide_refusal, undo_refusal, placed, removed, answered, decide_of, undo_of}
use Rattle.board.specs.Hints.{count_of, with_hints, hinted, find_refusal, hinted_by, after_find}
use Rattle.board.specs.Calls.{left, left_all, Leaves, standing, count_after, hints_after, AfterCalls}
use Rattle.board.proofs.HintLaws.{each_at, each_is, each-Counts, no_hints_lem, counted, counted-Counts, counted-find, counted_none, asks_not, counted_all, count_none, count_cons, count_fresh, often_append, calls_append, asking, asking_often, asking_same}
use Rattle.board.proofs.CountLaws.{others_keep}
use Rattle.board.proofs.Standing.{Standing, none, more, index, after-Standing, Standing-low, cell_value, cells_length, calls_Standing, Standing-calls, same_board}
use Rattle.board.proofs.BoardForm.{Whole, Whole-is, is_Whole, decisions_of, whole_Standing, whole_leaf, whole_again, whole_most, standing_Whole, board_sizes, Standing-length, cell_shown, value_listed, value_free}

-- ---- one more decision, and one less

-- the value after one more decision
value_more : (ds : List Literal) (i v j : ℕ) → decided ds i ≡ false → value_at (ds ++ ((i, v) ∷ [])) j ≡ cond (eqb i j) v (value_at ds j)
unfolding decided value_at
value_more [] i v j h = refl
value_more (d ∷ ds) i v j h = go (eqb d.0 i) refl h (Dec-So (eqb d.0 j)) (value_more ds i v j)
  where
    Goal : Type 0
    Goal = cond (eqb d.0 j) d.1 (value_at (ds ++ ((i, v) ∷ [])) j) ≡ cond (eqb i j) v (cond (eqb d.0 j) d.1 (value_at ds j))

    go : (t : Bool) → eqb d.0 i ≡ t → (t || any (λ (e : Literal). eqb e.0 i) ds) ≡ false → Dec (So (eqb d.0 j))
        → (any (λ (e : Literal). eqb e.0 i) ds ≡ false → value_at (ds ++ ((i, v) ∷ [])) j ≡ cond (eqb i j) v (value_at ds j)) → Goal
    go true q k x ih = absurd (true≢false k)
    go false q k (yes e) ih = rw (e, ne_eqb i j (λ (z : i ≡ j). eqb-false d.0 i q (eqb-true d.0 j e ∙ sym z))) refl
    go false q k (no n) ih = rw (So-false (eqb d.0 j) n) (ih k)

-- the cells after one more decision
cells_more : (g : Grid) (ds : List Literal) (i v : ℕ) → i < size g → decided ds i ≡ false → set (cells_after g ds) i v ≡ cells_after g (ds ++ ((i, v) ∷ []))
cells_more g ds i v l h =
    ext_get_or 0 (set (cells_after g ds) i v) (cells_after g (ds ++ ((i, v) ∷ [])))
    (length-set (cells_after g ds) i v ∙ cells_length g ds ∙ sym (cells_length g (ds ++ ((i, v) ∷ [])))) each
  where
    each : (j : ℕ) → j < length (set (cells_after g ds) i v) → get_or (set (cells_after g ds) i v) j 0 ≡ get_or (cells_after g (ds ++ ((i, v) ∷ []))) j 0
    each j k =
        let k' : j < size g = omega (arith, length-set (cells_after g ds) i v, cells_length g ds) in
        go (ℕ_discrete j i) ∙ sym (cell_value g (ds ++ ((i, v) ∷ [])) j k' ∙ value_more ds i v j h)
      where
        go : Dec (j ≡ i) → get_or (set (cells_after g ds) i v) j 0 ≡ cond (eqb i j) v (value_at ds j)
        go (yes e) = rw (e, eq-eqb i i refl) (get_or-set_same (cells_after g ds) i v 0 (omega (arith, cells_length g ds)))
        go (no n) =
            rw (get_or-set_other (cells_after g ds) i j v 0 n, ne_eqb i j (λ z. n (sym z)))
            (cell_value g ds j (omega (arith, length-set (cells_after g ds) i v, cells_length g ds)))

module _ (l : Leaf) (v : ValidLeaf l) where
  -- one more decision on the board
  placed_more : (ns : List ℕ) {ds : List Literal} → Standing l.puzzle.grid ds → (i x : ℕ) → i < size l.puzzle.grid → x ≤ 1 → decided ds i ≡ false
      → placed (board_of l ds ns) i x ≡ board_of l (ds ++ ((i, x) ∷ [])) ns
  unfolding placed board_of
  placed_more ns {ds} s i x w k h =
      let room : length ds < 1024 = omega (arith, Standing-length (more s w k h), length-append ds ((i, x) ∷ []), Valid-size v.puzzle) in
      let c : set (array_of 2 (cells_after l.puzzle.grid ds)) i x ≡ array_of 2 (cells_after l.puzzle.grid (ds ++ ((i, x) ∷ []))) =
      array_set 2 (cells_after l.puzzle.grid ds) i x (omega (arith, cells_length l.puzzle.grid ds)) ∙ ap (array_of 2) (cells_more l.puzzle.grid ds i x w h) in
      let o : set (array_of 0 (map index ds)) (length ds) i ≡ array_of 0 (map index (ds ++ ((i, x) ∷ []))) =
      rw (← length-map ds index) (array_more 0 (map index ds) i (omega (arith, length-map ds index))) ∙ ap (array_of 0) (sym (map-append index ds ((i, x) ∷ []))) in
      let m : length ds + 1 ≡ length (ds ++ ((i, x) ∷ [])) = sym (length-append ds ((i, x) ∷ [])) in
      rw (c, o, m) refl

  -- the latest decision taken off the board
  removed_less : (ns : List ℕ) {ds : List Literal} → Standing l.puzzle.grid ds → (i x : ℕ) → i < size l.puzzle.grid → x ≤ 1 → decided ds i ≡ false
      → removed (board_of l (ds ++ ((i, x) ∷ [])) ns) ≡ board_of l ds ns
  unfolding removed board_of
  removed_less ns {ds} s i x w k h =
      let room : length ds < 1024 = omega (arith, Standing-length (more s w k h), length-append ds ((i, x) ∷ []), Valid-size v.puzzle) in
      let one : length (ds ++ ((i, x) ∷ [])) - 1 ≡ length ds = omega (arith, length-append ds ((i, x) ∷ [])) in
      let m : map index (ds ++ ((i, x) ∷ [])) ≡ map index ds ++ (i ∷ []) = map-append index ds ((i, x) ∷ []) in
      let at : get_or (array_of 0 (map index ds ++ (i ∷ []))) (length ds) 0 ≡ i =
      array_in 0 (map index ds ++ (i ∷ [])) 0 (length ds) (omega (arith, length-append (map index ds) (i ∷ []), length-map ds index)) ∙ get_or_at (map index ds) i [] 0 (length ds) (length-map ds index) in
      let o : set (array_of 0 (map index ds ++ (i ∷ []))) (length ds) 0 ≡ array_of 0 (map index ds) = rw (← length-map ds index) (array_less 0 (map index ds) i (omega (arith, length-map ds index))) in
      let two : get_or (cells_after l.puzzle.grid ds) i 0 ≡ 2 = cell_value l.puzzle.grid ds i w ∙ value_free ds i h in
      let back : set (cells_after l.puzzle.grid (ds ++ ((i, x) ∷ []))) i 2 ≡ cells_after l.puzzle.grid ds =
      rw (← cells_more l.puzzle.grid ds i x w h) (set-set (cells_after l.puzzle.grid ds) i x 2 ∙ rw (← two) (set-get_or (cells_after l.puzzle.grid ds) i 0)) in
      let c : set (array_of 2 (cells_after l.puzzle.grid (ds ++ ((i, x) ∷ [])))) i 2 ≡ array_of 2 (cells_after l.puzzle.grid ds) =
      array_set 2 (cells_after l.puzzle.grid (ds ++ ((i, x) ∷ []))) i 2 (omega (arith, cells_length l.puzzle.grid (ds ++ ((i, x) ∷ [])))) ∙ ap (array_of 2) back in
      rw (one, m, at, c, o) refl

-- on a board with any counts
module _ (l : Leaf) (v : ValidLeaf l) {ns : List ℕ} (low : Counts ns) where
  -- a cell of the grid is undecided on the board when no decision has its index
  shown_free : {ds : List Literal} → Standing l.puzzle.grid ds → (i : ℕ) → i < size l.puzzle.grid → eqb (get_or (board_of l ds ns).cells i 0) 2 ≡ not (decided ds i)
  unfolding board_of
  shown_free {ds} s i w = rw (cell_shown l v s i w) (go (decided ds i) refl)
    where
      go : (t : Bool) → decided ds i ≡ t → eqb (value_at ds i) 2 ≡ not t
      go true e = ne_eqb (value_at ds i) 2 (λ z. omega (arith, z, value_listed ds i (λ d m. (Standing-low s d m).1) e))
      go false e = eq-eqb (value_at ds i) 2 (value_free ds i e)

  -- the board of standing decisions passes the test
  pub Standing-well : {ds : List Literal} → Standing l.puzzle.grid ds → well_formed (board_of l ds ns) ≡ true
  Standing-well {ds} s = is_Whole (board_of l ds ns) (standing_Whole l v s low)

  -- the refusals of decide and undo are the machine's
  pub decide_number : {ds : List Literal} → Standing l.puzzle.grid ds → (i x : ℕ) → decide_refusal (board_of l ds ns) i x ≡ refusal l.puzzle.grid (decide i x) ds
  unfolding decide_refusal refusal area problem_of grid_of
  decide_number {ds} s i x = rw (Standing-well s) (go (Dec-So (ltb i (size l.puzzle.grid))))
    where
      last_test : (t : Bool) → ◌≡◌ {A = ℕ} (cond (not t) 0 9) (cond t 9 0)
      last_test true = refl
      last_test false = refl

      go : Dec (So (ltb i (size l.puzzle.grid)))
          → ◌≡◌ {A = ℕ} (cond (ltb i (area (board_of l ds ns))) (cond (leb x 1) (cond (eqb (get_or (board_of l ds ns).cells i 0) 2) 0 9) 8) 7) (cond (ltb i (size l.puzzle.grid)) (cond (leb x 1) (cond (decided ds i) 9 0) 8) 7)
      go (yes e) = rw (shown_free s i (ltb-true i (size l.puzzle.grid) e), last_test (decided ds i)) (unfold board_of in refl)
      go (no n) = unfold board_of in rw (So-false (ltb i (size l.puzzle.grid)) n) refl

  pub undo_number : {ds : List Literal} → Standing l.puzzle.grid ds → undo_refusal (board_of l ds ns) ≡ refusal l.puzzle.grid undo ds
  unfolding undo_refusal refusal board_of
  undo_number none = rw (Standing-well none) refl
  undo_number (more {ds} {i} {v = x} s w k h) = rw (Standing-well (more s w k h)) (go ds)
    where
      go : (es : List Literal) → cond (eqb (length (es ++ ((i, x) ∷ []))) 0) 10 0 ≡ refusal l.puzzle.grid undo (es ++ ((i, x) ∷ []))
      go [] = refl
      go (e ∷ es) = rw (ne_eqb (suc (length (es ++ ((i, x) ∷ [])))) 0 (λ z. omega (arith, z))) refl

  -- the boards that decide and undo leave are those of the decisions that the machine keeps
  pub decide_left : {ds : List Literal} → Standing l.puzzle.grid ds → (i x : ℕ) → (decide_of (board_of l ds ns) i x).board ≡ board_of l (after l.puzzle.grid (decide i x) ds) ns
  unfolding decide_of refusal after
  decide_left {ds} s i x = rw (decide_number s i x) (go (ltb i (size l.puzzle.grid)) (leb x 1) (decided ds i) refl refl refl)
    where
      go : (a b c : Bool) → ltb i (size l.puzzle.grid) ≡ a → leb x 1 ≡ b → decided ds i ≡ c
          → (answered (cond a (cond b (cond c 9 0) 8) 7) (board_of l ds ns) (placed (board_of l ds ns) i x)).board ≡ board_of l (cond (a && b && not c) (ds ++ ((i, x) ∷ [])) ds) ns
      go false b c ea eb ec = unfold answered in refl
      go true false c ea eb ec = unfold answered in refl
      go true true true ea eb ec = unfold answered in refl
      go true true false ea eb ec = unfold answered in placed_more l v ns s i x (ltb-true i (size l.puzzle.grid) ea) (leb-true x 1 eb) ec

  pub undo_left : {ds : List Literal} → Standing l.puzzle.grid ds → (undo_of (board_of l ds ns)).board ≡ board_of l (init ds) ns
  unfolding undo_of
  undo_left none = rw (undo_number none) (unfold answered refusal init in refl)
  undo_left (more {ds} {i} {v = x} s w k h) = rw (undo_number (more s w k h), init_more ds (i, x)) (go ds (removed_less l v ns s i x w k h))
    where
      go : (es : List Literal) → removed (board_of l (es ++ ((i, x) ∷ [])) ns) ≡ board_of l es ns
          → (answered (refusal l.puzzle.grid undo (es ++ ((i, x) ∷ []))) (board_of l (es ++ ((i, x) ∷ [])) ns) (removed (board_of l (es ++ ((i, x) ∷ [])) ns))).board ≡ board_of l es ns
      go [] e = unfold answered refusal in e
      go (y ∷ es) e = unfold answered refusal in e

  -- find's refusal is the machine's, and its player's count rises when the machine accepts
  pub find_number : {ds : List Literal} → Standing l.puzzle.grid ds → (q k : ℕ) → find_refusal (board_of l ds ns) q k ≡ refusal l.puzzle.grid (find q k) ds
  unfolding find_refusal refusal board_of problem_of grid_of
  find_number s q k = rw (Standing-well s) refl

  pub find_left : {ds : List Literal} → Standing l.puzzle.grid ds → (q k : ℕ) → after_find (board_of l ds ns) q k ≡ board_of l ds (counted l.puzzle.grid (find q k) ns)
  unfolding after_find refusal
  find_left {ds} s q k = rw (find_number s q k) (go (dec_le q 3) (dec_le (enough g) k))
    where
      g : Grid
      g = l.puzzle.grid

      refused_left : (leb q 3 && leb (enough g) k) ≡ false → board_of l ds ns ≡ board_of l ds (counted g (find q k) ns)
      refused_left e = ap (board_of l ds) (counted_none g (find q k) ns low.four (λ r. asks_not g r q k e))

      go : Dec (q ≤ 3) → Dec (enough g ≤ k) → hinted_by (cond (leb q 3) (cond (ltb k (enough g)) 11 0) 17) (board_of l ds ns) q ≡ board_of l ds (counted g (find q k) ns)
      go (yes h) (yes m) =
          unfold hinted_by hinted with_hints board_of in
          rw (le-leb q 3 h, le-ltb k (enough g) m, counted-find g q k ns low.four h m) refl
      go (yes h) (no m) =
          unfold hinted_by in
          rw (le-leb q 3 h, lt-ltb k (enough g) (omega arith)) (refused_left (rw (le-leb q 3 h, lt-leb (enough g) k (omega arith)) refl))
      go (no h) m = unfold hinted_by in rw (lt-leb q 3 (omega arith)) (refused_left (rw (lt-leb q 3 (omega arith)) refl))

module _ (l : Leaf) (v : ValidLeaf l) where
  -- so are those that a call leaves
  call_left : (c : Call) {ds : List Literal} {ns : List ℕ} → Counts ns → Standing l.puzzle.grid ds
      → left (board_of l ds ns) c ≡ board_of l (after l.puzzle.grid c ds) (counted l.puzzle.grid c ns)
  unfolding left
  call_left (decide i x) {ds} {ns} low s =
      decide_left l v low s i x
      ∙ ap (board_of l (after l.puzzle.grid (decide i x) ds)) (counted_none l.puzzle.grid (decide i x) ns low.four (λ q. unfold asks in refl))
  call_left undo {ds} {ns} low s =
      undo_left l v low s ∙ unfold after in ap (board_of l (init ds)) (counted_none l.puzzle.grid undo ns low.four (λ q. unfold asks in refl))
  call_left (find q k) low s = find_left l v low s q k ∙ unfold after in refl

  pub calls_left : (cs : List Call) {ds : List Literal} {ns : List ℕ} → Counts ns → Standing l.puzzle.grid ds
      → left_all (board_of l ds ns) cs ≡ board_of l (after_all l.puzzle.grid cs ds) (counted_all l.puzzle.grid cs ns)
  unfolding left_all after_all
  calls_left [] {ds} low s = ap (board_of l ds) (sym (count_none l.puzzle.grid low))
  calls_left (c ∷ cs) {ds} {ns} low s =
      rw (call_left c low s) (calls_left cs (counted-Counts l.puzzle.grid c low) (after-Standing l.puzzle.grid c s))
      ∙ ap (board_of l (after_all l.puzzle.grid cs (after l.puzzle.grid c ds))) (count_cons l.puzzle.grid c cs ns)

-- ---- the theorems

outcome : (a : Outcome Leaf) → (opening a).answer ≡ Done → (l : Leaf) × (a ≡ ok l)
unfolding opening
outcome (refused k) e = let z : ◌≡◌ {A = ℕ} 0 1 = cc in absurd (omega arith)
outcome (ok l) e = (l, refl)

-- an accepted leaf opens a fresh board
open_done : (s : List ℕ) (e : ℕ) (ns : List ℕ) (l : Leaf) → leaf_of s e ns ≡ ok l → (open_of s e ns).answer ≡ Done
unfolding open_of opening
open_done s e ns l k = rw k refl

open_fresh : (s : List ℕ) (e : ℕ) (ns : List ℕ) (l : Leaf) → leaf_of s e ns ≡ ok l → (open_of s e ns).board ≡ board_of l [] no_hints
unfolding open_of opening
open_fresh s e ns l k = rw k refl

-- a list of calls on the board of an accepted leaf leaves the board of the decisions that the machine keeps and of the accepted finds
pub opened_left : (s : List ℕ) (e : ℕ) (ns : List ℕ) (l : Leaf) → leaf_of s e ns ≡ ok l → (cs : List Call)
    → left_all (open_of s e ns).board cs ≡ board_of l (standing l.puzzle cs) (hints_after l.puzzle cs)
opened_left s e ns l k cs =
    rw (open_fresh s e ns l k) (calls_left l (leaf_valid s e ns k) cs no_hints_lem none) ∙ ap (board_of l (standing l.puzzle cs)) (count_fresh l.puzzle.grid cs)

-- its counts are those that a board can have
pub after_low : (p : Puzzle) (cs : List Call) → Counts (hints_after p cs)
after_low p cs = each-Counts (count_after p cs) (λ q. min-le_right (how_often p.grid q cs) 65535)

-- the leaf of a board that passes the test is accepted, and its sizes are 16-bit numbers where the board's are
Whole-opens : (b : Board) → Whole b → leaf_of (write_record (puzzle_of b.problem)) b.edition (numbers_of (sizes_on b)) ≡ ok (leaf_on b)
unfolding leaf_on
Whole-opens b w =
    let p : Puzzle = puzzle_of b.problem in
    let v = whole_leaf b w in
    ok_leaf (write_record p) b.edition (numbers_of (sizes_on b)) p (sizes_on b) (round_trip p v.puzzle) w.edition (good_read p (sizes_on b) v.sizes)

Whole-Words : (b : Board) → Whole b → Words b.highest → Words (numbers_of (sizes_on b))
unfolding sizes_on
Whole-Words b w = kept_Words (puzzle_of b.problem) b.lowest b.highest w.sizes (size (grid_of b.problem)) (whole_most b w)

-- refusal 6 is exact: a board passes the test exactly when some accepted record, some edition, some sizes and some list of calls leave it
pub well_formed_exact : (b : Board) → (well_formed b ≡ true) ↔ Leaves b
unfolding leaf_on
well_formed_exact b = (forth, back)
  where
    forth : well_formed b ≡ true → Leaves b
    forth h =
        let w = Whole-is b h in
        let p : Puzzle = puzzle_of b.problem in
        let l : Leaf = leaf_on b in
        let ns : List ℕ = numbers_of (sizes_on b) in
        let o : leaf_of (write_record p) b.edition ns ≡ ok l = Whole-opens b w in
        let s : Standing p.grid (decisions_of b) = unfold puzzle_of in whole_Standing b w in
        let r = Standing-calls p.grid s in
        let asked : List Call = asking p.grid 0 b.hints in
        let cs : List Call = r.0 ++ asked in
        let stands : standing p cs ≡ decisions_of b = calls_append p.grid r.0 asked [] ∙ asking_same p.grid 0 b.hints (standing p r.0) ∙ r.1 in
        let often : (q : ℕ) → q ≤ 3 → how_often p.grid q cs ≡ count_of b q =
        λ q l. omega (arith, often_append p.grid q r.0 asked, r.2 q, asking_often p.grid b.hints q l) in
        let count : hints_after p cs ≡ b.hints =
        each_is (count_after p cs) b.hints w.counts.four (λ q l. ap (λ (k : ℕ). min k 65535) (often q l) ∙ min-eq_left (w.counts.low q)) in
        record {
          bytes = write_record p;
          low = written_Bytes p;
          edition = b.edition;
          sizes = ns;
          words = Whole-Words b w;
          calls = cs;
          accepted = open_done (write_record p) b.edition ns l o;
          leaves = opened_left (write_record p) b.edition ns l o cs ∙ ap₂ (board_of l) stands count ∙ whole_again b w;
        }

    back : Leaves b → well_formed b ≡ true
    back k =
        let r = outcome (leaf_of k.bytes k.edition k.sizes) (unfold open_of in k.accepted) in
        let l = r.0 in
        let p : Puzzle = l.puzzle in
        let e : board_of l (standing p k.calls) (hints_after p k.calls) ≡ b = sym (opened_left k.bytes k.edition k.sizes l r.1 k.calls) ∙ k.leaves in
        rw (← e) (Standing-well l (leaf_valid k.bytes k.edition k.sizes r.1) (after_low p k.calls) (calls_Standing p.grid k.calls))

-- the number of an answer
pub number_answered : (k : ℕ) (b next : Board) → number_of (answered k b next).answer ≡ k
unfolding answered number_of
number_answered zero b next = refl
number_answered (suc k) b next = refl

same_shown : (l : Leaf) → ValidLeaf l → (ms ns : List ℕ) {cs ds : List Literal} → Standing l.puzzle.grid cs → Standing l.puzzle.grid ds
    → SameCells l.puzzle.grid (board_of l cs ms).cells (board_of l ds ns).cells ↔ SameDecisions cs ds
unfolding board_of
same_shown l v ms ns {cs} {ds} s t =
    let g : Grid = l.puzzle.grid in
    let q = same_board s t in (
      λ same. q.0 (λ i w. cell_value g cs i w ∙ sym (cell_shown l v s i w) ∙ same i w ∙ cell_shown l v t i w ∙ sym (cell_value g ds i w)),
      λ same i w. cell_shown l v s i w ∙ sym (cell_value g cs i w) ∙ q.1 same i w ∙ cell_value g ds i w ∙ sym (cell_shown l v t i w),
    )

-- what holds after any two lists of calls, refused calls included
pub after_calls : (s : List ℕ) (e : ℕ) (ns : List ℕ) (l : Leaf) → leaf_of s e ns ≡ ok l → (cs ds : List Call) → AfterCalls s e ns l cs ds
after_calls s e ns l k cs ds =
    let p : Puzzle = l.puzzle in
    let v : ValidLeaf l = leaf_valid s e ns k in
    let a = opened_left s e ns l k cs in
    let b = opened_left s e ns l k ds in
    let f = calls_Standing p.grid cs in
    let h = calls_Standing p.grid ds in
    let low = after_low p cs in
    let z : Board = board_of l (standing p cs) (hints_after p cs) in
    record {
      board = a;
      count = λ q m. ap (λ (b : Board). count_of b q) a ∙ unfold board_of in each_at (count_after p cs) q m;
      others = others_keep (left_all (open_of s e ns).board cs);
      edition = ap (λ (b : Board). b.edition) a ∙ unfold board_of in (leaf_ok s e ns k).edition;
      sizes = ap sizes_on a ∙ board_sizes l v (standing p cs) (hints_after p cs);
      decides = λ i x. rw a (unfold decide_of in number_answered (decide_refusal z i x) z (placed z i x) ∙ decide_number l v low f i x);
      undoes = rw a (unfold undo_of in number_answered (undo_refusal z) z (removed z) ∙ undo_number l v low f);
      finds = λ q k. rw a (find_number l v low f q k);
      cells = rw (a, b) (same_shown l v (hints_after p cs) (hints_after p ds) f h);
    }

-- the blank board beside a refusal is none: every later call on it is refused with 6
pub blank_refused : well_formed blank_board ≡ false
unfolding well_formed problem_formed good_size blank_board blank grid_of
blank_refused = refl
