-- A call step by step: its decisions on the board of the plain machine, and its refusals in their order.
-- Assumes nothing.
use Prim.Native.Nat.{ℕ, zero, suc, ◌+◌, ◌*◌, ◌/◌, ◌%◌, ◌≤◌, ◌<◌}
use native.Mathlib.Omega.{arith}
use mathlib.Core.Path.{◌≡◌, refl, sym, ap, ◌∙◌}
use mathlib.Core.Bool.{Bool, true, false, cond}
use mathlib.Core.List.Memᴰ
use mathlib.Core.List.{List, [], ◌∷◌, Memᴰ}
use lib.Dec.{eqb}
use lib.ListN.{take, replicate, length-replicate}
use borrow.Author.Tests.{le-leb, lt-leb}
use Rattle.grid.specs.Grid.{Grid, size}
use Rattle.grid.specs.Cells.{Literal}
use Rattle.grid.specs.Lists.{array_of}
use Rattle.grid.proofs.ArrayLaws.{array_take}
use Rattle.record.specs.Record.{Outcome, ok, refused, Puzzle, read_record, ◌>>=◌, unless}
use Rattle.record.specs.Problem.{problem_of, as_problem}
use Rattle.record.specs.Valid.{Valid, Arrows}
use Rattle.record.specs.Leaf.{Leaf, in_edition, is_edition}
use Rattle.record.specs.declared.Problem.{Problem}
use Rattle.record.specs.Problem.{Answer, Done, Refused}
use Rattle.record.proofs.ProblemLaws.{problem_ok}
use Rattle.record.proofs.RecordLaws.{record_Valid, Valid-size}
use Rattle.record.proofs.LeafLaws.{ValidLeaf, no_sizes}
use Rattle.sizes.specs.Kept.{lowest_of, highest_of}
use Rattle.board.specs.Board.{decide, after, refusal, cells_after}
use Rattle.board.specs.Form.{well_formed}
use Rattle.board.specs.Kept.{no_hints, board_of}
use Rattle.board.specs.Decide.{with_decisions, decide_refusal, decide_of, answered, refused_with, onward, placed, placed_from, all_placed}
use Rattle.board.specs.Inside.{fresh_of}
use Rattle.board.specs.declared.Board.{Board}
use Rattle.board.specs.Answers.{Decided}
use Rattle.board.specs.Inside.{Stands, whole, part}
use Rattle.refusal.specs.Refusals as refusals
use Rattle.refusal.specs.declared.Refusal.{Refusal}
use Rattle.std.specs.Prelude.{Ok, Err}
use Rattle.std.specs.declared.result.Result.{Result}
use Rattle.fields.specs.Inside.{Agrees}
use Rattle.board.proofs.HintLaws.{no_hints_lem}
use Rattle.board.proofs.OpenLaws.{fresh_leaf}
use Rattle.board.proofs.Standing.{Standing, none, after-Standing, cells_valid}
use Rattle.board.proofs.CallLaws.{Standing-well, decide_number, decide_left}
use Rattle.calls.specs.Call.{accept_or, decide_bytes, call_on, host_call, host_call_with}
use Rattle.calls.proofs.Opened.{with_none}

-- the board's answer to a list of decisions, by the machine's
unfoldable pub decided_by : Board → Leaf → Outcome (List Literal) → Decided
decided_by b₀ l (refused k) = refused_with k b₀
decided_by b₀ l (ok ds) = record { answer = Done; board = board_of l ds no_hints }

module _ (l : Leaf) (v : ValidLeaf l) (b₀ : Board) where
  -- one decision: a refusal ends the list, and otherwise it goes on with the next board
  one : (k : ℕ) (b next : Board) (rest : Outcome (List Literal)) (onto : Decided) → all_placed b₀ onto ≡ decided_by b₀ l rest
      → all_placed b₀ (onward (answered k b next).answer b onto) ≡ decided_by b₀ l (accept_or k rest)
  unfolding onward answered accept_or decided_by refused_with
  one zero b next rest onto e = e
  one (suc k) b next rest onto e = refl

  -- a list of decisions on the machine's board
  pub decided_bytes : (bytes : List ℕ) {ds : List Literal} → Standing l.puzzle.grid ds → all_placed b₀ (placed_from (board_of l ds no_hints) bytes) ≡ decided_by b₀ l (decide_bytes l.puzzle.grid ds bytes)
  unfolding placed_from decide_bytes
  decided_bytes [] s = unfold decided_by onward in refl
  decided_bytes (a ∷ []) s = unfold decided_by onward refused_with in refl
  decided_bytes (a ∷ b ∷ rest) {ds} s =
      go (eqb ((a * 256 + b) % 32768 / 1024) 0) ((a * 256 + b) % 1024) ((a * 256 + b) / 32768) (λ (es : List Literal) (t : Standing l.puzzle.grid es). decided_bytes rest t)
    where
      go : (t : Bool) (i x : ℕ) → ((es : List Literal) → Standing l.puzzle.grid es → all_placed b₀ (placed_from (board_of l es no_hints) rest) ≡ decided_by b₀ l (decide_bytes l.puzzle.grid es rest))
          → all_placed b₀ (cond t (onward (decide_of (board_of l ds no_hints) i x).answer (board_of l ds no_hints) (placed_from (decide_of (board_of l ds no_hints) i x).board rest)) (refused_with 12 (board_of l ds no_hints)))
          ≡ decided_by b₀ l (cond t (accept_or (refusal l.puzzle.grid (decide i x) ds) (decide_bytes l.puzzle.grid (after l.puzzle.grid (decide i x) ds) rest)) (refused 12))
      go false i x next = unfold decided_by onward refused_with in refl
      go true i x next =
          rw (decide_left l v no_hints_lem s i x, ← decide_number l v no_hints_lem s i x)
          (unfold decide_of in one (decide_refusal (board_of l ds no_hints) i x) (board_of l ds no_hints) (placed (board_of l ds no_hints) i x) (decide_bytes l.puzzle.grid (after l.puzzle.grid (decide i x) ds) rest)
          (placed_from (board_of l (after l.puzzle.grid (decide i x) ds) no_hints) rest) (next (after l.puzzle.grid (decide i x) ds) (after-Standing l.puzzle.grid (decide i x) s)))

-- the decisions that are accepted stand
pub bytes_Standing : (g : Grid) (bytes : List ℕ) {ds es : List Literal} → Standing g ds → decide_bytes g ds bytes ≡ ok es → Standing g es
unfolding decide_bytes accept_or
bytes_Standing g [] {ds} {es} s e = let q : ds ≡ es = cc in rw (← q) s
bytes_Standing g (a ∷ []) s e = let z : ◌≡◌ {A = ℕ} 0 1 = cc in absurd (omega arith)
bytes_Standing g (a ∷ b ∷ rest) {ds} {es} s e =
    go (eqb ((a * 256 + b) % 32768 / 1024) 0) ((a * 256 + b) % 1024) ((a * 256 + b) / 32768) (λ (ds : List Literal) (t : Standing g ds). bytes_Standing g rest t) e
  where
    accepted : (k : ℕ) (next : Outcome (List Literal)) → (next ≡ ok es → Standing g es) → accept_or k next ≡ ok es → Standing g es
    accepted zero next f q = f q
    accepted (suc k) next f q = let z : ◌≡◌ {A = ℕ} 0 1 = cc in absurd (omega arith)

    go : (t : Bool) (i x : ℕ) → ((ds : List Literal) → Standing g ds → decide_bytes g ds rest ≡ ok es → Standing g es)
        → cond t (accept_or (refusal g (decide i x) ds) (decide_bytes g (after g (decide i x) ds) rest)) (refused 12) ≡ ok es → Standing g es
    go false i x next q = let z : ◌≡◌ {A = ℕ} 0 1 = cc in absurd (omega arith)
    go true i x next q =
        accepted (refusal g (decide i x) ds) (decide_bytes g (after g (decide i x) ds) rest)
        (next (after g (decide i x) ds) (after-Standing g (decide i x) s)) q

-- what stands in the arrays, by the answer of `place_all`
pub stands_whole : {b : Board} {cells order : List ℕ} {d : Decided} {n : ℕ} → Stands b cells order n d (Ok tt) → d ≡ record { answer = Done; board = with_decisions b cells order n }
stands_whole whole = refl

pub stands_part : {b : Board} {cells order : List ℕ} {d : Decided} {n : ℕ} {r : Refusal} → Stands b cells order n d (Err r)
    → d ≡ record { answer = Refused (refusals.number_of r); board = with_decisions b cells order n }
stands_part part = refl

-- ---- the fresh board of an accepted leaf

module _ (l : Leaf) (v : ValidLeaf l) {b : Board} (fresh : b ≡ board_of l [] no_hints) where
  -- the board is well formed
  pub fresh_well : well_formed b ≡ true
  fresh_well = rw fresh (Standing-well l v no_hints_lem none)

  -- the board's list of decisions answers as the machine does
  pub all_decided : (decisions : List ℕ) → all_placed b (placed_from b decisions) ≡ decided_by b l (decide_bytes l.puzzle.grid [] decisions)
  all_decided decisions = rw fresh (decided_bytes l v (board_of l [] no_hints) decisions none)

  -- what placing all decisions answers, and the states that it leaves
  module _ (decisions cells order : List ℕ) (n : ℕ) where
    answered_as : {x : Answer} → placed_from b decisions ≡ record { answer = x; board = with_decisions b cells order n }
        → all_placed b (record { answer = x; board = with_decisions b cells order n }) ≡ decided_by b l (decide_bytes l.puzzle.grid [] decisions)
    answered_as e = sym (ap (all_placed b) e) ∙ all_decided decisions

    pub decides : (r : Result Unit Refusal) → Stands b cells order n (placed_from b decisions) r → Agrees (decide_bytes l.puzzle.grid [] decisions) (λ ds _. cells ≡ array_of 2 (cells_after l.puzzle.grid ds)) r
    unfolding onward decided_by refused_with board_of
    decides (Ok u) s = accepted (decide_bytes l.puzzle.grid [] decisions) refl (answered_as (stands_whole s))
      where
        accepted : (o : Outcome (List Literal)) → decide_bytes l.puzzle.grid [] decisions ≡ o → ◌≡◌ {A = Decided} (record { answer = Done; board = with_decisions b cells order n }) (decided_by b l o)
            → (ds : List Literal) × (decide_bytes l.puzzle.grid [] decisions ≡ ok ds) × (cells ≡ array_of 2 (cells_after l.puzzle.grid ds))
        accepted (refused m) q g = let a = ap (λ (d : Decided). d.answer) g in let z : ◌≡◌ {A = ℕ} 0 1 = cc in absurd (omega arith)
        accepted (ok ds) q g = (ds, q, ap (λ (d : Decided). d.board.cells) g)
    decides (Err e) s = not_accepted (decide_bytes l.puzzle.grid [] decisions) (answered_as (stands_part s))
      where
        not_accepted : {k : ℕ} (o : Outcome (List Literal)) → refused_with k b ≡ decided_by b l o → o ≡ refused k
        not_accepted {k} (refused m) g = let a = ap (λ (d : Decided). d.answer) g in let z : m ≡ k = cc in ap refused z
        not_accepted (ok ds) g = let a = ap (λ (d : Decided). d.answer) g in let z : ◌≡◌ {A = ℕ} 0 1 = cc in absurd (omega arith)

module _ (p : Puzzle) (v : Valid p) where
  -- the leaf in edition 1 without sizes is an accepted one
  pub first_leaf : ValidLeaf (in_edition 1 p)
  unfolding is_edition
  first_leaf = record { puzzle = v; edition = refl; sizes = no_sizes p }

  -- its board, as the code keeps it
  pub fresh_first : fresh_of (problem_of p) 1 (lowest_of []) (highest_of []) ≡ board_of (in_edition 1 p) [] no_hints
  fresh_first = fresh_leaf (in_edition 1 p) (Valid-size v)

-- the puzzle of a grid alone: no cell is black or given square, and there are no arrows
unfoldable pub plain : Grid → Puzzle
plain g = record { grid = g; given = replicate (size g) 0; arrows = [] }

-- it is a valid one
pub plain_Valid : (g : Grid) → (0 < g.height) × (0 < g.width) → (g.height ≤ 32) × (g.width ≤ 32) → Valid (plain g)
unfolding plain
plain_Valid g low high = record { low = low; high = high; total = length-replicate (size g) 0; codes = λ c m. zeros (size g) m; arrows = Arrows.nil }
  where
    zeros : (n : ℕ) {c : ℕ} → Memᴰ c (replicate n 0) → c < 3
    zeros zero m = absurd (Memᴰ.not-nil m)
    zeros (suc n) (Memᴰ.head e) = omega (arith, e)
    zeros (suc n) (Memᴰ.tail m) = zeros n m

-- ---- the arrays of an accepted record

-- the states, taken from their array
pub states_taken : {g : Grid} {ds : List Literal} → Standing g ds → take (size g) (array_of 2 (cells_after g ds)) ≡ cells_after g ds
states_taken {g} {ds} t = rw (← (cells_valid t).long) (array_take 2 (cells_after g ds))

-- decisions that are accepted on the fresh board of a leaf, and the states of its cells that they leave
pub record Made (l : Leaf) (decisions cells : List ℕ) : Type 0 where
  pub made : List Literal
  pub accepted : decide_bytes l.puzzle.grid [] decisions ≡ ok made
  pub left : take (size l.puzzle.grid) cells ≡ cells_after l.puzzle.grid made

-- the record s is accepted, and the problem is its puzzle's
pub record Reads (s : List ℕ) (q : Problem) : Type 0 where
  pub puzzle : Puzzle
  pub reads : read_record s ≡ ok puzzle
  pub is : q ≡ problem_of puzzle

pub Reads-ok : (s : List ℕ) {q : Problem} → ok q ≡ as_problem (read_record s) → Reads s q
Reads-ok s e =
    let p = problem_ok (read_record s) e in
    record { puzzle = p.0; reads = p.1; is = p.2 }

pub Reads-Valid : {s : List ℕ} {q : Problem} (r : Reads s q) → Valid r.puzzle
Reads-Valid {s} r = record_Valid s r.reads

-- ---- a call on a leaf, step by step

module _ {A : Type 0} (need : Grid → ℕ) (says : Leaf → List Literal → A) (l : Leaf) (decisions : List ℕ) (n : ℕ) where
  -- an output that is too short
  pub call_short : n < need l.puzzle.grid → call_on need says decisions n l ≡ refused 11
  unfolding ◌>>=◌ unless
  call_short h = rw (lt-leb (need l.puzzle.grid) n h) refl

  -- the decisions come next where it is long enough
  pub call_long : need l.puzzle.grid ≤ n → call_on need says decisions n l ≡ (decide_bytes l.puzzle.grid [] decisions >>= λ ds. ok (says l ds))
  unfolding ◌>>=◌ unless
  call_long h = rw (le-leb (need l.puzzle.grid) n h) refl

  module _ (h : need l.puzzle.grid ≤ n) where
    -- a decision is refused
    pub call_refused : {k : ℕ} → decide_bytes l.puzzle.grid [] decisions ≡ refused k → call_on need says decisions n l ≡ refused k
    unfolding ◌>>=◌
    call_refused f = call_long h ∙ rw f refl

    -- all are accepted: the call says what it says of the states that are left
    pub call_done : {ds : List Literal} → decide_bytes l.puzzle.grid [] decisions ≡ ok ds → call_on need says decisions n l ≡ ok (says l ds)
    unfolding ◌>>=◌
    call_done f = call_long h ∙ rw f refl

-- a call without edition and sizes opens in edition 1 and has none
pub call_plain : {A : Type 0} (need : Grid → ℕ) (says : Leaf → List Literal → A) (s decisions : List ℕ) (n : ℕ)
    → host_call need says s decisions n ≡ host_call_with need says s 1 [] decisions n
call_plain need says s decisions n = sym (with_none (call_on need says decisions n) s)
