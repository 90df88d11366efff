-- What find answers, and what it leaves: a law for each way out of the code.
-- Assumes nothing.
use Prim.Native.Nat.{ℕ, zero, suc, ◌+◌, ◌*◌, ◌≤◌, ◌<◌}
use native.Mathlib.Omega.{arith}
use native.Mathlib.Decide.{dec_le}
use mathlib.Core.Path.{◌≡◌, refl, ap, ◌∙◌}
use mathlib.Core.Bool.{Bool, true, false, cond}
use mathlib.Core.List.{List}
use lib.Dec.{leb, ltb}
use lib.ListN.{length, take}
use borrow.Author.Tests.{lt-ltb, le-ltb, le-leb, lt-leb}
use Rattle.grid.specs.Grid.{size}
use Rattle.record.specs.Leaf.{Leaf, leaf_with}
use Rattle.record.specs.Problem.{grid_of}
use Rattle.record.specs.declared.Problem.{Problem}
use Rattle.board.specs.Form.{well_formed}
use Rattle.board.specs.declared.Board.{Board}
use Rattle.kinds.specs.Kinds.{arrow_block, blocks_touched, kind_at, kinds_of, view, view_with}
use Rattle.kinds.specs.Inside.{puzzle_with}
use Rattle.std.specs.Prelude.{Option}
use Rattle.std.proofs.Math.Option.{none, some}
use Rattle.refusal.specs.Refusals.{Outcome, ok, refused}
use Rattle.literals.specs.Literals.{Found}
use Rattle.units.specs.Units.{reason1_at, reason1}
use Rattle.paths.specs.Paths.{reason2}
use Rattle.reasons.specs.Reasons.{find_reason}
use Rattle.literals.specs.Buffer.{finding_by, buffer_by}
use Rattle.literals.specs.Inside.{FoundAs, count_of}
use Rattle.board.specs.Hints.{hinted, find_refusal, hinted_by, after_find}
use Rattle.reasons.specs.Find.{leaf_on, cells_on, reason_on, find_of, found_as, buffer_after}
use Rattle.board.specs.Board.{enough}

-- find of player q on the board b with this buffer: its answer and the buffer after it
abbrev pub Finds : Board → ℕ → List ℕ → Outcome (Option ℕ) → List ℕ → Type 0
Finds b q buffer answer after = (answer ≡ found_as (find_of b q buffer)) × (after ≡ buffer_after b q buffer)

-- what find answers: 6, 17, 11, or what was found
pub find_ill : (b : Board) (q : ℕ) (buffer : List ℕ) → well_formed b ≡ false → Finds b q buffer (refused 6) buffer
unfolding find_of buffer_after find_refusal finding_by buffer_by
find_ill b q buffer h = (rw h refl, rw h refl)

pub find_stranger : (b : Board) (q : ℕ) (buffer : List ℕ) → well_formed b ≡ true → 3 < q → Finds b q buffer (refused 17) buffer
unfolding find_of buffer_after find_refusal finding_by buffer_by
find_stranger b q buffer h m = let p = lt-leb q 3 m in (rw (h, p) refl, rw (h, p) refl)

pub find_short : (b : Board) (q : ℕ) (buffer : List ℕ) → well_formed b ≡ true → q ≤ 3 → length buffer < 3 * (b.problem.height * b.problem.width) + 1
    → Finds b q buffer (refused 11) buffer
unfolding find_of buffer_after find_refusal finding_by buffer_by enough grid_of size
find_short b q buffer h m l =
    let p = le-leb q 3 m in
    let t = lt-ltb (length buffer) (3 * (b.problem.height * b.problem.width) + 1) l in
    (rw (h, p, t) refl, rw (h, p, t) refl)

-- what find leaves on the board, by its answer

pub find_counted : (b : Board) (q : ℕ) (buffer : List ℕ) {o : Option ℕ} → ok o ≡ found_as (find_of b q buffer) → (q ≤ 3) × (hinted b q ≡ after_find b q (length buffer))
unfolding find_of after_find find_refusal finding_by hinted_by
find_counted b q buffer {o} e = go (well_formed b) (dec_le q 3) (ltb (length buffer) (enough (grid_of b.problem))) e
  where
    go : (t : Bool) → Dec (q ≤ 3) → (u : Bool) → ok o ≡ found_as (finding_by (cond t (cond (leb q 3) (cond u 11 0) 17) 6) (reason_on b))
        → (q ≤ 3) × (hinted b q ≡ hinted_by (cond t (cond (leb q 3) (cond u 11 0) 17) 6) b q)
    go false l u x = let z : ◌≡◌ {A = ℕ} 0 1 = cc in absurd (omega arith)
    go true (no l) u x = let y = rw (lt-leb q 3 (omega arith)) at x in let z : ◌≡◌ {A = ℕ} 0 1 = cc in absurd (omega arith)
    go true (yes l) true x = let y = rw (le-leb q 3 l) at x in let z : ◌≡◌ {A = ℕ} 0 1 = cc in absurd (omega arith)
    go true (yes l) false x = (l, rw (le-leb q 3 l) refl)

pub find_kept : (b : Board) (q : ℕ) (buffer : List ℕ) {k : ℕ} → refused k ≡ found_as (find_of b q buffer) → b ≡ after_find b q (length buffer)
unfolding find_of after_find finding_by hinted_by
find_kept b q buffer {k} e = go (find_refusal b q (length buffer)) (reason_on b) e
  where
    go : (n : ℕ) (f : Found) → refused k ≡ found_as (finding_by n f) → b ≡ hinted_by n b q
    go zero none x = let z : ◌≡◌ {A = ℕ} 0 1 = cc in absurd (omega arith)
    go zero (some r) x = let z : ◌≡◌ {A = ℕ} 0 1 = cc in absurd (omega arith)
    go (suc n) f x = refl

-- the count of what a search finds, as the answer of a find that is not refused
counted : (f : Found) → ok (count_of f) ≡ found_as (finding_by 0 f)
unfolding count_of finding_by
counted none = refl
counted (some r) = refl

-- a reason goes by the grid and the arrows alone
pub codes_aside : (l : Leaf) (cells : List ℕ) → find_reason (leaf_with l.edition l.sizes (puzzle_with l.puzzle.grid l.puzzle.arrows)) cells ≡ find_reason l cells
unfolding find_reason reason1 reason1_at reason2 view view_with kinds_of kind_at blocks_touched arrow_block
codes_aside l cells = refl

pub find_found : (b : Board) (q : ℕ) (buffer : List ℕ) {after : List ℕ} {found : Option ℕ} {lent : Leaf} {p : Problem} → well_formed b ≡ true → q ≤ 3
    → 3 * (b.problem.height * b.problem.width) + 1 ≤ length buffer
    → lent ≡ leaf_on b → p ≡ b.problem → FoundAs (find_reason lent (take (p.height * p.width) b.cells)) buffer after found
    → Finds b q buffer (ok found) after
unfolding find_of buffer_after find_refusal enough grid_of size reason_on cells_on
find_found b q buffer h m l e s y =
    let x = rw (e, s) at y in
    let p = le-leb q 3 m in
    let t = le-ltb (length buffer) (3 * (b.problem.height * b.problem.width) + 1) l in
    (ap (λ (r : Option ℕ). ok r) x.answer ∙ counted (reason_on b) ∙ rw (h, p, t) refl, x.buffer ∙ rw (h, p, t) refl)
