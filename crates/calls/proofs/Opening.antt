-- A problem that was read, and the leaf that is lent of it: without sizes, and with those that were read.
-- Assumes nothing.
use Prim.Native.Nat.{ℕ, ◌*◌, ◌≤◌, ◌<◌}
use native.Mathlib.Omega.{arith}
use mathlib.Core.Path.{◌≡◌, refl, sym, ap, ◌∙◌}
use mathlib.Core.Bool.{true}
use mathlib.Core.List.{List, []}
use lib.IntN.{pos, neg_ℤ}
use lib.ListN.{length, take}
use Rattle.std.specs.Prelude.{Ok, Err}
use Rattle.std.specs.Result.{IsErrAnd}
use Rattle.std.specs.declared.result.Result.{Result}
use Rattle.grid.specs.Lists.{last, array_of}
use Rattle.grid.specs.Cells.{Literal}
use Rattle.grid.specs.Grid.{size}
use Rattle.grid.specs.Side.{sized}
use Rattle.refusal.specs.declared.Refusal.{Refusal}
use Rattle.refusal.specs.Refusals.{number_of, outcome_of, returned_of}
use Rattle.record.specs.Record.{Outcome, ok, refused, Puzzle}
use Rattle.record.specs.Problem.{grid_of, problem_of, puzzle_of}
use Rattle.record.specs.Valid.{Valid}
use Rattle.record.specs.Leaf.{Range, Leaf}
use Rattle.record.specs.Sizes.{GoodSizes, kept_ranges}
use Rattle.record.specs.declared.Problem.{Problem}
use Rattle.record.proofs.LineLaws.{valid_arrows}
use Rattle.record.proofs.ProblemLaws.{problem_puzzle}
use Rattle.record.proofs.RecordLaws.{Valid-size}
use Rattle.record.proofs.SizesLaws.{read_good}
use Rattle.fields.proofs.OutcomeLaws.{bind_ok}
use Rattle.form.specs.Form.{problem_formed}
use Rattle.form.proofs.ProblemForm.{Formed-is, is_Formed, valid_Formed, formed_Valid, formed_again}
use Rattle.groups.specs.Arrays.{lines_of}
use Rattle.sizes.specs.Bytes.{numbers_in, sizes_in}
use Rattle.sizes.specs.Edition.{edition_number}
use Rattle.sizes.specs.declared.Edition.{Edition}
use Rattle.sizes.specs.declared.Edition.TheVariants.{One, Two}
use Rattle.sizes.specs.Form.{SizeArrays}
use Rattle.sizes.specs.Inside.{Drawn}
use Rattle.sizes.specs.Kept.{lowest_of, highest_of}
use Rattle.sizes.specs.LeafOf.{leaf_of}
use Rattle.sizes.specs.declared.LentLeaf.{LentLeaf}
use Rattle.sizes.specs.Lent.{ArrowArrays, SizesOn}
use Rattle.sizes.proofs.KeptLaws.{array_long, kept_sizes}
use Rattle.sizes.proofs.FormLaws.{good_arrays}
use Rattle.board.proofs.BoardArrays.{problem_arrays}
use Rattle.board.proofs.LentSizes.{taken_on, taken_kept}
use Rattle.calls.specs.Inside.{Told}
use Rattle.calls.specs.Call.{decide_bytes}
use Rattle.calls.proofs.Steps.{Reads, Reads-Valid, Made, bytes_Standing, states_taken}
use Rattle.board.specs.Board.{cells_after}
use Rattle.board.proofs.Standing.{none}

-- the number of an edition is not 0
pub edition_not_0 : (e : Edition) → edition_number e ≡ 0 → ⊥
edition_not_0 One z = omega arith
edition_not_0 Two z = omega arith

-- ---- what is told

-- of a leaf that is opened
pub told_ok : {o : Outcome Leaf} {l : Leaf} (F : Leaf → List ℕ → List ℕ → Result ℕ Refusal → Type 0) (before after : List ℕ) (answer : Result ℕ Refusal) → o ≡ ok l → F l before after answer → Told o F before after answer
told_ok F before after answer e f = rw e f

-- and of a refusal, at the exit of a `?`
pub told_fault : {o : Outcome Leaf} (F : Leaf → List ℕ → List ℕ → Result ℕ Refusal → Type 0) (output : List ℕ) (answer : Result ℕ Refusal) (e : Refusal) → IsErrAnd answer (λ y. y ≡ e) → o ≡ refused (number_of e) → Told o F output output answer
told_fault F output (Ok n) e x q = absurd x
told_fault F output (Err y) e x q = rw (q, x) (refl, refl)

-- what a call returns for a refusal
pub returned_refused : (answer : Result ℕ Refusal) {k : ℕ} → outcome_of answer ≡ refused k → returned_of answer ≡ neg_ℤ (pos k)
returned_refused (Ok n) e = let z : ◌≡◌ {A = ℕ} 0 1 = cc in absurd (omega arith)
returned_refused (Err r) {k} e = let z : number_of r ≡ k = cc in rw z refl

pub returned_fault : (answer : Result ℕ Refusal) (e : Refusal) → IsErrAnd answer (λ y. y ≡ e) → returned_of answer ≡ neg_ℤ (pos (number_of e))
returned_fault (Ok n) e x = absurd x
returned_fault (Err y) e x = rw x refl

-- the grid of a leaf that is lent
pub lent_grid : (leaf : LentLeaf) {h w : ℕ} → (h ≡ leaf.problem.now.height) × (w ≡ leaf.problem.now.width) → sized h w ≡ (leaf_of leaf).puzzle.grid
unfolding puzzle_of grid_of
lent_grid leaf e = rw (e.0, e.1) refl

pub lent_size : (leaf : LentLeaf) {h w n : ℕ} → n ≡ h * w → (h ≡ leaf.problem.now.height) × (w ≡ leaf.problem.now.width) → n ≡ size (leaf_of leaf).puzzle.grid
unfolding puzzle_of grid_of size
lent_size leaf s e = s ∙ ap size (lent_grid leaf e)

-- so what deciding in order says of its grid it says of the leaf
pub made_on : (leaf : LentLeaf) {h w : ℕ} → (h ≡ leaf.problem.now.height) × (w ≡ leaf.problem.now.width) → (decisions : List ℕ) {cells : List ℕ}
    → (ds : List Literal) × (decide_bytes (sized h w) [] decisions ≡ ok ds) × (cells ≡ array_of 2 (cells_after (sized h w) ds)) → Made (leaf_of leaf) decisions cells
made_on leaf e decisions d =
    let m = rw (lent_grid leaf e) at d in
    record { made = m.0; accepted = m.1; left = rw m.2 (states_taken (bytes_Standing (leaf_of leaf).puzzle.grid decisions none m.1)) }

pub unmade_on : (leaf : LentLeaf) {h w : ℕ} → (h ≡ leaf.problem.now.height) × (w ≡ leaf.problem.now.width) → (decisions : List ℕ) {k : ℕ}
    → decide_bytes (sized h w) [] decisions ≡ refused k → decide_bytes (leaf_of leaf).puzzle.grid [] decisions ≡ refused k
unmade_on leaf e decisions d = rw (lent_grid leaf e) at d

-- ---- a problem that is well formed

module _ (q : Problem) (f : problem_formed q ≡ true) where
  -- its puzzle
  abbrev pub shown : Puzzle
  shown = puzzle_of q

  pub formed_valid : Valid shown
  formed_valid = formed_Valid q (Formed-is q f)

  pub formed_Drawn : Drawn shown q.arrows q.ends q.count
  formed_Drawn =
      let e : q ≡ problem_of shown = sym (formed_again q (Formed-is q f)) in
      record { valid = formed_valid; line = ap (λ (r : Problem). r.arrows) e; cuts = ap (λ (r : Problem). r.ends) e; number = ap (λ (r : Problem). r.count) e }

  -- its grid has cells, and few of them
  pub formed_some : (0 < q.height) × (0 < q.width)
  unfolding grid_of
  formed_some = (Formed-is q f).sizes.low

  pub formed_small : (q.height ≤ 32) × (q.width ≤ 32)
  unfolding grid_of
  formed_small = (Formed-is q f).sizes.high

  pub formed_few : q.height * q.width ≤ 1024
  unfolding puzzle_of grid_of size
  formed_few = Valid-size formed_valid

  -- its arrays hold its arrows
  pub formed_arrays : ArrowArrays (q.height * q.width) q.arrows q.ends q.count (last 0 (take q.count q.ends))
  formed_arrays = problem_arrays q (Formed-is q f)

  -- what reading sizes leaves: sizes that may stand on it, and the arrays that keep them
  pub record SizesKept (bytes lowest highest : List ℕ) : Type 0 where
    pub ranges : List Range
    pub are : sizes_in shown bytes ≡ ok ranges
    pub good : GoodSizes shown ranges
    pub low : lowest ≡ lowest_of ranges
    pub high : highest ≡ highest_of ranges

  pub sizes_kept : (bytes lowest highest : List ℕ) → (rs : List Range) × (sizes_in shown bytes ≡ ok rs) × ((lowest ≡ lowest_of rs) × (highest ≡ highest_of rs)) → SizesKept bytes lowest highest
  unfolding sizes_in
  sizes_kept bytes lowest highest k =
      let b = bind_ok (numbers_in bytes) _ k.1 in
      record { ranges = k.0; are = k.1; good = (read_good shown b.0 b.2).1; low = k.2.0; high = k.2.1 }

  module _ {bytes lowest highest : List ℕ} (k : SizesKept bytes lowest highest) where
    arrays : SizeArrays shown.arrows (lowest_of k.ranges) (highest_of k.ranges)
    arrays = good_arrays shown k.ranges k.good

    -- those of its cells are lent
    pub kept_on : SizesOn (q.height * q.width) (lines_of q.arrows q.ends q.count) (take (q.height * q.width) lowest) (take (q.height * q.width) highest)
    unfolding puzzle_of
    kept_on = rw (k.low, k.high) (taken_on shown.arrows (lowest_of k.ranges) (highest_of k.ranges) arrays (q.height * q.width) formed_few (q.height * q.width) (omega arith))

    -- and are all
    pub kept_all : kept_ranges (take (q.height * q.width) lowest) (take (q.height * q.width) highest) (length (take (q.height * q.width) lowest)) ≡ k.ranges
    unfolding puzzle_of grid_of size
    kept_all =
        rw (k.low, k.high) (taken_kept shown.arrows (lowest_of k.ranges) (highest_of k.ranges) arrays (q.height * q.width) formed_few (q.height * q.width) (omega arith)
        ∙ kept_sizes shown (valid_arrows shown formed_valid) k.ranges k.good (q.height * q.width) (omega arith) formed_few)

-- ---- the problem of a record that is accepted

module _ {s : List ℕ} {q : Problem} (r : Reads s q) where
  -- is well formed
  pub reads_formed : problem_formed q ≡ true
  reads_formed = rw r.is (is_Formed (problem_of r.puzzle) (valid_Formed r.puzzle (Reads-Valid r)))

  -- and shows the puzzle of the record
  pub reads_shown : puzzle_of q ≡ r.puzzle
  reads_shown = rw r.is (problem_puzzle r.puzzle (Reads-Valid r))
