-- A list of decisions on a board that is tested once: each step is the single decide, which keeps a board well formed.
-- Assumes nothing.
use Prim.Native.Nat.{ℕ, ◌+◌, ◌*◌, ◌/◌, ◌%◌, ◌≤◌, ◌<◌}
use native.Mathlib.Omega.{arith}
use mathlib.Core.Path.{◌≡◌, refl, sym, subst}
use mathlib.Core.Bool.{true, false}
use mathlib.Core.List.{List, [], ◌∷◌}
use lib.ListN.{length, get_or, drop}
use borrow.Author.Tests.{eq-eqb, ne_eqb}
use Rattle.grid.specs.Grid.{size}
use Rattle.record.specs.Leaf.{Leaf}
use Rattle.record.specs.Problem.{puzzle_of, grid_of, Done}
use Rattle.record.proofs.LeafLaws.{ValidLeaf}
use Rattle.board.specs.declared.Board.{Board}
use Rattle.board.specs.Answers.{Decided}
use Rattle.refusal.specs.Refusals.{number_of}
use Rattle.refusal.specs.declared.Refusal.{Refusal}
use Rattle.std.specs.Prelude.{Ok, Err}
use Rattle.board.specs.Board.{decide}
use Rattle.board.specs.Kept.{leaf_on}
use Rattle.board.specs.Form.{well_formed}
use Rattle.board.specs.Decide.{area, with_decisions, placed, decide_of, refused_with, onward, decide_all_of, placed_from, all_placed}
use Rattle.board.specs.Inside.{Placing, bits, off, twice, put, Stands, whole, part, Held}
use Rattle.board.proofs.Standing.{Standing, after-Standing}
use Rattle.board.proofs.BoardForm.{Whole-is, decisions_of, whole_Standing, whole_leaf, whole_again, formed_tall, formed_wide, formed_area, formed_room, formed_few, formed_latest}
use Rattle.board.proofs.CallLaws.{Standing-well, decide_left}
use Rattle.board.proofs.Answers.{no, yes, decide_6, decide_7, decide_8, decide_9, decide_done, decide_answers, decide_leaves, undo_6, undo_10, undo_answers, undo_leaves}

-- decide keeps a board well formed
pub decide_well : (b : Board) → well_formed b ≡ true → (i v : ℕ) → well_formed (decide_of b i v).board ≡ true
decide_well b h i v =
    let w = Whole-is b h in
    let l : Leaf = leaf_on b in
    let ok : ValidLeaf l = whole_leaf b w in
    let s : Standing l.puzzle.grid (decisions_of b) = unfold leaf_on puzzle_of in whole_Standing b w in
    subst (λ (z : Board). well_formed (decide_of z i v).board ≡ true) (whole_again b w)
    (rw (decide_left l ok w.counts s i v) (Standing-well l ok w.counts (after-Standing l.puzzle.grid (decide i v) s)))

module _ (b₀ : Board) (cells order : List ℕ) (n count x y : ℕ) (rest : List ℕ)
    (e : size (grid_of b₀.problem) ≡ n) (w : well_formed (with_decisions b₀ cells order count) ≡ true) (low : x * 256 + y < 65536) where
  value : (x * 256 + y) / 32768 ≤ 1
  value = omega arith

  -- a decision that is refused
  pub place_refused : {r : Refusal} {cells' order' : List ℕ} → Placing n count (x * 256 + y) cells order (Err r) cells' order'
      → placed_from (with_decisions b₀ cells order count) (x ∷ y ∷ rest) ≡ refused_with (number_of r) (with_decisions b₀ cells' order' count)
  unfolding placed_from onward area
  place_refused (bits h) = rw (ne_eqb ((x * 256 + y) % 32768 / 1024) 0 h) refl
  place_refused (off h l) =
      rw (eq-eqb ((x * 256 + y) % 32768 / 1024) 0 h, ← decide_7 (with_decisions b₀ cells order count) ((x * 256 + y) % 1024) ((x * 256 + y) / 32768) w (rw e l)) refl
  place_refused (twice h l d) =
      rw (eq-eqb ((x * 256 + y) % 32768 / 1024) 0 h, ← decide_9 (with_decisions b₀ cells order count) ((x * 256 + y) % 1024) ((x * 256 + y) / 32768) w (rw e l) value d) refl

  -- a decision that is put
  pub place_put : {cells' order' : List ℕ} → Placing n count (x * 256 + y) cells order (Ok tt) cells' order'
      → (placed_from (with_decisions b₀ cells order count) (x ∷ y ∷ rest) ≡ placed_from (with_decisions b₀ cells' order' (count + 1)) rest) × (well_formed (with_decisions b₀ cells' order' (count + 1)) ≡ true)
  unfolding placed_from onward area placed
  place_put (put h l d) =
      let i : ℕ = (x * 256 + y) % 1024 in
      let v : ℕ = (x * 256 + y) / 32768 in
      let b : Board = with_decisions b₀ cells order count in
      let r = decide_done b i v w (rw e l) value d in
      (rw (eq-eqb ((x * 256 + y) % 32768 / 1024) 0 h, ← r) refl, subst (λ z. well_formed z.board ≡ true) (sym r) (decide_well b w i v))

-- the same of the first two bytes of a list
module _ (b₀ : Board) (cells order : List ℕ) (n count : ℕ) (e : size (grid_of b₀.problem) ≡ n) (w : well_formed (with_decisions b₀ cells order count) ≡ true) where
  pub two_refused : (left : List ℕ) {word : ℕ} {r : Refusal} {cells' order' : List ℕ} → 2 ≤ length left → word ≡ get_or left 0 0 * 256 + get_or left 1 0 → word < 65536
      → Placing n count word cells order (Err r) cells' order' → Stands b₀ cells' order' count (placed_from (with_decisions b₀ cells order count) left) (Err r)
  unfolding refused_with
  two_refused [] h is low p = absurd (omega (arith, h))
  two_refused (x ∷ []) h is low p = absurd (omega (arith, h))
  two_refused (x ∷ y ∷ rest) h is low p =
      rw (place_refused b₀ cells order n count x y rest e w (rw is at low) (rw is at p)) part

  pub two_put : (left : List ℕ) {word : ℕ} {cells' order' : List ℕ} → 2 ≤ length left → word ≡ get_or left 0 0 * 256 + get_or left 1 0 → word < 65536
      → Placing n count word cells order (Ok tt) cells' order'
      → (placed_from (with_decisions b₀ cells order count) left ≡ placed_from (with_decisions b₀ cells' order' (count + 1)) (drop 2 left)) × (well_formed (with_decisions b₀ cells' order' (count + 1)) ≡ true)
  two_put [] h is low p = absurd (omega (arith, h))
  two_put (x ∷ []) h is low p = absurd (omega (arith, h))
  two_put (x ∷ y ∷ rest) h is low p = place_put b₀ cells order n count x y rest e w (rw is at low) (rw is at p)

-- what fewer bytes make of a board
pub odd_byte : (b : Board) (left : List ℕ) → length left < 2 → ¬ (length left ≡ 0) → placed_from b left ≡ refused_with 12 b
unfolding placed_from
odd_byte b [] h k = absurd (k refl)
odd_byte b (x ∷ []) h k = refl
odd_byte b (x ∷ y ∷ rest) h k = absurd (omega (arith, h))

pub no_byte : (b : Board) (left : List ℕ) → length left ≡ 0 → placed_from b left ≡ record { answer = Done; board = b }
unfolding placed_from
no_byte b [] h = refl
no_byte b (x ∷ rest) h = absurd (omega (arith, h))

-- ---- the whole list

-- a board that fails the test, and one that passes it
pub all_6 : (b : Board) (bytes : List ℕ) → well_formed b ≡ false → no 6 b ≡ decide_all_of b bytes
unfolding decide_all_of refused_with
all_6 b bytes w = rw w refl

module _ (b : Board) (bytes cells order : List ℕ) (w : well_formed b ≡ true) where
  pub all_done : {n : ℕ} → Stands b cells order n (placed_from b bytes) (Ok tt) → yes (with_decisions b cells order n) ≡ decide_all_of b bytes
  unfolding decide_all_of onward
  all_done {n} h = rw w (go refl h)
    where
      go : {d : Decided} → placed_from b bytes ≡ d → Stands b cells order n d (Ok tt) → yes (with_decisions b cells order n) ≡ all_placed b (placed_from b bytes)
      go e whole = rw e refl

  pub all_refused : {n : ℕ} {r : Refusal} → Stands b cells order n (placed_from b bytes) (Err r) → no (number_of r) b ≡ decide_all_of b bytes
  unfolding decide_all_of onward refused_with
  all_refused {n} {r} h = rw w (go refl h)
    where
      go : {d : Decided} → placed_from b bytes ≡ d → Stands b cells order n d (Err r) → no (number_of r) b ≡ all_placed b (placed_from b bytes)
      go e part = rw e refl

  -- its arrays are lent
  pub formed_held : Held (b.problem.height * b.problem.width) b.decided b.cells b.order
  unfolding grid_of size
  formed_held = record { board = b; area = refl; well = w }

-- for decide, undo and a list of decisions: what is answered at each way out, and what is known of a board that passed the test
pub ruleset deciding = (decide_6, decide_7, decide_8, decide_9, decide_answers, decide_leaves, formed_tall, formed_wide, formed_area, formed_room)

pub ruleset undoing = (undo_6, undo_10, undo_answers, undo_leaves, formed_few, formed_latest)
