-- What open answers: the reader's refusal, 16, 22, or a board of the problem with nothing decided; and what it leaves of the board that was there.
-- Assumes nothing.
use Prim.Native.Nat.{ℕ, zero, suc, ◌+◌, ◌-◌, ◌≤◌}
use native.Mathlib.Omega.{arith}
use mathlib.Core.Path.{◌≡◌, refl, ap, ◌∙◌}
use mathlib.Core.Bool.{true, false}
use mathlib.Core.List.{List, [], ◌∷◌, map}
use lib.ListN.{replicate, length-replicate, replicate-append-replicate}
use Rattle.grid.specs.Lists.{range, upto, array_of}
use Rattle.grid.specs.Grid.{Grid, size, cells_of}
use Rattle.record.specs.Record.{Puzzle, Outcome, ok, refused, read_record}
use Rattle.record.specs.Leaf.{Range, Leaf, leaf_with, is_edition, sizes_of}
use Rattle.record.specs.Problem.{problem_of, Answer, Done, Refused}
use Rattle.record.specs.declared.Problem.{Problem}
use Rattle.record.proofs.RecordLaws.{record_Valid, Valid-size}
use Rattle.record.proofs.LeafLaws.{ok_leaf, leaf_refused, leaf_16, leaf_sizes}
use Rattle.sizes.specs.Kept.{lowest_of, highest_of}
use Rattle.sizes.specs.Inside.{Drawn}
use Rattle.sizes.proofs.DrawnLaws.{problem_Drawn}
use Rattle.board.specs.declared.Board.{Board}
use Rattle.board.specs.Answers.{told, opened_as, done_as, opened_over, after_open}
use Rattle.board.specs.Board.{value_at, cells_after}
use Rattle.board.specs.Kept.{no_hints, board_of, opening, open_of}
use Rattle.board.specs.Inside.{fresh_of}

-- no cell is decided
all_two : (a k : ℕ) → map (value_at []) (range a k) ≡ replicate k 2
unfolding range value_at
all_two a zero = refl
all_two a (suc k) = ap (λ (l : List ℕ). 2 ∷ l) (all_two (suc a) k)

fresh_cells : (g : Grid) → size g ≤ 1024 → array_of 2 (cells_after g []) ≡ replicate 1024 2
unfolding array_of cells_after cells_of upto
fresh_cells g h =
    let n : size g + (1024 - size g) ≡ 1024 = omega arith in
    rw (all_two 0 (size g), length-replicate {A = ℕ} (size g) 2) (replicate-append-replicate (size g) (1024 - size g) 2 ∙ ap (λ (k : ℕ). replicate k 2) n)

-- the fresh board of a leaf
pub fresh_leaf : (l : Leaf) → size l.puzzle.grid ≤ 1024 → fresh_of (problem_of l.puzzle) l.edition (lowest_of l.sizes) (highest_of l.sizes) ≡ board_of l [] no_hints
unfolding board_of
fresh_leaf l h = rw (fresh_cells l.puzzle.grid h) (unfold array_of in refl)

-- the problem that was read has the arrows of its puzzle
pub read_Drawn : (s : List ℕ) (p : Puzzle) {q : Problem} → read_record s ≡ ok p → q ≡ problem_of p → Drawn p q.arrows q.ends q.count
read_Drawn s p r e = problem_Drawn (record_Valid s r) e

module _ (s : List ℕ) (e : ℕ) (ns : List ℕ) where
  -- the record is refused
  pub open_refused : {k : ℕ} → read_record s ≡ refused k → refused k ≡ opened_as (open_of s e ns)
  unfolding open_of opening
  open_refused r = rw (leaf_refused s e ns r) refl

  module _ (p : Puzzle) (r : read_record s ≡ ok p) where
    -- the edition is refused
    pub open_16 : is_edition e ≡ false → refused 16 ≡ opened_as (open_of s e ns)
    unfolding open_of opening
    open_16 h = rw (leaf_16 s e ns p r h) refl

    module _ (h : is_edition e ≡ true) where
      -- the sizes are refused
      pub open_22 : {k : ℕ} → sizes_of p ns ≡ refused k → refused k ≡ opened_as (open_of s e ns)
      unfolding open_of opening
      open_22 z = rw (leaf_sizes s e ns p r h z) refl

      -- a fresh board
      pub open_fresh : {rs : List Range} {q : Problem} {low high : List ℕ} → sizes_of p ns ≡ ok rs → q ≡ problem_of p → low ≡ lowest_of rs → high ≡ highest_of rs
          → ok (fresh_of q e low high) ≡ opened_as (open_of s e ns)
      unfolding open_of opening
      open_fresh {rs} z a l u = rw (a, l, u, ok_leaf s e ns p rs r h z) (ap {B = Outcome Board} ok (fresh_leaf (leaf_with e rs p) (Valid-size (record_Valid s r))))

-- what is opened over a board, by the outcome
module _ (was : Board) (s : List ℕ) (e : ℕ) (ns : List ℕ) where
  pub opened_done : {b : Board} → ok b ≡ opened_as (open_of s e ns) → (ok tt ≡ done_as (open_of s e ns).answer) × (b ≡ after_open was (open_of s e ns))
  unfolding after_open opened_over
  opened_done {b} h = go (open_of s e ns).answer (open_of s e ns).board h
    where
      go : (a : Answer) (o : Board) → ok b ≡ told a o → (ok tt ≡ done_as a) × (b ≡ opened_over a was o)
      go Done o x = (refl, cc)
      go (Refused k) o x = let z : ◌≡◌ {A = ℕ} 0 1 = cc in absurd (omega arith)

  pub opened_refused : {k : ℕ} → refused k ≡ opened_as (open_of s e ns) → (refused k ≡ done_as (open_of s e ns).answer) × (was ≡ after_open was (open_of s e ns))
  unfolding after_open opened_over
  opened_refused {k} h = go (open_of s e ns).answer (open_of s e ns).board h
    where
      go : (a : Answer) (o : Board) → refused k ≡ told a o → (refused k ≡ done_as a) × (was ≡ opened_over a was o)
      go Done o x = let z : ◌≡◌ {A = ℕ} 0 1 = cc in absurd (omega arith)
      go (Refused j) o x = let z : j ≡ k = cc in (rw z refl, refl)

  -- and the other way, for the board by value
  pub done_opened : {b : Board} → ok tt ≡ done_as (open_of s e ns).answer → b ≡ after_open was (open_of s e ns) → ok b ≡ opened_as (open_of s e ns)
  unfolding after_open opened_over
  done_opened {b} h = go (open_of s e ns).answer (open_of s e ns).board h
    where
      go : (a : Answer) (o : Board) → ok tt ≡ done_as a → b ≡ opened_over a was o → ok b ≡ told a o
      go Done o x y = rw y refl
      go (Refused k) o x y = let z : ◌≡◌ {A = ℕ} 0 1 = cc in absurd (omega arith)
