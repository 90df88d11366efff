-- One file for setter and player: a record, then from the next byte a grade (3 bits), the solution (one bit a cell, row by row) and zero filler.
-- Assumes nothing.
use Rattle.std.specs.Prelude.{ℕ, ◌+◌, ◌*◌, ◌≤◌, ◌<◌, ◌≡◌, Bool, ◌&&◌, List, ◌++◌, map, leb, length, drop}
use Rattle.grid.specs.Lists.{upto}
use Rattle.grid.specs.Grid.{size}
use Rattle.fields.specs.Fields.{Outcome, ok, ◌>>=◌, unless, bit, number, filler, bytes_for}
use Rattle.record.specs.Record.{Puzzle}
use Rattle.record.specs.Leaf.{in_edition, is_edition}
use Rattle.record.specs.Head.{Head, read_head}
use Rattle.record.specs.Write.{bits_of, pack, write_record}
use Rattle.finished.specs.Finished.{finished_test}

-- the bytes behind the record
abbrev pub tail_of : List ℕ → Head → List ℕ
tail_of s h = drop h.bytes s

-- how many cells the record has
abbrev pub cells_in : Head → ℕ
cells_in h = size h.puzzle.grid

-- ---- the tail t of a file with n cells

-- it is neither too short nor too long, and its filler is zero
pub record Tail (t : List ℕ) (n : ℕ) : Type 0 where
  pub long : length t ≡ bytes_for (3 + n)
  pub zeros : (k : ℕ) → 3 + n ≤ k → k < 8 * length t → bit t k ≡ 0

-- the same as a test
unfoldable pub tail_test : List ℕ → ℕ → Bool
tail_test t n = leb (3 + n) (8 * length t) && filler t (3 + n)

-- the grade: 0 to 7
unfoldable pub grade_in : List ℕ → ℕ
grade_in t = number t 0 3

-- the solution: 1 for a square, 0 for an empty cell
unfoldable pub solution_in : List ℕ → ℕ → List ℕ
solution_in t n = map (λ i. bit t (3 + i)) (upto n)

-- ---- the two readers

-- what the player's reader gives: the record and the grade
pub record Graded : Type 0 where
  pub head : Head
  pub grade : ℕ

-- what the setter's reader gives: all of it
pub record Solved : Type 0 where
  pub graded : Graded
  pub solution : List ℕ

-- the record and the grade of the file s with the head h
unfoldable pub graded_in : List ℕ → Head → Graded
graded_in s h = record { head = h; grade = grade_in (tail_of s h) }

-- and its solution
unfoldable pub solved_in : List ℕ → Head → Solved
solved_in s h = record { graded = graded_in s h; solution = solution_in (tail_of s h) (cells_in h) }

-- behind the head the player's reader refuses a tail too short, too long or with filler not zero, by 20
unfoldable pub player_behind : List ℕ → Head → Outcome Graded
player_behind s h =
    unless (tail_test (tail_of s h) (cells_in h)) 20 >>= λ _.
    ok (graded_in s h)

-- the setter's reader in the edition e refuses it too, then an edition that is not 1 or 2 by 16, then a solution not finished in that edition by 21
unfoldable pub setter_behind : ℕ → List ℕ → Head → Outcome Solved
setter_behind e s h =
    unless (tail_test (tail_of s h) (cells_in h)) 20 >>= λ _.
    unless (is_edition e) 16 >>= λ _.
    unless (finished_test (in_edition e h.puzzle) (solution_in (tail_of s h) (cells_in h))) 21 >>= λ _.
    ok (solved_in s h)

-- the player's reader: the record's refusals 1 to 5, of which 5 counts filler of the record only, and 20
unfoldable pub read_player : List ℕ → Outcome Graded
read_player s = read_head s >>= player_behind s

-- the setter's reader: 1 to 5, 20, 16, 21
unfoldable pub read_setter : ℕ → List ℕ → Outcome Solved
read_setter e s = read_head s >>= setter_behind e s

-- ---- the writer

-- the bytes behind the record
unfoldable pub write_tail : ℕ → List ℕ → List ℕ
write_tail grade solution = pack (bytes_for (3 + length solution)) (bits_of grade 3 ++ solution)

-- the file of a puzzle, a grade and a solution
unfoldable pub write_file : Puzzle → ℕ → List ℕ → List ℕ
write_file p grade solution = write_record p ++ write_tail grade solution

-- ---- files that differ in solution bits alone

-- bit k of the file s is one of its solution: its record is accepted, and the bit is that of a cell
pub record SolutionBit (s : List ℕ) (k : ℕ) : Type 0 where
  pub head : Head
  pub accepted : read_head s ≡ ok head
  pub from : 8 * head.bytes + 3 ≤ k
  pub to : k < 8 * head.bytes + 3 + cells_in head

-- as many bytes, and every other bit is the same
pub record SolutionAlone (s t : List ℕ) : Type 0 where
  pub long : length s ≡ length t
  pub same : (k : ℕ) → k < 8 * length s → (SolutionBit s k → ⊥) → bit s k ≡ bit t k
