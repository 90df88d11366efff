-- The arrays keep the whole puzzle: what they keep is read back, and valid puzzles that give one problem are one. What is read says.
-- Assumes nothing.
use Prim.Native.Nat.{ℕ, suc, ◌+◌, ◌-◌}
use native.Mathlib.Omega.{arith}
use mathlib.Core.Path.{◌≡◌, refl, sym, ap, ◌∙◌}
use mathlib.Core.List.{List, [], ◌∷◌, ◌++◌, append_assoc}
use lib.ListN.{length, take, drop, replicate, length-append}
use lib.Seq.{take-append_seam, drop_at}
use Rattle.grid.specs.Lists.{array_of}
use Rattle.grid.specs.Grid.{size}
use Rattle.grid.proofs.ArrayLaws.{array_take}
use Rattle.fields.specs.Fields.{Outcome, ok, refused, ◌>>=◌}
use Rattle.record.specs.Record.{Puzzle}
use Rattle.record.specs.Valid.{Valid}
use Rattle.record.specs.Problem.{ends_from, arrow_cells, problem_of, grid_of, arrows_from, puzzle_of, as_problem}
use Rattle.record.specs.declared.Problem.{Problem}

-- an end for each arrow
pub length_ends : (at : ℕ) (as' : List (List ℕ)) → length (ends_from at as') ≡ length as'
unfolding ends_from
length_ends at [] = refl
length_ends at (a ∷ as') = ap suc (length_ends (at + length a) as')

-- the arrows are cut out of the line of their cells again
pub arrows_again : (line pre post : List ℕ) (at : ℕ) (as' : List (List ℕ)) → line ≡ pre ++ (arrow_cells as' ++ post) → length pre ≡ at → arrows_from line at (ends_from at as') ≡ as'
unfolding arrows_from ends_from arrow_cells
arrows_again line pre post at [] e n = refl
arrows_again line pre post at (a ∷ as') e n =
    let q : at + length a - at ≡ length a = omega arith in
    let e' : line ≡ pre ++ (a ++ (arrow_cells as' ++ post)) = e ∙ simp append_assoc in
    let d : drop at line ≡ a ++ (arrow_cells as' ++ post) = rw e' (drop_at pre (a ++ (arrow_cells as' ++ post)) at n) in
    let first : take (at + length a - at) (drop at line) ≡ a = rw (q, d) (take-append_seam a (arrow_cells as' ++ post)) in
    let rest : arrows_from line (at + length a) (ends_from (at + length a) as') ≡ as' =
    arrows_again line (pre ++ a) post (at + length a) as' (e' ∙ simp append_assoc) (rw length-append (omega arith)) in
    rw (first, rest) refl

-- the arrows of a puzzle, cut out of its arrays
arrows_kept : (as' : List (List ℕ)) → arrows_from (array_of 0 (arrow_cells as')) 0 (take (length as') (array_of 0 (ends_from 0 as'))) ≡ as'
unfolding array_of
arrows_kept as' =
    let t : take (length as') (ends_from 0 as' ++ replicate (1024 - length (ends_from 0 as')) 0) ≡ ends_from 0 as' =
    rw (← length_ends 0 as') (take-append_seam (ends_from 0 as') (replicate (1024 - length (ends_from 0 as')) 0)) in
    rw t (arrows_again (arrow_cells as' ++ replicate (1024 - length (arrow_cells as')) 0) [] (replicate (1024 - length (arrow_cells as')) 0) 0 as' refl refl)

-- the codes of a puzzle, taken from their array
cells_kept : (n : ℕ) (cs : List ℕ) → length cs ≡ n → take n (array_of 0 cs) ≡ cs
cells_kept n cs h = rw (← h) (array_take 0 cs)

-- what a problem keeps is the puzzle that it was made of
pub problem_puzzle : (p : Puzzle) → Valid p → puzzle_of (problem_of p) ≡ p
unfolding puzzle_of problem_of grid_of
problem_puzzle p v = rw (cells_kept (size p.grid) p.given v.total, arrows_kept p.arrows) refl

-- the problem that was read, and a refusal
pub problem_ok : (o : Outcome Puzzle) {q : Problem} → ok q ≡ as_problem o → (p : Puzzle) × (o ≡ ok p) × (q ≡ problem_of p)
unfolding as_problem ◌>>=◌
problem_ok (refused k) e = let z : ◌≡◌ {A = ℕ} 0 1 = cc in absurd (omega arith)
problem_ok (ok p) {q} e = (p, refl, cc)

pub problem_refused : (o : Outcome Puzzle) {k : ℕ} → refused k ≡ as_problem o → o ≡ refused k
unfolding as_problem ◌>>=◌
problem_refused (refused j) {k} e = let z : j ≡ k = cc in rw z refl
problem_refused (ok p) e = let z : ◌≡◌ {A = ℕ} 0 1 = cc in absurd (omega arith)

-- a problem that was read in place
pub read_ok : {o : Outcome Problem} {q : Problem} → (a : Problem) × (o ≡ ok a) × (q ≡ a) → ok q ≡ o
read_ok r = ap {B = Outcome Problem} ok r.2 ∙ sym r.1
