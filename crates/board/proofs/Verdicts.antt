-- The test of a board, taken part by part: a law for each way out of the code.
-- Assumes nothing.
use Prim.Native.Nat.{ℕ, ◌*◌, ◌≤◌}
use Rattle.std.specs.Prelude.{Ok, Err, is_err}
use Rattle.std.specs.declared.result.Result.{Result}
use Rattle.refusal.specs.declared.Refusal.{Refusal}
use Rattle.sizes.specs.Edition.{EditionOf}
use Rattle.sizes.specs.declared.Edition.{Edition}
use mathlib.Core.Path.{◌≡◌, refl, sym}
use mathlib.Core.Bool.{Bool, true, false, ◌&&◌, true≢false, false≢true}
use lib.ListN.{length, take}
use borrow.Author.Tests.{eq-eqb}
use Rattle.grid.specs.Grid.{size}
use Rattle.grid.specs.Lists.{all, upto}
use Rattle.grid.proofs.GridLaws.{size_most}
use Rattle.record.specs.Arrows.{on_arrow}
use Rattle.record.specs.Problem.{grid_of, puzzle_of}
use Rattle.record.specs.Leaf.{is_edition}
use Rattle.form.specs.Form.{long, problem_formed, stated, ordered}
use Rattle.board.proofs.DecisionLaws.{decisions_formed}
use Rattle.form.proofs.ProblemForm.{Formed-is, formed_Valid, formed_again}
use Rattle.sizes.specs.Inside.{Drawn}
use Rattle.sizes.proofs.DrawnLaws.{problem_Drawn}
use Rattle.sizes.specs.Form.{sized_cell, sizes_formed}
use Rattle.board.specs.declared.Board.{Board}
use Rattle.board.specs.Form.{Counts, counts_formed, sizes_good, well_formed}
use Rattle.board.proofs.HintLaws.{is_Counts}

-- the number of an edition, by whether it was read
module _ (n : ℕ) where
  pub edition_none : (r : Result Edition Refusal) → EditionOf n r → is_err r ≡ true → is_edition n ≡ false
  edition_none (Ok e) h q = absurd (false≢true q)
  edition_none (Err r) h q = h.0

  pub edition_one : (r : Result Edition Refusal) → EditionOf n r → is_err r ≡ false → is_edition n ≡ true
  edition_one (Ok e) h q = h.0
  edition_one (Err r) h q = absurd (true≢false q)

module _ (b : Board) where
  pub board_problem : problem_formed b.problem ≡ false → false ≡ well_formed b
  unfolding well_formed
  board_problem e = simp e

  pub board_edition : is_edition b.edition ≡ false → false ≡ well_formed b
  unfolding well_formed
  board_edition e = rw e (go (problem_formed b.problem) (long b.cells && long b.order && counts_formed b.hints))
    where
      go : (s t : Bool) → false ≡ ((s && (t && false && sizes_good b)) && (ordered (size (grid_of b.problem)) b.decided b.order && stated (size (grid_of b.problem)) (take b.decided b.order) b.cells))
      go true true = refl
      go true false = refl
      go false t = refl

  -- a problem that passes has the arrows of its puzzle
  pub board_Drawn : problem_formed b.problem ≡ true → Drawn (puzzle_of b.problem) b.problem.arrows b.problem.ends b.problem.count
  board_Drawn e =
      let f = Formed-is b.problem e in
      problem_Drawn (formed_Valid b.problem f) (sym (formed_again b.problem f))

  pub board_area : problem_formed b.problem ≡ true → b.problem.height * b.problem.width ≤ 1024
  unfolding grid_of size
  board_area e =
      let f = Formed-is b.problem e in
      size_most (grid_of b.problem) f.sizes.high.0 f.sizes.high.1

  pub board_sizes : sizes_good b ≡ false → false ≡ well_formed b
  unfolding well_formed
  board_sizes e = rw e (go (problem_formed b.problem) (long b.cells && long b.order && counts_formed b.hints && is_edition b.edition))
    where
      go : (s t : Bool) → false ≡ ((s && (t && false)) && (ordered (size (grid_of b.problem)) b.decided b.order && stated (size (grid_of b.problem)) (take b.decided b.order) b.cells))
      go true true = refl
      go true false = refl
      go false t = refl

  -- the sizes of arrays of 1,024 places are tested cell by cell
  pub sizes_cells : length b.lowest ≡ 1024 → length b.highest ≡ 1024 → all (sized_cell (on_arrow (puzzle_of b.problem).arrows) b.lowest b.highest) (upto 1024) ≡ sizes_good b
  unfolding sizes_good sizes_formed long
  sizes_cells l h = rw (eq-eqb (length b.lowest) 1024 l, eq-eqb (length b.highest) 1024 h) refl

  pub board_decisions : problem_formed b.problem ≡ true → is_edition b.edition ≡ true → sizes_good b ≡ true → length b.cells ≡ 1024 → length b.order ≡ 1024 → Counts b.hints
      → decisions_formed (size (grid_of b.problem)) b.decided b.order b.cells ≡ well_formed b
  unfolding well_formed long
  board_decisions e v z c o n = simp (e, v, z, eq-eqb (length b.cells) 1024 c, eq-eqb (length b.order) 1024 o, is_Counts b.hints n)
