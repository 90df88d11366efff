-- Which boards a list of calls could leave, as a test (refusal 6). That the test says just this is proved in proofs/.
-- Assumes nothing.
use Rattle.std.specs.Prelude.{ℕ, ◌≤◌, ◌≡◌, Bool, ◌&&◌, List, eqb, leb, length, get_or, take}
use Rattle.grid.specs.Lists.{all}
use Rattle.grid.specs.Grid.{size}
use Rattle.record.specs.Arrows.{on_arrow}
use Rattle.record.specs.Problem.{grid_of, puzzle_of}
use Rattle.record.specs.Leaf.{is_edition}
use Rattle.form.specs.Form.{long, problem_formed, stated, ordered}
use Rattle.sizes.specs.Form.{sizes_formed}
use Rattle.board.specs.declared.Board.{Board}

-- the counts of hints: one for each of four players, each from 0 to 65,535, any of them
pub record Counts (ns : List ℕ) : Type 0 where
  pub four : length ns ≡ 4
  pub low : (q : ℕ) → get_or ns q 0 ≤ 65535

-- the same as a test
unfoldable pub counts_formed : List ℕ → Bool
counts_formed ns = eqb (length ns) 4 && all (λ n. leb n 65535) ns

-- its sizes may stand beside its arrows
unfoldable pub sizes_good : Board → Bool
sizes_good b = sizes_formed (on_arrow (puzzle_of b.problem).arrows) b.lowest b.highest

-- a board that some list of calls on some record's board leaves
unfoldable pub well_formed : Board → Bool
well_formed b =
    (problem_formed b.problem && (long b.cells && long b.order && counts_formed b.hints && is_edition b.edition && sizes_good b))
    && (ordered (size (grid_of b.problem)) b.decided b.order
    && stated (size (grid_of b.problem)) (take b.decided b.order) b.cells)
