-- On the arrays of an accepted record and the states of its cells: whether the board is finished follows from its codes, its arrows and the first reason.
-- Assumes nothing.
use Prim.Native.Nat.{ℕ, ◌*◌, ◌≤◌, ◌<◌}
use native.Mathlib.Omega.{arith}
use native.Mathlib.Decide.{dec_lt}
use mathlib.Core.Path.{◌≡◌, refl, sym, ◌∙◌}
use mathlib.Core.Bool.{Bool, true, false, ◌&&◌}
use mathlib.Core.Logic.{◌↔◌}
use mathlib.Core.List.{List, [], ◌∷◌, Memᴰ}
use mathlib.Core.Option.{none, some}
use lib.ListN.{length, get_or, take, get_or-eq_default}
use lib.Seq.{get_or-take, length-take-le}
use borrow.Author.Tests.{eqb-true}
use Rattle.grid.specs.Lists.{upto, all, filter}
use Rattle.grid.specs.Grid.{size}
use Rattle.grid.specs.Cells.{square, undecided}
use Rattle.grid.proofs.ListLaws.{and-true, all-mem, mem-upto, upto-mem, So-false}
use Rattle.grid.proofs.AppendLaws.{all_agree, filter_agree}
use Rattle.grid.proofs.CellLaws.{square_taken}
use Rattle.grid.proofs.GridLaws.{size_most}
use Rattle.record.specs.Leaf.{Range, Leaf, leaf_with}
use Rattle.record.specs.Sizes.{GoodSizes}
use Rattle.record.specs.Problem.{puzzle_of, grid_of}
use Rattle.record.specs.declared.Problem.{Problem}
use Rattle.record.proofs.LineLaws.{valid_arrows}
use Rattle.form.proofs.ProblemForm.{Formed, formed_Valid}
use Rattle.board.specs.Form.{well_formed}
use Rattle.board.specs.Kept.{sizes_on}
use Rattle.board.specs.declared.Board.{Board}
use Rattle.board.proofs.BoardForm.{Whole-is}
use Rattle.groups.specs.Arrays.{lines_of}
use Rattle.groups.specs.Rules.{BlockRules, rules_test}
use Rattle.groups.proofs.RulesLaws.{rules_test_lem, test_rules}
use Rattle.kinds.specs.Meaning.{Setting}
use Rattle.literals.specs.Literals.{Found}
use Rattle.literals.specs.Inside.{count_of, FoundAs}
use Rattle.std.specs.Prelude.{Option, None, is_none}
use Rattle.reasons.specs.Reasons.{find_reason}
use Rattle.reasons.specs.Find.{leaf_on, cells_on}
use Rattle.board.proofs.BoardArrays.{problem_arrays}
use Rattle.reasons.proofs.Sound.{complete}
use Rattle.finished.specs.Finished.{Finished, keeps, keeps_all, two_squares, all_but_rules, finished_test}
use Rattle.refusal.specs.Refusals.{ok, refused}
use Rattle.finished.specs.Verdicts.{verdict, judged_as, finished_of}
use Rattle.finished.specs.Verdicts as verdicts
use Rattle.finished.proofs.FinishedLaws.{kept, Finished-means}

module _ (q : Problem) (f : Formed q) where
  -- the grid has few cells
  pub few : q.height * q.width ≤ 1024
  unfolding size grid_of
  few = size_most (grid_of q) f.sizes.high.0 f.sizes.high.1

  module _ (edition : ℕ) (sizes : List Range) (states : List ℕ) (room : length states ≡ 1024) where
    -- what the rules read
    abbrev leaf : Leaf
    leaf = leaf_with edition sizes (puzzle_of q)

    -- the states of the cells of the grid
    abbrev cells : List ℕ
    cells = take (q.height * q.width) states

    long : length cells ≡ size (puzzle_of q).grid
    unfolding size grid_of puzzle_of
    long = length-take-le (q.height * q.width) states (omega (arith, few))

    -- the arrays keep the codes and the states of the board's cells
    kept_same : keeps_all (q.height * q.width) q.cells states ≡ keeps_all (size (puzzle_of q).grid) (puzzle_of q).given cells
    unfolding keeps_all puzzle_of grid_of size
    kept_same =
        all_agree
        (λ i. keeps (get_or q.cells i 0) (get_or states i 0))
        (λ i. keeps (get_or (take (q.height * q.width) q.cells) i 0) (get_or cells i 0))
        (upto (q.height * q.width))
        (λ i m. let l = upto-mem (q.height * q.width) m in
        rw (get_or-take (q.height * q.width) q.cells i 0 l, get_or-take (q.height * q.width) states i 0 l) refl)

    -- and the squares of its arrows
    two_same : (l : List (List ℕ)) → ((a : List ℕ) → Memᴰ a l → (i : ℕ) → Memᴰ i a → i < q.height * q.width) → all (two_squares states) l ≡ all (two_squares cells) l
    unfolding two_squares
    two_same [] h = refl
    two_same (a ∷ l) h =
        let e : filter (square states) a ≡ filter (square cells) a =
        filter_agree (square states) (square cells) a (λ i m. sym (square_taken states (q.height * q.width) i (h a (Memᴰ.head refl) i m))) in
        rw (e, two_same l (λ b m. h b (Memᴰ.tail m))) refl

    -- all but the block rules, by the arrays
    abbrev on_arrays : Bool
    on_arrays = keeps_all (q.height * q.width) q.cells states && all (two_squares states) (lines_of q.arrows q.ends q.count)

    but_rules : on_arrays ≡ all_but_rules (puzzle_of q) cells
    unfolding all_but_rules puzzle_of
    but_rules = rw (kept_same, two_same (lines_of q.arrows q.ends q.count) (problem_arrays q f).drawn.inside) refl

    -- something else than the block rules fails
    pub fails_before : on_arrays ≡ false → false ≡ finished_test leaf cells
    unfolding finished_test
    fails_before k = rw (sym but_rules ∙ k) refl

    -- all but the block rules holds
    module _ (good : GoodSizes (puzzle_of q) sizes) (k : on_arrays ≡ true) where
      each : (i : ℕ) → get_or cells i 0 ≤ 1
      each i = go (dec_lt i (size (puzzle_of q).grid))
        where
          all_kept : keeps_all (size (puzzle_of q).grid) (puzzle_of q).given cells ≡ true
          all_kept = sym kept_same ∙ (and-true (keeps_all (q.height * q.width) q.cells states) (all (two_squares states) (lines_of q.arrows q.ends q.count)) k).0

          go : Dec (i < size (puzzle_of q).grid) → get_or cells i 0 ≤ 1
          go (yes l) =
              (kept (get_or (puzzle_of q).given i 0) (get_or cells i 0)
              (all-mem (λ j. keeps (get_or (puzzle_of q).given j 0) (get_or cells j 0)) (upto (size (puzzle_of q).grid)) (unfold keeps_all in all_kept) i (mem-upto (size (puzzle_of q).grid) l))).decided
          go (no l) = rw (get_or-eq_default cells 0 {n = i} (omega (arith, long))) (omega arith)

      setting : Setting
      setting = record {
        puzzle = puzzle_of q;
        lines = valid_arrows (puzzle_of q) (formed_Valid q f);
        cells = cells;
        valid = record { long = long; three = λ i. omega (arith, each i) };
      }

      -- there is no reason exactly when the block rules hold
      rules : (find_reason leaf cells ≡ none) ↔ BlockRules leaf cells
      unfolding undecided setting
      rules = complete edition sizes setting good (λ c u. omega (arith, eqb-true (get_or cells c 0) 2 u, each c))

      -- the verdict is that of the block rules
      by_rules : (t : Bool) → rules_test leaf cells ≡ t → t ≡ finished_test leaf cells
      unfolding finished_test
      by_rules t r = rw (sym but_rules ∙ k, r) refl

      by_reason : (r : Found) → find_reason leaf cells ≡ r → is_none (count_of r) ≡ finished_test leaf cells
      unfolding count_of
      by_reason none e = by_rules true (rules_test_lem (puzzle_of q) cells long edition sizes (rules.0 e))
      by_reason (some r) e = by_rules false (So-false (rules_test leaf cells) (λ t. clash (rules.1 (test_rules (puzzle_of q) cells long edition sizes t))))
        where
          clash : find_reason leaf cells ≡ none → ⊥
          clash n = let z : ◌≡◌ {A = ℕ} 0 1 = cc in omega arith

      -- what the search for it tells
      pub reason_tells : {before after : List ℕ} {r : Option ℕ} → FoundAs (find_reason leaf cells) before after r → is_none r ≡ finished_test leaf cells
      reason_tells x = rw x.answer (by_reason (find_reason leaf cells) refl)

      pub no_reason : {before after : List ℕ} → FoundAs (find_reason leaf cells) before after None → true ≡ finished_test leaf cells
      no_reason x = reason_tells x

-- ---- of a board

-- 6
pub finished_ill : (b : Board) → well_formed b ≡ false → refused 6 ≡ judged_as (finished_of b)
unfolding finished_of
finished_ill b h = rw h refl

-- what the test of the leaf that it lends says
pub finished_told : (b : Board) {lent : Leaf} {q : Problem} → well_formed b ≡ true → lent ≡ leaf_on b → q ≡ b.problem
    → (t : Bool) → t ≡ finished_test lent (take (q.height * q.width) b.cells) → ok t ≡ judged_as (finished_of b)
unfolding finished_of verdict cells_on grid_of size
finished_told b h l s t e = rw (h, ← rw (l, s) at e) (go t)
  where
    go : (u : Bool) → ok u ≡ judged_as (verdict u)
    go true = refl
    go false = refl

-- `finished` says yes of a well-formed board exactly when it is finished
pub Finished-exact : (b : Board) → well_formed b ≡ true → (finished_of b ≡ verdicts.Yes) ↔ Finished (leaf_on b) (cells_on b)
unfolding finished_of leaf_on
Finished-exact b h =
    let m = Finished-means (leaf_on b) (formed_Valid b.problem (Whole-is b h).problem) (cells_on b) (unfold cells_on grid_of size in long b.problem (Whole-is b h).problem b.edition (sizes_on b) b.cells (Whole-is b h).cells_long) in
    (λ e. m.0 (yes_passes (finished_test (leaf_on b) (cells_on b)) (rw h at e)), λ f. rw (h, m.1 f) (unfold verdict in refl))
  where
    yes_passes : (t : Bool) → verdict t ≡ verdicts.Yes → t ≡ true
    yes_passes true e = refl
    yes_passes false e = let z : ◌≡◌ {A = ℕ} 0 1 = cc (no_yes e) in absurd (omega arith)
      where
        no_yes : verdict false ≡ verdicts.Yes → verdicts.No ≡ verdicts.Yes
        no_yes e = unfold verdict in e
