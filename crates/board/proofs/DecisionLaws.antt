-- The test of a board's decisions, taken part by part: what is right for a cell, and a law for each way out of the code.
-- Assumes nothing.
use Prim.Native.Nat.{ℕ, ◌≤◌, ◌<◌}
use mathlib.Core.Path.{◌≡◌, refl}
use mathlib.Core.Bool.{Bool, true, false, cond, ◌&&◌, and-false}
use mathlib.Core.List.{List, []}
use lib.Dec.{eqb, leb}
use lib.ListN.{get_or, take}
use borrow.Author.Tests.{lt-leb, le-leb}
use Rattle.grid.specs.Lists.{all, member, upto}
use Rattle.grid.specs.Marks.{Marks}
use Rattle.form.specs.Form.{behind, fresh, shown, stated, ordered}

-- what is right for a cell by its mark is right by the list that is marked
pub right_shown : {marks : List ℕ} (listed cells : List ℕ) → Marks marks (λ i. member i listed) → (i : ℕ) → i < 1024
    → cond (eqb (get_or marks i 0) 0) (eqb (get_or cells i 0) 2) (leb (get_or cells i 0) 1) ≡ shown listed cells i
unfolding shown
right_shown listed cells m i h = rw (m.at i h) (go (member i listed))
  where
    go : (t : Bool) → cond (eqb (cond t 1 0) 0) (eqb (get_or cells i 0) 2) (leb (get_or cells i 0) 1) ≡ cond t (leb (get_or cells i 0) 1) (eqb (get_or cells i 0) 2)
    go true = refl
    go false = refl

module _ (n count : ℕ) (order cells : List ℕ) where
  -- the tests of the decisions together
  abbrev pub decisions_formed : Bool
  decisions_formed = ordered n count order && stated n (take count order) cells

  pub decisions_many : 1024 < count → false ≡ decisions_formed
  unfolding ordered
  decisions_many e = simp (lt-leb count 1024 e)

  pub decisions_twice : fresh n [] (take count order) ≡ false → false ≡ decisions_formed
  unfolding ordered
  decisions_twice e = simp (e, and-false)

  pub decisions_zeros : false ≡ behind 0 count order → false ≡ decisions_formed
  unfolding ordered
  decisions_zeros e = simp (← e, and-false)

  pub decisions_shown : false ≡ all (shown (take count order) cells) (upto n) → false ≡ decisions_formed
  unfolding stated
  decisions_shown e = simp (← e, and-false)

  pub decisions_are : count ≤ 1024 → fresh n [] (take count order) ≡ true → true ≡ behind 0 count order → true ≡ all (shown (take count order) cells) (upto n) → behind 2 n cells ≡ decisions_formed
  unfolding ordered stated
  decisions_are few f z s = simp (le-leb count 1024 few, f, ← z, ← s)

-- for the test of a board's decisions, a law for each way out
pub ruleset decision_tests = (decisions_many, decisions_twice, decisions_zeros, decisions_shown, decisions_are)
