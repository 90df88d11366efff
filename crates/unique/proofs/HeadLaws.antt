-- Words that start with the step of a claimed solution: what that step has, and the solution.
-- Assumes nothing.
use Prim.Native.Nat.{ℕ, ◌+◌, ◌-◌, ◌%◌, ◌<◌, ◌≤◌}
use mathlib.Core.Path.{◌≡◌}
use mathlib.Core.Bool.{true, ◌&&◌}
use mathlib.Core.List.{List}
use lib.Dec.{eqb, ltb, leb}
use lib.ListN.{length, get_or}
use borrow.Author.Tests.{eqb-true, ltb-true, leb-true}
use Rattle.grid.specs.Lists.{all, upto}
use Rattle.grid.proofs.ListLaws.{and-true, all-mem, mem-upto, length-map-upto, map-upto_at}
use Rattle.certificate.specs.Certificate.{tag, value_of, head_word, head_at, claimed, headed}

-- what the first step has
pub record Head (n : ℕ) (ws : List ℕ) : Type 0 where
  pub room : n + 2 ≤ length ws
  pub first : get_or ws 0 0 ≡ tag + n
  pub none_hinted : get_or ws (n + 1) 0 ≡ 0
  pub literal : (i : ℕ) → i < n → get_or ws (i + 1) 0 < 65536
  pub cell : (i : ℕ) → i < n → get_or ws (i + 1) 0 % 32768 ≡ i

module _ (n : ℕ) (ws : List ℕ) where
  pub Head-is : headed n ws ≡ true → Head n ws
  unfolding headed
  Head-is t =
      let r = and-true (leb (n + 2) (length ws)) (eqb (get_or ws 0 0) (tag + n) && (eqb (get_or ws (n + 1) 0) 0 && all (head_at ws) (upto n))) t in
      let s = and-true (eqb (get_or ws 0 0) (tag + n)) (eqb (get_or ws (n + 1) 0) 0 && all (head_at ws) (upto n)) r.1 in
      let q = and-true (eqb (get_or ws (n + 1) 0) 0) (all (head_at ws) (upto n)) s.1 in
      record {
        room = leb-true (n + 2) (length ws) r.0;
        first = eqb-true (get_or ws 0 0) (tag + n) s.0;
        none_hinted = eqb-true (get_or ws (n + 1) 0) 0 q.0;
        literal = λ i l. ltb-true (get_or ws (i + 1) 0) 65536 (at i l q.1).0;
        cell = λ i l. eqb-true (get_or ws (i + 1) 0 % 32768) i (at i l q.1).1;
      }
    where
      at : (i : ℕ) → i < n → all (head_at ws) (upto n) ≡ true → (ltb (get_or ws (i + 1) 0) 65536 ≡ true) × (eqb (get_or ws (i + 1) 0 % 32768) i ≡ true)
      at i l h = and-true (ltb (get_or ws (i + 1) 0) 65536) (eqb (get_or ws (i + 1) 0 % 32768) i) (unfold head_at head_word in all-mem (head_at ws) (upto n) h i (mem-upto n l))

  -- the claimed solution, cell by cell
  pub claimed_long : length (claimed n ws) ≡ n
  unfolding claimed
  claimed_long = length-map-upto (λ i. 1 - value_of (get_or ws (i + 1) 0)) n

  pub claimed_at : (i : ℕ) → i < n → get_or (claimed n ws) i 0 ≡ 1 - value_of (get_or ws (i + 1) 0)
  unfolding claimed
  claimed_at i l = map-upto_at (λ i. 1 - value_of (get_or ws (i + 1) 0)) n i 0 l
