-- The test of a finished board passes exactly where the board is finished.
-- Assumes nothing.
use Prim.Native.Nat.{ℕ, ◌≤◌, ◌<◌}
use native.Mathlib.Omega.{arith}
use native.Mathlib.Decide.{ℕ_discrete}
use mathlib.Core.Logic.{◌↔◌}
use mathlib.Core.Path.{◌≡◌, refl, sym, ◌∙◌}
use mathlib.Core.Bool.{Bool, true, So, cond, ◌&&◌}
use mathlib.Core.List.Memᴰ
use mathlib.Core.List.{List, [], ◌∷◌, Memᴰ}
use lib.Dec.{eqb, ltb}
use lib.ListN.{length, get_or}
use borrow.Author.Tests.{eqb-true, eq-eqb, ne_eqb, leb-true, le-leb, ltb-true, lt-ltb}
use Rattle.std.proofs.lemmas.Bool.{and_from}
use Rattle.grid.specs.Lists.{upto, all, filter, Distinct}
use Rattle.grid.specs.Grid.{size}
use Rattle.grid.specs.Cells.{square}
use Rattle.grid.proofs.ListLaws.{and-true, all-mem, mem-all, upto-mem, mem-upto, filter-mem, mem-filter, Distinct-filter}
use Rattle.record.specs.Leaf.{Leaf}
use Rattle.record.specs.Valid.{Valid}
use Rattle.record.proofs.FreshLaws.{arrow_Distinct}
use Rattle.groups.specs.Rules.{rules_test}
use Rattle.groups.proofs.RulesLaws.{rules_test_lem, test_rules}
use Rattle.finished.specs.Finished.{Finished, TwoSquares, keeps, keeps_all, two_squares, all_but_rules, finished_test}

-- ---- one cell

-- what the test says of one cell with the code c and the state v
pub record Kept (c v : ℕ) : Type 0 where
  pub decided : v ≤ 1
  pub black : c ≡ 1 → v ≡ 0
  pub given : c ≡ 2 → v ≡ 1

module _ (c v : ℕ) where
  pub kept : So (keeps c v) → Kept c v
  unfolding keeps
  kept t = go (ℕ_discrete c 1) (ℕ_discrete c 2)
    where
      go : Dec (c ≡ 1) → Dec (c ≡ 2) → Kept c v
      go (yes e) _ =
          let z = eqb-true v 0 (rw (eq-eqb c 1 e) at t) in
          record { decided = omega arith; black = λ _. z; given = λ q. absurd (omega arith) }
      go (no n) (yes e) =
          let z = eqb-true v 1 (rw (ne_eqb c 1 n, eq-eqb c 2 e) at t) in
          record { decided = omega arith; black = λ q. absurd (n q); given = λ _. z }
      go (no n) (no m) =
          let z = ltb-true v 2 (rw (ne_eqb c 1 n, ne_eqb c 2 m) at t) in
          record { decided = omega arith; black = λ q. absurd (n q); given = λ q. absurd (m q) }

  keep : Kept c v → So (keeps c v)
  unfolding keeps
  keep k = go (ℕ_discrete c 1) (ℕ_discrete c 2)
    where
      go : Dec (c ≡ 1) → Dec (c ≡ 2) → So (cond (eqb c 1) (eqb v 0) (cond (eqb c 2) (eqb v 1) (ltb v 2)))
      go (yes e) _ = rw (eq-eqb c 1 e) (eq-eqb v 0 (k.black e))
      go (no n) (yes e) = rw (ne_eqb c 1 n, eq-eqb c 2 e) (eq-eqb v 1 (k.given e))
      go (no n) (no m) = rw (ne_eqb c 1 n, ne_eqb c 2 m) (lt-ltb v 2 (omega (arith, k.decided)))

-- ---- one arrow

two_of : (l : List ℕ) → Distinct l → 2 ≤ length l → (x : ℕ) × (y : ℕ) × Memᴰ x l × Memᴰ y l × (¬ (x ≡ y))
two_of [] d h = absurd (omega arith)
two_of (x ∷ []) d h = absurd (omega arith)
two_of (x ∷ y ∷ l) d h = (x, y, Memᴰ.head refl, Memᴰ.tail (Memᴰ.head refl), λ e. d.0 (Memᴰ.head e))

of_two : (l : List ℕ) {x y : ℕ} → Memᴰ x l → Memᴰ y l → ¬ (x ≡ y) → 2 ≤ length l
of_two [] m k n = absurd (Memᴰ.not-nil m)
of_two (z ∷ []) (Memᴰ.head e) (Memᴰ.head d) n = absurd (n (e ∙ sym d))
of_two (z ∷ []) (Memᴰ.head e) (Memᴰ.tail k) n = absurd (Memᴰ.not-nil k)
of_two (z ∷ []) (Memᴰ.tail m) k n = absurd (Memᴰ.not-nil m)
of_two (z ∷ w ∷ l) m k n = omega arith

module _ (cells a : List ℕ) where
  -- of an arrow that has no cell twice
  pub test_two : Distinct a → So (two_squares cells a) → TwoSquares cells a
  unfolding two_squares
  test_two d t =
      let s = filter (square cells) a in
      let r = two_of s (Distinct-filter (square cells) a d) (leb-true 2 (length s) t) in
      let x = filter-mem (square cells) a r.2 in
      let y = filter-mem (square cells) a r.3 in
      record { first = r.0; second = r.1; on = (x.0, y.0); squares = (x.1, y.1); apart = r.4 }

  pub two_test : TwoSquares cells a → So (two_squares cells a)
  unfolding two_squares
  two_test w =
      le-leb 2 (length (filter (square cells) a))
      (of_two (filter (square cells) a) (mem-filter (square cells) a w.on.0 w.squares.0) (mem-filter (square cells) a w.on.1 w.squares.1) w.apart)

-- ---- the board

-- of the cells of an accepted record's board, one state for each cell of the grid
module _ (l : Leaf) (v : Valid l.puzzle) (cells : List ℕ) (long : length cells ≡ size l.puzzle.grid) where
  at : ℕ → Bool
  at i = keeps (get_or l.puzzle.given i 0) (get_or cells i 0)

  test_Finished : finished_test l cells ≡ true → Finished l cells
  unfolding finished_test all_but_rules keeps_all at
  test_Finished t =
      let s = and-true (all at (upto (size l.puzzle.grid)) && all (two_squares cells) l.puzzle.arrows) (rules_test l cells) t in
      let r = and-true (all at (upto (size l.puzzle.grid))) (all (two_squares cells) l.puzzle.arrows) s.0 in
      let k : (i : ℕ) → i < size l.puzzle.grid → Kept (get_or l.puzzle.given i 0) (get_or cells i 0) =
      λ i h. kept (get_or l.puzzle.given i 0) (get_or cells i 0) (all-mem at (upto (size l.puzzle.grid)) r.0 i (mem-upto (size l.puzzle.grid) h)) in
      record {
        decided = record { long = long; each = λ i h. (k i h).decided };
        kept = record { black = λ i h. (k i h).black; given = λ i h. (k i h).given };
        rules = test_rules l.puzzle cells long l.edition l.sizes s.1;
        two = λ a m. test_two cells a (arrow_Distinct v.arrows a m) (all-mem (two_squares cells) l.puzzle.arrows r.1 a m);
      }

  finished_test_lem : Finished l cells → finished_test l cells ≡ true
  unfolding finished_test all_but_rules keeps_all at
  finished_test_lem f =
      and_from _ _
      (and_from _ _ (mem-all at (upto (size l.puzzle.grid)) each) (mem-all (two_squares cells) l.puzzle.arrows (λ a m. two_test cells a (f.two a m))))
      (rules_test_lem l.puzzle cells long l.edition l.sizes f.rules)
    where
      each : (i : ℕ) → Memᴰ i (upto (size l.puzzle.grid)) → So (keeps (get_or l.puzzle.given i 0) (get_or cells i 0))
      each i m =
          let h = upto-mem (size l.puzzle.grid) m in
          keep (get_or l.puzzle.given i 0) (get_or cells i 0) (record { decided = f.decided.each i h; black = f.kept.black i h; given = f.kept.given i h })

  -- the test passes exactly where the board is finished
  pub Finished-means : (finished_test l cells ≡ true) ↔ Finished l cells
  Finished-means = (test_Finished, finished_test_lem)
