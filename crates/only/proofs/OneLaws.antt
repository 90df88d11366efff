-- A certificate that is good for a leaf: every finished board of the leaf is the claimed solution.
-- Assumes nothing.
use Prim.Native.Nat.{ℕ, ◌+◌, ◌-◌, ◌/◌, ◌%◌, ◌<◌, ◌≤◌}
use native.Mathlib.Omega.{arith}
use native.Mathlib.Nat.{mod-lt}
use native.Mathlib.Decide.{ℕ_discrete}
use mathlib.Core.Path.{◌≡◌, sym, ◌∙◌, ap}
use mathlib.Core.Bool.{true}
use mathlib.Core.List.{List, Memᴰ}
use lib.Dec.{eqb, leb}
use lib.ListN.{length, get_or, take, drop}
use lib.Seq.{ext_get_or}
use borrow.Author.Tests.{leb-true}
use Rattle.grid.specs.Grid.{size}
use Rattle.grid.proofs.ListLaws.{and-true}
use Rattle.record.specs.Leaf.{Leaf}
use Rattle.record.proofs.LeafLaws.{ValidLeaf}
use Rattle.record.proofs.RecordLaws.{Valid-size}
use Rattle.finished.specs.Finished.{Finished}
use Rattle.certificate.specs.Certificate.{words_of, whole_words, tag, cell_of, value_of, width, clause_at, claimed}
use Rattle.certificate.proofs.Words.{words_length}
use Rattle.unique.specs.Unique.{OnlySolution}
use Rattle.unique.proofs.HeadLaws.{Head, Head-is, claimed_long, claimed_at}
use Rattle.only.specs.Good.{Closes, Good}
use Rattle.only.proofs.Under.{TrueOn}
use Rattle.only.proofs.Steps.{Verified, part_mem, low, Closes-never}

-- ---- a leaf

module _ (l : Leaf) (valid : ValidLeaf l) (ws : List ℕ) where
  abbrev n : ℕ
  n = size l.puzzle.grid

  module _ (q : Head n ws) (full : List ℕ) (fin : Finished l full) where
    -- a finished board that differs at a cell: the first clause holds there
    differs : (i : ℕ) → i < n → (get_or full i 0 ≡ get_or (claimed n ws) i 0 → ⊥) → TrueOn full (clause_at ws 0)
    differs i h ne = record { word = get_or ws (i + 1) 0; member = member; true_there = there }
      where
        wide : width ws 0 ≡ n
        wide = omega (arith, q.first)

        member : Memᴰ (get_or ws (i + 1) 0) (take (width ws 0) (drop 1 ws))
        member = rw wide (turned (part_mem ws 1 n i h (omega (arith, q.room))))
          where
            turned : Memᴰ (get_or ws (1 + i) 0) (take n (drop 1 ws)) → Memᴰ (get_or ws (i + 1) 0) (take n (drop 1 ws))
            turned m = let e : 1 + i ≡ i + 1 = omega arith in rw e at m

        cell : cell_of (get_or ws (i + 1) 0) ≡ i
        cell = omega (arith, q.cell i h, Valid-size valid.puzzle)

        there : get_or full (cell_of (get_or ws (i + 1) 0)) 0 ≡ value_of (get_or ws (i + 1) 0)
        there = rw cell (go (get_or full i 0) (get_or (claimed n ws) i 0) (value_of (get_or ws (i + 1) 0)) (low l valid full fin i) (claimed_at n ws i h) (mod-lt (get_or ws (i + 1) 0 / 32768) {m = 2} (omega arith)) ne)
          where
            go : (a b v : ℕ) → a ≤ 1 → b ≡ 1 - v → v < 2 → (a ≡ b → ⊥) → a ≡ v
            go a b v h e k n = omega arith

    -- and it is the only step before the second
    started : TrueOn full (clause_at ws 0) → Verified l valid full fin ws (n + 2)
    started first h lt t = go (ℕ_discrete h 0) (ℕ_discrete h (n + 1))
      where
        go : Dec (h ≡ 0) → Dec (h ≡ n + 1) → TrueOn full (clause_at ws h)
        go (yes e) d = rw e first
        go (no a) (yes e) = absurd (omega (arith, ap (λ i. get_or ws i 0) e, q.none_hinted))
        go (no a) (no b) =
            let e : h - 1 + 1 ≡ h = omega arith in
            absurd (omega (arith, ap (λ i. get_or ws i 0) e, q.literal (h - 1) (omega arith)))

    -- so no finished board differs where the steps close
    same : length ws ≤ tag → Closes l ws (n + 2) → full ≡ claimed n ws
    same most steps = ext_get_or 0 full (claimed n ws) (fin.decided.long ∙ sym (claimed_long n ws)) (λ i h. each i (omega (arith, fin.decided.long)) (ℕ_discrete (get_or full i 0) (get_or (claimed n ws) i 0)))
      where
        each : (i : ℕ) → i < n → Dec (get_or full i 0 ≡ get_or (claimed n ws) i 0) → get_or full i 0 ≡ get_or (claimed n ws) i 0
        each i h (yes e) = e
        each i h (no ne) = absurd (Closes-never l valid full fin ws most steps (started (differs i h ne)))

-- ---- a certificate

-- whole words are few
words_few : (c : List ℕ) → whole_words c ≡ true → length (words_of c) ≤ tag
unfolding whole_words
words_few c t =
    let a = and-true (eqb (length c % 3) 0) (leb (length c / 3) tag) t in
    omega (arith, words_length c, leb-true (length c / 3) tag a.1)

-- the claimed solution of a good one is the leaf's only solution
pub Good-only : (l : Leaf) → ValidLeaf l → (c : List ℕ) → Good l c → OnlySolution l (claimed (size l.puzzle.grid) (words_of c))
Good-only l valid c g = record {
  finished = g.finished;
  only = λ full fin. same l valid (words_of c) (Head-is (size l.puzzle.grid) (words_of c) g.head) full fin (words_few c g.whole) g.steps;
}
