-- Laws of holding the groups of a board, and the reach and the fence of a block, against what a list says of them.
-- Assumes nothing.
use Prim.Native.Nat.{ℕ, ◌≤◌, ◌<◌}
use native.Mathlib.Omega.{arith}
use mathlib.Core.Bool.{Bool, false}
use mathlib.Core.Path.{◌≡◌, refl, sym, ap, subst, ◌∙◌}
use mathlib.Core.List.{List, ◌++◌, map}
use lib.ListN.{length, get_or, take, drop, replicate, take-append-drop}
use lib.Seq.{ext_get_or, get_or-take, length-take-le}
use Rattle.grid.specs.Lists.{upto}
use Rattle.grid.specs.Grid.{Grid, size}
use Rattle.grid.specs.Cells.{word}
use Rattle.grid.proofs.ListLaws.{length-map-upto, map-upto_at}
use Rattle.groups.specs.Arrays.{label_array, tally_of, Counted, GroupTable}
use Rattle.kinds.specs.Kinds.{View, reach, fence}
use Rattle.kinds.specs.Arrays.{reach_mask}
use Rattle.reach.specs.Inside.{Reach}
use Rattle.fence.specs.Inside.{Fenced}
use Rattle.replay.specs.Lists.{number_at}
use Rattle.replay.specs.Comparisons.{DiffersUnless}
use Rattle.replay.proofs.ComparisonLaws.{then_differs}
use Rattle.groups_replay.specs.Blocks.{ReachSo, FenceSo, left, BlockSo, fence_at, GroupsSo}

-- the counts of the first n cells
pub counts_taken : (g : Grid) (p t : ℕ → Bool) (n : ℕ) {counts : List ℕ} → n ≤ size g → n ≤ 1024 → Counted g p t counts → take n counts ≡ map (tally_of g p t) (upto n)
counts_taken g p t n {counts} on fits C =
    ext_get_or 0 (take n counts) (map (tally_of g p t) (upto n)) (long ∙ sym (length-map-upto (tally_of g p t) n)) (λ f l. at f (omega (arith, l, long)))
  where
    long : length (take n counts) ≡ n
    long = length-take-le n counts (omega (arith, C.long))

    at : (f : ℕ) → f < n → get_or (take n counts) f 0 ≡ get_or (map (tally_of g p t) (upto n)) f 0
    at f h = get_or-take n counts f 0 h ∙ C.at f (omega arith) ∙ sym (map-upto_at (tally_of g p t) n f 0 h)

-- a comparison with the groups that were computed
pub groups_told : (g : Grid) (p sq arrow : ℕ → Bool) (list : List ℕ) (at n : ℕ) {names firsts squares arrowed : List ℕ} {count : ℕ} → n ≤ size g → n ≤ 1024 → GroupTable g p sq arrow names firsts squares arrowed count
    → (t : Bool) → DiffersUnless t (GroupsSo list at n names (take n squares) (take n arrowed))
    → DiffersUnless t (GroupsSo list at n (label_array g p) (map (tally_of g p sq) (upto n)) (map (tally_of g p arrow) (upto n)))
groups_told g p sq arrow list at n on fits T t d = rw (← T.groups_are, ← (counts_taken g p sq n on fits T.squares_are), ← (counts_taken g p arrow n on fits T.arrowed_are)) d

module _ (v : View) (f : ℕ) (list : List ℕ) where
  -- a comparison with the reach that was computed
  pub Reach-told : (at n m : ℕ) → n ≡ m → (near marks : List ℕ) (size : ℕ) → Reach v f near marks size → (t : Bool) → DiffersUnless t (ReachSo list at n size marks) → DiffersUnless t (ReachSo list at m (length (reach v f)) (reach_mask v f))
  Reach-told at n m e near marks size r t d = subst (λ (k : ℕ). DiffersUnless t (ReachSo list at k (length (reach v f)) (reach_mask v f))) e (rw (← r.number, ← r.marked) d)

  -- the buffer that a fence was written to
  fence_left : (fresh after : List ℕ) (size : ℕ) → fresh ≡ replicate 4096 65535 → Fenced v f fresh after size → after ≡ left v f
  unfolding left
  fence_left fresh after size e w =
      sym (take-append-drop size after)
      ∙ rw (w.list, w.rest) (ap (λ (l : List ℕ). map word (fence v f) ++ drop size l) e ∙ ap (λ (k : ℕ). map word (fence v f) ++ drop k (replicate 4096 65535)) w.number)

  -- a comparison with the fence that was computed
  pub fence_told : (at count : ℕ) (fresh after : List ℕ) (size : ℕ) → fresh ≡ replicate 4096 65535 → Fenced v f fresh after size → (t : Bool) → DiffersUnless t (FenceSo list at count size after) → DiffersUnless t (FenceSo list at count (length (fence v f)) (left v f))
  fence_told at count fresh after size e w t d = rw (← w.number, ← (fence_left fresh after size e w)) d

  -- a comparison with both, the fence behind a reach that does not differ
  pub Block-told : (at n m count : ℕ) → n ≡ m → count ≡ number_at list (fence_at at n) → {near marks fresh after : List ℕ} {size written : ℕ} → Reach v f near marks size → fresh ≡ replicate 4096 65535 → Fenced v f fresh after written
      → (t u : Bool) → DiffersUnless t (ReachSo list at n size marks) → t ≡ false → DiffersUnless u (FenceSo list (fence_at at n) count written after)
      → DiffersUnless u (BlockSo v f list at m (fence_at at m) (number_at list (fence_at at m)))
  Block-told at n m count e q {near} {marks} {fresh} {after} {size} {written} r fr w t u d z g =
      rw (← e, ← q) (then_differs ((Reach-told at n n refl near marks size r t d).0 z) u (fence_told (fence_at at n) count fresh after written fr w u g))
