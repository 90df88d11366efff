-- A walk along the chain of an owner: the cells passed, and the next one.
-- Assumes nothing.
use Prim.Native.Nat.{ℕ, ◌+◌, ◌-◌, ◌≤◌, ◌<◌}
use native.Mathlib.Omega.{arith}
use native.Mathlib.Decide.{dec_lt}
use mathlib.Core.Path.{◌≡◌, sym, ap, ◌∙◌}
use mathlib.Core.List.{List, [], ◌∷◌, ◌++◌, Memᴰ}
use lib.Dec.{eqb}
use lib.ListN.{length, get_or}
use borrow.Author.Tests.{eq-eqb}
use Rattle.grid.specs.Lists.{upto}
use Rattle.grid.proofs.ListLaws.{filter-length, length-range, mem-filter, mem-upto}
use Rattle.reach.specs.Chains.{owned_by, cells_from, first_from, Chains}
use Rattle.reach.proofs.ChainLaws.{cells_up_to, first_low, first_in, first_owned, passed_none, passed_first, passed_rest, passed_all, chain_head, chain_next}

-- i is the next cell of the chain of f, 1024 or more at its end, and `passed` are the cells before it
pub record Walk (owners : List ℕ) (n f : ℕ) (passed : List ℕ) (i : ℕ) : Type 0 where
  pub from : ℕ
  pub low : from ≤ n
  pub next : i ≡ first_from owners n f from
  pub before : passed ≡ cells_up_to owners f from

module _ {owners head next : List ℕ} {n : ℕ} (C : Chains owners head next n) (f : ℕ) (small : f < 1024) where
  -- it starts at head
  pub Walk-start : Walk owners n f [] (get_or head f 0)
  Walk-start = record { from = 0; low = omega arith; next = chain_head C f small; before = sym (passed_none owners f) }

  module _ {passed : List ℕ} {i : ℕ} (W : Walk owners n f passed i) where
    -- as many cells as there are indices below it, at most
    pub walk_few : i < 1024 → length passed ≤ i
    unfolding cells_up_to upto
    walk_few h = omega (arith, ap length W.before, filter-length (owned_by owners f) (upto W.from), length-range 0 W.from, first_low owners n f W.from i W.next h)

    pub walk_in : i < 1024 → i < n
    walk_in h = first_in owners n f W.from i W.next h

    -- it is one of the chain's cells
    pub walk_mem : i < 1024 → Memᴰ i (cells_from owners n f 0)
    unfolding cells_from owned_by upto
    walk_mem h =
        let z : n - 0 ≡ n = omega arith in
        rw z (mem-filter (λ j. eqb (get_or owners j 0) f) (upto n) (mem-upto n (walk_in h)) (eq-eqb (get_or owners i 0) f (first_owned owners n f W.from i W.next h)))

    -- it goes on by next
    pub Walk-more : i < 1024 → Walk owners n f (passed ++ (i ∷ [])) (get_or next i 0)
    Walk-more h = record {
      from = i + 1;
      low = omega (arith, walk_in h);
      next = chain_next C i f (walk_in h) (first_owned owners n f W.from i W.next h) small;
      before = rw W.before (sym (passed_first owners n f W.from i W.next h));
    }

    -- next leads to a later cell
    pub walk_less : i < 1024 → 1024 - get_or next i 0 < 1024 - i
    unfolding Walk-more
    walk_less h = go (dec_lt (get_or next i 0) 1024)
      where
        go : Dec (get_or next i 0 < 1024) → 1024 - get_or next i 0 < 1024 - i
        go (yes l) = omega (arith, h, l, first_low owners n f (i + 1) (get_or next i 0) (Walk-more h).next l)
        go (no l) = omega (arith, h, l)

    -- the cells passed come first in the chain
    pub walk_rest : cells_from owners n f 0 ≡ passed ++ cells_from owners n f W.from
    walk_rest = rw W.before (passed_rest owners n f W.from W.low)

    -- at the end all cells are passed
    pub walk_end : 1024 ≤ i → passed ≡ cells_from owners n f 0
    walk_end h = W.before ∙ passed_all owners n f W.from i C.small W.low W.next h
