-- Chains are linked cell by cell from the last, and walked from the first: no code is named here.
-- Assumes nothing.
use Prim.Native.Nat.{ℕ, zero, suc, ◌+◌, ◌-◌, ◌%◌, ◌≤◌, ◌<◌}
use native.Mathlib.Decide.{ℕ_discrete, dec_lt}
use native.Mathlib.Numerals.{add-one}
use native.Mathlib.Omega.{arith}
use mathlib.Core.Path.{◌≡◌, refl, sym, ap, ◌∙◌}
use mathlib.Core.Bool.{Bool, true, false, cond, ◌&&◌, and_comm}
use mathlib.Core.List.{List, [], ◌∷◌, ◌++◌, append-nil, Memᴰ}
use lib.Dec.{eqb, ltb}
use lib.ListN.{get_or, set, replicate, length-set, length-replicate, get_or-replicate}
use lib.Seq.{get_or-set_same, get_or-set_other, set-get_or}
use borrow.Author.Tests.{eq-eqb, ne_eqb, eqb-true, lt-ltb, le-ltb}
use Rattle.grid.specs.Lists.{range, upto, filter}
use Rattle.grid.proofs.ListLaws.{filter-mem, range-mem}
use Rattle.grid.proofs.AppendLaws.{filter-append, upto_more, filter-filter, filter_agree}
use Rattle.reach.specs.Chains.{owned_by, cells_from, first_cell, first_from, ChainsFrom, Chains}

-- ---- the cells from k on that pass a test

-- the first cell i from k on, of m cells, that passes, with all that pass behind it
record First (p : ℕ → Bool) (k m i : ℕ) : Type 0 where
  low : k ≤ i
  high : i < k + m
  passes : p i ≡ true
  rest : filter p (range k m) ≡ i ∷ filter p (range (i + 1) (k + m - (i + 1)))
  none_before : filter p (range k (i - k)) ≡ []

First-of : (p : ℕ → Bool) (k m i : ℕ) → i ≡ first_cell (filter p (range k m)) → i < 1024 → First p k m i
unfolding first_cell range
First-of p k zero i e h = absurd (omega (arith, e))
First-of p k (suc m) i e h = go (p k) refl (First-of p (suc k) m i)
  where
    here : i ≡ k → p k ≡ true → First p k (suc m) i
    here q t = record {
      low = omega arith;
      high = omega arith;
      passes = rw q t;
      rest = let r : k + suc m - (k + 1) ≡ m = omega arith in rw (q, r, add-one k, t) refl;
      none_before = let z : i - k ≡ 0 = omega arith in rw z refl;
    }

    later : p k ≡ false → First p (suc k) m i → First p k (suc m) i
    later t F = record {
      low = omega (arith, F.low);
      high = omega (arith, F.high);
      passes = F.passes;
      rest = let r : suc k + m - (i + 1) ≡ k + suc m - (i + 1) = omega arith in rw t (rw r at F.rest);
      none_before = let z : i - k ≡ suc (i - suc k) = omega (arith, F.low) in rw z (rw t F.none_before);
    }

    go : (b : Bool) → p k ≡ b → (i ≡ first_cell (filter p (range (suc k) m)) → i < 1024 → First p (suc k) m i) → First p k (suc m) i
    go true t below = here (rw t at e) t
    go false t below = later t (below (rw t at e) h)

range_split : (a k m : ℕ) → range a (k + m) ≡ range a k ++ range (a + k) m
unfolding range
range_split a zero m = let z : 0 + m ≡ m = omega arith in let y : a + 0 ≡ a = omega arith in rw (z, y) refl
range_split a (suc k) m =
    let s : suc k + m ≡ suc (k + m) = omega arith in
    let y : a + suc k ≡ suc a + k = omega arith in
    rw (s, y) (ap (λ (l : List ℕ). a ∷ l) (range_split (suc a) k m))

-- ---- a chain is walked: i is the next cell, and k is 0 at the start and then one more than the last cell passed, so that i ≡ first_from owners n f k.
-- Head has the first i (chain_head), and next of i the one that follows it (chain_next), with k at i + 1

-- the cells below k that have the owner f: those passed
unfoldable pub cells_up_to : List ℕ → ℕ → ℕ → List ℕ
cells_up_to owners f k = filter (owned_by owners f) (upto k)

module _ (owners : List ℕ) (n f : ℕ) where
  first : (k i : ℕ) → i ≡ first_from owners n f k → i < 1024 → First (owned_by owners f) k (n - k) i
  unfolding first_from cells_from
  first k i e h = First-of (owned_by owners f) k (n - k) i e h

  -- the next cell is not passed yet, is one of the grid, and has the owner f
  pub first_low : (k i : ℕ) → i ≡ first_from owners n f k → i < 1024 → k ≤ i
  first_low k i e h = (first k i e h).low

  pub first_in : (k i : ℕ) → i ≡ first_from owners n f k → i < 1024 → i < n
  first_in k i e h = omega (arith, (first k i e h).low, (first k i e h).high)

  pub first_owned : (k i : ℕ) → i ≡ first_from owners n f k → i < 1024 → get_or owners i 0 ≡ f
  unfolding owned_by
  first_owned k i e h = eqb-true (get_or owners i 0) f (first k i e h).passes

  -- there is no next cell
  pub from_none : (k i : ℕ) → n ≤ 1024 → i ≡ first_from owners n f k → 1024 ≤ i → cells_from owners n f k ≡ []
  unfolding first_from first_cell cells_from
  from_none k i small e h = go (cells_from owners n f k) refl
    where
      go : (l : List ℕ) → cells_from owners n f k ≡ l → l ≡ []
      go [] q = refl
      go (j ∷ js) q =
          let s : i ≡ j = e ∙ ap first_cell q in
          let m : Memᴰ j (filter (owned_by owners f) (range k (n - k))) = rw q (mathlib.Core.List.Memᴰ.head refl) in
          absurd (omega (arith, s, range-mem k (n - k) (filter-mem (owned_by owners f) (range k (n - k)) m).0))

  -- the next cell is passed, and it is the only one up to it
  pub passed_first : (k i : ℕ) → i ≡ first_from owners n f k → i < 1024 → cells_up_to owners f (i + 1) ≡ cells_up_to owners f k ++ (i ∷ [])
  unfolding cells_up_to upto
  passed_first k i e h =
      let F = first k i e h in
      let p = owned_by owners f in
      let s : k + (i - k) ≡ i = omega (arith, F.low) in
      let z : 0 + k ≡ k = omega arith in
      let before : filter p (range 0 i) ≡ filter p (range 0 k) =
      ap (λ (m : ℕ). filter p (range 0 m)) (sym s) ∙ ap (filter p) (range_split 0 k (i - k)) ∙ filter-append p (range 0 k) (range (0 + k) (i - k))
      ∙ ap (λ (m : ℕ). filter p (range 0 k) ++ filter p (range m (i - k))) z ∙ ap (λ (l : List ℕ). filter p (range 0 k) ++ l) F.none_before ∙ append-nil (filter p (range 0 k)) in
      ap (filter p) (upto_more i) ∙ filter-append p (upto i) (i ∷ []) ∙ rw F.passes (ap (λ (l : List ℕ). l ++ (i ∷ [])) before)

  -- the cells passed, and those from there on, are all
  pub passed_rest : (k : ℕ) → k ≤ n → cells_from owners n f 0 ≡ cells_up_to owners f k ++ cells_from owners n f k
  unfolding cells_up_to upto cells_from
  passed_rest k le =
      let p = owned_by owners f in
      let s : n - 0 ≡ k + (n - k) = omega arith in
      let z : 0 + k ≡ k = omega arith in
      ap (λ (m : ℕ). filter p (range 0 m)) s ∙ ap (filter p) (range_split 0 k (n - k)) ∙ filter-append p (range 0 k) (range (0 + k) (n - k))
      ∙ ap (λ (m : ℕ). filter p (range 0 k) ++ filter p (range m (n - k))) z

  -- where there is no next cell, all are passed
  pub passed_all : (k i : ℕ) → n ≤ 1024 → k ≤ n → i ≡ first_from owners n f k → 1024 ≤ i → cells_up_to owners f k ≡ cells_from owners n f 0
  passed_all k i small le e h =
      sym (passed_rest k le ∙ ap (λ (l : List ℕ). cells_up_to owners f k ++ l) (from_none k i small e h) ∙ append-nil (cells_up_to owners f k))

  -- the cells of the owner f that pass a test are those of the grid that pass it and have the owner f
  pub owned_both : (p : ℕ → Bool) → filter p (cells_from owners n f 0) ≡ filter (λ i. p i && eqb (get_or owners i 0) f) (upto n)
  unfolding cells_from owned_by upto
  owned_both p = let z : n - 0 ≡ n = omega arith in rw z (filter-filter p (λ i. eqb (get_or owners i 0) f) (range 0 n) ∙ filter_agree _ _ (range 0 n) (λ i _. and_comm (eqb (get_or owners i 0) f) (p i)))

-- no cell is passed yet
pub passed_none : (owners : List ℕ) (f : ℕ) → cells_up_to owners f 0 ≡ []
unfolding cells_up_to upto range
passed_none owners f = refl

-- head has the first cell, and next the one behind each
module _ {owners head next : List ℕ} {n : ℕ} (C : Chains owners head next n) where
  pub chain_head : (f : ℕ) → f < 1024 → get_or head f 0 ≡ first_from owners n f 0
  chain_head f h = C.starts f h

  pub chain_next : (i f : ℕ) → i < n → get_or owners i 0 ≡ f → f < 1024 → get_or next i 0 ≡ first_from owners n f (i + 1)
  chain_next i f h e l = C.follows i (omega arith) h (rw e l) ∙ ap (λ (x : ℕ). first_from owners n x (i + 1)) e

-- ---- the chains are linked, from the last cell to the first

module _ (owners : List ℕ) (n : ℕ) where
  from_next : (f i : ℕ) → i < n → cells_from owners n f i ≡ cond (owned_by owners f i) (i ∷ cells_from owners n f (i + 1)) (cells_from owners n f (i + 1))
  unfolding cells_from range
  from_next f i h = let s : n - i ≡ suc (n - (i + 1)) = omega arith in rw (s, add-one i) refl

  -- before the last cell
  pub chains_none : n ≤ 1024 → ChainsFrom owners (replicate 1024 1024) (replicate 1024 1024) n n
  unfolding first_from cells_from range first_cell
  chains_none small = record {
    small = small;
    head_long = length-replicate {A = ℕ} 1024 1024;
    next_long = length-replicate {A = ℕ} 1024 1024;
    starts = λ f h. let z : n - n ≡ 0 = omega arith in rw z (get_or-replicate {A = ℕ} 1024 f 1024 0 h);
    follows = λ i l h. absurd (omega (arith, l, h));
  }

  module _ {head next : List ℕ} (i : ℕ) (inside : i < n) (C : ChainsFrom owners head next n (i + 1)) where
    own_first : i ≡ first_from owners n (get_or owners i 0) i
    unfolding first_from first_cell owned_by
    own_first = sym (ap first_cell {y = i ∷ cells_from owners n (get_or owners i 0) (i + 1)} (from_next (get_or owners i 0) i inside ∙ rw (eq-eqb (get_or owners i 0) (get_or owners i 0) refl)))

    firsts : (f : ℕ) → (get_or owners i 0 ≡ f → ⊥) → first_from owners n f (i + 1) ≡ first_from owners n f i
    unfolding first_from owned_by
    firsts f ne = sym (ap first_cell (from_next f i inside ∙ rw (ne_eqb (get_or owners i 0) f ne)))

    -- one more cell, with an owner
    chains_more : get_or owners i 0 < 1024 → ChainsFrom owners (set head (get_or owners i 0) i) (set next i (get_or head (get_or owners i 0) 0)) n i
    chains_more l = record {
      small = C.small;
      head_long = length-set head e i ∙ C.head_long;
      next_long = length-set next i (get_or head e 0) ∙ C.next_long;
      starts = λ f h. start f h (ℕ_discrete f e);
      follows = λ j low h o. follow j low h o (ℕ_discrete j i);
    }
      where
        e : ℕ
        e = get_or owners i 0

        start : (f : ℕ) → f < 1024 → Dec (f ≡ e) → get_or (set head e i) f 0 ≡ first_from owners n f i
        start f h (yes q) = rw q (get_or-set_same head e i 0 (omega (arith, C.head_long, l)) ∙ own_first)
        start f h (no ne) = get_or-set_other head e f i 0 ne ∙ C.starts f h ∙ firsts f (λ q. ne (sym q))

        follow : (j : ℕ) → i ≤ j → j < n → get_or owners j 0 < 1024 → Dec (j ≡ i) → get_or (set next i (get_or head e 0)) j 0 ≡ first_from owners n (get_or owners j 0) (j + 1)
        follow j low h o (yes q) = rw q (get_or-set_same next i (get_or head e 0) 0 (omega (arith, C.next_long, C.small)) ∙ C.starts e l)
        follow j low h o (no ne) = get_or-set_other next i j (get_or head e 0) 0 ne ∙ C.follows j (omega (arith, ne)) h o

    -- one more cell, without an owner
    chains_same : 1024 ≤ get_or owners i 0 → ChainsFrom owners head next n i
    chains_same l = record {
      small = C.small;
      head_long = C.head_long;
      next_long = C.next_long;
      starts = λ f h. C.starts f h ∙ firsts f (λ q. omega (arith, q));
      follows = λ j low h o. follow j low h o (ℕ_discrete j i);
    }
      where
        follow : (j : ℕ) → i ≤ j → j < n → get_or owners j 0 < 1024 → Dec (j ≡ i) → get_or next j 0 ≡ first_from owners n (get_or owners j 0) (j + 1)
        follow j low h o (yes q) = absurd (omega (arith, o, l, ap (λ (x : ℕ). get_or owners x 0) q))
        follow j low h o (no ne) = C.follows j (omega (arith, ne)) h o

    -- both at once, as they are written without a branch: no owner goes by the place of its remainder, which stays as it is
    pub chains_either : ChainsFrom owners (set head (get_or owners i 0 % 1024) (cond (ltb (get_or owners i 0) 1024) i (get_or head (get_or owners i 0 % 1024) 0)))
        (set next i (cond (ltb (get_or owners i 0) 1024) (get_or head (get_or owners i 0 % 1024) 0) (get_or next i 0))) n i
    chains_either = go (dec_lt (get_or owners i 0) 1024)
      where
        go : Dec (get_or owners i 0 < 1024) → ChainsFrom owners (set head (get_or owners i 0 % 1024) (cond (ltb (get_or owners i 0) 1024) i (get_or head (get_or owners i 0 % 1024) 0)))
            (set next i (cond (ltb (get_or owners i 0) 1024) (get_or head (get_or owners i 0 % 1024) 0) (get_or next i 0))) n i
        go (yes l) = let e : get_or owners i 0 % 1024 ≡ get_or owners i 0 = omega arith in rw (e, lt-ltb (get_or owners i 0) 1024 l) (chains_more l)
        go (no h) = rw (le-ltb (get_or owners i 0) 1024 (omega arith), set-get_or head (get_or owners i 0 % 1024) 0, set-get_or next i 0) (chains_same (omega arith))
