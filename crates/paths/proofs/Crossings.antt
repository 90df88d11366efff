-- The search for reason 2: the first block that has two arrow cells, and the first two of them.
-- Assumes nothing.
use Prim.Native.Nat.{ℕ, zero, suc, ◌+◌, ◌-◌, ◌≤◌, ◌<◌}
use native.Mathlib.Omega.{arith}
use mathlib.Core.Path.{◌≡◌, refl, sym, ap, ◌∙◌, subst}
use mathlib.Core.Bool.{Bool, true, false, cond, true≢false}
use mathlib.Core.List.{List, [], ◌∷◌, Memᴰ}
use lib.Dec.{eqb, leb}
use lib.ListN.{length, get_or, take}
use borrow.Author.Tests.{le-leb, leb-true, leb-false}
use Rattle.grid.specs.Lists.{range, upto, filter}
use Rattle.grid.specs.Grid.{Grid, size}
use Rattle.grid.proofs.ListLaws.{filter-mem}
use Rattle.grid.proofs.AppendLaws.{filter_agree}
use Rattle.record.specs.Record.{Puzzle}
use Rattle.grid.specs.Cells.{square}
use Rattle.groups.specs.Groups.{Joined, labels, group, names}
use Rattle.groups.specs.Arrows.{on_arrow}
use Rattle.groups.specs.Arrays.{marked}
use Rattle.groups.proofs.GroupLaws.{group-mem, linked_label}
use Rattle.groups.proofs.MarkLaws.{mask_test}
use Rattle.groups.proofs.TableLaws.{tally_is, name_low}
use Rattle.literals.specs.Literals.{or_else, first_found_of}
use Rattle.paths.specs.Paths.{reason2, reason2_at}
use Rattle.std.specs.Prelude.{Option, Some, None, find, MatchOption}
use Rattle.paths.specs.Ends.{BlockTable, crossed, arrow_cell_of, found_way, EndsJoined, Crossing}
use Rattle.units.proofs.Names.{first_agree, first_mem}

-- ---- the next cell that passes

module _ (t : ℕ → Bool) where
  -- no number from `from` up to n passes, or i is the first that does
  abbrev IsFirst : ℕ → ℕ → Option ℕ → Type 0
  IsFirst from n r = MatchOption r ((k : ℕ) → from ≤ k → k < n → t k ≡ false)
      (λ i. (from ≤ i) × (i < n) × (t i ≡ true) × ((k : ℕ) → from ≤ k → k < i → t k ≡ false))

  -- the number that passes, where the one before it is held against it
  at_or_behind : (from i : ℕ) (w : Option ℕ) (b : Bool) → t from ≡ b → from ≤ i → t i ≡ true → ((k : ℕ) → from ≤ k → k < i → t k ≡ false)
      → (from < i → Some i ≡ w) → Some i ≡ cond b (Some from) w
  at_or_behind from i w true h low pass before ih = let q : i ≡ from = at (leb i from) refl in rw q refl
    where
      at : (b : Bool) → leb i from ≡ b → i ≡ from
      at true l = omega (arith, low, leb-true i from l)
      at false l = absurd (true≢false (sym h ∙ before from (omega arith) (omega (arith, leb-false i from l))))
  at_or_behind from i w false h low pass before ih = ih (behind (leb i from) refl)
    where
      behind : (b : Bool) → leb i from ≡ b → from < i
      behind true l = let q : i ≡ from = omega (arith, low, leb-true i from l) in absurd (true≢false (sym pass ∙ rw q h))
      behind false l = omega (arith, leb-false i from l)

  -- by the count of the numbers
  first_of : (n j from : ℕ) (r : Option ℕ) → n - from ≡ j → IsFirst from n r → r ≡ find t (range from j)
  unfolding range
  first_of n zero from None e x = refl
  first_of n zero from (Some i) e x = absurd (omega (arith, e, x.0, x.1))
  first_of n (suc j) from None e x =
      rw (x from (omega arith) (omega (arith, e))) (first_of n j (suc from) None (omega (arith, e)) (λ k h. x k (omega (arith, h))))
  first_of n (suc j) from (Some i) e x =
      at_or_behind from i _ (t from) refl x.0 x.2 x.3 (λ later. first_of n j (suc from) (Some i) (omega (arith, e)) (later, x.1, x.2, λ k l. x.3 k (omega (arith, l))))

  -- the first number from `from` up to n that passes
  pub found_is : (from n : ℕ) (r : Option ℕ) → IsFirst from n r → r ≡ find t (range from (n - from))
  found_is from n r x = first_of n (n - from) from r refl x

  -- what passes is the first that does, and what passes behind it
  pub first_and_rest : (from k a : ℕ) → find t (range from k) ≡ Some a → filter t (range from k) ≡ a ∷ filter t (range (a + 1) (from + k - (a + 1)))
  unfolding range
  first_and_rest from zero a e = let z : ◌≡◌ {A = ℕ} 0 1 = cc in absurd (omega arith)
  first_and_rest from (suc k) a e = go (t from) e (λ q. first_and_rest (suc from) k a q)
    where
      go : (b : Bool) → cond b (Some from) (find t (range (suc from) k)) ≡ Some a
          → (find t (range (suc from) k) ≡ Some a → filter t (range (suc from) k) ≡ a ∷ filter t (range (a + 1) (suc from + k - (a + 1))))
          → cond b (from ∷ filter t (range (suc from) k)) (filter t (range (suc from) k)) ≡ a ∷ filter t (range (a + 1) (from + suc k - (a + 1)))
      go true e ih =
          let f : from ≡ a = cc in
          let z : from + suc k - (a + 1) ≡ k = omega (arith, f) in
          let y : a + 1 ≡ suc from = omega (arith, f) in
          rw (z, y, f) refl
      go false e ih = let z : from + suc k - (a + 1) ≡ suc from + k - (a + 1) = omega arith in rw z (ih e)

  pub rest_from_0 : (n a : ℕ) → find t (range 0 (n - 0)) ≡ Some a → filter t (range 0 (n - 0)) ≡ a ∷ filter t (range (a + 1) (n - (a + 1)))
  rest_from_0 n a e = let z : 0 + (n - 0) - (a + 1) ≡ n - (a + 1) = omega arith in rw z at (first_and_rest 0 (n - 0) a e)

  -- nothing passes where no first one does
  pub none_passes : (l : List ℕ) → find t l ≡ None → filter t l ≡ []
  none_passes [] e = refl
  none_passes (x ∷ xs) e = go (t x) e (none_passes xs)
    where
      go : (b : Bool) → cond b (Some x) (find t xs) ≡ None → (find t xs ≡ None → filter t xs ≡ []) → cond b (x ∷ filter t xs) (filter t xs) ≡ []
      go true e ih = let z : ◌≡◌ {A = ℕ} 0 1 = cc in absurd (omega arith)
      go false e ih = ih e

-- ---- the first block with two

-- the first number that passes passes
found_passes : (t : ℕ → Bool) (l : List ℕ) (f : ℕ) → find t l ≡ Some f → t f ≡ true
found_passes t [] f e = let z : ◌≡◌ {A = ℕ} 0 1 = cc in absurd (omega arith)
found_passes t (x ∷ xs) f e = go (t x) refl e (λ k. found_passes t xs f k)
  where
    go : (b : Bool) → t x ≡ b → cond b (Some x) (find t xs) ≡ Some f → (find t xs ≡ Some f → t f ≡ true) → t f ≡ true
    go true h e ih = let q : f ≡ x = cc in rw q h
    go false h e ih = ih e

module _ (g : Grid) (cells : List ℕ) (n : ℕ) (L : ℕ → List ℕ) where
  -- the first two arrow cells of the block named
  abbrev pub ends_of : Option ℕ → Option (ℕ × ℕ)
  ends_of None = None
  ends_of (Some f) = Some (get_or (L f) 0 n, get_or (L f) 1 n)

  two : ℕ → Bool
  two f = leb 2 (length (L f))

  -- a block with fewer than two, or two
  one_block : (x : ℕ) (l : List ℕ) → l ≡ L x → ((a b : ℕ) → Memᴰ a (L x) → Memᴰ b (L x) → Joined g (square cells) b a) → (xs : List ℕ)
      → first_found_of (λ f. reason2_at g cells (L f)) xs ≡ found_way g cells (ends_of (find two xs)) → EndsJoined g cells (ends_of (find two xs))
      → (first_found_of (λ f. reason2_at g cells (L f)) (x ∷ xs) ≡ found_way g cells (ends_of (find two (x ∷ xs)))) × EndsJoined g cells (ends_of (find two (x ∷ xs)))
  unfolding two first_found_of reason2_at or_else found_way EndsJoined
  one_block x [] e together xs ih jh = rw (← e) (ih, jh)
  one_block x (a ∷ []) e together xs ih jh = rw (← e) (ih, jh)
  one_block x (a ∷ b ∷ r) e together xs ih jh =
      rw (← e, le-leb 2 (length (a ∷ b ∷ r)) (omega arith), ← e) (refl, together a b (rw (← e) (Memᴰ.head refl)) (rw (← e) (Memᴰ.tail (Memᴰ.head refl))))

  all_blocks : (xs : List ℕ) → ((f : ℕ) → Memᴰ f xs → (a b : ℕ) → Memᴰ a (L f) → Memᴰ b (L f) → Joined g (square cells) b a)
      → (first_found_of (λ f. reason2_at g cells (L f)) xs ≡ found_way g cells (ends_of (find two xs))) × EndsJoined g cells (ends_of (find two xs))
  unfolding first_found_of found_way EndsJoined
  all_blocks [] h = (refl, tt)
  all_blocks (x ∷ xs) h = let r = all_blocks xs (λ f m. h f (Memᴰ.tail m)) in one_block x (L x) refl (h x (Memᴰ.head refl)) xs r.0 r.1

module _ (puzzle : Puzzle) (cells : List ℕ) {blocks onarrow firsts squares arrowed : List ℕ} {number : ℕ} (fits : size puzzle.grid ≤ 1024)
    (B : BlockTable puzzle cells blocks onarrow firsts squares arrowed number) where
  abbrev g : Grid
  g = puzzle.grid

  abbrev p : ℕ → Bool
  p = square cells

  -- the arrow cells of the block named f
  abbrev pub arrow_cells : ℕ → List ℕ
  arrow_cells f = filter (on_arrow puzzle.arrows) (group g p (labels g p) f)

  -- the same by the arrays
  pub arrow_cells_lem : (n f : ℕ) → n ≡ size g → f < 1024 → filter (arrow_cell_of blocks onarrow f) (range 0 (n - 0)) ≡ arrow_cells f
  unfolding arrow_cell_of marked upto
  arrow_cells_lem n f e h =
      let z : n - 0 ≡ size g = omega (arith, e) in
      rw (z, B.table.groups_are) (tally_is g p onarrow f h
      ∙ filter_agree (marked onarrow) (on_arrow puzzle.arrows) (group g p (labels g p) f)
      (λ j m. ap (λ (l : List ℕ). eqb (get_or l j 0) 1) B.arrows_are ∙ mask_test g (on_arrow puzzle.arrows) j (group-mem g p (labels g p) f j m).0))

  -- reason 2 by the first name that has two arrow cells
  pub Crossing-is : (n : ℕ) → Crossing puzzle cells (ends_of g cells n arrow_cells (find (crossed arrowed) (take number firsts)))
  unfolding reason2 crossed two
  Crossing-is n =
      let r = all_blocks g cells n arrow_cells (names g p (labels g p)) (λ f m. joined f) in
      let same : find (two g cells n arrow_cells) (names g p (labels g p)) ≡ find (crossed arrowed) (take number firsts)
      = first_agree _ (crossed arrowed) (names g p (labels g p)) (λ f m. test f (name_low g p f m)) ∙ ap (find (crossed arrowed)) (sym B.table.firsts_are) in
      record { reason = rw (← same) r.0; joined = rw (← same) r.1 }
    where
      test : (f : ℕ) → f < size g → leb 2 (length (arrow_cells f)) ≡ leb 2 (get_or arrowed f 0)
      test f h = sym (ap (leb 2) (B.table.arrowed_are.at f h))

      joined : (f a b : ℕ) → Memᴰ a (arrow_cells f) → Memᴰ b (arrow_cells f) → Joined g p b a
      joined f a b ma mb =
          let ga = group-mem g p (labels g p) f a (filter-mem (on_arrow puzzle.arrows) (group g p (labels g p) f) ma).0 in
          let gb = group-mem g p (labels g p) f b (filter-mem (on_arrow puzzle.arrows) (group g p (labels g p) f) mb).0 in
          linked_label g p b a gb.0 ga.0 gb.1 (gb.2 ∙ sym ga.2)

  -- the block that was found has two arrow cells or more
  crossed_two : {f : ℕ} → find (crossed arrowed) (take number firsts) ≡ Some f → 2 ≤ length (arrow_cells f)
  unfolding crossed
  crossed_two {f} at =
      let two = found_passes (crossed arrowed) (take number firsts) f at in
      let low : f < size g = name_low g p f (subst (λ (l : List ℕ). Memᴰ f l) B.table.firsts_are (first_mem (crossed arrowed) (take number firsts) f at)) in
      omega (arith, leb-true 2 (get_or arrowed f 0) two, B.table.arrowed_are.at f low)

  -- with the ends that were found
  pub Crossing-at : (n : ℕ) → n ≡ size g → {f a b : ℕ} → f < 1024 → find (crossed arrowed) (take number firsts) ≡ Some f
      → find (arrow_cell_of blocks onarrow f) (range 0 (n - 0)) ≡ Some a → find (arrow_cell_of blocks onarrow f) (range (a + 1) (n - (a + 1))) ≡ Some b
      → Crossing puzzle cells (Some (a, b))
  Crossing-at n e {f} {a} {b} h at ea eb =
      let t = arrow_cell_of blocks onarrow f in
      let l : arrow_cells f ≡ a ∷ b ∷ filter t (range (b + 1) (a + 1 + (n - (a + 1)) - (b + 1)))
      = sym (arrow_cells_lem n f e h) ∙ rest_from_0 t n a ea ∙ ap (λ (m : List ℕ). a ∷ m) (first_and_rest t (a + 1) (n - (a + 1)) b eb) in
      rw l at (subst (λ (m : Option ℕ). Crossing puzzle cells (ends_of g cells n arrow_cells m)) at (Crossing-is n))

  -- there is a first arrow cell, and a second
  pub first_there : (n : ℕ) → n ≡ size g → {f : ℕ} → f < 1024 → find (crossed arrowed) (take number firsts) ≡ Some f
      → ¬ (find (arrow_cell_of blocks onarrow f) (range 0 (n - 0)) ≡ None)
  first_there n e {f} h at none =
      let l : arrow_cells f ≡ [] = sym (arrow_cells_lem n f e h) ∙ none_passes (arrow_cell_of blocks onarrow f) (range 0 (n - 0)) none in
      omega (arith, crossed_two at, ap length l)

  pub second_there : (n : ℕ) → n ≡ size g → {f a : ℕ} → f < 1024 → find (crossed arrowed) (take number firsts) ≡ Some f
      → find (arrow_cell_of blocks onarrow f) (range 0 (n - 0)) ≡ Some a → ¬ (find (arrow_cell_of blocks onarrow f) (range (a + 1) (n - (a + 1))) ≡ None)
  second_there n e {f} {a} h at ea none =
      let t = arrow_cell_of blocks onarrow f in
      let l : arrow_cells f ≡ a ∷ []
      = sym (arrow_cells_lem n f e h) ∙ rest_from_0 t n a ea ∙ ap (λ (m : List ℕ). a ∷ m) (none_passes t (range (a + 1) (n - (a + 1))) none) in
      omega (arith, crossed_two at, ap length l)

  pub Crossing-nowhere : find (crossed arrowed) (take number firsts) ≡ None → Crossing puzzle cells None
  Crossing-nowhere at = subst (λ (m : Option ℕ). Crossing puzzle cells (ends_of g cells 0 arrow_cells m)) at (Crossing-is 0)
