-- A search in the four directions from a cell, and a search of the cells from behind, as `any` and `find` answer them.
-- Assumes nothing.
use Prim.Native.Nat.{ℕ, zero, suc, ◌+◌, ◌<◌, ◌≤◌, ◌-◌}
use native.Mathlib.Omega.{arith}
use native.Mathlib.Numerals.{add-one}
use mathlib.Core.Path.{◌≡◌, refl, sym, ap, subst, ◌∙◌}
use mathlib.Core.Bool.{Bool, true, false, ◌||◌}
use mathlib.Core.List.{List, [], ◌∷◌}
use Rattle.std.specs.Prelude.{Option, Some, None}
use Rattle.std.specs.Bool.{MatchBool}
use Rattle.std.specs.Iterator.{AlwaysYields, Yields, CallableAtEachTurn}
use Rattle.std.specs.List.{range_with_len, AllWithin, HoldsAt, FoldsTo}
use Rattle.std.specs.declared.iter.Rev.{Rev}
use Rattle.std.specs.declared.ops.Range.{Range}
use Rattle.std.proofs.lemmas.Iterator.{YieldsList}
use Rattle.std.specs.Option.{MatchOption, unwrap_or}
use Rattle.std.proofs.lemmas.List.FromFn.{get_or-range_with_len}
use lib.ListN.{length, get_or}
use Rattle.grid.specs.Lists.{any, filter, last, range, upto}
use Rattle.grid.specs.Grid.{Grid, neighbours, up, down, left, right}
use Rattle.grid.specs.Side.{beside_of, towards}
use Rattle.grid.proofs.AppendLaws.{any-append}
use Rattle.grid.proofs.ListLaws.{mem-any, any-mem}
use Rattle.grid.proofs.SideLaws.{beside_at, beside_off, towards-mem}
use Rattle.units.proofs.Boundary.{last_hit, last_miss}

module _ (g : Grid) (i : ℕ) (t : ℕ → Bool) where
  -- the neighbour in direction k, as `toward` answers it
  pub toward_some : (k j : ℕ) {c : ℕ} {r : Option ℕ} → c ≡ i → r ≡ beside_of g c k → r ≡ Some j → any t (towards g i k) ≡ t j
  toward_some k j {c} {r} a e f = let e' : r ≡ beside_of g i k = rw a at e in rw (beside_at g i k j (sym f ∙ e')) (go (t j))
    where
      go : (b : Bool) → b || false ≡ b
      go true = refl
      go false = refl

  pub toward_none : (k : ℕ) {c : ℕ} {r : Option ℕ} → c ≡ i → r ≡ beside_of g c k → r ≡ None → any t (towards g i k) ≡ false
  toward_none k {c} {r} a e f = let e' : r ≡ beside_of g i k = rw a at e in rw (beside_off g i k (sym f ∙ e')) refl

  low : (k : ℕ) → k < 4 → get_or (range_with_len 0 4) k 0 ≡ k
  low k l = omega (arith, get_or-range_with_len 0 4 k 0 l)

  abbrev Passes : ℕ → Type 0
  Passes k = any t (towards g i k) ≡ true

  -- the neighbours are those in the four directions
  by_side : any t (neighbours g i) ≡ any t (towards g i 0) || (any t (towards g i 1) || (any t (towards g i 2) || any t (towards g i 3)))
  unfolding neighbours towards
  by_side = any-append t (up g i) _ ∙ ap (λ b. any t (up g i) || b) (any-append t (down g i) _ ∙ ap (λ b. any t (down g i) || b) (any-append t (left g i) (right g i)))

  -- what `any` answers of the four directions holds of the neighbours
  pub any_side : (r : Bool) → MatchBool r ((k : ℕ) × (k < 4) × HoldsAt (λ k. any t (towards g i k) ≡ true) (range_with_len 0 4) k)
      (AllWithin (λ k. any t (towards g i k) ≡ false) (range_with_len 0 4) 0 4) → r ≡ any t (neighbours g i)
  any_side true x =
      let m = any-mem t (towards g i x.0) (subst Passes (low x.0 x.1) (x.2 0)) in
      sym (mem-any t (neighbours g i) (towards-mem g i x.0 m.1) m.2)
  any_side false x = sym (by_side ∙ rw (x 0 0 (omega arith) (omega arith), x 1 0 (omega arith) (omega arith), x 2 0 (omega arith) (omega arith), x 3 0 (omega arith) (omega arith)) refl)

-- the numbers below n from behind
abbrev pub down_from : ℕ → List ℕ
down_from zero = []
down_from (suc n) = n ∷ down_from n

-- what `find` answers of them is the last that passes
module _ (t : ℕ → Bool) where
  abbrev Found : ℕ → Option ℕ → Type 0
  Found n r = MatchOption r (AllWithin (λ k. t k ≡ false) (down_from n) 0 (length (down_from n)))
      (λ x. (t x ≡ true) × (i : ℕ) × (i < length (down_from n)) × HoldsAt (λ y. y ≡ x) (down_from n) i × AllWithin (λ k. t k ≡ false) (down_from n) 0 i)

  hit : (n : ℕ) → t n ≡ true → n ≡ last 0 (filter t (upto (suc n)))
  hit n e = sym (rw add-one at (last_hit t n e))

  miss : (n : ℕ) {k : ℕ} → t n ≡ false → k ≡ last 0 (filter t (upto n)) → k ≡ last 0 (filter t (upto (suc n)))
  miss n e h = h ∙ sym (rw add-one at (last_miss t n e))

  pub last_found : (n : ℕ) (r : Option ℕ) → Found n r → unwrap_or r 0 ≡ last 0 (filter t (upto n))
  unfolding last range upto
  last_found zero None x = refl
  last_found zero (Some k) x = let l : x.1 < 0 = x.2 in absurd (omega arith)
  last_found (suc n) None x = miss n (x 0 0 (omega arith) (omega arith)) (last_found n None (λ k d l h. x (suc k) d (omega arith) (omega arith)))
  last_found (suc n) (Some k) x = go x.1 x.2 x.3 x.4 (last_found n (Some k))
    where
      go : (i : ℕ) → i < suc (length (down_from n)) → HoldsAt (λ y. y ≡ k) (n ∷ down_from n) i → AllWithin (λ k. t k ≡ false) (n ∷ down_from n) 0 i
          → (Found n (Some k) → k ≡ last 0 (filter t (upto n))) → k ≡ last 0 (filter t (upto (suc n)))
      go zero l h a ih = let e : n ≡ k = h 0 in subst (λ z. z ≡ last 0 (filter t (upto (suc n)))) e (hit n (rw (← e) at x.0))
      go (suc i) l h a ih = miss n (a 0 0 (omega arith) (omega arith)) (ih (x.0, i, omega arith, h, λ j d l m. a (suc j) d (omega arith) (omega arith)))

-- one number of a range from behind
abbrev back_steps : Rev (Range ℕ) → Option ℕ → Rev (Range ℕ) → Type 0
back_steps s r t = (t.iter.start ≡ s.iter.start) × MatchOption r ((s.iter.end - s.iter.start ≡ 0) × (t.iter.end ≡ s.iter.end)) (λ x. (0 < s.iter.end - s.iter.start) × (x ≡ t.iter.end) × (s.iter.end ≡ t.iter.end + 1))

back_gives : (n : ℕ) (s : Rev (Range ℕ)) → s.iter.start ≡ 0 → s.iter.end ≡ n → AlwaysYields back_steps (λ x. x) s (down_from n)
back_gives zero s a b = λ x j p. omega (arith, a, b, p.1)
back_gives (suc n) s a b = ((λ j p. omega (arith, a, b, p.1)), λ x j p. (omega (arith, b, p.1.1, p.1.2), back_gives n j (p.0 ∙ a) (omega (arith, b, p.1.2))))

pub YieldsList-from_rev : (n : ℕ) {s : Rev (Range ℕ)} → s.iter ≡ record { start = 0; end = n } → YieldsList back_steps (λ x. x) s (down_from n)
YieldsList-from_rev n {s} e = record { runs = back_gives n s (ap (λ (k : Range ℕ). k.start) e) (ap (λ (k : Range ℕ). k.end) e) }
