-- The gap: the most undecided cells, no two consecutive. What most_apart counts is the most, and counting each undecided cell unless the one before it was counted gives it.
-- Assumes nothing.
use Prim.Native.Nat.{ℕ, zero, suc, ◌+◌, ◌≤◌, ◌<◌, zero-le, max}
use mathlib.Core.Path.{◌≡◌, refl, sym, ap, ◌∙◌}
use native.Mathlib.Decide.{dec_le}
use native.Mathlib.Omega.{arith}
use mathlib.Core.Bool.{Bool, true, false, So, cond, false≢true}
use mathlib.Core.List.{List, [], ◌∷◌}
use lib.ListN.{length, get_or, drop}
use Rattle.std.proofs.lemmas.List.{drop_more, drop_all}
use borrow.Author.Tests.{eq-eqb, ne_eqb}
use Rattle.grid.specs.Count.{count}
use Rattle.grid.proofs.Count.{bump_yes, bump_no, count_front}
use Rattle.grid.proofs.ListLaws.{Dec-So, So-false}
use Rattle.grid.specs.Cells.{undecided}
use Rattle.growth.specs.Growth.{most_apart}
use Rattle.growth.specs.Gap.{Most}

-- no choice is larger than most_apart
pub most_bound : (cells is : List ℕ) (S : ℕ → Type 0) (d : (k : ℕ) → Dec (S k)) → ((k : ℕ) → k < length is → S k → So (undecided cells (get_or is k 0))) → ((k : ℕ) → S k → ¬ S (suc k))
    → (b : Bool) → (So b → ¬ S 0) → count d (length is) ≤ most_apart cells b is
unfolding most_apart
most_bound cells [] S d good apart b h = zero-le
most_bound cells (i ∷ is) S d good apart true h =
    let ih = most_bound cells is (λ k. S (suc k)) (λ k. d (suc k)) (λ k l. good (suc k) (omega arith)) (λ k. apart (suc k)) false (λ z. absurd (false≢true z)) in
    omega (arith, ih, count_front d (length is), bump_no (d 0) (count (λ k. d (suc k)) (length is)) (h refl))
most_bound cells (i ∷ is) S d good apart false h =
    go (d 0) (Dec-So (undecided cells i))
    (λ b k. most_bound cells is (λ k. S (suc k)) (λ k. d (suc k)) (λ k l. good (suc k) (omega arith)) (λ k. apart (suc k)) b k)
  where
    n : ℕ
    n = count (λ k. d (suc k)) (length is)

    go : Dec (S 0) → Dec (So (undecided cells i)) → ((b : Bool) → (So b → ¬ S 1) → n ≤ most_apart cells b is)
        → count d (suc (length is)) ≤ cond (undecided cells i) (max (suc (most_apart cells true is)) (most_apart cells false is)) (most_apart cells false is)
    go (yes s) _ ih = rw (good 0 (omega arith) s) (omega (arith, ih true (λ _. apart 0 s), count_front d (length is), bump_yes (d 0) n s))
    go (no k) (yes u) ih = rw u (omega (arith, ih false (λ z. absurd (false≢true z)), count_front d (length is), bump_no (d 0) n k))
    go (no k) (no u) ih = rw (So-false (undecided cells i) u) (omega (arith, ih false (λ z. absurd (false≢true z)), count_front d (length is), bump_no (d 0) n k))

-- on a full board nothing can be chosen
pub most_full : (cells is : List ℕ) → ((c : ℕ) → ¬ So (undecided cells c)) → most_apart cells false is ≡ 0
unfolding most_apart
most_full cells [] h = refl
most_full cells (i ∷ is) h = rw (So-false (undecided cells i) (h i)) (most_full cells is h)

-- X at 0, and S behind it
abbrev cons : Type 0 → (ℕ → Type 0) → ℕ → Type 0
cons X S zero = X
cons X S (suc k) = S k

module _ (cells : List ℕ) where
  -- a choice as large as most_apart says
  record Got (b : Bool) (is : List ℕ) : Type 1 where
    S : ℕ → Type 0
    d : (k : ℕ) → Dec (S k)
    low : (k : ℕ) → S k → k < length is
    good : (k : ℕ) → S k → So (undecided cells (get_or is k 0))
    apart : (k : ℕ) → S k → ¬ S (suc k)
    first : So b → ¬ S 0
    many : count d (length is) ≡ most_apart cells b is

  -- the first position is left out, or taken
  skip : (b c : Bool) (i : ℕ) (is : List ℕ) → Got c is → most_apart cells b (i ∷ is) ≡ most_apart cells c is → Got b (i ∷ is)
  skip b c i is g e = record { S = T; d = d_t; low = low; good = good; apart = apart; first = λ _ z. z; many = count_front d_t (length is) ∙ g.many ∙ sym e }
    where
      T : ℕ → Type 0
      T = cons ⊥ g.S

      d_t : (k : ℕ) → Dec (T k)
      d_t zero = no (λ z. z)
      d_t (suc k) = g.d k

      low : (k : ℕ) → T k → k < suc (length is)
      low zero z = absurd z
      low (suc k) s = omega (arith, g.low k s)

      good : (k : ℕ) → T k → So (undecided cells (get_or (i ∷ is) k 0))
      good zero z = absurd z
      good (suc k) s = g.good k s

      apart : (k : ℕ) → T k → ¬ T (suc k)
      apart zero z = absurd z
      apart (suc k) s = g.apart k s

  pick : (i : ℕ) (is : List ℕ) → So (undecided cells i) → Got true is → most_apart cells false (i ∷ is) ≡ suc (most_apart cells true is) → Got false (i ∷ is)
  pick i is u g e = record { S = T; d = d_t; low = low; good = good; apart = apart; first = λ z. absurd (false≢true z); many = count_front d_t (length is) ∙ ap suc g.many ∙ sym e }
    where
      T : ℕ → Type 0
      T = cons (Unit {0}) g.S

      d_t : (k : ℕ) → Dec (T k)
      d_t zero = yes tt
      d_t (suc k) = g.d k

      low : (k : ℕ) → T k → k < suc (length is)
      low zero z = omega arith
      low (suc k) s = omega (arith, g.low k s)

      good : (k : ℕ) → T k → So (undecided cells (get_or (i ∷ is) k 0))
      good zero z = u
      good (suc k) s = g.good k s

      apart : (k : ℕ) → T k → ¬ T (suc k)
      apart zero z = g.first refl
      apart (suc k) s = g.apart k s

  got : (is : List ℕ) (b : Bool) → Got b is
  unfolding most_apart
  got [] b = record { S = λ _. ⊥; d = λ _. no (λ z. z); low = λ k z. absurd z; good = λ k z. absurd z; apart = λ k z _. z; first = λ _ z. z; many = refl }
  got (i ∷ is) true = skip true false i is (got is false) refl
  got (i ∷ is) false = go (Dec-So (undecided cells i)) (dec_le (suc (most_apart cells true is)) (most_apart cells false is)) (λ b. got is b)
    where
      go : Dec (So (undecided cells i)) → Dec (suc (most_apart cells true is) ≤ most_apart cells false is) → ((b : Bool) → Got b is) → Got false (i ∷ is)
      go (no h) _ g = skip false false i is (g false) (rw (So-false (undecided cells i) h))
      go (yes u) (yes l) g = skip false false i is (g false) (rw u (omega arith))
      go (yes u) (no l) g = pick i is u (g true) (rw u (omega arith))

  -- most_apart is the most
  pub most_apart_lem : (is : List ℕ) → Most (λ k. So (undecided cells (get_or is k 0))) (length is) (most_apart cells false is)
  most_apart_lem is = let g = got is false in record {
    bound = λ S d c. most_bound cells is S d (λ k _. c.good k) c.apart false (λ z. absurd (false≢true z));
    some = g.S;
    some_dec = g.d;
    some_choice = record { low = g.low; good = g.good; apart = g.apart };
    some_size = g.many;
  }

-- the cell that can be counted is counted: greed
module _ (cells : List ℕ) where
  apart_le : (l : List ℕ) → most_apart cells true l ≤ most_apart cells false l
  unfolding most_apart
  apart_le [] = omega arith
  apart_le (i ∷ l) = go (undecided cells i)
    where
      go : (t : Bool) → most_apart cells false l ≤ cond t (max (suc (most_apart cells true l)) (most_apart cells false l)) (most_apart cells false l)
      go true = omega arith
      go false = omega arith

  apart_suc : (l : List ℕ) → most_apart cells false l ≤ suc (most_apart cells true l)
  unfolding most_apart
  apart_suc [] = omega arith
  apart_suc (i ∷ l) = go (undecided cells i)
    where
      go : (t : Bool) → cond t (max (suc (most_apart cells true l)) (most_apart cells false l)) (most_apart cells false l) ≤ suc (most_apart cells false l)
      go true = omega (arith, apart_le l)
      go false = omega arith

  -- an undecided cell may always be taken where the one before it was not
  apart_cons : (i : ℕ) (l : List ℕ) → most_apart cells false (i ∷ l) ≡ cond (undecided cells i) (suc (most_apart cells true l)) (most_apart cells false l)
  unfolding most_apart
  apart_cons i l = go (undecided cells i)
    where
      go : (t : Bool) → cond t (max (suc (most_apart cells true l)) (most_apart cells false l)) (most_apart cells false l) ≡ cond t (suc (most_apart cells true l)) (most_apart cells false l)
      go true = omega (arith, apart_suc l)
      go false = refl

  module _ (gap : List ℕ) (k : ℕ) (within : k < length gap) where
    -- the cell behind one that is counted is passed over
    pub apart_behind : most_apart cells true (drop k gap) ≡ most_apart cells false (drop (k + 1) gap)
    unfolding most_apart
    apart_behind = rw (drop_more gap k 0 within) refl

    -- an undecided cell is counted where the one before it was not
    pub apart_counted : get_or cells (get_or gap k 0) 0 ≡ 2 → most_apart cells false (drop k gap) ≡ most_apart cells true (drop (k + 1) gap) + 1
    unfolding undecided
    apart_counted u = rw (drop_more gap k 0 within, apart_cons (get_or gap k 0) (drop (k + 1) gap), eq-eqb (get_or cells (get_or gap k 0) 0) 2 u) (omega arith)

    -- a decided cell is passed over
    pub apart_passed : (get_or cells (get_or gap k 0) 0 ≡ 2 → ⊥) → most_apart cells false (drop k gap) ≡ most_apart cells false (drop (k + 1) gap)
    unfolding undecided
    apart_passed u = rw (drop_more gap k 0 within, apart_cons (get_or gap k 0) (drop (k + 1) gap), ne_eqb (get_or cells (get_or gap k 0) 0) 2 u) refl

  -- behind the last cell nothing is left to count
  pub apart_end : (counted : Bool) (gap : List ℕ) (k : ℕ) → length gap ≤ k → most_apart cells counted (drop k gap) ≡ 0
  unfolding most_apart
  apart_end counted gap k h = rw (drop_all k gap h) refl
