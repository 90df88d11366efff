-- The digits that are printed for a number read back as the number, without a leading zero.
-- Assumes nothing.
use Prim.Native.Nat.{ℕ, zero, suc, ◌+◌, ◌-◌, ◌*◌, ◌/◌, ◌%◌, ◌^◌, ◌≤◌, ◌<◌}
use native.Mathlib.Nat.{pow-suc}
use native.Mathlib.Omega.{arith}
use mathlib.Core.Logic.{◌⊎◌, inl, inr}
use mathlib.Core.Path.{◌≡◌, refl, sym, ap, ◌∙◌}
use mathlib.Core.Bool.{Bool, true, false, cond}
use mathlib.Core.List.Memᴰ
use mathlib.Core.List.{List, [], ◌∷◌, ◌++◌, Memᴰ}
use lib.Dec.{ltb}
use lib.ListN.{length-append, get_or-append}
use borrow.Author.Tests.{ltb-true, ltb-false}
use Rattle.text.specs.Text.{digits_within, digits}
use Rattle.text.specs.Decimal.{says_behind, says, Decimal}

-- one digit more
says_more : (n : ℕ) (text : List ℕ) (c : ℕ) → says_behind n (text ++ (c ∷ [])) ≡ says_behind n text * 10 + (c - 48)
unfolding says_behind
says_more n [] c = refl
says_more n (d ∷ text) c = says_more (n * 10 + (d - 48)) text c

-- a number below 10
one : (n : ℕ) → n < 10 → Decimal n ((48 + n) ∷ [])
unfolding says says_behind
one n h = record {
  value = omega arith;
  each = λ c m. let e = Memᴰ.eq_of_singleton m in (omega arith, omega arith);
  some = omega arith;
  lead = λ e. ap (λ (c : ℕ). c ∷ []) e;
}

-- the last digit behind those of a number that is not 0
more : (n : ℕ) (text : List ℕ) → 10 ≤ n → Decimal (n / 10) text → Decimal n (text ++ ((48 + n % 10) ∷ []))
unfolding says says_behind
more n text h d = record {
  value = says_more 0 text (48 + n % 10) ∙ omega (arith, d.value);
  each = λ c m. digit c (Memᴰ.append_cases text m);
  some = simp length-append (omega arith);
  lead = λ e. absurd (not_zero (d.lead (sym (get_or-append text ((48 + n % 10) ∷ []) 0 0 d.some) ∙ e)));
}
  where
    digit : (c : ℕ) → Memᴰ c text ⊎ Memᴰ c ((48 + n % 10) ∷ []) → (48 ≤ c) × (c ≤ 57)
    digit c (inl m) = d.each c m
    digit c (inr m) = let e = Memᴰ.eq_of_singleton m in (omega arith, omega arith)

    not_zero : text ≡ 48 ∷ [] → ⊥
    not_zero e = omega (arith, d.value, ap says e)

-- one place more, for numbers ten times as large
step : (k m : ℕ) → ((n : ℕ) → 0 < n → n < m → Decimal n (digits_within k n)) → (n : ℕ) → n < 10 * m → Decimal n (digits_within (suc k) n)
unfolding digits_within
step k m below n h = go (ltb n 10) refl
  where
    go : (t : Bool) → ltb n 10 ≡ t → Decimal n (cond t ((48 + n) ∷ []) (digits_within k (n / 10) ++ ((48 + n % 10) ∷ [])))
    go true e = one n (ltb-true n 10 e)
    go false e =
        let l : 10 ≤ n = ltb-false n 10 e in
        more n (digits_within k (n / 10)) l (below (n / 10) (omega arith) (omega arith))

-- the digits of a number that has no more of them than there are places
within_Decimal : (k n : ℕ) → n < 10 ^ suc k → Decimal n (digits_within (suc k) n)
within_Decimal zero n h = step 0 1 (λ a p q. absurd (omega arith)) n (omega (arith, pow-suc 10 0))
within_Decimal (suc k) n h = step (suc k) (10 ^ suc k) (λ a _ p. within_Decimal k a p) n (omega (arith, pow-suc 10 (suc k)))

-- the digits of a number below 10,000; those of the counts, indexes, values and refusals that are printed are
pub digits-Decimal : (n : ℕ) → n < 10000 → Decimal n (digits n)
unfolding digits
digits-Decimal n h = within_Decimal 3 n h

-- 20 places are enough for every number that the machine holds; the replaying programs print their counts so
pub machine_Decimal : (n : ℕ) → n < 18446744073709551616 → Decimal n (digits_within 20 n)
machine_Decimal n h = within_Decimal 19 n (omega arith)

-- so two numbers with the same digits are the same
pub digits_same : (m n : ℕ) → m < 10000 → n < 10000 → digits m ≡ digits n → m ≡ n
digits_same m n h k e = sym (digits-Decimal m h).value ∙ ap says e ∙ (digits-Decimal n k).value
