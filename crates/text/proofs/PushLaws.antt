-- What is written behind a text, part by part.
-- Assumes nothing.
use Prim.Native.Nat.{ℕ, zero, suc, ◌+◌, ◌/◌, ◌%◌, ◌^◌, ◌≤◌, ◌<◌}
use native.Mathlib.Omega.{arith}
use native.Mathlib.Nat.{pow-suc}
use mathlib.Core.Path.{◌≡◌, refl, sym, ap, ◌∙◌}
use mathlib.Core.Bool.{Bool, true, false, cond}
use mathlib.Core.List.{List, [], ◌∷◌, ◌++◌}
use lib.Dec.{ltb}
use lib.ListN.{length}
use borrow.Author.Tests.{ltb-true, ltb-false, lt-ltb}
use lib.Seq.{drop-drop}
use borrow.Rule.Slice.PartMut.{put_mid}
use Rattle.std.specs.Fmt.{decimal}
use Rattle.std.proofs.lemmas.Fmt.{decimal_step, decimal_digit, length-decimal-le}
use Rattle.text.specs.Text.{Written, written, digits_within, digits}
use Rattle.text.specs.declared.Text.{Text}
use Rattle.text.specs.Pushed.{Pushed}
use Rattle.text.proofs.Writing.{write_none, write_then}

-- the part of a list behind a place, overwritten
pub part_Written : (out : List ℕ) (at k : ℕ) (bytes part : List ℕ) → part ≡ bytes → k ≡ length bytes → Written out at bytes (put_mid at k out part) (at + length bytes)
unfolding written
part_Written out at k bytes part e f = record { behind = refl; whole = rw (e, f, drop-drop (length bytes) at out) refl }

-- nothing
pub push_none : (t : Text) → Pushed t t []
push_none t = record { same = refl; long = refl; written = write_none t.out.now t.len }

-- two texts, one behind the other
pub push_then : {t u v : Text} {a b : List ℕ} → Pushed t u a → Pushed u v b → t.len + length a ≤ length t.out.now → Pushed t v (a ++ b)
push_then p q h = record {
  same = q.same ∙ p.same;
  long = q.long ∙ p.long;
  written = write_then p.written q.written h;
}

-- what is printed of a number in so many places
within_decimal : (k n : ℕ) → n < 10 ^ suc k → n < 2 ^ 64 → digits_within (suc k) n ≡ decimal n
unfolding digits_within
within_decimal zero n h m = rw (lt-ltb n 10 (omega (arith, pow-suc 10 0, h))) (sym (decimal_digit n (omega (arith, pow-suc 10 0, h))))
within_decimal (suc k) n h m = go (ltb n 10) (λ p q. within_decimal k (n / 10) p q) refl
  where
    go : (t : Bool) → (n / 10 < 10 ^ suc k → n / 10 < 2 ^ 64 → digits_within (suc k) (n / 10) ≡ decimal (n / 10)) → ltb n 10 ≡ t
        → cond t ((48 + n) ∷ []) (digits_within (suc k) (n / 10) ++ ((48 + n % 10) ∷ [])) ≡ decimal n
    go true less e = sym (decimal_digit n (ltb-true n 10 e))
    go false less e =
        ap (λ (ds : List ℕ). ds ++ ((48 + n % 10) ∷ [])) (less (omega (arith, pow-suc 10 (suc k), h)) (omega (arith, m)))
        ∙ sym (decimal_step n (ltb-false n 10 e) m)

-- the digits of a number below 10,000
pub digits_decimal : (n : ℕ) → n < 10000 → digits n ≡ decimal n
unfolding digits
digits_decimal n h = within_decimal 3 n h (omega arith)

-- and of every number that the machine holds
pub machine_decimal : (n : ℕ) → n < 18446744073709551616 → digits_within 20 n ≡ decimal n
machine_decimal n h = within_decimal 19 n (omega arith) h

-- a number below 10,000 has at most four of them
pub digits_short : (n : ℕ) → n < 10000 → length (decimal n) ≤ 4
digits_short n h = length-decimal-le 4 n (omega arith) h (omega arith)
