-- The text for what the host call says, written part by part.
-- Assumes nothing.
use Prim.Native.Nat.{ℕ, zero, suc, ◌+◌, ◌*◌, ◌/◌, ◌%◌, ◌≤◌, ◌<◌}
use native.Mathlib.Omega.{arith}
use mathlib.Core.Path.{◌≡◌, refl, sym, ap, subst, ◌∙◌}
use mathlib.Core.List.{List, [], ◌∷◌, ◌++◌}
use lib.ListN.{length, take, length-append}
use Rattle.std.specs.Prelude.{Ok, Err, IfOk, IfErr}
use Rattle.std.specs.declared.result.Result.{Result}
use Rattle.std.specs.Fmt.{decimal}
use Rattle.grid.specs.Lists.{flat_map}
use Rattle.std.proofs.lemmas.Bool.{le-ltb}
use Rattle.text.specs.Text.{digits_within, digits, line, two_words, none_text, reason_text, refused_text, literal_line, literals_in}
use Rattle.text.specs.Told.{told_text}
use Rattle.text.specs.declared.Text.{Text}
use Rattle.text.specs.Pushed.{Pushed}
use Rattle.text.proofs.PushLaws.{push_then, digits_decimal, digits_short}

-- the words with their space
abbrev pub reason_word : List ℕ
reason_word = 114 ∷ 101 ∷ 97 ∷ 115 ∷ 111 ∷ 110 ∷ 32 ∷ []

abbrev pub refused_word : List ℕ
refused_word = 114 ∷ 101 ∷ 102 ∷ 117 ∷ 115 ∷ 101 ∷ 100 ∷ 32 ∷ []

-- the last four digits of a number that has more
pub digits_above : (n : ℕ) → 10000 ≤ n
    → ((48 + n / 1000 % 10) ∷ (48 + n / 100 % 10) ∷ (48 + n / 10 % 10) ∷ (48 + n % 10) ∷ []) ≡ digits n
unfolding digits digits_within
digits_above n big =
    let tens : n / 10 / 10 ≡ n / 100 = omega arith in
    let hundreds : n / 100 / 10 ≡ n / 1000 = omega arith in
    rw (
      le-ltb n 10 (omega (arith, big)),
      le-ltb (n / 10) 10 (omega (arith, big)),
      tens,
      le-ltb (n / 100) 10 (omega (arith, big)),
      hundreds,
      le-ltb (n / 1000) 10 (omega (arith, big)),
    )
    refl

text_is : (n : ℕ) (found : List ℕ) → n ≤ 3073 → (n ≡ 0 → ⊥)
    → told_text (Ok n) found ≡ (reason_word ++ (decimal n ++ (10 ∷ []))) ++ flat_map literal_line (literals_in (take (2 * n) found))
unfolding told_text line two_words reason_text
text_is zero found few some = absurd (some refl)
text_is (suc n) found few some = rw (digits_decimal (suc n) (omega (arith, few))) refl

module _ {t u : Text} {told : Result ℕ ℕ} (found : List ℕ) where
  pub refused_told : (k : ℕ) → told ≡ Err k → k < 10000 → Pushed t u (refused_word ++ (decimal k ++ (10 ∷ []))) → Pushed t u (told_text told found)
  unfolding told_text line two_words refused_text
  refused_told k e h p = rw (e, digits_decimal k h) p

  -- the last byte by an equation of its own, so that the check tells where it is another
  pub none_told : (n : ℕ) → told ≡ Ok n → n ≡ 0 → (last : ℕ) → Pushed t u (110 ∷ 111 ∷ 110 ∷ 101 ∷ last ∷ []) → last ≡ 10 → Pushed t u (told_text told found)
  unfolding told_text line none_text
  none_told n e z last p q = rw (e, z, ← q) p

-- the last digits of a number that has more, between the word and the end of the line
pub long_told : {t u v w : Text} {told : Result ℕ ℕ} (found : List ℕ) (j k : ℕ) {text : List ℕ} → told ≡ Err j → 10000 ≤ j → told ≡ Err k → text ≡ digits k → t.len + 21523 ≤ length t.out.now
    → Pushed t u refused_word → Pushed u v text → Pushed v w (10 ∷ []) → Pushed t w (told_text told found)
unfolding told_text line two_words refused_text
long_told {told = told} found j k {text} f long e is room p q r =
    let same : told ≡ Err k → IfErr told (λ m. 10000 ≤ m) → 10000 ≤ k = subst (λ (r : Result ℕ ℕ). IfErr r (λ m. 10000 ≤ m)) in
    let big : 10000 ≤ k = same e (rw f long) in
    let four : length text ≡ 4 = ap length is ∙ sym (ap length (digits_above k big)) in
    rw (e, sym is) (push_then p (push_then q r (omega (arith, four, p.long, p.written.behind, room))) (omega (arith, room)))

module _ {t u : Text} (n : ℕ) (few : n ≤ 3073) (p : Pushed t u (reason_word ++ (decimal n ++ (10 ∷ [])))) (room : t.len + 21523 ≤ length t.out.now) where
  head_short : length (reason_word ++ (decimal n ++ (10 ∷ []))) ≤ 12
  head_short = simp length-append (omega (arith, digits_short n (omega (arith, few))))

  -- there is room for the lines
  pub lines_room : u.len + 7 * n ≤ length u.out.now
  lines_room = omega (arith, room, few, head_short, p.long, p.written.behind)

  -- the head and the lines
  pub reason_told : {v : Text} {told : Result ℕ ℕ} (found : List ℕ) → told ≡ Ok n → (n ≡ 0 → ⊥)
      → Pushed u v (flat_map literal_line (literals_in (take (2 * n) found))) → Pushed t v (told_text told found)
  reason_told {v} found e some q =
      rw (e, text_is n found few some) (push_then p q (omega (arith, room, head_short)))

-- what is asked of a count
pub count_few : {told : Result ℕ ℕ} (found : List ℕ) (n : ℕ) → told ≡ Ok n
    → IfOk told (λ m. (m ≤ 3073) × (2 * m ≤ length found)) → (n ≤ 3073) × (2 * n ≤ length found)
count_few {told} found n e h = subst (λ (r : Result ℕ ℕ). IfOk r (λ m. (m ≤ 3073) × (2 * m ≤ length found))) e h
