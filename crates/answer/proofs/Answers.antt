-- The text for what the host call returns and leaves is what the program prints.
-- Assumes nothing.
use Prim.Native.Nat.{ℕ, zero, suc, ◌+◌, ◌*◌, ◌/◌, ◌%◌, ◌≤◌, ◌<◌}
use native.Mathlib.Omega.{arith}
use mathlib.Core.Path.{◌≡◌, refl, sym, ap, ◌∙◌, subst}
use mathlib.Core.List.{List, [], ◌∷◌, ◌++◌, map, Memᴰ}
use lib.ListN.{length, drop}
use lib.Seq.{take_at}
use Rattle.std.specs.Prelude.{Ok, Err, IfOk}
use Rattle.std.specs.declared.result.Result.{Result}
use Rattle.grid.specs.Lists.{flat_map}
use Rattle.record.specs.Record.{Outcome, refused}
use Rattle.grid.specs.Cells.{Literal, word}
use Rattle.literals.specs.Literals.{Found}
use Rattle.exported.specs.Written.{bytes_of}
use Rattle.calls.specs.Found.{returned, output_after}
use Rattle.text.specs.Text.{digits, line, two_words, reason_text, literal_line, literal_in, literals_in}
use Rattle.text.specs.Told.{told_by, told_text}
use Rattle.answer.specs.Program.{text_of, program_finds, printed}
use Rattle.host.specs.Returns.{refusals, Possible, refusal_of, value_of}
use Rattle.answer.proofs.Finds.{Printable, nothing, reason, program_finds_lem, refusal_small}

-- a literal, read back from its two bytes
literal_back : (l : Literal) → l.0 < 1024 → l.1 ≤ 1 → literal_in (word l / 256) (word l % 256) ≡ l
unfolding literal_in word
literal_back l h v =
    let i : ((l.1 * 32768 + l.0) / 256 * 256 + (l.1 * 32768 + l.0) % 256) % 1024 ≡ l.0 = omega arith in
    let x : (l.1 * 32768 + l.0) / 256 / 128 ≡ l.1 = omega arith in
    rw (i, x) refl

-- the literals, read back from their bytes
literals_back : (r : List Literal) → ((l : Literal) → Memᴰ l r → (l.0 < 1024) × (l.1 ≤ 1)) → literals_in (bytes_of (map word r)) ≡ r
unfolding literals_in bytes_of
literals_back [] h = refl
literals_back (l ∷ r) h =
    let s = h l (Memᴰ.head refl) in
    rw (literal_back l s.0 s.1) (ap (λ (m : List Literal). l ∷ m) (literals_back r (λ k m. h k (Memᴰ.tail m))))

bytes_long : (r : List Literal) → length (bytes_of (map word r)) ≡ 2 * length r
unfolding bytes_of
bytes_long [] = refl
bytes_long (l ∷ r) = omega (arith, bytes_long r)

few : {o : Outcome Found} → Possible (8 ∷ refusals) Printable o → IfOk (told_by (returned o)) (λ n. n ≤ 3073)
unfolding returned told_by
few (refusal_of {k = zero} m) = omega arith
few (refusal_of {k = suc k} m) = tt
few (value_of nothing) = omega arith
few (value_of (reason p q h)) = q

-- a refusal that the program finds is not 0, so that its number reads back
refusal_back : (k : ℕ) → Possible (8 ∷ refusals) Printable (refused k) → told_by (returned (refused k)) ≡ Err k
unfolding returned told_by
refusal_back zero (refusal_of m) = absurd (omega (arith, (refusal_small zero m).0))
refusal_back (suc k) p = refl

text : {o : Outcome Found} (before : List ℕ) → Possible (8 ∷ refusals) Printable o → told_text (told_by (returned o)) (output_after o before) ≡ text_of o
unfolding returned output_after told_by told_text text_of
text before (refusal_of {k = zero} m) = absurd (omega (arith, (refusal_small zero m).0))
text before (refusal_of {k = suc k} m) = refl
text before (value_of nothing) = refl
text before (value_of (reason {r = []} p q h)) = absurd (omega arith)
text before (value_of (reason {r = l ∷ r} p q h)) =
    ap (λ (m : List Literal). line (two_words reason_text (digits (length (l ∷ r)))) ++ flat_map literal_line m)
    (ap literals_in (take_at (bytes_of (map word (l ∷ r))) (drop (2 * length (l ∷ r)) before) (2 * length (l ∷ r)) (bytes_long (l ∷ r))) ∙ literals_back (l ∷ r) h)

roomy : (told : Result ℕ ℕ) (found : List ℕ) → 6146 ≤ length found → IfOk told (λ n. n ≤ 3073) → IfOk told (λ n. (n ≤ 3073) × (2 * n ≤ length found))
roomy (Ok n) found h f = (f, omega (arith, h, f))
roomy (Err k) found h f = tt

-- what the program finds where the input is refused
module _ (input : List ℕ) (k : ℕ) (e : program_finds input ≡ refused k) where
  pub refusal_told : ◌≡◌ {A = Result ℕ ℕ} (Err k) (told_by (returned (program_finds input)))
  refusal_told = rw e (sym (refusal_back k (subst (Possible (8 ∷ refusals) Printable) e (program_finds_lem input))))

  pub refusal_leaves : (found : List ℕ) → found ≡ output_after (program_finds input) found
  unfolding output_after
  refusal_leaves found = rw e refl

module _ (input : List ℕ) {told : Result ℕ ℕ} (e : told ≡ told_by (returned (program_finds input))) where
  -- at most 3,073 literals are told of, for which the output has room
  pub count_small : (found : List ℕ) → 6146 ≤ length found → IfOk told (λ n. (n ≤ 3073) × (2 * n ≤ length found))
  count_small found h =
      let f : IfOk told (λ n. n ≤ 3073) = rw e (few (program_finds_lem input)) in
      roomy told found h f

  -- the text for them is what the program prints
  pub text_printed : (before after : List ℕ) → after ≡ output_after (program_finds input) before → told_text told after ≡ printed input
  unfolding printed
  text_printed before after g = rw (e, g) (text before (program_finds_lem input))
