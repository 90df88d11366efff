-- What the program finds, by the tests of the input.
-- Assumes nothing.
use Prim.Native.Nat.{ℕ, suc, ◌+◌, ◌*◌, ◌≤◌, ◌<◌}
use native.Mathlib.Omega.{arith}
use mathlib.Core.Path.{◌≡◌, refl, sym, ap, ◌∙◌}
use mathlib.Core.List.{List, [], ◌∷◌}
use lib.ListN.{length, get_or, take, drop, length-drop}
use lib.Seq.{drop-drop}
use borrow.Author.Tests.{lt-ltb, le-ltb}
use denote.Bor.{Bor}
use Rattle.std.specs.Prelude.{None, Some, MatchOption, MatchResult}
use Rattle.std.specs.declared.option.Option.{Option}
use Rattle.std.specs.declared.result.Result.{Result}
use Rattle.std.specs.Option.{ok_or}
use Rattle.std.specs.List.{IsSplitAt}
use Rattle.refusal.specs.Refusals.{refused, number_of}
use Rattle.refusal.specs.declared.Refusal.{Refusal}
use Rattle.refusal.specs.declared.Refusal.TheVariants.{RecordEnds}
use Rattle.calls.specs.Found.{host_finds}
use Rattle.answer.specs.Program.{length_said, output_limit, answer_of, input_answer, program_finds}

-- fewer than two bytes
no_length : (l : List ℕ) → length l < 2 → input_answer l ≡ refused 1
unfolding input_answer
no_length [] h = refl
no_length (a ∷ []) h = refl
no_length (a ∷ b ∷ rest) h = absurd (omega arith)

-- fewer than the length says
cut : (l : List ℕ) → 2 ≤ length l → length l < 2 + length_said l → input_answer l ≡ refused 1
unfolding input_answer answer_of
cut [] h s = absurd (omega arith)
cut (a ∷ []) h s = absurd (omega arith)
cut (a ∷ b ∷ rest) h s = rw (lt-ltb (length rest) (a * 256 + b) (omega arith)) refl

-- as many at least
whole : (l : List ℕ) → 2 + length_said l ≤ length l → input_answer l ≡ host_finds (take (length_said l) (drop 2 l)) (drop (2 + length_said l) l) 6146
unfolding input_answer answer_of output_limit
whole [] h = absurd (omega arith)
whole (a ∷ []) h = absurd (omega arith)
whole (a ∷ b ∷ rest) h =
    let n : 2 + (a * 256 + b) ≡ suc (suc (a * 256 + b)) = omega arith in
    rw (le-ltb (length rest) (a * 256 + b) (omega arith), n) refl

-- the four cases of an input
pub too_long : (input : List ℕ) → 8192 < length input → program_finds input ≡ refused 12
unfolding program_finds
too_long input h = rw (lt-ltb 8192 (length input) h) refl

module _ (input : List ℕ) (fits : length input ≤ 8192) where
  pub too_short : length input < 2 → program_finds input ≡ refused 1
  unfolding program_finds
  too_short h = rw (le-ltb 8192 (length input) fits) (no_length input h)

  pub cut_short : 2 ≤ length input → length input < 2 + length_said input → program_finds input ≡ refused 1
  unfolding program_finds
  cut_short h s = rw (le-ltb 8192 (length input) fits) (cut input h s)

  -- the host call on the record, the decisions behind it, and an output that is long enough for every record
  pub whole_input : 2 + length_said input ≤ length input
      → program_finds input ≡ host_finds (take (length_said input) (drop 2 input)) (drop (2 + length_said input) input) 6146
  unfolding program_finds
  whole_input h = rw (le-ltb 8192 (length input) fits) (whole input h)

  -- the same, with the record and the decisions as parts of what stands behind the first two bytes
  pub parted : (n : ℕ) {leaf decisions : List ℕ} → n ≡ length_said input → 2 + n ≤ length input → leaf ≡ take n (drop 2 input) → decisions ≡ drop n (drop 2 input)
      → program_finds input ≡ host_finds leaf decisions output_limit
  unfolding output_limit
  parted n e h r d = rw (r, d, drop-drop n 2 input, e) (whole_input (omega (arith, e, h)))

  -- the same of an input that is cut where its length says, if it can be
  pub cut_apart : (n : ℕ) {r : Result (Bor (List ℕ) × Bor (List ℕ)) Refusal} (o : Option (Bor (List ℕ) × Bor (List ℕ))) {rest : List ℕ}
      → n ≡ length_said input → 2 ≤ length input → rest ≡ drop 2 input
      → MatchOption o (length rest < n) (λ p. IsSplitAt rest n p.0.now p.1.now) → r ≡ ok_or o RecordEnds
      → MatchResult r (λ parts. program_finds input ≡ host_finds parts.0.now parts.1.now output_limit) (λ refusal. program_finds input ≡ refused (number_of refusal))
  cut_apart n None {rest} e two s h v =
      let short : length rest + 2 ≡ length input = ap (λ (l : List ℕ). length l + 2) s ∙ omega (arith, length-drop 2 input, two) in
      rw v (cut_short two (omega (arith, h, short, e)))
  cut_apart n (Some p) {rest} e two s h v =
      let short : length rest + 2 ≡ length input = ap (λ (l : List ℕ). length l + 2) s ∙ omega (arith, length-drop 2 input, two) in
      rw v (parted n e (omega (arith, h.0, short)) (h.1 ∙ ap (take n) s) (h.2 ∙ ap (drop n) s))

-- the host call with an output that is long enough for every record
pub host_program : (input leaf decisions found : List ℕ) → program_finds input ≡ host_finds leaf decisions output_limit → length found ≡ 6146
    → host_finds leaf decisions (length found) ≡ program_finds input
unfolding output_limit
host_program input leaf decisions found e h = rw h (sym e)

-- the length that the first two bytes say
pub said_in : (input : List ℕ) → get_or (take 2 input) 0 0 * 256 + get_or (take 2 input) 1 0 ≡ length_said input
said_in [] = refl
said_in (a ∷ []) = refl
said_in (a ∷ b ∷ input) = refl
