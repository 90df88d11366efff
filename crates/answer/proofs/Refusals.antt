-- The program never prints `refused 6`, `refused 8`, `refused 10` or `refused 11`.
-- Assumes nothing.
use Prim.Native.Nat.{ℕ, ◌<◌}
use native.Mathlib.Omega.{arith}
use mathlib.Core.Path.{◌≡◌, refl, sym, ap, ◌∙◌}
use mathlib.Core.Bool.{◌&&◌, not, false≢true}
use mathlib.Core.List.Memᴰ
use mathlib.Core.List.{List, [], ◌∷◌, ◌++◌, Memᴰ}
use lib.Dec.{leb}
use lib.ListN.{get_or, drop}
use borrow.Author.Tests.{leb-true, not-true}
use Rattle.grid.specs.Lists.{all, init}
use Rattle.grid.proofs.ListLaws.{all-mem, and-true}
use Rattle.grid.proofs.AppendLaws.{init_more}
use Rattle.record.specs.Record.{Outcome, refused, Bytes}
use Rattle.literals.specs.Literals.{Found}
use Rattle.host.specs.Returns.{refusals, Possible, refusal_of, value_of}
use Rattle.host.proofs.Returns.{among, in_list}
use Rattle.text.specs.Text.{digits, line, two_words, none_text, reason_text, refused_text}
use Rattle.answer.specs.Program.{text_of, printed}
use Rattle.text.proofs.DigitLaws.{digits_same}
use Rattle.answer.proofs.Finds.{Printable, nothing, reason, program_refusals, refusal_small}

-- the text of a refusal tells its number
number_told : (j k : ℕ) → j < 10000 → k < 10000 → text_of (refused j) ≡ text_of (refused k) → j ≡ k
unfolding text_of line two_words refused_text
number_told j k h i e =
    let d : digits j ++ (10 ∷ []) ≡ digits k ++ (10 ∷ []) = ap (drop 8) e in
    digits_same j k h i (sym (init_more (digits j) 10) ∙ ap init d ∙ init_more (digits k) 10)

-- a text that says a refusal is that of an outcome with this refusal
refusal_told : {o : Outcome Found} (k : ℕ) → k < 10000 → Possible refusals Printable o → text_of o ≡ text_of (refused k) → Memᴰ k refusals
unfolding text_of line two_words refused_text reason_text none_text
refusal_told k h (refusal_of {k = j} m) e =
    let l = refusal_small j (Memᴰ.tail m) in
    Memᴰ.cast (sym (number_told j k (omega (arith, l.1)) h e)) m
refusal_told k h (value_of nothing) e = let z = ap (λ (l : List ℕ). get_or l 0 0) e in absurd (omega arith)
refusal_told k h (value_of (reason p q s)) e = let z = ap (λ (l : List ℕ). get_or l 2 0) e in absurd (omega arith)

-- a refusal that the program prints for bytes is 1 to 5, 7, 9 or 12
pub printed_refusal : (input : List ℕ) → Bytes input → (k : ℕ) → k < 10000 → printed input ≡ text_of (refused k) → Memᴰ k refusals
unfolding printed
printed_refusal input low k h e = refusal_told k h (program_refusals input low) e

-- 6, 8, 10 and 11 are never printed
pub never_printed : (input : List ℕ) → Bytes input → (k : ℕ) → Memᴰ k (6 ∷ 8 ∷ 10 ∷ 11 ∷ []) → printed input ≡ text_of (refused k) → ⊥
never_printed input low k m e =
    let t = and-true (leb k 12) (not (among k refusals)) (all-mem (λ j. leb j 12 && not (among j refusals)) (6 ∷ 8 ∷ 10 ∷ 11 ∷ []) refl k m) in
    let h = leb-true k 12 t.0 in
    false≢true (sym (not-true (among k refusals) t.1) ∙ in_list (printed_refusal input low k (omega arith) e))
