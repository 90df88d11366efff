-- What is printed for an input of which no more is read than shows that it is too long.
-- Assumes nothing.
use Prim.Native.Nat.{ℕ}
use native.Mathlib.Omega.{arith}
use mathlib.Core.Path.{◌≡◌, sym, ap, ◌∙◌}
use mathlib.Core.List.{List}
use lib.ListN.{length, take}
use Rattle.std.proofs.Common.{take_all}
use Rattle.std.proofs.lemmas.Bool.{cases_lt}
use lib.Seq.{length-take-le}
use mathlib.Core.Logic.{⊎_elim}
use Rattle.answer.specs.Program.{program_finds, printed, text_of}
use Rattle.answer.proofs.Inputs.{too_long}

-- as much as shows that an input is too long is answered as all of it
pub printed_taken : (bytes : List ℕ) → printed (take 8193 bytes) ≡ printed bytes
unfolding printed
printed_taken bytes = ⊎_elim
    (λ h. ap text_of (too_long (take 8193 bytes) (omega (arith, length-take-le 8193 bytes (omega arith))) ∙ sym (too_long bytes (omega arith))))
    (λ h. ap (λ xs. text_of (program_finds xs)) (take_all 8193 bytes h))
    (cases_lt 8193 (length bytes))
