-- What the program can find: its refusals are 1 to 5, 7, 9 and 12, and a reason has 1 to 3,073 literals with a cell's index and a value.
-- Assumes nothing.
use Prim.Native.Nat.{ℕ, zero, suc, ◌+◌, ◌*◌, ◌/◌, ◌≤◌, ◌<◌}
use native.Mathlib.Omega.{arith}
use mathlib.Core.Path.{refl}
use mathlib.Core.Bool.{Bool, true, false, cond, ◌&&◌}
use mathlib.Core.List.{List, [], ◌∷◌, Memᴰ}
use mathlib.Core.Option.{none, some}
use lib.Dec.{ltb, leb}
use lib.ListN.{length, take, drop}
use borrow.Author.Tests.{ltb-true, leb-true}
use Rattle.grid.specs.Lists.{all}
use Rattle.grid.specs.Grid.{Grid, size}
use Rattle.grid.proofs.ListLaws.{all-mem, and-true}
use Rattle.record.specs.Record.{Outcome, Bytes}
use Rattle.grid.specs.Cells.{Literal}
use Rattle.literals.specs.Literals.{Found}
use Rattle.host.specs.Returns.{refusals, Possible, refusal_of, FoundOn, no_reason, some_reason, FoundWith}
use Rattle.host.proofs.Returns.{Possible-more, listed, few_cells, host_Possible, byte_value}
use Rattle.answer.specs.Program.{output_limit, answer_of, input_answer, program_finds}

-- none, or a reason of 1 to 3,073 literals, each an index below 1,024 with a value
pub data Printable : Found → Type 0 where
  nothing : Printable none
  reason : {r : List Literal} → 0 < length r → length r ≤ 3073 → ((l : Literal) → Memᴰ l r → (l.0 < 1024) × (l.1 ≤ 1)) → Printable (some r)

printable : {s : List ℕ} (f : Found) → FoundWith s f → Printable f
printable f w = go w.few w.found
  where
    go : {g : Grid} {f : Found} → size g ≤ 1024 → FoundOn g f → Printable f
    go few no_reason = nothing
    go few (some_reason {r} p q h) = reason {r = r} p (omega arith) (λ l m. (omega (arith, (h l m).0), (h l m).1))

-- what stands in a part of a list stands in the list
mem-drop : (n : ℕ) (l : List ℕ) {x : ℕ} → Memᴰ x (drop n l) → Memᴰ x l
mem-drop zero l m = m
mem-drop (suc n) [] m = m
mem-drop (suc n) (y ∷ l) m = Memᴰ.tail (mem-drop n l m)

-- what the program can find, where the list has 8 if a value may be above 1: its output is long enough, so it needs no 11
program_Possible : {ks : List ℕ} → ((k : ℕ) → Memᴰ k refusals → Memᴰ k ks) → (input : List ℕ)
    → ((a b : ℕ) → Memᴰ a input → Memᴰ b input → 1 < (a * 256 + b) / 32768 → Memᴰ 8 ks) → Possible ks Printable (program_finds input)
unfolding program_finds input_answer answer_of output_limit
program_Possible {ks} has input eight = either (ltb 8192 (length input)) (refusal_of (has 12 (listed 12 refusals refl))) (inside input eight)
  where
    either : (t : Bool) {a b : Outcome Found} → Possible ks Printable a → Possible ks Printable b → Possible ks Printable (cond t a b)
    either true p q = p
    either false p q = q

    inside : (l : List ℕ) → ((a b : ℕ) → Memᴰ a l → Memᴰ b l → 1 < (a * 256 + b) / 32768 → Memᴰ 8 ks) → Possible ks Printable (input_answer l)
    inside [] eight = refusal_of (has 1 (listed 1 refusals refl))
    inside (a ∷ []) eight = refusal_of (has 1 (listed 1 refusals refl))
    inside (a ∷ b ∷ rest) eight =
        let n = a * 256 + b in
        either (ltb (length rest) (a * 256 + b)) (refusal_of (has 1 (listed 1 refusals refl)))
        (Possible-more (λ k m. m) printable (host_Possible has (take (a * 256 + b) rest) (drop (a * 256 + b) rest) 6146
        (λ p e h. absurd (omega (arith, few_cells (take (a * 256 + b) rest) p e)))
        (λ c d i j h. eight c d (Memᴰ.tail (Memᴰ.tail (mem-drop n rest i))) (Memᴰ.tail (Memᴰ.tail (mem-drop n rest j))) h)))

-- whatever numbers the input has
pub program_finds_lem : (input : List ℕ) → Possible (8 ∷ refusals) Printable (program_finds input)
program_finds_lem input = program_Possible (λ k m. Memᴰ.tail m) input (λ a b i j h. Memᴰ.head refl)

-- an input of bytes
pub program_refusals : (input : List ℕ) → Bytes input → Possible refusals Printable (program_finds input)
program_refusals input low = program_Possible (λ k m. m) input (λ a b i j h. absurd (byte_value low a b i j h))

-- these refusals are 1 to 12
pub refusal_small : (k : ℕ) → Memᴰ k (8 ∷ refusals) → (0 < k) × (k ≤ 12)
refusal_small k m =
    let e = and-true (ltb 0 k) (leb k 12) (all-mem (λ j. ltb 0 j && leb j 12) (8 ∷ refusals) refl k m) in
    (ltb-true 0 k e.0, leb-true k 12 e.1)
