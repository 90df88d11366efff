-- What was found, as the host returns it and writes it.
-- Assumes nothing.
use Prim.Native.Nat.{ℕ, ◌+◌, ◌*◌, ◌≤◌}
use native.Mathlib.Omega.{arith}
use mathlib.Core.Path.{◌≡◌, refl}
use mathlib.Core.List.{List, ◌++◌, map}
use mathlib.Core.Option.{none, some}
use lib.IntN.{ℤ, pos, neg_ℤ}
use lib.ListN.{length, take, drop, length-map, length-append}
use lib.Seq.{take_at}
use Rattle.std.specs.declared.result.Result.{Result}
use Rattle.grid.specs.Grid.{size}
use Rattle.grid.specs.Cells.{Literal, word}
use Rattle.refusal.specs.declared.Refusal.{Refusal}
use Rattle.refusal.specs.Refusals.{returned_of}
use Rattle.record.specs.Record.{Outcome, ok, refused, ◌>>=◌}
use Rattle.record.specs.Problem.{puzzle_of, grid_of}
use Rattle.record.specs.Leaf.{Leaf}
use Rattle.literals.specs.Literals.{Found}
use Rattle.reasons.specs.Reasons.{find_reason}
use Rattle.sizes.specs.LeafOf.{leaf_of}
use Rattle.sizes.specs.declared.LentLeaf.{LentLeaf}
use Rattle.literals.specs.Buffer.{buffer_by}
use Rattle.literals.specs.Inside.{count_of, FoundAs}
use Rattle.std.specs.Prelude.{Some}
use Rattle.reasons.proofs.ReasonLaws.{reason_length}
use Rattle.exported.specs.Written.{bytes_of}
use Rattle.calls.proofs.Opening.{returned_refused}
use Rattle.calls.specs.Found.{returned, output_after}
use Rattle.calls.specs.Inside.{Told, leaf_finds}

-- k literals of the reason found stand in a buffer's first places
pub record Literals (found : Found) (k : ℕ) (buffer : List ℕ) : Type 0 where
  pub reason : List Literal
  pub is : found ≡ some reason
  pub many : k ≡ length reason
  pub within : k ≤ length buffer
  pub first : take k buffer ≡ map word reason

-- so an answer of k literals says
found_Literals : (f : Found) {before after : List ℕ} {k : ℕ} → FoundAs f before after (Some k) → Literals f k after
unfolding count_of buffer_by
found_Literals none x = let z : ◌≡◌ {A = ℕ} 0 1 = cc x.answer in absurd (omega arith)
found_Literals (some r) {before} {after} {k} x =
    let n : k ≡ length r = cc x.answer in
    let l : length (map word r) ≡ length r = length-map r word in
    record {
      reason = r;
      is = refl;
      many = n;
      within = rw x.buffer (simp length-append (omega arith));
      first = rw (x.buffer, n) (take_at (map word r) (drop (length r) before) (length r) l);
    }

-- and of a leaf that is lent they are no more than an output has to have room for
pub some_Literals : (leaf : LentLeaf) (cells : List ℕ) {before after : List ℕ} {k : ℕ} → FoundAs (find_reason (leaf_of leaf) cells) before after (Some k)
    → Literals (find_reason (leaf_of leaf) cells) k after × (k ≤ 3 * (leaf.problem.now.height * leaf.problem.now.width) + 1)
unfolding puzzle_of grid_of size
some_Literals leaf cells x =
    let l = found_Literals (find_reason (leaf_of leaf) cells) x in
    (l, rw l.many (reason_length (leaf_of leaf) cells leaf.arrows.drawn.few l.reason l.is))

-- none, as the host has it
pub none_told : {f : Found} (output : List ℕ) → f ≡ none → (pos 0 ≡ returned (ok f)) × (output ≡ output_after (ok f) output)
unfolding returned output_after
none_told output e = rw e (refl, refl)

-- a reason, as the host has it
pub Literals-told : {f : Found} {k : ℕ} {buffer : List ℕ} (output : List ℕ) → Literals f k buffer
    → (pos k ≡ returned (ok f)) × (bytes_of (take k buffer) ++ drop (2 * k) output ≡ output_after (ok f) output)
unfolding returned output_after
Literals-told output l = rw (l.is, l.first, l.many) (refl, refl)

-- a refusal, as the host has it
pub refused_told : {o : Outcome Found} {k : ℕ} (output : List ℕ) → o ≡ refused k → (neg_ℤ (pos k) ≡ returned o) × (output ≡ output_after o output)
unfolding returned output_after
refused_told output e = rw e (refl, refl)

-- what is returned and left for an outcome is so for its equal
pub told_as : {o p : Outcome Found} {r : ℤ} {left : List ℕ} (output : List ℕ) → o ≡ p → (r ≡ returned p) × (left ≡ output_after p output) → (r ≡ returned o) × (left ≡ output_after o output)
told_as output e t = rw e t

-- what the call returns and leaves, by what is told of the leaf that is opened
pub told_found : (o : Outcome Leaf) (decisions before after : List ℕ) (answer : Result ℕ Refusal)
    → Told o (λ l before after answer. (returned_of answer ≡ returned (leaf_finds decisions (length before) l)) × (after ≡ output_after (leaf_finds decisions (length before) l) before)) before after answer
    → (returned_of answer ≡ returned (o >>= leaf_finds decisions (length before))) × (after ≡ output_after (o >>= leaf_finds decisions (length before)) before)
unfolding returned output_after ◌>>=◌
told_found (refused k) decisions before after answer t = (returned_refused answer t.0, t.1)
told_found (ok l) decisions before after answer t = t
