-- An exported call that writes bytes to the front of a lent output: what it returns, and what the output holds then.
-- Assumes nothing.
use Rattle.std.specs.Prelude.{ℕ, ◌≡◌, ◌<◌, ◌^◌, ◌/◌, ◌%◌, List, [], ◌∷◌, ◌++◌, ℤ, pos, neg_ℤ, length, drop}
use Rattle.std.specs.Result.{ForOk}
use Rattle.std.specs.declared.result.Result.{Result}
use Rattle.grid.specs.Lists.{flat_map}
use Rattle.refusal.specs.declared.Refusal.{Refusal}
use Rattle.refusal.specs.Refusals.{returned_of}
use Rattle.fields.specs.Fields.{Outcome, refused, ok}

-- 16-bit numbers as bytes, most significant first
unfoldable pub bytes_of : List ℕ → List ℕ
bytes_of = flat_map (λ w. (w / 256) ∷ (w % 256) ∷ [])

-- the number returned: how many bytes are written, or the negated refusal number
unfoldable pub written : Outcome (List ℕ) → ℤ
written (refused k) = neg_ℤ (pos k)
written (ok bytes) = pos (length bytes)

-- the output afterwards: the bytes in front; those behind them, and all of them after a refusal, are unchanged
unfoldable pub output_with : Outcome (List ℕ) → List ℕ → List ℕ
output_with (refused k) output = output
output_with (ok bytes) output = bytes ++ drop (length bytes) output

-- what such a call answers before it returns: the count of what it writes, which is few enough to be returned, or a refusal; and what the output holds then
pub record Writes (o : Outcome (List ℕ)) (answer : Result ℕ Refusal) (old new : List ℕ) : Type 0 where
  pub returned : returned_of answer ≡ written o
  pub few : ForOk answer (λ n. n < 2 ^ 31)
  pub output : new ≡ output_with o old
