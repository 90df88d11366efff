-- The bytes behind the last literal are unchanged, and all of them where there is none.
-- Assumes nothing.
use Prim.Native.Nat.{ℕ, ◌*◌}
use mathlib.Core.Path.{◌≡◌, refl, ap, ◌∙◌}
use mathlib.Core.List.{List, map}
use mathlib.Core.Option.{none, some}
use lib.ListN.{length, drop, length-map}
use lib.Seq.{drop_at}
use Rattle.grid.specs.Cells.{word}
use Rattle.record.specs.Record.{Outcome, ok, refused}
use Rattle.literals.specs.Literals.{Found}
use Rattle.exported.specs.Written.{bytes_of}
use Rattle.calls.specs.Found.{output_after, literal_count}
use Rattle.exported.proofs.BytesLaws.{bytes_length}

pub behind_unchanged : (o : Outcome Found) (output : List ℕ) → drop (2 * literal_count o) (output_after o output) ≡ drop (2 * literal_count o) output
unfolding output_after
behind_unchanged (refused k) output = refl
behind_unchanged (ok none) output = refl
behind_unchanged (ok (some r)) output =
    drop_at (bytes_of (map word r)) (drop (2 * length r) output) (2 * length r) (bytes_length (map word r) ∙ ap (λ (n : ℕ). 2 * n) (length-map r word))
