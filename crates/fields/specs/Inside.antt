-- What the functions answer, as outcomes of Fields: codes of cells, steps by row and column, how an arrow begins.
-- Assumes nothing.
use Rattle.std.specs.Prelude.{ℕ, ◌+◌, ◌*◌, ◌≡◌, ◌&&◌, List, ltb, Ok, Err}
use Rattle.std.specs.declared.result.Result.{Result}
use Rattle.grid.specs.Grid.{Grid}
use Rattle.refusal.specs.declared.Refusal.{Refusal}
use Rattle.refusal.specs.Refusals.{number_of}
use Rattle.fields.specs.Fields.{Outcome, ok, refused, ◌>>=◌, unless, field, step_from}
use Rattle.fields.specs.declared.Start.{Start}
use Rattle.fields.specs.declared.Place.{Place}
use Rattle.fields.specs.declared.BitReader.{BitReader}

-- n bits further in the same bytes
pub record Past (n : ℕ) (old new : BitReader) : Type 0 where
  pub same : new.bytes.now ≡ old.bytes.now
  pub on : new.at ≡ old.at + n

-- the code's answer agrees with the outcome: P holds of its value and the outcome's, or it is the same refusal
abbrev pub Agrees : {A B : Type 0} → Outcome A → (A → B → Type 0) → Result B Refusal → Type 0
Agrees {A} o P (Ok b) = (a : A) × (o ≡ ok a) × P a b
Agrees o P (Err r) = o ≡ refused (number_of r)

-- the code of a cell; 3 is refused
unfoldable pub cell_code : ℕ → Outcome ℕ
cell_code c = unless (ltb c 3) 2 >>= λ _. ok c

-- the code of the cell at `at`
unfoldable pub code_at : List ℕ → ℕ → Outcome ℕ
code_at s at = field s at 2 >>= cell_code

-- the cell at a place of a grid of this width, or the number of the refusal
abbrev pub cell_of : ℕ → Result Place Refusal → Outcome ℕ
cell_of width (Ok place) = ok (place.row * width + place.col)
cell_of width (Err r) = refused (number_of r)

-- the cell that the step at `at` leads to
unfoldable pub step_at : List ℕ → Grid → ℕ → ℕ → Outcome ℕ
step_at s g i at = field s at 2 >>= λ d. step_from g i d

-- the start of the arrow at `at`: three fields, and then the test of the first two
unfoldable pub opening_at : List ℕ → Grid → ℕ → Outcome Start
opening_at s g at =
    field s at 5 >>= λ y.
    field s (at + 5) 5 >>= λ x.
    field s (at + 10) 10 >>= λ k.
    unless (ltb y g.height && ltb x g.width) 3 >>= λ _.
    ok (record { place = record { row = y; col = x }; steps = k })
