-- The record: its fields in turn, and its refusals 1 to 5.
-- Assumes nothing.
use Rattle.std.specs.Prelude.{ℕ, zero, suc, ◌+◌, ◌*◌, ◌<◌, ◌&&◌, not, ltb, length}
use mathlib.Core.List.{List, [], ◌∷◌, ◌++◌, Memᴰ}
use Rattle.grid.specs.Lists.{member}
use Rattle.grid.specs.Grid.{Grid, size}
pub use Rattle.fields.specs.Fields.{Outcome, refused, ok}
unfoldable pub use Rattle.fields.specs.Fields.{◌>>=◌, unless, bit, number, field, there, step_from, filler}

-- a list of bytes, as a slice of u8 holds them
abbrev pub Bytes : List ℕ → Type 0
Bytes s = (x : ℕ) → Memᴰ x s → x < 256

-- what a record says: the grid, a code for each cell, the arrows as lists of cells
pub record Puzzle : Type 0 where
  pub grid : Grid
  pub given : List ℕ
  pub arrows : List (List ℕ)

-- n cells of two bits from at; code 3 is refused
unfoldable pub cell_codes : List ℕ → ℕ → ℕ → Outcome (List ℕ)
cell_codes s at zero = ok []
cell_codes s at (suc n) =
    field s at 2 >>= λ c.
    unless (ltb c 3) 2 >>= λ _.
    cell_codes s (at + 2) n >>= λ cs.
    ok (c ∷ cs)

-- the cells after i on an arrow of k further steps, read from at; used cells are refused
unfoldable pub step_cells : List ℕ → Grid → List ℕ → ℕ → ℕ → ℕ → Outcome (List ℕ)
step_cells s g used i at zero = ok []
step_cells s g used i at (suc k) =
    field s at 2 >>= λ d.
    step_from g i d >>= λ j.
    unless (not (member j used)) 4 >>= λ _.
    step_cells s g (j ∷ used) j (at + 2) k >>= λ js.
    ok (j ∷ js)

-- the arrow at `at`
unfoldable pub arrow_at : List ℕ → Grid → List ℕ → ℕ → Outcome (List ℕ)
arrow_at s g used at =
    field s at 5 >>= λ y.
    field s (at + 5) 5 >>= λ x.
    field s (at + 10) 10 >>= λ k.
    unless (ltb y g.height && ltb x g.width) 3 >>= λ _.
    unless (not (member (y * g.width + x) used)) 4 >>= λ _.
    step_cells s g ((y * g.width + x) ∷ used) (y * g.width + x) (at + 20) k >>= λ js.
    ok ((y * g.width + x) ∷ js)

-- m arrows from at, and the filler behind them
unfoldable pub arrows_at : List ℕ → Grid → List ℕ → ℕ → ℕ → Outcome (List (List ℕ))
arrows_at s g used at zero = unless (filler s at) 5 >>= λ _. ok []
arrows_at s g used at (suc m) =
    arrow_at s g used at >>= λ a.
    arrows_at s g (a ++ used) (at + 18 + 2 * length a) m >>= λ rest.
    ok (a ∷ rest)

-- the puzzle of a record, or its first fault
unfoldable pub read_record : List ℕ → Outcome Puzzle
read_record s =
    field s 0 5 >>= λ h.
    field s 5 5 >>= λ w.
    field s 10 11 >>= λ m.
    let g : Grid = record { height = h + 1; width = w + 1 } in
    cell_codes s 21 (size g) >>= λ cs.
    arrows_at s g [] (21 + 2 * size g) m >>= λ rest.
    ok (record { grid = g; given = cs; arrows = rest })
