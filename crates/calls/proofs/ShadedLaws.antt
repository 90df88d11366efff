-- The call for the shades, step by step, and the bytes that it writes.
-- Assumes nothing.
use Prim.Native.Nat.{ℕ, ◌*◌, ◌≤◌, ◌<◌}
use native.Mathlib.Omega.{arith}
use mathlib.Core.Path.{◌≡◌, refl, sym, ap, ◌∙◌, subst}
use mathlib.Core.List.{List, [], ◌++◌}
use lib.ListN.{length, take, drop, replicate}
use lib.Seq.{take_at}
use Rattle.std.specs.Prelude.{Ok}
use Rattle.grid.specs.Grid.{Grid, size}
use Rattle.grid.specs.Side.{sized}
use Rattle.grid.specs.Cells.{Literal}
use Rattle.grid.specs.Lists.{array_of}
use Rattle.record.specs.Record.{ok, refused, ◌>>=◌, Puzzle, read_record}
use Rattle.record.specs.Leaf.{Leaf, in_edition}
use Rattle.record.proofs.RecordLaws.{record_Valid}
use Rattle.board.specs.Board.{cells_after}
use Rattle.board.proofs.Standing.{none}
use Rattle.shades.specs.Shades.{shades_on, in_places}
use Rattle.shades.proofs.ShadeLaws.{shades_length}
use Rattle.exported.specs.Written.{bytes_of, Writes}
use Rattle.exported.proofs.BytesLaws.{bytes_length}
use Rattle.exported.proofs.WrittenLaws.{Writes-ok}
use Rattle.calls.specs.Call.{decide_bytes}
use Rattle.calls.proofs.Steps.{bytes_Standing, states_taken, call_short, call_refused, call_done}
use Rattle.calls.specs.Shaded.{host_shades}

-- what the call needs and says
abbrev need : Grid → ℕ
need g = 4 * size g

abbrev says : Leaf → List Literal → List ℕ
says l ds = bytes_of (shades_on l.puzzle.grid (cells_after l.puzzle.grid ds))

-- a refused record
pub shades_unread : (s : List ℕ) {k : ℕ} → read_record s ≡ refused k → (decisions : List ℕ) (n : ℕ) → host_shades s decisions n ≡ refused k
unfolding host_shades ◌>>=◌
shades_unread s e decisions n = rw e refl

-- the record s is accepted, and these are the sizes of its grid
pub record Measures (s : List ℕ) (h w : ℕ) : Type 0 where
  pub puzzle : Puzzle
  pub reads : read_record s ≡ ok puzzle
  pub is : sized h w ≡ puzzle.grid

pub Measures-by : {s : List ℕ} {h w : ℕ} → (p : Puzzle) × (read_record s ≡ ok p) × (sized h w ≡ p.grid) → Measures s h w
Measures-by m = record { puzzle = m.0; reads = m.1; is = m.2 }

module _ {s : List ℕ} {h w : ℕ} (m : Measures s h w) where
  -- the grid has cells
  pub measures_some : (0 < h) × (0 < w)
  measures_some = subst (λ (g : Grid). (0 < g.height) × (0 < g.width)) (sym m.is) (record_Valid s m.reads).low

  measures_size : h * w ≡ size m.puzzle.grid
  unfolding size
  measures_size = ap size m.is

  module _ (decisions : List ℕ) (n : ℕ) where
    -- an output that is too short
    pub shades_short : n < 4 * (h * w) → host_shades s decisions n ≡ refused 11
    unfolding host_shades ◌>>=◌
    shades_short l = rw m.reads (call_short need says (in_edition 1 m.puzzle) decisions n (rw measures_size at l))

    module _ (l : 4 * (h * w) ≤ n) where
      -- a decision is refused
      pub shades_refused : {k : ℕ} → decide_bytes (sized h w) [] decisions ≡ refused k → host_shades s decisions n ≡ refused k
      unfolding host_shades ◌>>=◌
      shades_refused f = rw m.reads (call_refused need says (in_edition 1 m.puzzle) decisions n (rw measures_size at l) (rw m.is at f))

      -- all are accepted: the bytes for the states that they leave
      pub shades_done : {cells : List ℕ} → (ds : List Literal) × (decide_bytes (sized h w) [] decisions ≡ ok ds) × (cells ≡ array_of 2 (cells_after (sized h w) ds))
          → host_shades s decisions n ≡ ok (bytes_of (shades_on (sized h w) (take (h * w) cells)))
      unfolding host_shades ◌>>=◌
      shades_done {cells} d =
          let f = rw m.is at d.1 in
          let q : take (h * w) cells ≡ cells_after m.puzzle.grid d.0 = rw (measures_size, d.2, m.is) (states_taken (bytes_Standing m.puzzle.grid decisions none f)) in
          rw (q, m.is, m.reads) (call_done need says (in_edition 1 m.puzzle) decisions n (rw measures_size at l) f)

-- the bytes written are those for the board
pub shades_Writes : (g : Grid) (cells shades out new : List ℕ) → size g ≤ 1024 → shades ≡ in_places (shades_on g cells)
    → new ≡ bytes_of (take (2 * size g) shades) ++ drop (2 * (2 * size g)) out → Writes (ok (bytes_of (shades_on g cells))) (Ok (2 * (2 * size g))) out new
unfolding in_places
shades_Writes g cells shades out new k e f =
    let l : List ℕ = bytes_of (shades_on g cells) in
    let long : length l ≡ 2 * (2 * size g) = bytes_length (shades_on g cells) ∙ ap (λ (n : ℕ). 2 * n) (shades_length g cells) in
    let t : take (2 * size g) shades ≡ shades_on g cells = ap (take (2 * size g)) e ∙ take_at (shades_on g cells) (drop (length (shades_on g cells)) (replicate 2048 0)) (2 * size g) (shades_length g cells) in
    Writes-ok (ok l) out l new (2 * (2 * size g)) refl (sym long) (omega (arith, k))
    (f ∙ ap (λ (m : List ℕ). bytes_of m ++ drop (2 * (2 * size g)) out) t ∙ ap (λ (n : ℕ). l ++ drop n out) (sym long))
