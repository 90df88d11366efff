-- Document 02, §4: the bytes of the shades on small leaves, as one computed theorem.
-- Assumes nothing.
use Prim.Native.Nat.{ℕ}
use mathlib.Core.Path.{◌≡◌, refl}
use mathlib.Core.List.{List, [], ◌∷◌}
use Rattle.grid.specs.Lists.{range, upto, filter, any, flat_map, member}
use Rattle.grid.specs.Grid.{size, cells_of, col, only, up, down, left, right, neighbours}
use Rattle.grid.specs.Cells.{square}
use Rattle.record.specs.Record.{◌>>=◌, unless, bit, number, field, cell_codes, there, step_from, step_cells, arrow_at, filler, arrows_at, read_record, Outcome, ok, refused}
use Rattle.board.specs.Board.{value_at, cells_after, decided, after, refusal}
use Rattle.groups.specs.Groups.{rename, join, join_all, edges, labels, group}
use Rattle.shades.specs.Shades.{block_first, block_count, shade_of, shades_on}
use Rattle.exported.specs.Written.{bytes_of}
use Rattle.calls.specs.Call.{accept_or, decide_bytes}
use Rattle.calls.specs.Shaded.{host_shades}
use Rattle.host.proofs.Leaves.{S}

-- two rows of two cells, no arrow
abbrev pub two_by_two : List ℕ
two_by_two = 0x08 ∷ 0x40 ∷ 0x00 ∷ 0x00 ∷ []

-- S with cells 1 and 2 square; a block round a corner whose first cell is not its leftmost, cell 3 first; cells that only touch at a corner; then the
-- refusals in their order
pub shaded :
    ◌≡◌ {A = List (Outcome (List ℕ))}
    (host_shades (S 0xE0) (0x80 ∷ 0x01 ∷ 0x80 ∷ 0x02 ∷ []) 12
    ∷ host_shades two_by_two (0x80 ∷ 0x03 ∷ 0x80 ∷ 0x02 ∷ 0x80 ∷ 0x01 ∷ []) 17
    ∷ host_shades two_by_two (0x80 ∷ 0x01 ∷ 0x80 ∷ 0x02 ∷ 0x00 ∷ 0x00 ∷ []) 16
    ∷ host_shades (S 0xE1) (0x04 ∷ []) 11
    ∷ host_shades (S 0xE0) (0x04 ∷ []) 11
    ∷ host_shades (S 0xE0) (0x84 ∷ 0x03 ∷ []) 12
    ∷ host_shades (S 0xE0) (0x80 ∷ 0x03 ∷ 0x04 ∷ 0x00 ∷ []) 12
    ∷ host_shades (S 0xE0) (0x80 ∷ 0x00 ∷ 0x00 ∷ 0x00 ∷ 0x00 ∷ []) 12
    ∷ host_shades (S 0xE0) (0x80 ∷ 0x00 ∷ 0x00 ∷ []) 12
    ∷ [])
    (ok (0 ∷ 0 ∷ 0 ∷ 0 ∷ 0 ∷ 1 ∷ 0 ∷ 2 ∷ 0 ∷ 1 ∷ 0 ∷ 2 ∷ [])
    ∷ ok (0 ∷ 0 ∷ 0 ∷ 0 ∷ 0 ∷ 1 ∷ 0 ∷ 3 ∷ 0 ∷ 1 ∷ 0 ∷ 3 ∷ 0 ∷ 1 ∷ 0 ∷ 3 ∷ [])
    ∷ ok (0 ∷ 0 ∷ 0 ∷ 0 ∷ 0 ∷ 1 ∷ 0 ∷ 1 ∷ 0 ∷ 2 ∷ 0 ∷ 1 ∷ 0 ∷ 0 ∷ 0 ∷ 0 ∷ [])
    ∷ refused 5
    ∷ refused 11
    ∷ refused 12
    ∷ refused 7
    ∷ refused 9
    ∷ refused 12
    ∷ [])
unfolding range upto member size cells_of col only up down left right neighbours rename join join_all edges labels group ◌>>=◌ unless bit number field cell_codes there step_from step_cells arrow_at filler arrows_at read_record value_at cells_after square decided after refusal accept_or decide_bytes block_first block_count shade_of shades_on bytes_of host_shades
shaded = refl
