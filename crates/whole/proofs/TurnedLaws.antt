-- A turned leaf: a full board is finished exactly when its turned image is, in any edition.
-- Assumes nothing.
use Prim.Native.Nat.{ℕ}
use mathlib.Core.Logic.{◌↔◌, inl}
use mathlib.Core.Path.{◌≡◌, sym}
use mathlib.Core.List.Memᴰ
use mathlib.Core.List.{List, map}
use lib.ListN.{length}
use Rattle.grid.specs.Grid.{size}
use Rattle.grid.proofs.PlaceLaws.{Adjacent-on}
use Rattle.record.specs.Record.{Puzzle, ok, read_record}
use Rattle.record.specs.Valid.{Valid}
use Rattle.record.specs.Leaf.{in_edition}
use Rattle.record.proofs.FreshLaws.{Arrows-size}
use Rattle.record.proofs.RecordLaws.{record_Valid}
use Rattle.board.specs.Board.{Full}
use Rattle.finished.specs.Finished.{Finished}
use Rattle.turn.specs.Turn.{Turn, turning, carried, turned_by, turned, turned_cells}
use Rattle.turn.proofs.TurnLaws.{Turns, turning-Turns}
use Rattle.turn.proofs.PuzzleLaws.{carried-length, carried_at, carried_to}
use Rattle.whole.specs.Whole.{Part, Whole}
use Rattle.whole.proofs.WholeLaws.{whole_Finished}

module _ (p : Puzzle) (v : Valid p) (m : Turn) (t : Turns p.grid m) (cells : List ℕ) (n : length cells ≡ size p.grid) where
  -- a board and its image
  Part-by : Part p (turned_by m p) m.to cells (carried m cells)
  Part-by = record {
    embeds = t.embeds;
    codes = carried_to t p.given;
    states = carried_to t cells;
    near = λ i j l e s. let b = Adjacent-on m.grid (m.to i) j e in (m.from j, t.into j b, t.to_from j b);
    on = Arrows-size v.arrows;
    arrows = λ a k. Memᴰ.map (map m.to) k;
    only = λ b k i l _. let r = Memᴰ.of_map (map m.to) p.arrows k in (r.0, r.1, sym r.2);
    long = n;
  }

  -- .. make up the whole
  Finished-by : (e : ℕ) → Finished (in_edition e (turned_by m p)) (carried m cells) ↔ Finished (in_edition e p) cells
  Finished-by e =
      let r = whole_Finished w e in
      (λ F. r.0 F tt, λ F. r.1 (λ _. F))
    where
      w : Whole {A = Unit {0}} (λ _. p) (turned_by m p) (λ _. m.to) (λ _. cells) (carried m cells)
      w = record {
        part = λ _. Part-by;
        covers = λ j l. inl (tt, m.from j, t.into j l, t.to_from j l);
        whose = λ b k. let r = Memᴰ.of_map (map m.to) p.arrows k in (tt, r.0, r.1, sym r.2);
        total = carried-length m cells;
      }

-- the turned image of a full board is full
pub turned-Full : (k : ℕ) (p : Puzzle) (cells : List ℕ) → Full p.grid cells → Full (turned k p).grid (turned_cells k p.grid cells)
unfolding turned turned_cells
turned-Full k p cells full =
    let m = turning k p.grid in
    let t = turning-Turns k p.grid in
    record { long = carried-length m cells; each = λ j l. rw (carried_at m cells j l) (full.each (m.from j) (t.into j l)) }

-- for every turning of an accepted record and in every edition: a full board is finished exactly when its turned image is
pub turned-Finished : (k : ℕ) (s : List ℕ) (p : Puzzle) → read_record s ≡ ok p → (e : ℕ) (cells : List ℕ) → Full p.grid cells
    → Finished (in_edition e p) cells ↔ Finished (in_edition e (turned k p)) (turned_cells k p.grid cells)
unfolding turned turned_cells
turned-Finished k s p reads e cells full =
    let r = Finished-by p (record_Valid s reads) (turning k p.grid) (turning-Turns k p.grid) cells full.long e in
    (r.1, r.0)
