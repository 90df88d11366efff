-- A leaf without sizes behaves as before: its block rules are the first two, its reasons are 1 to 4, and so a find on its boards answers.
-- Assumes nothing.
use Prim.Native.Nat.{ℕ, ◌≤◌, ◌<◌}
use mathlib.Core.Logic.{◌↔◌}
use mathlib.Core.Path.{◌≡◌, refl, ap, ◌∙◌}
use mathlib.Core.Bool.{true}
use mathlib.Core.List.Memᴰ
use mathlib.Core.List.{List, []}
use lib.ListN.{length}
use Rattle.grid.specs.Lists.{filter}
use Rattle.grid.specs.Grid.{size}
use Rattle.grid.specs.Cells.{square}
use Rattle.record.specs.Record.{Puzzle, ok, read_record}
use Rattle.record.specs.Leaf.{in_edition, is_edition}
use Rattle.record.proofs.LeafLaws.{plain_leaf}
use Rattle.board.specs.Board.{Call, cells_after, enough}
use Rattle.board.specs.Calls.{standing}
use Rattle.groups.specs.Rules.{SameBlock, OneArrowCell, Grown, Next, BlockRules}
use Rattle.kinds.specs.Kinds.{view}
use Rattle.literals.specs.Literals.{or_else, first_found_of}
use Rattle.units.specs.Units.{reason1}
use Rattle.paths.specs.Paths.{reason2}
use Rattle.growth.specs.Growth.{reason34}
use Rattle.sized.specs.Sized.{reason5}
use Rattle.sized.proofs.SizeLaws.{or_none}
use Rattle.reasons.specs.Reasons.{find_reason, find_on}
use Rattle.reasons.specs.Find.{answer_on}
use Rattle.reasons.specs.Demand3.{board_after}
use Rattle.reasons.proofs.Demand3.{demand_3}

-- each block has exactly one arrow cell, and later blocks are earlier ones, grown
pub rules_without : (e : ℕ) (p : Puzzle) (cells : List ℕ)
    → BlockRules (in_edition e p) cells
    ↔ (((i : ℕ) → i < size p.grid → square cells i ≡ true → OneArrowCell p cells i)
    × ((i j : ℕ) → Next p cells i j → Grown e p.grid (SameBlock p.grid cells i) (SameBlock p.grid cells j)))
rules_without e p cells = (λ r. (r.one, r.grown), λ r. record { one = r.0; grown = r.1; sized = λ q m _. absurd (Memᴰ.not-nil m) })

-- reason 1, else 2, else 3 and 4
pub reason_without : (e : ℕ) (p : Puzzle) (cells : List ℕ)
    → find_reason (in_edition e p) cells ≡ or_else (reason1 p cells) (or_else (reason2 p cells) (reason34 e (view p cells)))
unfolding find_reason reason5 first_found_of
reason_without e p cells = rw (or_none (reason34 e (view p cells))) refl

-- so a find on a board that was opened without sizes, after any list of calls
pub find_without : (s : List ℕ) (e : ℕ) (p : Puzzle) → read_record s ≡ ok p → is_edition e ≡ true → (cs : List Call) (q : ℕ) → q ≤ 3 → (a : List ℕ) → enough p.grid ≤ length a
    → let cells = cells_after p.grid (standing p cs) in
    answer_on (board_after s e [] cs) q a ≡ ok (or_else (reason1 p cells) (or_else (reason2 p cells) (reason34 e (view p cells))))
find_without s e p r h cs q u a l =
    (demand_3 s e [] (in_edition e p) (plain_leaf s e p r h) cs cs).reasons q u a l ∙ (unfold find_on in ap ok (reason_without e p (cells_after p.grid (standing p cs))))
