-- The squares of an arrow are in arrow blocks, and the arrays have their names.
-- Assumes nothing.
use Prim.Native.Nat.{ℕ, ◌+◌, ◌-◌, ◌*◌, ◌≤◌, ◌<◌}
use native.Mathlib.Omega.{arith}
use mathlib.Core.Path.{◌≡◌, refl, sym, ◌∙◌}
use mathlib.Core.Bool.{true, false}
use mathlib.Core.List.{List}
use lib.ListN.{length, get_or, take, length-take, length-drop}
use lib.Seq.{slice, get_or-take}
use Rattle.std.proofs.lemmas.List.{get_or-drop}
use borrow.Author.Tests.{eqb-true, eq-eqb}
use Rattle.std.proofs.lemmas.Bool.{and_from}
use Rattle.grid.proofs.CellLaws.{square_taken}
use Rattle.grid.specs.Grid.{Grid, size, cells_of}
use Rattle.grid.specs.Side.{sized}
use Rattle.grid.proofs.LinkLaws.{Linked-end}
use Rattle.grid.proofs.ListLaws.{mem-any}
use Rattle.grid.proofs.GridLaws.{in_cells}
use Rattle.grid.proofs.FilledLaws.{filled_at}
use Rattle.record.specs.Record.{Puzzle}
use Rattle.grid.specs.Cells.{empty, square}
use Rattle.groups.specs.Groups.{labels}
use Rattle.groups.specs.Arrows.{on_arrow}
use Rattle.groups.proofs.GroupLaws.{linked_size, label_own, label_linked}
use Rattle.kinds.specs.Kinds.{view, view_with, vacant, in_block, arrow_block, kind_at, kinds_of}
use Rattle.kinds.specs.Arrays.{kind_code, owner_by, kind_array, owner_array}
use Rattle.kinds.specs.Inside.{puzzle_with}
use Rattle.growth.specs.Pairs.{NextSquare, view_on, Stretch, Line, Squares}
use Rattle.kinds.proofs.BlockArrays.{kind_get}

-- the next square, in an array and among the grid's cells
pub next_taken : {cells arrows : List ℕ} {from to r : ℕ} (n : ℕ) → NextSquare cells arrows from to r → ((k : ℕ) → from ≤ k → k < to → get_or arrows k 0 < n)
    → NextSquare (take n cells) arrows from to r
next_taken {cells} {arrows} {from} {to} {r} n x inside = record {
  low = x.low;
  high = x.high;
  none = λ k p q. square_taken cells n (get_or arrows k 0) (inside k p (omega (arith, x.high))) ∙ x.none k p q;
  some = λ p. square_taken cells n (get_or arrows r 0) (inside r x.low p) ∙ x.some p;
}

-- a square of an arrow
module _ (p : Puzzle) (cells : List ℕ) (i : ℕ) (on : i < size p.grid) (sq : square cells i ≡ true) (arrow : on_arrow p.arrows i ≡ true) where
  abbrev g : Grid
  g = p.grid

  abbrev blocks : List ℕ
  blocks = labels g (square cells)

  not_empty : empty cells i ≡ false
  unfolding empty square
  not_empty = rw (eqb-true (get_or cells i 0) 1 sq) refl

  in_arrow_block : arrow_block p cells blocks (get_or blocks i 0) ≡ true
  unfolding arrow_block
  in_arrow_block = mem-any _ (cells_of g) (in_cells g i on) (and_from _ _ (and_from _ _ sq (eq-eqb (get_or blocks i 0) (get_or blocks i 0) refl)) arrow)

  kind_is : get_or (kinds_of p cells blocks) i vacant ≡ in_block (get_or blocks i 0)
  unfolding kind_at
  kind_is = kind_get p cells blocks i on ∙ rw (not_empty, sq, in_arrow_block) refl

  -- the name of its block stands in the array
  pub owner_is : get_or (owner_array (view p cells)) i 0 ≡ get_or (view p cells).blocks i 0
  unfolding owner_array view view_with owner_by cells_of
  owner_is = filled_at 1024 (λ j. owner_by (get_or (view p cells).floats j 0) (get_or (kinds_of p cells blocks) j vacant)) (size g) i on ∙ rw kind_is refl

  -- the name of its block is a cell of the grid
  pub name_inside : get_or (view p cells).blocks i 0 < size g
  unfolding view view_with
  name_inside = linked_size g (square cells) on (label_own g (square cells) i on sq)

  -- its name is a cell of the block
  name_square : square cells (get_or blocks i 0) ≡ true
  name_square = Linked-end (label_own g (square cells) i on sq)

  name_full : empty cells (get_or blocks i 0) ≡ false
  unfolding empty square
  name_full = rw (eqb-true (get_or cells (get_or blocks i 0) 0) 1 name_square) refl

  name_own : get_or blocks (get_or blocks i 0) 0 ≡ get_or blocks i 0
  name_own = sym (label_linked g (square cells) i (get_or blocks i 0) on (label_own g (square cells) i on sq))

  name_on : get_or blocks i 0 < size g
  name_on = linked_size g (square cells) on (label_own g (square cells) i on sq)

  name_kind : get_or (kinds_of p cells blocks) (get_or blocks i 0) vacant ≡ in_block (get_or blocks i 0)
  unfolding kind_at
  name_kind = kind_get p cells blocks (get_or blocks i 0) name_on ∙ rw (name_full, name_square, name_own, in_arrow_block) refl

  -- the number of the kind at its name says arrow block
  pub name_code : get_or (kind_array (view p cells)) (get_or (view p cells).blocks i 0) 0 ≡ 1
  unfolding kind_array view view_with kind_code cells_of
  name_code = filled_at 0 (λ j. kind_code (get_or (kinds_of p cells blocks) j vacant)) (size g) (get_or blocks i 0) name_on ∙ rw name_kind refl

-- ---- cells of an arrow

-- a part of a list
module _ (a b : ℕ) (l : List ℕ) where
  pub part_short : length (slice a b l) ≤ length l
  part_short = simp (length-drop, length-take) (omega arith)

  module _ (k : ℕ) (h : k < length (slice a b l)) where
    both : (k + a < b) × (k + a < length l)
    both = let u = simp (length-drop, length-take) at h in (omega (arith, u), omega (arith, u))

    pub part_within : a + k < length l
    part_within = omega (arith, both.1)

    pub part_at : get_or (slice a b l) k 0 ≡ get_or l (a + k) 0
    part_at = get_or-drop a (take b l) k 0 ∙ get_or-take b l (a + k) 0 (omega (arith, both.0))

module _ {h w : ℕ} {lines : List (List ℕ)} {cells arrows kinds owners : List ℕ} (s : Stretch h w lines cells arrows kinds owners) where
  -- a part of it
  pub Stretch-part : (a b : ℕ) → Stretch h w lines cells (slice a b arrows) kinds owners
  Stretch-part a b = record {
    held = s.held;
    few = omega (arith, s.few, part_short a b arrows);
    inside = λ k l. rw (part_at a b arrows k l) (s.inside (a + k) (omega (arith, part_within a b arrows k l)));
    are_on_arrow = λ k l. rw (part_at a b arrows k l) (s.are_on_arrow (a + k) (omega (arith, part_within a b arrows k l)));
  }

  module _ (k : ℕ) (q : k < length arrows) (sq : square cells (get_or arrows k 0) ≡ true) where
    pub scene_owner : get_or owners (get_or arrows k 0) 0 ≡ get_or (view_on h w lines cells).blocks (get_or arrows k 0) 0
    unfolding size
    scene_owner =
        rw s.held.owner
        (owner_is (puzzle_with (sized h w) lines) (take (h * w) cells) (get_or arrows k 0) (s.inside k q) (square_taken cells (h * w) (get_or arrows k 0) (s.inside k q) ∙ sq) (s.are_on_arrow k q))

    scene_name : get_or owners (get_or arrows k 0) 0 < h * w
    unfolding size
    scene_name =
        rw scene_owner
        (name_inside (puzzle_with (sized h w) lines) (take (h * w) cells) (get_or arrows k 0) (s.inside k q) (square_taken cells (h * w) (get_or arrows k 0) (s.inside k q) ∙ sq) (s.are_on_arrow k q))

    -- the name is a cell of an arrow block
    pub scene_kind : get_or kinds (get_or owners (get_or arrows k 0) 0) 0 ≡ 1
    unfolding size
    scene_kind =
        rw (scene_owner, s.held.kind)
        (name_code (puzzle_with (sized h w) lines) (take (h * w) cells) (get_or arrows k 0) (s.inside k q) (square_taken cells (h * w) (get_or arrows k 0) (s.inside k q) ∙ sq) (s.are_on_arrow k q))

-- the part of a line from one square to another
squares_part_long : (l : List ℕ) (last cur : ℕ) → last + 1 ≤ cur → cur < length l → length (slice last (cur + 1) l) ≡ cur + 1 - last
squares_part_long l last cur h u = simp (length-drop, length-take) (omega arith)

pub squares_part : {h w : ℕ} {cells arrow kinds owners : List ℕ} → Line h w cells arrow kinds owners → (last cur : ℕ) → last + 1 ≤ cur → cur < length arrow
    → square cells (get_or arrow last 0) ≡ true → square cells (get_or arrow cur 0) ≡ true → Squares h w cells (slice last (cur + 1) arrow) kinds owners
squares_part {cells = cells} {arrow} line last cur order within first second = record {
  line = record {
    lines = line.lines;
    stretch = Stretch-part line.stretch last (cur + 1);
    places = record { small = λ k l. rw (part_at last (cur + 1) arrow k l) (line.places.small (last + k) (part_within last (cur + 1) arrow k l)) };
  };
  two = omega (arith, long);
  first = rw (part_at last (cur + 1) arrow 0 (omega (arith, long))) (rw (← plus_none) at first);
  second = rw (part_at last (cur + 1) arrow (length (slice last (cur + 1) arrow) - 1) (omega (arith, long))) (rw (← to_end) at second);
}
  where
    long : length (slice last (cur + 1) arrow) ≡ cur + 1 - last
    long = squares_part_long arrow last cur order within

    plus_none : last + 0 ≡ last
    plus_none = omega arith

    to_end : last + (length (slice last (cur + 1) arrow) - 1) ≡ cur
    to_end = omega (arith, long)

-- two squares of an arrow: the names of their blocks are cells of the grid
module _ {h w : ℕ} {cells arrows kinds owners : List ℕ} (s : Squares h w cells arrows kinds owners) where
  pub last_name : get_or owners (get_or arrows 0 0) 0 < h * w
  last_name = scene_name s.line.stretch 0 (omega (arith, s.two)) s.first

  pub cur_name : get_or owners (get_or arrows (length arrows - 1) 0) 0 < h * w
  cur_name = scene_name s.line.stretch (length arrows - 1) (omega (arith, s.two)) s.second

  -- the names are those of arrow blocks
  pub last_kind : get_or kinds (get_or owners (get_or arrows 0 0) 0) 0 ≡ 1
  last_kind = scene_kind s.line.stretch 0 (omega (arith, s.two)) s.first

  pub cur_kind : get_or kinds (get_or owners (get_or arrows (length arrows - 1) 0) 0) 0 ≡ 1
  cur_kind = scene_kind s.line.stretch (length arrows - 1) (omega (arith, s.two)) s.second
