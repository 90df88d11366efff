-- The same verdict whichever way up.
-- Assumes nothing.
use Prim.Native.Nat.{ℕ, ◌≤◌}
use native.Mathlib.Omega.{arith}
use mathlib.Core.Logic.{◌↔◌}
use mathlib.Core.Path.{◌≡◌, sym, ap, ◌∙◌, subst}
use mathlib.Core.List.{List, []}
use mathlib.Core.Option.{none, some}
use lib.ListN.{length}
use Rattle.grid.specs.Lists.{flat_map}
use Rattle.grid.specs.Cells.{Literal}
use Rattle.fields.proofs.OutcomeLaws.{ok-eq}
use Rattle.record.specs.Record.{Puzzle, Outcome, ok}
use Rattle.record.specs.Leaf.{Leaf, leaf_with, in_edition, leaf_of}
use Rattle.record.specs.Sizes.{numbers_of, Words}
use Rattle.record.specs.Write.{write_record}
use Rattle.record.proofs.RecordLaws.{Valid-size}
use Rattle.record.proofs.SizesLaws.{read_good, good_read}
use Rattle.record.proofs.LeafLaws.{ValidLeaf, Accepted, leaf_ok, ok_leaf, leaf_valid}
use Rattle.record.proofs.LineLaws.{valid_arrows}
use Rattle.board.specs.Board.{Call, cells_after, enough}
use Rattle.board.specs.Calls.{standing}
use Rattle.board.proofs.Standing.{Standing, none as empty, calls_Standing, cells_valid}
use Rattle.literals.specs.Literals.{Found}
use Rattle.reasons.specs.Reasons.{find_on}
use Rattle.reasons.specs.Find.{answer_on}
use Rattle.reasons.specs.Demand3.{board_after}
use Rattle.reasons.proofs.Demand3.{demand_3}
use Rattle.turn.specs.Turn.{Turn, turning, turned, carried}
use Rattle.turn.proofs.TurnLaws.{Turns, turning-Turns}
use Rattle.turn.proofs.PuzzleLaws.{turned-Valid, turned_read}
use Rattle.turn.proofs.BackLaws.{ok_turn}
use Rattle.verdict.specs.Applies.{Given}
use Rattle.verdict.specs.Isomorphism.{Isomorphism, SameReasons}
use Rattle.verdict.specs.Verdict.{turned_leaf, turned_numbers, turned_calls, turned_decisions, WhicheverWayUp}
use Rattle.verdict.proofs.GivenLaws.{none_not, Given-not}
use Rattle.verdict.proofs.SameReasons.{same_reasons}
use Rattle.verdict.proofs.Turnings.{turn_Isomorphism}
use Rattle.verdict.proofs.TurnedSizes.{by_cell_none, sizes_good, sizes_Words}
use Rattle.verdict.proofs.TurnedCalls.{calls_same, cells_same}

-- two answers of find are none together, so they are reasons together
both_Given : {x y : Found} → (x ≡ none) ↔ (y ≡ none) → Given x → Given y
both_Given {x} {y} w g = Given-not y (λ e. none_not (w.1 e) g)

-- what find says through a long enough buffer
module _ {o : Outcome Found} {x : Found} (e : o ≡ ok x) where
  said_none : (o ≡ ok none) ↔ (x ≡ none)
  said_none = (λ h. ok-eq (sym e ∙ h), λ h. e ∙ ap ok h)

  said_some : ((r : List Literal) × (o ≡ ok (some r))) ↔ Given x
  said_some = (λ (r, h). (r, ok-eq (sym e ∙ h)), λ (r, h). (r, e ∙ ap ok h))

-- a leaf that may stand, and its image
module _ (k : ℕ) (l : Leaf) (v : ValidLeaf l) where
  -- the turning
  abbrev m : Turn
  m = turning k l.puzzle.grid

  t : Turns l.puzzle.grid m
  t = turning-Turns k l.puzzle.grid

  image_valid : ValidLeaf (turned_leaf k l)
  unfolding turned
  image_valid = record { puzzle = turned-Valid k l.puzzle v.puzzle; edition = v.edition; sizes = sizes_good t (valid_arrows l.puzzle v.puzzle) v.sizes }

  module _ (cs : List Call) where
    -- what stands after the calls, and after the turned ones
    abbrev ds : List Literal
    ds = standing l.puzzle cs

    abbrev es : List Literal
    es = standing (turned k l.puzzle) (turned_calls k l.puzzle.grid cs)

    s : Standing l.puzzle.grid ds
    s = calls_Standing l.puzzle.grid cs

    -- the turned decisions stand
    pub image_stands : es ≡ turned_decisions k l.puzzle.grid ds
    unfolding turned
    image_stands = calls_same t cs empty

    -- and their cells are the turned cells
    image_cells : cells_after (turned k l.puzzle).grid es ≡ carried m (cells_after l.puzzle.grid ds)
    unfolding turned
    image_cells = ap (cells_after m.grid) image_stands ∙ cells_same t s

    isomorphism : Isomorphism l (turned_leaf k l) (cells_after l.puzzle.grid ds) (cells_after (turned k l.puzzle).grid es) m.to
    unfolding turned
    isomorphism = subst (λ c. Isomorphism l (turned_leaf k l) (cells_after l.puzzle.grid ds) c m.to) (sym image_cells) (turn_Isomorphism l t v (cells_after l.puzzle.grid ds))

    -- so each reason applies on the one exactly when on the other
    each_turned : SameReasons l (turned_leaf k l) (cells_after l.puzzle.grid ds) (cells_after (turned k l.puzzle).grid es)
    each_turned = same_reasons isomorphism v image_valid (cells_valid s) (cells_valid (calls_Standing (turned k l.puzzle).grid (turned_calls k l.puzzle.grid cs)))

    -- and find says none of the one exactly when of the other
    pub none_turned : (find_on l ds ≡ none) ↔ (find_on (turned_leaf k l) es ≡ none)
    unfolding find_on
    none_turned = each_turned.find

-- no sizes are turned to none
pub no_sizes_turned : (k e : ℕ) (p : Puzzle) → turned_numbers k (in_edition e p) ≡ []
unfolding numbers_of
no_sizes_turned k e p = ap numbers_of (by_cell_none (turning k p.grid).grid)

pub whichever_way_up : WhicheverWayUp
unfolding turned
whichever_way_up k n small s fits e ns l read cs = record {
  listed = listed;
  words = λ low. sizes_Words (turning-Turns k l.puzzle.grid) (valid_arrows l.puzzle v.puzzle) v.sizes (Valid-size v.puzzle) (subst Words listed low);
  bytes = bytes;
  turns = ok_turn k n s l.puzzle opens.read (omega arith) fits;
  accepted = accepted;
  stands = image_stands k l v cs;
  isomorphic = isomorphism k l v cs;
  each = each_turned k l v cs;
  nothing = λ q r ql rl a b al bl.
      let x = said_none (here q ql a al) in
      let y = said_none (there r rl b bl) in
      (λ h. y.1 (both.0 (x.0 h)), λ h. x.1 (both.1 (y.0 h)));
  reasoned = λ q r ql rl a b al bl.
      let x = said_some (here q ql a al) in
      let y = said_some (there r rl b bl) in
      (λ h. y.1 (both_Given both (x.0 h)), λ h. x.1 (both_Given (both.1, both.0) (y.0 h)));
}
  where
    -- what was accepted
    opens : Accepted s e ns l
    opens = leaf_ok s e ns read

    v : ValidLeaf l
    v = leaf_valid s e ns read

    listed : ns ≡ numbers_of l.sizes
    listed = (read_good l.puzzle ns opens.sizes).0

    -- the turned record
    bytes : List ℕ
    bytes = write_record (turned k l.puzzle)

    accepted : leaf_of bytes e (turned_numbers k l) ≡ ok (turned_leaf k l)
    accepted =
        ok_leaf bytes e (turned_numbers k l) (turned k l.puzzle) (turned_leaf k l).sizes (turned_read k l.puzzle v.puzzle) opens.one
        (good_read (turned k l.puzzle) (turned_leaf k l).sizes (image_valid k l v).sizes)
        ∙ ap (λ d. ok (leaf_with d (turned_leaf k l).sizes (turned k l.puzzle))) (sym opens.edition)

    both : (find_on l (standing l.puzzle cs) ≡ none) ↔ (find_on (turned_leaf k l) (standing (turned k l.puzzle) (turned_calls k l.puzzle.grid cs)) ≡ none)
    both = none_turned k l v cs

    here : (q : ℕ) → q ≤ 3 → (a : List ℕ) → enough l.puzzle.grid ≤ length a → answer_on (board_after s e ns cs) q a ≡ ok (find_on l (standing l.puzzle cs))
    here = (demand_3 s e ns l read cs cs).reasons

    there : (q : ℕ) → q ≤ 3 → (a : List ℕ) → enough (turned k l.puzzle).grid ≤ length a
        → answer_on (board_after bytes e (turned_numbers k l) (turned_calls k l.puzzle.grid cs)) q a
        ≡ ok (find_on (turned_leaf k l) (standing (turned k l.puzzle) (turned_calls k l.puzzle.grid cs)))
    there = (demand_3 bytes e (turned_numbers k l) (turned_leaf k l) accepted (turned_calls k l.puzzle.grid cs) (turned_calls k l.puzzle.grid cs)).reasons
