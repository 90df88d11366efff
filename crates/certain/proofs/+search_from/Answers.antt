-- `certain::search_from` meets its contract: each way through it is one of the definition, and the undecided cells become fewer with each call.
-- Assumes nothing.
use Prim.Native.Nat.{ℕ, ◌*◌, ◌≤◌, ◌<◌}
use native.Mathlib.Omega.{arith}
use mathlib.Core.Path.{◌≡◌, ap, ◌∙◌, subst}
use mathlib.Core.Bool.{true}
use mathlib.Core.List.{List}
use lib.ListN.{length, get_or, set, take}
use lib.Seq.{set-set}
use Rattle.std.specs.Prelude.{Option, Some}
use Rattle.grid.specs.Lists.{how_many}
use Rattle.grid.proofs.ArrayLaws.{fewer_set}
use Rattle.form.specs.Form.{problem_formed}
use Rattle.form.proofs.ProblemForm.{Formed-is}
use Rattle.sizes.specs.declared.LentLeaf.{LentLeaf}
use Rattle.sizes.specs.LeafOf.{leaf_of}
use Rattle.finished.proofs.VerdictLaws.{few}
use Rattle.certain.specs.Inside.{States, left_number, Meets}
use Rattle.certain.proofs.StepLaws.{States-set, cells_long}
use Rattle.certain.proofs.WayLaws.{way_none, way_back, undecided_there, way_exhausted, way_both}
use Rattle.certain.proofs.+search_from.Goals as goal

-- how many cells the leaf has
abbrev cells_of : LentLeaf → ℕ
cells_of leaf = leaf.problem.now.height * leaf.problem.now.width

module _ (leaf : LentLeaf) (formed : problem_formed leaf.problem.now ≡ true) (states : List ℕ) (s : States states) where
  size_is : length (take (cells_of leaf) states) ≡ cells_of leaf
  size_is = let q = leaf.problem.now in cells_long q (Formed-is q formed) leaf.edition (leaf_of leaf).sizes s

  -- an undecided cell is met, with some steps left
  module _ (before : List ℕ) (long : length before ≡ 1024) (left : ℕ) (some : 0 < left) {m : Option ℕ} {after : List ℕ} (i : ℕ) (is : m ≡ Some i) (meets : Meets (leaf_of leaf) (cells_of leaf) states before after m) where
    there : Meets (leaf_of leaf) (cells_of leaf) states before after (Some i)
    there = subst (λ (r : Option ℕ). Meets (leaf_of leaf) (cells_of leaf) states before after r) is meets

    spot : (i < cells_of leaf) × (get_or states i 0 ≡ 2)
    spot = undecided_there (cells_of leaf) left (leaf_of leaf) states before long some size_is there

    less : (v : ℕ) → v ≤ 1 → how_many 2 (set states i v) < how_many 2 states
    less v low = omega (arith, fewer_set states i v spot.1 (λ e. omega (arith, e, low)) (omega (arith, low)))

pub returns-then-left-eq0 : goal.returns-then-left-eq0
returns-then-left-eq0 t c =
    let a = c.args in
    way_none (cells_of a.leaf.now) a.left (leaf_of a.leaf.now) a.cells.now a.facts.now c.told-facts c.if-left-eq0.true

pub search_from-first-requires : goal.search_from-first-requires
search_from-first-requires t c =
    let a = c.args in
    let some : 0 < a.left = omega (arith, c.if-left-eq0.false) in (
      omega (arith, c.decreases, less a.leaf.now c.requires.formed a.cells.now c.requires.states a.facts.now c.told-facts a.left some c.in-Some.i c.in-Some.is c.step.ensures.met 1 (omega arith)),
      (c.requires.formed, States-set c.in-Some.i 1 c.requires.states (omega arith)),
    )

pub search_from-second-requires : goal.search_from-second-requires
search_from-second-requires t c =
    let a = c.args in
    let i = c.in-Some.i in
    let some : 0 < a.left = omega (arith, c.if-left-eq0.false) in
    let e : set c.search_from-first.new.cells i 0 ≡ set a.cells.now i 0 = ap (λ (z : List ℕ). set z i 0) c.search_from-first.ensures.same ∙ set-set a.cells.now i 1 0 in
    let fall : how_many 2 (set c.search_from-first.new.cells i 0) < how_many 2 a.cells.now = rw e (less a.leaf.now c.requires.formed a.cells.now c.requires.states a.facts.now c.told-facts a.left some i c.in-Some.is c.step.ensures.met 0 (omega arith)) in (
      omega (arith, c.decreases, fall),
      (c.requires.formed, rw e (States-set i 0 c.requires.states (omega arith))),
    )

pub returns-in_default : goal.returns-in_default
returns-in_default t c =
    let a = c.args in
    let some : 0 < a.left = omega (arith, c.if-left-eq0.false) in
    way_back (cells_of a.leaf.now) a.left (leaf_of a.leaf.now) a.cells.now a.facts.now c.told-facts some (size_is a.leaf.now c.requires.formed a.cells.now c.requires.states) c.in_default.ensures.met

pub returns-in-None : goal.returns-in-None
returns-in-None t c =
    let a = c.args in
    let some : 0 < a.left = omega (arith, c.if-left-eq0.false) in
    way_exhausted (cells_of a.leaf.now) a.left (leaf_of a.leaf.now) a.cells.now a.facts.now c.told-facts some (size_is a.leaf.now c.requires.formed a.cells.now c.requires.states)
    (there a.leaf.now c.requires.formed a.cells.now c.requires.states a.facts.now c.told-facts a.left some c.in-Some.i c.in-Some.is c.step.ensures.met)
    (omega arith) (ap left_number c.in-None.is) c.search_from-first.ensures

pub returns-in-Some-first : goal.returns-in-Some-first
returns-in-Some-first t c =
    let a = c.args in
    let some : 0 < a.left = omega (arith, c.if-left-eq0.false) in
    way_both (cells_of a.leaf.now) a.left (leaf_of a.leaf.now) a.cells.now a.facts.now c.told-facts some (size_is a.leaf.now c.requires.formed a.cells.now c.requires.states)
    (there a.leaf.now c.requires.formed a.cells.now c.requires.states a.facts.now c.told-facts a.left some c.in-Some.i c.in-Some.is c.step.ensures.met)
    (rw c.in-Some-first.is at c.search_from-first.ensures) c.search_from-second.ensures
