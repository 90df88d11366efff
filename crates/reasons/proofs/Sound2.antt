-- Reason 2 is sound.
-- Assumes nothing.
use Prim.Native.Nat.{ℕ}
use mathlib.Core.Path.{◌≡◌, refl, sym, ◌∙◌, subst}
use mathlib.Core.Bool.{So}
use mathlib.Core.List.{List, [], ◌∷◌, Memᴰ}
use mathlib.Core.Option.{some}
use Rattle.std.proofs.Math.Option.{none-ne-some}
use borrow.Author.Tests.{eq-eqb}
use mathlib.Core.Logic.{◌≢◌}
use Rattle.grid.specs.Lists.{Distinct, filter}
use Rattle.grid.proofs.ListLaws.{filter-mem, Distinct-filter}
use Rattle.grid.specs.Grid.{Grid}
use Rattle.grid.proofs.LinkLaws.{Linked-start}
use Rattle.grid.specs.Cells.{Literal, square, Agrees}
use Rattle.groups.proofs.GroupLaws.{group-mem, group-Distinct}
use Rattle.groups.specs.Groups.{labels, group, names}
use Rattle.groups.specs.Arrows.{OnArrow, on_arrow}
use Rattle.groups.proofs.ArrowLaws.{arrow_So}
use Rattle.kinds.proofs.Bridge.{sq<, block_Labels}
use Rattle.kinds.specs.Meaning.{PartialBoard, Block, Setting, partial_of}
use Rattle.reasons.proofs.First.{Agrees-each, first_some}
use Rattle.reasons.proofs.Plain.{RulesAt}
use Rattle.literals.specs.Literals.{each}
use Rattle.paths.specs.Paths.{reason2_at, reason2, way}
use Rattle.paths.proofs.Walk.{path_Linked}

module _ (set : Setting) where
  open set use {puzzle, cells, valid}

  abbrev grid : Grid
  grid = puzzle.grid

  abbrev arrows : List (List ℕ)
  arrows = puzzle.arrows

  -- the board, as Confine takes it
  abbrev B : PartialBoard
  B = partial_of set

  -- the block named f
  abbrev pub block_of : ℕ → List ℕ
  block_of f = group grid (square cells) (labels grid (square cells)) f

  -- what reason 2 gives
  pub record Two (r : List Literal) : Type 0 where
    pub a : ℕ
    pub b : ℕ
    pub arrow_a : OnArrow arrows a
    pub arrow_b : OnArrow arrows b
    pub differ : a ≢ b
    pub joined : Block B b a
    pub is : r ≡ each 1 (way grid cells a b)

  -- what reason 2 found
  pub Two-of : (r : List Literal) → reason2 puzzle cells ≡ some r → Two r
  unfolding reason2 reason2_at
  Two-of r e =
      let w = first_some (λ f. reason2_at grid cells (filter (on_arrow arrows) (block_of f))) (names grid (square cells) (labels grid (square cells))) r e in
      go w.0 (filter (on_arrow arrows) (block_of w.0)) (λ x m. m) (Distinct-filter (on_arrow arrows) (block_of w.0) (group-Distinct grid (square cells) (labels grid (square cells)) w.0)) w.2
    where
      go : (f : ℕ) (l : List ℕ) → ((x : ℕ) → Memᴰ x l → Memᴰ x (filter (on_arrow arrows) (block_of f))) → Distinct l → reason2_at grid cells l ≡ some r → Two r
      go f [] h d k = absurd (none-ne-some r k)
      go f (a ∷ []) h d k = absurd (none-ne-some r k)
      go f (a ∷ b ∷ rest) h d k =
          let ma = filter-mem (on_arrow arrows) (block_of f) (h a (Memᴰ.head refl)) in
          let mb = filter-mem (on_arrow arrows) (block_of f) (h b (Memᴰ.tail (Memᴰ.head refl))) in
          let ba = group-mem grid (square cells) (labels grid (square cells)) f a ma.0 in
          let bb = group-mem grid (square cells) (labels grid (square cells)) f b mb.0 in
          record {
            a = a;
            b = b;
            arrow_a = arrow_So arrows a ma.1;
            arrow_b = arrow_So arrows b mb.1;
            differ = λ z. d.0 (Memᴰ.head z);
            joined = (block_Labels set).same b a bb.1 ba.1 (bb.2 ∙ sym ba.2);
            is = cc;
          }

  -- reason 2 is sound
  pub reason2_sound : {e : ℕ} (r : List Literal) → reason2 puzzle cells ≡ some r → (full : List ℕ) → Agrees full r → ¬ RulesAt e puzzle full
  unfolding square
  reason2_sound r e full ag rules =
      let w = Two-of r e in
      let ag' : Agrees full (each 1 (way grid cells w.a w.b)) = subst (Agrees full) w.is ag in
      w.differ (rules.one w.a w.b w.arrow_a w.arrow_b
      (path_Linked grid cells (sq< set) w.b (Linked-start w.joined) (λ c. So (square full c)) w.a w.joined
      (λ y m. eq-eqb _ _ (Agrees-each full 1 (way grid cells w.a w.b) ag' y m))))
