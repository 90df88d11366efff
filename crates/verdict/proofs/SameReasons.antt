-- Boards that are the same up to the names of their cells: each reason applies on both or on neither, and find gives none on both or on neither.
-- Assumes nothing.
use Prim.Native.Nat.{ℕ}
use mathlib.Core.Logic.{◌↔◌}
use mathlib.Core.Path.{◌≡◌, sym, ap, ◌∙◌, subst}
use mathlib.Core.List.Memᴰ
use mathlib.Core.List.{List, map, Memᴰ}
use mathlib.Core.Option.{none}
use Rattle.grid.specs.Cells.{ValidCells}
use Rattle.grid.proofs.ListLaws.{map_home}
use Rattle.record.specs.Valid.{ValidArrows}
use Rattle.record.proofs.LineLaws.{valid_arrows}
use Rattle.record.specs.Leaf.{Range, Leaf}
use Rattle.record.proofs.LeafLaws.{ValidLeaf}
use Rattle.kinds.specs.Meaning.{Setting}
use Rattle.reasons.specs.Reasons.{find_reason}
use Rattle.embed.proofs.InverseLaws.{back, away, home, back_embeds}
use Rattle.verdict.specs.Applies.{Lone, TwoArrowCells, Unshiftable, Misgrown, OutOfRange, Applies, first, second, third, fourth, fifth}
use Rattle.verdict.specs.Isomorphism.{range_to, Isomorphism, SameReasons}
use Rattle.verdict.proofs.GivenLaws.{none-Given}
use Rattle.verdict.proofs.Applied.{meant}
use Rattle.verdict.proofs.AlikeLaws.{Alike, reverse}
use Rattle.verdict.proofs.Carried.{Lone-to, TwoArrowCells-to, Unshiftable-to, Misgrown-to, OutOfRange-to}

-- what applies on one leaf applies on another, if each reason that applies on the one applies on the other
Applies-by : {l m : Leaf} {cells cells' : List ℕ}
    → (Lone l.puzzle cells → Lone m.puzzle cells') → (TwoArrowCells l.puzzle cells → TwoArrowCells m.puzzle cells')
    → (Unshiftable l.puzzle cells → Unshiftable m.puzzle cells')
    → (Misgrown l.puzzle cells l.edition → Misgrown m.puzzle cells' m.edition) → (OutOfRange l.puzzle cells l.sizes → OutOfRange m.puzzle cells' m.sizes)
    → Applies l cells → Applies m cells'
Applies-by one two three four five (first w) = first (one w)
Applies-by one two three four five (second w) = second (two w)
Applies-by one two three four five (third w) = third (three w)
Applies-by one two three four five (fourth w) = fourth (four w)
Applies-by one two three four five (fifth w) = fifth (five w)

module _ {l m : Leaf} {cells cells' : List ℕ} {f : ℕ → ℕ} (s : Isomorphism l m cells cells' f) (v : ValidLeaf l) (v' : ValidLeaf m)
    (valid : ValidCells l.puzzle.grid cells) (valid' : ValidCells m.puzzle.grid cells') where
  -- the arrow cells lie on the grid
  lines : ValidArrows l.puzzle.grid l.puzzle.arrows
  lines = valid_arrows l.puzzle v.puzzle

  -- the two boards
  abbrev a : Setting
  a = record { puzzle = l.puzzle; lines = lines; cells = cells; valid = valid }

  abbrev b : Setting
  b = record { puzzle = m.puzzle; lines = valid_arrows m.puzzle v'.puzzle; cells = cells'; valid = valid' }

  -- the way back
  abbrev from : ℕ → ℕ
  from = back s.embeds s.onto

  alike : Alike a b f from
  alike = record {
    there = s.embeds;
    back = back_embeds s.embeds s.onto;
    home = home s.embeds s.onto;
    away = away s.embeds s.onto;
    arrows = s.arrows;
    arrows_back = sym (ap (map (map from)) s.arrows ∙ map_home (map f) (map from) l.puzzle.arrows (λ a k. map_home f from a (λ x n. home s.embeds s.onto x (lines.on a k x n))));
    states = s.states;
  }

  -- the sizes go there and come back
  sizes_to : (r : Range) → Memᴰ r l.sizes → Memᴰ (range_to f r) m.sizes
  sizes_to r k = (s.sizes (range_to f r)).1 (Memᴰ.map (range_to f) k)

  sizes_back : (r : Range) → Memᴰ r m.sizes → Memᴰ (range_to from r) l.sizes
  sizes_back r k =
      let (x, n, e) = Memᴰ.of_map (range_to f) l.sizes ((s.sizes r).0 k) in
      let (o, p, q) = (v.sizes.each x n).on in
      let z : from (f x.cell) ≡ x.cell = home s.embeds s.onto x.cell (lines.on o p x.cell q) in
      let y : range_to from r ≡ x = ap (range_to from) (sym e) ∙ ap (λ c. record { cell = c; lowest = x.lowest; highest = x.highest }) z in
      subst (λ x. Memᴰ x l.sizes) (sym y) n

  pub same_reasons : SameReasons l m cells cells'
  same_reasons = record {
    one = one;
    two = two;
    three = three;
    four = four;
    five = five;
    find = (
      λ e. given'.1 (λ w. given.0 e (Applies-by one.1 two.1 three.1 four.1 five.1 w)),
      λ e. given.1 (λ w. given'.0 e (Applies-by one.0 two.0 three.0 four.0 five.0 w)),
    );
  }
    where
      one : Lone l.puzzle cells ↔ Lone m.puzzle cells'
      one = (Lone-to alike, Lone-to (reverse alike))

      two : TwoArrowCells l.puzzle cells ↔ TwoArrowCells m.puzzle cells'
      two = (TwoArrowCells-to alike, TwoArrowCells-to (reverse alike))

      three : Unshiftable l.puzzle cells ↔ Unshiftable m.puzzle cells'
      three = (Unshiftable-to alike, Unshiftable-to (reverse alike))

      four : Misgrown l.puzzle cells l.edition ↔ Misgrown m.puzzle cells' m.edition
      four = (
        λ w. subst (Misgrown m.puzzle cells') (sym s.edition) (Misgrown-to alike l.edition w),
        λ w. subst (Misgrown l.puzzle cells) s.edition (Misgrown-to (reverse alike) m.edition w),
      )

      five : OutOfRange l.puzzle cells l.sizes ↔ OutOfRange m.puzzle cells' m.sizes
      five = (OutOfRange-to alike sizes_to, OutOfRange-to (reverse alike) sizes_back)

      given : (find_reason l cells ≡ none) ↔ (¬ Applies l cells)
      given = none-Given (find_reason l cells) (meant l v cells valid).some

      given' : (find_reason m cells' ≡ none) ↔ (¬ Applies m cells')
      given' = none-Given (find_reason m cells') (meant m v' cells' valid').some
