-- Where reason 1 or 2 is not given it does not apply.
-- Assumes nothing.
use Prim.Native.Nat.{ℕ}
use mathlib.Core.Logic.{◌≢◌}
use mathlib.Core.Path.{◌≡◌, refl, sym, ◌∙◌}
use mathlib.Core.Bool.{So, ◌&&◌, not}
use mathlib.Core.List.Memᴰ
use mathlib.Core.List.{List, [], ◌∷◌, Memᴰ}
use mathlib.Core.Option.{none}
use Rattle.std.proofs.Math.Option.{some-ne-none}
use lib.ListN.{get_or}
use Rattle.std.proofs.lemmas.Bool.{and_from}
use Rattle.grid.specs.Lists.{filter, any}
use Rattle.grid.proofs.ListLaws.{mem-filter, So-not, any-mem, mem-any}
use Rattle.grid.specs.Grid.{Grid, Adjacent}
use Rattle.grid.specs.Link.{Linked, here}
use Rattle.grid.proofs.LinkLaws.{Linked-end, Linked-map, Linked-start}
use Rattle.grid.specs.Cells.{empty, square, potential}
use Rattle.grid.proofs.CellLaws.{square_not_empty}
use Rattle.groups.proofs.GroupLaws.{mem-group, own_names, group_linked, linked_group}
use Rattle.groups.specs.Groups.{labels, group, names}
use Rattle.groups.specs.Arrows.{OnArrow, on_arrow}
use Rattle.groups.proofs.ArrowLaws.{arrow_So, So-arrow}
use Rattle.kinds.proofs.Bridge.{sq<, block_name}
use Rattle.kinds.specs.Meaning.{PartialBoard, Block, Setting, partial_of}
use Rattle.units.specs.Units.{reason1_at, reason1}
use Rattle.paths.specs.Paths.{reason2_at, reason2}
use Rattle.reasons.proofs.First.{reason_if-none, first_none}
use Rattle.reasons.proofs.Sound1.{So-filled, potential<, filled_So}
use Rattle.reasons.proofs.Sound2.{block_of}

module _ (set : Setting) where
  open set use {puzzle, cells}

  abbrev grid : Grid
  grid = puzzle.grid

  abbrev arrows : List (List ℕ)
  arrows = puzzle.arrows

  -- the board, as Confine takes it
  abbrev B : PartialBoard
  B = partial_of set

  -- no square's potential group is without an arrow cell
  pub quiet_1 : reason1 puzzle cells ≡ none → (s : ℕ) → So (square cells s) → ¬ ((c : ℕ) → Linked (Adjacent grid) (λ k. ¬ So (empty cells k)) s c → ¬ OnArrow arrows c)
  unfolding reason1 reason1_at
  quiet_1 e s sq none_there =
      let fs : So (potential cells s) = filled_So set s (square_not_empty cells s sq) in
      let s< = potential< set s fs in
      let c : List ℕ = group grid (potential cells) l (get_or l s 0) in
      let k = first_none (λ f. reason1_at puzzle cells (group grid (potential cells) l f)) (names grid (potential cells) l) e (own_names grid (potential cells) s s< fs) in
      reason_if-none (any (square cells) c && not (any (on_arrow arrows) c)) _ k
      (and_from _ _ (mem-any (square cells) c (mem-group grid (potential cells) l (get_or l s 0) s s< fs refl) sq)
      (So-not (any (on_arrow arrows) c) (λ a.
      let w = any-mem (on_arrow arrows) c a in
      none_there w.0 (Linked-map (λ x q. So-filled set x (Linked-end q)) (group_linked grid (potential cells) s w.0 s< fs w.1)) (arrow_So arrows w.0 w.2))))
    where
      l : List ℕ
      l = labels grid (potential cells)

  two_none : (a b : ℕ) (l : List ℕ) → Memᴰ a l → Memᴰ b l → a ≢ b → reason2_at grid cells l ≡ none → ⊥
  unfolding reason2_at
  two_none a b [] ma mb ne e = Memᴰ.not-nil ma
  two_none a b (x ∷ []) ma mb ne e = ne (Memᴰ.eq_of_singleton ma ∙ sym (Memᴰ.eq_of_singleton mb))
  two_none a b (x ∷ y ∷ l) ma mb ne e = some-ne-none _ e

  -- no two arrow cells are in one block
  pub quiet_2 : reason2 puzzle cells ≡ none → (a b : ℕ) → OnArrow arrows a → OnArrow arrows b → a ≢ b → ¬ Block B a b
  unfolding reason2
  quiet_2 e a b aa ab ne l =
      let a< = sq< set a (Linked-start l) in
      let c : List ℕ = block_of set (block_name set a) in
      let k = first_none (λ f. reason2_at grid cells (filter (on_arrow arrows) (block_of set f))) (names grid (square cells) (labels grid (square cells))) e (own_names grid (square cells) a a< (Linked-start l)) in
      two_none a b (filter (on_arrow arrows) c)
      (mem-filter (on_arrow arrows) c (linked_group grid (square cells) a a a< (here (Linked-start l))) (So-arrow arrows a aa))
      (mem-filter (on_arrow arrows) c (linked_group grid (square cells) a b a< l) (So-arrow arrows b ab)) ne k
