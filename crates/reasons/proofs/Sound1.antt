-- Reason 1 is sound.
-- Assumes nothing.
use Prim.Native.Nat.{ℕ, ◌<◌}
use mathlib.Core.Logic.{◌⊎◌, inl, inr}
use mathlib.Core.Path.{◌≡◌, refl, sym, ◌∙◌, subst}
use mathlib.Core.Bool.{So, ◌&&◌, not}
use mathlib.Core.List.{List, [], ◌∷◌, ◌++◌, Memᴰ}
use mathlib.Core.Option.{some}
use native.Mathlib.Omega.{arith}
use lib.ListN.{length}
use borrow.Author.Tests.{eqb-true, eq-eqb}
use Rattle.std.proofs.lemmas.Bool.{and_from}
use Rattle.grid.proofs.GridLaws.{in_cells, Adjacent-touches, adj_sym}
use Rattle.grid.specs.Lists.{filter, any, last}
use Rattle.grid.proofs.ListLaws.{filter-mem, mem-filter, and-true, not-So, So-not, any-mem, mem-any, last-mem}
use Rattle.grid.specs.Grid.{Grid, size, cells_of, touches, Adjacent}
use Rattle.grid.specs.Link.{Linked}
use Rattle.grid.proofs.LinkLaws.{Linked-end, Linked-map}
use Rattle.grid.specs.Cells.{Literal, empty, square, undecided, potential, Agrees}
use Rattle.grid.proofs.CellLaws.{square_not_empty, cell_cases}
use Rattle.groups.proofs.GroupLaws.{mem-group, group-mem, labelled}
use Rattle.groups.specs.Groups.{labels, group, names, Labels}
use Rattle.groups.specs.Arrows.{on_arrow}
use Rattle.groups.proofs.ArrowLaws.{So-arrow}
use Rattle.kinds.proofs.Bridge.{sq<, un<}
use Rattle.kinds.specs.Meaning.{PartialBoard, Setting, partial_of}
use Rattle.kinds.proofs.Confine.{lonely}
use Rattle.reasons.proofs.First.{reason_if-some, first_some, Agrees-left, Agrees-right, Agrees-each}
use Rattle.reasons.proofs.Plain.{RulesAt}
use Rattle.literals.specs.Literals.{each}
use Rattle.units.specs.Units.{reason1_at, reason1}

module _ (set : Setting) where
  open set use {puzzle, cells, valid}

  abbrev grid : Grid
  grid = puzzle.grid

  abbrev arrows : List (List ℕ)
  arrows = puzzle.arrows

  -- the board, as Confine takes it
  abbrev B : PartialBoard
  B = partial_of set

  pub filled_So : (c : ℕ) → ¬ So (empty cells c) → So (potential cells c)
  unfolding potential
  filled_So c h = So-not (empty cells c) h

  pub So-filled : (c : ℕ) → So (potential cells c) → ¬ So (empty cells c)
  unfolding potential
  So-filled c h = not-So {a = empty cells c} h

  pub potential< : (c : ℕ) → So (potential cells c) → c < size grid
  potential< c h = go (cell_cases cells c (valid.three c))
    where
      go : So (empty cells c) ⊎ So (square cells c) ⊎ So (undecided cells c) → c < size grid
      go (inl z) = absurd (So-filled c h z)
      go (inr (inl z)) = sq< set c z
      go (inr (inr z)) = un< set c z

  pub filled_Labels : Labels grid (potential cells)
  filled_Labels = labelled grid (potential cells) potential<

  -- the potential group named f
  abbrev pub pot : ℕ → List ℕ
  pot f = group grid (potential cells) (labels grid (potential cells)) f

  -- a cell that is linked to one of the group is in the group
  pub pot-Linked : (f s x : ℕ) → Memᴰ s (pot f) → Linked (Adjacent grid) (λ k. ¬ So (empty cells k)) s x → Memᴰ x (pot f)
  pot-Linked f s x m l =
      let k : Linked (Adjacent grid) (λ c. So (potential cells c)) s x = Linked-map (λ y z. filled_So y (Linked-end z)) l in
      mem-group grid (potential cells) (labels grid (potential cells)) f x (potential< x (Linked-end k)) (Linked-end k) (sym (filled_Labels.linked s x k) ∙ (group-mem grid (potential cells) (labels grid (potential cells)) f s m).2)

  -- the empty cells that touch a group
  abbrev pub bounds : List ℕ → List ℕ
  bounds c = filter (λ i. empty cells i && touches grid c i) (cells_of grid)

  module _ {e : ℕ} (full : List ℕ) (long : length full ≡ size grid) (rules : RulesAt e puzzle full) where
    -- reason 1 is sound
    pub reason1_sound : (r : List Literal) → reason1 puzzle cells ≡ some r → Agrees full r → ⊥
    unfolding reason1 reason1_at square
    reason1_sound r k ag =
        let w = first_some (λ f. reason1_at puzzle cells (pot f)) (names grid (potential cells) (labels grid (potential cells))) r k in
        let q = reason_if-some (any (square cells) (pot w.0) && not (any (on_arrow arrows) (pot w.0))) (each 0 (bounds (pot w.0)) ++ each 1 (last 0 (filter (square cells) (pot w.0)) ∷ [])) r w.2 in
        go w.0 (and-true (any (square cells) (pot w.0)) _ q.0) (subst (Agrees full) (sym q.1) ag)
      where
        go : (f : ℕ) → So (any (square cells) (pot f)) × So (not (any (on_arrow arrows) (pot f)))
            → Agrees full (each 0 (bounds (pot f)) ++ each 1 (last 0 (filter (square cells) (pot f)) ∷ [])) → ⊥
        go f (h, k) ag' =
            lonely B (λ c. So (square full c)) s fs (sq_em s sm.1)
            (λ x l ax. not-So {a = any (on_arrow arrows) (pot f)} k (mem-any (on_arrow arrows) (pot f) (pot-Linked f s x sm.0 l) (So-arrow arrows x ax)))
            (λ x y l ad z sy. omega (
              arith,
              eqb-true,
              Agrees-each full 0 (bounds (pot f)) (Agrees-left full (each 0 (bounds (pot f))) (each 1 (s ∷ [])) ag') y
                  (mem-filter (λ i. empty cells i && touches grid (pot f) i) (cells_of grid) (mem_cell y (adj_sym grid x y ad).0) (and_from _ _ z (touch y x (adj_sym grid x y ad) (pot-Linked f s x sm.0 l)))),
            ))
            (rules.has s fs)
          where
            s : ℕ
            s = last 0 (filter (square cells) (pot f))

            sm : Memᴰ s (pot f) × So (square cells s)
            sm = let w = any-mem (square cells) (pot f) h in filter-mem (square cells) (pot f) (last-mem 0 (filter (square cells) (pot f)) (mem-filter (square cells) (pot f) w.1 w.2))

            fs : So (square full s)
            fs = eq-eqb _ _ (Agrees-each full 1 (s ∷ []) (Agrees-right full (each 0 (bounds (pot f))) (each 1 (s ∷ [])) ag') s (Memᴰ.head refl))

            sq_em : (c : ℕ) → So (square cells c) → ¬ So (empty cells c)
            sq_em c a z = square_not_empty cells c a z

            mem_cell : (y : ℕ) → y < size grid → Memᴰ y (cells_of grid)
            mem_cell y l = in_cells grid y l

            touch : (y x : ℕ) → Adjacent grid y x → Memᴰ x (pot f) → So (touches grid (pot f) y)
            touch y x ad m = Adjacent-touches grid (pot f) y x ad m
