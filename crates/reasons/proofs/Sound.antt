-- Every reason is sound, and on a full board none is given exactly when the block rules hold.
-- Assumes nothing.
use Prim.Native.Nat.{ℕ, ◌+◌, ◌≤◌, ◌<◌}
use mathlib.Core.Logic.{◌↔◌}
use mathlib.Core.Path.{◌≡◌, refl}
use mathlib.Core.Bool.{false, So}
use mathlib.Core.List.{List}
use mathlib.Core.Option.{none, some}
use native.Mathlib.Omega.{arith}
use native.Mathlib.Decide.{dec_lt}
use lib.Dec.{ltb}
use lib.ListN.{length}
use borrow.Author.Tests.{lt-ltb}
use Rattle.grid.specs.Lists.{flat_map, init, tail}
use Rattle.grid.proofs.ListLaws.{mem-flat_map}
use Rattle.grid.specs.Grid.{Grid, size}
use Rattle.grid.specs.Count.{count}
use Rattle.grid.specs.Cells.{Literal, square, undecided, Agrees}
use Rattle.groups.specs.Arrows.{pairs, Pair}
use Rattle.record.specs.Leaf.{Range, leaf_with}
use Rattle.record.specs.Sizes.{GoodSizes}
use Rattle.groups.specs.Rules.{Shift, BlockRules, Contains}
use Rattle.groups.proofs.ArrowLaws.{Dec-arrow, NextAt, position_pair}
use Rattle.kinds.proofs.Bridge.{decisions, Dec-Reach, sq<, block_name}
use Rattle.kinds.specs.Kinds.{View, view, view_with, block, reach}
use Rattle.kinds.specs.Meaning.{PartialBoard, Block, Reach, Setting, partial_of}
use Rattle.kinds.proofs.Fence.{length-Reach, length-block}
use Rattle.literals.specs.Literals.{Found, first_found_of}
use Rattle.units.specs.Units.{reason1}
use Rattle.paths.specs.Paths.{reason2}
use Rattle.growth.specs.Growth.{most_apart, reason3_at, reason4_at, reason34}
use Rattle.growth.proofs.Gap.{most_full}
use Rattle.sized.specs.Sized.{reason5}
use Rattle.reasons.specs.Reasons.{find_reason}
use Rattle.reasons.proofs.First.{or_else-some, first_none, or_else-none}
use Rattle.reasons.proofs.Plain.{on_line, line_at, line_len, Which, RulesAt, SizesAt, plain_rules, rules_plain}
use Rattle.reasons.proofs.Sound1.{reason1_sound}
use Rattle.reasons.proofs.Sound2.{reason2_sound}
use Rattle.reasons.proofs.Sound34.{too_many, three_none, too_few, Spot, A, four_none, reason34_sound}
use Rattle.reasons.proofs.Sound5.{none_5, reason5_sound}
use Rattle.reasons.proofs.Stands.{find_Stands}
use Rattle.reasons.proofs.Quiet12.{quiet_1, quiet_2}
use Rattle.reasons.proofs.Quiet.{Quiet, full_reach, Quiet-Rules}

-- a test that does not pass
not_less : (a b : ℕ) → ¬ So (ltb a b) → b ≤ a
not_less a b h = go (dec_lt a b)
  where
    go : Dec (a < b) → b ≤ a
    go (yes l) = absurd (h (lt-ltb a b l))
    go (no l) = omega arith

module _ (e : ℕ) (sizes : List Range) (set : Setting) (good : GoodSizes set.puzzle sizes) where
  open set use {puzzle, cells, valid}

  abbrev pub grid : Grid
  grid = puzzle.grid

  abbrev arrows : List (List ℕ)
  arrows = puzzle.arrows

  -- the board, as Confine takes it
  abbrev B : PartialBoard
  B = partial_of set

  -- the view of the board
  abbrev v : View
  v = view puzzle cells

  -- every reason is sound
  pub sound : (r : List Literal) → find_reason (leaf_with e sizes puzzle) cells ≡ some r → (full : List ℕ) → length full ≡ size grid → Agrees full r → ¬ BlockRules (leaf_with e sizes puzzle) full
  unfolding find_reason
  sound r k full long ag rules =
      let at : RulesAt e puzzle full = plain_rules e sizes puzzle full long rules in
      or_else-some (reason1 puzzle cells) _ r k (λ k. reason1_sound set full long at r k ag)
      (λ k. or_else-some (reason2 puzzle cells) _ r k (λ k. reason2_sound set r k full ag at)
      (λ k. or_else-some (reason34 e v) (reason5 v sizes) r k (λ k. reason34_sound set e full long at r k ag)
      (λ k. reason5_sound set sizes good full at.one rules.sized r k ag)))

  -- no reason applies
  abbrev Q : Type 0
  Q = Quiet e B grid (A set) (decisions set) (Dec-Reach set)

  -- where no reason is given none applies
  module _ (full : (c : ℕ) → ¬ So (undecided cells c)) where
    -- a pair of positions, and what the two tests say of it
    module _ (h34 : reason34 e v ≡ none) (t : Which arrows) (i j : ℕ) (jl : j < line_len arrows t) (pr : NextAt (λ c. So (square cells c)) (line_at arrows t) i j) where
      both : (b : List ℕ) × (reason3_at v (record { last = line_at arrows t i; between = b; cur = line_at arrows t j }) ≡ none) × (reason4_at v (record { last = line_at arrows t i; between = b; cur = line_at arrows t j }) e ≡ none)
      unfolding reason34 view view_with
      both =
          let w = or_else-none (first_found_of (reason3_at v) ps) (first_found_of (λ p. reason4_at v p e) ps) h34 in
          let q = position_pair cells t.0 i j jl pr in
          let m = mem-flat_map (pairs cells) arrows t.1 q.1 in
          (q.0, first_none (reason3_at v) ps w.0 m, first_none (λ p. reason4_at v p e) ps w.1 m)
        where
          ps : List Pair
          ps = flat_map (pairs cells) arrows

      spot : Spot set
      spot = record { t = t; i = i; j = j; jl = jl; pr = pr; between = both.0 }

      -- the earlier cell of the pair
      abbrev a₁ : ℕ
      a₁ = line_at arrows t i

      -- the later cell of the pair
      abbrev c₁ : ℕ
      c₁ = line_at arrows t j

      size-reach : (k : ℕ) → k < line_len arrows t → So (square cells (line_at arrows t k)) → length (reach v (block_name set (line_at arrows t k))) ≡ count (Dec-Reach set (line_at arrows t k)) (size grid)
      size-reach k l s = length-Reach set
          (line_at arrows t k) (on_line arrows t k l) s (Dec-Reach set (line_at arrows t k))

      size-block : (k : ℕ) → k < line_len arrows t → So (square cells (line_at arrows t k)) → length (block v (block_name set (line_at arrows t k))) ≡ count ((decisions set).blk (line_at arrows t k)) (size grid)
      size-block k l s = length-block set
          (line_at arrows t k) (on_line arrows t k l) s

      tests : (¬ So (too_few set spot)) × (e ≡ 1 → ¬ So (too_many set spot))
      unfolding spot
      tests = four_none set spot e both.2

      quiet_3 : (s : Shift) × Contains grid s (Block B a₁) (Reach B c₁)
      unfolding spot
      quiet_3 = three_none set spot both.1

      quiet_4a : ¬ (count (Dec-Reach set c₁) (size grid) < count ((decisions set).blk a₁) (size grid) + 1)
      unfolding spot
      quiet_4a h = tests.0 (lt-ltb (length (reach v (block_name set c₁))) (length (block v (block_name set a₁)) + 1) (omega (arith, size-reach j jl pr.2, size-block i (omega (arith, pr.0)) pr.1)))

      quiet_4b : e ≡ 1 → ¬ (count (Dec-Reach set a₁) (size grid) + 1 < count ((decisions set).blk c₁) (size grid))
      unfolding spot
      quiet_4b first h = tests.1 first (lt-ltb (length (reach v (block_name set a₁)) + 1 + most_apart cells false (tail (init both.0))) (length (block v (block_name set c₁)))
          (omega (arith, size-reach i (omega (arith, pr.0)) pr.1, size-block j jl pr.2, most_full cells (tail (init both.0)) full)))

    -- no reason is given
    record NoReason : Type 0 where
      first : reason1 puzzle cells ≡ none
      second : reason2 puzzle cells ≡ none
      third : reason34 e v ≡ none
      fourth : reason5 v sizes ≡ none

    parts : find_reason (leaf_with e sizes puzzle) cells ≡ none → NoReason
    unfolding find_reason
    parts k =
        let w = or_else-none (reason1 puzzle cells) _ k in
        let u = or_else-none (reason2 puzzle cells) _ w.1 in
        let z = or_else-none (reason34 e v) (reason5 v sizes) u.1 in
        record { first = w.0; second = u.0; third = z.0; fourth = z.1 }

    quiet : NoReason → Q
    quiet n = record {
      q1 = quiet_1 set n.first;
      q2 = quiet_2 set n.second;
      q3 = λ t i j jl pr. quiet_3 n.third t i j jl pr;
      q4a = λ t i j jl pr. quiet_4a n.third t i j jl pr;
      q4b = λ h t i j jl pr. quiet_4b n.third t i j jl pr h;
    }

    quiet_5 : reason5 v sizes ≡ none → SizesAt sizes puzzle cells
    quiet_5 k q m s =
        let ar = (good.each q m).on in
        let w = none_5 set sizes k q m s in
        let whole = full_reach e B grid (A set) (decisions set) (Dec-Reach set) (Dec-arrow arrows) (sq< set) full q.cell in
        record {
          counted = count ((decisions set).blk q.cell) (size grid);
          block_size = ((decisions set).blk q.cell, refl);
          least = omega (arith, whole, length-Reach set q.cell ar s (Dec-Reach set q.cell), not_less (length (reach v (block_name set q.cell))) q.lowest w.0);
          most = omega (arith, length-block set q.cell ar s, not_less q.highest (length (block v (block_name set q.cell))) w.1);
        }

    -- on a full board none is given exactly when the block rules hold
    pub complete : (find_reason (leaf_with e sizes puzzle) cells ≡ none) ↔ BlockRules (leaf_with e sizes puzzle) cells
    complete = (λ k. let n = parts k in rules_plain e sizes puzzle cells valid.long (by_quiet (quiet n)) (quiet_5 n.fourth), λ r. given_up r (find_reason (leaf_with e sizes puzzle) cells) refl)
      where
        by_quiet : Q → RulesAt e puzzle cells
        by_quiet = Quiet-Rules e B grid (A set) (decisions set) (Dec-Reach set)
            (Dec-arrow arrows) (sq< set) full

        given_up : BlockRules (leaf_with e sizes puzzle) cells → (o : Found) → find_reason (leaf_with e sizes puzzle) cells ≡ o → find_reason (leaf_with e sizes puzzle) cells ≡ none
        given_up r none k = k
        given_up r (some l) k = absurd (sound l k cells valid.long (λ i w m. (find_Stands set e sizes l k i w m).2) r)
