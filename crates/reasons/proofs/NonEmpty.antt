-- A reason is never empty.
-- Assumes nothing.
use Prim.Native.Nat.{ℕ, zero, suc, ◌<◌}
use native.Mathlib.Omega.{arith}
use mathlib.Core.Path.{◌≡◌, refl}
use mathlib.Core.Bool.{Bool, true, false, cond}
use mathlib.Core.List.{List, [], ◌∷◌}
use mathlib.Core.Option.{none, some}
use Rattle.std.proofs.Math.Option.{none-ne-some}
use lib.Dec.{eqb, ltb}
use lib.ListN.{length, length-append}
use borrow.Author.Tests.{ltb-true}
use Rattle.grid.specs.Lists.{filter}
use Rattle.grid.specs.Grid.{Grid}
use Rattle.record.specs.Record.{Puzzle}
use Rattle.grid.specs.Cells.{Literal, square, potential}
use Rattle.groups.specs.Groups.{labels, group, names}
use Rattle.groups.specs.Arrows.{Pair, on_arrow}
use Rattle.kinds.specs.Kinds.{View, view, block}
use Rattle.units.specs.Units.{reason1_at, reason1}
use Rattle.paths.specs.Paths.{Entry, parent, path, reason2_at, reason2}
use Rattle.literals.specs.Literals.{Found, or_else, reason_if, first_found_of}
use Rattle.growth.specs.Growth.{block_name, reason_grow, reason3_at, reason_shrink, reason4_at, reason4a_at, reason4b_at, reason34}
use Rattle.reasons.specs.Reasons.{find_reason}
use Rattle.literals.proofs.Pass.{each-length}
use Rattle.record.specs.Leaf.{Range, Leaf}
use Rattle.sized.specs.Sized.{reason_low, reason_high, reason5_at, reason5}

-- a reason with a literal, or none
Literate : Found → Type 0
Literate f = (r : List Literal) → f ≡ some r → 0 < length r

some-Literate : (s : List Literal) → 0 < length s → Literate (some s)
unfolding Literate
some-Literate s h r e = let q : s ≡ r = cc in rw (← q) h

none-Literate : Literate none
unfolding Literate
none-Literate r e = absurd (none-ne-some r e)

or_else-Literate : (a b : Found) → Literate a → Literate b → Literate (or_else a b)
unfolding or_else
or_else-Literate none b h k = k
or_else-Literate (some s) b h k = h

first_of-Literate : {A : Type 0} (f : A → Found) (l : List A) → ((x : A) → Literate (f x)) → Literate (first_found_of f l)
unfolding first_found_of
first_of-Literate f [] h = none-Literate
first_of-Literate f (x ∷ xs) h = or_else-Literate (f x) (first_found_of f xs) (h x) (first_of-Literate f xs h)

passed_Literate : (t : Bool) (s : List Literal) → (t ≡ true → 0 < length s) → Literate (reason_if t s)
unfolding reason_if
passed_Literate true s h = some-Literate s (h refl)
passed_Literate false s h = none-Literate

given_Literate : (t : Bool) (s : List Literal) → 0 < length s → Literate (reason_if t s)
given_Literate t s h = passed_Literate t s (λ _. h)

-- a path has its first cell
path_some : (k : ℕ) (cs : List Entry) (a b : ℕ) → 0 < length (path k cs a b)
unfolding path
path_some zero cs a b = omega arith
path_some (suc k) cs a b = go (eqb a b)
  where
    go : (t : Bool) → 0 < length (cond t (a ∷ []) (a ∷ path k cs (parent cs a) b))
    go true = omega arith
    go false = omega arith

module _ (p : Puzzle) (cells : List ℕ) where
  abbrev g : Grid
  g = p.grid

  abbrev arrows : List (List ℕ)
  arrows = p.arrows

  -- reason 1 has a square of its group
  literate1 : Literate (reason1 p cells)
  unfolding reason1 reason1_at
  literate1 = first_of-Literate _ (names g (potential cells) (labels g (potential cells))) λ f. at (group g (potential cells) (labels g (potential cells)) f)
    where
      at : (c : List ℕ) → Literate (reason1_at p cells c)
      at c = given_Literate _ _ (simp (length-append, each-length) (omega arith))

  -- reason 2 has a
  literate2 : Literate (reason2 p cells)
  unfolding reason2 reason2_at
  literate2 = first_of-Literate _ (names g (square cells) (labels g (square cells))) λ f. at (filter (on_arrow arrows) (group g (square cells) (labels g (square cells)) f))
    where
      at : (c : List ℕ) → Literate (reason2_at g cells c)
      at [] = none-Literate
      at (a ∷ []) = none-Literate
      at (a ∷ b ∷ c) = some-Literate _ (rw each-length (path_some _ _ a b))

module _ (v : View) (e : Pair) where
  -- reasons 3 and 4 have the arrow cell of cur or of last
  grow_some : 0 < length (reason_grow v e)
  unfolding reason_grow
  grow_some = simp (length-append, each-length) (omega arith)

  shrink_some : 0 < length (reason_shrink v e)
  unfolding reason_shrink
  shrink_some = simp (length-append, each-length) (omega arith)

  literate3 : Literate (reason3_at v e)
  unfolding reason3_at
  literate3 = given_Literate _ (reason_grow v e) grow_some

  literate4 : (k : ℕ) → Literate (reason4_at v e k)
  unfolding reason4_at reason4a_at reason4b_at
  literate4 k = or_else-Literate _ _ (given_Literate _ (reason_grow v e) grow_some) (by_edition (eqb k 1))
    where
      by_edition : (t : Bool) → Literate (cond t (reason4b_at v e) none)
      by_edition true = given_Literate _ (reason_shrink v e) shrink_some
      by_edition false = none-Literate

module _ (v : View) (q : Range) where
  -- reason 5 has the sized cell, or a block that is larger than the highest
  literate5 : Literate (reason5_at v q)
  unfolding reason5_at reason_low reason_high
  literate5 = or_else-Literate _ _ (given_Literate _ _ (simp (length-append, each-length) (omega arith)))
      (passed_Literate (ltb q.highest (length b)) _ (λ h. rw each-length (omega (arith, ltb-true q.highest (length b) h))))
    where
      b : List ℕ
      b = block v (block_name v q.cell)

-- a reason has a literal
pub reason_some : (l : Leaf) (cells : List ℕ) (r : List Literal) → find_reason l cells ≡ some r → 0 < length r
unfolding find_reason reason34 reason5 Literate
reason_some l cells =
    let p = l.puzzle in
    let v : View = view p cells in
    or_else-Literate _ _ (literate1 p cells) (or_else-Literate _ _ (literate2 p cells)
    (or_else-Literate _ _ (or_else-Literate _ _ (first_of-Literate (reason3_at v) _ (literate3 v)) (first_of-Literate (λ k. reason4_at v k l.edition) _ (λ k. literate4 v k l.edition)))
    (first_of-Literate (reason5_at v) _ (literate5 v))))
