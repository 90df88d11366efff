-- The search for reason 1: the first of the listed names that passes a test, and what the counts of a group tell.
-- Assumes nothing.
use Prim.Native.Nat.{ℕ, ◌<◌}
use native.Mathlib.Omega.{arith}
use mathlib.Core.Path.{◌≡◌, refl, sym, ap, ◌∙◌}
use mathlib.Core.Bool.{Bool, true, false, cond, ◌&&◌, not, not-not}
use mathlib.Core.List.{List, [], ◌∷◌, Memᴰ}
use lib.Dec.{eqb}
use lib.ListN.{length, get_or, take}
use lib.Seq.{get_or-take, length-take-le}
use Rattle.grid.specs.Lists.{any}
use Rattle.grid.specs.Grid.{Grid, size}
use Rattle.grid.proofs.ListLaws.{mem_at}
use Rattle.record.specs.Record.{Puzzle}
use Rattle.grid.specs.Cells.{Literal, potential, square}
use Rattle.groups.specs.Groups.{labels, group, names}
use Rattle.groups.specs.Arrows.{on_arrow}
use Rattle.groups.specs.Arrays.{Names}
use Rattle.groups.proofs.TableLaws.{tally_any, name_low}
use Rattle.literals.specs.Literals.{Found, or_else, reason_if, first_found_of}
use Rattle.units.specs.Units.{reason1, reason1_at}
use Rattle.units.specs.Arrays.{PotentialTable, stranded, found_at, boundary_of}
use Rattle.std.specs.Prelude.{Some, find}

-- ---- the first name that passes

module _ {list : List ℕ} {c : ℕ} (N : Names list c) where
  long : length (take c list) ≡ c
  long = length-take-le c list (omega (arith, N.long, N.few))

-- the first name that passes is in the list
pub first_mem : (t : ℕ → Bool) (l : List ℕ) (f : ℕ) → find t l ≡ Some f → Memᴰ f l
first_mem t [] f e = let z : ◌≡◌ {A = ℕ} 0 1 = cc in absurd (omega arith)
first_mem t (x ∷ xs) f e = go (t x) e (λ k. first_mem t xs f k)
  where
    go : (b : Bool) → cond b (Some x) (find t xs) ≡ Some f → (find t xs ≡ Some f → Memᴰ f xs) → Memᴰ f (x ∷ xs)
    go true e ih = let q : f ≡ x = cc in Memᴰ.head q
    go false e ih = Memᴰ.tail (ih e)

pub first_low : (t : ℕ → Bool) {list : List ℕ} {c f : ℕ} → Names list c → find t (take c list) ≡ Some f → f < 1024
first_low t {list} {c} {f} N e =
    let r = mem_at (take c list) (first_mem t (take c list) f e) in
    let h : r.0 < c = omega (arith, r.1, long N) in
    omega (arith, N.small r.0 h, get_or-take c list r.0 0 h, r.2)

pub first_agree : (s t : ℕ → Bool) (l : List ℕ) → ((x : ℕ) → Memᴰ x l → s x ≡ t x) → find s l ≡ find t l
first_agree s t [] h = refl
first_agree s t (x ∷ xs) h = rw (h x (Memᴰ.head refl), first_agree s t xs (λ y m. h y (Memᴰ.tail m))) refl

-- the reason of the first name that passes is the first reason
first_found : (t : ℕ → Bool) (r : ℕ → List Literal) (l : List ℕ) → first_found_of (λ f. reason_if (t f) (r f)) l ≡ found_at r (find t l)
unfolding first_found_of found_at reason_if or_else
first_found t r [] = refl
first_found t r (x ∷ xs) = go (t x) refl (first_found t r xs)
  where
    F : ℕ → Found
    F f = reason_if (t f) (r f)

    go : (b : Bool) → t x ≡ b → first_found_of F xs ≡ found_at r (find t xs) → first_found_of F (x ∷ xs) ≡ found_at r (cond b (Some x) (find t xs))
    go true e h = rw e refl
    go false e h = rw e h

-- ---- which groups are stranded

-- reason 1 by the first name whose counts say so
pub stranded_is : (puzzle : Puzzle) (cells : List ℕ) {groups firsts squares arrowed : List ℕ} {number : ℕ}
    → PotentialTable puzzle cells groups firsts squares arrowed number
    → reason1 puzzle cells ≡ found_at (boundary_of puzzle.grid cells) (find (stranded squares arrowed) (take number firsts))
unfolding reason1 reason1_at stranded
stranded_is puzzle cells {groups} {firsts} {squares} {arrowed} {number} T =
    first_found t (boundary_of g cells) (names g p (labels g p))
    ∙ ap (found_at (boundary_of g cells)) (first_agree t (stranded squares arrowed) (names g p (labels g p)) (λ f m. test f (name_low g p f m))
    ∙ ap (find (stranded squares arrowed)) (sym T.firsts_are))
  where
    g : Grid
    g = puzzle.grid

    p : ℕ → Bool
    p = potential cells

    c : ℕ → List ℕ
    c f = group g p (labels g p) f

    t : ℕ → Bool
    t f = any (square cells) (c f) && not (any (on_arrow puzzle.arrows) (c f))

    test : (f : ℕ) → f < size g → t f ≡ stranded squares arrowed f
    test f h =
        let a : any (square cells) (c f) ≡ not (eqb (get_or squares f 0) 0) = sym (tally_any g p T.squares_are f h) in
        let b : any (on_arrow puzzle.arrows) (c f) ≡ not (eqb (get_or arrowed f 0) 0) = sym (tally_any g p T.arrowed_are f h) in
        rw (a, b, not-not (eqb (get_or arrowed f 0) 0)) refl
