-- Literals written one behind another into the front of a lent buffer.
-- Assumes nothing.
use Prim.Native.Nat.{ℕ, ◌+◌, ◌-◌, ◌<◌}
use native.Mathlib.Omega.{arith}
use mathlib.Core.Path.{◌≡◌, refl}
use mathlib.Core.List.{List, [], ◌∷◌, ◌++◌}
use lib.ListN.{length, set, length-append, length-map, length-drop}
use Rattle.std.specs.Borrow.{MutBor}
use Rattle.grid.specs.Cells.{Literal, word}
use Rattle.literals.specs.Inside.{Wrote}
use Rattle.literals.specs.Held.{Holds}
use Rattle.literals.specs.declared.Literals.{Literals}
use Rattle.literals.proofs.BufferLaws.{Wrote-more, wrote_length}

-- what is left of the buffer is left of what was lent
room_lent : {ls : List Literal} {b a : List ℕ} {k : ℕ} → Wrote ls b a k → k < length a → k < length b
room_lent {ls} {b} {a} {k} w h =
    let long : length a ≡ length ls + (length b - k) = rw w.whole simp (length-append, length-map, length-drop) refl in
    omega (arith, w.many, long)

-- one literal more
pub holds_more : {lent : MutBor (List ℕ)} {before : List Literal} {a b : Literals} → Holds lent before a → (l : Literal) → a.count < length a.out.now
    → b.out.ghost_name ≡ a.out.ghost_name → b.out.now ≡ set a.out.now a.count (word l) → b.count ≡ a.count + 1 → Holds lent (before ++ (l ∷ [])) b
holds_more h l room same wrote count = record { same = rw same h.same; wrote = rw (wrote, count) (Wrote-more h.wrote l (room_lent h.wrote room)) }

-- there is room for one more, where the buffer that was lent has room for it
pub holds_room : {lent : MutBor (List ℕ)} {written : List Literal} {a : Literals} → Holds lent written a → a.count < length lent.now → a.count < length a.out.now
holds_room h l = omega (arith, wrote_length h.wrote (omega arith))

-- what stands in the buffer once it is given back
pub holds_back : {lent : MutBor (List ℕ)} {written : List Literal} {a : Literals} → Holds lent written a → {after : List ℕ} → (a.out.ghost_name ≡ lent.ghost_name → after ≡ a.out.now)
    → Wrote written lent.now after a.count
holds_back h back = rw (back h.same) h.wrote

-- with one literal more the count is one more
pub holds_count : {lent : MutBor (List ℕ)} {written : List Literal} {a b : Literals} (l : Literal) → Holds lent written a → Holds lent (written ++ (l ∷ [])) b → b.count ≡ a.count + 1
holds_count {written = written} l h k = omega (arith, h.wrote.many, k.wrote.many, length-append written (l ∷ []))
