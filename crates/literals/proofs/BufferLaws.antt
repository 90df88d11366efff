-- Literals written into a lent buffer one after another.
-- Assumes nothing.
use Prim.Native.Nat.{ℕ, suc, ◌+◌, ◌≤◌, ◌<◌}
use native.Mathlib.Omega.{arith}
use native.Mathlib.Numerals.{add-one}
use mathlib.Core.Path.{◌≡◌, refl, sym, ap, ◌∙◌}
use mathlib.Core.List.{List, [], ◌∷◌, ◌++◌, map, append_assoc, map-append}
use lib.ListN.{length, get_or, set, drop, length-append, length-map, length-drop}
use lib.Seq.{drop-cons, set_at}
use Rattle.grid.specs.Cells.{Literal, word}
use Rattle.literals.specs.Inside.{Wrote}

-- nothing is written yet
pub Wrote-none : (b : List ℕ) → Wrote [] b b 0
Wrote-none b = record { many = refl; whole = refl }

module _ {ls : List Literal} {b a : List ℕ} {k : ℕ} (w : Wrote ls b a k) where
  -- the buffer keeps its length
  pub wrote_length : k ≤ length b → length a ≡ length b
  wrote_length h = ap length w.whole ∙ simp (length-append, length-map, length-drop) (omega (arith, w.many))

  -- one more literal
  pub Wrote-more : (l : Literal) → k < length b → Wrote (ls ++ (l ∷ [])) b (set a k (word l)) (k + 1)
  Wrote-more l h = record {
    many = simp length-append (omega (arith, w.many));
    whole = rw (w.whole, drop-cons b k 0 h) (set_at (map word ls) (get_or b k 0) (drop (suc k) b) (word l) k (length-map ls word ∙ sym w.many) ∙ later);
  }
    where
      later : map word ls ++ (word l ∷ drop (suc k) b) ≡ map word (ls ++ (l ∷ [])) ++ drop (k + 1) b
      later = rw (map-append, add-one k) (sym (append_assoc (map word ls) (word l ∷ []) (drop (suc k) b)))
