-- What was found, as an answer and a lent buffer.
-- Assumes nothing.
use Prim.Native.Nat.{ℕ, ◌+◌, ◌-◌, ◌≤◌}
use native.Mathlib.Omega.{arith}
use mathlib.Core.Path.{◌≡◌, refl, sym, ap, ◌∙◌}
use mathlib.Core.List.{List, [], ◌∷◌, ◌++◌, map, map-append, append-nil, append_assoc}
use mathlib.Core.Option.{none, some}
use lib.ListN.{length, take, drop, length-append, length-map, length-drop, drop_of_length-le}
use lib.Seq.{take_all, take_at, drop_at, drop-drop}
use borrow.Rule.Slice.PartMut.{put_mid}
use Rattle.std.specs.Prelude.{Option, Some, None}
use Rattle.grid.specs.Cells.{Literal, word}
use Rattle.literals.specs.Buffer.{buffer_by}
use Rattle.literals.specs.Inside.{count_of, Wrote, FoundAs}
use Rattle.literals.specs.Literals.{Found, or_else, first_found_of}
use Rattle.literals.proofs.BufferLaws.{wrote_length}

-- nothing was found, and the buffer is as it was
pub found_none : (b : List ℕ) → FoundAs none b b None
unfolding count_of buffer_by
found_none b = record { answer = refl; buffer = refl }

-- where the answer is none, nothing was found and the buffer is as it was
pub nothing_found : (f : Found) {b a : List ℕ} → FoundAs f b a None → (f ≡ none) × (a ≡ b)
unfolding count_of buffer_by
nothing_found none x = (refl, x.buffer)
nothing_found (some r) x = let z : ◌≡◌ {A = ℕ} 0 1 = cc x.answer in absurd (omega arith)

-- the literals that stand in the buffer are what was found
pub Wrote-found : {ls : List Literal} {b a : List ℕ} {k : ℕ} → Wrote ls b a k → FoundAs (some ls) b a (Some k)
unfolding count_of buffer_by
Wrote-found w = record { answer = ap Some w.many; buffer = rw (← w.many) w.whole }

-- a reason is the first, whatever comes after it
pub found_first : (f g : Found) {b a : List ℕ} {k : ℕ} → FoundAs f b a (Some k) → FoundAs (or_else f g) b a (Some k)
unfolding count_of or_else
found_first none g x = let z : ◌≡◌ {A = ℕ} 0 1 = cc x.answer in absurd (omega arith)
found_first (some r) g x = x

-- what comes after nothing
pub found_next : (f g : Found) {b a a' : List ℕ} {r : Option ℕ} → FoundAs f b a None → FoundAs g a a' r → FoundAs (or_else f g) b a' r
unfolding or_else
found_next f g x y = let n = nothing_found f x in rw n.0 (rw n.1 at y)

-- what was found holds where the buffer before it is an equal one
pub found_same : {f : Found} {b b' a : List ℕ} {r : Option ℕ} → b ≡ b' → FoundAs f b a r → FoundAs f b' a r
found_same e x = rw e at x

-- ---- the first reason of a list

or_else_assoc : (a b c : Found) → or_else (or_else a b) c ≡ or_else a (or_else b c)
unfolding or_else
or_else_assoc none b c = refl
or_else_assoc (some r) b c = refl

module _ {A : Type 0} (f : A → Found) where
  pub first_append : (l m : List A) → first_found_of f (l ++ m) ≡ or_else (first_found_of f l) (first_found_of f m)
  unfolding first_found_of or_else
  first_append [] m = refl
  first_append (x ∷ l) m = ap (or_else (f x)) (first_append l m) ∙ sym (or_else_assoc (f x) (first_found_of f l) (first_found_of f m))

-- ---- literals written into the later part of a buffer, from k on

module _ {ls : List Literal} {b a : List ℕ} {k : ℕ} (w : Wrote ls b a k) (fits : k ≤ length b) where
  -- the part that is lent
  pub lent : take (length a - k) (drop k a) ≡ drop k b
  lent =
      take_all (length a - k) (drop k a) (omega (arith, length-drop k a))
      ∙ rw w.whole (drop_at (map word ls) (drop k b) k (length-map ls word ∙ sym w.many))

  put : (part : List ℕ) → put_mid k (length a - k) a part ≡ map word ls ++ part
  put part =
      let long : k ≤ length a = omega (arith, wrote_length w fits) in
      let end : drop (length a - k) (drop k a) ≡ [] = drop_of_length-le (drop k a) {i = length a - k} (omega (arith, length-drop k a)) in
      let front : take k a ≡ map word ls = rw w.whole (take_at (map word ls) (drop k b) k (length-map ls word ∙ sym w.many)) in
      rw (end, front, append-nil part) refl

  -- more literals behind the others
  pub Wrote-part : {ms : List Literal} {part : List ℕ} {m : ℕ} → Wrote ms (drop k b) part m → Wrote (ls ++ ms) b (put_mid k (length a - k) a part) (k + m)
  Wrote-part {ms} {part} {m} q = record {
    many = rw (length-append ls ms) (omega (arith, w.many, q.many));
    whole = put part ∙ rw (q.whole, map-append, drop-drop m k b) (sym (append_assoc (map word ls) (map word ms) (drop (k + m) b)));
  }
