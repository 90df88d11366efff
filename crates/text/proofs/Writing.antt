-- Texts written to a list one behind the other.
-- Assumes nothing.
use Prim.Native.Nat.{ℕ, ◌+◌, ◌≤◌}
use native.Mathlib.Omega.{arith}
use mathlib.Core.Path.{◌≡◌, sym, ap, ◌∙◌}
use mathlib.Core.List.{List, [], ◌++◌, append_assoc}
use lib.ListN.{length, take, drop, length-append, length-drop, take-append-drop}
use lib.Seq.{length-take-le, take_at, drop-append-add, drop-drop, take-append_seam}
use Rattle.text.specs.Text.{written, Written}

-- no text changes nothing
pub written_none : (out : List ℕ) (at : ℕ) → written at [] out ≡ out
unfolding written
written_none out at =
    let z : at + 0 ≡ at = omega arith in
    rw z (take-append-drop at out)

-- the list stays as long as it was
pub written-length : (out : List ℕ) (at : ℕ) (a : List ℕ) → at + length a ≤ length out → length (written at a out) ≡ length out
unfolding written
written-length out at a h = simp (length-append, length-drop) (omega (arith, length-take-le at out (omega arith)))

-- a second text behind the first
pub written_more : (out : List ℕ) (at : ℕ) (a b : List ℕ) → at + length a ≤ length out → written (at + length a) b (written at a out) ≡ written at (a ++ b) out
unfolding written
written_more out at a b h =
    let p = take at out in
    let rest = drop (at + length a) out in
    let f : length (take at out ++ a) ≡ at + length a = simp length-append (omega (arith, length-take-le at out (omega arith))) in
    let d : drop (at + length a + length b) ((take at out ++ a) ++ drop (at + length a) out) ≡ drop (at + length a + length b) out =
    ap (λ (n : ℕ). drop (n + length b) ((take at out ++ a) ++ drop (at + length a) out)) (sym f) ∙ drop-append-add (take at out ++ a) (drop (at + length a) out) (length b)
    ∙ drop-drop (length b) (at + length a) out in
    let z : at + length (a ++ b) ≡ at + length a + length b = omega (arith, length-append a b) in
    rw (← append_assoc (take at out) a (drop (at + length a) out), take_at (take at out ++ a) (drop (at + length a) out) (at + length a) f, d, z)
    (simp append_assoc)

module _ {o o' a : List ℕ} {at m : ℕ} where
  -- what is lent stays as long as it was
  pub write_length : Written o at a o' m → at + length a ≤ length o → length o' ≡ length o
  write_length u h = ap length u.whole ∙ written-length o at a h

  -- the text ends within what is lent
  pub write_within : Written o at a o' m → at ≤ length o → m ≤ length o'
  unfolding written
  write_within u h =
      omega (arith, u.behind, ap length u.whole, length-append (take at o) (a ++ drop (at + length a) o), length-append a (drop (at + length a) o), length-take-le at o h)

  -- two texts, one behind the other
  pub write_then : {o'' b : List ℕ} {r : ℕ} → Written o at a o' m → Written o' m b o'' r → at + length a ≤ length o → Written o at (a ++ b) o'' r
  write_then {o''} {b} {r} u w h =
      record {
        behind = omega (arith, length-append a b, u.behind, w.behind);
        whole = w.whole ∙ rw (u.whole, u.behind) (written_more o at a b h);
      }

-- nothing is written
pub write_none : (o : List ℕ) (at : ℕ) → Written o at [] o at
write_none o at = record { behind = omega arith; whole = sym (written_none o at) }

-- the bytes before the place behind a text that begins the list are the text
pub text_taken : {o o' text : List ℕ} {r : ℕ} → Written o 0 text o' r → take r o' ≡ text
unfolding written
text_taken {o} {o'} {text} {r} w =
    let e : 0 + length text ≡ length text = omega arith in
    rw (w.whole, w.behind, e) (take-append_seam text (drop (length text) o))
