-- The lines of literals that are taken two bytes at a time.
-- Assumes nothing.
use Prim.Native.Nat.{ℕ, zero, suc, ◌+◌, ◌*◌, ◌/◌, ◌%◌, ◌≤◌, ◌<◌}
use native.Mathlib.Omega.{arith}
use mathlib.Core.Path.{◌≡◌, refl, sym, ap, ◌∙◌, subst}
use mathlib.Core.List.{List, [], ◌∷◌, ◌++◌, append_assoc}
use lib.ListN.{length, get_or, take}
use Rattle.std.specs.Fmt.{decimal}
use Rattle.std.proofs.lemmas.Fmt.{length-decimal-le}
use Rattle.std.specs.Simd.{first_chunks}
use Rattle.std.specs.List as S
use Rattle.std.proofs.Common.{take_all}
use Rattle.std.proofs.lemmas.List.{flat_map_more, take_more}
use Rattle.grid.specs.Lists.{flat_map}
use Rattle.text.specs.Text.{line, two_words, literal_line, literal_in, literals_in}
use Rattle.text.specs.declared.Text.{Text}
use Rattle.text.specs.Pushed.{Pushed}
use Rattle.text.proofs.PushLaws.{digits_decimal, digits_short, push_then}

-- the index and the value of a literal are short
pub index_short : (n : ℕ) → length (decimal (n % 1024)) ≤ 4
index_short n = digits_short (n % 1024) (omega arith)

pub value_short : (n : ℕ) → n < 65536 → length (decimal (n / 32768)) ≤ 1
value_short n h = length-decimal-le 1 (n / 32768) (omega arith) (omega (arith, h)) (omega (arith, h))

-- the line of a literal in two bytes, from the number that they are
pub literal_parts : (a b n : ℕ) → a < 256 → b < 256 → n ≡ a * 256 + b
    → decimal (n % 1024) ++ ((32 ∷ []) ++ (decimal (n / 32768) ++ (10 ∷ []))) ≡ literal_line (literal_in a b)
unfolding literal_line literal_in line two_words
literal_parts a b n h l e =
    let i : n % 1024 ≡ (a * 256 + b) % 1024 = ap (λ (m : ℕ). m % 1024) e in
    let v : n / 32768 ≡ a / 128 = omega (arith, h, l, e) in
    rw (i, v, ← digits_decimal ((a * 256 + b) % 1024) (omega arith), ← digits_decimal (a / 128) (omega (arith, h))) (simp append_assoc)

-- its parts, written one behind the other
pub literal_text : {n : ℕ} {t u v w x : Text} {line : List ℕ}
    → Pushed t u (decimal (n % 1024)) → Pushed u v (32 ∷ []) → Pushed v w (decimal (n / 32768)) → Pushed w x (10 ∷ [])
    → t.len + 7 ≤ length t.out.now → n < 65536 → decimal (n % 1024) ++ ((32 ∷ []) ++ (decimal (n / 32768) ++ (10 ∷ []))) ≡ line → Pushed t x line
literal_text {n} {t} {u} {v} {w} {x} {line} p q r s room small e =
    let i = index_short n in
    let j = value_short n small in
    subst (Pushed t x) e
    (push_then p
    (push_then q (push_then r s (omega (arith, room, i, j, p.long, p.written.behind, q.long, q.written.behind))) (omega (arith, room, i, p.long, p.written.behind)))
    (omega (arith, room, i)))

-- the line of the literal in two bytes
abbrev pub line_of : List ℕ → List ℕ
line_of bytes = literal_line (literal_in (get_or bytes 0 0) (get_or bytes 1 0))

-- the lines of such
abbrev pub lines_of : List (List ℕ) → List ℕ
lines_of literals = S.flat_map line_of literals

-- those of all in a list of bytes
pub all_lines : (n : ℕ) (found : List ℕ) → length found / 2 ≡ n → lines_of (first_chunks 2 n found) ≡ flat_map literal_line (literals_in found)
unfolding literals_in
all_lines zero [] h = refl
all_lines zero (a ∷ []) h = refl
all_lines zero (a ∷ b ∷ found) h = absurd (omega arith)
all_lines (suc n) [] h = absurd (omega arith)
all_lines (suc n) (a ∷ []) h = absurd (omega arith)
all_lines (suc n) (a ∷ b ∷ found) h = ap (λ (l : List ℕ). literal_line (literal_in a b) ++ l) (all_lines n found (omega arith))

module _ {t u : Text} (literals : List (List ℕ)) (k : ℕ) (p : Pushed t u (lines_of (take k literals))) where
  -- one line more
  pub next_line : {v : Text} → k < length literals → Pushed u v (line_of (get_or literals k [])) → t.len + length (lines_of (take k literals)) ≤ length t.out.now
      → Pushed t v (lines_of (take (k + 1) literals))
  next_line {v} h q room =
      subst (Pushed t v) (flat_map_more line_of [] (take k literals) (get_or literals k []) ∙ ap lines_of (sym (take_more literals k [] h))) (push_then p q room)

  -- all of them
  pub last_line : (found : List ℕ) → literals ≡ first_chunks 2 (length found / 2) found → length literals ≤ k → Pushed t u (flat_map literal_line (literals_in found))
  last_line found e h = subst (Pushed t u) (ap lines_of (take_all k literals h ∙ e) ∙ all_lines (length found / 2) found refl) p
