-- Bytes pushed one behind the other, and clauses.
-- Assumes nothing.
use Prim.Native.Nat.{ℕ, ◌+◌, ◌≤◌}
use native.Mathlib.Omega.{arith}
use mathlib.Core.Path.{◌≡◌, refl, sym, ap, subst, ◌∙◌}
use mathlib.Core.List.{List, [], ◌∷◌, ◌++◌, map, append_assoc, append-nil, map-append}
use lib.ListN.{length, take, drop, length-append, take-append-drop}
use lib.Seq.{length-take-le, take_at, drop-append-add, drop-drop}
use Rattle.grid.specs.Lists.{flat_map, upto, range}
use Rattle.grid.proofs.AppendLaws.{flat_map_more, upto_more}
use Rattle.clauses.specs.declared.Sheet.{Sheet}
use Rattle.clauses.specs.Clauses.{Clause, clause_bytes, clauses_bytes}
use Rattle.clauses.specs.Inside.{Pushed}
use Rattle.clauses.proofs.PieceLaws.{clauses_append, clauses_one, clauses_none}

-- nothing
pub push_none : (s : Sheet) → Pushed s s []
push_none s = record {
  same = refl;
  long = refl;
  counted = λ few. omega arith;
  wrote = λ few room. let z : s.len + 0 ≡ s.len = omega arith in rw (append-nil (take s.len s.out.now), z) (sym (take-append-drop s.len s.out.now));
}

-- some behind others
wrote_then : (o c d : List ℕ) (n : ℕ) → n + length (c ++ d) ≤ length o
    → (take (n + length c) ((take n o ++ c) ++ drop (n + length c) o) ++ d) ++ drop (n + length c + length d) ((take n o ++ c) ++ drop (n + length c) o)
    ≡ (take n o ++ (c ++ d)) ++ drop (n + length (c ++ d)) o
wrote_then o c d n h =
    let front : length (take n o ++ c) ≡ n + length c = simp length-append (omega (arith, length-take-le n o (omega arith))) in
    let behind : drop (n + length c + length d) ((take n o ++ c) ++ drop (n + length c) o) ≡ drop (n + length c + length d) o =
    ap (λ (m : ℕ). drop (m + length d) ((take n o ++ c) ++ drop (n + length c) o)) (sym front) ∙ drop-append-add (take n o ++ c) (drop (n + length c) o) (length d)
    ∙ drop-drop (length d) (n + length c) o in
    let both : n + length (c ++ d) ≡ n + length c + length d = omega (arith, length-append c d) in
    rw (take_at (take n o ++ c) (drop (n + length c) o) (n + length c) front, behind, both) (simp append_assoc)

pub push_then : {s t u : Sheet} {c d : List ℕ} → Pushed s t c → Pushed t u d → Pushed s u (c ++ d)
push_then {s} {t} {u} {c} {d} p q = record {
  same = q.same ∙ p.same;
  long = q.long ∙ p.long;
  counted = λ few. let at = p.counted (omega (arith, few, length-append c d)) in omega (arith, at, q.counted (omega (arith, few, at, length-append c d)), length-append c d);
  wrote = λ few room.
      let at = p.counted (omega (arith, few, length-append c d)) in
      let there = p.wrote (omega (arith, few, length-append c d)) (omega (arith, room, length-append c d)) in
      q.wrote (omega (arith, few, at, length-append c d)) (omega (arith, room, at, p.long, length-append c d))
      ∙ rw (there, at) (wrote_then s.out.now c d s.len room);
}

-- the same bytes, and clauses
pub push_as : {s t : Sheet} {c d : List ℕ} → c ≡ d → Pushed s t c → Pushed s t d
push_as {s} {t} e p = subst (Pushed s t) e p

pub push_same : {s t : Sheet} {c d : List Clause} → c ≡ d → Pushed s t (clauses_bytes c) → Pushed s t (clauses_bytes d)
push_same e p = push_as (ap clauses_bytes e) p

-- clauses behind others
pub push_clauses : {s t u : Sheet} (c d : List Clause) → Pushed s t (clauses_bytes c) → Pushed t u (clauses_bytes d) → Pushed s u (clauses_bytes (c ++ d))
push_clauses c d p q = push_as (sym (clauses_append c d)) (push_then p q)

-- no clause
pub push_no_clause : (s : Sheet) → Pushed s s (clauses_bytes [])
push_no_clause s = push_as (sym clauses_none) (push_none s)

-- of no number
pub none_first : (F : ℕ → List Clause) → flat_map F (upto 0) ≡ []
unfolding upto range
none_first F = refl

-- the clauses of one number more
pub push_more : (F : ℕ → List Clause) (i : ℕ) {s t u : Sheet} → Pushed s t (clauses_bytes (flat_map F (upto i))) → Pushed t u (clauses_bytes (F i)) → Pushed s u (clauses_bytes (flat_map F (upto (i + 1))))
push_more F i p q = rw (flat_map_more F i) (push_clauses (flat_map F (upto i)) (F i) p q)

-- for a loop that pushes the clauses of one number after another
pub ruleset number_by_number = (none_first, push_no_clause, push_more)

-- the same where each has one
pub push_first_one : (f : ℕ → Clause) (s : Sheet) → Pushed s s (clauses_bytes (map f (upto 0)))
unfolding upto range
push_first_one f s = push_no_clause s

pub push_one_more : (f : ℕ → Clause) (i : ℕ) {s t u : Sheet} → Pushed s t (clauses_bytes (map f (upto i))) → Pushed t u (clause_bytes (f i)) → Pushed s u (clauses_bytes (map f (upto (i + 1))))
push_one_more f i p q = rw (upto_more i, map-append f (upto i) (i ∷ [])) (push_clauses (map f (upto i)) (f i ∷ []) p (push_as (sym (clauses_one (f i))) q))
