-- Where arrows start in their line; that those of an accepted record stand in it, and what is made of one after another there.
-- Assumes nothing.
use Prim.Native.Nat.{ℕ, zero, suc, ◌+◌, ◌-◌, ◌*◌, ◌≤◌, ◌<◌}
use native.Mathlib.Omega.{arith}
use native.Mathlib.Numerals.{add-one}
use mathlib.Core.Path.{◌≡◌, refl, sym, ap, subst, ◌∙◌}
use mathlib.Core.List.{List, [], ◌∷◌, Memᴰ}
use lib.ListN.{length, get_or, length-append, get_or-append}
use lib.Seq.{get_or-append-add}
use Rattle.grid.specs.Lists.{flat_map, upto, range, array_of}
use Rattle.grid.specs.Grid.{Grid, size}
use Rattle.grid.proofs.ListLaws.{at_mem, flat_map-mem}
use Rattle.grid.proofs.ArrayLaws.{array_in}
use Rattle.record.specs.Record.{Puzzle}
use Rattle.record.specs.Valid.{Valid, arrow, Arrows}
use Rattle.record.specs.Problem.{ends_from, arrow_cells, problem_of}
use Rattle.record.specs.declared.Problem.{Problem}
use Rattle.record.specs.Lines.{start_at, Lines}
use Rattle.record.proofs.FreshLaws.{arrows_length, Arrows-size}
use Rattle.record.proofs.ProblemLaws.{length_ends}
use Rattle.record.proofs.RecordLaws.{Valid-size}
use Rattle.record.proofs.WriteLaws.{few_Arrows}

-- ---- where arrows start

pub start_first : (ends : List ℕ) → start_at ends 0 ≡ 0
unfolding start_at
start_first ends = refl

pub start_before : (ends : List ℕ) (k : ℕ) {e : ℕ} → (k ≡ 0 → ⊥) → e ≡ get_or ends (k - 1) 0 → e ≡ start_at ends k
unfolding start_at
start_before ends zero h q = absurd (h refl)
start_before ends (suc k) h q = let p : suc k - 1 ≡ k = omega arith in rw p at q

pub start_first_of : (ends : List ℕ) (k : ℕ) → k ≡ 0 → 0 ≡ start_at ends k
unfolding start_at
start_first_of ends k e = rw e refl

pub start_next : (ends : List ℕ) (k : ℕ) → start_at ends (k + 1) ≡ get_or ends k 0
unfolding start_at
start_next ends k = ap (start_at ends) (add-one k)

-- the same for arrows that stand from the place `at` on
start_from : ℕ → List ℕ → ℕ → ℕ
start_from at l zero = at
start_from at l (suc k) = get_or l k 0

start_later : (at e : ℕ) (es : List ℕ) (k : ℕ) → start_from at (e ∷ es) (suc k) ≡ start_from e es k
unfolding start_from
start_later at e es zero = refl
start_later at e es (suc k) = refl

-- ---- the arrows of an accepted record

ends_rise : {g : Grid} {u : List ℕ} {as' : List (List ℕ)} (at : ℕ) → Arrows g u as' → (k : ℕ) → k < length as'
    → (start_from at (ends_from at as') k < get_or (ends_from at as') k 0) × (get_or (ends_from at as') k 0 ≤ at + length (arrow_cells as'))
unfolding ends_from arrow_cells start_from
ends_rise at Arrows.nil k l = absurd (omega arith)
ends_rise {as' = (i ∷ js) ∷ rest} at (Arrows.cons (arrow hi w) n r) zero l = (omega arith, omega (arith, length-append (i ∷ js) (arrow_cells rest)))
ends_rise {as' = (i ∷ js) ∷ rest} at (Arrows.cons (arrow hi w) n r) (suc k) l =
    let x = ends_rise (at + length (i ∷ js)) r k (omega arith) in
    (rw (start_later at (at + length (i ∷ js)) (ends_from (at + length (i ∷ js)) rest) k) x.0, omega (arith, x.1, length-append (i ∷ js) (arrow_cells rest)))
ends_rise {g = g} {as' = _ ∷ _} at (Rattle.record.specs.Valid.cons {used = used} {a = []} {rest = rest} x3 n r) k l = elim x3 [ ]

module _ (p : Puzzle) where
  abbrev pub line : List ℕ
  line = array_of 0 (arrow_cells p.arrows)

  abbrev pub ends : List ℕ
  ends = array_of 0 (ends_from 0 p.arrows)

module _ (p : Puzzle) (v : Valid p) where
  few : length (arrow_cells p.arrows) ≤ 1024
  unfolding arrow_cells
  few = omega (arith, arrows_length p v, Valid-size v)

  many : length p.arrows ≤ length (arrow_cells p.arrows)
  unfolding arrow_cells
  many = few_Arrows v.arrows

  end_at : (k : ℕ) → k < length p.arrows → get_or (ends p) k 0 ≡ get_or (ends_from 0 p.arrows) k 0
  end_at k l = array_in 0 (ends_from 0 p.arrows) 0 k (omega (arith, length_ends 0 p.arrows))

  start_at_lem : (k : ℕ) → k ≤ length p.arrows → start_at (ends p) k ≡ start_from 0 (ends_from 0 p.arrows) k
  unfolding start_at start_from
  start_at_lem zero l = refl
  start_at_lem (suc k) l = end_at k (omega arith)

  -- they stand in the line
  pub Lines-of : Lines p.grid.height p.grid.width (line p) (ends p) (length p.arrows)
  Lines-of = record {
    tall = v.high.0;
    some = v.low.1;
    wide = v.high.1;
    few = omega (arith, few, many);
    rising = λ k l. omega (arith, (ends_rise 0 v.arrows k l).0, end_at k l, start_at_lem k (omega arith));
    room = λ k l. omega (arith, (ends_rise 0 v.arrows k l).1, end_at k l, few);
    cells = λ k l j h.
        let b : j < length (arrow_cells p.arrows) = omega (arith, (ends_rise 0 v.arrows k l).1, end_at k l) in
        rw (array_in 0 (arrow_cells p.arrows) 0 j b) (cell (get_or (arrow_cells p.arrows) j 0) (at_mem (arrow_cells p.arrows) j b));
  }
    where
      cell : (x : ℕ) → Memᴰ x (arrow_cells p.arrows) → x < p.grid.height * p.grid.width
      cell x m = unfold arrow_cells size in (let r = flat_map-mem (λ a. a) p.arrows m in Arrows-size v.arrows r.0 r.1 x r.2)

-- so they do in the arrays of its problem
pub problem_Lines : (p : Puzzle) → Valid p → (q : Problem) → q ≡ problem_of p → Lines q.height q.width q.arrows q.ends q.count
unfolding problem_of
problem_Lines p v q e = subst (λ (r : Problem). Lines r.height r.width r.arrows r.ends r.count) (sym e) (Lines-of p v)

-- ---- one arrow after another

-- the arrow a stands in the line from the place `from` on
abbrev pub Stands : List ℕ → ℕ → List ℕ → Type 0
Stands line from a = (t : ℕ) → t < length a → get_or line (from + t) 0 ≡ get_or a t 0

-- F makes of the place where an arrow starts and of its length what f makes of the arrow
module _ {B : Type 0} (F : ℕ → ℕ → List B) (f : List ℕ → List B) where
  arrows_there : (line ends : List ℕ) (as' : List (List ℕ)) (s at : ℕ) → ((a : List ℕ) → Memᴰ a as' → (from : ℕ) → Stands line from a → F from (length a) ≡ f a)
      → start_at ends s ≡ at → ((k : ℕ) → k < length as' → get_or ends (s + k) 0 ≡ get_or (ends_from at as') k 0)
      → ((j : ℕ) → j < length (arrow_cells as') → get_or line (at + j) 0 ≡ get_or (arrow_cells as') j 0)
      → flat_map (λ k. F (start_at ends k) (get_or ends k 0 - start_at ends k)) (range s (length as')) ≡ flat_map f as'
  unfolding range ends_from arrow_cells
  arrows_there line ends [] s at same e o h = refl
  arrows_there line ends (a ∷ rest) s at same e o h =
      let z : s + 0 ≡ s = omega arith in
      let end : get_or ends s 0 ≡ at + length a = sym (ap (λ (k : ℕ). get_or ends k 0) z) ∙ o 0 (omega arith) in
      let total = length-append a (arrow_cells rest) in
      let long : get_or ends s 0 - start_at ends s ≡ length a = omega arith in
      let one : F (start_at ends s) (get_or ends s 0 - start_at ends s) ≡ f a =
      ap (F (start_at ends s)) long ∙ ap (λ (k : ℕ). F k (length a)) e
      ∙ same a (Memᴰ.head refl) at (λ k l. h k (omega arith) ∙ get_or-append a (arrow_cells rest) 0 k l) in
      let next : start_at ends (suc s) ≡ at + length a = let q : suc s ≡ s + 1 = omega arith in ap (start_at ends) q ∙ start_next ends s ∙ end in
      let more = arrows_there line ends rest (suc s) (at + length a) (λ b m. same b (Memᴰ.tail m)) next
      (λ k l. let q : suc s + k ≡ s + suc k = omega arith in ap (λ (j : ℕ). get_or ends j 0) q ∙ o (suc k) (omega arith))
      (λ j l. let q : at + length a + j ≡ at + (length a + j) = omega arith in ap (λ (k : ℕ). get_or line k 0) q ∙ h (length a + j) (omega arith) ∙ get_or-append-add a (arrow_cells rest) j 0) in
      cc

  -- so it is with all arrows of an accepted record
  pub by_arrows : (p : Puzzle) (v : Valid p) → ((a : List ℕ) → Memᴰ a p.arrows → (from : ℕ) → Stands (line p) from a → F from (length a) ≡ f a)
      → flat_map (λ k. F (start_at (ends p) k) (get_or (ends p) k 0 - start_at (ends p) k)) (upto (length p.arrows)) ≡ flat_map f p.arrows
  unfolding upto
  by_arrows p v same =
      arrows_there (line p) (ends p) p.arrows 0 0 same (start_first (ends p))
      (λ k l. let e : 0 + k ≡ k = omega arith in rw e (end_at p v k l))
      (λ j l. let e : 0 + j ≡ j = omega arith in rw e (array_in 0 (arrow_cells p.arrows) 0 j l))
