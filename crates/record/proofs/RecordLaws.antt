-- What a record that is read says: sizes, codes, and arrows that go from neighbour to neighbour and use no cell twice.
-- Assumes nothing.
use Prim.Native.Nat.{ℕ, zero, suc, ◌+◌, ◌*◌, ◌≤◌, ◌<◌}
use native.Mathlib.Omega.{arith}
use mathlib.Core.Logic.{◌⊎◌, inl, inr}
use mathlib.Core.Path.{◌≡◌, refl, ap}
use mathlib.Core.Bool.{true, ◌&&◌, not}
use mathlib.Core.List.Memᴰ
use mathlib.Core.List.{List, [], ◌∷◌, ◌++◌, Memᴰ}
use lib.Dec.{ltb}
use lib.ListN.{length}
use borrow.Author.Tests.{ltb-true}
use Rattle.grid.proofs.ListLaws.{not-So, mem-member, and-true}
use Rattle.grid.specs.Lists.{member}
use Rattle.grid.specs.Grid.{Grid, size}
use Rattle.grid.proofs.GridLaws.{place_below, size_most}
use Rattle.record.specs.Valid.{Walk, end, on, Fresh, nil, cons, Arrow, arrow, Arrows, Valid}
use Rattle.fields.specs.Fields.{ok, unless, field, step_from}
use Rattle.record.specs.Record.{Puzzle, cell_codes, step_cells, arrow_at, arrows_at, read_record}
use Rattle.fields.proofs.OutcomeLaws.{bind_ok, unless-ok, ok-eq, field-ok, step_ok}

cells_ok : (s : List ℕ) (at n : ℕ) {cs : List ℕ} → cell_codes s at n ≡ ok cs → (length cs ≡ n) × ((c : ℕ) → Memᴰ c cs → c < 3)
unfolding cell_codes
cells_ok s at zero e = rw (← ok-eq e) (refl, λ c m. absurd (Memᴰ.not-nil m))
cells_ok s at (suc n) e =
    let a = bind_ok (field s at 2) _ e in
    let b = bind_ok (unless (ltb a.0 3) 2) _ a.2 in
    let c = bind_ok (cell_codes s (at + 2) n) _ b.2 in
    let d = cells_ok s (at + 2) n c.1 in
    rw (← ok-eq c.2) (ap suc d.0, λ x m. go a.0 c.0 (ltb-true a.0 3 (unless-ok (ltb a.0 3) 2 b.1)) d.1 x (Memᴰ.cases_cons m))
  where
    go : (c : ℕ) (cs : List ℕ) → c < 3 → ((x : ℕ) → Memᴰ x cs → x < 3) → (x : ℕ) → (x ≡ c) ⊎ Memᴰ x cs → x < 3
    go c cs h f x (inl q) = omega arith
    go c cs h f x (inr m) = f x m

not-member : (j : ℕ) (used : List ℕ) → not (member j used) ≡ true → Memᴰ j used → ⊥
not-member j used h m = not-So {a = member j used} h (mem-member j used m)

steps_ok : (s : List ℕ) (g : Grid) (used : List ℕ) (i at k : ℕ) {js : List ℕ} → step_cells s g used i at k ≡ ok js → Walk g i js × Fresh used js
unfolding step_cells
steps_ok s g used i at zero e = rw (← ok-eq e) (end, nil)
steps_ok s g used i at (suc k) e =
    let a = bind_ok (field s at 2) _ e in
    let b = bind_ok (step_from g i a.0) _ a.2 in
    let c = bind_ok (unless (not (member b.0 used)) 4) _ b.2 in
    let d = bind_ok (step_cells s g (b.0 ∷ used) b.0 (at + 2) k) _ c.2 in
    let r = steps_ok s g (b.0 ∷ used) b.0 (at + 2) k d.1 in
    rw (← ok-eq d.2) (on (step_ok g i a.0 b.1) r.0, cons (not-member b.0 used (unless-ok _ 4 c.1)) r.1)

-- an arrow that is read goes from neighbour to neighbour and uses no cell twice
pub Arrow-ok : (s : List ℕ) (g : Grid) (used : List ℕ) (at : ℕ) {a : List ℕ} → arrow_at s g used at ≡ ok a → Arrow g a × Fresh used a
unfolding arrow_at
Arrow-ok s g used at e =
    let a = bind_ok (field s at 5) _ e in
    let b = bind_ok (field s (at + 5) 5) _ a.2 in
    let c = bind_ok (field s (at + 10) 10) _ b.2 in
    let d = bind_ok (unless (ltb a.0 g.height && ltb b.0 g.width) 3) _ c.2 in
    let f = bind_ok (unless (not (member (a.0 * g.width + b.0) used)) 4) _ d.2 in
    let h = bind_ok (step_cells s g ((a.0 * g.width + b.0) ∷ used) (a.0 * g.width + b.0) (at + 20) c.0) _ f.2 in
    let r = steps_ok s g ((a.0 * g.width + b.0) ∷ used) (a.0 * g.width + b.0) (at + 20) c.0 h.1 in
    let t = and-true (ltb a.0 g.height) (ltb b.0 g.width) (unless-ok _ 3 d.1) in
    rw (← ok-eq h.2) (
      arrow (place_below g (ltb-true a.0 g.height t.0) (ltb-true b.0 g.width t.1)) r.0,
      cons (not-member (a.0 * g.width + b.0) used (unless-ok _ 4 f.1)) r.1,
    )

Arrows-ok : (s : List ℕ) (g : Grid) (used : List ℕ) (at m : ℕ) {as' : List (List ℕ)} → arrows_at s g used at m ≡ ok as' → Arrows g used as'
unfolding arrows_at
Arrows-ok s g used at zero e = let a = bind_ok _ _ e in rw (← ok-eq a.2) nil
Arrows-ok s g used at (suc m) e =
    let a = bind_ok (arrow_at s g used at) _ e in
    let b = bind_ok (arrows_at s g (a.0 ++ used) (at + 18 + 2 * length a.0) m) _ a.2 in
    let r = Arrow-ok s g used at a.1 in
    rw (← ok-eq b.2) (cons r.0 r.1 (Arrows-ok s g (a.0 ++ used) (at + 18 + 2 * length a.0) m b.1))

-- a record that is read is valid
pub record_Valid : (s : List ℕ) {p : Puzzle} → read_record s ≡ ok p → Valid p
unfolding read_record
record_Valid s e =
    let a = bind_ok (field s 0 5) _ e in
    let b = bind_ok (field s 5 5) _ a.2 in
    let c = bind_ok (field s 10 11) _ b.2 in
    let g : Grid = record { height = a.0 + 1; width = b.0 + 1 } in
    let d = bind_ok (cell_codes s 21 (size g)) _ c.2 in
    let f = bind_ok (arrows_at s g [] (21 + 2 * size g) c.0) _ d.2 in
    let r = cells_ok s 21 (size g) d.1 in
    rw (← ok-eq f.2) (record {
      low = omega arith;
      high = omega (arith, field-ok s 0 5 a.1, field-ok s 5 5 b.1);
      total = r.0;
      codes = r.1;
      arrows = Arrows-ok s g [] (21 + 2 * size g) c.0 f.1;
    })

-- it has at most 1,024 cells
pub Valid-size : {p : Puzzle} → Valid p → size p.grid ≤ 1024
Valid-size {p} v = size_most p.grid v.high.0 v.high.1
