-- The record: each way out of reading it, whole or at the head of a file.
-- Assumes nothing.
use Prim.Native.Nat.{ℕ, ◌+◌, ◌*◌, ◌≤◌, ◌<◌}
use native.Mathlib.Nat.{mul-le-mul_right}
use native.Mathlib.Omega.{arith}
use mathlib.Core.Path.{◌≡◌, refl, sym, ◌∙◌}
use mathlib.Core.List.{List, []}
use lib.ListN.{length}
use Rattle.grid.specs.Lists.{array_of}
use Rattle.grid.specs.Grid.{Grid, size}
use Rattle.fields.specs.Inside.{Past}
use Rattle.fields.specs.declared.BitReader.{BitReader}
use Rattle.fields.specs.Fields.{ok, refused, ◌>>=◌, unless, field}
use Rattle.record.specs.Record.{cell_codes}
use Rattle.record.specs.Head.{arrows_in, read_fields}
use Rattle.record.specs.Problem.{ends_from, arrow_cells, problem_of, as_problem}
use Rattle.record.specs.Inside.{ended, arrows_ended, read_as}
use Rattle.grid.specs.Side.{sized}
use Rattle.record.specs.declared.Extent.{Extent}
use Rattle.fields.proofs.OutcomeLaws.{bind_ok, ok-eq, field-ok}
use Rattle.fields.proofs.ReadLaws.{bind_value, bind_refused}
use Rattle.record.proofs.FieldsLaws.{arrows_count, end_of, made, made_ended}

-- as many arrows as were asked for, with what stands behind them
ended_count : (extent : Extent) (s : List ℕ) (g : Grid) (at m : ℕ) {l : List (List ℕ)} → arrows_ended extent s g at m ≡ ok l → length l ≡ m
unfolding arrows_ended
ended_count extent s g at m e =
    let a = bind_ok (arrows_in s g [] at m) _ e in
    let b = bind_ok (unless (ended extent s (at + 18 * m + 2 * length (arrow_cells a.0))) 5) _ a.2 in
    rw (← ok-eq b.2) (arrows_count s g [] at m a.1)

-- the record ends inside its first field, its second, its third
pub whole_cut : (extent : Extent) (s : List ℕ) {k : ℕ} → refused k ≡ field s 0 5 → refused k ≡ as_problem (read_as extent s)
unfolding as_problem read_as read_fields ◌>>=◌
whole_cut extent s e = rw (← e) refl

module _ (extent : Extent) (b : BitReader) (z : b.at ≡ 0) where
  abbrev s : List ℕ
  s = b.bytes.now

  module _ {h : ℕ} {b1 : BitReader} (eh : ok h ≡ field s b.at 5) (p1 : Past 5 b b1) where
    first : ok h ≡ field s 0 5
    first = rw z at eh

    on_1 : b1.at ≡ 5
    on_1 = omega (arith, p1.on, z)

    pub whole_cut_2 : {k : ℕ} → refused k ≡ field b1.bytes.now b1.at 5 → refused k ≡ as_problem (read_as extent s)
    unfolding as_problem read_as read_fields ◌>>=◌
    whole_cut_2 e = rw (← first, ← (rw (p1.same, on_1) at e)) refl

    module _ {w : ℕ} {b2 : BitReader} (ew : ok w ≡ field b1.bytes.now b1.at 5) (p2 : Past 5 b1 b2) where
      second : ok w ≡ field s 5 5
      second = rw (p1.same, on_1) at ew

      same_2 : b2.bytes.now ≡ s
      same_2 = p2.same ∙ p1.same

      on_2 : b2.at ≡ 10
      on_2 = omega (arith, p2.on, on_1)

      pub whole_cut_3 : {k : ℕ} → refused k ≡ field b2.bytes.now b2.at 11 → refused k ≡ as_problem (read_as extent s)
      unfolding as_problem read_as read_fields ◌>>=◌
      whole_cut_3 e = rw (← first, ← second, ← (rw (same_2, on_2) at e)) refl

      -- the grid is within the limits
      pub whole_size : (h < 32) × (w < 32) × ((h + 1) * (w + 1) ≤ 1024)
      whole_size =
          let a : h < 32 = field-ok s 0 5 (sym first) in
          let c : w < 32 = field-ok s 5 5 (sym second) in
          let l : h + 1 ≤ 32 = omega arith in
          (a, c, omega (arith, mul-le-mul_right (w + 1) l))

      module _ {m : ℕ} {b3 : BitReader} (em : ok m ≡ field b2.bytes.now b2.at 11) (p3 : Past 11 b2 b3) where
        third : ok m ≡ field s 10 11
        third = rw (same_2, on_2) at em

        same_3 : b3.bytes.now ≡ s
        same_3 = p3.same ∙ same_2

        on_3 : b3.at ≡ 21
        on_3 = omega (arith, p3.on, on_2)

        -- a fault in the cells
        pub whole_cells : {n k : ℕ} → n ≡ (h + 1) * (w + 1) → cell_codes b3.bytes.now b3.at n ≡ refused k → refused k ≡ as_problem (read_as extent s)
        unfolding as_problem read_as read_fields ◌>>=◌ size
        whole_cells en e = rw (← first, ← second, ← third, rw (same_3, on_3, en) at e) refl

        module _ {n : ℕ} (en : n ≡ (h + 1) * (w + 1)) {cs : List ℕ} {b4 : BitReader} (ec : cell_codes b3.bytes.now b3.at n ≡ ok cs) (p4 : Past (2 * n) b3 b4) where
          abbrev grid : Grid
          grid = sized (h + 1) (w + 1)

          -- the arrows are the last that is read
          whole_last : {m : ℕ} → ok m ≡ field s 10 11 → read_as extent s ≡ (arrows_ended extent b4.bytes.now grid b4.at m >>= λ l. ok (made grid cs l))
          unfolding read_as read_fields arrows_ended end_of ◌>>=◌ size
          whole_last {m} e =
              let codes : cell_codes s 21 ((h + 1) * (w + 1)) ≡ ok cs = rw (same_3, on_3, en) at ec in
              let same : b4.bytes.now ≡ s = p4.same ∙ same_3 in
              let on : b4.at ≡ 21 + 2 * ((h + 1) * (w + 1)) = omega (arith, p4.on, on_3, en) in
              rw (← first, ← second, ← e, codes, same, on) (sym (made_ended s grid m cs (ended extent s)))

          -- a fault in the arrows, or behind them
          pub whole_arrows : {k : ℕ} → arrows_ended extent b4.bytes.now grid b4.at m ≡ refused k → refused k ≡ as_problem (read_as extent s)
          unfolding as_problem
          whole_arrows e = sym (bind_refused _ (whole_last third ∙ bind_refused _ e))

          -- no fault
          pub whole_done : {l : List (List ℕ)} {cells line ends : List ℕ} → cells ≡ array_of 0 cs → arrows_ended extent b4.bytes.now grid b4.at m ≡ ok l
              → line ≡ array_of 0 (arrow_cells l) → ends ≡ array_of 0 (ends_from 0 l)
              → ok (record { height = h + 1; width = w + 1; cells = cells; arrows = line; ends = ends; count = m }) ≡ as_problem (read_as extent s)
          unfolding as_problem problem_of ◌>>=◌
          whole_done {l} p e q r = rw (whole_last third ∙ bind_value _ e, p, q, r, ended_count extent b4.bytes.now grid b4.at m e) refl
