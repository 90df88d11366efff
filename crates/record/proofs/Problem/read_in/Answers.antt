-- `record::Problem::read_in` meets its contract: each way out by its own law.
-- Assumes nothing.
use Prim.Native.Nat.{ℕ, ◌+◌, ◌*◌, ◌≤◌, ◌<◌}
use native.Mathlib.Omega.{arith}
use mathlib.Core.Path.{◌≡◌, refl, sym, ap, ◌∙◌}
use mathlib.Core.List.{List, ◌++◌}
use lib.ListN.{length, take, drop}
use Rattle.grid.specs.Lists.{array_of}
use Rattle.record.specs.declared.Problem.{Problem}
use Rattle.record.specs.Inside.{no_problem}
use Rattle.fields.proofs.OutcomeLaws.{field-ok, agrees_fault}
use Rattle.record.proofs.CellLaws.{zeros, zeros_front, zeros_over}
use Rattle.record.proofs.WholeLaws.{whole_cut, whole_cut_2, whole_cut_3, whole_size, whole_cells, whole_arrows, whole_done}
use Rattle.record.proofs.Problem.read_in.Goals as goal
use Rattle.record.proofs.Problem.read_in.Goals.{In_ok-count}

-- the cells of a new problem
front_is : {p : Problem} → p ≡ no_problem → (n : ℕ) → n ≤ 1024 → length (take n p.cells) ≡ n
front_is {p} e n small = ap (λ (q : Problem). length (take n q.cells)) e ∙ ap (λ (l : List ℕ). length (take n l)) (sym zeros) ∙ zeros_front n small

-- the grid is within the limits
limits : (c : In_ok-count) → let h = c.in_ok-height.field-0 in
    let w = c.in_ok-width.field-0 in
    (h < 32) × (w < 32) × ((h + 1) * (w + 1) ≤ 1024)
limits c = whole_size c.args.extent _ refl c.in_ok-height.ensures.value c.in_ok-height.ensures.past c.in_ok-width.ensures.value c.in_ok-width.ensures.past

pub overflow_add-height : goal.overflow_add-height
overflow_add-height c = omega (arith, field-ok _ _ 5 (sym c.in_ok-height.ensures.value))

pub overflow_add-width : goal.overflow_add-width
overflow_add-width c = omega (arith, field-ok _ _ 5 (sym c.in_ok-width.ensures.value))

pub invariant_of-grid : goal.invariant_of-grid
invariant_of-grid c =
    let z = limits (goal.at.invariant_of-grid c).In_ok-count in
    record { tall = omega (arith, z.0); wide = omega (arith, z.1) }

pub returns-in_err-height : goal.returns-in_err-height
returns-in_err-height c = agrees_fault _ _ _ c.from_residual.ensures.1 (sym (whole_cut c.args.extent c.args.bytes.now c.in_err-height.ensures.value))

pub returns-in_err-width : goal.returns-in_err-width
returns-in_err-width c =
    let h = c.in_ok-height.ensures in agrees_fault _ _ _ c.from_residual-in_err-width.ensures.1 (sym (whole_cut_2 c.args.extent _ refl h.value h.past c.in_err-width.ensures.value))

pub returns-in_err-count : goal.returns-in_err-count
returns-in_err-count c =
    let h = c.in_ok-height.ensures in
    let w = c.in_ok-width.ensures in
    agrees_fault _ _ _ c.from_residual-in_err-count.ensures.1 (sym (whole_cut_3 c.args.extent _ refl h.value h.past w.value w.past c.in_err-count.ensures.value))

pub returns-in_err-read_cells : goal.returns-in_err-read_cells
returns-in_err-read_cells c =
    let h = c.in_ok-height.ensures in
    let w = c.in_ok-width.ensures in
    let m = c.in_ok-count.ensures in
    agrees_fault _ _ _ c.from_residual-in_err-read_cells.ensures.1
    (sym (whole_cells c.args.extent _ refl h.value h.past w.value w.past m.value m.past (front_is c.requires c.size.result c.size.ensures.small ∙ c.size.ensures.value) c.in_err-read_cells.ensures.codes))

pub read_arrows-requires : goal.read_arrows-requires
read_arrows-requires c =
    let small = c.size.ensures.small in
    let front = front_is c.requires c.size.result small in (
      omega (arith, c.in_ok-read_cells.ensures.past.on, c.in_ok-count.ensures.past.on, c.in_ok-width.ensures.past.on, c.in_ok-height.ensures.past.on, small, front),
      omega (arith, field-ok _ _ 11 (sym c.in_ok-count.ensures.value)),
      c.new-line.ensures,
      ap (λ (p : Problem). p.ends) c.requires,
    )

pub returns-in_err-read_arrows : goal.returns-in_err-read_arrows
returns-in_err-read_arrows c =
    let h = c.in_ok-height.ensures in
    let w = c.in_ok-width.ensures in
    let m = c.in_ok-count.ensures in
    let front = front_is c.requires c.size.result c.size.ensures.small in
    let d = c.in_ok-read_cells.ensures in
    agrees_fault _ _ _ c.from_residual-in_err-read_arrows.ensures.1
    (sym (whole_arrows c.args.extent _ refl h.value h.past w.value w.past m.value m.past (front ∙ c.size.ensures.value) d.codes.1 d.past c.in_err-read_arrows.ensures))

pub returns : goal.returns
returns c =
    let h = c.in_ok-height.ensures in
    let w = c.in_ok-width.ensures in
    let m = c.in_ok-count.ensures in
    let front = front_is c.requires c.size.result c.size.ensures.small in
    let d = c.in_ok-read_cells.ensures in
    let e = c.in_ok-read_arrows.ensures in
    let cells_were = ap (λ (p : Problem). p.cells) c.requires in (
      _,
      sym (whole_done c.args.extent _ refl h.value h.past w.value w.past m.value m.past (front ∙ c.size.ensures.value) d.codes.1 d.past
          (ap (λ (l : List ℕ). c.read_cells.new.cells ++ drop c.size.result l) (cells_were ∙ sym zeros) ∙ zeros_over c.size.result _ (c.read_cells.auto.cells ∙ front) ∙ ap (array_of 0) d.codes.2) e.1 (c.into_cells-self.ensures ∙ ap (array_of 0) e.2.0) e.2.1),
      refl,
    )
