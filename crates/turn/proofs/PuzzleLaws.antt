-- A turned puzzle: it is valid, its record is as long as the puzzle's, and turned back it is the puzzle.
-- Assumes nothing.
use Prim.Native.Nat.{ℕ, ◌≤◌, ◌<◌}
use native.Mathlib.Omega.{arith}
use mathlib.Core.Path.{◌≡◌, sym, ap, subst, ◌∙◌}
use mathlib.Core.List.Memᴰ
use mathlib.Core.List.{List, [], map, Memᴰ}
use lib.ListN.{length, get_or, length-append, length-map}
use lib.Seq.{ext_get_or}
use Rattle.grid.specs.Lists.{upto}
use Rattle.grid.specs.Grid.{Grid, size, cells_of}
use Rattle.grid.proofs.ListLaws.{length-map-upto, map-upto_at, at_mem, upto-mem, map_home}
use Rattle.record.specs.Record.{Puzzle, ok, read_record}
use Rattle.record.specs.Valid.{Valid}
use Rattle.record.specs.Write.{record_bits, write_record}
use Rattle.record.proofs.FreshLaws.{Arrows-size}
use Rattle.record.proofs.PackLaws.{length-bits_of, length-pack}
use Rattle.record.proofs.WriteLaws.{length_codes, round_trip}
use Rattle.embed.proofs.ArrowLaws.{Arrows-to, arrows_bits_map}
use Rattle.turn.specs.Turn.{Turn, turning, carried, turned_by, turned, turned_cells, inverse}
use Rattle.turn.proofs.TurnLaws.{Turns, Sides, same, swap, Sides-size, turning-Turns}
use Rattle.turn.proofs.InverseLaws.{undone}

-- a turned list
module _ (m : Turn) (l : List ℕ) where
  pub carried-length : length (carried m l) ≡ size m.grid
  unfolding carried cells_of
  carried-length = length-map-upto (λ j. get_or l (m.from j) 0) (size m.grid)

  pub carried_at : (j : ℕ) → j < size m.grid → get_or (carried m l) j 0 ≡ get_or l (m.from j) 0
  unfolding carried cells_of
  carried_at j h = map-upto_at (λ j. get_or l (m.from j) 0) (size m.grid) j 0 h

  pub carried-mem : (c : ℕ) → Memᴰ c (carried m l) → (j : ℕ) × (j < size m.grid) × (get_or l (m.from j) 0 ≡ c)
  unfolding carried cells_of
  carried-mem c k = let r = Memᴰ.of_map (λ j. get_or l (m.from j) 0) (upto (size m.grid)) k in (r.0, upto-mem (size m.grid) r.1, r.2)

-- what a cell has, its image has
pub carried_to : {g : Grid} {m : Turn} → Turns g m → (l : List ℕ) (i : ℕ) → i < size g → get_or (carried m l) (m.to i) 0 ≡ get_or l i 0
carried_to {g} {m} t l i h = carried_at m l (m.to i) (t.embeds.into i h) ∙ ap (λ (k : ℕ). get_or l k 0) (t.from_to i h)

module _ (p : Puzzle) (v : Valid p) (m : Turn) (t : Turns p.grid m) where
  -- a turned puzzle is one within the record's limits
  pub Valid-by : Valid (turned_by m p)
  Valid-by = record {
    low = low t.sides;
    high = high t.sides;
    total = carried-length m p.given;
    codes = λ c k.
        let r = carried-mem m p.given c k in
        let b : m.from r.0 < length p.given = omega (arith, v.total, t.into r.0 r.1) in
        v.codes c (subst (λ x. Memᴰ x p.given) r.2 (at_mem p.given (m.from r.0) b));
    arrows = Arrows-to t.embeds [] (λ x l k. absurd (Memᴰ.not-nil k)) v.arrows;
  }
    where
      low : Sides p.grid m.grid → (0 < m.grid.height) × (0 < m.grid.width)
      low (same a b) = (omega (arith, a, v.low.0), omega (arith, b, v.low.1))
      low (swap a b) = (omega (arith, a, v.low.1), omega (arith, b, v.low.0))

      high : Sides p.grid m.grid → (m.grid.height ≤ 32) × (m.grid.width ≤ 32)
      high (same a b) = (omega (arith, a, v.high.0), omega (arith, b, v.high.1))
      high (swap a b) = (omega (arith, a, v.high.1), omega (arith, b, v.high.0))

  -- its record has as many bits
  pub bits_by : length (record_bits (turned_by m p)) ≡ length (record_bits p)
  unfolding record_bits
  bits_by = simp (length-append, length-bits_of, length_codes, length-map)
      (omega (arith, carried-length m p.given, v.total, Sides-size p.grid m.grid t.sides, arrows_bits_map p.grid m.grid m.to p.arrows))

  -- turned back by n, it is the puzzle
  module _ (n : Turn) (u : Turns m.grid n) (e : n.grid ≡ p.grid) (back : (i : ℕ) → i < size p.grid → n.to (m.to i) ≡ i) where
    from_back : (i : ℕ) → i < size p.grid → m.from (n.from i) ≡ i
    from_back i l =
        let l' : i < size n.grid = subst (λ h. i < size h) (sym e) l in
        let z : n.from i ≡ m.to i = u.embeds.inj (n.from i) (m.to i) (u.into i l') (t.embeds.into i l) (u.to_from i l' ∙ sym (back i l)) in
        ap m.from z ∙ t.from_to i l

    pub carried_back : (l : List ℕ) → length l ≡ size p.grid → carried n (carried m l) ≡ l
    carried_back l len = ext_get_or 0 (carried n (carried m l)) l (carried-length n (carried m l) ∙ ap size e ∙ sym len) each
      where
        each : (i : ℕ) → i < length (carried n (carried m l)) → get_or (carried n (carried m l)) i 0 ≡ get_or l i 0
        each i h =
            let a : i < size n.grid = omega (arith, carried-length n (carried m l)) in
            let b : i < size p.grid = subst (λ g. i < size g) e a in
            carried_at n (carried m l) i a ∙ carried_at m l (n.from i) (u.into i a) ∙ ap (λ (k : ℕ). get_or l k 0) (from_back i b)

    lines_back : map (map n.to) (map (map m.to) p.arrows) ≡ p.arrows
    lines_back = map_home (map m.to) (map n.to) p.arrows (λ a k. map_home m.to n.to a (λ x j. back x (Arrows-size v.arrows a k x j)))

    pub puzzle_back : turned_by n (turned_by m p) ≡ p
    puzzle_back =
        let a = carried_back p.given v.total in
        let b = lines_back in
        build n.grid p.grid (carried n (carried m p.given)) p.given (map (map n.to) (map (map m.to) p.arrows)) p.arrows e a b
      where
        build : (g h : Grid) (c d : List ℕ) (x y : List (List ℕ)) → g ≡ h → c ≡ d → x ≡ y → ◌≡◌ {A = Puzzle} (record { grid = g; given = c; arrows = x }) (record { grid = h; given = d; arrows = y })
        build g h c d x y e a b = cc

module _ (k : ℕ) (p : Puzzle) (v : Valid p) where
  -- turning k: the same
  pub turned-Valid : Valid (turned k p)
  unfolding turned
  turned-Valid = Valid-by p v (turning k p.grid) (turning-Turns k p.grid)

  pub turned_bits : length (record_bits (turned k p)) ≡ length (record_bits p)
  unfolding turned
  turned_bits = bits_by p v (turning k p.grid) (turning-Turns k p.grid)

  pub turned-length : length (write_record (turned k p)) ≡ length (write_record p)
  unfolding write_record
  turned-length = rw (length-pack, length-pack, turned_bits)

  pub turned_read : read_record (write_record (turned k p)) ≡ ok (turned k p)
  turned_read = round_trip (turned k p) turned-Valid

  -- turned, and turned back
  pub turned_back : turned (inverse k) (turned k p) ≡ p
  unfolding turned
  turned_back =
      puzzle_back p v (turning k p.grid) (turning-Turns k p.grid) (turning (inverse k) (turning k p.grid).grid) (turning-Turns (inverse k) (turning k p.grid).grid)
      (undone k p.grid).grid (undone k p.grid).to

  pub cells_back : (cells : List ℕ) → length cells ≡ size p.grid → turned_cells (inverse k) (turned k p).grid (turned_cells k p.grid cells) ≡ cells
  unfolding turned turned_cells
  cells_back =
      carried_back p v (turning k p.grid) (turning-Turns k p.grid) (turning (inverse k) (turning k p.grid).grid) (turning-Turns (inverse k) (turning k p.grid).grid)
      (undone k p.grid).grid (undone k p.grid).to
