-- A record of 2,819 bytes that is accepted: 1,024 arrows of one cell in a grid of 32 by 32.
-- Assumes nothing.
use Prim.Native.Nat.{ℕ, zero, suc, ◌+◌, ◌-◌, ◌*◌, ◌/◌, ◌≤◌, ◌<◌}
use native.Mathlib.Omega.{arith}
use mathlib.Core.Path.{◌≡◌, refl, ap, ◌∙◌}
use mathlib.Core.List.Memᴰ
use mathlib.Core.List.{List, [], ◌∷◌, Memᴰ}
use lib.ListN.{length, replicate, length-append}
use Rattle.grid.specs.Lists.{flat_map}
use Rattle.grid.specs.Grid.{Grid, size}
use Rattle.fields.specs.Fields.{ok}
use Rattle.record.specs.Record.{Puzzle, read_record}
use Rattle.record.specs.Write.{arrow_bits, record_bits, write_record}
use Rattle.record.specs.Valid.{end, Fresh, arrow, Arrows, Valid}
use Rattle.record.proofs.PackLaws.{length-pack, length-bits_of}
use Rattle.record.proofs.WriteLaws.{length_codes, length-arrow_bits, round_trip}

-- arrows of one cell each, from cell i on
singles : ℕ → ℕ → List (List ℕ)
singles i zero = []
singles i (suc n) = (i ∷ []) ∷ singles (suc i) n

singles-Arrows : (g : Grid) (u : List ℕ) (i n : ℕ) → ((x : ℕ) → Memᴰ x u → x < i) → i + n ≤ size g → Arrows g u (singles i n)
unfolding singles
singles-Arrows g u i zero h b = Arrows.nil
singles-Arrows g u i (suc n) h b = Arrows.cons (arrow {i = i} (omega arith) end) (Fresh.cons {j = i} (λ (m : Memᴰ i u). omega (arith, h i m)) Fresh.nil) (singles-Arrows g (i ∷ u) (suc i) n more (omega arith))
  where
    more : (x : ℕ) → Memᴰ x (i ∷ u) → x < suc i
    more x (Memᴰ.head e) = omega arith
    more x (Memᴰ.tail m) = omega (arith, h x m)

singles_bits : (g : Grid) (i n : ℕ) → length (flat_map (arrow_bits g) (singles i n)) ≡ 20 * n
unfolding singles
singles_bits g i zero = refl
singles_bits g i (suc n) = length-append (arrow_bits g (i ∷ [])) (flat_map (arrow_bits g) (singles (suc i) n)) ∙ omega (arith, length-arrow_bits g i [], singles_bits g (suc i) n)

zeros_mem : (n : ℕ) {c : ℕ} → Memᴰ c (replicate n 0) → c ≡ 0
zeros_mem zero m = absurd (Memᴰ.not-nil m)
zeros_mem (suc n) (Memᴰ.head e) = e
zeros_mem (suc n) (Memᴰ.tail m) = zeros_mem n m

-- every cell is plain, and an arrow by itself
pub longest : Puzzle
longest = record { grid = record { height = 32; width = 32 }; given = replicate 1024 0; arrows = singles 0 1024 }

longest-Valid : Valid longest
unfolding longest
longest-Valid = record {
  low = omega arith;
  high = omega arith;
  total = unfold size in refl;
  codes = λ c m. omega (arith, zeros_mem 1024 m);
  arrows = singles-Arrows (record { height = 32; width = 32 }) [] 0 1024 (λ x m. absurd (Memᴰ.not-nil m)) (unfold size in omega arith);
}

-- the bits of a puzzle
length-record_bits : (p : Puzzle) → length (record_bits p) ≡ 21 + 2 * length p.given + length (flat_map (arrow_bits p.grid) p.arrows)
unfolding record_bits
length-record_bits p =
    simp length-append (omega (arith, length-bits_of (p.grid.height - 1) 5, length-bits_of (p.grid.width - 1) 5, length-bits_of (length p.arrows) 11, length_codes p.given))

longest_bits : length (record_bits longest) ≡ 22549
unfolding longest
longest_bits = length-record_bits longest ∙ ap (λ (n : ℕ). 21 + 2 * 1024 + n) (singles_bits (record { height = 32; width = 32 }) 0 1024)

-- its record is accepted
pub longest_read : read_record (write_record longest) ≡ ok longest
longest_read = round_trip longest longest-Valid

-- and has 2,819 bytes
pub longest-length : length (write_record longest) ≡ 2819
unfolding write_record
longest-length = length-pack ((length (record_bits longest) + 7) / 8) (record_bits longest) ∙ omega (arith, longest_bits)
