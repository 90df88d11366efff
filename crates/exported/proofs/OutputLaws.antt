-- Writing two bytes for each number.
-- Assumes nothing.
use Prim.Native.Nat.{ℕ, ◌+◌, ◌-◌, ◌*◌, ◌/◌, ◌%◌, ◌<◌}
use native.Mathlib.Omega.{arith}
use native.Mathlib.Numerals.{add-one}
use mathlib.Core.Path.{◌≡◌, refl, ap, ◌∙◌}
use mathlib.Core.List.{List, [], ◌∷◌, ◌++◌}
use lib.ListN.{length, get_or, take, drop}
use lib.Seq.{take-suc, length-take-le}
use borrow.Rule.Slice.PartMut.{put_mid}
use Rattle.std.specs.Int.{w16, to_be_bytes}
use Rattle.grid.specs.Lists.{flat_map}
use Rattle.exported.specs.Written.{bytes_of}
use Rattle.exported.proofs.BytesLaws.{bytes_more, bytes_length, two_put}

-- the next number
pub write_next : (ws out bytes : List ℕ) (k : ℕ) → k < length ws → get_or ws k 0 < 65536 → bytes ≡ to_be_bytes w16 (get_or ws k 0)
    → put_mid (2 * k) (2 * k + 2 - 2 * k) (bytes_of (take k ws) ++ drop (2 * k) out) bytes ≡ bytes_of (take (k + 1) ws) ++ drop (2 * (k + 1)) out
write_next ws out bytes k h l e =
    let m : 2 * (k + 1) ≡ 2 * k + 2 = omega arith in
    let two : 2 * k + 2 - 2 * k ≡ 2 = omega arith in
    let high : get_or ws k 0 / 256 % 256 ≡ get_or ws k 0 / 256 = omega (arith, l) in
    let parts : bytes ≡ (get_or ws k 0 / 256) ∷ (get_or ws k 0 % 256) ∷ [] = e ∙ ap (λ (x : ℕ). x ∷ (get_or ws k 0 % 256) ∷ []) high in
    rw (
      two,
      two_put (bytes_of (take k ws)) out bytes (2 * k) (get_or ws k 0 / 256) (get_or ws k 0 % 256) (bytes_length (take k ws) ∙ ap (λ (n : ℕ). 2 * n) (length-take-le k ws (omega arith))) parts,
      m,
      add-one k,
      take-suc ws k 0 h,
      bytes_more (take k ws) (get_or ws k 0),
    ) refl

-- nothing is written yet
pub written_none : (ws out : List ℕ) → out ≡ bytes_of (take 0 ws) ++ drop 0 out
unfolding bytes_of
written_none ws out = refl
