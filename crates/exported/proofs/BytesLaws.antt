-- Two bytes for each number, and two bytes more behind those that are written.
-- Assumes nothing.
use Prim.Native.Nat.{ℕ, suc, ◌+◌, ◌*◌, ◌/◌, ◌%◌, ◌<◌}
use native.Mathlib.Omega.{arith}
use mathlib.Core.Path.{◌≡◌, refl, ap, ◌∙◌}
use mathlib.Core.List.{List, [], ◌∷◌, ◌++◌, append_assoc}
use lib.ListN.{length, get_or, set, drop, length-append}
use lib.Seq.{drop-cons, drop-drop, drop_at, set_at, take_at}
use borrow.Rule.Slice.PartMut.{put_mid}
use Rattle.grid.specs.Lists.{flat_map}
use Rattle.exported.specs.Written.{bytes_of}

-- one more number
pub bytes_more : (ws : List ℕ) (w : ℕ) → bytes_of (ws ++ (w ∷ [])) ≡ bytes_of ws ++ ((w / 256) ∷ (w % 256) ∷ [])
unfolding bytes_of
bytes_more [] w = refl
bytes_more (x ∷ ws) w = ap (λ (l : List ℕ). (x / 256) ∷ (x % 256) ∷ l) (bytes_more ws w)

-- two bytes for each
pub bytes_length : (ws : List ℕ) → length (bytes_of ws) ≡ 2 * length ws
unfolding bytes_of
bytes_length [] = refl
bytes_length (w ∷ ws) = omega (arith, bytes_length ws)

-- the next two bytes behind those written, as a part of the output
pub two_put : (front out part : List ℕ) (n a b : ℕ) → length front ≡ n → part ≡ a ∷ b ∷ [] → put_mid n 2 (front ++ drop n out) part ≡ (front ++ (a ∷ b ∷ [])) ++ drop (n + 2) out
two_put front out part n a b e p = rw (p, take_at front (drop n out) n e, drop_at front (drop n out) n e, drop-drop 2 n out) (simp append_assoc)

-- and one by one
pub two_set : (front out : List ℕ) (n a b : ℕ) → length front ≡ n → n + 1 < length out → set (set (front ++ drop n out) n a) (n + 1) b ≡ (front ++ (a ∷ b ∷ [])) ++ drop (n + 2) out
two_set front out n a b e h =
    let d : drop n out ≡ get_or out n 0 ∷ (get_or out (suc n) 0 ∷ drop (suc (suc n)) out) = drop-cons out n 0 (omega arith) ∙ ap (λ (l : List ℕ). get_or out n 0 ∷ l) (drop-cons out (suc n) 0 (omega arith)) in
    let f : length (front ++ (a ∷ [])) ≡ n + 1 = simp length-append (omega arith) in
    let z : n + 2 ≡ suc (suc n) = omega arith in
    rw (
      d,
      set_at front (get_or out n 0) (get_or out (suc n) 0 ∷ drop (suc (suc n)) out) a n e,
      ← append_assoc front (a ∷ []) (get_or out (suc n) 0 ∷ drop (suc (suc n)) out),
      set_at (front ++ (a ∷ [])) (get_or out (suc n) 0) (drop (suc (suc n)) out) b (n + 1) f,
      z,
    ) (simp append_assoc)
