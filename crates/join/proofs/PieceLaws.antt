-- The parts side by side: places of codes and cells, and values that are put behind others.
-- Assumes nothing.
use Prim.Native.Nat.{ℕ, ◌+◌, ◌*◌, ◌≤◌, ◌<◌}
use native.Mathlib.Omega.{arith}
use mathlib.Core.Path.{◌≡◌, sym, ap, subst, ◌∙◌}
use mathlib.Core.List.{List, [], ◌∷◌, ◌++◌, append_assoc, map, map-append}
use lib.ListN.{length, get_or, set, take, length-append, length-map, length-take}
use Rattle.std.proofs.lemmas.List.{take_more}
use Rattle.grid.specs.Lists.{array_of}
use Rattle.grid.proofs.ArrayLaws.{array_more}
use Rattle.grid.proofs.SideLaws.{area}
use Rattle.join.specs.Inside.{SideBySide, Behind}

-- there is room for all codes
pub room : {h a b : ℕ} → SideBySide h a b → h * (a + 1 + b) ≤ 1024
room {h} {a} {b} s = area h (a + 1 + b) s.tall s.wide

pub Behind-more : (at k v : ℕ) (G : ℕ → ℕ) (list a b : List ℕ) → k < length list → at + k < 1024 → v ≡ G (get_or list k 0) → Behind at G (take k list) a b
    → Behind at G (take (k + 1) list) a (set b (at + k) v)
Behind-more at k v G list a b s h f i l e g =
    let m : List ℕ = l ++ map G (take k list) in
    let n : length m ≡ at + k = omega (arith, length-append l (map G (take k list)), length-map (take k list) G, length-take k list) in
    ap (λ (x : List ℕ). set x (at + k) v) (i l e g)
    ∙ subst (λ (j : ℕ). set (array_of 0 m) j v ≡ array_of 0 (m ++ (v ∷ []))) n (array_more 0 m v (omega arith))
    ∙ ap (array_of 0)
    (append_assoc l (map G (take k list)) (v ∷ [])
    ∙ ap (λ (x : List ℕ). l ++ x) (ap (λ (x : ℕ). map G (take k list) ++ (x ∷ [])) f ∙ sym (map-append G (take k list) (get_or list k 0 ∷ [])) ∙ ap (map G) (sym (take_more list k 0 s))))
