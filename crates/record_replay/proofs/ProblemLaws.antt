-- Laws of holding a problem against what a list says of it.
-- Assumes nothing.
use Prim.Native.Nat.{ℕ, zero, suc, ◌+◌, ◌*◌, ◌-◌, ◌≤◌, ◌<◌}
use native.Mathlib.Omega.{arith}
use mathlib.Core.Bool.{Bool, true, false, true≢false}
use mathlib.Core.Path.{◌≡◌, refl, sym, ap, subst, ◌∙◌}
use mathlib.Core.List.{List}
use mathlib.Core.Logic.{⊎_elim}
use lib.ListN.{length, take, drop, get_or, length-drop}
use lib.Seq.{take_all}
use Rattle.std.proofs.lemmas.Bool.{cases_lt}
use Rattle.record.specs.declared.Problem.{Problem}
use Rattle.replay.specs.Comparisons.{DiffersUnless}
use Rattle.replay.specs.Lists.{number_at, byte_in, number_in, differs}
use Rattle.replay.proofs.ComparisonLaws.{fails, then_differs, same_differs}
use Rattle.record_replay.specs.Problems.{ZerosFrom, ArrowSo, ArrowsSo, area_at, count_at, ProblemSo}

-- the rest of an array with a place for each cell
pub rest_told : (l : List ℕ) (k : ℕ) → length l ≡ 1024 → (r : Bool) → DiffersUnless r (differs (take (1024 - k) (drop k l)) (λ _. 0) 0 ≡ false) → DiffersUnless r (ZerosFrom l k)
rest_told l k e r d = rw (take_all (1024 - k) (drop k l) (omega (arith, length-drop k l, e))) at d

module _ (list line ends : List ℕ) (at end i : ℕ) where
  -- the first of some arrows
  first_arrow : (k : ℕ) → 0 < k → ArrowsSo list at k line ends end i → ArrowSo list at line ends end i
  unfolding ArrowsSo
  first_arrow zero h w = absurd (omega arith)
  first_arrow (suc k) h w = w.0

  -- where the first is as the list says, the others decide
  next_arrows : (k : ℕ) → 0 < k → ArrowSo list at line ends end i → (r : Bool) → DiffersUnless r (ArrowsSo list (at + 2 + 2 * number_at list at) (k - 1) line ends (end + number_at list at) (i + 1)) → DiffersUnless r (ArrowsSo list at k line ends end i)
  unfolding ArrowsSo
  next_arrows zero h a r d = absurd (omega arith)
  next_arrows (suc k) h a r d =
      let e : suc k - 1 ≡ k = omega arith in
      then_differs a r (subst (λ (m : ℕ). DiffersUnless r (ArrowsSo list (at + 2 + 2 * number_at list at) m line ends (end + number_at list at) (i + 1))) e d)

  -- no arrows: what stands behind them decides
  pub no_arrows : (k : ℕ) → k ≡ 0 → (r : Bool) → DiffersUnless r (ZerosFrom line end × ZerosFrom ends i) → DiffersUnless r (ArrowsSo list at k line ends end i)
  unfolding ArrowsSo
  no_arrows zero e r d = d
  no_arrows (suc k) e r d = absurd (omega (arith, e))

-- arrows that begin behind the end of the list
behind_end : (list line ends : List ℕ) (a b end i k : ℕ) → length list ≤ a → length list ≤ b → ArrowsSo list a k line ends end i → ArrowsSo list b k line ends end i
unfolding ArrowsSo
behind_end list line ends a b end i zero h g w = w
behind_end list line ends a b end i (suc k) h g w = absurd (omega (arith, w.0.inside))

-- arrows that begin behind some bytes that were left out of the list, or all that there were
pub behind_left : (list line ends : List ℕ) (at n place end i k : ℕ) → (at + n ≤ length list → place ≡ at + n) → (length list < at + n → place ≡ length list) → (r : Bool) → DiffersUnless r (ArrowsSo list place k line ends end i) → DiffersUnless r (ArrowsSo list (at + n) k line ends end i)
behind_left list line ends at n place end i k inside short r d = ⊎_elim
    (λ h. same_differs (behind_end list line ends place (at + n) end i k (omega (arith, short h)) (omega arith)) (behind_end list line ends (at + n) place end i k (omega arith) (omega (arith, short h))) r d)
    (λ h. subst (λ (a : ℕ). DiffersUnless r (ArrowsSo list a k line ends end i)) (inside h) d)
    (cases_lt (length list) (at + n))

-- the i-th of the arrows, which has n cells, where those from it on decide for all
module _ (list line ends : List ℕ) (start arrows at end i n : ℕ) (e : n ≡ number_at list at) (lt : i < arrows)
    (inv : (r : Bool) → DiffersUnless r (ArrowsSo list at (arrows - i) line ends end i) → DiffersUnless r (ArrowsSo list start arrows line ends 0 0)) where
  -- it is not as the list says
  other_arrow : (ArrowSo list at line ends end i → ⊥) → DiffersUnless true (ArrowsSo list start arrows line ends 0 0)
  other_arrow z = inv true (fails (λ w. z (first_arrow list line ends at end i (arrows - i) (omega arith) w)))

  -- it goes on behind the line
  pub too_long : 1024 < end + n → DiffersUnless true (ArrowsSo list start arrows line ends 0 0)
  too_long h = other_arrow (λ a. absurd (omega (arith, a.fits, e)))

  -- its cells, held against the list's
  same_part : (t : Bool) → t ≡ differs (take (end + n - end) (drop end line)) (number_in list (at + 2) n 0) 0 → t ≡ differs (take (number_at list at) (drop end line)) (number_in list (at + 2) (number_at list at) 0) 0
  same_part t d =
      let m : end + n - end ≡ n = omega arith in
      subst (λ (k : ℕ). t ≡ differs (take k (drop end line)) (number_in list (at + 2) k 0) 0) e (rw m at d)

  -- it has other cells
  pub other_cells : (t : Bool) → t ≡ differs (take (end + n - end) (drop end line)) (number_in list (at + 2) n 0) 0 → t ≡ true → DiffersUnless true (ArrowsSo list start arrows line ends 0 0)
  other_cells t d h = other_arrow (λ a. true≢false (sym h ∙ (same_part t d ∙ a.cells)))

  -- it ends at another place
  pub other_end : (x : ℕ) → x ≡ get_or ends i 0 → (x ≡ end + n → ⊥) → DiffersUnless true (ArrowsSo list start arrows line ends 0 0)
  other_end x g z = other_arrow (λ a. z (omega (arith, g, a.ended, e)))

  -- it is as the list says
  pub this_arrow : at + 2 ≤ length list → end + n ≤ 1024 → (t : Bool) → t ≡ differs (take (end + n - end) (drop end line)) (number_in list (at + 2) n 0) 0 → t ≡ false → (x : ℕ) → x ≡ get_or ends i 0 → x ≡ end + n → (r : Bool) → DiffersUnless r (ArrowsSo list (at + 2 + 2 * n) (arrows - (i + 1)) line ends (end + n) (i + 1)) → DiffersUnless r (ArrowsSo list start arrows line ends 0 0)
  this_arrow inside fits t d f x g h r next =
      let m : arrows - (i + 1) ≡ arrows - i - 1 = omega arith in
      inv r (next_arrows list line ends at end i (arrows - i) (omega arith)
      (record { inside = inside; fits = omega (arith, e); cells = sym (same_part t d) ∙ f; ended = omega (arith, g, h, e) })
      r (subst (λ (k : ℕ). DiffersUnless r (ArrowsSo list (at + 2 + 2 * k) (arrows - i - 1) line ends (end + k) (i + 1))) e (rw m at next)))

-- the list ends before the next arrow's length
pub too_short : (list line ends : List ℕ) (start arrows at end i : ℕ) → i < arrows → ((r : Bool) → DiffersUnless r (ArrowsSo list at (arrows - i) line ends end i) → DiffersUnless r (ArrowsSo list start arrows line ends 0 0)) → length list < at + 2 → DiffersUnless true (ArrowsSo list start arrows line ends 0 0)
too_short list line ends start arrows at end i lt inv h = other_arrow list line ends start arrows at end i (number_at list at) refl lt inv (λ a. absurd (omega (arith, a.inside)))

-- a problem, and the numbers of cells and of arrows that were read in the list
module _ (list : List ℕ) (at : ℕ) (p : Problem) (n : ℕ) (en : n ≡ area_at list at) (count : ℕ) (ec : count ≡ number_at list (at + 2 + n)) where
  count_is : count ≡ count_at list at
  count_is = ec ∙ ap (λ (k : ℕ). number_at list (at + 2 + k)) en

  -- the codes, held against the list's
  codes : (t : Bool) → t ≡ differs p.cells (byte_in list (at + 2) n 0 0) 0 → t ≡ differs p.cells (byte_in list (at + 2) (area_at list at) 0 0) 0
  codes t d = subst (λ (k : ℕ). t ≡ differs p.cells (byte_in list (at + 2) k 0 0) 0) en d

  -- all that but the arrows is as the list says: then they decide
  pub arrows_decide : count ≤ 1024 → (x : ℕ) → x ≡ get_or list at 0 → p.height ≡ x → (y : ℕ) → y ≡ get_or list (at + 1) 0 → p.width ≡ y → p.count ≡ count → (t : Bool) → t ≡ differs p.cells (byte_in list (at + 2) n 0 0) 0 → t ≡ false → (r : Bool) → DiffersUnless r (ArrowsSo list (at + 4 + n) count p.arrows p.ends 0 0) → DiffersUnless r (ProblemSo list at p)
  arrows_decide few x ex hx y ey hy hc t d f r a =
      same_differs
      (λ h. record { few = omega (arith, count_is); height_so = hx ∙ ex; width_so = hy ∙ ey; count_so = hc ∙ count_is; cells_so = sym (codes t d) ∙ f; arrows_so = h })
      (λ s. s.arrows_so) r
      (subst (λ (k : ℕ). DiffersUnless r (ArrowsSo list (at + 4 + k) (count_at list at) p.arrows p.ends 0 0)) en
      (subst (λ (k : ℕ). DiffersUnless r (ArrowsSo list (at + 4 + n) k p.arrows p.ends 0 0)) count_is a))
