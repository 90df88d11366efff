-- Arrays of 1,024 places that are filled cell by cell: the values F of the first k cells, and d behind them.
-- Assumes nothing.
use Prim.Native.Nat.{ℕ, ◌+◌, ◌≤◌, ◌<◌}
use native.Mathlib.Decide.{dec_lt}
use native.Mathlib.Omega.{arith}
use mathlib.Core.Path.{◌≡◌, refl, sym, ap, ◌∙◌, subst}
use mathlib.Core.List.{List, [], ◌∷◌, ◌++◌, map, map-append}
use lib.ListN.{length, get_or, set, replicate}
use lib.Seq.{ext_get_or, set-get_or}
use Rattle.grid.specs.Lists.{range, upto, array_of}
use Rattle.grid.proofs.ListLaws.{length-map-upto, map-upto_at}
use Rattle.grid.proofs.AppendLaws.{upto_more}
use Rattle.grid.proofs.ArrayLaws.{array_length, array_in, array_out, array_more}

module _ (d : ℕ) (F : ℕ → ℕ) where
  pub filled_none : replicate 1024 d ≡ array_of d (map F (upto 0))
  unfolding array_of upto range
  filled_none = refl

  pub filled_more : (k v : ℕ) → k < 1024 → v ≡ F k → set (array_of d (map F (upto k))) k v ≡ array_of d (map F (upto (k + 1)))
  filled_more k v h e =
      subst (λ (i : ℕ). set (array_of d (map F (upto k))) i v ≡ array_of d (map F (upto k) ++ (v ∷ []))) (length-map-upto F k)
      (array_more d (map F (upto k)) v (omega (arith, length-map-upto F k)))
      ∙ ap (array_of d) (ap (λ (x : ℕ). map F (upto k) ++ (x ∷ [])) e ∙ sym (map-append F (upto k) (k ∷ [])) ∙ ap (map F) (sym (upto_more k)))

  pub filled_length : (k : ℕ) → k ≤ 1024 → length (array_of d (map F (upto k))) ≡ 1024
  filled_length k h = array_length d (map F (upto k)) (omega (arith, length-map-upto F k))

  pub filled_at : (k i : ℕ) → i < k → get_or (array_of d (map F (upto k))) i 0 ≡ F i
  filled_at k i h = array_in d (map F (upto k)) 0 i (omega (arith, length-map-upto F k)) ∙ map-upto_at F k i 0 h

  pub filled_past : (k i : ℕ) → k ≤ i → i < 1024 → get_or (array_of d (map F (upto k))) i 0 ≡ d
  filled_past k i h l = array_out d (map F (upto k)) 0 i (omega (arith, length-map-upto F k)) l

  -- a place that holds d already
  pub filled_skip : (k : ℕ) → k < 1024 → F k ≡ d → array_of d (map F (upto (k + 1))) ≡ array_of d (map F (upto k))
  filled_skip k h e = sym (filled_more k d h (sym e)) ∙ ap (set (array_of d (map F (upto k))) k) (sym (filled_past k k (omega arith) h)) ∙ set-get_or (array_of d (map F (upto k))) k 0

  -- an array is known by its places
  pub filled_is : (k : ℕ) (L : List ℕ) → k ≤ 1024 → length L ≡ 1024 → ((i : ℕ) → i < k → get_or L i 0 ≡ F i) → ((i : ℕ) → k ≤ i → i < 1024 → get_or L i 0 ≡ d) → L ≡ array_of d (map F (upto k))
  filled_is k L h long front back =
      ext_get_or 0 L (array_of d (map F (upto k))) (long ∙ sym (filled_length k h)) (λ i l. by i (omega arith) (dec_lt i k))
    where
      by : (i : ℕ) → i < 1024 → Dec (i < k) → get_or L i 0 ≡ get_or (array_of d (map F (upto k))) i 0
      by i l (yes m) = front i m ∙ sym (filled_at k i m)
      by i l (no m) = back i (omega arith) l ∙ sym (filled_past k i (omega arith) l)

-- two fillings that agree on the cells
pub filled_same : (d : ℕ) (F G : ℕ → ℕ) (k : ℕ) → k ≤ 1024 → ((i : ℕ) → i < k → F i ≡ G i) → array_of d (map F (upto k)) ≡ array_of d (map G (upto k))
filled_same d F G k h e = filled_is d G k (array_of d (map F (upto k))) h (filled_length d F k h) (λ i l. filled_at d F k i l ∙ e i l) (filled_past d F k)
