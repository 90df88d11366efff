-- A pass over lists side by side, which keeps whether what stands at every place so far passes a test.
-- Assumes nothing.
use Prim.Native.Nat.{ℕ, ◌<◌}
use native.Mathlib.Omega.{arith}
use mathlib.Core.Path.{◌≡◌, refl, sym, ap, ◌∙◌}
use mathlib.Core.Bool.{Bool, ◌&&◌, and-true, and_assoc}
use mathlib.Core.List.{List, [], ◌∷◌, Memᴰ, map}
use lib.ListN.{length, get_or}
use lib.Seq.{ext_get_or}
use Rattle.std.specs.List.{fold, zip}
use Rattle.std.proofs.lemmas.Slice.Zip.{get_or-zip, length-zip}
use Rattle.grid.specs.Lists.{all, upto}
use Rattle.grid.proofs.ListLaws.{length-map-upto, map-upto_at, upto-mem}

-- tests that agree below n
alike : (t u : ℕ → Bool) (l : List ℕ) → ((i : ℕ) → Memᴰ i l → t i ≡ u i) → all t l ≡ all u l
alike t u [] e = refl
alike t u (i ∷ l) e = rw (e i (Memᴰ.head refl), alike t u l (λ j m. e j (Memᴰ.tail m))) refl

pub alike_below : (t u : ℕ → Bool) (n : ℕ) → ((i : ℕ) → i < n → t i ≡ u i) → all t (upto n) ≡ all u (upto n)
alike_below t u n e = alike t u (upto n) (λ i m. e i (upto-mem n m))

-- a pass over what f makes of a list
folded_map : {A : Type 0} (p : A → Bool) (f : ℕ → A) (l : List ℕ) (good : Bool) → fold (λ (b : Bool) (x : A). b && p x) good (map f l) ≡ (good && all (λ i. p (f i)) l)
folded_map p f [] good = sym (and-true good)
folded_map p f (i ∷ l) good = folded_map p f l (good && p (f i)) ∙ and_assoc good (p (f i)) (all (λ i. p (f i)) l)

-- a list is what stands at its places
places : {A : Type 0} (d : A) (l : List A) (n : ℕ) → length l ≡ n → l ≡ map (λ i. get_or l i d) (upto n)
places d l n e = ext_get_or d l (map (λ i. get_or l i d) (upto n)) (e ∙ sym (length-map-upto (λ i. get_or l i d) n)) (λ i h. sym (map-upto_at (λ i. get_or l i d) n i d (omega (arith, e))))

-- two lists side by side
zip_places : {A : Type 0} (f : ℕ → A) (d : A) (n : ℕ) (l : List ℕ) → length l ≡ n → zip (map f (upto n)) l ≡ map (λ i. (f i, get_or l i 0)) (upto n)
zip_places {A} f d n l e = ext_get_or (d, 0) (zip (map f (upto n)) l) (map g (upto n)) long at
  where
    g : ℕ → A × ℕ
    g i = (f i, get_or l i 0)

    short : length (zip (map f (upto n)) l) ≡ n
    short = omega (arith, length-zip (map f (upto n)) l, length-map-upto f n, e)

    long : length (zip (map f (upto n)) l) ≡ length (map g (upto n))
    long = short ∙ sym (length-map-upto g n)

    at : (i : ℕ) → i < length (zip (map f (upto n)) l) → get_or (zip (map f (upto n)) l) i (d, 0) ≡ get_or (map g (upto n)) i (d, 0)
    at i h =
        let k : i < n = omega (arith, short) in
        get_or-zip (map f (upto n)) l i (d, 0) (omega (arith, length-map-upto f n)) (omega (arith, e)) ∙ ap (λ (x : A). (x, get_or l i 0)) (map-upto_at f n i d k) ∙ sym (map-upto_at g n i (d, 0) k)

module _ (n : ℕ) (a b : List ℕ) (ea : length a ≡ n) (eb : length b ≡ n) where
  two : zip a b ≡ map (λ i. (get_or a i 0, get_or b i 0)) (upto n)
  two = ap (λ (l : List ℕ). zip l b) (places 0 a n ea) ∙ zip_places (λ i. get_or a i 0) 0 n b eb

  -- a pass over two lists
  pub folded_two : (p : ℕ × ℕ → Bool) (good : Bool) → fold (λ (g : Bool) (x : ℕ × ℕ). g && p x) good (zip a b) ≡ (good && all (λ i. p (get_or a i 0, get_or b i 0)) (upto n))
  folded_two p good = rw two (folded_map p (λ i. (get_or a i 0, get_or b i 0)) (upto n) good)

  -- a pass over three
  pub folded_three : (c : List ℕ) → length c ≡ n → (p : (ℕ × ℕ) × ℕ → Bool) (good : Bool)
      → fold (λ (g : Bool) (x : (ℕ × ℕ) × ℕ). g && p x) good (zip (zip a b) c) ≡ (good && all (λ i. p ((get_or a i 0, get_or b i 0), get_or c i 0)) (upto n))
  folded_three c ec p good =
      rw (ap (λ (l : List (ℕ × ℕ)). zip l c) two ∙ zip_places (λ i. (get_or a i 0, get_or b i 0)) (0, 0) n c ec)
      (folded_map p (λ i. ((get_or a i 0, get_or b i 0), get_or c i 0)) (upto n) good)
