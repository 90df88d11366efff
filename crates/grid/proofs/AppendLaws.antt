-- Laws of lists that grow at their end, and of tests and functions that agree on a list's members.
-- Assumes nothing.
use Prim.Native.Nat.{ℕ, zero, suc, ◌+◌, ◌-◌, ◌<◌}
use native.Mathlib.Nat.{add-zero, zero-add}
use native.Mathlib.Numerals.{add-one}
use native.Mathlib.Decide.{ℕ_discrete}
use native.Mathlib.Omega.{arith}
use mathlib.Core.Path.{◌≡◌, refl, sym, ap, ◌∙◌}
use mathlib.Core.Bool.{Bool, true, false, So, cond, ◌&&◌, ◌||◌, or-false, false≢true}
use mathlib.Core.List.{List, [], ◌∷◌, ◌++◌, map, append-nil, Memᴰ}
use lib.Dec.{eqb}
use lib.ListN.{length, get_or, take, length-append}
use lib.Seq.{take-suc}
use borrow.Author.Tests.{eqb-true, eq-eqb}
pub use Rattle.std.proofs.lemmas.Grind.{flat_map-append}
pub use Rattle.std.proofs.lemmas.List.Elements.{filter-append}
pub use Rattle.std.proofs.lemmas.List.Folds.{list_any-append as any-append}
use Rattle.grid.specs.Lists.{range, upto, filter, any, all, init, last, flat_map, member}
use Rattle.grid.proofs.ListLaws.{So-false, length-range, get_or-range, upto-mem, filter-mem, mem-filter, mem-upto, member-mem, mem-member}

-- two tests that pass together are the same
pub same_test : (a b : Bool) → (So a → So b) → (So b → So a) → a ≡ b
same_test true b f h = sym (f refl)
same_test false b f h = sym (So-false b (λ k. false≢true (h k)))

-- the test of equality goes both ways
pub eqb_sym : (a b : ℕ) → eqb a b ≡ eqb b a
eqb_sym a b = same_test (eqb a b) (eqb b a) (λ e. eq-eqb b a (sym (eqb-true a b e))) (λ e. eq-eqb a b (sym (eqb-true b a e)))

-- by cases on whether j is q
pub by_eq : {P : Type 0} (j q : ℕ) → (j ≡ q → P) → ((j ≡ q → ⊥) → P) → P
by_eq {P} j q f h = go (ℕ_discrete j q)
  where
    go : Dec (j ≡ q) → P
    go (yes e) = f e
    go (no ne) = h ne

-- ---- the numbers below n

-- a range ends with its last number
range_more : (a k : ℕ) → range a (suc k) ≡ range a k ++ ((a + k) ∷ [])
unfolding range
range_more a zero = ap (λ (x : ℕ). x ∷ []) (sym (add-zero a))
range_more a (suc k) = ap (λ (l : List ℕ). a ∷ l) (range_more (suc a) k ∙ ap (λ (x : ℕ). range (suc a) k ++ (x ∷ [])) (omega arith))

pub upto_more : (k : ℕ) → upto (k + 1) ≡ upto k ++ (k ∷ [])
unfolding upto
upto_more k = ap (range 0) (add-one k) ∙ range_more 0 k ∙ ap (λ (x : ℕ). range 0 k ++ (x ∷ [])) (zero-add k)

pub upto-length : (n : ℕ) → length (upto n) ≡ n
unfolding upto
upto-length n = length-range 0 n

pub upto_at : (n i : ℕ) → i < n → get_or (upto n) i 0 ≡ i
unfolding upto
upto_at n i h = get_or-range 0 n i h ∙ omega arith

-- ---- lists that are joined

module _ {A : Type 0} where
  -- one more that does not pass either
  pub none_more : (p : A → Bool) (l : List A) (x : A) → any p l ≡ false → p x ≡ false → any p (l ++ (x ∷ [])) ≡ false
  none_more p l x h e = any-append p l (x ∷ []) ∙ rw (h, e) refl

  pub init_more : (l : List A) (x : A) → init (l ++ (x ∷ [])) ≡ l
  unfolding init
  init_more [] x = refl
  init_more (y ∷ []) x = refl
  init_more (y ∷ z ∷ l) x = ap {B = List A} (λ m. y ∷ m) (init_more (z ∷ l) x)

-- the test of membership
pub member-append : (i : ℕ) (l m : List ℕ) → member i (l ++ m) ≡ (member i l || member i m)
unfolding member
member-append i l m = any-append (eqb i) l m

pub member_more : (i : ℕ) (l : List ℕ) (x : ℕ) → member i (l ++ (x ∷ [])) ≡ (member i l || eqb i x)
unfolding member
member_more i l x = member-append i l (x ∷ []) ∙ ap (λ (b : Bool). member i l || b) (or-false (eqb i x))

-- a filtered list, one member later
pub filter_more : (p : ℕ → Bool) (l : List ℕ) (x : ℕ) → filter p (l ++ (x ∷ [])) ≡ filter p l ++ cond (p x) (x ∷ []) []
filter_more p l x = filter-append p l (x ∷ [])

pub last_more : (d : ℕ) (l : List ℕ) (x : ℕ) → last d (l ++ (x ∷ [])) ≡ x
unfolding last
last_more d [] x = refl
last_more d (y ∷ ys) x = last_more y ys x

-- the last member stands at the last place
pub last_at : (l : List ℕ) → get_or l (length l - 1) 0 ≡ last 0 l
unfolding last
last_at [] = refl
last_at (x ∷ []) = refl
last_at (x ∷ y ∷ ys) = let e : length (x ∷ y ∷ ys) - 1 ≡ suc (length (y ∷ ys) - 1) = omega arith in rw e (last_at (y ∷ ys))

-- the last of the first so many
pub last_taken : (l : List ℕ) (k : ℕ) → k < length l → last 0 (take (suc k) l) ≡ get_or l k 0
last_taken l k h = rw (take-suc l k 0 h) (last_more 0 (take k l) (get_or l k 0))

pub last_none : (l : List ℕ) → last 0 (take 0 l) ≡ 0
unfolding last
last_none l = refl

-- what is made of one more number
pub flat_map_more : {B : Type 0} (F : ℕ → List B) (k : ℕ) → flat_map F (upto (k + 1)) ≡ flat_map F (upto k) ++ F k
flat_map_more {B} F k = ap (flat_map F) (upto_more k) ∙ flat_map-append F (upto k) (k ∷ []) ∙ ap (λ (l : List B). flat_map F (upto k) ++ l) (append-nil (F k))

-- one more cell is tested
pub any_more : (p : ℕ → Bool) (k : ℕ) → any p (upto (k + 1)) ≡ (any p (upto k) || p k)
any_more p k = ap (any p) (upto_more k) ∙ any-append p (upto k) (k ∷ []) ∙ ap (λ (b : Bool). any p (upto k) || b) (or-false (p k))

-- one more cell is counted
pub count_hit : (p : ℕ → Bool) (k : ℕ) → p k ≡ true → length (filter p (upto (k + 1))) ≡ length (filter p (upto k)) + 1
count_hit p k h = ap (λ (l : List ℕ). length (filter p l)) (upto_more k) ∙ ap length (filter-append p (upto k) (k ∷ [])) ∙ length-append (filter p (upto k)) (filter p (k ∷ [])) ∙ rw h refl

pub count_miss : (p : ℕ → Bool) (k : ℕ) → p k ≡ false → length (filter p (upto (k + 1))) ≡ length (filter p (upto k))
count_miss p k h = ap (λ (l : List ℕ). length (filter p l)) (upto_more k) ∙ ap length (filter-append p (upto k) (k ∷ [])) ∙ length-append (filter p (upto k)) (filter p (k ∷ [])) ∙ rw h (add-zero (length (filter p (upto k))))

-- a number below n is in a filtered list exactly if it passes
pub member-filter : (p : ℕ → Bool) (n i : ℕ) → i < n → member i (filter p (upto n)) ≡ p i
member-filter p n i h =
    same_test (member i (filter p (upto n))) (p i)
    (λ s. (filter-mem p (upto n) (member-mem i (filter p (upto n)) s)).1)
    (λ s. mem-member i (filter p (upto n)) (mem-filter p (upto n) (mem-upto n h) s))

-- ---- two tests, one after the other

pub filter-filter : (p q : ℕ → Bool) (l : List ℕ) → filter p (filter q l) ≡ filter (λ i. q i && p i) l
filter-filter p q [] = refl
filter-filter p q (x ∷ xs) = go (q x) (filter-filter p q xs)
  where
    go : (b : Bool) → filter p (filter q xs) ≡ filter (λ i. q i && p i) xs → filter p (cond b (x ∷ filter q xs) (filter q xs)) ≡ cond (b && p x) (x ∷ filter (λ i. q i && p i) xs) (filter (λ i. q i && p i) xs)
    go true h = ap (λ (l : List ℕ). cond (p x) (x ∷ l) l) h
    go false h = h

-- ---- tests that agree on a list's members

module _ (p q : ℕ → Bool) where
  pub any_agree : (l : List ℕ) → ((x : ℕ) → Memᴰ x l → p x ≡ q x) → any p l ≡ any q l
  any_agree [] h = refl
  any_agree (x ∷ l) h = rw (h x (Memᴰ.head refl), any_agree l (λ y m. h y (Memᴰ.tail m))) refl

  pub all_agree : (l : List ℕ) → ((x : ℕ) → Memᴰ x l → p x ≡ q x) → all p l ≡ all q l
  all_agree [] h = refl
  all_agree (x ∷ l) h = rw (h x (Memᴰ.head refl), all_agree l (λ y m. h y (Memᴰ.tail m))) refl

  pub filter_agree : (l : List ℕ) → ((x : ℕ) → Memᴰ x l → p x ≡ q x) → filter p l ≡ filter q l
  filter_agree [] h = refl
  filter_agree (x ∷ l) h = rw (h x (Memᴰ.head refl), filter_agree l (λ y m. h y (Memᴰ.tail m))) refl

  pub filter-upto : (n : ℕ) → ((x : ℕ) → x < n → p x ≡ q x) → filter p (upto n) ≡ filter q (upto n)
  filter-upto n h = filter_agree (upto n) (λ x m. h x (upto-mem n m))

-- ---- functions that agree on a list's members

module _ {A B : Type 0} where
  pub map_agree : (f g : A → B) (l : List A) → ((x : A) → Memᴰ x l → f x ≡ g x) → map f l ≡ map g l
  map_agree f g [] h = refl
  map_agree f g (x ∷ l) h =
      let a = h x (Memᴰ.head refl) in
      let r = map_agree f g l (λ y m. h y (Memᴰ.tail m)) in
      cc

  pub flat_map_agree : (f g : A → List B) (l : List A) → ((x : A) → Memᴰ x l → f x ≡ g x) → flat_map f l ≡ flat_map g l
  flat_map_agree f g [] h = refl
  flat_map_agree f g (x ∷ l) h =
      let a = h x (Memᴰ.head refl) in
      let r = flat_map_agree f g l (λ y m. h y (Memᴰ.tail m)) in
      cc
