-- Laws of the tests and lists of `Lists`.
-- Assumes nothing.
use lib.ListN.{length-append, length, get_or, get_or-eq_default}
use mathlib.Core.List.Memᴰ
use mathlib.Core.List.{◌++◌, map, List, [], ◌∷◌, Memᴰ}
use Prim.Native.Nat.{ℕ, zero, suc, ◌+◌, ◌≤◌, ◌<◌, ◌-◌}
use native.Mathlib.Nat.{not-suc-le-zero, zero-add}
use native.Mathlib.Decide.{dec_lt}
use native.Mathlib.Omega.{arith}
use mathlib.Core.Logic.{◌⊎◌, inl, inr}
use mathlib.Core.Path.{◌≡◌, refl, sym, ap, ◌∙◌, subst}
use mathlib.Core.Bool.{Bool, true, false, So, not, Bool-discrete, cond, ◌&&◌, ◌||◌, true≢false, false≢true}
use lib.Dec.{eqb}
use borrow.Author.Tests.{eqb-true, eqb-false, eq-eqb, ne_eqb}
use Rattle.std.proofs.lemmas.Bool.{and_from}
use Rattle.grid.specs.Lists.{Distinct, init, tail, range, upto, filter, any, all, member, flat_map, once, last}

-- a test passes or fails
pub split : (b : Bool) → (b ≡ true) ⊎ (b ≡ false)
split true = inl refl
split false = inr refl

-- both, either, not
pub and-true : (a b : Bool) → (a && b) ≡ true → (a ≡ true) × (b ≡ true)
and-true true b h = (refl, h)
and-true false b h = absurd (false≢true h)

-- a test is decided
pub Dec-So : (b : Bool) → Dec (So b)
Dec-So b = Bool-discrete b true

-- a test that does not pass is false
pub So-false : (b : Bool) → ¬ So b → b ≡ false
So-false true h = absurd (h refl)
So-false false h = refl

-- either
pub or-So : {a b : Bool} → So (a || b) → So a ⊎ So b
or-So {a = true} h = inl refl
or-So {a = false} h = inr h

pub So-orl : {a : Bool} (b : Bool) → So a → So (a || b)
So-orl b h = rw h

pub So-orr : (a : Bool) {b : Bool} → So b → So (a || b)
So-orr true h = refl
So-orr false h = h

-- not
pub not-So : {a : Bool} → So (not a) → ¬ So a
not-So {a = true} h _ = true≢false (sym h)
not-So {a = false} _ h = false≢true h

pub So-not : (a : Bool) → ¬ So a → So (not a)
So-not true h = absurd (h refl)
So-not false h = refl

module _ {A : Type 0} where
  -- the members of a filtered list are those that pass
  pub filter-mem : (p : A → Bool) (l : List A) {x : A} → Memᴰ x (filter p l) → Memᴰ x l × (p x ≡ true)
  filter-mem p [] m = absurd (Memᴰ.not-nil m)
  filter-mem p (y ∷ ys) {x} m = go (λ (k : Memᴰ x (filter p ys)). filter-mem p ys k) (p y) refl m
    where
      Goal : Type 0
      Goal = Memᴰ x (y ∷ ys) × (p x ≡ true)

      later : Memᴰ x ys × (p x ≡ true) → Goal
      later r = (Memᴰ.tail r.0, r.1)

      go : (Memᴰ x (filter p ys) → Memᴰ x ys × (p x ≡ true)) → (b : Bool) → p y ≡ b → Memᴰ x (cond b (y ∷ filter p ys) (filter p ys)) → Goal
      go below true e (Memᴰ.head h) = (Memᴰ.head h, ap p h ∙ e)
      go below true e (Memᴰ.tail k) = later (below k)
      go below false e k = later (below k)

  pub mem-filter : (p : A → Bool) (l : List A) {x : A} → Memᴰ x l → p x ≡ true → Memᴰ x (filter p l)
  mem-filter p (y ∷ ys) (Memᴰ.head e) h = rw (ap p (sym e) ∙ h) (Memᴰ.head e)
  mem-filter p (y ∷ ys) {x} (Memᴰ.tail m) h = go (p y) (mem-filter p ys m h)
    where
      go : (b : Bool) → Memᴰ x (filter p ys) → Memᴰ x (cond b (y ∷ filter p ys) (filter p ys))
      go true k = Memᴰ.tail k
      go false k = k
  mem-filter p [] {x = x} x4 h = elim x4 [ ]

  -- some member passes
  pub any-mem : (p : A → Bool) (l : List A) → any p l ≡ true → (x : A) × Memᴰ x l × (p x ≡ true)
  any-mem p [] h = absurd (false≢true h)
  any-mem p (y ∷ ys) h = go (λ (k : any p ys ≡ true). any-mem p ys k) (p y) refl h
    where
      go : (any p ys ≡ true → (x : A) × Memᴰ x ys × (p x ≡ true)) → (b : Bool) → p y ≡ b → (b || any p ys) ≡ true → (x : A) × Memᴰ x (y ∷ ys) × (p x ≡ true)
      go below true e k = (y, Memᴰ.head refl, e)
      go below false e k = let r = below k in (r.0, Memᴰ.tail r.1, r.2)

  pub mem-any : (p : A → Bool) (l : List A) {x : A} → Memᴰ x l → p x ≡ true → any p l ≡ true
  mem-any p (y ∷ ys) (Memᴰ.head e) h = rw (ap p (sym e) ∙ h) refl
  mem-any p (y ∷ ys) (Memᴰ.tail m) h = So-orr (p y) (mem-any p ys m h)
  mem-any p [] x4 h = elim x4 [ ]

  -- every member passes
  pub all-mem : (p : A → Bool) (l : List A) → all p l ≡ true → (x : A) → Memᴰ x l → p x ≡ true
  all-mem p (y ∷ ys) h x (Memᴰ.head e) = ap p e ∙ (and-true (p y) (all p ys) h).0
  all-mem p (y ∷ ys) h x (Memᴰ.tail m) = all-mem p ys (and-true (p y) (all p ys) h).1 x m
  all-mem p [] h x x4 = elim x4 [ ]

  pub mem-all : (p : A → Bool) (l : List A) → ((x : A) → Memᴰ x l → p x ≡ true) → all p l ≡ true
  mem-all p [] f = refl
  mem-all p (y ∷ ys) f = and_from _ _ (f y (Memᴰ.head refl)) (mem-all p ys (λ x m. f x (Memᴰ.tail m)))

  -- the last member is a member
  pub last-mem : (d : A) (l : List A) {x : A} → Memᴰ x l → Memᴰ (last d l) l
  unfolding last
  last-mem d (y ∷ []) m = Memᴰ.head refl
  last-mem d (y ∷ z ∷ zs) m = Memᴰ.tail (last-mem y (z ∷ zs) (Memᴰ.head refl))
  last-mem d [] m = elim m [ ]

module _ {A B : Type 0} where
  -- the members of a flat_map
  pub flat_map-mem : (f : A → List B) (l : List A) {y : B} → Memᴰ y (flat_map f l) → (x : A) × Memᴰ x l × Memᴰ y (f x)
  flat_map-mem f [] m = absurd (Memᴰ.not-nil m)
  flat_map-mem f (x ∷ xs) {y} m = go (λ (k : Memᴰ y (flat_map f xs)). flat_map-mem f xs k) (Memᴰ.append_cases (f x) m)
    where
      go : (Memᴰ y (flat_map f xs) → (z : A) × Memᴰ z xs × Memᴰ y (f z))
          → Memᴰ y (f x) ⊎ Memᴰ y (flat_map f xs) → (z : A) × Memᴰ z (x ∷ xs) × Memᴰ y (f z)
      go below (inl k) = (x, Memᴰ.head refl, k)
      go below (inr k) = let r = below k in (r.0, Memᴰ.tail r.1, r.2)

  pub mem-flat_map : (f : A → List B) (l : List A) {x : A} {y : B} → Memᴰ x l → Memᴰ y (f x) → Memᴰ y (flat_map f l)
  mem-flat_map f (z ∷ zs) {x} {y} (Memᴰ.head e) k = Memᴰ.append_left (flat_map f zs) (rw e at k)
  mem-flat_map f (z ∷ zs) (Memᴰ.tail m) k = Memᴰ.append_right (f z) (mem-flat_map f zs m k)
  mem-flat_map f [] {x = x} {y = y} x4 k = elim x4 [ ]

-- the test of membership
pub member-mem : (i : ℕ) (l : List ℕ) → So (member i l) → Memᴰ i l
unfolding member
member-mem i l h = let r = any-mem (eqb i) l h in subst (λ x. Memᴰ x l) (sym (eqb-true i r.0 r.2)) r.1

pub mem-member : (i : ℕ) (l : List ℕ) → Memᴰ i l → So (member i l)
unfolding member
mem-member i l m = mem-any (eqb i) l m (eq-eqb i i refl)

-- `once` keeps the members
pub once-mem : (l : List ℕ) {x : ℕ} → Memᴰ x (once l) → Memᴰ x l
unfolding once
once-mem [] m = m
once-mem (y ∷ ys) {x} m = go (member y ys) m (λ k. once-mem ys k)
  where
    go : (b : Bool) → Memᴰ x (cond b (once ys) (y ∷ once ys)) → (Memᴰ x (once ys) → Memᴰ x ys) → Memᴰ x (y ∷ ys)
    go true k ih = Memᴰ.tail (ih k)
    go false (Memᴰ.head e) ih = Memᴰ.head e
    go false (Memᴰ.tail k) ih = Memᴰ.tail (ih k)

pub mem-once : (l : List ℕ) {x : ℕ} → Memᴰ x l → Memᴰ x (once l)
unfolding once
mem-once (y ∷ ys) {x} m = go (Dec-So (member y ys)) m (λ k. mem-once ys k)
  where
    go : Dec (So (member y ys)) → Memᴰ x (y ∷ ys) → (Memᴰ x ys → Memᴰ x (once ys)) → Memᴰ x (cond (member y ys) (once ys) (y ∷ once ys))
    go (yes h) (Memᴰ.head e) ih = rw h (ih (subst (λ z. Memᴰ z ys) (sym e) (member-mem y ys h)))
    go (yes h) (Memᴰ.tail k) ih = rw h (ih k)
    go (no h) (Memᴰ.head e) ih = rw (So-false (member y ys) h) (Memᴰ.head e)
    go (no h) (Memᴰ.tail k) ih = rw (So-false (member y ys) h) (Memᴰ.tail (ih k))
mem-once [] {x = x} m = elim m [ ]

-- `once` of a list with no member, and of one whose members are all f
pub once-nil : (l : List ℕ) → ((x : ℕ) → ¬ Memᴰ x l) → once l ≡ []
unfolding once
once-nil [] h = refl
once-nil (x ∷ xs) h = absurd (h x (Memᴰ.head refl))

pub once_one : (l : List ℕ) (f : ℕ) → Memᴰ f l → ((x : ℕ) → Memᴰ x l → x ≡ f) → once l ≡ f ∷ []
unfolding once
once_one [] f m h = absurd (Memᴰ.not-nil m)
once_one (y ∷ ys) f m h = go (Dec-So (member y ys)) (λ k. once_one ys f k (λ x n. h x (Memᴰ.tail n)))
  where
    yf : y ≡ f
    yf = h y (Memᴰ.head refl)

    go : Dec (So (member y ys)) → (Memᴰ f ys → once ys ≡ f ∷ []) → cond (member y ys) (once ys) (y ∷ once ys) ≡ f ∷ []
    go (yes k) ih = rw k (ih (subst (λ z. Memᴰ z ys) yf (member-mem y ys k)))
    go (no k) ih = rw (So-false (member y ys) k)
        (ap (λ z. z ∷ once ys) yf ∙ ap (λ z. f ∷ z) (once-nil ys (λ x n. k (mem-member y ys (subst (λ z. Memᴰ z ys) (h x (Memᴰ.tail n) ∙ sym yf) n)))))

-- the members of a range
pub range-mem : (a k : ℕ) {x : ℕ} → Memᴰ x (range a k) → (a ≤ x) × (x < a + k)
unfolding range
range-mem a zero m = absurd (Memᴰ.not-nil m)
range-mem a (suc k) (Memᴰ.head e) = omega arith
range-mem a (suc k) (Memᴰ.tail m) = let r = range-mem (suc a) k m in omega arith

pub mem-range : (a k : ℕ) {x : ℕ} → a ≤ x → x < a + k → Memᴰ x (range a k)
unfolding range
mem-range a zero h l = absurd (omega arith)
mem-range a (suc k) {x} h l = go (λ (d : suc a ≤ x). mem-range (suc a) k d (omega arith)) (split (eqb x a))
  where
    go : (suc a ≤ x → Memᴰ x (range (suc a) k)) → (eqb x a ≡ true) ⊎ (eqb x a ≡ false) → Memᴰ x (a ∷ range (suc a) k)
    go below (inl e) = Memᴰ.head (eqb-true x a e)
    go below (inr e) = Memᴰ.tail (below (omega (arith, eqb-false x a e)))

-- the members of upto
pub upto-mem : (n : ℕ) {x : ℕ} → Memᴰ x (upto n) → x < n
unfolding upto
upto-mem n m = omega (arith, range-mem 0 n m)

pub mem-upto : (n : ℕ) {x : ℕ} → x < n → Memᴰ x (upto n)
unfolding upto
mem-upto n h = mem-range 0 n (omega arith) (omega arith)

-- a range by positions
pub length-range : (a k : ℕ) → length (range a k) ≡ k
unfolding range
length-range a zero = refl
length-range a (suc k) = ap suc (length-range (suc a) k)

pub get_or-range : (a k i : ℕ) → i < k → get_or (range a k) i 0 ≡ a + i
unfolding range
get_or-range a zero i h = absurd (not-suc-le-zero h)
get_or-range a (suc k) zero h = omega arith
get_or-range a (suc k) (suc i) h = omega (arith, get_or-range (suc a) k i (omega arith))

-- positions
pub mem_at : (l : List ℕ) {x : ℕ} → Memᴰ x l → (k : ℕ) × (k < length l) × (get_or l k 0 ≡ x)
mem_at (y ∷ ys) (Memᴰ.head e) = (0, omega arith, sym e)
mem_at (y ∷ ys) (Memᴰ.tail m) = let r = mem_at ys m in (suc r.0, omega (arith, r.1), r.2)
mem_at [] x3 = elim x3 [ ]

pub at_mem : (l : List ℕ) (k : ℕ) → k < length l → Memᴰ (get_or l k 0) l
at_mem [] k h = absurd (omega arith)
at_mem (x ∷ xs) zero h = Memᴰ.head refl
at_mem (x ∷ xs) (suc k) h = Memᴰ.tail (at_mem xs k (omega arith))

-- an entry that is not 0 has a place
pub place_in : (l : List ℕ) (k : ℕ) → 0 < get_or l k 0 → k < length l
place_in l k e = go (dec_lt k (length l))
  where
    go : Dec (k < length l) → k < length l
    go (yes h) = h
    go (no h) = absurd (omega (arith, e, get_or-eq_default l 0 {n = k} (omega arith)))

-- an entry of a map
pub map_at : (f : ℕ → ℕ) (l : List ℕ) (k : ℕ) → k < length l → get_or (map f l) k 0 ≡ f (get_or l k 0)
map_at f [] k h = absurd (omega arith)
map_at f (x ∷ xs) zero h = refl
map_at f (x ∷ xs) (suc k) h = map_at f xs k (omega arith)

pub length-init : (l : List ℕ) → length (init l) ≡ length l - 1
unfolding init
length-init [] = refl
length-init (x ∷ []) = refl
length-init (x ∷ y ∷ ys) = omega (arith, length-init (y ∷ ys))

pub get_or-init : (l : List ℕ) (k : ℕ) → k < length l - 1 → get_or (init l) k 0 ≡ get_or l k 0
unfolding init
get_or-init [] k h = absurd (omega arith)
get_or-init (x ∷ []) k h = absurd (omega arith)
get_or-init (x ∷ y ∷ ys) zero h = refl
get_or-init (x ∷ y ∷ ys) (suc k) h = get_or-init (y ∷ ys) k (omega arith)

pub length-tail : (l : List ℕ) → length (tail l) ≡ length l - 1
unfolding tail
length-tail [] = refl
length-tail (x ∷ xs) = omega arith

pub get_or-tail : (l : List ℕ) (k : ℕ) → get_or (tail l) k 0 ≡ get_or l (suc k) 0
unfolding tail
get_or-tail [] k = refl
get_or-tail (x ∷ xs) k = refl

-- members and maps without the last, and without the first
pub init-mem : {A : Type 0} (l : List A) {x : A} → Memᴰ x (init l) → Memᴰ x l
unfolding init
init-mem (y ∷ z ∷ l) (Memᴰ.head e) = Memᴰ.head e
init-mem (y ∷ z ∷ l) (Memᴰ.tail m) = Memᴰ.tail (init-mem (z ∷ l) m)
init-mem {A = A} [] x3 = elim x3 [ ]
init-mem {A = A} (y ∷ []) x7 = elim x7 [ ]

pub tail-mem : {A : Type 0} (l : List A) {x : A} → Memᴰ x (tail l) → Memᴰ x l
unfolding tail
tail-mem (y ∷ l) m = Memᴰ.tail m
tail-mem {A = A} [] m = elim m [ ]

pub init-map : {A B : Type 0} (f : A → B) (l : List A) → init (map f l) ≡ map f (init l)
unfolding init
init-map f [] = refl
init-map f (x ∷ []) = refl
init-map {B} f (x ∷ y ∷ l) = ap (λ (w : List B). f x ∷ w) (init-map f (y ∷ l))

pub tail-map : {A B : Type 0} (f : A → B) (l : List A) → tail (map f l) ≡ map f (tail l)
unfolding tail
tail-map f [] = refl
tail-map f (x ∷ l) = refl

-- a map there and one back
pub map_home : {A B : Type 0} (f : A → B) (h : B → A) (l : List A) → ((x : A) → Memᴰ x l → h (f x) ≡ x) → map h (map f l) ≡ l
map_home f h [] e = refl
map_home f h (x ∷ l) e =
    let a = e x (Memᴰ.head refl) in
    let b = map_home f h l (λ y m. e y (Memᴰ.tail m)) in
    cc

-- a map over the numbers below n, by positions
get_or-map-range : {A : Type 0} (f : ℕ → A) (a k i : ℕ) (d : A) → i < k → get_or (map f (range a k)) i d ≡ f (a + i)
unfolding range
get_or-map-range f a zero i d h = absurd (omega arith)
get_or-map-range f a (suc k) zero d h = ap f (omega arith)
get_or-map-range f a (suc k) (suc i) d h = get_or-map-range f (suc a) k i d (omega arith) ∙ ap f (omega arith)

length-map-range : {A : Type 0} (f : ℕ → A) (a k : ℕ) → length (map f (range a k)) ≡ k
unfolding range
length-map-range f a zero = refl
length-map-range f a (suc k) = ap suc (length-map-range f (suc a) k)

module _ {A : Type 0} (f : ℕ → A) (n : ℕ) where
  pub length-map-upto : length (map f (upto n)) ≡ n
  unfolding upto
  length-map-upto = length-map-range f 0 n

  pub map-upto_at : (i : ℕ) (d : A) → i < n → get_or (map f (upto n)) i d ≡ f i
  unfolding upto
  map-upto_at i d h = get_or-map-range f 0 n i d h ∙ ap f (zero-add i)

  -- behind them
  pub map-upto_past : (i : ℕ) (d : A) → n ≤ i → get_or (map f (upto n)) i d ≡ d
  map-upto_past i d h = get_or-eq_default (map f (upto n)) d {n = i} (omega (arith, length-map-upto))

-- distinct members stand at one place each
pub Distinct-once : (l : List ℕ) → Distinct l → (i j : ℕ) → i < length l → j < length l → get_or l i 0 ≡ get_or l j 0 → i ≡ j
Distinct-once [] d i j h k e = absurd (omega arith)
Distinct-once (x ∷ xs) d zero zero h k e = refl
Distinct-once (x ∷ xs) d zero (suc j) h k e = absurd (d.0 (subst (λ y. Memᴰ y xs) (sym e) (at_mem xs j (omega arith))))
Distinct-once (x ∷ xs) d (suc i) zero h k e = absurd (d.0 (subst (λ y. Memᴰ y xs) e (at_mem xs i (omega arith))))
Distinct-once (x ∷ xs) d (suc i) (suc j) h k e = ap suc (Distinct-once xs d.1 i j (omega arith) (omega arith) e)

-- what keeps members distinct
pub Distinct-filter : (p : ℕ → Bool) (l : List ℕ) → Distinct l → Distinct (filter p l)
Distinct-filter p [] d = tt
Distinct-filter p (x ∷ xs) d = go (p x) (Distinct-filter p xs d.1)
  where
    go : (b : Bool) → Distinct (filter p xs) → Distinct (cond b (x ∷ filter p xs) (filter p xs))
    go true e = (λ m. d.0 (filter-mem p xs m).0, e)
    go false e = e

Distinct-range : (a k : ℕ) → Distinct (range a k)
unfolding range
Distinct-range a zero = tt
Distinct-range a (suc k) = (λ m. omega (arith, range-mem (suc a) k m), Distinct-range (suc a) k)

pub Distinct-upto : (n : ℕ) → Distinct (upto n)
unfolding upto
Distinct-upto n = Distinct-range 0 n

pub Distinct-snoc : (l : List ℕ) (x : ℕ) → Distinct l → ¬ Memᴰ x l → Distinct (l ++ (x ∷ []))
Distinct-snoc [] x d n = (Memᴰ.not-nil, tt)
Distinct-snoc (y ∷ ys) x d n = (λ m. go (Memᴰ.append_cases ys m), Distinct-snoc ys x d.1 (λ m. n (Memᴰ.tail m)))
  where
    go : Memᴰ y ys ⊎ Memᴰ y (x ∷ []) → ⊥
    go (inl k) = d.0 k
    go (inr k) = n (Memᴰ.head (sym (Memᴰ.eq_of_singleton k)))

-- distinct members that are all e
pub only_one : (l : List ℕ) → Distinct l → (e : ℕ) → Memᴰ e l → ((y : ℕ) → Memᴰ y l → y ≡ e) → length l ≡ 1
only_one [] d e m f = absurd (Memᴰ.not-nil m)
only_one (x ∷ []) d e m f = refl
only_one (x ∷ y ∷ l) d e m f = absurd (d.0 (Memᴰ.head (f x (Memᴰ.head refl) ∙ sym (f y (Memᴰ.tail (Memᴰ.head refl))))))

-- a list of length one
pub single : (l : List ℕ) → length l ≡ 1 → (e : ℕ) × (l ≡ e ∷ [])
single [] h = absurd (omega arith)
single (e ∷ []) h = (e, refl)
single (e ∷ d ∷ l) h = absurd (omega arith)

pub in_single : {l : List ℕ} {e : ℕ} → l ≡ e ∷ [] → Memᴰ e l
in_single q = rw q (Memᴰ.head refl)

pub of_single : {l : List ℕ} {e y : ℕ} → l ≡ e ∷ [] → Memᴰ y l → y ≡ e
of_single q m = Memᴰ.eq_of_singleton (rw q at m)

-- a test splits a list in two
pub filter_split : (p : ℕ → Bool) (l : List ℕ) → length l ≡ length (filter p l) + length (filter (λ x. not (p x)) l)
filter_split p [] = omega arith
filter_split p (x ∷ xs) = go (p x) (filter_split p xs)
  where
    go : (b : Bool) → length xs ≡ length (filter p xs) + length (filter (λ k. not (p k)) xs)
        → suc (length xs) ≡ length (cond b (x ∷ filter p xs) (filter p xs)) + length (cond (not b) (x ∷ filter (λ k. not (p k)) xs) (filter (λ k. not (p k)) xs))
    go true h = omega arith
    go false h = omega arith

-- lengths
pub filter-length : (p : ℕ → Bool) (l : List ℕ) → length (filter p l) ≤ length l
filter-length p l = omega (arith, filter_split p l)

pub flat_map-length : {B : Type 0} (f : ℕ → List B) → ((x : ℕ) → length (f x) ≤ 1) → (l : List ℕ) → length (flat_map f l) ≤ length l
flat_map-length f h [] = omega arith
flat_map-length f h (x ∷ xs) = rw length-append (omega (arith, h x, flat_map-length f h xs))

-- a list of distinct members is not longer than one that has them
Distinct-fits : (l m : List ℕ) → Distinct l → ((x : ℕ) → Memᴰ x l → Memᴰ x m) → length l ≤ length m
Distinct-fits [] m d s = omega arith
Distinct-fits (x ∷ xs) m d s =
    omega (arith, Distinct-fits xs (filter (λ y. not (eqb x y)) m) d.1 rest, filter_split (eqb x) m, some (filter (eqb x) m) (mem-filter (eqb x) m (s x (Memᴰ.head refl)) (eq-eqb x x refl)))
  where
    some : (l : List ℕ) → Memᴰ x l → 0 < length l
    some [] q = absurd (Memᴰ.not-nil q)
    some (y ∷ ys) q = omega arith

    other : (y : ℕ) → Memᴰ y xs → not (eqb x y) ≡ true
    other y q = let e : eqb x y ≡ false = ne_eqb x y (λ r. d.0 (rw r q)) in rw e refl

    rest : (y : ℕ) → Memᴰ y xs → Memᴰ y (filter (λ y. not (eqb x y)) m)
    rest y q = mem-filter (λ y. not (eqb x y)) m (s y (Memᴰ.tail q)) (other y q)

-- distinct numbers below n are at most n
pub Distinct-few : (l : List ℕ) (n : ℕ) → Distinct l → ((x : ℕ) → Memᴰ x l → x < n) → length l ≤ n
unfolding upto
Distinct-few l n d s = omega (arith, Distinct-fits l (upto n) d (λ x q. mem-upto n (s x q)), length-range 0 n)
