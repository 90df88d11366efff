-- The ordered part holds the literals of a set of cells, by rising index.
-- Assumes nothing.
use Prim.Native.Nat.{ℕ, zero, suc, ◌+◌, ◌-◌, ◌≤◌, ◌<◌}
use native.Mathlib.Omega.{arith}
use mathlib.Core.Logic.{◌⊎◌, inl, inr}
use mathlib.Core.Path.{◌≡◌, refl, sym, ap, ◌∙◌, subst}
use mathlib.Core.Bool.{Bool, true, false, So, cond, ◌||◌, or-false}
use mathlib.Core.List.Memᴰ
use mathlib.Core.List.{List, [], ◌∷◌, ◌++◌, map, Memᴰ, map-append}
use lib.Dec.{eqb}
use lib.ListN.{length, get_or, take, drop, take-append-drop, length-append}
use lib.Seq.{get_or-take, drop-drop}
use borrow.Author.Tests.{eqb-true, eq-eqb}
use Rattle.grid.specs.Lists.{upto, filter}
use Rattle.grid.proofs.ListLaws.{filter-mem, mem-filter, upto-mem, mem-upto, at_mem, So-orl, So-orr, or-So, filter-length, length-range, map_at}
use Rattle.grid.proofs.RisingLaws.{Rising, nil, cons, range-Rising, filter-Rising, Rising-same}
use Rattle.grid.proofs.AppendLaws.{filter_agree}
use Rattle.fence.specs.Inside.{key, lit_at, Place, Inserted, old, new, Ordered}

-- ---- rising lists

-- the members of a list with one more at place p
more_mem : (l : List ℕ) (p i : ℕ) {x : ℕ} → Memᴰ x (take p l ++ (i ∷ drop p l)) → Memᴰ x l ⊎ (x ≡ i)
more_mem l p i {x} m = go (Memᴰ.append_cases (take p l) m)
  where
    whole : Memᴰ x (take p l ++ drop p l) → Memᴰ x l
    whole k = subst (λ (t : List ℕ). Memᴰ x t) (take-append-drop p l) k

    go : Memᴰ x (take p l) ⊎ Memᴰ x (i ∷ drop p l) → Memᴰ x l ⊎ (x ≡ i)
    go (inl k) = inl (whole (Memᴰ.append_left (drop p l) k))
    go (inr (Memᴰ.head e)) = inr e
    go (inr (Memᴰ.tail k)) = inl (whole (Memᴰ.append_right (take p l) k))

mem_more : (l : List ℕ) (p i : ℕ) {x : ℕ} → Memᴰ x l → Memᴰ x (take p l ++ (i ∷ drop p l))
mem_more l p i {x} m = go (Memᴰ.append_cases (take p l) (subst (λ (t : List ℕ). Memᴰ x t) (sym (take-append-drop p l)) m))
  where
    go : Memᴰ x (take p l) ⊎ Memᴰ x (drop p l) → Memᴰ x (take p l ++ (i ∷ drop p l))
    go (inl k) = Memᴰ.append_left (i ∷ drop p l) k
    go (inr k) = Memᴰ.append_right (take p l) (Memᴰ.tail k)

-- each member before place p is below i, each from there on is above it
Rising-before : {l : List ℕ} → Rising l → (p i : ℕ) → (0 < p → get_or l (p - 1) 0 < i) → (k : ℕ) → k < p → k < length l → p ≤ length l → get_or l k 0 < i
Rising-before {l} r p i h k a b e = go (p - 1) (omega arith) (h (omega arith)) (omega arith)
  where
    step_up : {l : List ℕ} → Rising l → (k m : ℕ) → k ≤ m → m < length l → get_or l k 0 ≤ get_or l m 0
    step_up nil k m q s = absurd (omega arith)
    step_up (cons {x} {xs} f r) zero zero q s = omega arith
    step_up (cons {x} {xs} f r) zero (suc m) q s = omega (arith, f (get_or xs m 0) (at_mem xs m (omega arith)))
    step_up (cons {x} {xs} f r) (suc k) zero q s = absurd (omega arith)
    step_up (cons {x} {xs} f r) (suc k) (suc m) q s = step_up r k m (omega arith) (omega arith)

    go : (m : ℕ) → k ≤ m → get_or l m 0 < i → m < length l → get_or l k 0 < i
    go m q s t = omega (arith, step_up r k m q t, s)

Rising-more : {l : List ℕ} → Rising l → (p i : ℕ) → p ≤ length l → (0 < p → get_or l (p - 1) 0 < i) → (p < length l → i < get_or l p 0) → Rising (take p l ++ (i ∷ drop p l))
Rising-more nil zero i le b a = cons (λ y m. absurd (Memᴰ.not-nil m)) nil
Rising-more nil (suc p) i le b a = absurd (omega arith)
Rising-more (cons {x} {xs} h r) zero i le b a = cons (λ y m. above y m) (cons h r)
  where
    above : (y : ℕ) → Memᴰ y (x ∷ xs) → i < y
    above y (Memᴰ.head e) = omega (arith, a (omega arith), e)
    above y (Memᴰ.tail m) = omega (arith, a (omega arith), h y m)
Rising-more (cons {x} {xs} h r) (suc p) i le b a = cons (λ y m. first y (more_mem xs p i m)) (Rising-more r p i (omega arith) below (λ q. a (omega arith)))
  where
    low : x < i
    low = Rising-before (cons h r) (suc p) i b 0 (omega arith) (omega arith) le

    below : 0 < p → get_or xs (p - 1) 0 < i
    below q = Rising-before (cons h r) (suc p) i b (suc (p - 1)) (omega arith) (omega arith) le

    first : (y : ℕ) → Memᴰ y xs ⊎ (y ≡ i) → x < y
    first y (inl m) = h y m
    first y (inr e) = omega (arith, low, e)

-- ---- lists under a map

module _ (f : ℕ → ℕ) where
  map-take : (p : ℕ) (l : List ℕ) → take p (map f l) ≡ map f (take p l)
  map-take zero [] = refl
  map-take (suc p) [] = refl
  map-take zero (x ∷ l) = refl
  map-take (suc p) (x ∷ l) = ap (λ (t : List ℕ). f x ∷ t) (map-take p l)

  map-drop : (p : ℕ) (l : List ℕ) → drop p (map f l) ≡ map f (drop p l)
  map-drop zero [] = refl
  map-drop (suc p) [] = refl
  map-drop zero (x ∷ l) = refl
  map-drop (suc p) (x ∷ l) = map-drop p l

-- what agrees from c on agrees from r on
drop_later : (a b : List ℕ) (c r : ℕ) → c ≤ r → drop c a ≡ drop c b → drop r a ≡ drop r b
drop_later a b c r h e =
    let q : c + (r - c) ≡ r = omega arith in
    subst (λ (k : ℕ). drop k a ≡ drop k b) q (sym (drop-drop (r - c) c a) ∙ ap (drop (r - c)) e ∙ drop-drop (r - c) c b)

-- the index of a literal's number
pub key_lit : (K : List ℕ) (i : ℕ) → i < 1024 → key (lit_at K i) ≡ i
unfolding lit_at
key_lit K i h = by (eqb (get_or K i 0) 1)
  where
    by : (b : Bool) → key (cond b (32768 + i) i) ≡ i
    by true = omega arith
    by false = omega arith

-- ---- the part

-- the same cells by another test
pub Ordered-same : {K base part : List ℕ} {n c : ℕ} (S T : ℕ → Bool) → ((j : ℕ) → j < n → S j ≡ T j) → Ordered K n base S part c → Ordered K n base T part c
Ordered-same {n = n} S T e O =
    let q : filter S (upto n) ≡ filter T (upto n) = filter_agree S T (upto n) (λ j m. e j (upto-mem n m)) in
    record { list = rw q at O.list; number = rw q at O.number; rest = O.rest; long = O.long; room = O.room; small = O.small }

module _ {K base part : List ℕ} {n c : ℕ} {S : ℕ → Bool} (O : Ordered K n base S part c) where
  -- the cells in order
  abbrev F : List ℕ
  F = filter S (upto n)

  Rising-F : Rising F
  unfolding upto
  Rising-F = filter-Rising S (range-Rising 0 n)

  -- no more literals than cells, so there is room for one more
  pub ordered_few : c ≤ n
  unfolding upto
  ordered_few = omega (arith, O.number, filter-length S (upto n), length-range 0 n)

  pub ordered_room : c < length part
  ordered_room = omega (arith, ordered_few, O.room, O.long)

  below : (k : ℕ) → k < length F → get_or F k 0 < 1024
  below k h = omega (arith, O.small, upto-mem n (filter-mem S (upto n) (at_mem F k h)).0)

  key_at : (k : ℕ) → k < c → key (get_or part k 0) ≡ get_or F k 0
  key_at k h =
      let m : k < length F = omega (arith, O.number) in
      ap key (sym (get_or-take c part k 0 h) ∙ ap (λ (l : List ℕ). get_or l k 0) O.list ∙ map_at (lit_at K) F k m) ∙ key_lit K (get_or F k 0) (below k m)

  -- the place of a literal, by the cells' order
  module _ (i x : ℕ) (l : i < n) (key_x : key x ≡ i) where
    Place-before : (p : ℕ) → Place part c x p → 0 < p → get_or F (p - 1) 0 < i
    Place-before p P h = omega (arith, P.before h, key_x, key_at (p - 1) (omega (arith, P.within)))

    Place-behind : (p : ℕ) → Place part c x p → p < c → i ≤ get_or F p 0
    Place-behind p P h = omega (arith, P.behind h, key_x, key_at p h)

    -- the index is there
    pub found : (p : ℕ) → p < c → key (get_or part p 0) ≡ key x → So (S i)
    found p h q =
        let m : get_or F p 0 ≡ i = sym (key_at p h) ∙ q ∙ key_x in
        subst (λ (j : ℕ). So (S j)) m (filter-mem S (upto n) (at_mem F p (omega (arith, O.number)))).1

    -- the index is not there
    module _ (p : ℕ) (P : Place part c x p) (ne : p < c → key (get_or part p 0) ≡ key x → ⊥) where
      strict : p < length F → i < get_or F p 0
      strict h =
          let m : p < c = omega (arith, O.number) in
          let q : (i ≡ get_or F p 0) → ⊥ = λ z. ne m (key_at p m ∙ sym z ∙ sym key_x) in
          omega (arith, Place-behind p P m, q)

      rising' : Rising (take p F ++ (i ∷ drop p F))
      rising' = Rising-more Rising-F p i (omega (arith, O.number, P.within)) (Place-before p P) strict

      abbrev S' : ℕ → Bool
      S' j = S j || eqb i j

      same : take p F ++ (i ∷ drop p F) ≡ filter S' (upto n)
      unfolding upto
      same = Rising-same rising' (filter-Rising S' (range-Rising 0 n)) (λ y m. there y (more_mem F p i m)) (λ y m. back y (filter-mem S' (upto n) m).0 (or-So {a = S y} (filter-mem S' (upto n) m).1))
        where
          there : (y : ℕ) → Memᴰ y F ⊎ (y ≡ i) → Memᴰ y (filter S' (upto n))
          there y (inl m) = let r = filter-mem S (upto n) m in mem-filter S' (upto n) r.0 (So-orl (eqb i y) r.1)
          there y (inr q) = mem-filter S' (upto n) (mem-upto n (omega (arith, q))) (So-orr (S y) (eq-eqb i y (sym q)))

          back : (y : ℕ) → Memᴰ y (upto n) → So (S y) ⊎ So (eqb i y) → Memᴰ y (take p F ++ (i ∷ drop p F))
          back y m (inl s) = mem_more F p i (mem-filter S (upto n) m s)
          back y m (inr s) = Memᴰ.append_right (take p F) (Memᴰ.head (sym (eqb-true i y s)))

      longer : length (take p F ++ (i ∷ drop p F)) ≡ length F + 1
      longer = omega (arith, length-append (take p F) (i ∷ drop p F), length-append (take p F) (drop p F), ap length (take-append-drop p F))

      -- the index is not there
      pub absent : S i ≡ false
      absent = by (S i) refl
        where
          both : Rising (take p F ++ (i ∷ drop p F)) → Memᴰ i F → ⊥
          both r m = twice F p r m (omega (arith, O.number, P.within))
            where
              twice : (l : List ℕ) (q : ℕ) → Rising (take q l ++ (i ∷ drop q l)) → Memᴰ i l → q ≤ length l → ⊥
              twice l zero (cons h r) m z = omega (arith, h i m)
              twice [] (suc q) r m z = omega arith
              twice (y ∷ ys) (suc q) (cons h r) (Memᴰ.head w) z = omega (arith, h i (Memᴰ.append_right (take q ys) (Memᴰ.head refl)), w)
              twice (y ∷ ys) (suc q) (cons h r) (Memᴰ.tail m) z = twice ys q r m (omega arith)

          by : (b : Bool) → S i ≡ b → S i ≡ false
          by true q = absurd (both rising' (mem-filter S (upto n) (mem-upto n l) q))
          by false q = q

    -- a literal is inserted
    pub Ordered-insert : {r : ℕ} {part' : List ℕ} → x ≡ lit_at K i → Inserted part c x r part' → Ordered K n base (λ j. S j || eqb i j) part' r
    Ordered-insert {r} {part'} e (old {p} P h q w z) = rw (w, z) (Ordered-same S (λ j. S j || eqb i j) (λ j m. by j (eqb i j) refl) O)
      where
        by : (j : ℕ) (b : Bool) → eqb i j ≡ b → S j ≡ (S j || b)
        by j true v = subst (λ (y : ℕ). S y ≡ (S y || true)) (eqb-true i j v) (rw (found p h q))
        by j false v = sym (or-false (S j))
    Ordered-insert {r} {part'} e (new {p} P ne w t d s) = record {
      list = t ∙ ap (λ (z : List ℕ). take p z ++ (x ∷ drop p z)) O.list ∙ rw (map-take (lit_at K) p F, map-drop (lit_at K) p F, e) (sym (map-append (lit_at K) (take p F) (i ∷ drop p F)) ∙ ap (map (lit_at K)) (same p P ne));
      number = omega (arith, w, O.number, longer p P ne, ap length (same p P ne));
      rest = d ∙ drop_later part base c r (omega (arith, w)) O.rest;
      long = s ∙ O.long;
      room = O.room;
      small = O.small;
    }
