-- Cells are counted for their owners, and names are marked and listed once each: no code is named here.
-- Assumes nothing.
use Prim.Native.Nat.{ℕ, ◌+◌, ◌-◌, ◌%◌, ◌≤◌, ◌<◌}
use native.Mathlib.Decide.{ℕ_discrete, dec_lt}
use native.Mathlib.Numerals.{add-one}
use native.Mathlib.Omega.{arith}
use mathlib.Core.Logic.{◌⊎◌, inl, inr, ⊎_elim}
use mathlib.Core.Path.{◌≡◌, refl, sym, ap, ◌∙◌, subst}
use mathlib.Core.Bool.{Bool, true, false, cond, ◌&&◌, ◌||◌, not, false≢true, or-false, or_assoc, or-true, and-or_distrib_right, and-false, and_comm}
use mathlib.Core.List.Memᴰ
use mathlib.Core.List.{List, [], ◌∷◌, ◌++◌, Memᴰ}
use lib.Dec.{eqb, ltb}
use lib.ListN.{length, get_or, set, take, replicate, length-append, length-set, length-replicate, get_or-replicate}
use lib.Seq.{length-take-le, get_or-set_same, get_or-set_other, set-get_or, take-suc, take-suc-set}
use borrow.Author.Tests.{eq-eqb, ne_eqb, eqb-true, lt-ltb, le-ltb}
use Rattle.std.specs.List.{All}
use Rattle.std.proofs.lemmas.List.{get_or_default}
use Rattle.grid.specs.Lists.{range, upto, any, filter, member, Distinct}
use Rattle.grid.specs.Grid.{Grid, neighbours}
use Rattle.grid.proofs.ListLaws.{length-range, filter-length, filter_split, Distinct-snoc, at_mem, So-false, member-mem, Distinct-few}
use Rattle.grid.proofs.AppendLaws.{count_hit, count_miss, any-append, any_agree, filter-filter, filter_agree}
use Rattle.grid.proofs.MarkLaws.{Marks-none, Marks-same, Marks-set, mark_off}
use Rattle.reach.specs.Inside.{near_at, near_among, float_among}
use Rattle.reach.specs.Chains.{owned_by, cells_from, Chains}
use Rattle.kinds.specs.Inside.{of_block}
use Rattle.groups.proofs.TableLaws.{any-filter}
use Rattle.reach.specs.Near.{beside_owned, Sizes, Listed, Listing}
use Rattle.reach.proofs.ChainWalks.{Walk, Walk-start, Walk-more, walk_end}

-- ---- the cells of each owner are counted

-- the cells below n that have the owner f
pub cells_are : (owners : List ℕ) (n f : ℕ) → cells_from owners n f 0 ≡ filter (owned_by owners f) (upto n)
unfolding cells_from upto
cells_are owners n f = let z : n - 0 ≡ n = omega arith in rw z refl

-- before the first
pub Sizes-none : (kinds owners : List ℕ) → Sizes kinds owners 0 (replicate 1024 0)
unfolding upto range
Sizes-none kinds owners = record { long = length-replicate {A = ℕ} 1024 0; at = λ f h. get_or-replicate {A = ℕ} 1024 f 0 0 h }

module _ {kinds owners sizes : List ℕ} {i : ℕ} (S : Sizes kinds owners i sizes) where
  -- one more cell that is not counted
  Sizes-same : ((f : ℕ) → f < 1024 → beside_owned kinds owners f i ≡ false) → Sizes kinds owners (i + 1) sizes
  Sizes-same no_go = record { long = S.long; at = λ f h. S.at f h ∙ sym (count_miss (beside_owned kinds owners f) i (no_go f h)) }

  -- one more cell that is counted
  Sizes-more : get_or owners i 0 < 1024 → not (eqb (get_or kinds i 0) 1) ≡ true → Sizes kinds owners (i + 1) (set sizes (get_or owners i 0) (get_or sizes (get_or owners i 0) 0 + 1))
  unfolding beside_owned owned_by
  Sizes-more l m = record { long = length-set sizes o _ ∙ S.long; at = λ f h. go f h (ℕ_discrete f o) }
    where
      o : ℕ
      o = get_or owners i 0

      go : (f : ℕ) → f < 1024 → Dec (f ≡ o) → get_or (set sizes o (get_or sizes o 0 + 1)) f 0 ≡ length (filter (beside_owned kinds owners f) (upto (i + 1)))
      go f h (yes q) =
          rw q (get_or-set_same sizes o (get_or sizes o 0 + 1) 0 (omega (arith, S.long)) ∙ ap (λ (x : ℕ). x + 1) (S.at o l) ∙ sym (count_hit (beside_owned kinds owners o) i (rw (eq-eqb o o refl) m)))
      go f h (no ne) = get_or-set_other sizes o f (get_or sizes o 0 + 1) 0 ne ∙ S.at f h ∙ sym (count_miss (beside_owned kinds owners f) i (rw (ne_eqb o f (λ q. ne (sym q))) refl))

  -- both at once, as they are written without a branch: no owner goes by the place of its remainder, which stays as it is
  pub Sizes-either : Sizes kinds owners (i + 1)
      (set sizes (get_or owners i 0 % 1024) (cond (ltb (get_or owners i 0) 1024 && not (eqb (get_or kinds i 0) 1)) (get_or sizes (get_or owners i 0 % 1024) 0 + 1) (get_or sizes (get_or owners i 0 % 1024) 0)))
  unfolding beside_owned owned_by
  Sizes-either = go (dec_lt (get_or owners i 0) 1024) (not (eqb (get_or kinds i 0) 1)) refl
    where
      go : Dec (get_or owners i 0 < 1024) → (b : Bool) → not (eqb (get_or kinds i 0) 1) ≡ b
          → Sizes kinds owners (i + 1) (set sizes (get_or owners i 0 % 1024) (cond (ltb (get_or owners i 0) 1024 && b) (get_or sizes (get_or owners i 0 % 1024) 0 + 1) (get_or sizes (get_or owners i 0 % 1024) 0)))
      go (yes l) true m = let e : get_or owners i 0 % 1024 ≡ get_or owners i 0 = omega arith in rw (e, lt-ltb (get_or owners i 0) 1024 l) (Sizes-more l m)
      go (yes l) false m = rw (lt-ltb (get_or owners i 0) 1024 l, set-get_or sizes (get_or owners i 0 % 1024) 0) (Sizes-same (λ f h. rw m (and-false (eqb (get_or owners i 0) f))))
      go (no h) b m = rw (le-ltb (get_or owners i 0) 1024 (omega arith), set-get_or sizes (get_or owners i 0 % 1024) 0) (Sizes-same (λ f k. rw (ne_eqb (get_or owners i 0) f (λ q. omega (arith, q))) refl))

  pub size_few : (f : ℕ) → f < 1024 → get_or sizes f 0 ≤ i
  unfolding upto
  size_few f h = omega (arith, S.at f h, filter-length (beside_owned kinds owners f) (upto i), length-range 0 i)

-- the cells of f are the squares of its block and the others
pub sizes_split : (kinds owners : List ℕ) (n f : ℕ) → length (filter (of_block kinds owners f) (upto n)) + length (filter (beside_owned kinds owners f) (upto n)) ≡ length (cells_from owners n f 0)
unfolding beside_owned owned_by
sizes_split kinds owners n f =
    sym (ap length (cells_are owners n f)
    ∙ filter_split (λ i. eqb (get_or kinds i 0) 1) (filter (owned_by owners f) (upto n))
    ∙ ap (λ (x : ℕ). x + length (filter (λ i. not (eqb (get_or kinds i 0) 1)) (filter (owned_by owners f) (upto n))))
    (ap length (filter-filter (λ i. eqb (get_or kinds i 0) 1) (owned_by owners f) (upto n) ∙ filter_agree _ (of_block kinds owners f) (upto n) (λ i _. and_comm (eqb (get_or owners i 0) f) (eqb (get_or kinds i 0) 1))))
    ∙ ap (λ (x : ℕ). length (filter (of_block kinds owners f) (upto n)) + x) (ap length (filter-filter (λ i. not (eqb (get_or kinds i 0) 1)) (owned_by owners f) (upto n))))

-- ---- names are listed

-- none is listed
Listed-none : {groups : List ℕ} → length groups ≡ 1024 → Listed (λ m. false) (replicate 1024 0) groups 0
Listed-none long = record {
  marked = Marks-none;
  long = long;
  few = omega arith;
  distinct = tt;
  listed = λ m. (λ q. absurd (Memᴰ.not-nil q), λ q. absurd (false≢true q.1));
}

module _ {t : ℕ → Bool} {near groups : List ℕ} {c : ℕ} (L : Listed t near groups c) where
  pub Listed-same : (u : ℕ → Bool) → ((m : ℕ) → m < 1024 → t m ≡ u m) → Listed u near groups c
  Listed-same u e = record {
    marked = Marks-same t u e L.marked;
    long = L.long;
    few = L.few;
    distinct = L.distinct;
    listed = λ m. (λ q. let r = (L.listed m).0 q in (r.0, sym (e m r.0) ∙ r.1), λ q. (L.listed m).1 (q.0, e m q.0 ∙ q.1));
  }

  as_many : length (take c groups) ≡ c
  as_many = length-take-le c groups (omega (arith, L.few, L.long))

  module _ (m : ℕ) (h : m < 1024) (off : t m ≡ false) where
    fresh : ¬ Memᴰ m (take c groups)
    fresh q = false≢true (sym off ∙ ((L.listed m).0 q).1)

    more : Distinct (take c groups ++ (m ∷ []))
    more = Distinct-snoc (take c groups) m L.distinct fresh

    low : (x : ℕ) → Memᴰ x (take c groups ++ (m ∷ [])) → x < 1024
    low x q = ⊎_elim (λ r. ((L.listed x).0 r).0) (λ r. omega (arith, Memᴰ.eq_of_singleton r)) (Memᴰ.append_cases (take c groups) q)

    -- a name that is not listed has room
    listed_room : c < 1024
    listed_room = omega (arith, Distinct-few (take c groups ++ (m ∷ [])) 1024 more low, length-append (take c groups) (m ∷ []), as_many)

    front : take (c + 1) (set groups c m) ≡ take c groups ++ (m ∷ [])
    front = ap (λ (k : ℕ). take k (set groups c m)) (add-one c) ∙ take-suc-set groups c m (omega (arith, listed_room, L.long))

    mem_front : {x : ℕ} (l : List ℕ) → Memᴰ x l → Memᴰ x (l ++ (m ∷ []))
    mem_front l (Memᴰ.head e) = Memᴰ.head e
    mem_front (y ∷ l) (Memᴰ.tail q) = Memᴰ.tail (mem_front l q)

    mem_end : (l : List ℕ) → Memᴰ m (l ++ (m ∷ []))
    mem_end [] = Memᴰ.head refl
    mem_end (y ∷ l) = Memᴰ.tail (mem_end l)

    -- one more name
    Listed-more : Listed (λ x. t x || eqb m x) (set near m 1) (set groups c m) (c + 1)
    Listed-more = record {
      marked = Marks-set t m h L.marked;
      long = length-set groups c m ∙ L.long;
      few = omega (arith, listed_room);
      distinct = subst Distinct (sym front) more;
      listed = λ x. (λ q. into x (Memᴰ.append_cases (take c groups) (subst (Memᴰ x) front q)), λ q. subst (Memᴰ x) (sym front) (from x (t x) refl q));
    }
      where
        into : (x : ℕ) → Memᴰ x (take c groups) ⊎ Memᴰ x (m ∷ []) → (x < 1024) × ((t x || eqb m x) ≡ true)
        into x (inl q) = let r = (L.listed x).0 q in (r.0, rw r.1 refl)
        into x (inr q) =
            let e : x ≡ m = Memᴰ.eq_of_singleton q in
            (omega (arith, e), rw (eq-eqb m x (sym e)) (or-true (t x)))

        from : (x : ℕ) (b : Bool) → t x ≡ b → (x < 1024) × ((t x || eqb m x) ≡ true) → Memᴰ x (take c groups ++ (m ∷ []))
        from x true e q = mem_front (take c groups) ((L.listed x).1 (q.0, e))
        from x false e q = rw (← (eqb-true m x (rw e at q.1))) (mem_end (take c groups))

  -- the listed names are below 1024
  pub listed_small : All (λ m. m < 1024) (take c groups)
  listed_small k d h = ((L.listed _).0 (rw (get_or_default (take c groups) k d 0 h) (at_mem (take c groups) k h))).0

-- ---- the floating group of a cell is listed

module _ (kinds owners : List ℕ) {t : ℕ → Bool} {near groups : List ℕ} {c : ℕ} (L : Listed t near groups c) where
  -- no cell
  pub float_none : Listed (λ m. t m || float_among kinds owners [] m) near groups c
  float_none = Listed-same L _ (λ m h. sym (or-false (t m)))

  module _ (j : ℕ) where
    abbrev then : ℕ → Bool
    then m = t m || float_among kinds owners (j ∷ []) m

    -- its group is new
    pub float_new : get_or kinds j 0 ≡ 4 → get_or owners j 0 < 1024 → (get_or near (get_or owners j 0) 0 ≡ 1 → ⊥) → Listed then (set near (get_or owners j 0) 1) (set groups c (get_or owners j 0)) (c + 1)
    float_new e l ne = Listed-same (Listed-more L (get_or owners j 0) l (mark_off L.marked (get_or owners j 0) l ne)) then (λ m h. rw (eq-eqb (get_or kinds j 0) 4 e) (ap (λ (b : Bool). t m || b) (sym (or-false (eqb (get_or owners j 0) m)))))

-- a group that is not marked has room
pub Listing-room : {near groups : List ℕ} {c : ℕ} (m : ℕ) → Listing near groups c → m < 1024 → (get_or near m 0 ≡ 1 → ⊥) → c < 1024
Listing-room m L h ne = listed_room L.so_far m h (mark_off L.so_far.marked m h ne)

-- ---- the cells next to a cell

module _ (kinds owners : List ℕ) {near groups : List ℕ} {c : ℕ} (t : ℕ → Bool) (js : List ℕ) where
  -- one more of them is passed
  pub float_more : (j : ℕ) → Listed (λ m. (t m || float_among kinds owners js m) || float_among kinds owners (j ∷ []) m) near groups c → Listed (λ m. t m || float_among kinds owners (js ++ (j ∷ [])) m) near groups c
  float_more j L = Listed-same L _ (λ m h. or_assoc (t m) _ _ ∙ ap (λ (b : Bool). t m || b) (sym (any-append (λ k. eqb (get_or kinds k 0) 4 && eqb (get_or owners k 0) m) js (j ∷ []))))

  -- they are beside a neighbour of a block
  pub float_beside : (i : ℕ) → get_or kinds i 0 ≡ 2 → Listed (λ m. t m || float_among kinds owners js m) near groups c → Listed (λ m. t m || (eqb (get_or kinds i 0) 2 && float_among kinds owners js m)) near groups c
  float_beside i e L = Listed-same L _ (λ m h. rw (eq-eqb (get_or kinds i 0) 2 e) refl)

-- ---- the walk over the cells of f

-- one of the cells is a neighbour of its owner and touches the floating group m
unfoldable pub near_in : List ℕ → List ℕ → Grid → List ℕ → ℕ → Bool
near_in kinds owners g cells m = any (λ i. eqb (get_or kinds i 0) 2 && float_among kinds owners (neighbours g i) m) cells

-- amid the walk along the chain of f: the floating groups that touch the cells passed are listed, and i is the next cell
pub record Nearby (kinds owners : List ℕ) (g : Grid) (n f i : ℕ) (near groups : List ℕ) (c : ℕ) : Type 0 where
  pub passed : List ℕ
  pub walk : Walk owners n f passed i
  pub so_far : Listed (near_in kinds owners g passed) near groups c

module _ (kinds : List ℕ) {owners head next : List ℕ} (g : Grid) {n : ℕ} (C : Chains owners head next n) (f : ℕ) (small : f < 1024) where
  pub Nearby-none : {groups : List ℕ} → length groups ≡ 1024 → Nearby kinds owners g n f (get_or head f 0) (replicate 1024 0) groups 0
  unfolding near_in
  Nearby-none long = record { passed = []; walk = Walk-start C f small; so_far = Listed-none long }

  module _ {i : ℕ} {near groups : List ℕ} {c : ℕ} (W : Nearby kinds owners g n f i near groups c) where
    -- the cell is passed
    pub Nearby-more : {near' groups' : List ℕ} {c' : ℕ} → i < 1024
        → Listed (λ m. near_in kinds owners g W.passed m || (eqb (get_or kinds i 0) 2 && float_among kinds owners (neighbours g i) m)) near' groups' c' → Nearby kinds owners g n f (get_or next i 0) near' groups' c'
    unfolding near_in
    Nearby-more h L = record {
      passed = W.passed ++ (i ∷ []);
      walk = Walk-more C f small W.walk h;
      so_far = Listed-same L _ (λ m _. ap (λ (b : Bool). near_in kinds owners g W.passed m || b) (sym (or-false (eqb (get_or kinds i 0) 2 && float_among kinds owners (neighbours g i) m)))
          ∙ sym (any-append (λ i. eqb (get_or kinds i 0) 2 && float_among kinds owners (neighbours g i) m) W.passed (i ∷ [])));
    }

    -- all cells are passed
    pub nearby_end : 1024 ≤ i → Listed (near_among kinds owners g f n) near groups c
    unfolding near_in near_among near_at owned_by
    nearby_end h = Listed-same W.so_far _ (λ m _.
        ap (λ (l : List ℕ). near_in kinds owners g l m) (walk_end C f small W.walk h ∙ cells_are owners n f)
        ∙ any-filter (λ i. eqb (get_or kinds i 0) 2 && float_among kinds owners (neighbours g i) m) (owned_by owners f) (upto n)
        ∙ any_agree _ _ (upto n) (λ i _. swap (eqb (get_or owners i 0) f) (eqb (get_or kinds i 0) 2) _))
      where
        swap : (a b d : Bool) → (a && (b && d)) ≡ ((b && a) && d)
        swap true true d = refl
        swap true false d = refl
        swap false true d = refl
        swap false false d = refl

-- ---- sums and tests over the cells of several owners

-- the sum of a number for each member
unfoldable pub total : (ℕ → ℕ) → List ℕ → ℕ
total F [] = 0
total F (x ∷ xs) = F x + total F xs

total_more : (F : ℕ → ℕ) (l : List ℕ) (x : ℕ) → total F (l ++ (x ∷ [])) ≡ total F l + F x
unfolding total
total_more F [] x = omega arith
total_more F (y ∷ l) x = omega (arith, total_more F l x)

-- the first k places of a list: none, and one more
pub total_none : (F : ℕ → ℕ) (l : List ℕ) → total F (take 0 l) ≡ 0
unfolding total
total_none F l = refl

pub total_next : (F : ℕ → ℕ) (l : List ℕ) (k : ℕ) → k < length l → total F (take (k + 1) l) ≡ total F (take k l) + F (get_or l k 0)
total_next F l k h = ap (λ (m : ℕ). total F (take m l)) (add-one k) ∙ ap (total F) (take-suc l k 0 h) ∙ total_more F (take k l) (get_or l k 0)

pub total_same : (F G : ℕ → ℕ) (l : List ℕ) → ((x : ℕ) → Memᴰ x l → F x ≡ G x) → total F l ≡ total G l
unfolding total
total_same F G [] h = refl
total_same F G (x ∷ l) h = rw (h x (Memᴰ.head refl), total_same F G l (λ y m. h y (Memᴰ.tail m)))

any-or : (a b : ℕ → Bool) (l : List ℕ) → any (λ x. a x || b x) l ≡ (any a l || any b l)
any-or a b [] = refl
any-or a b (x ∷ l) = rw (any-or a b l) (go (a x) (b x) (any a l) (any b l))
  where
    go : (p q r s : Bool) → ((p || q) || (r || s)) ≡ ((p || r) || (q || s))
    go true q r s = refl
    go false true true s = refl
    go false true false s = refl
    go false false r s = refl

length-or : (a b : ℕ → Bool) (l : List ℕ) → ((x : ℕ) → a x ≡ true → b x ≡ false) → length (filter (λ x. a x || b x) l) ≡ length (filter a l) + length (filter b l)
length-or a b [] h = refl
length-or a b (x ∷ l) h = go (a x) (b x) (h x) (length-or a b l h)
  where
    go : (p q : Bool) → (p ≡ true → q ≡ false) → length (filter (λ x. a x || b x) l) ≡ length (filter a l) + length (filter b l)
        → length (cond (p || q) (x ∷ filter (λ x. a x || b x) l) (filter (λ x. a x || b x) l)) ≡ length (cond p (x ∷ filter a l) (filter a l)) + length (cond q (x ∷ filter b l) (filter b l))
    go true true d e = absurd (false≢true (sym (d refl)))
    go true false d e = omega arith
    go false true d e = omega arith
    go false false d e = e

-- the owner of cell i is one of the list
abbrev pub owned_in : List ℕ → List ℕ → ℕ → Bool
owned_in owners ms i = member (get_or owners i 0) ms

module _ (owners : List ℕ) (n : ℕ) where
  none_owned : (p : ℕ → Bool) (l : List ℕ) → any (λ x. false && p x) l ≡ false
  none_owned p [] = refl
  none_owned p (x ∷ l) = none_owned p l

  any_owners : (p : ℕ → Bool) (ms l : List ℕ) → any (λ i. owned_in owners ms i && p i) l ≡ any (λ m. any p (filter (owned_by owners m) l)) ms
  unfolding member owned_by
  any_owners p [] l = none_owned p l
  any_owners p (m ∷ ms) l =
      any_agree _ _ l (λ i _. and-or_distrib_right (eqb (get_or owners i 0) m) (member (get_or owners i 0) ms) (p i)) ∙ any-or (λ i. owned_by owners m i && p i) (λ i. owned_in owners ms i && p i) l
      ∙ ap (λ (b : Bool). b || any (λ i. owned_in owners ms i && p i) l) (sym (any-filter p (owned_by owners m) l)) ∙ ap (λ (b : Bool). any p (filter (owned_by owners m) l) || b) (any_owners p ms l)

  -- a test on the cells of several owners
  pub any_owned : (p : ℕ → Bool) (ms : List ℕ) → any p (filter (owned_in owners ms) (upto n)) ≡ any (λ m. any p (cells_from owners n m 0)) ms
  any_owned p ms = any-filter p (owned_in owners ms) (upto n) ∙ any_owners p ms (upto n) ∙ any_agree _ _ ms (λ m _. ap (any p) (sym (cells_are owners n m)))

  none_counted : (l : List ℕ) → length (filter (owned_in owners []) l) ≡ 0
  unfolding member
  none_counted [] = refl
  none_counted (x ∷ l) = none_counted l

  length_owners : (ms l : List ℕ) → Distinct ms → length (filter (owned_in owners ms) l) ≡ total (λ m. length (filter (owned_by owners m) l)) ms
  unfolding total member owned_by
  length_owners [] l d = none_counted l
  length_owners (m ∷ ms) l d = omega (arith, either, length_owners ms l d.1)
    where
      apart : (i : ℕ) → owned_by owners m i ≡ true → owned_in owners ms i ≡ false
      apart i e = So-false (owned_in owners ms i) (λ s. d.0 (subst (λ x. Memᴰ x ms) (eqb-true (get_or owners i 0) m e) (member-mem (get_or owners i 0) ms s)))

      either : length (filter (owned_in owners (m ∷ ms)) l) ≡ length (filter (owned_by owners m) l) + length (filter (owned_in owners ms) l)
      either = length-or (owned_by owners m) (owned_in owners ms) l apart

  -- how many cells several owners have
  pub length_owned : (ms : List ℕ) → Distinct ms → length (filter (owned_in owners ms) (upto n)) ≡ total (λ m. length (cells_from owners n m 0)) ms
  length_owned ms d = length_owners ms (upto n) d ∙ total_same _ _ ms (λ m _. ap length (sym (cells_are owners n m)))
