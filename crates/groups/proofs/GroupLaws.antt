-- The law of `labels`: two cells have one name exactly when they are linked, and the name is the first cell of the group.
-- Assumes nothing.
use Prim.Native.Nat.{ℕ, ◌≤◌, ◌<◌, min, max}
use native.Mathlib.Nat.{min-eq_left, min-eq_right, max-eq_left, max-eq_right, le_of_lt}
use native.Mathlib.Omega.{arith}
use mathlib.Core.Logic.{◌⊎◌, inl, inr}
use mathlib.Core.Path.{◌≡◌, refl, sym, ap, ◌∙◌}
use mathlib.Core.Bool.{Bool, true, false, cond, ◌&&◌, So}
use mathlib.Core.List.Memᴰ
use mathlib.Core.List.{List, [], ◌∷◌, map, Memᴰ}
use lib.Dec.{eqb, leb}
use lib.ListN.{length, get_or, length-map}
use borrow.Author.Tests.{eqb-true, eq-eqb, leb-true, leb-false}
use Rattle.std.proofs.lemmas.Bool.{and_from}
use Rattle.grid.proofs.ListLaws.{Distinct-filter, Distinct-upto, split, and-true, filter-mem, mem-filter, flat_map-mem, mem-flat_map, upto-mem, mem-upto, length-range, get_or-range, map_at}
use Rattle.grid.proofs.RisingLaws.{Rising, filter-Rising, cells_Rising}
use Rattle.grid.specs.Link.{here, step}
use Rattle.grid.proofs.LinkLaws.{Linked-end, Linked-start, Linked-trans, Linked-sym}
use Rattle.grid.proofs.GridLaws.{adj_sym, beside, on_grid}
use Rattle.grid.specs.Lists.{Distinct, upto, filter}
use Rattle.grid.specs.Grid.{Grid, size, cells_of, neighbours}
use Rattle.groups.specs.Groups.{Joined, rename, join, join_all, edges, labels, Labels, group, names}

-- a chain stays on the grid
pub linked_size : (g : Grid) (p : ℕ → Bool) {i j : ℕ} → i < size g → Joined g p i j → j < size g
linked_size g p l (here h) = l
linked_size g p l (step q e h) = (adj_sym g _ _ e).0

-- what the group named f lists
pub group-mem : (g : Grid) (p : ℕ → Bool) (l : List ℕ) (f x : ℕ) → Memᴰ x (group g p l f) → (x < size g) × So (p x) × (get_or l x 0 ≡ f)
unfolding group cells_of
group-mem g p l f x m =
    let r = filter-mem (λ k. p k && eqb (get_or l k 0) f) (upto (size g)) m in
    let t = and-true (p x) (eqb (get_or l x 0) f) r.1 in
    (upto-mem (size g) r.0, t.0, eqb-true (get_or l x 0) f t.1)

pub mem-group : (g : Grid) (p : ℕ → Bool) (l : List ℕ) (f x : ℕ) → x < size g → So (p x) → get_or l x 0 ≡ f → Memᴰ x (group g p l f)
unfolding group cells_of
mem-group g p l f x h q e = mem-filter (λ k. p k && eqb (get_or l k 0) f) (upto (size g)) (mem-upto (size g) h) (and_from _ _ q (eq-eqb (get_or l x 0) f e))

-- the same cell, or linked
data Near (g : Grid) (p : ℕ → Bool) (i j : ℕ) : Type 0 where
  equal : i ≡ j → Near g p i j
  chain : Joined g p i j → Near g p i j

module _ {g : Grid} {p : ℕ → Bool} where
  Near-sym : {i j : ℕ} → Near g p i j → Near g p j i
  Near-sym (equal e) = equal (sym e)
  Near-sym (chain q) = chain (Linked-sym (adj_sym g) q)

  Near-trans : {i j k : ℕ} → Near g p i j → Near g p j k → Near g p i k
  Near-trans {i} {j} {k} (equal e) r = rw e r
  Near-trans {i} {j} {k} (chain q) (equal e) = rw (← e) (chain q)
  Near-trans (chain q) (chain r) = chain (Linked-trans q r)

cond_same : (t : Bool) (x : ℕ) → cond t x x ≡ x
cond_same true x = refl
cond_same false x = refl

-- the name x after every a became b
abbrev renamed : ℕ → ℕ → ℕ → ℕ
renamed a b x = cond (eqb x a) b x

length-rename : (a b : ℕ) (l : List ℕ) → length (rename a b l) ≡ length l
unfolding rename
length-rename a b l = length-map l (renamed a b)

rename_at : (a b : ℕ) (l : List ℕ) (i : ℕ) → i < length l → get_or (rename a b l) i 0 ≡ renamed a b (get_or l i 0)
unfolding rename
rename_at a b l i h = map_at (renamed a b) l i h

-- the two ends of a pair, the higher and the lower
data Ends (x y a b : ℕ) : Type 0 where
  same : a ≡ x → b ≡ y → b ≤ a → Ends x y a b
  turned : a ≡ y → b ≡ x → b ≤ a → Ends x y a b

ends : (x y : ℕ) → Ends x y (max x y) (min x y)
ends x y = go (split (leb x y))
  where
    go : (leb x y ≡ true) ⊎ (leb x y ≡ false) → Ends x y (max x y) (min x y)
    go (inl t) = let h = leb-true x y t in turned (max-eq_right h) (min-eq_left h) (omega arith)
    go (inr f) = let h = leb-false x y f in same (max-eq_left (le_of_lt h)) (min-eq_right (le_of_lt h)) (omega arith)

-- what holds of the names while pairs are joined
record Named (g : Grid) (p : ℕ → Bool) (l : List ℕ) : Type 0 where
  total : length l ≡ size g
  low : (i : ℕ) → i < size g → get_or l i 0 ≤ i
  own : (i : ℕ) → i < size g → get_or l (get_or l i 0) 0 ≡ get_or l i 0
  near : (i : ℕ) → i < size g → Near g p i (get_or l i 0)

-- one joining: a is the higher and b the lower of the names of i and j
module _ (g : Grid) (p : ℕ → Bool) (l : List ℕ) (c : Named g p l) where
  module _ (a b : ℕ) where
    at : (k : ℕ) → k < size g → get_or (rename a b l) k 0 ≡ renamed a b (get_or l k 0)
    at k h = rename_at a b l k (omega (arith, c.total))

    pass : (k : ℕ) → k < size g → eqb (get_or l k 0) a ≡ false → get_or (rename a b l) k 0 ≡ get_or l k 0
    pass k h f = at k h ∙ rw f

    hit : (k : ℕ) → k < size g → eqb (get_or l k 0) a ≡ true → get_or (rename a b l) k 0 ≡ b
    hit k h t = at k h ∙ rw t

    module _ (i j : ℕ) (hi : i < size g) (hj : j < size g) (r : Near g p i j) (e : Ends (get_or l i 0) (get_or l j 0) a b) where
      drop : b ≤ a
      drop = elim e [ same u v h ↦ h | turned u v h ↦ h ]

      low_b : b < size g
      low_b = elim e [ same u v h ↦ omega (arith, c.low j hj) | turned u v h ↦ omega (arith, c.low i hi) ]

      own_b : get_or l b 0 ≡ b
      own_b = elim e [ same u v h ↦ rw v (c.own j hj) | turned u v h ↦ rw v (c.own i hi) ]

      related : Near g p a b
      related = elim e [
        | same u v h ↦ rw (u, v) (Near-trans (Near-sym (c.near i hi)) (Near-trans r (c.near j hj)))
        | turned u v h ↦ rw (u, v) (Near-trans (Near-sym (c.near j hj)) (Near-trans (Near-sym r) (c.near i hi)))
      ]

      own_b' : get_or (rename a b l) b 0 ≡ b
      own_b' = at b low_b ∙ rw own_b (cond_same (eqb b a) b)

      rename-Named : Named g p (rename a b l)
      rename-Named = record {
        total = length-rename a b l ∙ c.total;
        low = λ k h. low' k h (split (eqb (get_or l k 0) a));
        own = λ k h. own' k h (split (eqb (get_or l k 0) a));
        near = λ k h. near' k h (split (eqb (get_or l k 0) a));
      }
        where
          low' : (k : ℕ) → k < size g → (eqb (get_or l k 0) a ≡ true) ⊎ (eqb (get_or l k 0) a ≡ false) → get_or (rename a b l) k 0 ≤ k
          low' k h (inl t) = omega (arith, hit k h t, eqb-true (get_or l k 0) a t, c.low k h, drop)
          low' k h (inr f) = omega (arith, pass k h f, c.low k h)

          own' : (k : ℕ) → k < size g → (eqb (get_or l k 0) a ≡ true) ⊎ (eqb (get_or l k 0) a ≡ false) → get_or (rename a b l) (get_or (rename a b l) k 0) 0 ≡ get_or (rename a b l) k 0
          own' k h (inl t) = rw (hit k h t) own_b'
          own' k h (inr f) = rw (pass k h f) (pass (get_or l k 0) (omega (arith, c.low k h)) (rw (c.own k h) f) ∙ c.own k h)

          near' : (k : ℕ) → k < size g → (eqb (get_or l k 0) a ≡ true) ⊎ (eqb (get_or l k 0) a ≡ false) → Near g p k (get_or (rename a b l) k 0)
          near' k h (inl t) = rw (hit k h t) (Near-trans (c.near k h) (rw (eqb-true (get_or l k 0) a t) related))
          near' k h (inr f) = rw (pass k h f) (c.near k h)

-- after joining i and j they have one name
join_one : (l : List ℕ) (i j : ℕ) → i < length l → j < length l → get_or (join i j l) i 0 ≡ get_or (join i j l) j 0
unfolding join
join_one l i j hi hj = go _ _ (ends (get_or l i 0) (get_or l j 0))
  where
    one : (a b : ℕ) → Ends (get_or l i 0) (get_or l j 0) a b → renamed a b (get_or l i 0) ≡ renamed a b (get_or l j 0)
    one a b (same u v h) = rw (u, v, eq-eqb (get_or l i 0) (get_or l i 0) refl) (sym (cond_same (eqb (get_or l j 0) (get_or l i 0)) (get_or l j 0)))
    one a b (turned u v h) = rw (u, v, eq-eqb (get_or l j 0) (get_or l j 0) refl) (cond_same (eqb (get_or l i 0) (get_or l j 0)) (get_or l i 0))

    go : (a b : ℕ) → Ends (get_or l i 0) (get_or l j 0) a b → get_or (rename a b l) i 0 ≡ get_or (rename a b l) j 0
    go a b e = rename_at a b l i hi ∙ one a b e ∙ sym (rename_at a b l j hj)

-- cells that had one name keep one
join_keeps : (i j : ℕ) (l : List ℕ) (x y : ℕ) → x < length l → y < length l → get_or l x 0 ≡ get_or l y 0 → get_or (join i j l) x 0 ≡ get_or (join i j l) y 0
unfolding join
join_keeps i j l x y hx hy e = rename_at _ _ l x hx ∙ ap (renamed (max (get_or l i 0) (get_or l j 0)) (min (get_or l i 0) (get_or l j 0))) e ∙ sym (rename_at _ _ l y hy)

length-join : (i j : ℕ) (l : List ℕ) → length (join i j l) ≡ length l
unfolding join
length-join i j l = length-rename _ _ l

join-Named : (g : Grid) (p : ℕ → Bool) (l : List ℕ) → Named g p l → (i j : ℕ) → i < size g → j < size g → Near g p i j → Named g p (join i j l)
unfolding join
join-Named g p l c i j hi hj r = rename-Named g p l c _ _ i j hi hj r (ends (get_or l i 0) (get_or l j 0))

-- pairs that lie on the grid and are joined
abbrev Fit : Grid → (ℕ → Bool) → ℕ × ℕ → Type 0
Fit g p e = (e.0 < size g) × (e.1 < size g) × Near g p e.0 e.1

join_all-Named : (g : Grid) (p : ℕ → Bool) (es : List (ℕ × ℕ)) (l : List ℕ) → ((e : ℕ × ℕ) → Memᴰ e es → Fit g p e) → Named g p l → Named g p (join_all es l)
unfolding join_all
join_all-Named g p [] l f c = c
join_all-Named g p (e ∷ es) l f c =
    let h = f e (Memᴰ.head refl) in
    join_all-Named g p es (join e.0 e.1 l) (λ d m. f d (Memᴰ.tail m)) (join-Named g p l c e.0 e.1 h.0 h.1 h.2)

join_all_keeps : (es : List (ℕ × ℕ)) (l : List ℕ) (x y : ℕ) → x < length l → y < length l → get_or l x 0 ≡ get_or l y 0 → get_or (join_all es l) x 0 ≡ get_or (join_all es l) y 0
unfolding join_all
join_all_keeps [] l x y hx hy q = q
join_all_keeps (e ∷ es) l x y hx hy q =
    join_all_keeps es (join e.0 e.1 l) x y (rw length-join hx) (rw length-join hy) (join_keeps e.0 e.1 l x y hx hy q)

join_all_one : (es : List (ℕ × ℕ)) (l : List ℕ) (x y : ℕ) → x < length l → y < length l → Memᴰ (x, y) es → get_or (join_all es l) x 0 ≡ get_or (join_all es l) y 0
unfolding join_all
join_all_one (e ∷ es) l x y hx hy (Memᴰ.head q) =
    join_all_keeps es (join e.0 e.1 l) x y (rw length-join hx) (rw length-join hy) (rw (← q) (join_one l x y hx hy))
join_all_one (e ∷ es) l x y hx hy (Memᴰ.tail m) =
    join_all_one es (join e.0 e.1 l) x y (rw length-join hx) (rw length-join hy) m
join_all_one [] l x y hx hy x5 = elim x5 [ ]

module _ (g : Grid) (p : ℕ → Bool) where
  -- the pairs joined are neighbours that pass
  edge : (e : ℕ × ℕ) → Memᴰ e (edges g p) → Fit g p e
  unfolding edges cells_of
  edge e m =
      let r = flat_map-mem (λ i. map (λ j. (i, j)) (filter (λ j. p i && p j) (neighbours g i))) (upto (size g)) m in
      let s = Memᴰ.of_map (λ j. (r.0, j)) (filter (λ j. p r.0 && p j) (neighbours g r.0)) r.2 in
      let t = filter-mem (λ j. p r.0 && p j) (neighbours g r.0) s.1 in
      let q = and-true (p r.0) (p s.0) t.1 in
      let h = upto-mem (size g) r.1 in
      rw (← s.2) (h, on_grid g h (beside g r.0 t.0), chain (step (here q.0) (h, t.0) q.1))

  edge_of : (i j : ℕ) → i < size g → p i ≡ true → p j ≡ true → Memᴰ j (neighbours g i) → Memᴰ (i, j) (edges g p)
  unfolding edges cells_of
  edge_of i j h pi pj m = mem-flat_map _ (upto (size g)) (mem-upto (size g) h) (Memᴰ.map _ (mem-filter _ (neighbours g i) m (and_from _ _ pi pj)))

  self : (i : ℕ) → i < size g → get_or (cells_of g) i 0 ≡ i
  unfolding cells_of upto
  self i h = omega (arith, get_or-range 0 (size g) i h)

  start : Named g p (cells_of g)
  unfolding cells_of upto
  start = record {
    total = length-range 0 (size g);
    low = λ i h. omega (arith, self i h);
    own = λ i h. ap (λ (k : ℕ). get_or (cells_of g) k 0) (self i h);
    near = λ i h. equal (sym (self i h));
  }

  named : Named g p (labels g p)
  unfolding labels
  named = join_all-Named g p (edges g p) (cells_of g) edge start

  -- the name of cell i's group
  abbrev pub label : ℕ → ℕ
  label i = get_or (labels g p) i 0

  -- linked cells have one name, and cells of one name are linked
  pub label_linked : (i j : ℕ) → i < size g → Joined g p i j → label i ≡ label j
  unfolding labels
  label_linked i j h (here q) = refl
  label_linked i j h (step {i = k} r e q) =
      label_linked i k h r
      ∙ join_all_one (edges g p) (cells_of g) k j (omega (arith, start.total, e.0)) (omega (arith, start.total, (adj_sym g k j e).0))
      (edge_of k j e.0 (Linked-end r) q e.1)

  pub linked_label : (i j : ℕ) → i < size g → j < size g → p i ≡ true → label i ≡ label j → Joined g p i j
  linked_label i j hi hj q e = go (Near-trans (named.near i hi) (rw e (Near-sym (named.near j hj))))
    where
      go : Near g p i j → Joined g p i j
      go (equal s) = rw (← s) (here q)
      go (chain r) = r

  -- the name is the first cell of the group
  pub label_own : (i : ℕ) → i < size g → p i ≡ true → Joined g p i (label i)
  label_own i h q = linked_label i (label i) h (omega (arith, named.low i h)) q (sym (named.own i h))

  -- no cell of the group comes before its name
  pub label_least : (i j : ℕ) → i < size g → j < size g → Joined g p i j → label i ≤ j
  label_least i j hi hj r = omega (arith, label_linked i j hi r, named.low j hj)

  -- the group of i lists the cells linked to i
  pub group_linked : (i x : ℕ) → i < size g → p i ≡ true → Memᴰ x (group g p (labels g p) (label i)) → Joined g p i x
  group_linked i x h q m = let r = group-mem g p (labels g p) (label i) x m in linked_label i x h r.0 q (sym r.2)

  pub linked_group : (i x : ℕ) → i < size g → Joined g p i x → Memᴰ x (group g p (labels g p) (label i))
  linked_group i x h r = mem-group g p (labels g p) (label i) x (linked_size g p h r) (Linked-end r) (sym (label_linked i x h r))

  -- each group has its name among the names, and each name is a group's
  pub names_own : (f : ℕ) → Memᴰ f (names g p (labels g p)) → (f < size g) × (p f ≡ true) × (label f ≡ f)
  unfolding names cells_of
  names_own f m =
      let r = filter-mem (λ k. p k && eqb (label k) k) (upto (size g)) m in
      let t = and-true (p f) (eqb (label f) f) r.1 in
      (upto-mem (size g) r.0, t.0, eqb-true (label f) f t.1)

  pub own_names : (i : ℕ) → i < size g → p i ≡ true → Memᴰ (label i) (names g p (labels g p))
  unfolding names cells_of
  own_names i h q =
      mem-filter (λ k. p k && eqb (label k) k) (upto (size g)) (mem-upto (size g) (linked_size g p h (label_own i h q)))
      (and_from _ _ (Linked-end (label_own i h q)) (eq-eqb (label (label i)) (label i) (named.own i h)))

-- a group lists no cell twice
pub group-Distinct : (g : Grid) (p : ℕ → Bool) (l : List ℕ) (f : ℕ) → Distinct (group g p l f)
unfolding group cells_of
group-Distinct g p l f = Distinct-filter (λ i. p i && eqb (get_or l i 0) f) (cells_of g) (Distinct-upto (size g))

-- a group lists its cells by rising index, and the groups' names rise
pub group-Rising : (g : Grid) (p : ℕ → Bool) (l : List ℕ) (f : ℕ) → Rising (group g p l f)
unfolding group
group-Rising g p l f = filter-Rising (λ i. p i && eqb (get_or l i 0) f) (cells_Rising g)

pub names-Rising : (g : Grid) (p : ℕ → Bool) (l : List ℕ) → Rising (names g p l)
unfolding names
names-Rising g p l = filter-Rising (λ i. p i && eqb (get_or l i 0) i) (cells_Rising g)

-- the labels name the groups of a test that only cells of the grid pass
pub labelled : (g : Grid) (p : ℕ → Bool) → ((c : ℕ) → So (p c) → c < size g) → Labels g p
labelled g p low = record {
  same = λ i j pi pj e. linked_label g p i j (low i pi) (low j pj) pi e;
  linked = λ i j l. label_linked g p i j (low i (Linked-start l)) l;
}
