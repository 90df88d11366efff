-- The breadth-first list as it is kept: a cell is offered, and the neighbours of a cell one after another.
-- Assumes nothing.
use Prim.Native.Nat.{ℕ, zero, suc, ◌+◌, ◌-◌, ◌≤◌, ◌<◌}
use native.Mathlib.Omega.{arith}
use native.Mathlib.Nat.{add-zero, add-suc}
use mathlib.Core.Logic.{◌⊎◌, inl, inr}
use mathlib.Core.Path.{◌≡◌, refl, sym, ap, ◌∙◌, subst}
use mathlib.Core.Bool.{Bool, true, false, cond, ◌&&◌, ◌||◌, not}
use mathlib.Core.List.Memᴰ
use mathlib.Core.List.{List, [], ◌∷◌, ◌++◌, map, map-append, append_assoc, append-nil, Memᴰ}
use lib.Dec.{eqb}
use lib.ListN.{get_or, set, take, length-set}
use lib.Seq.{get_or-set_same, get_or-set_other, get_or-take}
use Rattle.std.specs.Prelude.{Some, None}
use borrow.Author.Tests.{eqb-true, eqb-false, eq-eqb, ne_eqb}
use Rattle.grid.specs.Lists.{any, filter, Distinct}
use Rattle.grid.specs.Grid.{Grid, size, neighbours}
use Rattle.grid.specs.Side.{towards, beside_of}
use Rattle.grid.proofs.ListLaws.{split, So-false}
use Rattle.grid.proofs.GridLaws.{apart}
use Rattle.grid.proofs.SideLaws.{beside_in}
use Rattle.grid.proofs.AroundLaws.{gathered, gathered_next, gathered_same, gathered_all}
use Rattle.grid.proofs.AppendLaws.{filter_more}
use Rattle.grid.proofs.ArrayLaws.{fewer_set}
use Rattle.grid.specs.Cells.{square}
use Rattle.paths.specs.Paths.{Entry, seen, appended}
use Rattle.paths.specs.Search.{parent_mark, unlisted, Listing, wanted, Offered}

-- ---- room

-- where a cell is wanted there is a place for it
pub room_left : (from : List ℕ) (j : ℕ) → get_or from j 0 ≡ 1024 → 0 < unlisted from
room_left from j e = omega (arith, fewer_set from j 0 e (λ z. omega (arith, z)) (omega arith))

-- ---- one cell is offered

module _ (cells from order : List ℕ) (j p : ℕ) where
  offer_none : wanted cells from j ≡ false → Offered cells from order j p from order
  offer_none t = record { parents = rw t refl; listed = rw t refl }

  -- it is no square
  pub offer_plain : (get_or cells j 0 ≡ 1 → ⊥) → Offered cells from order j p from order
  unfolding wanted
  offer_plain h = offer_none (rw (ne_eqb (get_or cells j 0) 1 h) refl)

  -- it is listed
  pub offer_seen : get_or cells j 0 ≡ 1 → (get_or from j 0 ≡ 1024 → ⊥) → Offered cells from order j p from order
  unfolding wanted
  offer_seen e h = offer_none (rw (eq-eqb (get_or cells j 0) 1 e, ne_eqb (get_or from j 0) 1024 h) refl)

  -- it is wanted
  pub offer_new : get_or cells j 0 ≡ 1 → get_or from j 0 ≡ 1024 → Offered cells from order j p (set from j p) (order ++ (j ∷ []))
  unfolding wanted
  offer_new e h =
      let t : wanted cells from j ≡ true = rw (wanted, eq-eqb (get_or cells j 0) 1 e, eq-eqb (get_or from j 0) 1024 h) refl in
      record { parents = rw t refl; listed = rw t refl }

-- a cell is marked as not listed exactly where it is not
unseen : (cs : List Entry) → ((c : Entry) → Memᴰ c cs → c.1 < 1024) → (i : ℕ) → eqb (parent_mark cs i) 1024 ≡ not (seen cs i)
unfolding parent_mark
unseen [] h i = refl
unseen (c ∷ cs) h i = go (eqb c.0 i) (unseen cs (λ d m. h d (Memᴰ.tail m)) i)
  where
    go : (b : Bool) → eqb (parent_mark cs i) 1024 ≡ not (seen cs i) → eqb (cond b c.1 (parent_mark cs i)) 1024 ≡ not (b || seen cs i)
    go true e = ne_eqb c.1 1024 (λ z. omega (arith, z, h c (Memᴰ.head refl)))
    go false e = e

-- the parents of a list with one cell more, which was not listed
mark_more : (cs : List Entry) (j p i : ℕ) → parent_mark (cs ++ ((j, p) ∷ [])) i ≡ cond (seen cs i) (parent_mark cs i) (cond (eqb j i) p 1024)
unfolding parent_mark
mark_more [] j p i = refl
mark_more (c ∷ cs) j p i = go (eqb c.0 i) (mark_more cs j p i)
  where
    go : (b : Bool) → parent_mark (cs ++ ((j, p) ∷ [])) i ≡ cond (seen cs i) (parent_mark cs i) (cond (eqb j i) p 1024)
        → cond b c.1 (parent_mark (cs ++ ((j, p) ∷ [])) i) ≡ cond (b || seen cs i) (cond b c.1 (parent_mark cs i)) (cond (eqb j i) p 1024)
    go true e = refl
    go false e = e

mark_unseen : (cs : List Entry) (i : ℕ) → seen cs i ≡ false → parent_mark cs i ≡ 1024
unfolding parent_mark
mark_unseen [] i h = refl
mark_unseen (c ∷ cs) i h = go (eqb c.0 i) h (λ k. mark_unseen cs i k)
  where
    go : (b : Bool) → (b || seen cs i) ≡ false → (seen cs i ≡ false → parent_mark cs i ≡ 1024) → cond b c.1 (parent_mark cs i) ≡ 1024
    go true h ih = let z : ◌≡◌ {A = ℕ} 0 1 = cc in absurd (omega arith)
    go false h ih = ih h

module _ {n : ℕ} {order from : List ℕ} {cs : List Entry} (L : Listing n order from cs) (cells : List ℕ) where
  -- the code's test is the list's
  pub wanted_is : (j : ℕ) → j < n → wanted cells from j ≡ (square cells j && not (seen cs j))
  unfolding wanted square
  wanted_is j h = rw (L.parents_are j h, unseen cs L.parents_low j) refl

  -- a cell that was wanted is listed
  listed_more : (j p : ℕ) → j < n → n ≤ 1024 → p < 1024 → seen cs j ≡ false → Listing n (order ++ (j ∷ [])) (set from j p) (cs ++ ((j, p) ∷ []))
  listed_more j p h k l u = record {
    from_long = length-set from j p ∙ L.from_long;
    cells_are = rw L.cells_are (sym (map-append (λ (c : Entry). c.0) cs ((j, p) ∷ [])));
    parents_are = λ i i<. go i i< (split (eqb j i));
    parents_low = λ c x. low c (Memᴰ.append_cases cs x);
  }
    where
      low : (c : Entry) → Memᴰ c cs ⊎ Memᴰ c ((j, p) ∷ []) → c.1 < 1024
      low c (inl x) = L.parents_low c x
      low c (inr x) = rw (Memᴰ.eq_of_singleton x) l

      go : (i : ℕ) → i < n → (eqb j i ≡ true) ⊎ (eqb j i ≡ false) → get_or (set from j p) i 0 ≡ parent_mark (cs ++ ((j, p) ∷ [])) i
      go i i< (inl t) =
          let e : j ≡ i = eqb-true j i t in
          rw (mark_more cs j p i, t, ← e, u) (get_or-set_same from j p 0 (omega (arith, L.from_long)))
      go i i< (inr t) =
          rw (mark_more cs j p i, t) (get_or-set_other from j i p 0 (λ e. eqb-false j i t (sym e)) ∙ L.parents_are i i< ∙ pick (seen cs i) refl)
        where
          pick : (b : Bool) → seen cs i ≡ b → parent_mark cs i ≡ cond b (parent_mark cs i) 1024
          pick true e = refl
          pick false e = mark_unseen cs i e

  -- what one offer makes of the list
  pub Offered-list : (j p : ℕ) {from' order' : List ℕ} → Offered cells from order j p from' order' → j < n → n ≤ 1024 → p < 1024
      → Listing n order' from' (cs ++ cond (square cells j && not (seen cs j)) ((j, p) ∷ []) [])
  unfolding wanted
  Offered-list j p o h k l = rw (o.parents, o.listed, wanted_is j h) (go (square cells j) (seen cs j) refl)
    where
      go : (a b : Bool) → seen cs j ≡ b
          → Listing n (cond (a && not b) (order ++ (j ∷ [])) order) (cond (a && not b) (set from j p) from) (cs ++ cond (a && not b) ((j, p) ∷ []) [])
      go true false e = listed_more j p h k l e
      go true true e = rw (append-nil cs) L
      go false b e = rw (append-nil cs) L

-- ---- the neighbours of a cell are offered in turn

-- only the cells of the grid count
pub Offered-take : (n : ℕ) {cells from order : List ℕ} {j p : ℕ} {from' order' : List ℕ} → j < n
    → Offered cells from order j p from' order' → Offered (take n cells) from order j p from' order'
unfolding wanted
Offered-take n {cells} {from} {order} {j} h o =
    let e : wanted (take n cells) from j ≡ wanted cells from j = rw (wanted, get_or-take n cells j 0 h) refl in
    record { parents = rw e o.parents; listed = rw e o.listed }

-- a cell that is none of those appended is listed if it was before
seen_other : (cs : List Entry) (c j : ℕ) (t : ℕ → Bool) (l : List ℕ) → ¬ Memᴰ j l → seen (cs ++ map (λ i. (i, c)) (filter t l)) j ≡ seen cs j
seen_other [] c j t l n = So-false _ (λ h. none l n h)
  where
    none : (l : List ℕ) → ¬ Memᴰ j l → seen (map (λ i. (i, c)) (filter t l)) j ≡ true → ⊥
    none [] n h = let z : ◌≡◌ {A = ℕ} 0 1 = cc in omega arith
    none (x ∷ xs) n h = go (t x) h (λ k. none xs (λ m. n (Memᴰ.tail m)) k)
      where
        ne : eqb x j ≡ false
        ne = ne_eqb x j (λ e. n (Memᴰ.head (sym e)))

        go : (b : Bool) → seen (map (λ (i : ℕ). (i, c)) (cond b (x ∷ filter t xs) (filter t xs))) j ≡ true → (seen (map (λ i. (i, c)) (filter t xs)) j ≡ true → ⊥) → ⊥
        go true h ih = ih (rw ne at h)
        go false h ih = ih h
seen_other (d ∷ cs) c j t l n = rw (seen_other cs c j t l n) refl

-- a member of a list of distinct ones is not among those before it
Distinct-before : (l : List ℕ) (j : ℕ) (r : List ℕ) → Distinct (l ++ (j ∷ r)) → ¬ Memᴰ j l
Distinct-before [] j r d m = Memᴰ.not-nil m
Distinct-before (x ∷ xs) j r d (Memᴰ.head e) = d.0 (Memᴰ.append_right xs (Memᴰ.head (sym e)))
Distinct-before (x ∷ xs) j r d (Memᴰ.tail m) = Distinct-before xs j r d.1 m

module _ (g : Grid) (c : ℕ) where
  -- the neighbours in more directions come behind those in the first k
  behind : (k m : ℕ) → (rest : List ℕ) × (gathered g c (k + m) ≡ gathered g c k ++ rest)
  unfolding gathered
  behind k zero = ([], rw add-zero (sym (append-nil (gathered g c k))))
  behind k (suc m) =
      let r = behind k m in
      (r.0 ++ towards g c (k + m), rw (add-suc, r.1) (append_assoc (gathered g c k) r.0 (towards g c (k + m))))

  -- a neighbour is not among those in the directions before
  not_before : c < size g → (k j : ℕ) → k < 4 → Some j ≡ beside_of g c k → ¬ Memᴰ j (gathered g c k)
  not_before h k j l e =
      let r = behind (k + 1) (4 - (k + 1)) in
      let z : k + 1 + (4 - (k + 1)) ≡ 4 = omega arith in
      let all : neighbours g c ≡ gathered g c k ++ (j ∷ r.0)
      = sym (gathered_all g c) ∙ (rw z at r.1) ∙ ap (λ (l : List ℕ). l ++ r.0) (gathered_next g c k j e) ∙ append_assoc (gathered g c k) (j ∷ []) r.0 in
      Distinct-before (gathered g c k) j r.0 (rw (← all) (apart g c h))

module _ (g : Grid) (cells : List ℕ) (cs : List Entry) (c : ℕ) where
  -- the square ones of these neighbours that are not listed yet
  abbrev pub news : List ℕ → List Entry
  news js = map (λ j. (j, c)) (filter (λ j. square cells j && not (seen cs j)) js)

  -- the neighbours js were offered, and one more is
  neighbour_Offered : (js : List ℕ) (j : ℕ) → ¬ Memᴰ j js
      → {order from : List ℕ} → Listing (size g) order from (cs ++ news js) → size g ≤ 1024 → c < 1024 → j < size g
      → {from' order' : List ℕ} → Offered cells from order j c from' order' → Listing (size g) order' from' (cs ++ news (js ++ (j ∷ [])))
  neighbour_Offered js j n {order} {from} L s c< j< {from'} {order'} o =
      subst (Listing (size g) order' from') same (Offered-list L cells j c o j< s c<)
    where
      t : ℕ → Bool
      t i = square cells i && not (seen cs i)

      only : (b : Bool) → map {B = Entry} (λ (i : ℕ). (i, c)) (cond b (j ∷ []) []) ≡ cond b ((j, c) ∷ []) []
      only true = refl
      only false = refl

      more : news (js ++ (j ∷ [])) ≡ news js ++ cond (t j) ((j, c) ∷ []) []
      more = rw (filter_more t js j, map-append {B = Entry} (λ (i : ℕ). (i, c)) (filter t js) (cond (t j) (j ∷ []) []), only (t j)) refl

      same : (cs ++ news js) ++ cond (square cells j && not (seen (cs ++ news js) j)) ((j, c) ∷ []) [] ≡ cs ++ news (js ++ (j ∷ []))
      same = rw (seen_other cs c j t js n, more) (append_assoc cs (news js) (cond (t j) ((j, c) ∷ []) []))

-- the list after the neighbours of the cell p in the first k directions were offered, and before
pub record Amid (g : Grid) (cells : List ℕ) (p : ℕ) (from₀ order₀ from order : List ℕ) (k : ℕ) : Type 0 where
  pub list : (cs : List Entry) → Listing (size g) order₀ from₀ cs → Listing (size g) order from (cs ++ news g cells cs p (gathered g p k))

module _ (g : Grid) (cells : List ℕ) (p : ℕ) where
  -- before the first
  pub Amid-none : (from order : List ℕ) → Amid g cells p from order from order 0
  unfolding gathered
  Amid-none from order = record { list = λ cs L. rw (append-nil cs) L }

  module _ {from₀ order₀ from order : List ℕ} {k : ℕ} (A : Amid g (take (size g) cells) p from₀ order₀ from order k) where
    -- one more
    pub Amid-at : p < size g → size g ≤ 1024 → k < 4 → (j : ℕ) → Some j ≡ beside_of g p k
        → {from' order' : List ℕ} → Offered cells from order j p from' order' → Amid g (take (size g) cells) p from₀ order₀ from' order' (k + 1)
    Amid-at h s l j e o =
        let j< = beside_in g p k j h e in
        record {
          list = λ cs L. rw (gathered_next g p k j e)
              (neighbour_Offered g (take (size g) cells) cs p (gathered g p k) j (not_before g p h k j l e) (A.list cs L) s (omega arith) j< (Offered-take (size g) j< o));
        }

    -- no neighbour in this direction
    pub Amid-off : None ≡ beside_of g p k → Amid g (take (size g) cells) p from₀ order₀ from order (k + 1)
    Amid-off e = record { list = λ cs L. rw (gathered_same g p k e) (A.list cs L) }

  -- after the fourth
  pub Amid-all : {from₀ order₀ from order : List ℕ} → Amid g cells p from₀ order₀ from order 4
      → (cs : List Entry) → Listing (size g) order₀ from₀ cs → Listing (size g) order from (cs ++ appended g cells cs p)
  unfolding appended
  Amid-all A cs L = rw (← gathered_all g p) (A.list cs L)
