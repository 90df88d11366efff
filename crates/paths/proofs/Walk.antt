-- Reason 2: the breadth-first list reaches the whole block, and the way by parents leads from a to b.
-- Assumes nothing.
use Prim.Native.Nat.{ℕ, zero, suc, ◌+◌, ◌≤◌, ◌<◌}
use mathlib.Core.Logic.{◌⊎◌, inl, inr}
use mathlib.Core.Path.{◌≡◌, refl, sym, ap, ◌∙◌, subst}
use mathlib.Core.Bool.{Bool, So, ◌&&◌, not}
use mathlib.Core.List.{List, [], ◌∷◌, ◌++◌, map, append_assoc, append-nil, Memᴰ}
use native.Mathlib.Omega.{arith}
use native.Mathlib.Decide.{map_dec}
use lib.Dec.{eqb}
use lib.ListN.{length, length-append}
use lib.Seq.{append_snoc}
use borrow.Author.Tests.{eqb-true, eq-eqb}
use Rattle.std.proofs.lemmas.Bool.{and_from}
use Rattle.grid.specs.Lists.{Distinct, filter}
use Rattle.grid.proofs.ListLaws.{filter-mem, mem-filter, Dec-So, So-false, and-true, not-So, So-not, any-mem, mem-any, Distinct-filter}
use Rattle.grid.specs.Grid.{Grid, size, neighbours, Adjacent}
use Rattle.grid.specs.Link.{Linked, here, step}
use Rattle.grid.proofs.LinkLaws.{Linked-start, Linked-trans, Linked-inside}
use Rattle.grid.specs.Count.{count}
use Rattle.grid.proofs.Count.{count-except, count_inj_suc, count-le}
use Rattle.grid.proofs.GridLaws.{adj_sym, apart}
use Rattle.grid.specs.Cells.{square}
use Rattle.paths.specs.Paths.{Entry, seen, appended, breadth_first, list_from, parent, path, way}
use Rattle.paths.specs.BreadthFirst.{Listed}

pub Listed-left : (cs es : List Entry) (x : ℕ) → Listed cs x → Listed (cs ++ es) x
Listed-left cs es x (p, m) = (p, mathlib.Core.List.Memᴰ.append_left es m)

Listed-right : (cs es : List Entry) (x : ℕ) → Listed es x → Listed (cs ++ es) x
Listed-right cs es x (p, m) = (p, mathlib.Core.List.Memᴰ.append_right cs m)

pub Listed-cases : (cs es : List Entry) (x : ℕ) → Listed (cs ++ es) x → Listed cs x ⊎ Listed es x
Listed-cases cs es x (p, m) = go (mathlib.Core.List.Memᴰ.append_cases cs m)
  where
    go : Memᴰ (x, p) cs ⊎ Memᴰ (x, p) es → Listed cs x ⊎ Listed es x
    go (inl k) = inl (p, k)
    go (inr k) = inr (p, k)

pub Listed-one : (c : Entry) (x : ℕ) → Listed (c ∷ []) x → x ≡ c.0
Listed-one c x (p, mathlib.Core.List.Memᴰ.head e) = ap (λ z. z.0) e
Listed-one c x (p, mathlib.Core.List.Memᴰ.tail m) = absurd (mathlib.Core.List.Memᴰ.not-nil m)

pub seen-So : (cs : List Entry) (x : ℕ) → So (seen cs x) → Listed cs x
seen-So cs x h =
    let r = any-mem (λ (d : Entry). eqb d.0 x) cs h in
    (r.0.1, subst (λ z. Memᴰ (z, r.0.1) cs) (eqb-true _ _ r.2) r.1)

pub So-seen : (cs : List Entry) (x : ℕ) → Listed cs x → So (seen cs x)
So-seen cs x (p, m) = mem-any (λ (d : Entry). eqb d.0 x) cs m (eq-eqb x x refl)

Dec-Listed : (cs : List Entry) (x : ℕ) → Dec (Listed cs x)
Dec-Listed cs x = map_dec (seen-So cs x) (So-seen cs x) (Dec-So (seen cs x))

module _ (g : Grid) (cells : List ℕ)
    (sq< : (c : ℕ) → So (square cells c) → c < size g) (b : ℕ) (sb : So (square cells b)) where
  -- each entry but the first has its parent before it, and beside it
  pub data Tree : List Entry → Type 0 where
    root : Tree ((b, b) ∷ [])
    grow : {cs : List Entry} (j p : ℕ) → Tree cs → Listed cs p → Adjacent g p j → So (square cells j) → ¬ Listed cs j → Tree (cs ++ ((j, p) ∷ []))

  pub Tree-square : {cs : List Entry} → Tree cs → (x : ℕ) → Listed cs x → So (square cells x)
  Tree-square root x l = subst (λ z. So (square cells z)) (sym (Listed-one (b, b) x l)) sb
  Tree-square (grow {cs} j p t lp e s n) x l = go (Listed-cases cs ((j, p) ∷ []) x l) (λ k. Tree-square t x k)
    where
      go : Listed cs x ⊎ Listed ((j, p) ∷ []) x → (Listed cs x → So (square cells x)) → So (square cells x)
      go (inl k) ih = ih k
      go (inr k) ih = subst (λ z. So (square cells z)) (sym (Listed-one (j, p) x k)) s

  Tree-root : {cs : List Entry} → Tree cs → Listed cs b
  Tree-root root = (b, mathlib.Core.List.Memᴰ.head refl)
  Tree-root (grow {cs} j p t lp e s n) = Listed-left cs ((j, p) ∷ []) b (Tree-root t)

  Tree-count : {cs : List Entry} → Tree cs → length cs ≤ count (Dec-Listed cs) (size g)
  Tree-count root = omega (arith, count-except (Dec-Listed ((b, b) ∷ [])) b (size g) (sq< b sb) (b, mathlib.Core.List.Memᴰ.head refl))
  Tree-count (grow {cs} j p t lp e s n) =
      omega (
        arith,
        Tree-count t,
        length-append cs ((j, p) ∷ []),
        count_inj_suc (λ x y. x ≡ y) (Dec-Listed cs) (size g) (size g) (λ x y z _ _ h k. h ∙ sym k) (Dec-Listed (cs ++ ((j, p) ∷ []))) j (sq< j s) (p, mathlib.Core.List.Memᴰ.append_right cs (mathlib.Core.List.Memᴰ.head refl))
            (λ x l h. (x, l, (Listed-left cs ((j, p) ∷ []) x h, λ z. n (subst (Listed cs) z h)), refl)),
      )

  pub Tree-length : {cs : List Entry} → Tree cs → length cs ≤ size g
  Tree-length {cs} t = omega (arith, Tree-count t, count-le (Dec-Listed cs) (size g))

  -- distinct new neighbours of p are appended
  Tree-append : (js : List ℕ) (cs : List Entry) (p : ℕ) → Tree cs → Listed cs p → Distinct js → ((j : ℕ) → Memᴰ j js → Adjacent g p j × So (square cells j) × ¬ Listed cs j) → Tree (cs ++ map (λ j. (j, p)) js)
  Tree-append [] cs p t lp d h = subst Tree (sym (append-nil cs)) t
  Tree-append (j ∷ js) cs p t lp d h =
      let w = h j (mathlib.Core.List.Memᴰ.head refl) in
      subst Tree (append_snoc cs (j, p) (map (λ k. (k, p)) js))
      (Tree-append js (cs ++ ((j, p) ∷ [])) p (grow j p t lp w.0 w.1 w.2) (Listed-left cs ((j, p) ∷ []) p lp) d.1
      (λ k m. let u = h k (mathlib.Core.List.Memᴰ.tail m) in (u.0, u.1, λ l. two k m u.2 (Listed-cases cs ((j, p) ∷ []) k l))))
    where
      two : (k : ℕ) → Memᴰ k js → ¬ Listed cs k → Listed cs k ⊎ Listed ((j, p) ∷ []) k → ⊥
      two k m n (inl l) = n l
      two k m n (inr l) = d.0 (subst (λ z. Memᴰ z js) (Listed-one (j, p) k l) m)

  -- each cell in turn appends its square neighbours not yet listed
  pub Tree-step : (cs : List Entry) (c : ℕ) → Tree cs → Listed cs c → Tree (cs ++ appended g cells cs c)
  unfolding appended
  Tree-step cs c t l = Tree-append (filter test (neighbours g c)) cs c t l (Distinct-filter test (neighbours g c) (apart g c c<))
      (λ j m. let w = filter-mem test (neighbours g c) m in let u = and-true (square cells j) _ w.1 in ((c<, w.0), u.0, λ k. not-So {a = seen cs j} u.1 (So-seen cs j k)))
    where
      test : ℕ → Bool
      test j = square cells j && not (seen cs j)

      c< : c < size g
      c< = sq< c (Tree-square t c l)

  -- the square neighbours of what is done are listed
  abbrev Closed : List Entry → List Entry → Type 0
  Closed done whole = (x : ℕ) → Listed done x → (y : ℕ) → Adjacent g x y → So (square cells y) → Listed whole y

  list_Tree : (k : ℕ) (done todo : List Entry) → k + length done ≡ size g → Tree (done ++ todo) → Closed done (done ++ todo) → Tree (breadth_first g cells k done todo) × Closed (breadth_first g cells k done todo) (breadth_first g cells k done todo)
  unfolding breadth_first appended
  list_Tree zero done [] e t c = (t, subst (λ z. Closed z (done ++ [])) (sym (append-nil done)) c)
  list_Tree zero done (x ∷ xs) e t c = absurd (omega (arith, Tree-length t, length-append done (x ∷ xs)))
  list_Tree (suc k) done [] e t c = (subst Tree (append-nil done) t, subst (Closed done) (append-nil done) c)
  list_Tree (suc k) done (x ∷ todo) e t c =
      list_Tree k (done ++ (x ∷ [])) (todo ++ new) (omega (arith, length-append done (x ∷ []))) (subst Tree whole t') (subst (Closed (done ++ (x ∷ []))) whole c')
    where
      base : List Entry
      base = done ++ (x ∷ todo)

      test : ℕ → Bool
      test j = square cells j && not (seen base j)

      js : List ℕ
      js = filter test (neighbours g x.0)

      new : List Entry
      new = map (λ j. (j, x.0)) js

      whole : base ++ new ≡ (done ++ (x ∷ [])) ++ (todo ++ new)
      whole = ap (λ z. z ++ new) (sym (append_snoc done x todo)) ∙ append_assoc (done ++ (x ∷ [])) todo new

      lx : Listed base x.0
      lx = (x.1, mathlib.Core.List.Memᴰ.append_right done (mathlib.Core.List.Memᴰ.head refl))

      t' : Tree (base ++ new)
      t' = Tree-step base x.0 t lx

      c' : Closed (done ++ (x ∷ [])) (base ++ new)
      c' y l z ad s = go (Listed-cases done (x ∷ []) y l)
        where
          at_x : (y : ℕ) → y ≡ x.0 → Adjacent g y z → Dec (Listed base z) → Listed (base ++ new) z
          at_x y e ad (yes k) = Listed-left base new z k
          at_x y e ad (no k) = Listed-right base new z (
            x.0,
            mathlib.Core.List.Memᴰ.map (λ j. (j, x.0))
                (mem-filter test (neighbours g x.0) (subst (λ q. Memᴰ z (neighbours g q)) e ad.1) (and_from _ _ s (So-not (seen base z) (λ h. k (seen-So base z h))))),
          )

          go : Listed done y ⊎ Listed (x ∷ []) y → Listed (base ++ new) z
          go (inl k) = Listed-left base new z (c y k z ad s)
          go (inr k) = at_x y (Listed-one x y k) ad (Dec-Listed base z)

  parent_at : (cs es : List Entry) (j p : ℕ) → ¬ Listed cs j → parent (cs ++ ((j, p) ∷ es)) j ≡ p
  unfolding parent
  parent_at [] es j p n = rw (eq-eqb j j refl)
  parent_at (c ∷ cs) es j p n = rw (So-false (eqb c.0 j) (λ h. n (c.1, mathlib.Core.List.Memᴰ.head (ap (λ z. (z, c.1)) (sym (eqb-true _ _ h))))))
      (parent_at cs es j p (λ l. n (l.0, mathlib.Core.List.Memᴰ.tail l.1)))

  -- the whole breadth-first list
  pub whole_Tree : Tree (list_from g cells b)
  whole_Tree = (list_Tree (size g) [] ((b, b) ∷ []) (omega arith) root (λ x k. absurd (mathlib.Core.List.Memᴰ.not-nil k.1))).0

  -- a cell of b's block is in it
  pub whole_Listed : (a : ℕ) → Linked (Adjacent g) (λ c. So (square cells c)) b a → Listed (list_from g cells b) a
  whole_Listed a l =
      let w = list_Tree (size g) [] ((b, b) ∷ []) (omega arith) root (λ x k. absurd (mathlib.Core.List.Memᴰ.not-nil k.1)) in
      let R = list_from g cells b in
      Linked-inside (Listed R) (Tree-root w.0) (λ i j _ li ad s. w.1 i li j ad s) l

  -- x is listed among the first entries cs of the list, at most m of them
  pub record Early (whole : List Entry) (x m : ℕ) : Type 0 where
    pub cs : List Entry
    pub es : List Entry
    pub tree : Tree cs
    pub parts : whole ≡ cs ++ es
    pub few : length cs ≤ m
    pub listed : Listed cs x

  -- the parent of a cell is listed before it
  pub parent-Early : {cs : List Entry} → Tree cs → (es : List Entry) (x m : ℕ) → length cs ≤ suc m → Listed cs x → ¬ (x ≡ b) → Early (cs ++ es) (parent (cs ++ es) x) m
  parent-Early root es x m l lx ne = absurd (ne (Listed-one (b, b) x lx))
  parent-Early (grow {cs} j p t lp ad s n) es x m l lx ne = rw (append_snoc cs (j, p) es) (go (Listed-cases cs ((j, p) ∷ []) x lx) (λ k h. parent-Early t ((j, p) ∷ es) x m h k ne))
    where
      all : List Entry
      all = cs ++ ((j, p) ∷ es)

      short : length cs ≤ m
      short = omega (arith, l, length-append cs ((j, p) ∷ []))

      go : Listed cs x ⊎ Listed ((j, p) ∷ []) x → (Listed cs x → length cs ≤ suc m → Early all (parent all x) m) → Early all (parent all x) m
      go (inl k) ih = ih k (omega (arith, short))
      go (inr k) ih =
          let e : parent all x ≡ p = ap (parent all) (Listed-one (j, p) x k) ∙ parent_at cs es j p n in
          record { cs = cs; es = (j, p) ∷ es; tree = t; parts = refl; few = short; listed = rw e lp }

  module _ (F : ℕ → Type 0) where
    -- the way by parents, where each of its cells is a square of the filling
    way_Linked : {cs : List Entry} → Tree cs → (es : List Entry) (k x : ℕ) → length cs ≤ k → Listed cs x
        → ((y : ℕ) → Memᴰ y (path k (cs ++ es) x b) → F y) → Linked (Adjacent g) F x b
    unfolding path
    way_Linked root es zero x l lx f = absurd (omega arith)
    way_Linked root es (suc k) x l lx f =
        let e : x ≡ b = Listed-one (b, b) x lx in
        subst (λ z. Linked (Adjacent g) F z b) (sym e) (here (f b (rw (eq-eqb x b e) (mathlib.Core.List.Memᴰ.head (sym e)))))
    way_Linked (grow {cs} j p t lp ad s n) es k x l lx f = go k l f (Listed-cases cs ((j, p) ∷ []) x lx)
        (λ k x l lx f. way_Linked t ((j, p) ∷ es) k x l lx f)
      where
        IH : Type 0
        IH = (k x : ℕ) → length cs ≤ k → Listed cs x → ((y : ℕ) → Memᴰ y (path k (cs ++ ((j, p) ∷ es)) x b) → F y) → Linked (Adjacent g) F x b

        eq : cs ++ ((j, p) ∷ []) ++ es ≡ cs ++ ((j, p) ∷ es)
        eq = append_snoc cs (j, p) es

        last : (k x : ℕ) → x ≡ j → length (cs ++ ((j, p) ∷ [])) ≤ k → ((y : ℕ) → Memᴰ y (path k (cs ++ ((j, p) ∷ es)) x b) → F y) → IH → Linked (Adjacent g) F x b
        last zero x e l f ih = absurd (omega (arith, l, length-append cs ((j, p) ∷ [])))
        last (suc k) x e l f ih = two (Dec-So (eqb x b))
          where
            all : List Entry
            all = cs ++ ((j, p) ∷ es)

            two : Dec (So (eqb x b)) → Linked (Adjacent g) F x b
            two (yes h) = subst (λ z. Linked (Adjacent g) F x z) (eqb-true _ _ h) (here (f x (rw h (mathlib.Core.List.Memᴰ.head refl))))
            two (no h) =
                let up : parent all x ≡ p = ap (parent all) e ∙ parent_at cs es j p n in
                let rest : Linked (Adjacent g) F p b = ih k p (omega (arith, l, length-append cs ((j, p) ∷ []))) lp
                (λ y m. f y (rw (So-false (eqb x b) h) (mathlib.Core.List.Memᴰ.tail (subst (λ q. Memᴰ y (path k all q b)) (sym up) m)))) in
                Linked-trans (step (here (f x (rw (So-false (eqb x b) h) (mathlib.Core.List.Memᴰ.head refl)))) (subst (λ z. Adjacent g z p) (sym e) (adj_sym g p j ad)) (Linked-start rest)) rest

        go : (k : ℕ) → length (cs ++ ((j, p) ∷ [])) ≤ k → ((y : ℕ) → Memᴰ y (path k ((cs ++ ((j, p) ∷ [])) ++ es) x b) → F y)
            → Listed cs x ⊎ Listed ((j, p) ∷ []) x → IH → Linked (Adjacent g) F x b
        go k l f (inl h) ih = ih k x (omega (arith, l, length-append cs ((j, p) ∷ []))) h (subst (λ z. (y : ℕ) → Memᴰ y (path k z x b) → F y) eq f)
        go k l f (inr h) ih = last k x (Listed-one (j, p) x h) l (subst (λ z. (y : ℕ) → Memᴰ y (path k z x b) → F y) eq f) ih

    -- where all cells of the path satisfy F, a and b are linked by F
    pub path_Linked : (a : ℕ) → Linked (Adjacent g) (λ c. So (square cells c)) b a
        → ((y : ℕ) → Memᴰ y (way g cells a b) → F y) → Linked (Adjacent g) F a b
    path_Linked a l f =
        let R = list_from g cells b in
        way_Linked whole_Tree [] (size g) a (Tree-length whole_Tree) (whole_Listed a l) (subst (λ z. (y : ℕ) → Memᴰ y (path (size g) z a b) → F y) (sym (append-nil R)) f)

  -- each cell of the way is listed
  way_in : {cs : List Entry} → Tree cs → (es : List Entry) (k x : ℕ) → Listed cs x → (y : ℕ) → Memᴰ y (path k (cs ++ es) x b) → Listed cs y
  unfolding path
  way_in root es zero x lx y (mathlib.Core.List.Memᴰ.head e) = subst (Listed ((b, b) ∷ [])) (sym e) lx
  way_in root es zero x lx y (mathlib.Core.List.Memᴰ.tail m) = absurd (mathlib.Core.List.Memᴰ.not-nil m)
  way_in root es (suc k) x lx y m =
      let m' : Memᴰ y (x ∷ []) = rw (eq-eqb x b (Listed-one (b, b) x lx)) at m in
      subst (Listed ((b, b) ∷ [])) (sym (mathlib.Core.List.Memᴰ.eq_of_singleton m')) lx
  way_in (grow {cs} j p t lp ad s n) es k x lx y m = go (Listed-cases cs ((j, p) ∷ []) x lx) (subst (λ z. Memᴰ y (path k z x b)) eq m)
      (λ k x lx m. way_in t ((j, p) ∷ es) k x lx y m)
    where
      eq : cs ++ ((j, p) ∷ []) ++ es ≡ cs ++ ((j, p) ∷ es)
      eq = append_snoc cs (j, p) es

      all : List Entry
      all = cs ++ ((j, p) ∷ es)

      IH : Type 0
      IH = (k x : ℕ) → Listed cs x → Memᴰ y (path k all x b) → Listed cs y

      own : (x : ℕ) → x ≡ j → Listed (cs ++ ((j, p) ∷ [])) x
      own x e = (p, mathlib.Core.List.Memᴰ.append_right cs (mathlib.Core.List.Memᴰ.head (ap (λ z. (z, p)) e)))

      last : (k x : ℕ) → x ≡ j → Memᴰ y (path k all x b) → IH → Listed (cs ++ ((j, p) ∷ [])) y
      last zero x e (mathlib.Core.List.Memᴰ.head h) ih = own y (h ∙ e)
      last zero x e (mathlib.Core.List.Memᴰ.tail m) ih = absurd (mathlib.Core.List.Memᴰ.not-nil m)
      last (suc k) x e m ih = two (Dec-So (eqb x b))
        where
          more : Memᴰ y (x ∷ path k all (parent all x) b) → Listed (cs ++ ((j, p) ∷ [])) y
          more (mathlib.Core.List.Memᴰ.head h) = own y (h ∙ e)
          more (mathlib.Core.List.Memᴰ.tail m) = Listed-left cs ((j, p) ∷ []) y (ih k p lp
              (subst (λ q. Memᴰ y (path k all q b)) (ap (parent all) e ∙ parent_at cs es j p n) m))

          two : Dec (So (eqb x b)) → Listed (cs ++ ((j, p) ∷ [])) y
          two (yes h) = own y (mathlib.Core.List.Memᴰ.eq_of_singleton {a = y} {b = x} (rw h at m) ∙ e)
          two (no h) = more (rw (So-false (eqb x b) h) at m)

      go : Listed cs x ⊎ Listed ((j, p) ∷ []) x → Memᴰ y (path k all x b) → IH → Listed (cs ++ ((j, p) ∷ [])) y
      go (inl h) m ih = Listed-left cs ((j, p) ∷ []) y (ih k x h m)
      go (inr h) m ih = last k x (Listed-one (j, p) x h) m ih

  -- all cells of the path are squares
  pub path_square : (a : ℕ) → Linked (Adjacent g) (λ c. So (square cells c)) b a
      → (y : ℕ) → Memᴰ y (way g cells a b) → So (square cells y)
  path_square a l y m =
      let R = list_from g cells b in
      Tree-square whole_Tree y (way_in whole_Tree [] (size g) a (whole_Listed a l) y (subst (λ z. Memᴰ y (path (size g) z a b)) (sym (append-nil R)) m))
