-- Reason 2: the computed list is the breadth-first list, and the computed path runs from a by parents to b; each is the only one.
-- Assumes nothing.
use Prim.Native.Nat.{ℕ, zero, suc, ◌+◌, ◌≤◌, ◌<◌}
use native.Mathlib.Omega.{arith}
use mathlib.Core.Logic.{◌⊎◌, inl, inr, ◌≢◌}
use mathlib.Core.Path.{◌≡◌, refl, sym, ap, ◌∙◌, subst}
use mathlib.Core.Bool.{Bool, So, cond, ◌&&◌, not}
use mathlib.Core.List.Memᴰ
use mathlib.Core.List.{List, [], ◌∷◌, ◌++◌, map, append_assoc, append-nil, Memᴰ}
use lib.Dec.{eqb}
use lib.ListN.{length, length-append}
use lib.Seq.{append_snoc}
use borrow.Author.Tests.{eqb-true, eq-eqb}
use Rattle.std.proofs.lemmas.Bool.{and_from}
use Rattle.grid.specs.Lists.{Distinct, filter}
use Rattle.grid.specs.Grid.{Grid, size, neighbours, Adjacent}
use Rattle.grid.specs.Link.{Linked}
use Rattle.grid.proofs.ListLaws.{Dec-So, So-false, and-true, not-So, So-not}
use Rattle.grid.proofs.GridLaws.{apart}
use Rattle.grid.specs.Cells.{Literal, square}
use Rattle.paths.specs.Paths.{Entry, seen, appended, breadth_first, list_from, parent, path}
use Rattle.literals.specs.Literals.{each}
use Rattle.paths.specs.BreadthFirst.{Listed, Appends, through, append, pass, Builds, built, turn, BreadthFirst, Runs, arrived, onward, ByParents}
use Rattle.paths.proofs.Walk.{seen-So, So-seen, Listed-left, Listed-cases, Listed-one, Tree, root, grow, Tree-square, Tree-length, Tree-step, whole_Tree, whole_Listed, Early, parent-Early}

-- ---- what a cell appends

-- the square neighbours that are not in the list from before its turn: no neighbour comes twice
appends : (cells : List ℕ) (base : List Entry) (c : ℕ) (js : List ℕ) (l : List Entry) → Distinct js
    → ((j : ℕ) → Memᴰ j js → Listed l j → Listed base j) → ((j : ℕ) → Memᴰ j js → Listed base j → Listed l j)
    → Appends cells c js l (map (λ j. (j, c)) (filter (λ j. square cells j && not (seen base j)) js))
appends cells base c [] l d f h = through
appends cells base c (j ∷ js) l d f h =
    go (Dec-So (square cells j && not (seen base j))) (λ l f h. appends cells base c js l d.1 f h)
  where
    test : ℕ → Bool
    test k = square cells k && not (seen base k)

    new : List Entry
    new = map (λ k. (k, c)) (filter test js)

    IH : Type 0
    IH = (l : List Entry) → ((k : ℕ) → Memᴰ k js → Listed l k → Listed base k) → ((k : ℕ) → Memᴰ k js → Listed base k → Listed l k) → Appends cells c js l new

    still : (k : ℕ) → Memᴰ k js → Listed l k ⊎ Listed ((j, c) ∷ []) k → Listed base k
    still k m (inl q) = f k (Memᴰ.tail m) q
    still k m (inr q) = absurd (d.0 (subst (λ z. Memᴰ z js) (Listed-one (j, c) k q) m))

    go : Dec (So (test j)) → IH → Appends cells c (j ∷ js) l (map (λ k. (k, c)) (cond (test j) (j ∷ filter test js) (filter test js)))
    go (yes t) ih =
        let q = and-true (square cells j) _ t in
        rw t (append q.0 (λ k. not-So {a = seen base j} q.1 (So-seen base j (f j (Memᴰ.head refl) k)))
        (ih (l ++ ((j, c) ∷ [])) (λ k m q. still k m (Listed-cases l ((j, c) ∷ []) k q)) (λ k m q. Listed-left l ((j, c) ∷ []) k (h k (Memᴰ.tail m) q))))
    go (no t) ih =
        rw (So-false (test j) t) (pass (λ (s, n). t (and_from _ _ s (So-not (seen base j) (λ k. n (h j (Memᴰ.head refl) (seen-So base j k))))))
        (ih l (λ k m. f k (Memᴰ.tail m)) (λ k m. h k (Memᴰ.tail m))))

-- it appends nothing else
Appends-only : {cells : List ℕ} {c : ℕ} {js : List ℕ} {l new other : List Entry} → Appends cells c js l new → Appends cells c js l other → new ≡ other
Appends-only through through = refl
Appends-only {c} (append {j} s n r) (append s' n' r') = ap (λ z. (j, c) ∷ z) (Appends-only r r')
Appends-only (append s n r) (pass h r') = absurd (h (s, n))
Appends-only (pass h r) (append s n r') = absurd (h (s, n))
Appends-only (pass h r) (pass h' r') = Appends-only r r'

Builds-only : {g : Grid} {cells : List ℕ} {done todo l other : List Entry} → Builds g cells done todo l → Builds g cells done todo other → l ≡ other
Builds-only built built = refl
Builds-only {g} {cells} {other = other} (turn {c} {done} {todo} r b) (turn r' b') =
    Builds-only b (subst (λ z. Builds g cells (done ++ (c ∷ [])) (todo ++ z) other) (Appends-only r' r) b')

-- ---- the parent of a listed cell

parent-mem : (cs : List Entry) (x : ℕ) → Listed cs x → Memᴰ (x, parent cs x) cs
unfolding parent
parent-mem [] x (p, m) = absurd (Memᴰ.not-nil m)
parent-mem (c ∷ cs) x (p, m) = go (Dec-So (eqb c.0 x)) m (λ k. parent-mem cs x (p, k))
  where
    go : Dec (So (eqb c.0 x)) → Memᴰ (x, p) (c ∷ cs) → (Memᴰ (x, p) cs → Memᴰ (x, parent cs x) cs) → Memᴰ (x, cond (eqb c.0 x) c.1 (parent cs x)) (c ∷ cs)
    go (yes t) m ih = rw t (Memᴰ.head (ap (λ z. (z, c.1)) (sym (eqb-true c.0 x t))))
    go (no t) (Memᴰ.head e) ih = absurd (t (eq-eqb c.0 x (sym (ap (λ z. z.0) e))))
    go (no t) (Memᴰ.tail m) ih = rw (So-false (eqb c.0 x) t) (Memᴰ.tail (ih m))

module _ (g : Grid) (cells : List ℕ)
    (sq< : (c : ℕ) → So (square cells c) → c < size g) (b : ℕ) (sb : So (square cells b)) where
  -- the breadth-first list from b, as it is computed
  abbrev pub whole : List Entry
  whole = list_from g cells b

  builds : (k : ℕ) (done todo : List Entry) → k + length done ≡ size g → Tree g cells sq< b sb (done ++ todo) → Builds g cells done todo (breadth_first g cells k done todo)
  unfolding breadth_first appended
  builds zero done [] e t = subst (Builds g cells done []) (sym (append-nil done)) built
  builds zero done (x ∷ xs) e t = absurd (omega (arith, Tree-length g cells sq< b sb t, length-append done (x ∷ xs)))
  builds (suc k) done [] e t = built
  builds (suc k) done (x ∷ todo) e t =
      turn (appends cells base x.0 (neighbours g x.0) base (apart g x.0 x<) (λ j m q. q) (λ j m q. q))
      (builds k (done ++ (x ∷ [])) (todo ++ new) (omega (arith, length-append done (x ∷ []))) (subst (Tree g cells sq< b sb) joined (Tree-step g cells sq< b sb base x.0 t lx)))
    where
      base : List Entry
      base = done ++ (x ∷ todo)

      new : List Entry
      new = appended g cells base x.0

      lx : Listed base x.0
      lx = (x.1, Memᴰ.append_right done (Memᴰ.head refl))

      x< : x.0 < size g
      x< = sq< x.0 (Tree-square g cells sq< b sb t x.0 lx)

      joined : base ++ new ≡ (done ++ (x ∷ [])) ++ (todo ++ new)
      joined = ap (λ z. z ++ new) (sym (append_snoc done x todo)) ∙ append_assoc (done ++ (x ∷ [])) todo new

  -- the computed list is built by turns: as many steps as the grid has cells are enough
  pub breadth_first_lem : BreadthFirst g cells b whole
  breadth_first_lem = builds (size g) [] ((b, b) ∷ []) (omega arith) root

  -- it is the only breadth-first list from b
  pub BreadthFirst-only : (l : List Entry) → BreadthFirst g cells b l → l ≡ whole
  BreadthFirst-only l r = Builds-only r breadth_first_lem

  -- a listed cell has one parent
  one_parent : {cs : List Entry} → Tree g cells sq< b sb cs → (x p q : ℕ) → Memᴰ (x, p) cs → Memᴰ (x, q) cs → p ≡ q
  one_parent root x p q m n = ap (λ z. z.1) (Memᴰ.eq_of_singleton m ∙ sym (Memᴰ.eq_of_singleton n))
  one_parent (grow {cs} j r t lr ad s new) x p q m n = go (Memᴰ.append_cases cs m) (Memᴰ.append_cases cs n) (λ m n. one_parent t x p q m n)
    where
      final : List Entry
      final = (j, r) ∷ []

      at_j : (y z : ℕ) → Memᴰ (y, z) final → (y ≡ j) × (z ≡ r)
      at_j y z k = (ap (λ w. w.0) (Memᴰ.eq_of_singleton k), ap (λ w. w.1) (Memᴰ.eq_of_singleton k))

      go : Memᴰ (x, p) cs ⊎ Memᴰ (x, p) final → Memᴰ (x, q) cs ⊎ Memᴰ (x, q) final → (Memᴰ (x, p) cs → Memᴰ (x, q) cs → p ≡ q) → p ≡ q
      go (inl k) (inl l) ih = ih k l
      go (inl k) (inr l) ih = absurd (new (subst (Listed cs) (at_j x q l).0 (p, k)))
      go (inr k) (inl l) ih = absurd (new (subst (Listed cs) (at_j x p k).0 (q, l)))
      go (inr k) (inr l) ih = (at_j x p k).1 ∙ sym (at_j x q l).1

  way : (k x : ℕ) → Early g cells sq< b sb whole x k → Runs whole b x (path k whole x b)
  unfolding path
  way zero x w = absurd (none w.cs w.few w.listed)
    where
      none : (cs : List Entry) → length cs ≤ 0 → Listed cs x → ⊥
      none [] l q = Memᴰ.not-nil q.1
      none (c ∷ cs) l q = omega arith
  way (suc k) x w = go (Dec-So (eqb x b)) (λ y v. way k y v)
    where
      listed : Listed whole x
      listed = subst (λ z. Listed z x) (sym w.parts) (Listed-left w.cs w.es x w.listed)

      go : Dec (So (eqb x b)) → ((y : ℕ) → Early g cells sq< b sb whole y k → Runs whole b y (path k whole y b)) → Runs whole b x (cond (eqb x b) (x ∷ []) (x ∷ path k whole (parent whole x) b))
      go (yes t) ih = rw t (subst (λ z. Runs whole b z (z ∷ [])) (sym (eqb-true x b t)) arrived)
      go (no t) ih =
          let ne : x ≢ b = λ e. t (eq-eqb x b e) in
          rw (So-false (eqb x b) t) (onward ne (parent-mem whole x listed)
          (ih (parent whole x) (subst (λ z. Early g cells sq< b sb z (parent z x) k) (sym w.parts) (parent-Early g cells sq< b sb w.tree w.es x k w.few w.listed ne))))

  -- from a cell a of b's block the path runs by parents to b
  pub path-Runs : (a : ℕ) → Linked (Adjacent g) (λ c. So (square cells c)) b a → Runs whole b a (path (size g) whole a b)
  path-Runs a l =
      let t = whole_Tree g cells sq< b sb in
      way (size g) a (record { cs = whole; es = []; tree = t; parts = sym (append-nil whole); few = Tree-length g cells sq< b sb t; listed = whole_Listed g cells sq< b sb a l })

  -- two runs from equal cells are one; the cells are two names here, since a clause for two `arrived` cannot have one
  Runs-same_from : {a c : ℕ} {r s : List ℕ} → a ≡ c → Runs whole b a r → Runs whole b c s → r ≡ s
  Runs-same_from e arrived arrived = refl
  Runs-same_from e arrived (onward ne m q) = absurd (ne (sym e))
  Runs-same_from e (onward ne m q) arrived = absurd (ne e)
  Runs-same_from e (onward {a} {p} {way} ne m r) (onward {a = c} {p = q} {way = s} ne' m' r') =
      let one : q ≡ p = one_parent (whole_Tree g cells sq< b sb) a q p (subst (λ z. Memᴰ (z, q) whole) (sym e) m') m in
      ap (λ z. z ∷ way) e ∙ ap (λ z. c ∷ z) (Runs-same_from (sym one) r r')

  Runs-same : {a : ℕ} {r s : List ℕ} → Runs whole b a r → Runs whole b a s → r ≡ s
  Runs-same = Runs-same_from refl

  -- nothing else does
  pub path-Runs_only : (a : ℕ) → Linked (Adjacent g) (λ c. So (square cells c)) b a → (r : List ℕ) → Runs whole b a r → r ≡ path (size g) whole a b
  path-Runs_only a l r q = Runs-same q (path-Runs a l)

  -- as literals, all 1
  pub path-ByParents : (a : ℕ) → Linked (Adjacent g) (λ c. So (square cells c)) b a → ByParents g cells a b (each 1 (path (size g) whole a b))
  path-ByParents a l = record { list = whole; breadth = breadth_first_lem; way = path (size g) whole a b; runs = path-Runs a l; ones = refl }

  pub ByParents-only : (a : ℕ) → Linked (Adjacent g) (λ c. So (square cells c)) b a → (r : List Literal) → ByParents g cells a b r → r ≡ each 1 (path (size g) whole a b)
  ByParents-only a l r w = w.ones ∙ ap (each 1) (path-Runs_only a l w.way (subst (λ z. Runs z b a w.way) (BreadthFirst-only w.list w.breadth) w.runs))
