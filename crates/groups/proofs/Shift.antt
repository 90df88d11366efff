-- Shifts: a shifted copy, its size, and the test that looks for one.
-- Assumes nothing.
use Prim.Native.Nat.{ℕ, suc, ◌+◌, ◌≤◌, ◌<◌}
use mathlib.Core.Path.{◌≡◌, refl, subst}
use mathlib.Core.Logic.{◌≢◌}
use mathlib.Core.Bool.{So}
use mathlib.Core.List.{List, Memᴰ}
use native.Mathlib.Decide.{ℕ_discrete, map_dec}
use native.Mathlib.Omega.{arith}
use Rattle.grid.specs.Lists.{any}
use Rattle.grid.proofs.ListLaws.{any-mem, mem-any, all-mem, mem-all}
use Rattle.grid.specs.Count.{count}
use Rattle.grid.proofs.Count.{Dec-and, Dec-not, Dec-some, except, count-except, count_inj, count_inj_suc}
use Rattle.grid.specs.Grid.{Grid, size}
use Rattle.grid.proofs.GridLaws.{one_place}
use Rattle.grid.specs.Side.{lands}
use Rattle.grid.proofs.ShiftLaws.{lands_sums, sums_lands}
use Rattle.groups.specs.Rules.{Shift, Moved, Contains, Below, Grown, taking, fits}

module _ (g : Grid) where
  Moved-inj : (s : Shift) (i j k : ℕ) → Moved g s i k → Moved g s j k → i ≡ j
  Moved-inj s i j k p q = one_place g i j (omega (arith, p.rows, q.rows)) (omega (arith, p.cols, q.cols))

  Moved-one : (s : Shift) (c i j : ℕ) → Moved g s c i → Moved g s c j → i ≡ j
  Moved-one s c i j p q = one_place g i j (omega (arith, p.rows, q.rows)) (omega (arith, p.cols, q.cols))

  Dec-Moved : (s : Shift) (c k : ℕ) → Dec (Moved g s c k)
  Dec-Moved s c k = map_dec (λ h. record { rows = h.0; cols = h.1 }) (λ m. (m.rows, m.cols)) (Dec-and (ℕ_discrete _ _) (ℕ_discrete _ _))

  -- a set lies in itself
  pub Contains-id : (P : ℕ → Type 0) → Contains g (record { up = 0; down = 0; left = 0; right = 0 }) P P
  Contains-id P c p = (c, p, record { rows = refl; cols = refl })

  -- one shift after the other
  pub then : Shift → Shift → Shift
  then s t = record { up = s.up + t.up; down = s.down + t.down; left = s.left + t.left; right = s.right + t.right }

  -- copies of copies
  pub Contains-trans : (s t : Shift) (P Q R : ℕ → Type 0) → Contains g s P Q → Contains g t Q R → Contains g (then s t) P R
  unfolding then
  Contains-trans s t P Q R f h c p =
      let u = f c p in
      let v = h u.0 u.1 in
      (v.0, v.1, record { rows = omega (arith, u.2.rows, v.2.rows); cols = omega (arith, u.2.cols, v.2.cols) })

  -- a smaller set in a larger one
  pub Contains-map : (s : Shift) (P Q P' Q' : ℕ → Type 0) → ((x : ℕ) → P' x → P x) → ((x : ℕ) → Q x → Q' x) → Contains g s P Q → Contains g s P' Q'
  Contains-map s P Q P' Q' a b f c p = let u = f c (a c p) in (u.0, b u.0 u.1, u.2)

  module _ {P Q : ℕ → Type 0} (d_p : (i : ℕ) → Dec (P i)) (d_q : (i : ℕ) → Dec (Q i)) (b_p : Below g P) (b_q : Below g Q) where
    -- what has grown is larger
    pub Grown-more : {e : ℕ} → Grown e g P Q → count d_p (size g) < count d_q (size g)
    Grown-more w = let s = w.shift in count_inj_suc (Moved g s) d_p (size g) (size g) (λ i j k _ _. Moved-inj s i j k) d_q w.extra (b_q _ w.within) w.within
        (λ i _ p. let u = w.copy i p in
        (u.0, b_q _ u.1, (u.1, λ z. w.added i p (subst (λ x. Moved g s i x) z u.2)), u.2))

    -- in the first edition by just one
    pub Grown-most : {e : ℕ} → e ≡ 1 → Grown e g P Q → count d_q (size g) ≤ suc (count d_p (size g))
    Grown-most h w = omega (
      arith,
      count-except d_q w.extra (size g) (b_q _ w.within) w.within,
      count_inj (λ k c. Moved g w.shift c k) (except d_q w.extra) (size g) (size g) (λ i j c _ _. Moved-one w.shift c i j) P d_p back,
    )
      where
        back : (k : ℕ) → k < size g → (Q k × (k ≢ w.extra)) → (c : ℕ) × (c < size g) × P c × Moved g w.shift c k
        back k _ (q, ne) = let u = w.rest h k q ne in (u.0, b_p u.0 u.1, u.1, u.2)

    -- contained, and larger, in the first edition by just one: a copy and what is added
    pub size-Grown : (e : ℕ) (s : Shift) → Contains g s P Q → count d_p (size g) < count d_q (size g) → (e ≡ 1 → count d_q (size g) ≤ suc (count d_p (size g))) → Grown e g P Q
    size-Grown e s f more most = go (Dec-some loose (size g))
      where
        Image : ℕ → Type 0
        Image k = (c : ℕ) × (c < size g) × (P c × Moved g s c k)

        image : (k : ℕ) → Dec (Image k)
        image k = Dec-some (λ c. Dec-and (d_p c) (Dec-Moved s c k)) (size g)

        loose : (k : ℕ) → Dec (Q k × ¬ Image k)
        loose k = Dec-and (d_q k) (Dec-not (image k))

        inj : (i j k : ℕ) → P i → P j → Moved g s i k → Moved g s j k → i ≡ j
        inj i j k _ _ = Moved-inj s i j k

        go : Dec ((k : ℕ) × (k < size g) × (Q k × ¬ Image k)) → Grown e g P Q
        go (no h) = absurd (omega (arith, more, count_inj (λ k c. Moved g s c k) d_q (size g) (size g) (λ i j c _ _. Moved-one s c i j) P d_p (λ k l q. pick k l q (image k))))
          where
            pick : (k : ℕ) → k < size g → Q k → Dec (Image k) → (c : ℕ) × (c < size g) × P c × Moved g s c k
            pick k l q (yes (c, b, (p, m))) = (c, b, p, m)
            pick k l q (no ni) = absurd (h (k, l, (q, ni)))
        go (yes (x, xl, (qx, nx))) = record {
          shift = s;
          copy = f;
          extra = x;
          within = qx;
          added = λ c p m. nx (c, b_p c p, (p, m));
          rest = λ h k q ne. pick (most h) k q ne (image k);
        }
          where
            pick : count d_q (size g) ≤ suc (count d_p (size g)) → (k : ℕ) → Q k → k ≢ x → Dec (Image k) → (c : ℕ) × P c × Moved g s c k
            pick one k q ne (yes (c, _, (p, m))) = (c, p, m)
            pick one k q ne (no ni) = absurd (omega (
              arith,
              one,
              count-except d_q x (size g) xl qx,
              count_inj_suc (Moved g s) d_p (size g) (size g) inj (except d_q x) k (b_q k q) (q, ne)
                  (λ i _ p. let u = f i p in (
                    u.0,
                    b_q _ u.1,
                    (
                      (u.1, λ z. nx (i, b_p i p, (p, subst (λ y. Moved g s i y) z u.2))),
                      λ z. ni (i, b_p i p, (p, subst (λ y. Moved g s i y) z u.2)),
                    ),
                    u.2,
                  )),
            ))

  lands-Moved : (f t x y : ℕ) → So (lands g f t x y) → Moved g (taking g f t) x y
  lands-Moved f t x y h = let e = lands_sums g f t x y h in record { rows = e.0; cols = e.1 }

  Moved-lands : (f t x y : ℕ) → Moved g (taking g f t) x y → So (lands g f t x y)
  Moved-lands f t x y m = sums_lands g f t x y m.rows m.cols

  -- the test passes where the shift of the list B that takes f to t lies in C
  pub fits-Contains : (B C : List ℕ) (f t : ℕ) → So (fits g B C f t) → Contains g (taking g f t) (λ x. Memᴰ x B) (λ y. Memᴰ y C)
  unfolding fits
  fits-Contains B C f t h x m =
      let k = any-mem (lands g f t x) C (all-mem (λ z. any (lands g f t z) C) B h x m) in
      (k.0, k.1, lands-Moved f t x k.0 k.2)

  -- a shift that fits is one of those that are tried
  pub Contains-fits : (B C : List ℕ) (f : ℕ) → Memᴰ f B → (s : Shift) → Contains g s (λ x. Memᴰ x B) (λ y. Memᴰ y C) → So (any (fits g B C f) C)
  unfolding fits
  Contains-fits B C f b s h =
      let t = h f b in
      mem-any (fits g B C f) C t.1 (mem-all (λ x. any (lands g f t.0 x) C) B λ x m.
      let u = h x m in
      mem-any (lands g f t.0 x) C u.1 (Moved-lands f t.0 x u.0 (record {
        rows = omega (arith, u.2.rows, t.2.rows);
        cols = omega (arith, u.2.cols, t.2.cols);
      })))
