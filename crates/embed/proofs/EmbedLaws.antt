-- What an embedding keeps: chains of neighbours, and so blocks; shifted copies, and so growth.
-- Assumes nothing.
use Prim.Native.Nat.{ℕ, ◌<◌}
use mathlib.Core.Path.{◌≡◌, refl, sym, ap, subst, ◌∙◌}
use Rattle.grid.specs.Link.{Linked, here, step}
use Rattle.grid.specs.Grid.{Grid, size, Adjacent}
use Rattle.grid.proofs.PlaceLaws.{Adjacent-on}
use Rattle.groups.specs.Rules.{Shift, Moved, Contains, Grown}
use Rattle.embed.specs.Embedding.{Embedding, Image, Shifts}

module _ {g h : Grid} {f : ℕ → ℕ} (E : Embedding g h f) {P Q : ℕ → Type 0} where
  -- a chain of neighbours goes over
  pub link_to : ((i : ℕ) → i < size g → P i → Q (f i)) → {a c : ℕ} → a < size g → Linked (Adjacent g) P a c → (c < size g) × Linked (Adjacent h) Q (f a) (f c)
  link_to to l (here p) = (l, here (to _ l p))
  link_to to l (step {i} {j} k e p) =
      let r = link_to to l k in
      let b = Adjacent-on g i j e in
      (b, step r.1 ((E.adj i j r.0 b).0 e) (to j b p))

  -- .. and comes back, if what passes beside the image is the image of a cell
  pub link_from : ((i : ℕ) → i < size g → Q (f i) → P i) → ((i j : ℕ) → i < size g → Adjacent h (f i) j → Q j → (k : ℕ) × (k < size g) × (f k ≡ j))
      → {a c : ℕ} → a < size g → Linked (Adjacent h) Q (f a) c → (x : ℕ) × Linked (Adjacent g) P a x × (f x ≡ c) × (x < size g)
  link_from from near {a} l (here q) = (a, here (from a l q), refl, l)
  link_from from near l (step {i} {j} k e q) =
      let r = link_from from near l k in
      let e' : Adjacent h (f r.0) j = rw r.2 e in
      let n = near r.0 j r.3 e' q in
      let e'' : Adjacent h (f r.0) (f n.0) = rw n.2 e' in
      let q' : Q (f n.0) = rw n.2 q in
      (n.0, step r.1 ((E.adj r.0 n.0 r.3 n.1).1 e'') (from n.0 n.1 q'), n.2, n.1)

  -- a group and its image
  pub group_Image : ((i : ℕ) → i < size g → P i → Q (f i)) → ((i : ℕ) → i < size g → Q (f i) → P i) → ((i j : ℕ) → i < size g → Adjacent h (f i) j → Q j → (k : ℕ) × (k < size g) × (f k ≡ j))
      → (a : ℕ) → a < size g → Image g f (Linked (Adjacent g) P a) (Linked (Adjacent h) Q (f a))
  group_Image to from near a l = record {
    below = λ x k. (link_to to l k).0;
    to = λ x k. (link_to to l k).1;
    from = λ y k. let r = link_from from near l k in (r.0, r.1, r.2);
  }

module _ {g h : Grid} {f : ℕ → ℕ} (E : Embedding g h f) {P P' Q Q' : ℕ → Type 0} (IP : Image g f P P') (IQ : Image g f Q Q') where
  -- a shifted copy
  pub copy_to : (s t : Shift) → Shifts g h f s t → Contains g s P Q → Contains h t P' Q'
  copy_to s t m c y p =
      let u = IP.from y p in
      let v = c u.0 u.1 in
      let w : Moved h t (f u.0) (f v.0) = (m u.0 v.0 (IP.below u.0 u.1) (IQ.below v.0 v.1)).0 v.2 in
      (f v.0, IQ.to v.0 v.1, rw u.2 at w)

  pub copy_from : (s t : Shift) → Shifts g h f s t → Contains h t P' Q' → Contains g s P Q
  copy_from s t m c x p =
      let v = c (f x) (IP.to x p) in
      let u = IQ.from v.0 v.1 in
      let w : Moved h t (f x) (f u.0) = rw u.2 v.2 in
      (u.0, u.1, (m x u.0 (IP.below x p) (IQ.below u.0 u.1)).1 w)

  -- growth, in any edition
  pub Grown-to : {e : ℕ} → Grown e g P Q → Grown e h P' Q'
  Grown-to w =
      let t = E.shift w.shift in
      let lost = IQ.below w.extra w.within in
      record {
        shift = t.0;
        copy = copy_to w.shift t.0 t.1 w.copy;
        extra = f w.extra;
        within = IQ.to w.extra w.within;
        added = λ y p m.
            let u = IP.from y p in
            w.added u.0 u.1 ((t.1 u.0 w.extra (IP.below u.0 u.1) lost).1 (rw u.2 m));
        rest = λ one y q ne.
            let u = IQ.from y q in
            let v = w.rest one u.0 u.1 (λ z. ne (sym u.2 ∙ ap f z)) in
            let k : Moved h t.0 (f v.0) (f u.0) = (t.1 v.0 u.0 (IP.below v.0 v.1) (IQ.below u.0 u.1)).0 v.2 in
            (f v.0, IP.to v.0 v.1, subst (Moved h t.0 (f v.0)) u.2 k);
      }

  pub Grown-from : {e : ℕ} → Grown e h P' Q' → Grown e g P Q
  Grown-from w =
      let s = E.back w.shift in
      let x = IQ.from w.extra w.within in
      let lx = IQ.below x.0 x.1 in
      record {
        shift = s.0;
        copy = copy_from s.0 w.shift s.1 w.copy;
        extra = x.0;
        within = x.1;
        added = λ c p m.
            let k : Moved h w.shift (f c) (f x.0) = (s.1 c x.0 (IP.below c p) lx).0 m in
            w.added (f c) (IP.to c p) (rw x.2 at k);
        rest = λ one y q ne.
            let v = w.rest one (f y) (IQ.to y q) (λ z. ne (E.inj y x.0 (IQ.below y q) lx (z ∙ sym x.2))) in
            let u = IP.from v.0 v.1 in
            let k : Moved h w.shift (f u.0) (f y) = rw u.2 v.2 in
            (u.0, u.1, (s.1 u.0 y (IP.below u.0 u.1) (IQ.below y q)).1 k);
      }
