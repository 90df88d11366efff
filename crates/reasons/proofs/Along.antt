-- Along an arrow: from one square to a later one the blocks grow by a copy and, for each square on the way, one square or more; in the first edition just one.
-- Assumes nothing.
use Prim.Native.Nat.{ℕ, zero, suc, ◌+◌, ◌≤◌, ◌<◌}
use mathlib.Core.Path.{◌≡◌, subst}
use native.Mathlib.Decide.{ℕ_discrete}
use native.Mathlib.Omega.{arith}
use Rattle.grid.specs.Grid.{Grid, size}
use Rattle.grid.specs.Count.{count}
use Rattle.grid.proofs.Count.{bump_yes, bump_no}
use Rattle.groups.proofs.ArrowLaws.{NextAt}
use Rattle.groups.specs.Rules.{Shift, Grown, Contains, Below}
use Rattle.groups.proofs.Shift.{Contains-id, then, Contains-trans, Grown-more, Grown-most}

-- how many squares stand at the d positions behind i
abbrev pub passed : {F : ℕ → Type 0} → ((c : ℕ) → Dec (F c)) → (ℕ → ℕ) → ℕ → ℕ → ℕ
passed d_f at i d = count (λ k. d_f (at (suc (i + k)))) d

-- the block at j holds a copy of the block at i, and is larger by one or more for itself and for each of m squares between them; in the first edition by just one for each
pub record Follows (e : ℕ) (G : Grid) (Bl : ℕ → ℕ → Type 0) (d_b : (a c : ℕ) → Dec (Bl a c)) (at : ℕ → ℕ) (i j m : ℕ) : Type 0 where
  pub shift : Shift
  pub copy : Contains G shift (Bl (at i)) (Bl (at j))
  pub least : count (d_b (at i)) (size G) + suc m ≤ count (d_b (at j)) (size G)
  pub most : e ≡ 1 → count (d_b (at j)) (size G) ≤ count (d_b (at i)) (size G) + suc m

module _ (e : ℕ) (G : Grid) (F : ℕ → Type 0) (d_f : (c : ℕ) → Dec (F c))
    (Bl : ℕ → ℕ → Type 0) (d_b : (a c : ℕ) → Dec (Bl a c)) (below : (a : ℕ) → Below G (Bl a))
    (at : ℕ → ℕ) (len : ℕ)
    (grow : (i j : ℕ) → j < len → NextAt F at i j → Grown e G (Bl (at i)) (Bl (at j))) where
  -- the last square k at or before position i + d
  record Walk (i d : ℕ) : Type 0 where
    k : ℕ
    from : i ≤ k
    upto : k ≤ i + d
    stands : F (at k)
    clear : (x : ℕ) → k < x → x ≤ i + d → ¬ F (at x)
    shift : Shift
    copy : Contains G shift (Bl (at i)) (Bl (at k))
    least : count (d_b (at i)) (size G) + passed d_f at i d ≤ count (d_b (at k)) (size G)
    most : e ≡ 1 → count (d_b (at k)) (size G) ≤ count (d_b (at i)) (size G) + passed d_f at i d

  walk : (i d : ℕ) → i + d < len → F (at i) → Walk i d
  walk i zero l f = record {
    k = i;
    from = omega arith;
    upto = omega arith;
    stands = f;
    clear = λ x a b. absurd (omega arith);
    shift = _;
    copy = Contains-id G (Bl (at i));
    least = omega arith;
    most = λ _. omega arith;
  }
  walk i (suc d) l f = go (walk i d (omega arith) f) (d_f (at (suc (i + d))))
    where
      go : Walk i d → Dec (F (at (suc (i + d)))) → Walk i (suc d)
      go w (yes s) =
          let g = grow w.k (suc (i + d)) (omega arith) (omega (arith, w.upto), w.stands, s, λ x a b. w.clear x a (omega arith)) in
          record {
            k = suc (i + d);
            from = omega arith;
            upto = omega arith;
            stands = s;
            clear = λ x a b. absurd (omega arith);
            shift = then G w.shift g.shift;
            copy = Contains-trans G w.shift g.shift _ (Bl (at w.k)) _ w.copy g.copy;
            least = omega (arith, w.least, Grown-more G (d_b _) (d_b _) (below _) (below _) g, bump_yes (d_f (at (suc (i + d)))) (passed d_f at i d) s);
            most = λ h. omega (arith, w.most h, Grown-most G (d_b _) (d_b _) (below _) (below _) h g, bump_yes (d_f (at (suc (i + d)))) (passed d_f at i d) s);
          }
      go w (no h) = record {
        k = w.k;
        from = w.from;
        upto = omega (arith, w.upto);
        stands = w.stands;
        clear = λ x a b. last x a b (ℕ_discrete x (suc (i + d)));
        shift = w.shift;
        copy = w.copy;
        least = omega (arith, w.least, bump_no (d_f (at (suc (i + d)))) (passed d_f at i d) h);
        most = λ one. omega (arith, w.most one, bump_no (d_f (at (suc (i + d)))) (passed d_f at i d) h);
      }
        where
          last : (x : ℕ) → w.k < x → x ≤ i + suc d → Dec (x ≡ suc (i + d)) → ¬ F (at x)
          last x a b (yes z) = λ y. h (subst (λ y. F (at y)) z y)
          last x a b (no ne) = w.clear x a (omega arith)

  -- from one square of an arrow to a later one
  pub along : (i d j : ℕ) → j ≡ suc (i + d) → j < len → F (at i) → F (at j) → Follows e G Bl d_b at i j (passed d_f at i d)
  along i d j z l f g = go (walk i (suc d) (omega arith) f)
    where
      go : Walk i (suc d) → Follows e G Bl d_b at i j (passed d_f at i d)
      go w = subst (λ x. Follows e G Bl d_b at i x (passed d_f at i d)) same (record {
        shift = w.shift;
        copy = w.copy;
        least = omega (arith, w.least, last);
        most = λ h. omega (arith, w.most h, last);
      })
        where
          last : passed d_f at i (suc d) ≡ suc (passed d_f at i d)
          last = bump_yes (d_f (at (suc (i + d)))) (passed d_f at i d) (subst (λ x. F (at x)) z g)

          same : w.k ≡ j
          same = at_end (ℕ_discrete w.k j)
            where
              at_end : Dec (w.k ≡ j) → w.k ≡ j
              at_end (yes y) = y
              at_end (no ne) = absurd (w.clear j (omega (arith, w.upto)) (omega arith) g)
