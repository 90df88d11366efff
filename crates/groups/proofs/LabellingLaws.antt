-- Groups that are labelled one after another, each by its first cell, whether a flood or a walk does it: no code is named here.
-- Assumes nothing.
use Prim.Native.Nat.{ℕ, ◌+◌, ◌≤◌, ◌<◌}
use native.Mathlib.Decide.{dec_lt}
use native.Mathlib.Omega.{arith}
use mathlib.Core.Path.{◌≡◌, refl, sym, ◌∙◌}
use mathlib.Core.Bool.{Bool, false, So, false≢true}
use mathlib.Core.List.{List}
use lib.ListN.{get_or, set}
use Rattle.grid.specs.Grid.{Adjacent, Grid, size}
use Rattle.grid.specs.Link.{here, step}
use Rattle.grid.proofs.LinkLaws.{Linked-end, Linked-sym}
use Rattle.grid.proofs.GridLaws.{adj_sym}
use Rattle.grid.proofs.ListLaws.{place_in}
use Rattle.grid.proofs.AppendLaws.{by_eq}
use Rattle.grid.proofs.ArrayLaws.{Entry, hit, miss, Entry-at}
use Rattle.groups.specs.Groups.{Joined}
use Rattle.groups.specs.Flood.{unlabelled, Only, Unlabelled, Kept, same, new, Added, Walked, Right, none, some, Sofar}
use Rattle.groups.proofs.GroupLaws.{label, label_own, label_least}

-- a cell that has no label had none before q got one
pub set_still : (L : List ℕ) (q s : ℕ) → get_or L q 0 ≡ unlabelled → (k : ℕ) → get_or (set L q s) k 0 ≡ unlabelled → get_or L k 0 ≡ unlabelled
set_still L q s u k x = go (Entry-at L q s k (place_in L q (omega arith)))
  where
    go : Entry L q s k → get_or L k 0 ≡ unlabelled
    go (hit e v) = rw e u
    go (miss ne v) = sym v ∙ x

module _ {g : Grid} {p : ℕ → Bool} {i s : ℕ} where
  -- nor had it one before cells joined to i got theirs
  pub Kept-still : {L L' : List ℕ} {j : ℕ} → Kept g p i s L L' j → get_or L' j 0 ≡ unlabelled → get_or L j 0 ≡ unlabelled
  Kept-still (same v) x = sym v ∙ x
  Kept-still (new u v n) x = u

  -- a label that is there stays
  Kept-same : {L L' : List ℕ} {j : ℕ} → Kept g p i s L L' j → (get_or L j 0 ≡ unlabelled → ⊥) → get_or L' j 0 ≡ get_or L j 0
  Kept-same (same v) lab = v
  Kept-same (new u v n) lab = absurd (lab u)

  -- one cell gets its label
  pub Kept-set : {L : List ℕ} {q : ℕ} → get_or L q 0 ≡ unlabelled → Joined g p i q → (j : ℕ) → Kept g p i s L (set L q s) j
  Kept-set {L} {q} u n j = go (Entry-at L q s j (place_in L q (omega arith)))
    where
      go : Entry L q s j → Kept g p i s L (set L q s) j
      go (hit e v) = new (rw e u) v (rw e n)
      go (miss ne v) = same v

  -- one change after another
  pub Kept-then : {L L₁ L₂ : List ℕ} {j : ℕ} → Kept g p i s L L₁ j → Kept g p i s L₁ L₂ j → Kept g p i s L L₂ j
  Kept-then (same v) (same v') = same (v' ∙ v)
  Kept-then (same v) (new u' v' n') = new (sym v ∙ u') v' n'
  Kept-then (new u v n) (same v') = new u (v' ∙ v) n
  Kept-then (new u v n) (new u' v' n') = new u v' n

  -- only cells that pass have no label, also after cells got one
  pub Added-Only : {L L' : List ℕ} → Added g p i s L L' → Only p L → Only p L'
  Added-Only A only j x = only j (Kept-still (A.kept j) x)

-- before the first group is labelled
pub Sofar-none : {g : Grid} {p : ℕ → Bool} {L : List ℕ} → Unlabelled p L → Sofar g p L 0 L
Sofar-none U = record {
  long = refl;
  only = U.only;
  right = λ j o. none (U.all j o);
  full = λ j h. absurd (omega (arith, h));
  closed = λ j k side oj ok lab. absurd (lab (U.all j oj));
  others = λ j f. refl;
}

-- the groups with a cell below s are labelled, and then that of s
module _ {g : Grid} {p : ℕ → Bool} {s : ℕ} {L₀ L L' : List ℕ} (S : Sofar g p L₀ s L) (W : Walked g p s s L L') where
  A : Added g p s s L L'
  A = W.added

  -- a cell that has no label yet does not come before s
  first : (j : ℕ) → get_or L j 0 ≡ unlabelled → So (p j) → s ≤ j
  first j u o = by_lt (dec_lt j s)
    where
      by_lt : Dec (j < s) → s ≤ j
      by_lt (yes h) = absurd (S.full j h o u)
      by_lt (no h) = omega (arith, h)

  right' : (j : ℕ) → So (p j) → Right g p s L j → Kept g p s s L L' j → Right g p (s + 1) L' j
  right' j o r (new u v n) = some (omega (arith, v)) (omega (arith, v, first j u o)) (rw v n)
  right' j o (none u) (same v) = none (v ∙ u)
  right' j o (some lt le n) (same v) = some (omega (arith, v, lt)) (omega (arith, v, le)) (rw v n)

  full' : (j : ℕ) → j < s + 1 → So (p j) → get_or L' j 0 ≡ unlabelled → ⊥
  full' j h o x = by_eq j s (λ q. W.seed (rw q at o) (rw q at x)) (λ ne. S.full j (omega arith) o (Kept-still (A.kept j) x))

  closed' : (j k : ℕ) → Adjacent g j k → So (p j) → So (p k) → (get_or L' j 0 ≡ unlabelled → ⊥) → get_or L' k 0 ≡ get_or L' j 0
  closed' j k side oj ok lab = go (A.kept j) (A.kept k)
    where
      go : Kept g p s s L L' j → Kept g p s s L L' k → get_or L' k 0 ≡ get_or L' j 0
      go (same v) b =
          let lab₀ : get_or L j 0 ≡ unlabelled → ⊥ = λ x. lab (v ∙ x) in
          let e = S.closed j k side oj ok lab₀ in
          Kept-same b (λ x. lab₀ (sym e ∙ x)) ∙ e ∙ sym v
      go (new u v n) (new u' v' n') = v' ∙ sym v
      go (new u v n) (same v') =
          let lab₀ : get_or L k 0 ≡ unlabelled → ⊥ = λ x. A.done j u v k side ok (v' ∙ x) in
          absurd (lab₀ (sym (S.closed k j (adj_sym g j k side) ok oj lab₀) ∙ u))

  others' : (j : ℕ) → p j ≡ false → Kept g p s s L L' j → get_or L' j 0 ≡ get_or L₀ j 0
  others' j f (same v) = v ∙ S.others j f
  others' j f (new u v n) = absurd (false≢true (sym f ∙ Linked-end n))

  pub Sofar-more : Sofar g p L₀ (s + 1) L'
  Sofar-more = record {
    long = A.long ∙ S.long;
    only = Added-Only A S.only;
    right = λ j o. right' j o (S.right j o) (A.kept j);
    full = full';
    closed = closed';
    others = λ j f. others' j f (A.kept j);
  }

-- after the last group each cell that passes has the label that the definition gives, where only cells of the grid pass
module _ {g : Grid} {p : ℕ → Bool} {L₀ L : List ℕ} (on : (j : ℕ) → So (p j) → j < size g) (S : Sofar g p L₀ (size g) L) where
  found : (i : ℕ) → So (p i) → (get_or L i 0 ≤ i) × Joined g p (get_or L i 0) i
  found i o = go (S.right i o)
    where
      go : Right g p (size g) L i → (get_or L i 0 ≤ i) × Joined g p (get_or L i 0) i
      go (none u) = absurd (S.full i (on i o) o u)
      go (some lt le n) = (le, n)

  alike : {i j : ℕ} → Joined g p i j → get_or L j 0 ≡ get_or L i 0
  alike (here o) = refl
  alike (step {i = j} {j = k} n side o) = S.closed j k side (Linked-end n) o (S.full j side.0 (Linked-end n)) ∙ alike n

  pub sofar_label : (i : ℕ) → So (p i) → get_or L i 0 ≡ label g p i
  sofar_label i o =
      let own = label_own g p i (on i o) o in
      let back = Linked-sym (adj_sym g) (found i o).1 in
      omega (arith, alike own, (found (label g p i) (Linked-end own)).0, label_least g p i (get_or L i 0) (on i o) (on (get_or L i 0) (Linked-end back)) back)
