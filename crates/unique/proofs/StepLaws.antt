-- A step that closes: what it has. And what the answer of a step, and of the steps from a place on, comes to.
-- Assumes nothing.
use Prim.Native.Nat.{ℕ, zero, suc, ◌+◌, ◌-◌, ◌<◌, ◌≤◌}
use native.Mathlib.Omega.{arith}
use native.Mathlib.Decide.{ℕ_discrete}
use mathlib.Core.Logic.{◌⊎◌, inl, inr}
use mathlib.Core.Path.{◌≡◌, refl, sym, ◌∙◌}
use mathlib.Core.Bool.{Bool, true, false, cond, ◌&&◌}
use mathlib.Core.List.{List, [], ◌∷◌}
use Rattle.std.specs.Prelude.{Option, Some}
use Rattle.refusal.specs.Refusals.{number_of}
use Rattle.refusal.specs.declared.Refusal as refusal
use lib.Dec.{eqb, ltb, leb}
use lib.ListN.{length, get_or, set}
use borrow.Author.Tests.{eq-eqb, ne_eqb, lt-ltb, le-ltb, ltb-true, leb-true}
use Rattle.grid.specs.Grid.{size}
use Rattle.grid.proofs.ListLaws.{split, and-true}
use Rattle.record.specs.Leaf.{Leaf}
use Rattle.certificate.specs.Certificate.{tag, cell_of, value_of, literal, width, clause_at, middle, hints_at, next, whole, hint_of, State, assume_from, follow_from, hints_from, step_from}
use Rattle.certificate.specs.Inside.{end_of}
use Rattle.unique.specs.Unique.{base_of, refuted, close_of, step_of, steps_from}

-- ---- what a step comes to

-- to assume a clause false comes to 0, or to 27
assume_answer : (n : ℕ) (cells l : List ℕ) → ((assume_from n cells l).0 ≡ 0) ⊎ ((assume_from n cells l).0 ≡ 27)
unfolding assume_from
assume_answer n cells [] = inl refl
assume_answer n cells (w ∷ ws) = go (literal n w) (assume_answer n (set cells (cell_of w) (1 - value_of w)) ws)
  where
    rest : State
    rest = assume_from n (set cells (cell_of w) (1 - value_of w)) ws

    go : (b : Bool) → (rest.0 ≡ 0) ⊎ (rest.0 ≡ 27) → ((cond {A = State} b rest (27, cells)).0 ≡ 0) ⊎ ((cond {A = State} b rest (27, cells)).0 ≡ 27)
    go true a = a
    go false a = inr refl

-- 0 or 1, or a refusal from 26 to 28
abbrev Answer : State → Type 0
Answer s = (s.0 ≤ 1) ⊎ ((26 ≤ s.0) × (s.0 ≤ 28))

either : (b : Bool) (s t : State) → Answer s → Answer t → Answer (cond {A = State} b s t)
either true s t a b = a
either false s t a b = b

follow_Answer : (ws : List ℕ) (p : ℕ) (cells hs : List ℕ) → Answer (follow_from ws p cells hs)
unfolding follow_from
follow_Answer ws p cells [] = inl (omega arith)
follow_Answer ws p cells (h ∷ hs) =
    either (eqb (hint_of ws p cells h) 0) _ _ (either (eqb (length hs) 0) (1, cells) (28, cells) (inl (omega arith)) (inr (omega arith, omega arith)))
    (either (eqb (hint_of ws p cells h) 1) (28, cells) _ (inr (omega arith, omega arith)) (follow_Answer ws p (set cells (cell_of (hint_of ws p cells h - 2)) (value_of (hint_of ws p cells h - 2))) hs))

pub step_Answer : (n : ℕ) (base ws : List ℕ) (at : ℕ) → Answer (step_from n base ws at)
unfolding step_from hints_from
step_Answer n base ws at =
    either (whole ws at) _ _
    (either (leb (width ws at) n) _ _ (either (eqb s.0 0) _ s (follow_Answer ws at s.1 (hints_at ws at)) (assumed (assume_answer n base (clause_at ws at)))) (inr (omega arith, omega arith)))
    (inr (omega arith, omega arith))
  where
    s : State
    s = assume_from n base (clause_at ws at)

    assumed : (s.0 ≡ 0) ⊎ (s.0 ≡ 27) → Answer s
    assumed (inl e) = inl (omega arith)
    assumed (inr e) = inr (omega arith, omega arith)

module _ (l : Leaf) (s : State) where
  -- a clause is false
  pub close_clash : s.0 ≡ 1 → 0 ≡ close_of l s
  unfolding close_of
  close_clash e = rw (eq-eqb s.0 1 e) refl

  -- a refusal
  pub close_refused : (s.0 ≡ 1 → ⊥) → (s.0 ≡ 0 → ⊥) → s.0 ≡ close_of l s
  unfolding close_of
  close_refused a b = rw (ne_eqb s.0 1 a, ne_eqb s.0 0 b) refl

  -- the cells tell
  pub close_told : s.0 ≡ 0 → cond (refuted l s.1) 0 29 ≡ close_of l s
  unfolding close_of
  close_told e = rw (ne_eqb s.0 1 (λ z. omega arith), eq-eqb s.0 0 e) refl

-- ---- the refusals

-- none, or one from 26 to 30
abbrev pub Refusal : ℕ → Type 0
Refusal k = (k ≡ 0) ⊎ ((26 ≤ k) × (k ≤ 30))

one_of : (b : Bool) (j k : ℕ) → Refusal j → Refusal k → Refusal (cond b j k)
one_of true j k a b = a
one_of false j k a b = b

module _ (l : Leaf) (ws : List ℕ) where
  step_Refusal : (at : ℕ) → Refusal (step_of l ws at)
  unfolding step_of
  step_Refusal at = go (ℕ_discrete s.0 1) (ℕ_discrete s.0 0) (step_Answer (size l.puzzle.grid) (base_of l) ws at)
    where
      s : State
      s = step_from (size l.puzzle.grid) (base_of l) ws at

      told : (b : Bool) → Refusal (cond b 0 29)
      told true = inl refl
      told false = inr (omega arith, omega arith)

      go : Dec (s.0 ≡ 1) → Dec (s.0 ≡ 0) → Answer s → Refusal (close_of l s)
      go (yes a) d k = inl (sym (close_clash l s a))
      go (no a) (yes b) k = rw (← close_told l s b) (told (refuted l s.1))
      go (no a) (no b) (inl k) = absurd (omega arith)
      go (no a) (no b) (inr k) = rw (← close_refused l s a b) (inr (k.0, omega (arith, k.1)))

  -- so it is with all steps
  pub steps_Refusal : (fuel at : ℕ) → Refusal (steps_from l ws fuel at)
  unfolding steps_from
  steps_Refusal zero at = inr (omega arith, omega arith)
  steps_Refusal (suc fuel) at =
      one_of (ltb at (length ws)) _ 30
      (one_of (eqb (step_of l ws at) 0) _ (step_of l ws at)
      (one_of (eqb (width ws at) 0) _ _ (one_of (eqb (next ws at) (length ws)) 0 30 (inl refl) (inr (omega arith, omega arith))) (steps_Refusal fuel (next ws at)))
      (step_Refusal at))
      (inr (omega arith, omega arith))

-- ---- a step that closes

-- what it has
pub record Step (l : Leaf) (ws : List ℕ) (at : ℕ) : Type 0 where
  pub is : whole ws at ≡ true
  pub tagged : tag ≤ get_or ws at 0
  pub mid : middle ws at < length ws
  pub end : next ws at ≤ length ws
  pub literals : (assume_from (size l.puzzle.grid) (base_of l) (clause_at ws at)).0 ≡ 0
  pub closed : close_of l (follow_from ws at (assume_from (size l.puzzle.grid) (base_of l) (clause_at ws at)).1 (hints_at ws at)) ≡ 0

module _ (l : Leaf) (ws : List ℕ) (at : ℕ) where
  pub Step-is : step_of l ws at ≡ 0 → Step l ws at
  unfolding step_of step_from hints_from whole
  Step-is e = go (split (whole ws at)) (split (leb (width ws at) n)) (assume_answer n (base_of l) (clause_at ws at)) e
    where
      n : ℕ
      n = size l.puzzle.grid

      s : State
      s = assume_from n (base_of l) (clause_at ws at)

      then : State
      then = cond {A = State} (eqb s.0 0) (follow_from ws at s.1 (hints_at ws at)) s

      other : (t : State) → 1 < t.0 → close_of l t ≡ 0 → ⊥
      other t h x = omega (arith, close_refused l t (λ z. omega arith) (λ z. omega arith))

      go : (whole ws at ≡ true) ⊎ (whole ws at ≡ false) → (leb (width ws at) n ≡ true) ⊎ (leb (width ws at) n ≡ false) → (s.0 ≡ 0) ⊎ (s.0 ≡ 27)
          → close_of l (cond {A = State} (whole ws at) (cond {A = State} (leb (width ws at) n) then (27, base_of l)) (26, base_of l)) ≡ 0 → Step l ws at
      go (inr t) d a x = absurd (other (26, base_of l) (omega arith) (rw t at x))
      go (inl t) (inr d) a x = absurd (other (27, base_of l) (omega arith) (rw (t, d) at x))
      go (inl t) (inl d) (inr z) x = absurd (other s (omega arith) (rw (t, d, ne_eqb s.0 0 (λ q. omega arith)) at x))
      go (inl t) (inl d) (inl z) x =
          let a = and-true (leb tag (get_or ws at 0)) (ltb (middle ws at) (length ws) && leb (next ws at) (length ws)) t in
          let b = and-true (ltb (middle ws at) (length ws)) (leb (next ws at) (length ws)) a.1 in
          record {
            is = t;
            tagged = leb-true tag (get_or ws at 0) a.0;
            mid = ltb-true (middle ws at) (length ws) b.0;
            end = leb-true (next ws at) (length ws) b.1;
            literals = z;
            closed = rw (t, d, eq-eqb _ _ z) at x;
          }

  -- where it ends
  pub Step-ends : Step l ws at → end_of ws at ≡ Some (next ws at)
  Step-ends s = rw s.is refl

  -- so it is with one that closes
  pub closed_whole : 0 ≡ step_of l ws at → end_of ws at ≡ Some (next ws at)
  closed_whole e = Step-ends (Step-is (sym e))

  pub closed_ends : 0 ≡ step_of l ws at → (n : ℕ) → end_of ws at ≡ Some n → next ws at ≡ n
  closed_ends e n q = let s : ◌≡◌ {A = Option ℕ} (Some (next ws at)) (Some n) = sym (closed_whole e) ∙ q in cc

  pub closed_tagged : 0 ≡ step_of l ws at → tag ≤ get_or ws at 0
  closed_tagged e = (Step-is (sym e)).tagged

-- a refusal is no 0
pub refused_counts : (r : refusal.Refusal) → 0 < number_of r
refused_counts r = grind arith

-- ---- the steps

-- the steps from `at` on come to r, and there is fuel for all of them
pub record Comes (l : Leaf) (ws : List ℕ) (at r : ℕ) : Type 0 where
  pub fuel : ℕ
  pub enough : length ws ≤ fuel + at
  pub come : steps_from l ws fuel at ≡ r

module _ {l : Leaf} {ws : List ℕ} {at r : ℕ} (x : Comes l ws at r) where
  -- no word is left
  pub come_past : length ws ≤ at → 30 ≡ r
  unfolding steps_from
  come_past h = go x.fuel x.come
    where
      go : (fuel : ℕ) → steps_from l ws fuel at ≡ r → 30 ≡ r
      go zero e = e
      go (suc fuel) e = rw (le-ltb at (length ws) h) at e

  module _ (h : at < length ws) where
    -- one step
    opened : (y : ℕ) → ((fuel : ℕ) → cond (eqb (step_of l ws at) 0) (cond (eqb (width ws at) 0) (cond (eqb (next ws at) (length ws)) 0 30) (steps_from l ws fuel (next ws at))) (step_of l ws at) ≡ y) → y ≡ r
    unfolding steps_from
    opened y f = go x.fuel x.enough x.come
      where
        go : (fuel : ℕ) → length ws ≤ fuel + at → steps_from l ws fuel at ≡ r → y ≡ r
        go zero k e = absurd (omega arith)
        go (suc fuel) k e = sym (f fuel) ∙ (rw (lt-ltb at (length ws) h) at e)

    -- it is refused
    pub come_refused : (step_of l ws at ≡ 0 → ⊥) → step_of l ws at ≡ r
    come_refused a = opened (step_of l ws at) (λ fuel. rw (ne_eqb (step_of l ws at) 0 a) refl)

    module _ (a : step_of l ws at ≡ 0) where
      -- it has no literals, and ends the words or not
      pub come_done : width ws at ≡ 0 → next ws at ≡ length ws → 0 ≡ r
      come_done b c = opened 0 (λ fuel. rw (eq-eqb (step_of l ws at) 0 a, eq-eqb (width ws at) 0 b, eq-eqb (next ws at) (length ws) c) refl)

      pub come_more : width ws at ≡ 0 → (next ws at ≡ length ws → ⊥) → 30 ≡ r
      come_more b c = opened 30 (λ fuel. rw (eq-eqb (step_of l ws at) 0 a, eq-eqb (width ws at) 0 b, ne_eqb (next ws at) (length ws) c) refl)

      -- the next one
      pub come_next : (width ws at ≡ 0 → ⊥) → Comes l ws (next ws at) r
      unfolding steps_from
      come_next b = go x.fuel x.enough x.come
        where
          go : (fuel : ℕ) → length ws ≤ fuel + at → steps_from l ws fuel at ≡ r → Comes l ws (next ws at) r
          go zero k e = absurd (omega arith)
          go (suc fuel) k e = record { fuel = fuel; enough = omega arith; come = rw (lt-ltb at (length ws) h, eq-eqb (step_of l ws at) 0 a, ne_eqb (width ws at) 0 b) at e }
