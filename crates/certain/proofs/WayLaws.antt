-- The ways through the code's search, each as the definition has it.
-- Assumes nothing.
use Prim.Native.Nat.{ℕ, zero, suc, ◌+◌, ◌-◌, ◌≤◌, ◌<◌}
use native.Mathlib.Omega.{arith}
use native.Mathlib.Decide.{dec_le}
use mathlib.Core.Path.{◌≡◌, refl, sym, ap, ◌∙◌, subst}
use mathlib.Core.List.{List, [], ◌++◌, append_assoc}
use mathlib.Core.Option.{none, some}
use lib.ListN.{length, get_or, set, take}
use lib.Seq.{get_or-take, take-set-lt, set-set, set-get_or}
use borrow.Author.Tests.{le-leb, lt-leb}
use Rattle.grid.specs.Lists.{how_many}
use Rattle.record.specs.Leaf.{Leaf}
use Rattle.literals.specs.Literals.{Found}
use Rattle.reasons.specs.Reasons.{find_reason}
use Rattle.std.specs.Prelude.{Some, None}
use Rattle.certain.specs.Tree.{lowest, Reached, counted, both, stepped, search_in, search_of}
use Rattle.certain.specs.Inside.{Gathers, Meets, reason, full, undecided, left_after, Searched}
use Rattle.certain.proofs.LowestLaws.{Lowest, found, full as is_full, Lowest-view, fewer}
use Rattle.certain.proofs.StepLaws.{none_undecided, Gathers-none}

-- ---- what is left of a budget

module _ (s b : ℕ) where
  left_in : s ≤ b → suc (b - s) ≡ left_after s b
  unfolding left_after
  left_in h = rw (le-leb s b h) refl

  left_over : b < s → 0 ≡ left_after s b
  unfolding left_after
  left_over h = rw (lt-leb s b h) refl

  module _ {left : ℕ} (e : left ≡ left_after s b) where
    pub left_done : (left ≡ 0 → ⊥) → (s ≤ b) × (left - 1 ≡ b - s)
    left_done n = go (dec_le s b)
      where
        go : Dec (s ≤ b) → (s ≤ b) × (left - 1 ≡ b - s)
        go (yes h) = (h, omega (arith, left_in h, e))
        go (no h) = absurd (n (e ∙ sym (left_over (omega arith))))

    pub left_out : left ≡ 0 → b < s
    left_out z = go (dec_le s b)
      where
        go : Dec (s ≤ b) → b < s
        go (yes h) = absurd (omega (arith, left_in h, e, z))
        go (no h) = omega arith

-- two searches, one after another, after one step
left_both : (a c b : ℕ) {left : ℕ} → 0 < b → (left ≡ 0 → ⊥) → left ≡ left_after a (b - 1) → left_after c (left - 1) ≡ left_after (suc (a + c)) b
left_both a c b {left} h n e = go (left_done a (b - 1) e n) (dec_le c (left - 1))
  where
    go : (a ≤ b - 1) × (left - 1 ≡ b - 1 - a) → Dec (c ≤ left - 1) → left_after c (left - 1) ≡ left_after (suc (a + c)) b
    go w (yes k) =
        let z : suc (left - 1 - c) ≡ suc (b - suc (a + c)) = omega (arith, w.0, w.1) in
        sym (left_in c (left - 1) k) ∙ z ∙ left_in (suc (a + c)) b (omega (arith, w.0, w.1))
    go w (no k) = sym (left_over c (left - 1) (omega arith)) ∙ left_over (suc (a + c)) b (omega (arith, w.0, w.1))

-- ---- the search by what find gives

stepped_back : (f : Found) (r : Reached) → (f ≡ none → ⊥) → stepped f r ≡ record { boards = []; steps = 1 }
unfolding stepped
stepped_back none r e = absurd (e refl)
stepped_back (some l) r e = refl

stepped_on : (f : Found) (r : Reached) → f ≡ none → stepped f r ≡ record { boards = r.boards; steps = suc r.steps }
unfolding stepped
stepped_on f r e = rw e refl

step_some : (f : Found) (r : Reached) → 0 < (stepped f r).steps
unfolding stepped
step_some none r = omega arith
step_some (some l) r = omega arith

module _ (l : Leaf) (c : List ℕ) where
  -- a search has a step
  pub search_some : 0 < (search_of l c).steps
  unfolding search_of
  search_some = go (how_many 2 c)
    where
      go : (k : ℕ) → 0 < (search_in l k c).steps
      go zero = unfold search_in in step_some (find_reason l c) (counted l c)
      go (suc k) = unfold search_in in step_some (find_reason l c) (both (search_in l k (set c (lowest c) 1)) (search_in l k (set c (lowest c) 0)))

  search_back : (find_reason l c ≡ none → ⊥) → search_of l c ≡ record { boards = []; steps = 1 }
  unfolding search_of
  search_back q = go (how_many 2 c)
    where
      go : (k : ℕ) → search_in l k c ≡ record { boards = []; steps = 1 }
      go zero = unfold search_in in stepped_back (find_reason l c) (counted l c) q
      go (suc k) = unfold search_in in stepped_back (find_reason l c) (both (search_in l k (set c (lowest c) 1)) (search_in l k (set c (lowest c) 0))) q

  search_full : find_reason l c ≡ none → how_many 2 c ≡ 0 → search_of l c ≡ record { boards = (counted l c).boards; steps = 1 }
  unfolding search_of
  search_full q e = rw e (unfold search_in counted in stepped_on (find_reason l c) (counted l c) q)

  search_on : find_reason l c ≡ none → 0 < how_many 2 c
      → search_of l c ≡ record {
        boards = (search_of l (set c (lowest c) 1)).boards ++ (search_of l (set c (lowest c) 0)).boards;
        steps = suc ((search_of l (set c (lowest c) 1)).steps + (search_of l (set c (lowest c) 0)).steps);
      }
  unfolding search_of
  search_on q h = go (how_many 2 c) refl h
    where
      go : (k : ℕ) → how_many 2 c ≡ k → 0 < k → search_in l k c ≡ record {
        boards = (search_in l (how_many 2 (set c (lowest c) 1)) (set c (lowest c) 1)).boards ++ (search_in l (how_many 2 (set c (lowest c) 0)) (set c (lowest c) 0)).boards;
        steps = suc ((search_in l (how_many 2 (set c (lowest c) 1)) (set c (lowest c) 1)).steps + (search_in l (how_many 2 (set c (lowest c) 0)) (set c (lowest c) 0)).steps);
      }
      go zero e h = absurd (omega arith)
      go (suc k) e h =
          rw (fewer c k 1 e (omega arith), fewer c k 0 e (omega arith))
          (unfold search_in both in stepped_on (find_reason l c) (both (search_in l k (set c (lowest c) 1)) (search_in l k (set c (lowest c) 0))) q)

-- ---- the ways

module _ (n left : ℕ) (l : Leaf) (cells before : List ℕ) (long : length before ≡ 1024) where
  -- no step is left
  pub way_none : left ≡ 0 → Searched n left (search_of l (take n cells)) 0 cells cells before before
  way_none e = record {
    same = refl;
    long = long;
    left_is = left_over (search_of l (take n cells)).steps left (omega (arith, search_some l (take n cells)));
    gathers = λ h. absurd (omega (arith, h, search_some l (take n cells)));
  }

  module _ (h : 0 < left) (size_is : length (take n cells) ≡ n) where
    -- one step, with these boards
    one_step : (boards : List (List ℕ)) {after : List ℕ} → search_of l (take n cells) ≡ record { boards = boards; steps = 1 } → length after ≡ 1024 → Gathers n boards before after
        → Searched n left (search_of l (take n cells)) (suc (left - 1)) cells cells before after
    one_step boards e long' g = rw e (record { same = refl; long = long'; left_is = left_in 1 left (omega arith); gathers = λ _. g })

    -- back on a reason, or behind a full board
    pub way_back : {after : List ℕ} → Meets l n cells before after None → Searched n left (search_of l (take n cells)) (suc (left - 1)) cells cells before after
    way_back (reason q e) = one_step [] (search_back l (take n cells) q) (ap length e ∙ long) (Gathers-none n e)
    way_back (full q e long' g) = one_step (counted l (take n cells)).boards (search_full l (take n cells) q (none_undecided n (take n cells) size_is e)) long' g

    -- an undecided cell
    module _ {i : ℕ} {after : List ℕ} (m : Meets l n cells before after (Some i)) where
      -- what is known of it
      record Spot : Type 0 where
        quiet : find_reason l (take n cells) ≡ none
        lowest_is : i ≡ lowest (take n cells)
        inside : i < n
        there : get_or cells i 0 ≡ 2
        some_left : 0 < how_many 2 (take n cells)
        kept : after ≡ before

      spot : Spot
      spot = of m
        where
          of : Meets l n cells before after (Some i) → Spot
          of (undecided q e g k) = go (Lowest-view (take n cells))
            where
              go : Lowest (take n cells) → Spot
              go (found a b x) =
                  let in_grid : i < n = omega (arith, size_is) in
                  record { quiet = q; lowest_is = e; inside = in_grid; there = sym (get_or-take n cells i 0 in_grid) ∙ ap (λ (z : ℕ). get_or (take n cells) z 0) e ∙ b; some_left = x; kept = k }
              go (is_full a x) = absurd (g (omega (arith, size_is)))

      pub undecided_there : (i < n) × (get_or cells i 0 ≡ 2)
      undecided_there = (spot.inside, spot.there)

      set_back : (v : ℕ) → set (set cells i v) i 2 ≡ cells
      set_back v = set-set cells i v 2 ∙ ap (set cells i) (sym spot.there) ∙ set-get_or cells i 0

      branch : (v : ℕ) → search_of l (take n (set cells i v)) ≡ search_of l (set (take n cells) (lowest (take n cells)) v)
      branch v = ap (search_of l) (take-set-lt n cells i v spot.inside ∙ ap (λ (z : ℕ). set (take n cells) z v) spot.lowest_is)

      search_two : search_of l (take n cells) ≡ record {
        boards = (search_of l (take n (set cells i 1))).boards ++ (search_of l (take n (set cells i 0))).boards;
        steps = suc ((search_of l (take n (set cells i 1))).steps + (search_of l (take n (set cells i 0))).steps);
      }
      search_two = rw (branch 1, branch 0) (search_on l (take n cells) spot.quiet spot.some_left)

      -- the budget is exhausted in the first branch
      pub way_exhausted : {rest r : ℕ} {cells₁ facts₁ : List ℕ} → left ≤ suc rest → r ≡ 0 → Searched n rest (search_of l (take n (set cells i 1))) r (set cells i 1) cells₁ after facts₁
          → Searched n left (search_of l (take n cells)) 0 cells (set cells₁ i 2) before facts₁
      way_exhausted {rest} few e a =
          let more : left < suc ((search_of l (take n (set cells i 1))).steps + (search_of l (take n (set cells i 0))).steps) =
          omega (arith, few, left_out (search_of l (take n (set cells i 1))).steps rest a.left_is e) in
          rw search_two (record {
            same = ap (λ (z : List ℕ). set z i 2) a.same ∙ set_back 1;
            long = a.long;
            left_is = left_over (suc ((search_of l (take n (set cells i 1))).steps + (search_of l (take n (set cells i 0))).steps)) left more;
            gathers = λ k. absurd (omega (arith, k, more));
          })

      -- both branches
      pub way_both : {rest last : ℕ} {cells₁ facts₁ cells₂ facts₂ : List ℕ}
          → Searched n (left - 1) (search_of l (take n (set cells i 1))) (suc rest) (set cells i 1) cells₁ after facts₁
          → Searched n rest (search_of l (take n (set cells₁ i 0))) last (set cells₁ i 0) cells₂ facts₁ facts₂
          → Searched n left (search_of l (take n cells)) last cells (set cells₂ i 2) before facts₂
      way_both {rest} {last} {cells₁} {facts₁} {cells₂} {facts₂} a b =
          let p : suc rest - 1 ≡ rest = omega arith in
          let e : suc rest ≡ 0 → ⊥ = λ z. omega (arith, z) in
          let first : Reached = search_of l (take n (set cells i 1)) in
          let second : Reached = search_of l (take n (set cells i 0)) in
          let zeroed : set cells₁ i 0 ≡ set cells i 0 = ap (λ (z : List ℕ). set z i 0) a.same ∙ set-set cells i 1 0 in
          let b' : Searched n rest second last (set cells i 0) cells₂ facts₁ facts₂ =
          subst (λ (z : List ℕ). Searched n rest (search_of l (take n z)) last z cells₂ facts₁ facts₂) zeroed b in
          let d = left_done first.steps (left - 1) a.left_is e in
          rw search_two (record {
            same = ap (λ (z : List ℕ). set z i 2) b'.same ∙ set_back 0;
            long = b'.long;
            left_is = b'.left_is ∙ ap (left_after second.steps) (sym p) ∙ left_both first.steps second.steps left h e a.left_is;
            gathers = λ k bs s. rw (← append_assoc) (b'.gathers (omega (arith, k, d.1)) (bs ++ first.boards) (a.gathers d.0 bs (spot.kept ∙ s)));
          })
