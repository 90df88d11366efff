-- Cells that are as a full board has them where they are decided. A clause that holds on the board comes to no clash under them, and what it decides is as the board has it; so it is with the hints of a step.
-- Assumes nothing.
use Prim.Native.Nat.{ℕ, ◌+◌, ◌-◌, ◌/◌, ◌%◌, ◌<◌, ◌≤◌}
use native.Mathlib.Omega.{arith}
use native.Mathlib.Nat.{mod-lt}
use native.Mathlib.Decide.{ℕ_discrete}
use mathlib.Core.Logic.{◌⊎◌, inl, inr}
use mathlib.Core.Path.{◌≡◌, refl, sym, ◌∙◌}
use mathlib.Core.Bool.{Bool, true, false, cond, ◌&&◌}
use mathlib.Core.List.Memᴰ
use mathlib.Core.List.{List, [], ◌∷◌, Memᴰ}
use lib.Dec.{eqb, ltb, leb}
use lib.ListN.{length, get_or, set, length-set}
use lib.Seq.{get_or-set_same, get_or-set_other}
use borrow.Author.Tests.{eq-eqb, ne_eqb, ltb-true}
use Rattle.grid.proofs.ListLaws.{split, and-true}
use Rattle.certificate.specs.Certificate.{tag, cell_of, value_of, literal, clause_at, middle, earlier, look_step, look_from, hint_of, State, assume_from, follow_from}

-- a clause says of a full board that one of its literals is true on it
pub record TrueOn (full clause : List ℕ) : Type 0 where
  pub word : ℕ
  pub member : Memᴰ word clause
  pub true_there : get_or full (cell_of word) 0 ≡ value_of word

module _ (full : List ℕ) (low : (i : ℕ) → get_or full i 0 ≤ 1) where
  -- the literal is true on the full board
  abbrev True : ℕ → Type 0
  True w = get_or full (cell_of w) 0 ≡ value_of w

  holds_cons : {w : ℕ} {ws : List ℕ} → TrueOn full (w ∷ ws) → True w ⊎ TrueOn full ws
  holds_cons {w} {ws} h = go (Memᴰ.cases_cons h.member)
    where
      go : (h.word ≡ w) ⊎ Memᴰ h.word ws → True w ⊎ TrueOn full ws
      go (inl e) = inl (rw e at h.true_there)
      go (inr m) = inr (record { word = h.word; member = m; true_there = h.true_there })

  pub holds_nil : TrueOn full [] → ⊥
  holds_nil h = Memᴰ.not-nil h.member

  -- what a look at a clause that holds comes to: not all its literals are false, and one that is left is true
  pub record Says (r : ℕ) : Type 0 where
    pub clash : r ≡ 0 → ⊥
    pub unit : (w : ℕ) → r ≡ w + 2 → True w

  -- cells under the full board: each decided cell is as it is there
  pub record Under (cells : List ℕ) : Type 0 where
    pub long : length cells ≡ 1024
    pub three : (i : ℕ) → get_or cells i 0 ≤ 2
    pub agree : (i : ℕ) → (get_or cells i 0 ≡ 2 → ⊥) → get_or full i 0 ≡ get_or cells i 0

  Says-one : Says 1
  Says-one = record { clash = λ e. omega arith; unit = λ w e. absurd (omega arith) }

  Says-word : (w : ℕ) → True w → Says (w + 2)
  Says-word w t = record { clash = λ e. omega arith; unit = λ v e. same v (omega arith) }
    where
      same : (v : ℕ) → v ≡ w → True v
      same v e = rw e t

  module _ (cells : List ℕ) (under : Under cells) where
    -- one literal read
    step_Says : (q w : ℕ) (ws : List ℕ) → TrueOn full (w ∷ ws) ⊎ Says q → TrueOn full ws ⊎ Says (look_step (get_or cells (cell_of w) 0) q w)
    unfolding look_step
    step_Says q w ws h = go (ℕ_discrete (get_or cells (cell_of w) 0) (value_of w)) (ℕ_discrete (get_or cells (cell_of w) 0) 2) (ℕ_discrete q 0) (ℕ_discrete q (w + 2)) (opened h)
      where
        opened : TrueOn full (w ∷ ws) ⊎ Says q → (True w ⊎ TrueOn full ws) ⊎ Says q
        opened (inl x) = inl (holds_cons x)
        opened (inr s) = inr s

        go : Dec (get_or cells (cell_of w) 0 ≡ value_of w) → Dec (get_or cells (cell_of w) 0 ≡ 2) → Dec (q ≡ 0) → Dec (q ≡ w + 2) → (True w ⊎ TrueOn full ws) ⊎ Says q
            → TrueOn full ws ⊎ Says (cond (eqb (get_or cells (cell_of w) 0) (value_of w)) 1 (cond (eqb (get_or cells (cell_of w) 0) 2) (cond (eqb q 0) (w + 2) (cond (eqb q (w + 2)) q 1)) q))
        go (yes e) d2 d3 d4 o = rw (eq-eqb _ _ e) (inr Says-one)
        go (no a) (no b) d3 d4 (inl (inl t)) = absurd (a (sym (under.agree (cell_of w) b) ∙ t))
        go (no a) d2 d3 d4 (inl (inr t)) = inl t
        go (no a) (no b) d3 d4 (inr s) = rw (ne_eqb _ _ a, ne_eqb _ _ b) (inr s)
        go (no a) (yes b) (yes z) d4 (inl (inl t)) = rw (ne_eqb _ _ a, eq-eqb _ _ b, eq-eqb _ _ z) (inr (Says-word w t))
        go (no a) (yes b) (yes z) d4 (inr s) = absurd (s.clash z)
        go (no a) (yes b) (no z) (yes u) (inl (inl t)) = rw (ne_eqb _ _ a, eq-eqb _ _ b, ne_eqb _ _ z, eq-eqb _ _ u) (inr (rw u (Says-word w t)))
        go (no a) (yes b) (no z) (yes u) (inr s) = rw (ne_eqb _ _ a, eq-eqb _ _ b, ne_eqb _ _ z, eq-eqb _ _ u) (inr s)
        go (no a) (yes b) (no z) (no u) (inl (inl t)) = rw (ne_eqb _ _ a, eq-eqb _ _ b, ne_eqb _ _ z, ne_eqb _ _ u) (inr Says-one)
        go (no a) (yes b) (no z) (no u) (inr s) = rw (ne_eqb _ _ a, eq-eqb _ _ b, ne_eqb _ _ z, ne_eqb _ _ u) (inr Says-one)

    look_Says : (q : ℕ) (l : List ℕ) → TrueOn full l ⊎ Says q → Says (look_from cells q l)
    unfolding look_from
    look_Says q [] (inl h) = absurd (holds_nil h)
    look_Says q [] (inr s) = s
    look_Says q (w ∷ ws) h = look_Says (look_step (get_or cells (cell_of w) 0) q w) ws (step_Says q w ws h)

  -- a cell decided as it is on the full board
  Under-set : (cells : List ℕ) → Under cells → (i v : ℕ) → i < 1024 → get_or full i 0 ≡ v → Under (set cells i v)
  Under-set cells u i v lt e = record {
    long = length-set cells i v ∙ u.long;
    three = λ j. three j (ℕ_discrete j i);
    agree = λ j n. agree j (ℕ_discrete j i) n;
  }
    where
      three : (j : ℕ) → Dec (j ≡ i) → get_or (set cells i v) j 0 ≤ 2
      three j (yes q) = rw q (rw (get_or-set_same cells i v 0 (omega (arith, u.long))) (omega (arith, low i)))
      three j (no q) = rw (get_or-set_other cells i j v 0 q) (u.three j)

      agree : (j : ℕ) → Dec (j ≡ i) → (get_or (set cells i v) j 0 ≡ 2 → ⊥) → get_or full j 0 ≡ get_or (set cells i v) j 0
      agree j (yes q) n = rw q (e ∙ sym (get_or-set_same cells i v 0 (omega (arith, u.long))))
      agree j (no q) n = u.agree j (λ z. n (get_or-set_other cells i j v 0 q ∙ z)) ∙ sym (get_or-set_other cells i j v 0 q)

  -- a literal that is not true there: the cell has the other value
  other : (w : ℕ) → (True w → ⊥) → get_or full (cell_of w) 0 ≡ 1 - value_of w
  other w n = go (get_or full (cell_of w) 0) (value_of w) (low (cell_of w)) (mod-lt (w / 32768) {m = 2} (omega arith)) n
    where
      go : (a b : ℕ) → a ≤ 1 → b < 2 → (a ≡ b → ⊥) → a ≡ 1 - b
      go a b h k n = omega arith

  cell_lt : (w : ℕ) → cell_of w < 1024
  cell_lt w = mod-lt w {m = 1024} (omega arith)

  -- a clause that does not hold, assumed false
  pub assume_Under : (n : ℕ) (cells l : List ℕ) → Under cells → (TrueOn full l → ⊥) → Under (assume_from n cells l).1
  unfolding assume_from
  assume_Under n cells [] u f = u
  assume_Under n cells (w ∷ ws) u f =
      go (literal n w)
      (assume_Under n (set cells (cell_of w) (1 - value_of w)) ws
      (Under-set cells u (cell_of w) (1 - value_of w) (cell_lt w) (other w (λ t. f (record { word = w; member = Memᴰ.head refl; true_there = t }))))
      (λ h. f (record { word = h.word; member = Memᴰ.tail h.member; true_there = h.true_there })))
    where
      go : (b : Bool) → Under (assume_from n (set cells (cell_of w) (1 - value_of w)) ws).1 → Under (cond {A = State} b (assume_from n (set cells (cell_of w) (1 - value_of w)) ws) (27, cells)).1
      go true x = x
      go false x = u

  -- hints that hold come to no clash
  pub record Followed (s : State) : Type 0 where
    pub no_clash : s.0 ≡ 1 → ⊥
    pub under : Under s.1

  module _ (ws : List ℕ) (p : ℕ) (verified : (h : ℕ) → earlier ws p h ≡ true → TrueOn full (clause_at ws h)) where
    hint_Says : (cells : List ℕ) → Under cells → (h : ℕ) → Says (hint_of ws p cells h)
    unfolding hint_of
    hint_Says cells u h = go (split (earlier ws p h))
      where
        go : (earlier ws p h ≡ true) ⊎ (earlier ws p h ≡ false) → Says (cond (earlier ws p h) (look_from cells 0 (clause_at ws h)) 1)
        go (inl e) = rw e (look_Says cells u 0 (clause_at ws h) (inl (verified h e)))
        go (inr e) = rw e Says-one

    pub follow_Under : (cells hs : List ℕ) → Under cells → Followed (follow_from ws p cells hs)
    unfolding follow_from
    follow_Under cells [] u = record { no_clash = λ e. omega arith; under = u }
    follow_Under cells (h ∷ hs) u = go (ℕ_discrete look 0) (ℕ_discrete look 1) (λ c' u'. follow_Under c' hs u')
      where
        look : ℕ
        look = hint_of ws p cells h

        go : Dec (look ≡ 0) → Dec (look ≡ 1) → ((c' : List ℕ) → Under c' → Followed (follow_from ws p c' hs))
            → Followed (cond {A = State} (eqb look 0) (cond {A = State} (eqb (length hs) 0) (1, cells) (28, cells)) (cond {A = State} (eqb look 1) (28, cells) (follow_from ws p (set cells (cell_of (look - 2)) (value_of (look - 2))) hs)))
        go (yes z) d2 again = absurd ((hint_Says cells u h).clash z)
        go (no z) (yes o) again = rw (ne_eqb _ _ z, eq-eqb _ _ o) (record { no_clash = λ q. omega arith; under = u })
        go (no z) (no o) again =
            rw (ne_eqb _ _ z, ne_eqb _ _ o)
            (again (set cells (cell_of (look - 2)) (value_of (look - 2)))
            (Under-set cells u (cell_of (look - 2)) (value_of (look - 2)) (cell_lt (look - 2)) ((hint_Says cells u h).unit (look - 2) (omega arith))))

  -- whether a clause holds is decided
  pub holds_Dec : (l : List ℕ) → Dec (TrueOn full l)
  holds_Dec [] = no (λ h. holds_nil h)
  holds_Dec (w ∷ ws) = go (ℕ_discrete (get_or full (cell_of w) 0) (value_of w)) (holds_Dec ws)
    where
      go : Dec (True w) → Dec (TrueOn full ws) → Dec (TrueOn full (w ∷ ws))
      go (yes t) d = yes (record { word = w; member = Memᴰ.head refl; true_there = t })
      go (no t) (yes h) = yes (record { word = h.word; member = Memᴰ.tail h.member; true_there = h.true_there })
      go (no t) (no h) = no (λ x. both (holds_cons x))
        where
          both : True w ⊎ TrueOn full ws → ⊥
          both (inl a) = t a
          both (inr a) = h a

-- a word that was assumed is a literal
pub assumed_literal : (n : ℕ) (cells l : List ℕ) → (assume_from n cells l).0 ≡ 0 → (w : ℕ) → Memᴰ w l → w < 65536
unfolding assume_from
assumed_literal n cells [] e w m = absurd (Memᴰ.not-nil m)
assumed_literal n cells (v ∷ vs) e w m = go (split (literal n v)) (Memᴰ.cases_cons m) e (λ e' m'. assumed_literal n (set cells (cell_of v) (1 - value_of v)) vs e' w m')
  where
    low : literal n v ≡ true → v < 65536
    low t = ltb-true v 65536 (and-true (ltb v 65536) (ltb (v % 32768) n) (unfold literal in t)).0

    go : (literal n v ≡ true) ⊎ (literal n v ≡ false) → (w ≡ v) ⊎ Memᴰ w vs → (cond {A = State} (literal n v) (assume_from n (set cells (cell_of v) (1 - value_of v)) vs) (27, cells)).0 ≡ 0
        → ((assume_from n (set cells (cell_of v) (1 - value_of v)) vs).0 ≡ 0 → Memᴰ w vs → w < 65536) → w < 65536
    go (inl t) (inl q) x again = omega (arith, low t)
    go (inl t) (inr q) x again = again (rw t at x) q
    go (inr t) q x again = let z : ◌≡◌ {A = ℕ} 27 0 = rw t at x in absurd (omega arith)

-- a hint that was followed is the place of an earlier step
hint_low : (ws : List ℕ) (p : ℕ) (cells : List ℕ) (h : ℕ) → (hint_of ws p cells h ≡ 1 → ⊥) → h < p
unfolding hint_of
hint_low ws p cells h f = go (split (earlier ws p h)) f
  where
    go : (earlier ws p h ≡ true) ⊎ (earlier ws p h ≡ false) → (cond (earlier ws p h) (look_from cells 0 (clause_at ws h)) 1 ≡ 1 → ⊥) → h < p
    go (inl t) f = ltb-true h p (and-true (ltb h p) (leb tag (get_or ws h 0) && leb (middle ws h) p) (unfold earlier in t)).0
    go (inr t) f = absurd (f (rw t refl))

pub followed_earlier : (ws : List ℕ) (p : ℕ) (cells l : List ℕ) → (follow_from ws p cells l).0 ≤ 1 → (h : ℕ) → Memᴰ h l → h < p
unfolding follow_from
followed_earlier ws p cells [] e h m = absurd (Memᴰ.not-nil m)
followed_earlier ws p cells (v ∷ vs) e h m = go (ℕ_discrete look 0) (ℕ_discrete (length vs) 0) (ℕ_discrete look 1) (Memᴰ.cases_cons m) e (λ c' e' m'. followed_earlier ws p c' vs e' h m')
  where
    look : ℕ
    look = hint_of ws p cells v

    none_left : (l : List ℕ) → length l ≡ 0 → Memᴰ h l → ⊥
    none_left [] z m = Memᴰ.not-nil m
    none_left (x ∷ xs) z m = omega arith

    go : Dec (look ≡ 0) → Dec (length vs ≡ 0) → Dec (look ≡ 1) → (h ≡ v) ⊎ Memᴰ h vs
        → (cond {A = State} (eqb look 0) (cond {A = State} (eqb (length vs) 0) (1, cells) (28, cells)) (cond {A = State} (eqb look 1) (28, cells) (follow_from ws p (set cells (cell_of (look - 2)) (value_of (look - 2))) vs))).0 ≤ 1
        → ((c' : List ℕ) → (follow_from ws p c' vs).0 ≤ 1 → Memᴰ h vs → h < p) → h < p
    go (yes z) (yes n) d3 (inr q) x again = absurd (none_left vs n q)
    go (yes z) (yes n) d3 (inl q) x again = omega (arith, hint_low ws p cells v (λ o. omega arith))
    go (yes z) (no n) d3 q x again = let y : 28 ≤ 1 = rw (eq-eqb _ _ z, ne_eqb _ _ n) at x in absurd (omega arith)
    go (no z) d2 (yes o) q x again = let y : 28 ≤ 1 = rw (ne_eqb _ _ z, eq-eqb _ _ o) at x in absurd (omega arith)
    go (no z) d2 (no o) (inl q) x again = omega (arith, hint_low ws p cells v o)
    go (no z) d2 (no o) (inr q) x again = again (set cells (cell_of (look - 2)) (value_of (look - 2))) (rw (ne_eqb _ _ z, ne_eqb _ _ o) at x) q
