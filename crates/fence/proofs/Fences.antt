-- The fence is inserted cell by cell: no code is named here.
-- Assumes nothing.
use Prim.Native.Nat.{ℕ, ◌+◌, ◌≤◌, ◌<◌}
use native.Mathlib.Decide.{ℕ_discrete, dec_lt}
use native.Mathlib.Omega.{arith}
use mathlib.Core.Logic.{◌⊎◌, inl, inr}
use mathlib.Core.Path.{◌≡◌, refl, sym, ap, ◌∙◌}
use mathlib.Core.Bool.{Bool, true, false, So, cond, ◌&&◌, ◌||◌, not, or-false, or_assoc, and-false, and-true as and_yes}
use mathlib.Core.List.{List, [], ◌∷◌, ◌++◌, Memᴰ}
use lib.Dec.{eqb, ltb}
use lib.ListN.{length, get_or}
use borrow.Author.Tests.{eqb-true, eq-eqb, ne_eqb, lt-ltb, le-ltb}
use Rattle.std.proofs.lemmas.Bool.{and_from}
use Rattle.grid.specs.Lists.{range, upto, filter, any}
use Rattle.kinds.specs.Inside.{of_block}
use Rattle.grid.specs.Cells.{word}
use Rattle.grid.specs.Grid.{Grid, neighbours}
use Rattle.grid.proofs.ListLaws.{split, and-true, So-orl, So-orr, or-So, any-mem, mem-any}
use Rattle.grid.proofs.AppendLaws.{any-append, any_more, none_more}
use Rattle.fence.specs.Inside.{key, Place, Inserted, lit_at, Ordered, Whole, in_disturbing, touched, adds, adds_among}
use Rattle.fence.proofs.Ordering.{key_lit, Ordered-same, found, absent, Ordered-insert}

-- nothing is added
pub none_added : {K base part : List ℕ} {n c : ℕ} (t T : ℕ → Bool) → ((x : ℕ) → T x ≡ false) → Ordered K n base t part c → Ordered K n base (λ x. t x || T x) part c
none_added t T e O = Ordered-same t (λ x. t x || T x) (λ x l. rw (e x) (sym (or-false (t x)))) O

-- ---- whether an index is there
module _ {K base part : List ℕ} {n c : ℕ} {t : ℕ → Bool} (O : Ordered K n base t part c) (i : ℕ) (l : i < n) where
  own_key : key i ≡ i
  own_key = omega (arith, O.small)

  there_is : (p : ℕ) → p < c → key (get_or part p 0) ≡ i → t i ≡ true
  there_is p h e = found O i i l own_key p h (e ∙ sym own_key)

  pub there_not : (p : ℕ) → Place part c i p → (p < c → key (get_or part p 0) ≡ i → ⊥) → t i ≡ false
  there_not p P ne = absent O i i l own_key p P (λ h e. ne h (e ∙ own_key))

  pub there_by : (p : ℕ) → Place part c i p → p < c → eqb (key (get_or part p 0)) i ≡ t i
  there_by p P h = by (ℕ_discrete (key (get_or part p 0)) i)
    where
      by : Dec (key (get_or part p 0) ≡ i) → eqb (key (get_or part p 0)) i ≡ t i
      by (yes e) = eq-eqb _ i e ∙ sym (there_is p h e)
      by (no e) = ne_eqb _ i e ∙ sym (there_not p P (λ _ q. e q))

-- ---- one cell of an arrow block
module _ (K O : List ℕ) (e i : ℕ) where
  pub cell_added : {base part part' : List ℕ} {n c r : ℕ} {t : ℕ → Bool} → of_block K O e i ≡ true → i < n → Ordered K n base t part c → Inserted part c (word (i, 1)) r part'
      → Ordered K n base (λ x. t x || (of_block K O e i && eqb i x)) part' r
  unfolding lit_at word
  cell_added {t = t} is l Q I =
      let lit : word (i, 1) ≡ lit_at K i = rw (eqb-true (get_or K i 0) 1 (and-true (eqb (get_or K i 0) 1) _ is).0) in
      Ordered-same (λ x. t x || eqb i x) (λ x. t x || (of_block K O e i && eqb i x)) (λ x _. rw is)
      (Ordered-insert Q i (word (i, 1)) l (ap key lit ∙ key_lit K i (omega (arith, Q.small))) lit I)

-- ---- all cells of an arrow block
module _ (K O : List ℕ) (e : ℕ) where
  -- those below i
  abbrev pub up_to : ℕ → ℕ → Bool
  up_to i x = of_block K O e x && ltb x i

  pub block_more : {base part : List ℕ} {n c : ℕ} (t : ℕ → Bool) (i : ℕ) → Ordered K n base (λ x. (t x || up_to i x) || (of_block K O e i && eqb i x)) part c → Ordered K n base (λ x. t x || up_to (i + 1) x) part c
  block_more t i Q = Ordered-same (λ x. (t x || up_to i x) || (of_block K O e i && eqb i x)) (λ x. t x || up_to (i + 1) x) (λ x _. by x (ℕ_discrete i x)) Q
    where
      here : (a b : Bool) → ((a || false) || b) ≡ (a || b)
      here true b = refl
      here false b = refl

      by : (x : ℕ) → Dec (i ≡ x) → ((t x || (of_block K O e x && ltb x i)) || (of_block K O e i && eqb i x)) ≡ (t x || (of_block K O e x && ltb x (i + 1)))
      by x (yes q) = rw (← q, le-ltb i i (omega arith), lt-ltb i (i + 1) (omega arith), eq-eqb i i refl, and-false (of_block K O e i), and_yes (of_block K O e i)) (here (t i) (of_block K O e i))
      by x (no q) = rw (ne_eqb i x q, and-false (of_block K O e i)) (or-false _ ∙ ap (λ (b : Bool). t x || (of_block K O e x && b)) (low (dec_lt x i)))
        where
          low : Dec (x < i) → ltb x i ≡ ltb x (i + 1)
          low (yes h) = lt-ltb x i h ∙ sym (lt-ltb x (i + 1) (omega arith))
          low (no h) = le-ltb x i (omega arith) ∙ sym (le-ltb x (i + 1) (omega (arith, q)))

  pub block_all : {base part : List ℕ} {n c : ℕ} (t : ℕ → Bool) (i : ℕ) → n ≤ i → Ordered K n base (λ x. t x || up_to i x) part c → Ordered K n base (λ x. t x || of_block K O e x) part c
  block_all t i h Q = Ordered-same (λ x. t x || up_to i x) (λ x. t x || of_block K O e x) (λ x l. rw (lt-ltb x i (omega arith)) (ap (λ (b : Bool). t x || b) (and_yes (of_block K O e x)))) Q

-- ---- the arrow block of a neighbour
module _ (K O : List ℕ) (f j : ℕ) where
  pub disturbing_none : (get_or K j 0 ≡ 1 → ⊥) → (x : ℕ) → in_disturbing K O f j x ≡ false
  unfolding in_disturbing
  disturbing_none h x = rw (ne_eqb (get_or K j 0) 1 h)

  pub disturbing_own : get_or O j 0 ≡ f → (x : ℕ) → in_disturbing K O f j x ≡ false
  unfolding in_disturbing
  disturbing_own h x = rw (eq-eqb (get_or O j 0) f h) (by (eqb (get_or K j 0) 1))
    where
      by : (b : Bool) → (b && false && of_block K O (get_or O j 0) x) ≡ false
      by true = refl
      by false = refl

  -- what is said of a cell of a disturbing block
  disturbing_says : (x : ℕ) → So (in_disturbing K O f j x) → (get_or K x 0 ≡ 1) × (get_or O x 0 ≡ get_or O j 0)
  unfolding in_disturbing
  disturbing_says x h =
      let a = and-true (eqb (get_or K j 0) 1 && not (eqb (get_or O j 0) f)) _ h in
      let b = and-true (eqb (get_or K x 0) 1) _ a.1 in
      (eqb-true (get_or K x 0) 1 b.0, eqb-true (get_or O x 0) (get_or O j 0) b.1)

  pub disturbing_old : {base part : List ℕ} {n c : ℕ} (t : ℕ → Bool) → Whole K O t → get_or K j 0 ≡ 1 → t j ≡ true → Ordered K n base t part c → Ordered K n base (λ x. t x || in_disturbing K O f j x) part c
  disturbing_old t whole k s Q = Ordered-same t (λ x. t x || in_disturbing K O f j x) (λ x _. by x (split (in_disturbing K O f j x))) Q
    where
      by : (x : ℕ) → (in_disturbing K O f j x ≡ true) ⊎ (in_disturbing K O f j x ≡ false) → t x ≡ (t x || in_disturbing K O f j x)
      by x (inl h) = let q = disturbing_says x h in rw (whole j x s k q.0 (sym q.1))
      by x (inr h) = rw h (sym (or-false (t x)))

  pub disturbing_new : {base part : List ℕ} {n c : ℕ} (t : ℕ → Bool) → get_or K j 0 ≡ 1 → (get_or O j 0 ≡ f → ⊥) → Ordered K n base (λ x. t x || of_block K O (get_or O j 0) x) part c → Ordered K n base (λ x. t x || in_disturbing K O f j x) part c
  unfolding in_disturbing
  disturbing_new t k ne Q = Ordered-same (λ x. t x || of_block K O (get_or O j 0) x) (λ x. t x || in_disturbing K O f j x) (λ x _. rw (k, ne_eqb (get_or O j 0) f ne)) Q

  -- it comes whole
  disturbing_whole : (a b : ℕ) → So (in_disturbing K O f j a) → get_or K b 0 ≡ 1 → get_or O a 0 ≡ get_or O b 0 → So (in_disturbing K O f j b)
  unfolding in_disturbing
  disturbing_whole a b h k o =
      let q = disturbing_says a h in
      let r = and-true (eqb (get_or K j 0) 1 && not (eqb (get_or O j 0) f)) _ h in
      and_from _ _ r.0 (and_from _ _ (eq-eqb (get_or K b 0) 1 k) (eq-eqb (get_or O b 0) (get_or O j 0) (sym o ∙ q.1)))

-- ---- the arrow blocks of neighbours in turn
module _ (K O : List ℕ) (f : ℕ) where
  -- a cell of one of the arrow blocks of the cells js other than f
  abbrev pub in_disturbing_among : List ℕ → ℕ → Bool
  in_disturbing_among js x = any (λ j. in_disturbing K O f j x) js

  disturbing_among_whole : (js : List ℕ) (a b : ℕ) → So (in_disturbing_among js a) → get_or K b 0 ≡ 1 → get_or O a 0 ≡ get_or O b 0 → So (in_disturbing_among js b)
  disturbing_among_whole js a b h k o = let r = any-mem (λ j. in_disturbing K O f j a) js h in mem-any (λ j. in_disturbing K O f j b) js r.1 (disturbing_whole K O f r.0 a b r.2 k o)

  pub Whole-disturbing : (t : ℕ → Bool) (js : List ℕ) → Whole K O t → Whole K O (λ x. t x || in_disturbing_among js x)
  Whole-disturbing t js whole a b s ka kb o = by (or-So {a = t a} s)
    where
      by : So (t a) ⊎ So (in_disturbing_among js a) → So (t b || in_disturbing_among js b)
      by (inl h) = So-orl (in_disturbing_among js b) (whole a b h ka kb o)
      by (inr h) = So-orr (t b) (disturbing_among_whole js a b h kb o)

  pub disturbing_among_none : (x : ℕ) → in_disturbing_among [] x ≡ false
  disturbing_among_none x = refl

  pub disturbing_among_more : {base part : List ℕ} {n c : ℕ} (t : ℕ → Bool) (js : List ℕ) (j : ℕ) → Ordered K n base (λ x. (t x || in_disturbing_among js x) || in_disturbing K O f j x) part c → Ordered K n base (λ x. t x || in_disturbing_among (js ++ (j ∷ [])) x) part c
  disturbing_among_more t js j Q = Ordered-same (λ x. (t x || in_disturbing_among js x) || in_disturbing K O f j x) (λ x. t x || in_disturbing_among (js ++ (j ∷ [])) x)
      (λ x _. or_assoc (t x) (in_disturbing_among js x) (in_disturbing K O f j x) ∙ ap (λ (b : Bool). t x || b) (ap (λ (b : Bool). in_disturbing_among js x || b) (sym (or-false (in_disturbing K O f j x))) ∙ sym (any-append (λ k. in_disturbing K O f k x) js (j ∷ [])))) Q

-- ---- whether a neighbour is marked
module _ (marks : List ℕ) where
  pub touch_none : any (λ j. eqb (get_or marks j 0) 1) [] ≡ false
  touch_none = refl

  pub touch_more : (js : List ℕ) (j : ℕ) → any (λ k. eqb (get_or marks k 0) 1) js ≡ false → (get_or marks j 0 ≡ 1 → ⊥) → any (λ k. eqb (get_or marks k 0) 1) (js ++ (j ∷ [])) ≡ false
  touch_more js j e h = none_more (λ k. eqb (get_or marks k 0) 1) js j e (ne_eqb (get_or marks j 0) 1 h)

  pub touch_hit : (g : Grid) (i j : ℕ) → Memᴰ j (neighbours g i) → get_or marks j 0 ≡ 1 → true ≡ touched marks g i
  unfolding touched
  touch_hit g i j m e = sym (mem-any (λ k. eqb (get_or marks k 0) 1) (neighbours g i) m (eq-eqb (get_or marks j 0) 1 e))

  pub touch_end : (g : Grid) (i : ℕ) → any (λ k. eqb (get_or marks k 0) 1) (neighbours g i) ≡ false → false ≡ touched marks g i
  unfolding touched
  touch_end g i e = sym e

-- ---- what a cell brings
module _ (cells K O marks : List ℕ) (g : Grid) (f i : ℕ) where
  -- nothing
  pub adds_untouched : touched marks g i ≡ false → (x : ℕ) → adds cells K O marks g f i x ≡ false
  unfolding adds
  adds_untouched h x = rw h (by (eqb (get_or K i 0) 0) (eqb (get_or cells i 0) 2))
    where
      by : (a b : Bool) → cond a (false && eqb i x) (b && false && any (λ j. in_disturbing K O f j x) (neighbours g i)) ≡ false
      by true b = refl
      by false true = refl
      by false false = refl

  pub adds_decided : (get_or K i 0 ≡ 0 → ⊥) → (get_or cells i 0 ≡ 2 → ⊥) → (x : ℕ) → adds cells K O marks g f i x ≡ false
  unfolding adds
  adds_decided k h x = rw (ne_eqb (get_or K i 0) 0 k, ne_eqb (get_or cells i 0) 2 h)

  -- itself
  pub adds_itself : {base part part' : List ℕ} {n c r : ℕ} (t : ℕ → Bool) → get_or K i 0 ≡ 0 → touched marks g i ≡ true → i < n → Ordered K n base t part c → Inserted part c (word (i, 0)) r part'
      → Ordered K n base (λ x. t x || adds cells K O marks g f i x) part' r
  unfolding adds lit_at word
  adds_itself t k h l Q I =
      let lit : word (i, 0) ≡ lit_at K i = rw k (omega arith) in
      Ordered-same (λ x. t x || eqb i x) (λ x. t x || adds cells K O marks g f i x) (λ x _. rw (k, h))
      (Ordered-insert Q i (word (i, 0)) l (ap key lit ∙ key_lit K i (omega (arith, Q.small))) lit I)

  -- the other arrow blocks beside it
  pub adds_disturbing : {base part : List ℕ} {n c : ℕ} (t : ℕ → Bool) → (get_or K i 0 ≡ 0 → ⊥) → get_or cells i 0 ≡ 2 → touched marks g i ≡ true → Ordered K n base (λ x. t x || any (λ j. in_disturbing K O f j x) (neighbours g i)) part c
      → Ordered K n base (λ x. t x || adds cells K O marks g f i x) part c
  unfolding adds
  adds_disturbing t k e h Q = Ordered-same (λ x. t x || any (λ j. in_disturbing K O f j x) (neighbours g i)) (λ x. t x || adds cells K O marks g f i x) (λ x _. rw (ne_eqb (get_or K i 0) 0 k, e, h)) Q

  adds_whole : (a b : ℕ) → So (adds cells K O marks g f i a) → get_or K a 0 ≡ 1 → get_or K b 0 ≡ 1 → get_or O a 0 ≡ get_or O b 0 → So (adds cells K O marks g f i b)
  unfolding adds
  adds_whole a b s ka kb o = by (ℕ_discrete (get_or K i 0) 0)
    where
      by : Dec (get_or K i 0 ≡ 0) → So (adds cells K O marks g f i b)
      by (yes k) =
          let h : So (touched marks g i && eqb i a) = rw k at s in
          let q : i ≡ a = eqb-true i a (and-true (touched marks g i) _ h).1 in
          absurd (omega (arith, ap (λ (y : ℕ). get_or K y 0) q, k, ka))
      by (no k) =
          let h : So (eqb (get_or cells i 0) 2 && touched marks g i && any (λ j. in_disturbing K O f j a) (neighbours g i)) = rw (ne_eqb (get_or K i 0) 0 k) at s in
          let r = and-true (eqb (get_or cells i 0) 2 && touched marks g i) _ h in
          rw (ne_eqb (get_or K i 0) 0 k) (and_from _ _ r.0 (disturbing_among_whole K O f (neighbours g i) a b r.1 kb o))

-- ---- the cells in row order

module _ (cells K O marks : List ℕ) (g : Grid) (f : ℕ) where
  pub among_Whole : (k : ℕ) → Whole K O (adds_among cells K O marks g f k)
  unfolding adds_among
  among_Whole k a b s ka kb o = let r = any-mem (λ i. adds cells K O marks g f i a) (upto k) s in mem-any (λ i. adds cells K O marks g f i b) (upto k) r.1 (adds_whole cells K O marks g f r.0 a b r.2 ka kb o)

  filter_none : (l : List ℕ) → filter (λ x. false) l ≡ []
  filter_none [] = refl
  filter_none (x ∷ l) = filter_none l

  pub fence_none : (n : ℕ) (part : List ℕ) → n ≤ 1024 → n < length part → Ordered K n part (adds_among cells K O marks g f 0) part 0
  unfolding adds_among upto range
  fence_none n part s h = record { list = rw (filter_none (range 0 n)); number = rw (filter_none (range 0 n)); rest = refl; long = refl; room = h; small = s }

  pub fence_more : {base part : List ℕ} {n c : ℕ} (i : ℕ) → Ordered K n base (λ x. adds_among cells K O marks g f i x || adds cells K O marks g f i x) part c → Ordered K n base (adds_among cells K O marks g f (i + 1)) part c
  unfolding adds_among
  fence_more i Q = Ordered-same (λ x. adds_among cells K O marks g f i x || adds cells K O marks g f i x) (adds_among cells K O marks g f (i + 1)) (λ x _. sym (any_more (λ j. adds cells K O marks g f j x) i)) Q
