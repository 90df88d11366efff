-- What the boards that a search gathers tell of a cell.
-- Assumes nothing.
use Prim.Native.Nat.{ℕ, ◌≤◌, ◌<◌}
use native.Mathlib.Omega.{arith}
use native.Mathlib.Decide.{ℕ_discrete}
use mathlib.Core.Logic.{◌⊎◌, inl, inr, ◌↔◌}
use mathlib.Core.Path.{◌≡◌, refl, sym, ap, ap₂, ◌∙◌}
use mathlib.Core.Bool.{Bool, true, false, cond, ◌||◌}
use mathlib.Core.List.{List, [], ◌∷◌, ◌++◌, Memᴰ}
use lib.Dec.{eqb}
use lib.ListN.{get_or, take}
use lib.Seq.{get_or-take}
use borrow.Author.Tests.{eqb-true, eq-eqb}
use Rattle.grid.specs.Lists.{any}
use Rattle.grid.proofs.ListLaws.{split, any-mem, mem-any}
use Rattle.grid.proofs.AppendLaws.{any-append}
use Rattle.grid.proofs.FilledLaws.{filled_at, filled_past, filled_is}
use Rattle.certain.specs.Facts.{seen, fact_of, facts_in}
use Rattle.certain.specs.Inside.{joined_of, Noted}
use Rattle.certain.specs.Meaning.{Some, Sometimes, Always}

-- a value that is seen at a cell is that of some board
seen_board : (v : ℕ) (boards : List (List ℕ)) (i : ℕ) → seen v boards i ≡ true → (b : List ℕ) × Memᴰ b boards × (get_or b i 0 ≡ v)
unfolding seen
seen_board v boards i t =
    let w = any-mem (λ (full : List ℕ). eqb (get_or full i 0) v) boards t in
    (w.0, w.1, eqb-true (get_or w.0 i 0) v w.2)

board_seen : (v : ℕ) (boards : List (List ℕ)) (i : ℕ) (b : List ℕ) → Memᴰ b boards → get_or b i 0 ≡ v → seen v boards i ≡ true
unfolding seen
board_seen v boards i b m e = mem-any (λ (full : List ℕ). eqb (get_or full i 0) v) boards m (eq-eqb (get_or b i 0) v e)

-- what two tests tell of a cell: is it square in some board, and empty in some board
abbrev told : Bool → Bool → ℕ
told s e = cond s (cond e 2 1) (cond e 0 3)

fact_by : (boards : List (List ℕ)) (i : ℕ) (s e : Bool) → seen 1 boards i ≡ s → seen 0 boards i ≡ e → fact_of boards i ≡ told s e
unfolding fact_of
fact_by boards i s e p q = rw (p, q) refl

-- ---- one more board

told_more : (s e : Bool) (v : ℕ) → v ≤ 1 → told (s || (eqb v 1 || false)) (e || (eqb v 0 || false)) ≡ joined_of (told s e) v
unfolding joined_of
told_more s e v h = go s e (ℕ_discrete v 0)
  where
    zeros : (s e : Bool) → told (s || (eqb 0 1 || false)) (e || (eqb 0 0 || false)) ≡ cond (eqb (told s e) 3) 0 (cond (eqb (told s e) 0) (told s e) 2)
    zeros true true = refl
    zeros true false = refl
    zeros false true = refl
    zeros false false = refl

    ones : (s e : Bool) → told (s || (eqb 1 1 || false)) (e || (eqb 1 0 || false)) ≡ cond (eqb (told s e) 3) 1 (cond (eqb (told s e) 1) (told s e) 2)
    ones true true = refl
    ones true false = refl
    ones false true = refl
    ones false false = refl

    go : (s e : Bool) → Dec (v ≡ 0) → told (s || (eqb v 1 || false)) (e || (eqb v 0 || false)) ≡ cond (eqb (told s e) 3) v (cond (eqb (told s e) v) (told s e) 2)
    go s e (yes z) = rw z (zeros s e)
    go s e (no z) = let o : v ≡ 1 = omega (arith, z) in rw o (ones s e)

seen_more : (v : ℕ) (boards : List (List ℕ)) (b : List ℕ) (i : ℕ) → seen v (boards ++ (b ∷ [])) i ≡ (seen v boards i || (eqb (get_or b i 0) v || false))
unfolding seen
seen_more v boards b i = any-append (λ (full : List ℕ). eqb (get_or full i 0) v) boards (b ∷ [])

fact_more : (boards : List (List ℕ)) (b : List ℕ) (i : ℕ) → get_or b i 0 ≤ 1 → fact_of (boards ++ (b ∷ [])) i ≡ joined_of (fact_of boards i) (get_or b i 0)
fact_more boards b i h =
    fact_by (boards ++ (b ∷ [])) i (seen 1 boards i || (eqb (get_or b i 0) 1 || false)) (seen 0 boards i || (eqb (get_or b i 0) 0 || false)) (seen_more 1 boards b i) (seen_more 0 boards b i)
    ∙ told_more (seen 1 boards i) (seen 0 boards i) (get_or b i 0) h
    ∙ ap (λ (k : ℕ). joined_of k (get_or b i 0)) (sym (fact_by boards i (seen 1 boards i) (seen 0 boards i) refl refl))

-- joined to what is known of n cells, it is one of the boards
pub Noted-more : (n : ℕ) {cells before after : List ℕ} → n ≤ 1024 → Noted n cells before after → ((i : ℕ) → i < n → get_or cells i 0 ≤ 1)
    → (boards : List (List ℕ)) → before ≡ facts_in n boards → after ≡ facts_in n (boards ++ (take n cells ∷ []))
unfolding facts_in
Noted-more n {cells} {before} {after} few x low boards e =
    filled_is 3 (fact_of (boards ++ (take n cells ∷ []))) n after few x.long
    (λ i l. x.each i l ∙ ap₂ joined_of (ap (λ (z : List ℕ). get_or z i 0) e ∙ filled_at 3 (fact_of boards) n i l) (sym (get_or-take n cells i 0 l))
    ∙ sym (fact_more boards (take n cells) i (rw (get_or-take n cells i 0 l) (low i l))))
    (λ i h l. x.behind i h ∙ ap (λ (z : List ℕ). get_or z i 0) e ∙ filled_past 3 (fact_of boards) n i h l)

-- ---- no board

pub fact_none : (i : ℕ) → fact_of [] i ≡ 3
unfolding fact_of seen
fact_none i = refl

-- where nothing is known of a cell there is no board
pub no_boards : (boards : List (List ℕ)) (i : ℕ) → ((b : List ℕ) → Memᴰ b boards → get_or b i 0 ≤ 1) → fact_of boards i ≡ 3 → boards ≡ []
no_boards [] i low e = refl
no_boards (b ∷ bs) i low e = absurd (go (ℕ_discrete (get_or b i 0) 1) (split (seen 1 (b ∷ bs) i)) (split (seen 0 (b ∷ bs) i)))
  where
    here : Memᴰ b (b ∷ bs)
    here = Memᴰ.head refl

    apart : {t : Bool} → t ≡ true → t ≡ false → ⊥
    apart p q = let z : ◌≡◌ {A = Bool} true false = cc in let y : ◌≡◌ {A = ℕ} 0 1 = cc in omega arith

    go : Dec (get_or b i 0 ≡ 1) → (seen 1 (b ∷ bs) i ≡ true) ⊎ (seen 1 (b ∷ bs) i ≡ false) → (seen 0 (b ∷ bs) i ≡ true) ⊎ (seen 0 (b ∷ bs) i ≡ false) → ⊥
    go d (inl p) (inl q) = omega (arith, e, fact_by (b ∷ bs) i true true p q)
    go d (inl p) (inr q) = omega (arith, e, fact_by (b ∷ bs) i true false p q)
    go d (inr p) (inl q) = omega (arith, e, fact_by (b ∷ bs) i false true p q)
    go (yes z) (inr p) (inr q) = apart (board_seen 1 (b ∷ bs) i b here z) p
    go (no z) (inr p) (inr q) = apart (board_seen 0 (b ∷ bs) i b here (omega (arith, z, low b here))) q

-- ---- boards that are gathered, and those that are meant: the same

module _ (n : ℕ) (boards : List (List ℕ)) (S : List ℕ → Type 0) (to : (b : List ℕ) → Memᴰ b boards → S b) (from : (b : List ℕ) → S b → Memᴰ b boards)
    (low : (b : List ℕ) → S b → (i : ℕ) → i < n → get_or b i 0 ≤ 1) where
  seen-Sometimes : (v i : ℕ) → (seen v boards i ≡ true) ↔ Sometimes S i v
  seen-Sometimes v i = (
    λ t. let w = seen_board v boards i t in (w.0, to w.0 w.1, w.2),
    λ w. board_seen v boards i w.0 (from w.0 w.1) w.2,
  )

  clash : {b : Bool} → b ≡ true → b ≡ false → ⊥
  clash p q = let z : ◌≡◌ {A = Bool} true false = cc in bad z
    where
      bad : true ≡ false → ⊥
      bad e = let z : ◌≡◌ {A = ℕ} 0 1 = cc in omega arith

  -- a cell, where there is some board
  module _ (some_board : Some S) (i : ℕ) (l : i < n) where
    abbrev Split : ℕ → Type 0
    Split v = (seen v boards i ≡ true) ⊎ (seen v boards i ≡ false)

    -- every board has the other value
    only : (v w : ℕ) → seen v boards i ≡ false → (b : List ℕ) → S b → ((get_or b i 0 ≡ v → ⊥) → get_or b i 0 ≡ w) → get_or b i 0 ≡ w
    only v w p b s k = k (λ z. clash (board_seen v boards i b (from b s) z) p)

    pub fact_square : (fact_of boards i ≡ 1) ↔ (Some S × Always S i 1)
    fact_square = (λ e. (some_board, λ b s. there e b s (split (seen 1 boards i)) (split (seen 0 boards i))), λ w. back w.1 (split (seen 0 boards i)))
      where
        there : fact_of boards i ≡ 1 → (b : List ℕ) → S b → Split 1 → Split 0 → get_or b i 0 ≡ 1
        there e b s (inl p) (inl q) = absurd (omega (arith, e, fact_by boards i true true p q))
        there e b s (inl p) (inr q) = only 0 1 q b s (λ z. omega (arith, z, low b s i l))
        there e b s (inr p) (inl q) = absurd (omega (arith, e, fact_by boards i false true p q))
        there e b s (inr p) (inr q) = absurd (omega (arith, e, fact_by boards i false false p q))

        back : Always S i 1 → Split 0 → fact_of boards i ≡ 1
        back a (inl q) = let w = (seen-Sometimes 0 i).0 q in absurd (omega (arith, a w.0 w.1, w.2))
        back a (inr q) = fact_by boards i true false ((seen-Sometimes 1 i).1 (some_board.0, some_board.1, a some_board.0 some_board.1)) q

    pub fact_empty : (fact_of boards i ≡ 0) ↔ (Some S × Always S i 0)
    fact_empty = (λ e. (some_board, λ b s. there e b s (split (seen 1 boards i)) (split (seen 0 boards i))), λ w. back w.1 (split (seen 1 boards i)))
      where
        there : fact_of boards i ≡ 0 → (b : List ℕ) → S b → Split 1 → Split 0 → get_or b i 0 ≡ 0
        there e b s (inl p) (inl q) = absurd (omega (arith, e, fact_by boards i true true p q))
        there e b s (inl p) (inr q) = absurd (omega (arith, e, fact_by boards i true false p q))
        there e b s (inr p) (inl q) = only 1 0 p b s (λ z. omega (arith, z, low b s i l))
        there e b s (inr p) (inr q) = absurd (omega (arith, e, fact_by boards i false false p q))

        back : Always S i 0 → Split 1 → fact_of boards i ≡ 0
        back a (inl p) = let w = (seen-Sometimes 1 i).0 p in absurd (omega (arith, a w.0 w.1, w.2))
        back a (inr p) = fact_by boards i false true p ((seen-Sometimes 0 i).1 (some_board.0, some_board.1, a some_board.0 some_board.1))

    pub fact_open : (fact_of boards i ≡ 2) ↔ (Sometimes S i 1 × Sometimes S i 0)
    fact_open = (λ e. there e (split (seen 1 boards i)) (split (seen 0 boards i)), λ w. fact_by boards i true true ((seen-Sometimes 1 i).1 w.0) ((seen-Sometimes 0 i).1 w.1))
      where
        there : fact_of boards i ≡ 2 → Split 1 → Split 0 → Sometimes S i 1 × Sometimes S i 0
        there e (inl p) (inl q) = ((seen-Sometimes 1 i).0 p, (seen-Sometimes 0 i).0 q)
        there e (inl p) (inr q) = absurd (omega (arith, e, fact_by boards i true false p q))
        there e (inr p) (inl q) = absurd (omega (arith, e, fact_by boards i false true p q))
        there e (inr p) (inr q) = absurd (omega (arith, e, fact_by boards i false false p q))
