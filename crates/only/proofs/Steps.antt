-- The steps of a certificate that close: each clause holds on every finished board on which those before it hold. So the clause of no literals is reached only where there is no such board.
-- Assumes nothing.
use Prim.Native.Nat.{ℕ, ◌+◌, ◌-◌, ◌<◌, ◌≤◌}
use native.Mathlib.Omega.{arith}
use native.Mathlib.Decide.{ℕ_discrete, dec_lt}
use mathlib.Core.Logic.{◌⊎◌, inl, inr}
use mathlib.Core.Path.{◌≡◌, refl, sym, ◌∙◌, ap}
use mathlib.Core.Bool.{Bool, true, false, cond, ◌&&◌, ◌||◌, false≢true, So}
use mathlib.Core.List.{List, [], ◌∷◌, map, Memᴰ}
use mathlib.Core.Option.{none, some}
use lib.Dec.{eqb, ltb, leb}
use lib.ListN.{length, get_or, take, drop, get_or-eq_default, length-drop}
use lib.Seq.{length-take-le, get_or-take, get_or-drop}
use borrow.Author.Tests.{eq-eqb, ne_eqb, ltb-true, le-leb, leb-true, eqb-true, not-true}
use Rattle.grid.specs.Lists.{upto, all, filter, array_of}
use Rattle.grid.specs.Grid.{size}
use Rattle.grid.specs.Cells.{Literal, empty, square, potential}
use Rattle.grid.proofs.ListLaws.{split, and-true, mem-all, at_mem}
use Rattle.grid.proofs.FilledLaws.{filled_length, filled_at, filled_past}
use Rattle.record.specs.Leaf.{Leaf}
use Rattle.record.proofs.LeafLaws.{ValidLeaf}
use Rattle.record.proofs.RecordLaws.{Valid-size}
use Rattle.record.proofs.LineLaws.{valid_arrows}
use Rattle.kinds.specs.Meaning.{Setting}
use Rattle.literals.specs.Literals.{Found}
use Rattle.reasons.specs.Reasons.{find_reason}
use Rattle.reasons.proofs.Sound.{sound}
use Rattle.reasons.proofs.Stands.{find_Stands}
use Rattle.finished.specs.Finished.{Finished, two_squares}
use Rattle.finished.proofs.FinishedLaws.{two_test}
use Rattle.certificate.specs.Certificate.{tag, width, clause_at, middle, hints_at, next, earlier, State, assume_from, follow_from}
use Rattle.unique.specs.Unique.{base_cell, base_of, two_open, lonely, has_reason, refuted, close_of}
use Rattle.unique.proofs.StepLaws.{Step, Step-is}
use Rattle.only.specs.Good.{Closes, last_step, one_step}
use Rattle.only.proofs.Under.{TrueOn, Under, Followed, holds_nil, holds_Dec, assume_Under, assumed_literal, follow_Under, followed_earlier}

-- a member of a part, by its place in the whole
pub part_mem : (ws : List ℕ) (a k j : ℕ) → j < k → a + k ≤ length ws → Memᴰ (get_or ws (a + j) 0) (take k (drop a ws))
part_mem ws a k j lt h =
    let e : get_or (take k (drop a ws)) j 0 ≡ get_or ws (a + j) 0 = get_or-take k (drop a ws) j 0 lt ∙ get_or-drop a ws j 0 in
    let m = at_mem (take k (drop a ws)) j (omega (arith, length-take-le k (drop a ws) (omega (arith, length-drop a ws)))) in
    rw e at m

module _ (l : Leaf) (valid : ValidLeaf l) (full : List ℕ) (fin : Finished l full) where
  abbrev n : ℕ
  n = size l.puzzle.grid

  pub low : (i : ℕ) → get_or full i 0 ≤ 1
  low i = go (dec_lt i n)
    where
      go : Dec (i < n) → get_or full i 0 ≤ 1
      go (yes h) = fin.decided.each i h
      go (no h) = rw (get_or-eq_default full 0 {n = i} (omega (arith, fin.decided.long))) (omega arith)

  few : n ≤ 1024
  few = Valid-size valid.puzzle

  -- ---- cells under a finished board are not refuted

  module _ (cells : List ℕ) (under : Under full low cells) where
    -- a square of the full board is not empty
    square-potential : (c : ℕ) → square full c ≡ true → potential cells c ≡ true
    unfolding square potential empty
    square-potential c t = rw (ne_eqb (get_or cells c 0) 0 (λ z. omega (arith, under.agree c (λ q. omega arith), eqb-true (get_or full c 0) 1 t))) refl

    -- an arrow has as many cells that are not empty as it has squares there, or more
    open_more : (a : List ℕ) → length (filter (square full) a) ≤ length (filter (potential cells) a)
    open_more [] = omega arith
    open_more (c ∷ cs) = go (split (square full c)) (potential cells c) refl (open_more cs)
      where
        go : (square full c ≡ true) ⊎ (square full c ≡ false) → (b : Bool) → potential cells c ≡ b → length (filter (square full) cs) ≤ length (filter (potential cells) cs)
            → length (cond (square full c) (c ∷ filter (square full) cs) (filter (square full) cs)) ≤ length (cond b (c ∷ filter (potential cells) cs) (filter (potential cells) cs))
        go (inl t) true p h = rw t (omega arith)
        go (inl t) false p h = absurd (false≢true (sym p ∙ square-potential c t))
        go (inr t) true p h = rw t (omega arith)
        go (inr t) false p h = rw t h

    -- no arrow is lonely
    lonely_never : lonely l.puzzle.arrows cells ≡ true → ⊥
    unfolding lonely two_open two_squares
    lonely_never t = false≢true (sym (not-true (all (two_open cells) l.puzzle.arrows) t) ∙ mem-all (two_open cells) l.puzzle.arrows each)
      where
        each : (a : List ℕ) → Memᴰ a l.puzzle.arrows → So (two_open cells a)
        each a m =
            le-leb 2 (length (filter (potential cells) a))
            (omega (arith, leb-true 2 (length (filter (square full) a)) (two_test full a (fin.two a m)), open_more a))

    long : length (take n cells) ≡ n
    long = length-take-le n cells (omega (arith, under.long, few))

    three : (i : ℕ) → get_or (take n cells) i 0 ≤ 2
    three i = go (dec_lt i n)
      where
        go : Dec (i < n) → get_or (take n cells) i 0 ≤ 2
        go (yes h) = rw (get_or-take n cells i 0 h) (under.three i)
        go (no h) = rw (get_or-eq_default (take n cells) 0 {n = i} (omega (arith, long))) (omega arith)

    setting : Setting
    setting = record { puzzle = l.puzzle; lines = valid_arrows l.puzzle valid.puzzle; cells = take n cells; valid = record { long = long; three = three } }

    -- there is no reason
    no_reason : (r : List Literal) → find_reason l (take n cells) ≡ some r → ⊥
    unfolding setting
    no_reason r e =
        sound l.edition l.sizes setting valid.sizes r e full fin.decided.long
        (λ i v m. let s = find_Stands setting l.edition l.sizes r e i v m in
        let same : get_or cells i 0 ≡ v = sym (get_or-take n cells i 0 s.0) ∙ s.2 in
        under.agree i (λ z. omega (arith, s.1)) ∙ same)
        fin.rules

    never_refuted : refuted l cells ≡ true → ⊥
    unfolding refuted has_reason
    never_refuted t = go (split (lonely l.puzzle.arrows cells)) (find_reason l (take n cells)) refl t
      where
        go : (lonely l.puzzle.arrows cells ≡ true) ⊎ (lonely l.puzzle.arrows cells ≡ false) → (f : Found) → find_reason l (take n cells) ≡ f → (lonely l.puzzle.arrows cells || has_reason f) ≡ true → ⊥
        go (inl a) f e x = lonely_never a
        go (inr a) none e x = false≢true (rw a at x)
        go (inr a) (some r) e x = no_reason r e

  -- the cells that the leaf decides are so on every finished board
  base_Under : Under full low (base_of l)
  unfolding base_of base_cell
  base_Under = record {
    long = long;
    three = λ i. three i (dec_lt i n) (dec_lt i 1024);
    agree = λ i. agree i (dec_lt i n) (dec_lt i 1024);
  }
    where
      F : ℕ → ℕ
      F i = base_cell (get_or l.puzzle.given i 0)

      long : length (array_of 2 (map F (upto n))) ≡ 1024
      long = filled_length 2 F n few

      small : (c : ℕ) → base_cell c ≤ 2
      small c = go (eqb c 1) (eqb c 2)
        where
          go : (a b : Bool) → cond a 0 (cond b 1 2) ≤ 2
          go true b = omega arith
          go false true = omega arith
          go false false = omega arith

      three : (i : ℕ) → Dec (i < n) → Dec (i < 1024) → get_or (array_of 2 (map F (upto n))) i 0 ≤ 2
      three i (yes h) d = rw (filled_at 2 F n i h) (small (get_or l.puzzle.given i 0))
      three i (no h) (yes k) = rw (filled_past 2 F n i (omega arith) k) (omega arith)
      three i (no h) (no k) = rw (get_or-eq_default (array_of 2 (map F (upto n))) 0 {n = i} (omega (arith, long))) (omega arith)

      coded : (i : ℕ) → i < n → (base_cell (get_or l.puzzle.given i 0) ≡ 2 → ⊥) → get_or full i 0 ≡ base_cell (get_or l.puzzle.given i 0)
      coded i h f = go (ℕ_discrete (get_or l.puzzle.given i 0) 1) (ℕ_discrete (get_or l.puzzle.given i 0) 2) f
        where
          go : Dec (get_or l.puzzle.given i 0 ≡ 1) → Dec (get_or l.puzzle.given i 0 ≡ 2) → (base_cell (get_or l.puzzle.given i 0) ≡ 2 → ⊥)
              → get_or full i 0 ≡ cond (eqb (get_or l.puzzle.given i 0) 1) 0 (cond (eqb (get_or l.puzzle.given i 0) 2) 1 2)
          go (yes e) d f = rw (eq-eqb _ _ e) (fin.kept.black i h e)
          go (no a) (yes e) f = rw (ne_eqb _ _ a, eq-eqb _ _ e) (fin.kept.given i h e)
          go (no a) (no b) f = absurd (f (rw (ne_eqb _ _ a, ne_eqb _ _ b) refl))

      agree : (i : ℕ) → Dec (i < n) → Dec (i < 1024) → (get_or (array_of 2 (map F (upto n))) i 0 ≡ 2 → ⊥) → get_or full i 0 ≡ get_or (array_of 2 (map F (upto n))) i 0
      agree i (yes h) d f = rw (filled_at 2 F n i h) (coded i h (λ z. f (filled_at 2 F n i h ∙ z)))
      agree i (no h) (yes k) f = absurd (f (filled_past 2 F n i (omega arith) k))
      agree i (no h) (no k) f = get_or-eq_default full 0 {n = i} (omega (arith, fin.decided.long)) ∙ sym (get_or-eq_default (array_of 2 (map F (upto n))) 0 {n = i} (omega (arith, long)))

  -- ---- a step

  -- hints that hold, on cells under the full board, do not close a step
  close_never : (s : State) → Followed full low s → close_of l s ≡ 0 → ⊥
  unfolding close_of
  close_never s f e = go (ℕ_discrete s.0 1) (ℕ_discrete s.0 0) (split (refuted l s.1)) e
    where
      go : Dec (s.0 ≡ 1) → Dec (s.0 ≡ 0) → (refuted l s.1 ≡ true) ⊎ (refuted l s.1 ≡ false) → cond (eqb s.0 1) 0 (cond (eqb s.0 0) (cond (refuted l s.1) 0 29) s.0) ≡ 0 → ⊥
      go (yes a) d r x = f.no_clash a
      go (no a) (no b) r x = b (rw (ne_eqb _ _ a, ne_eqb _ _ b) at x)
      go (no a) (yes b) (inr r) x = let z : ◌≡◌ {A = ℕ} 29 0 = rw (ne_eqb _ _ a, eq-eqb _ _ b, r) at x in omega arith
      go (no a) (yes b) (inl r) x = never_refuted s.1 f.under r

  -- every step before a place has a clause that holds
  abbrev pub Verified : List ℕ → ℕ → Type 0
  Verified ws at = (h : ℕ) → h < at → tag ≤ get_or ws h 0 → TrueOn full (clause_at ws h)

  module _ (ws : List ℕ) (most : length ws ≤ tag) where
    closed_low : (s : State) → close_of l s ≡ 0 → s.0 ≤ 1
    unfolding close_of
    closed_low s e = go (ℕ_discrete s.0 1) (ℕ_discrete s.0 0) e
      where
        go : Dec (s.0 ≡ 1) → Dec (s.0 ≡ 0) → cond (eqb s.0 1) 0 (cond (eqb s.0 0) (cond (refuted l s.1) 0 29) s.0) ≡ 0 → s.0 ≤ 1
        go (yes a) d x = omega arith
        go (no a) (yes b) x = omega arith
        go (no a) (no b) x = absurd (b (rw (ne_eqb _ _ a, ne_eqb _ _ b) at x))

    module _ (at : ℕ) (before : Verified ws at) (step : Step l ws at) where
      earlier_holds : (h : ℕ) → earlier ws at h ≡ true → TrueOn full (clause_at ws h)
      unfolding earlier
      earlier_holds h t =
          let a = and-true (ltb h at) (leb tag (get_or ws h 0) && leb (middle ws h) at) t in
          let b = and-true (leb tag (get_or ws h 0)) (leb (middle ws h) at) a.1 in
          before h (ltb-true h at a.0) (leb-true tag (get_or ws h 0) b.0)

      -- its clause holds where those before it hold
      step_holds : TrueOn full (clause_at ws at)
      step_holds = go (holds_Dec full low (clause_at ws at))
        where
          go : Dec (TrueOn full (clause_at ws at)) → TrueOn full (clause_at ws at)
          go (yes h) = h
          go (no f) =
              absurd
              (close_never (follow_from ws at (assume_from n (base_of l) (clause_at ws at)).1 (hints_at ws at))
              (follow_Under full low ws at earlier_holds (assume_from n (base_of l) (clause_at ws at)).1 (hints_at ws at) (assume_Under full low n (base_of l) (clause_at ws at) base_Under f))
              step.closed)

      -- and no other word of it is as large as the first word of a step
      step_next : Verified ws (next ws at)
      step_next h lt t = go (dec_lt h at) (ℕ_discrete h at) (dec_lt h (middle ws at)) (ℕ_discrete h (middle ws at))
        where
          go : Dec (h < at) → Dec (h ≡ at) → Dec (h < middle ws at) → Dec (h ≡ middle ws at) → TrueOn full (clause_at ws h)
          go (yes a) d2 d3 d4 = before h a t
          go (no a) (yes b) d3 d4 = rw b step_holds
          go (no a) (no b) (yes c) d4 =
              let j : ℕ = h - (at + 1) in
              let e : at + 1 + j ≡ h = omega arith in
              let w = part_mem ws (at + 1) (width ws at) j (omega arith) (omega (arith, step.mid)) in
              absurd (omega (arith, assumed_literal n (base_of l) (clause_at ws at) step.literals (get_or ws h 0) (rw e at w)))
          go (no a) (no b) (no c) (yes d) = absurd (omega (arith, step.end, ap (λ i. get_or ws i 0) d))
          go (no a) (no b) (no c) (no d) =
              let j : ℕ = h - (middle ws at + 1) in
              let e : middle ws at + 1 + j ≡ h = omega arith in
              let w = part_mem ws (middle ws at + 1) (get_or ws (middle ws at) 0) j (omega arith) (omega (arith, step.end)) in
              absurd (omega (arith, step.mid, followed_earlier ws at (assume_from n (base_of l) (clause_at ws at)).1 (hints_at ws at) (closed_low _ step.closed) (get_or ws h 0) (rw e at w)))

    -- steps that close come to the clause of no literals, which holds nowhere
    pub Closes-never : {at : ℕ} → Closes l ws at → Verified ws at → ⊥
    Closes-never {at} (last_step h s z e) v = nothing z (step_holds at v (Step-is l ws at s))
      where
        nothing : width ws at ≡ 0 → TrueOn full (clause_at ws at) → ⊥
        nothing z h = holds_nil full low (rw z at h)
    Closes-never {at} (one_step h s z more) v = Closes-never more (step_next at v (Step-is l ws at s))
