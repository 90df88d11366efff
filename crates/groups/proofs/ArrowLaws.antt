-- Arrow cells; the pairs of an arrow, as parts of the list and as positions.
-- Assumes nothing.
use Prim.Native.Nat.{suc, ℕ, ◌+◌, ◌<◌, ◌-◌}
use native.Mathlib.Omega.{arith}
use mathlib.Core.Logic.{◌⊎◌, inl, inr}
use mathlib.Core.Path.{◌≡◌, refl, sym, ap, ◌∙◌, subst}
use mathlib.Core.Bool.{Bool, true, false, cond, false≢true, So}
use mathlib.Core.List.Memᴰ
use mathlib.Core.List.{List, [], ◌∷◌, ◌++◌, append_assoc, append-nil, Memᴰ}
use lib.ListN.{length, get_or, take, drop, length-append, length-take, length-drop, get_or-append}
use lib.Seq.{get_or-append_seam, get_or-append-add, split_at, get_or-take, get_or-drop}
use Rattle.grid.specs.Lists.{init, tail}
use Rattle.grid.proofs.ListLaws.{Dec-So, So-false, mem_at, at_mem, length-init, length-tail, get_or-init, get_or-tail}
use Rattle.grid.specs.Cells.{square}
pub use Rattle.record.proofs.SizesLaws.{arrow_So, So-arrow}
use Rattle.groups.specs.Arrows.{OnArrow, on_arrow, Pair, pairs_from, pairs, Parted, pos_last, pos_cur}

-- a cell is an arrow cell, or it is none
pub Dec-arrow : (arrows : List (List ℕ)) (i : ℕ) → Dec (OnArrow arrows i)
Dec-arrow arrows i = go (Dec-So (on_arrow arrows i))
  where
    go : Dec (So (on_arrow arrows i)) → Dec (OnArrow arrows i)
    go (yes a) = yes (arrow_So arrows i a)
    go (no n) = no (λ a. n (So-arrow arrows i a))

module _ (cells a : List ℕ) where
  -- no square is in the list
  abbrev Clear : List ℕ → Type 0
  Clear l = (k : ℕ) → Memᴰ k l → square cells k ≡ false

  Clear-snoc : (l : List ℕ) (j : ℕ) → Clear l → square cells j ≡ false → Clear (l ++ (j ∷ []))
  Clear-snoc l j c h k m = go (Memᴰ.append_cases l m)
    where
      go : Memᴰ k l ⊎ Memᴰ k (j ∷ []) → square cells k ≡ false
      go (inl n) = c k n
      go (inr n) = ap (square cells) (Memᴰ.eq_of_singleton n) ∙ h

  from_Parted : (p : Pair) (js before passed : List ℕ) (i : ℕ) → a ≡ before ++ (i ∷ (passed ++ js)) → square cells i ≡ true → Clear passed
      → Memᴰ p (pairs_from cells i passed js) → Parted cells a p
  unfolding pairs_from
  from_Parted p [] before passed i e h c m = absurd (Memᴰ.not-nil m)
  from_Parted p (j ∷ js) before passed i e h c m =
      go (λ (t : square cells j ≡ true). from_Parted p js (before ++ (i ∷ passed)) [] j (e ∙ simp append_assoc) t (λ k n. absurd (Memᴰ.not-nil n)))
      (λ (f : square cells j ≡ false). from_Parted p js before (passed ++ (j ∷ [])) i (e ∙ simp append_assoc) h (Clear-snoc passed j c f))
      (square cells j) refl m
    where
      this : square cells j ≡ true → p ≡ record { last = i; between = passed; cur = j } → Parted cells a p
      this t q = rw q (record { before = before; behind = js; whole = e; first = h; second = t; none = c })

      go : (square cells j ≡ true → Memᴰ p (pairs_from cells j [] js) → Parted cells a p)
          → (square cells j ≡ false → Memᴰ p (pairs_from cells i (passed ++ (j ∷ [])) js) → Parted cells a p)
          → (t : Bool) → square cells j ≡ t
          → Memᴰ p (cond t (record { last = i; between = passed; cur = j } ∷ pairs_from cells j [] js) (pairs_from cells i (passed ++ (j ∷ [])) js))
          → Parted cells a p
      go u v true q (Memᴰ.head r) = this q r
      go u v true q (Memᴰ.tail n) = u q n
      go u v false q n = v q n

  rest_Parted : (p : Pair) (l before : List ℕ) → a ≡ before ++ l → Memᴰ p (pairs cells l) → Parted cells a p
  unfolding pairs
  rest_Parted p [] before e m = absurd (Memᴰ.not-nil m)
  rest_Parted p (i ∷ l) before e m =
      go (λ (n : Memᴰ p (pairs cells l)). rest_Parted p l (before ++ (i ∷ [])) (e ∙ simp append_assoc) n) (square cells i) refl m
    where
      go : (Memᴰ p (pairs cells l) → Parted cells a p) → (t : Bool) → square cells i ≡ t → Memᴰ p (cond t (pairs_from cells i [] l) (pairs cells l)) → Parted cells a p
      go v true q n = from_Parted p l before [] i e q (λ k o. absurd (Memᴰ.not-nil o)) n
      go v false q n = v n

  -- every pair is such a part
  pub pairs-Parted : (p : Pair) → Memᴰ p (pairs cells a) → Parted cells a p
  pairs-Parted p m = rest_Parted p a [] refl m

either : {p : Pair} {x y : List Pair} (t : Bool) → Memᴰ p x → Memᴰ p y → Memᴰ p (cond t x y)
either true u v = u
either false u v = v

module _ (cells : List ℕ) where
  this_pair : (i j : ℕ) (between passed behind : List ℕ) → Clear cells [] between → square cells j ≡ true
      → Memᴰ (record { last = i; between = passed ++ between; cur = j }) (pairs_from cells i passed (between ++ (j ∷ behind)))
  unfolding pairs_from
  this_pair i j [] passed behind c h = rw h (Memᴰ.head (ap (λ (l : List ℕ). record { last = i; between = l; cur = j }) (append-nil passed)))
  this_pair i j (k ∷ ks) passed behind c h =
      rw (c k (Memᴰ.head refl)) (rw (append_assoc passed (k ∷ []) ks) at
      (this_pair i j ks (passed ++ (k ∷ [])) behind (λ x m. c x (Memᴰ.tail m)) h))

  module _ (p : Pair) (i : ℕ) (rest : List ℕ) (h : square cells i ≡ true) (m : Memᴰ p (pairs_from cells i [] rest)) where
    later_from : (before passed : List ℕ) (k : ℕ) → Memᴰ p (pairs_from cells k passed (before ++ (i ∷ rest)))
    unfolding pairs_from
    later_from [] passed k = rw h (Memᴰ.tail m)
    later_from (j ∷ js) passed k = either (square cells j) (Memᴰ.tail (later_from js [] j)) (later_from js (passed ++ (j ∷ [])) k)

    later_pairs : (before : List ℕ) → Memᴰ p (pairs cells (before ++ (i ∷ rest)))
    unfolding pairs
    later_pairs [] = rw h m
    later_pairs (j ∷ js) = either (square cells j) (later_from js [] j) (later_pairs js)

  -- every such part is a pair
  pub Parted-pairs : (a : List ℕ) (p : Pair) → Parted cells a p → Memᴰ p (pairs cells a)
  Parted-pairs a p q =
      rw q.whole
      (later_pairs p p.last (p.between ++ (p.cur ∷ q.behind)) q.first (this_pair p.last p.cur p.between [] q.behind q.none q.second) q.before)

-- positions i and j of an arrow hold cells of S, and no position between them does
abbrev pub NextAt : (ℕ → Type 0) → (ℕ → ℕ) → ℕ → ℕ → Type 0
NextAt S at i j = (i < j) × S (at i) × S (at j) × ((k : ℕ) → i < k → k < j → ¬ S (at k))

module _ (cells arrow : List ℕ) (p : Pair) (q : Parted cells arrow p) where
  -- the cell at a position
  abbrev pub at : ℕ → ℕ
  at k = get_or arrow k 0

  -- the cells at the two positions, and between them
  pub at_last : at (pos_last q) ≡ p.last
  at_last = ap (λ z. get_or z (pos_last q) 0) q.whole ∙ get_or-append_seam q.before p.last _ 0

  behind : (k : ℕ) → at (suc (pos_last q + k)) ≡ get_or (p.between ++ (p.cur ∷ q.behind)) k 0
  behind k =
      let e : suc (pos_last q + k) ≡ pos_last q + suc k = omega arith in
      ap (λ z. get_or z (suc (pos_last q + k)) 0) q.whole ∙ ap (λ z. get_or (q.before ++ (p.last ∷ (p.between ++ (p.cur ∷ q.behind)))) z 0) e ∙ get_or-append-add q.before _ (suc k) 0

  pub at_cur : at (pos_cur q) ≡ p.cur
  at_cur = behind (length p.between) ∙ get_or-append_seam p.between p.cur q.behind 0

  pub at_between : (k : ℕ) → k < length p.between → at (suc (pos_last q + k)) ≡ get_or p.between k 0
  at_between k h = behind k ∙ get_or-append p.between _ 0 k h

  -- the positions lie on the arrow
  pub pos_below : pos_cur q < length arrow
  pos_below = omega (arith, ap length q.whole, length-append q.before (p.last ∷ (p.between ++ (p.cur ∷ q.behind))), length-append p.between (p.cur ∷ q.behind))

  -- the pair by its positions
  pub position : NextAt (λ c. So (square cells c)) at (pos_last q) (pos_cur q)
  position = (omega arith, subst (λ c. So (square cells c)) (sym at_last) q.first, subst (λ c. So (square cells c)) (sym at_cur) q.second, none)
    where
      none : (k : ℕ) → pos_last q < k → k < pos_cur q → ¬ So (square cells (at k))
      none k a b s =
          let m : ℕ = k - suc (pos_last q) in
          let e : k ≡ suc (pos_last q + m) = omega arith in
          let l : m < length p.between = omega arith in
          false≢true (sym (q.none (get_or p.between m 0) (at_mem p.between m l)) ∙ subst (λ c. So (square cells c)) (ap at e ∙ at_between m l) s)

  -- the gap by positions
  pub length_gap : length (tail (init p.between)) ≡ pos_cur q - (pos_last q + 3)
  length_gap = omega (arith, length-tail (init p.between), length-init p.between)

  pub at_gap : (k : ℕ) → k < length (tail (init p.between)) → at (pos_last q + 2 + k) ≡ get_or (tail (init p.between)) k 0
  at_gap k h =
      let l : suc k < length p.between - 1 = omega (arith, h, length-tail (init p.between), length-init p.between) in
      let e : pos_last q + 2 + k ≡ suc (pos_last q + suc k) = omega arith in
      ap at e ∙ at_between (suc k) (omega arith) ∙ sym (get_or-tail (init p.between) k ∙ get_or-init p.between (suc k) l)

-- an arrow, taken apart at a pair of positions
module _ (S : ℕ → Type 0) (arrow : List ℕ) (i j : ℕ) (jl : j < length arrow) (pr : NextAt S (λ k. get_or arrow k 0) i j) where
  -- the cells behind position i
  abbrev rest : List ℕ
  rest = drop (suc i) arrow

  -- how many cells lie between
  abbrev gap_len : ℕ
  gap_len = j - suc i

  -- the cells between
  abbrev pub mid : List ℕ
  mid = take gap_len rest

  -- the cells behind position j
  abbrev pub tip : List ℕ
  tip = drop (suc gap_len) rest

  same_pos : suc i + gap_len ≡ j
  same_pos = omega (arith, pr.0)

  pub whole : arrow ≡ take i arrow ++ (get_or arrow i 0 ∷ (mid ++ (get_or arrow j 0 ∷ tip)))
  whole = split_at arrow i 0 (omega (arith, pr.0))
      ∙ ap (λ z. take i arrow ++ (get_or arrow i 0 ∷ z)) (split_at rest gap_len 0 (omega (arith, pr.0, length-drop (suc i) arrow))
      ∙ ap (λ z. mid ++ (z ∷ tip)) (get_or-drop (suc i) arrow gap_len 0 ∙ ap (λ z. get_or arrow z 0) same_pos))

  -- between lies no cell of S
  pub mid_clear : (x : ℕ) → Memᴰ x mid → ¬ S x
  mid_clear x n s =
      let r = mem_at mid n in
      let l : r.0 < gap_len = omega (arith, r.1, length-take gap_len rest) in
      pr.3 (suc i + r.0) (omega arith) (omega (arith, same_pos, l))
      (subst S (sym r.2 ∙ get_or-take gap_len rest r.0 0 l ∙ get_or-drop (suc i) arrow r.0 0) s)

-- a pair of positions is among the pairs
pub position_pair : (cells arrow : List ℕ) (i j : ℕ) → j < length arrow → NextAt (λ c. So (square cells c)) (λ k. get_or arrow k 0) i j
    → (b : List ℕ) × Memᴰ (record { last = get_or arrow i 0; between = b; cur = get_or arrow j 0 }) (pairs cells arrow)
position_pair cells arrow i j jl pr =
    let S : ℕ → Type 0 = λ c. So (square cells c) in (
      mid S arrow i j jl pr,
      Parted-pairs cells arrow (record { last = get_or arrow i 0; between = mid S arrow i j jl pr; cur = get_or arrow j 0 })
          (record {
            before = take i arrow;
            behind = tip S arrow i j jl pr;
            whole = whole S arrow i j jl pr;
            first = pr.1;
            second = pr.2;
            none = λ x m. So-false (square cells x) (mid_clear S arrow i j jl pr x m);
          }),
    )
