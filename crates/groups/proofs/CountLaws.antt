-- Cells are counted for the group that a flood labels, as they leave the stack. No code is named here.
-- Assumes nothing.
use Prim.Native.Nat.{ℕ, zero, suc, ◌+◌, ◌-◌, ◌≤◌, ◌<◌}
use native.Mathlib.Numerals.{add-one}
use native.Mathlib.Omega.{arith}
use mathlib.Core.Logic.{◌⊎◌, inl, inr}
use mathlib.Core.Path.{◌≡◌, refl, sym, ap, ◌∙◌}
use mathlib.Core.Bool.{Bool, true, false, cond, ◌&&◌}
use mathlib.Core.List.{List, [], ◌∷◌}
use lib.Dec.{eqb}
use lib.ListN.{length, get_or, set, take, length-set, length-append}
use lib.Seq.{take-suc, take-suc-set, take-set-le, get_or-set_same, get_or-set_other}
use mir.Val.{bool_byte}
use borrow.Author.Tests.{eq-eqb, ne_eqb}
use Rattle.grid.specs.Lists.{range, upto, filter}
use Rattle.grid.proofs.ListLaws.{split, place_in, filter-length}
use Rattle.grid.proofs.AppendLaws.{by_eq, upto-length, filter_more, filter-upto, count_hit, count_miss}
use Rattle.grid.proofs.ArrayLaws.{fewer_set}
use Rattle.groups.specs.Flood.{unlabelled, free, Offered, skip, take as taken}
use Rattle.groups.specs.Table.{Unused, labelled, Counting}

-- 1 for a cell that passes, as the code converts the test
abbrev bit : Bool → ℕ
bit = bool_byte

pub bit_few : (b : Bool) → bool_byte b ≤ 1
bit_few true = omega arith
bit_few false = omega arith

-- one more cell is counted if it passes
count_next : (p : ℕ → Bool) (k : ℕ) → length (filter p (upto (k + 1))) ≡ length (filter p (upto k)) + bit (p k)
count_next p k = go (split (p k))
  where
    go : (p k ≡ true) ⊎ (p k ≡ false) → length (filter p (upto (k + 1))) ≡ length (filter p (upto k)) + bit (p k)
    go (inl e) = rw e (count_hit p k e)
    go (inr e) = omega (arith, count_miss p k e, ap bit e)

-- tests that agree but for one cell, which fails one of them
one_more : (u v : ℕ → Bool) (q : ℕ) → v q ≡ false → ((j : ℕ) → (j ≡ q → ⊥) → u j ≡ v j) → (n : ℕ) → q < n → length (filter u (upto n)) ≡ length (filter v (upto n)) + bit (u q)
one_more u v q off same zero h = absurd (omega (arith, h))
one_more u v q off same (suc n) h = rw (← add-one n) (by_eq n q here (λ ne. there ne (one_more u v q off same n (omega (arith, ne)))))
  where
    here : n ≡ q → length (filter u (upto (n + 1))) ≡ length (filter v (upto (n + 1))) + bit (u q)
    here e =
        let low : length (filter u (upto n)) ≡ length (filter v (upto n)) = ap length (filter-upto u v n (λ x l. same x (λ f. omega (arith, f, e)))) in
        let hit : bit (u n) ≡ bit (u q) = ap (λ (m : ℕ). bit (u m)) e in
        let none : bit (v n) ≡ 0 = ap (λ (m : ℕ). bit (v m)) e ∙ ap bit off in
        omega (arith, count_next u n, count_next v n, low, hit, none)

    there : (n ≡ q → ⊥) → length (filter u (upto n)) ≡ length (filter v (upto n)) + bit (u q) → length (filter u (upto (n + 1))) ≡ length (filter v (upto (n + 1))) + bit (u q)
    there ne before =
        let last : bit (u n) ≡ bit (v n) = ap bit (same n ne) in
        omega (arith, count_next u n, count_next v n, last, before)

-- a cell that fails a test is none of those that pass
none_passes : (p : ℕ → Bool) (n : ℕ) → ((j : ℕ) → j < n → p j ≡ false) → length (filter p (upto n)) ≡ 0
unfolding upto range
none_passes p zero h = refl
none_passes p (suc n) h = ap (λ (k : ℕ). length (filter p (upto k))) (sym (add-one n)) ∙ count_miss p n (h n (omega arith)) ∙ none_passes p n (λ j l. h j (omega arith))

module _ (s : ℕ) (t : ℕ → Bool) where
  -- a cell gets the label
  labelled-set : (L : List ℕ) (q : ℕ) → length L ≡ 1024 → s < 1024 → get_or L q 0 ≡ unlabelled → length (labelled (set L q s) t s) ≡ length (labelled L t s) + bit (t q)
  labelled-set L q long small u =
      one_more (λ j. eqb (get_or (set L q s) j 0) s && t j) (λ j. eqb (get_or L j 0) s && t j) q
      (rw (ne_eqb (get_or L q 0) s (λ e. omega (arith, e))) refl)
      (λ j ne. ap (λ (x : ℕ). eqb x s && t j) (get_or-set_other L q j s 0 ne)) 1024 (omega (arith, place_in L q (omega (arith, u)), long))
      ∙ ap (λ (b : Bool). length (labelled L t s) + bit (b && t q)) (ap (λ (x : ℕ). eqb x s) (get_or-set_same L q s 0 (place_in L q (omega (arith, u)))) ∙ eq-eqb s s refl)

  length-cond : (b : Bool) (q : ℕ) → length (cond b (q ∷ []) []) ≡ bit b
  length-cond true q = refl
  length-cond false q = refl

  -- a cell is offered: where it gets the label, it waits on the stack
  pub Offered-counts : {q : ℕ} {L st : List ℕ} {c : ℕ} {L' st' : List ℕ} {r x : ℕ} → s < 1024 → c + free L ≤ 1024 → Offered q s L st c L' st' r → Counting s t L st c x → Counting s t L' st' r x
  Offered-counts {q} {L} {st} {c} small room (skip no_go l w e) C = rw (l, w, e) (record {
    long = C.long;
    stack_long = length-set st c q ∙ C.stack_long;
    sum = rw (take-set-le c st c q (omega arith)) C.sum;
  })
  Offered-counts {q} {L} {st} {c} {x = x} small room (taken u l w e) C = rw (l, w, e) (record {
    long = length-set L q s ∙ C.long;
    stack_long = length-set st c q ∙ C.stack_long;
    sum = omega (arith, C.sum, waits, labelled-set L q C.long small u);
  })
    where
      fits : c < length st
      fits = omega (arith, fewer_set L q s u (λ f. omega (arith, f)) (omega arith), C.stack_long)

      waits : length (filter t (take (c + 1) (set st c q))) ≡ length (filter t (take c st)) + bit (t q)
      waits =
          ap (λ (k : ℕ). length (filter t (take k (set st c q)))) (add-one c)
          ∙ ap (λ (m : List ℕ). length (filter t m)) (take-suc-set st c q fits)
          ∙ ap length (filter_more t (take c st) q)
          ∙ length-append (filter t (take c st)) (cond (t q) (q ∷ []) [])
          ∙ ap (λ (k : ℕ). length (filter t (take c st)) + k) (length-cond (t q) q)

  -- a cell leaves the stack and is counted if it passes
  pub counted : {L st : List ℕ} {c x : ℕ} → 0 < c → c ≤ 1025 → Counting s t L st c x → Counting s t L st (c - 1) (x + bit (t (get_or st (c - 1) 0)))
  counted {L} {st} {c} {x} pos room C = record { long = C.long; stack_long = C.stack_long; sum = go (t (get_or st (c - 1) 0)) (top ∙ ap (λ (k : ℕ). length (filter t (take (c - 1) st)) + k) (length-cond (t (get_or st (c - 1) 0)) (get_or st (c - 1) 0))) }
    where
      back : suc (c - 1) ≡ c
      back = omega arith

      top : length (filter t (take c st)) ≡ length (filter t (take (c - 1) st)) + length (cond (t (get_or st (c - 1) 0)) (get_or st (c - 1) 0 ∷ []) [])
      top =
          ap (λ (k : ℕ). length (filter t (take k st))) (sym back)
          ∙ ap (λ (m : List ℕ). length (filter t m)) (take-suc st (c - 1) 0 (omega (arith, C.stack_long)))
          ∙ ap length (filter_more t (take (c - 1) st) (get_or st (c - 1) 0))
          ∙ length-append (filter t (take (c - 1) st)) (cond (t (get_or st (c - 1) 0)) (get_or st (c - 1) 0 ∷ []) [])

      go : (b : Bool) → length (filter t (take c st)) ≡ length (filter t (take (c - 1) st)) + bit b → x + bit b + length (filter t (take (c - 1) st)) ≡ length (labelled L t s)
      go true e = omega (arith, e, C.sum)
      go false e = omega (arith, e, C.sum)

  -- before a flood from s no cell has the label, and none is counted
  pub labelled_none : (L : List ℕ) → Unused s L → 0 ≡ length (labelled L t s)
  labelled_none L unused = sym (none_passes (λ j. eqb (get_or L j 0) s && t j) 1024 (λ j l. rw (ne_eqb (get_or L j 0) s (unused j l)) refl))

  pub Counting-none : {L st : List ℕ} → length L ≡ 1024 → length st ≡ 1025 → Unused s L → Counting s t L st 0 0
  Counting-none {L} long stack unused = record {
    long = long;
    stack_long = stack;
    sum = labelled_none L unused;
  }

  -- never more than there are cells
  pub Counting-few : {L st : List ℕ} {c x : ℕ} → Counting s t L st c x → x ≤ 1024
  Counting-few {L} C = omega (arith, C.sum, filter-length (λ j. eqb (get_or L j 0) s && t j) (upto 1024), upto-length 1024)
