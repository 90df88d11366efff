-- Marks of listed cells, and of the cells that begin a row.
-- Assumes nothing.
use Prim.Native.Nat.{ℕ, suc, ◌+◌, ◌-◌, ◌%◌, ◌≤◌, ◌<◌}
use native.Mathlib.Nat.{mod-eq_of_lt, mod-add-mod, add-mod_right}
use native.Mathlib.Numerals.{add-one}
use native.Mathlib.Decide.{ℕ_discrete, dec_lt}
use native.Mathlib.Omega.{arith}
use mathlib.Core.Path.{◌≡◌, refl, ap, ◌∙◌}
use mathlib.Core.Bool.{Bool, true, false, cond, ◌&&◌, ◌||◌, not, and-false, or_comm}
use mathlib.Core.List.{List, [], ◌∷◌}
use lib.Dec.{eqb, ltb}
use lib.ListN.{length, get_or, set, take, drop, length-set, drop_of_length-le}
use lib.Seq.{drop-cons, take-suc, take_all, get_or-set_same, get_or-set_other}
use borrow.Author.Tests.{ne_eqb, lt-ltb, le-ltb}
use Rattle.grid.specs.Lists.{member}
use Rattle.grid.specs.Marks.{Marks}
use Rattle.grid.proofs.AppendLaws.{member_more}
use Rattle.grid.proofs.MarkLaws.{Marks-next, mark_zero, mark_other}
use Rattle.form.specs.Form.{fresh}
use Rattle.form.specs.Inside.{Blank, RowStarts}

-- amid marking the members of l, the first k of them marked
pub record Marking (n : ℕ) (l : List ℕ) (k : ℕ) (marks : List ℕ) : Type 0 where
  pub used : List ℕ
  pub marked : Marks marks (λ i. member i (take k l))
  pub left : fresh n [] l ≡ fresh n used (drop k l)
  pub same : (i : ℕ) → member i used ≡ member i (take k l)

pub none_marked : (n : ℕ) (l : List ℕ) {marks : List ℕ} → Blank marks → Marking n l 0 marks
unfolding member
none_marked n l b = record { used = []; marked = record { long = b.long; at = λ i h. b.each i }; left = refl; same = λ i. refl }

module _ {n k : ℕ} {l marks : List ℕ} (m : Marking n l k marks) (h : k < length l) where
  next : fresh n [] l ≡ ((ltb (get_or l k 0) n && not (member (get_or l k 0) m.used)) && fresh n (get_or l k 0 ∷ m.used) (drop (suc k) l))
  unfolding fresh
  next = m.left ∙ rw (drop-cons l k 0 h) refl

  -- the next member is off the grid
  pub marking_off : n ≤ get_or l k 0 → fresh n [] l ≡ false
  marking_off t = next ∙ rw (le-ltb (get_or l k 0) n t) refl

  module _ (t : get_or l k 0 < n) (low : n ≤ 1024) where
    -- it is marked already
    pub marking_twice : (get_or marks (get_or l k 0) 0 ≡ 0 → ⊥) → fresh n [] l ≡ false
    marking_twice q = next ∙ rw (m.same (get_or l k 0), mark_other m.marked (get_or l k 0) (omega arith) q, and-false (ltb (get_or l k 0) n)) refl

    -- it is marked now
    pub one_marked : get_or marks (get_or l k 0) 0 ≡ 0 → Marking n l (k + 1) (set marks (get_or l k 0) 1)
    one_marked q = record {
      used = get_or l k 0 ∷ m.used;
      marked = Marks-next l k h (omega arith) m.marked;
      left = next ∙ rw (lt-ltb (get_or l k 0) n t, m.same (get_or l k 0), mark_zero m.marked (get_or l k 0) (omega arith) q, add-one k) refl;
      same = λ i. rw (add-one k, take-suc l k 0 h, member_more i (take k l) (get_or l k 0)) (both i);
    }
      where
        both : (i : ℕ) → member i (get_or l k 0 ∷ m.used) ≡ (member i (take k l) || eqb i (get_or l k 0))
        both i = unfold member in ap (λ (b : Bool). eqb i (get_or l k 0) || b) (m.same i) ∙ or_comm (eqb i (get_or l k 0)) (member i (take k l))

-- all are marked
module _ {n k : ℕ} {l marks : List ℕ} (m : Marking n l k marks) (h : length l ≤ k) where
  pub all_fresh : fresh n [] l ≡ true
  unfolding fresh
  all_fresh = m.left ∙ rw (drop_of_length-le l {i = k} h) refl

  pub all_marked : Marks marks (λ i. member i l)
  all_marked = rw (take_all k l h) at m.marked

-- ---- the first cells of rows

-- the rows before at are marked
pub record Marked (w at : ℕ) (l : List ℕ) : Type 0 where
  pub long : length l ≡ 1024
  pub whole : at % w ≡ 0
  pub before : (i : ℕ) → i < at → get_or l i 0 ≡ cond (eqb (i % w) 0) 1 0
  pub later : (i : ℕ) → at ≤ i → get_or l i 0 ≡ 0

pub no_row : (w : ℕ) {l : List ℕ} → 0 < w → Blank l → Marked w 0 l
no_row w h b = record { long = b.long; whole = mod-eq_of_lt h; before = λ i k. absurd (omega (arith, k)); later = λ i k. b.each i }

-- one more row
pub next_row : {w at : ℕ} {l : List ℕ} → 0 < w → at < 1024 → Marked w at l → Marked w (at + w) (set l at 1)
next_row {w} {at} {l} pos h r = record { long = length-set l at 1 ∙ r.long; whole = add-mod_right at w ∙ r.whole; before = before; later = later }
  where
    -- a cell behind the first of the row
    inner : (i : ℕ) → at < i → i < at + w → i % w ≡ 0 → ⊥
    inner i k k' z =
        let e : at + (i - at) ≡ i = omega arith in
        let q : (at % w + (i - at)) % w ≡ i % w = mod-add-mod at w (i - at) ∙ ap (λ (x : ℕ). x % w) e in
        let d : (i - at) % w ≡ i - at = mod-eq_of_lt (omega arith) in
        let f : at % w + (i - at) ≡ i - at = omega (arith, r.whole) in
        omega (arith, rw f at q, d, z)

    before : (i : ℕ) → i < at + w → get_or (set l at 1) i 0 ≡ cond (eqb (i % w) 0) 1 0
    before i k = go (ℕ_discrete i at) (dec_lt i at)
      where
        go : Dec (i ≡ at) → Dec (i < at) → get_or (set l at 1) i 0 ≡ cond (eqb (i % w) 0) 1 0
        go (yes e) _ = rw (e, r.whole) (get_or-set_same l at 1 0 (omega (arith, r.long)))
        go (no n) (yes m) = rw (get_or-set_other l at i 1 0 n) (r.before i m)
        go (no n) (no m) = rw (get_or-set_other l at i 1 0 n, ne_eqb (i % w) 0 (inner i (omega arith) k)) (r.later i (omega arith))

    later : (i : ℕ) → at + w ≤ i → get_or (set l at 1) i 0 ≡ 0
    later i k = rw (get_or-set_other l at i 1 0 (λ (e : i ≡ at). omega (arith, e))) (r.later i (omega arith))

-- all rows
pub all_rows : {n w at : ℕ} {l : List ℕ} → Marked w at l → n ≤ at → RowStarts n w l
all_rows r h = record { long = r.long; each = λ i k. r.before i (omega arith) }
