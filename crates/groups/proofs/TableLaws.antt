-- The table of the groups: the counts and the first cells of one group after another, and what those who are lent the table take from it. No code is named here.
-- Assumes nothing.
use Prim.Native.Nat.{ℕ, zero, suc, ◌+◌, ◌-◌, ◌≤◌, ◌<◌}
use native.Mathlib.Numerals.{add-one}
use native.Mathlib.Omega.{arith}
use mathlib.Core.Path.{◌≡◌, refl, sym, ap, ◌∙◌}
use mathlib.Core.Bool.{Bool, true, false, cond, ◌&&◌, ◌||◌, not}
use mathlib.Core.List.{List, [], ◌∷◌, ◌++◌, append-nil, Memᴰ}
use lib.Dec.{eqb}
use lib.ListN.{length, get_or, set, take, length-set, length-append}
use lib.Seq.{get_or-set_same, get_or-set_other, get_or-take, take-set-le, take-suc-set}
use borrow.Author.Tests.{eq-eqb, ne_eqb}
use Rattle.grid.specs.Lists.{range, upto, any, filter}
use Rattle.grid.specs.Grid.{Grid, size, cells_of}
use Rattle.grid.specs.Cells.{square}
use Rattle.grid.proofs.ListLaws.{filter-mem, filter-length, upto-mem, at_mem}
use Rattle.grid.proofs.AppendLaws.{by_eq, upto_more, upto-length, filter_more, filter-filter, filter_agree, filter-upto, count_miss}
use Rattle.groups.specs.Groups.{labels, group, names}
use Rattle.groups.specs.Arrows.{on_arrow}
use Rattle.groups.specs.Arrays.{label_array, mask_of, marked, tally_of, Counted, GroupTable, Names}
use Rattle.groups.specs.Flood.{unlabelled, Kept, same, new, Walked, Sofar}
use Rattle.groups.specs.Table.{Unused, labelled, Tallied, firsts_below, Named, Tabled}
use Rattle.groups.proofs.GroupLaws.{group-mem}
use Rattle.groups.proofs.LabelLaws.{label_behind, label_test, label_group}
use Rattle.groups.proofs.MarkLaws.{mask_test}

-- ---- one group after another

-- before the first
pub Tabled-none : (cells onarrow L : List ℕ) {firsts squares arrowed : List ℕ} → length firsts ≡ 1024 → length squares ≡ 1024 → length arrowed ≡ 1024 → Tabled cells onarrow L 0 firsts squares arrowed 0
unfolding upto range
Tabled-none cells onarrow L f s a = record {
  squares_are = record { long = s; at = λ _ h. absurd (omega (arith, h)) };
  arrowed_are = record { long = a; at = λ _ h. absurd (omega (arith, h)) };
  firsts_are = record { long = f; list = refl; count = refl };
}

-- one more cell is listed if it is the first of its group
module _ {L firsts : List ℕ} {i number : ℕ} (N : Named L i firsts number) where
  pub named_few : number ≤ i
  named_few = omega (arith, N.count, filter-length (λ j. eqb (get_or L j 0) j) (upto i), upto-length i)

  pub Named-more : i < 1024 → Named L (i + 1) (set firsts number i) (cond (eqb (get_or L i 0) i) (number + 1) number)
  Named-more h = go (eqb (get_or L i 0) i) more
    where
      more : firsts_below L (i + 1) ≡ firsts_below L i ++ cond (eqb (get_or L i 0) i) (i ∷ []) []
      more = rw (upto_more i) (filter_more (λ j. eqb (get_or L j 0) j) (upto i) i)

      fits : number < length firsts
      fits = omega (arith, named_few, N.long)

      go : (b : Bool) → firsts_below L (i + 1) ≡ firsts_below L i ++ cond b (i ∷ []) [] → Named L (i + 1) (set firsts number i) (cond b (number + 1) number)
      go true e = record {
        long = length-set firsts number i ∙ N.long;
        list = ap (λ (k : ℕ). take k (set firsts number i)) (add-one number) ∙ take-suc-set firsts number i fits ∙ ap (λ (l : List ℕ). l ++ (i ∷ [])) N.list ∙ sym e;
        count = ap (λ (k : ℕ). k + 1) N.count ∙ sym (ap length e ∙ length-append (firsts_below L i) (i ∷ []));
      }
      go false e =
          let f : firsts_below L (i + 1) ≡ firsts_below L i = e ∙ append-nil (firsts_below L i) in
          record {
            long = length-set firsts number i ∙ N.long;
            list = take-set-le number firsts number i (omega arith) ∙ N.list ∙ sym f;
            count = N.count ∙ sym (ap length f);
          }

-- the groups with a cell below s are in the table, and then s is reached
module _ {g : Grid} {p : ℕ → Bool} {s : ℕ} {L₀ L L' : List ℕ} (small : s < 1024) (S : Sofar g p L₀ s L) (W : Walked g p s s L L') where
  -- a cell before s has the label that it had
  label_kept : (j : ℕ) → j < s → get_or L' j 0 ≡ get_or L j 0
  label_kept j h = go (W.added.kept j)
    where
      go : Kept g p s s L L' j → get_or L' j 0 ≡ get_or L j 0
      go (same v) = v
      go (new u v n) = absurd (S.full j h (S.only j u) u)

  -- the same cells have the label of an earlier group
  test_kept : (f : ℕ) → f < s → (j : ℕ) → eqb (get_or L' j 0) f ≡ eqb (get_or L j 0) f
  test_kept f h j = go (W.added.kept j)
    where
      go : Kept g p s s L L' j → eqb (get_or L' j 0) f ≡ eqb (get_or L j 0) f
      go (same v) = ap (λ (x : ℕ). eqb x f) v
      go (new u v n) = ne_eqb (get_or L' j 0) f (λ e. omega (arith, e, v)) ∙ sym (ne_eqb (get_or L j 0) f (λ e. omega (arith, e, u)))

  Tallied-more : (t : ℕ → Bool) {counts : List ℕ} → Tallied L t s counts → Tallied L' t (s + 1) (set counts s (length (labelled L' t s)))
  Tallied-more t {counts} T = record { long = length-set counts s (length (labelled L' t s)) ∙ T.long; at = λ f h. by_eq f s (λ e. here f e) (λ ne. before f ne (omega (arith, ne))) }
    where
      here : (f : ℕ) → f ≡ s → get_or (set counts s (length (labelled L' t s))) f 0 ≡ length (labelled L' t f)
      here f e = rw e (get_or-set_same counts s (length (labelled L' t s)) 0 (omega (arith, T.long)))

      before : (f : ℕ) → (f ≡ s → ⊥) → f < s → get_or (set counts s (length (labelled L' t s))) f 0 ≡ length (labelled L' t f)
      before f ne h =
          get_or-set_other counts s f (length (labelled L' t s)) 0 ne
          ∙ T.at f h
          ∙ sym (ap length (filter-upto (λ j. eqb (get_or L' j 0) f && t j) (λ j. eqb (get_or L j 0) f && t j) 1024 (λ j _. ap (λ (b : Bool). b && t j) (test_kept f h j))))

  -- s is the first cell of its group if it had no label
  first_test : Unused s L → eqb (get_or L' s 0) s ≡ eqb (get_or L s 0) unlabelled
  first_test unused = go (W.added.kept s)
    where
      go : Kept g p s s L L' s → eqb (get_or L' s 0) s ≡ eqb (get_or L s 0) unlabelled
      go (same v) =
          ap (λ (x : ℕ). eqb x s) v
          ∙ ne_eqb (get_or L s 0) s (unused s small)
          ∙ sym (ne_eqb (get_or L s 0) unlabelled (λ u. W.seed (S.only s u) (v ∙ u)))
      go (new u v n) = eq-eqb (get_or L' s 0) s v ∙ sym (eq-eqb (get_or L s 0) unlabelled u)

  -- the first cells before s are those that they were
  Named-kept : {firsts : List ℕ} {number : ℕ} → Named L s firsts number → Named L' s firsts number
  Named-kept N =
      let e : firsts_below L s ≡ firsts_below L' s = filter-upto (λ j. eqb (get_or L j 0) j) (λ j. eqb (get_or L' j 0) j) s (λ j h. ap (λ (x : ℕ). eqb x j) (sym (label_kept j h))) in
      record { long = N.long; list = N.list ∙ e; count = N.count ∙ ap length e }

  pub Tabled-more : {cells onarrow firsts squares arrowed firsts' squares' arrowed' : List ℕ} {number r : ℕ} → Unused s L → Tabled cells onarrow L s firsts squares arrowed number
      → firsts' ≡ set firsts number s → r ≡ cond (eqb (get_or L s 0) unlabelled) (number + 1) number
      → squares' ≡ set squares s (length (labelled L' (marked cells) s)) → arrowed' ≡ set arrowed s (length (labelled L' (marked onarrow) s))
      → Tabled cells onarrow L' (s + 1) firsts' squares' arrowed' r
  Tabled-more {cells} {onarrow} unused T f n q a = rw (f, n, q, a) (record {
    squares_are = Tallied-more (marked cells) T.squares_are;
    arrowed_are = Tallied-more (marked onarrow) T.arrowed_are;
    firsts_are = rw (← (first_test unused)) (Named-more (Named-kept T.firsts_are) small);
  })

-- ---- the table

-- no cell behind n passes
count_front : (t : ℕ → Bool) (n k : ℕ) → ((j : ℕ) → n ≤ j → j < n + k → t j ≡ false) → length (filter t (upto (n + k))) ≡ length (filter t (upto n))
count_front t n zero h = let e : n + zero ≡ n = omega arith in rw e refl
count_front t n (suc k) h =
    let e : n + suc k ≡ (n + k) + 1 = omega arith in
    rw e (count_miss t (n + k) (h (n + k) (omega arith) (omega arith)) ∙ count_front t n k (λ j l b. h j l (omega arith)))

module _ (g : Grid) (p : ℕ → Bool) where
  -- what is counted for the name f
  pub tally_is : (marks : List ℕ) (f : ℕ) → f < 1024 → filter (λ j. eqb (get_or (label_array g p) j 0) f && marked marks j) (upto (size g)) ≡ filter (marked marks) (group g p (labels g p) f)
  tally_is marks f h =
      sym (filter-filter (marked marks) (λ j. eqb (get_or (label_array g p) j 0) f) (upto (size g)))
      ∙ ap (filter (marked marks)) (label_group g p f h)

  module _ (fits : size g ≤ 1024) where
    -- behind the grid nothing is labelled
    label_front : (marks : List ℕ) (f : ℕ) → f < 1024 → length (labelled (label_array g p) (marked marks) f) ≡ length (filter (λ j. eqb (get_or (label_array g p) j 0) f && marked marks j) (upto (size g)))
    label_front marks f h =
        let e : size g + (1024 - size g) ≡ 1024 = omega arith in
        let t : ℕ → Bool = λ j. eqb (get_or (label_array g p) j 0) f && marked marks j in
        ap (λ (n : ℕ). length (filter t (upto n))) (sym e)
        ∙ count_front t (size g) (1024 - size g) (λ j l b. rw (ne_eqb (get_or (label_array g p) j 0) f (λ q. omega (arith, q, label_behind g p j l (omega (arith, b, e))))) refl)

    Tallied-are : (marks : List ℕ) {counts : List ℕ} (t : ℕ → Bool) → ((j : ℕ) → j < size g → marked marks j ≡ t j) → Tallied (label_array g p) (marked marks) (size g) counts → Counted g p t counts
    Tallied-are marks {counts} t alike T = record { long = T.long; at = at }
      where
        at : (f : ℕ) → f < size g → get_or counts f 0 ≡ tally_of g p t f
        at f h =
            T.at f h
            ∙ label_front marks f (omega arith)
            ∙ ap length (tally_is marks f (omega arith) ∙ filter_agree (marked marks) t (group g p (labels g p) f) (λ j m. alike j (group-mem g p (labels g p) f j m).0))

    firsts_is : firsts_below (label_array g p) (size g) ≡ names g p (labels g p)
    unfolding names cells_of
    firsts_is = filter-upto _ _ (size g) (λ i h. label_test g p i i h (omega arith))

    -- what the grouping step promises
    pub tabled : {cells onarrow L firsts squares arrowed : List ℕ} {number : ℕ} → L ≡ label_array g p → Tabled cells onarrow L (size g) firsts squares arrowed number
        → GroupTable g p (square (take (size g) cells)) (marked onarrow) L firsts squares arrowed number
    unfolding marked square
    tabled {cells} {onarrow} {L} e T =
        let f : firsts_below L (size g) ≡ names g p (labels g p) = rw e firsts_is in record {
          groups_are = e;
          firsts_long = T.firsts_are.long;
          firsts_are = T.firsts_are.list ∙ f;
          number_is = T.firsts_are.count ∙ ap length f;
          squares_are = Tallied-are cells (square (take (size g) cells)) (λ j h. rw (get_or-take (size g) cells j 0 h) refl) (rw e at T.squares_are);
          arrowed_are = Tallied-are onarrow (marked onarrow) (λ j h. refl) (rw e at T.arrowed_are);
        }

-- ---- what those who are lent the table take from it

-- some member passes exactly when their number is not 0
pub count_any : (t : ℕ → Bool) (l : List ℕ) → not (eqb (length (filter t l)) 0) ≡ any t l
count_any t [] = refl
count_any t (x ∷ xs) = go (t x) (count_any t xs)
  where
    go : (b : Bool) → not (eqb (length (filter t xs)) 0) ≡ any t xs → not (eqb (length (cond b (x ∷ filter t xs) (filter t xs))) 0) ≡ (b || any t xs)
    go true h = rw (ne_eqb (length (x ∷ filter t xs)) 0 (λ e. omega (arith, e))) refl
    go false h = h

-- a member of those that pass one test passes another
pub any-filter : (t q : ℕ → Bool) (l : List ℕ) → any t (filter q l) ≡ any (λ i. q i && t i) l
any-filter t q [] = refl
any-filter t q (x ∷ xs) = go (q x) (any-filter t q xs)
  where
    go : (b : Bool) → any t (filter q xs) ≡ any (λ i. q i && t i) xs → any t (cond b (x ∷ filter q xs) (filter q xs)) ≡ ((b && t x) || any (λ i. q i && t i) xs)
    go true h = ap (λ (c : Bool). t x || c) h
    go false h = h

module _ (g : Grid) (p : ℕ → Bool) where
  -- a group's count is not 0 exactly when some cell of it passes
  pub tally_any : {t : ℕ → Bool} {counts : List ℕ} → Counted g p t counts → (f : ℕ) → f < size g → not (eqb (get_or counts f 0) 0) ≡ any t (group g p (labels g p) f)
  tally_any {t} C f h = ap (λ (k : ℕ). not (eqb k 0)) (C.at f h) ∙ count_any t (group g p (labels g p) f)

  -- only the cells of the grid are counted
  tally_same : (t u : ℕ → Bool) {counts : List ℕ} → ((j : ℕ) → j < size g → t j ≡ u j) → Counted g p t counts → Counted g p u counts
  tally_same t u e C = record { long = C.long; at = λ f h. C.at f h ∙ ap length (filter_agree t u (group g p (labels g p) f) (λ j m. e j (group-mem g p (labels g p) f j m).0)) }

  -- a first cell is a cell
  pub name_low : (f : ℕ) → Memᴰ f (names g p (labels g p)) → f < size g
  unfolding names cells_of
  name_low f m = upto-mem (size g) (filter-mem (λ i. p i && eqb (get_or (labels g p) i 0) i) (upto (size g)) m).0

  names_few : length (names g p (labels g p)) ≤ size g
  unfolding names cells_of
  names_few = omega (arith, filter-length (λ i. p i && eqb (get_or (labels g p) i 0) i) (upto (size g)), upto-length (size g))

  -- the first cells that are listed are cells
  pub table_few : {sq arrow : ℕ → Bool} {groups firsts squares arrowed : List ℕ} {number : ℕ} → GroupTable g p sq arrow groups firsts squares arrowed number → size g ≤ 1024 → Names firsts number
  table_few {firsts = firsts} {number = number} T fits = record {
    long = T.firsts_long;
    few = omega (arith, names_few, T.number_is);
    small = λ k h. small k h;
  }
    where
      small : (k : ℕ) → k < number → get_or firsts k 0 < 1024
      small k h =
          let l = names g p (labels g p) in
          let e : get_or firsts k 0 ≡ get_or l k 0 = sym (get_or-take number firsts k 0 h) ∙ ap (λ (m : List ℕ). get_or m k 0) T.firsts_are in
          omega (arith, e, name_low (get_or l k 0) (at_mem l k (omega (arith, T.number_is))))

  -- the arrow cells by their marks
  pub table_on : (arrows : List (List ℕ)) {sq : ℕ → Bool} {onarrow groups firsts squares arrowed : List ℕ} {number : ℕ} → onarrow ≡ mask_of g (on_arrow arrows)
      → GroupTable g p sq (marked onarrow) groups firsts squares arrowed number → GroupTable g p sq (on_arrow arrows) groups firsts squares arrowed number
  unfolding marked
  table_on arrows {onarrow = onarrow} e T = record {
    groups_are = T.groups_are;
    firsts_long = T.firsts_long;
    firsts_are = T.firsts_are;
    number_is = T.number_is;
    squares_are = T.squares_are;
    arrowed_are = tally_same (marked onarrow) (on_arrow arrows) (λ j h. ap (λ (m : List ℕ). eqb (get_or m j 0) 1) e ∙ mask_test g (on_arrow arrows) j h) T.arrowed_are;
  }
