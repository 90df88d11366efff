-- Reading sizes, range by range: what is left of the list makes of the ranges so far what the whole makes.
-- Assumes nothing.
use Prim.Native.Nat.{ℕ, suc, ◌+◌, ◌≤◌, ◌<◌}
use native.Mathlib.Numerals.{add-one}
use native.Mathlib.Decide.{dec_lt}
use native.Mathlib.Omega.{arith}
use mathlib.Core.Logic.{◌⊎◌, inl, inr}
use mathlib.Core.Path.{◌≡◌, refl, sym, ap, ◌∙◌}
use mathlib.Core.Bool.{Bool, true, false, ◌&&◌}
use mathlib.Core.List.Memᴰ
use mathlib.Core.List.{List, [], ◌∷◌, ◌++◌, append_assoc, append-nil, Memᴰ}
use lib.Dec.{eqb, leb}
use lib.ListN.{length, get_or, drop, set, length-drop, drop_of_length-le}
use lib.Seq.{drop-cons}
use borrow.Author.Tests.{lt-leb, le-leb, leb-true, eqb-true, ne_eqb, eq-eqb}
use Rattle.std.proofs.lemmas.List.{get_or_past}
use Rattle.grid.proofs.ListLaws.{and-true}
use Rattle.grid.proofs.MarkLaws.{mark_is}
use Rattle.groups.specs.Arrays.{marked}
use Rattle.fields.proofs.OutcomeLaws.{unless-ok}
use Rattle.record.specs.Record.{Puzzle, Outcome, ok, refused, ◌>>=◌, unless}
use Rattle.grid.specs.Lists.{all, upto}
use Rattle.sizes.specs.Form.{sized_cell}
use Rattle.record.specs.Arrows.{on_arrow}
use Rattle.record.specs.Leaf.{Range, range_at, range_test, ranges_from, sizes_of}
use Rattle.sizes.specs.Kept.{lowest_of, highest_of}
use Rattle.sizes.specs.Inside.{MarkedAll, ranges_said, sizes_said}
use Rattle.sizes.proofs.KeptLaws.{array_put}

-- ---- the test of one range, a law for each way out of the code

module _ (marks : List ℕ) (from cell least most : ℕ) where
  -- the range
  abbrev here : Range
  here = range_at cell least most

  pub test_unmarked : (get_or marks cell 0 ≡ 1 → ⊥) → unless (range_test (marked marks) from here) 22 ≡ refused 22
  unfolding range_test marked unless
  test_unmarked n = rw (ne_eqb (get_or marks cell 0) 1 n) (go (leb 1 least && leb least most) (leb from cell))
    where
      go : (a b : Bool) → unless ((a && false) && b) 22 ≡ refused 22
      go true b = refl
      go false b = refl

  pub test_off : length marks ≤ cell → unless (range_test (marked marks) from here) 22 ≡ refused 22
  test_off h = test_unmarked (λ e. omega (arith, e, get_or_past marks cell 0 h))

  pub test_below : cell < from → unless (range_test (marked marks) from here) 22 ≡ refused 22
  unfolding range_test unless
  test_below h = rw (lt-leb from cell h) (go (leb 1 least && leb least most && marked marks cell))
    where
      go : (a : Bool) → unless (a && false) 22 ≡ refused 22
      go true = refl
      go false = refl

  pub test_zero : least ≡ 0 → unless (range_test (marked marks) from here) 22 ≡ refused 22
  unfolding range_test unless
  test_zero e = rw e refl

  pub test_down : most < least → unless (range_test (marked marks) from here) 22 ≡ refused 22
  unfolding range_test unless
  test_down h = rw (lt-leb least most h) (go (leb 1 least) (marked marks cell) (leb from cell))
    where
      go : (a b c : Bool) → unless (((a && false) && b) && c) 22 ≡ refused 22
      go true b c = refl
      go false b c = refl

  pub test_passed : get_or marks cell 0 ≡ 1 → from ≤ cell → (least ≡ 0 → ⊥) → least ≤ most → unless (range_test (marked marks) from here) 22 ≡ ok 0
  unfolding range_test marked unless
  test_passed e f n k = rw (le-leb 1 least (omega (arith, n)), le-leb least most k, eq-eqb (get_or marks cell 0) 1 e, le-leb from cell f) refl

  -- a range that passes is on the grid, at `from` or behind it
  pub test_low : range_test (marked marks) from here ≡ true → (cell < length marks) × (from ≤ cell)
  unfolding range_test marked
  test_low t =
      let a = and-true (leb 1 least && leb least most && eqb (get_or marks cell 0) 1) (leb from cell) t in
      let b = and-true (leb 1 least && leb least most) (eqb (get_or marks cell 0) 1) a.0 in
      (go (dec_lt cell (length marks)) (eqb-true (get_or marks cell 0) 1 b.1), leb-true from cell a.1)
    where
      go : Dec (cell < length marks) → get_or marks cell 0 ≡ 1 → cell < length marks
      go (yes h) e = h
      go (no h) e = absurd (omega (arith, e, get_or_past marks cell 0 (omega (arith, h))))

-- for the test of one range, a law for each way out
pub ruleset range_tests = (test_off, test_unmarked, test_below, test_zero, test_down, test_passed)

-- ---- the ranges so far

-- amid the list: what is left makes of the ranges so far what the whole makes; the arrays keep them, and their cells are below `from`
pub record Amid (whole rest : Outcome (List Range)) (from : ℕ) (lowest highest : List ℕ) : Type 0 where
  pub ranges : List Range
  pub same : whole ≡ (rest >>= λ rs. ok (ranges ++ rs))
  pub lowest_are : lowest ≡ lowest_of ranges
  pub highest_are : highest ≡ highest_of ranges
  pub below : (r : Range) → Memᴰ r ranges → r.cell < from

-- at the start
pub Amid-start : (whole : Outcome (List Range)) {lowest highest : List ℕ} → (lowest ≡ lowest_of []) × (highest ≡ highest_of []) → Amid whole whole 0 lowest highest
unfolding ◌>>=◌
Amid-start (ok rs) k = record { ranges = []; same = refl; lowest_are = k.0; highest_are = k.1; below = λ r m. absurd (Memᴰ.not-nil m) }
Amid-start (refused j) k = record { ranges = []; same = refl; lowest_are = k.0; highest_are = k.1; below = λ r m. absurd (Memᴰ.not-nil m) }

-- a range behind others, and the ranges behind it
joined : (before : List Range) (r : Range) (o : Outcome (List Range)) → ((o >>= λ rs. ok (r ∷ rs)) >>= λ rs. ok (before ++ rs)) ≡ (o >>= λ rs. ok ((before ++ (r ∷ [])) ++ rs))
unfolding ◌>>=◌
joined before r (ok rs) = ap ok (sym (append_assoc before (r ∷ []) rs))
joined before r (refused k) = refl

module _ {whole rest : Outcome (List Range)} {from : ℕ} {lowest highest : List ℕ} (a : Amid whole rest from lowest highest) where
  -- one range more
  pub Amid-more : (r : Range) (later : Outcome (List Range)) → rest ≡ (later >>= λ rs. ok (r ∷ rs)) → r.cell < 1024 → from ≤ r.cell
      → Amid whole later (r.cell + 1) (set lowest r.cell r.lowest) (set highest r.cell r.highest)
  Amid-more r later e h f = record {
    ranges = a.ranges ++ (r ∷ []);
    same = a.same ∙ ap (λ (o : Outcome (List Range)). o >>= λ rs. ok (a.ranges ++ rs)) e ∙ joined a.ranges r later;
    lowest_are = ap (λ (l : List ℕ). set l r.cell r.lowest) a.lowest_are ∙ array_put (λ q. q.lowest) a.ranges r h apart;
    highest_are = ap (λ (l : List ℕ). set l r.cell r.highest) a.highest_are ∙ array_put (λ q. q.highest) a.ranges r h apart;
    below = λ q m. low q (Memᴰ.append_cases a.ranges m);
  }
    where
      apart : (q : Range) → Memᴰ q a.ranges → ¬ (q.cell ≡ r.cell)
      apart q m z = omega (arith, a.below q m)

      low : (q : Range) → Memᴰ q a.ranges ⊎ Memᴰ q (r ∷ []) → q.cell < r.cell + 1
      low q (inl m) = omega (arith, a.below q m)
      low q (inr m) = let z : q.cell ≡ r.cell = ap (λ (x : Range). x.cell) (Memᴰ.eq_of_singleton m) in omega arith

  -- what is left is refused, and so is the whole
  pub amid_refused : {k : ℕ} → rest ≡ refused k → whole ≡ refused k
  unfolding ◌>>=◌
  amid_refused e = a.same ∙ ap (λ (o : Outcome (List Range)). o >>= λ rs. ok (a.ranges ++ rs)) e

  -- nothing is left
  pub amid_end : rest ≡ ok [] → (rs : List Range) × (whole ≡ ok rs) × (lowest ≡ lowest_of rs) × (highest ≡ highest_of rs)
  unfolding ◌>>=◌
  amid_end e = (a.ranges, a.same ∙ ap (λ (o : Outcome (List Range)). o >>= λ rs. ok (a.ranges ++ rs)) e ∙ ap ok (append-nil a.ranges), a.lowest_are, a.highest_are)

-- ---- the next range of a list of numbers

-- the next three numbers
three_left : (l : List ℕ) (at cell least most : ℕ) → at + 2 < length l → cell ≡ get_or l at 0 → least ≡ get_or l (at + 1) 0 → most ≡ get_or l (at + 2) 0
    → drop at l ≡ cell ∷ least ∷ most ∷ drop (at + 3) l
three_left l at cell least most h c d e =
    let x : at + 1 ≡ suc at = omega arith in
    let y : at + 2 ≡ suc (suc at) = omega arith in
    let z : at + 3 ≡ suc (suc (suc at)) = omega arith in
    rw (c, d, e, x, y, z, drop-cons l at 0 (omega arith), drop-cons l (suc at) 0 (omega arith), drop-cons l (suc (suc at)) 0 (omega arith)) refl

module _ (l : List ℕ) (at cell least most : ℕ) (h : at + 2 < length l) (c : cell ≡ get_or l at 0) (d : least ≡ get_or l (at + 1) 0) (e : most ≡ get_or l (at + 2) 0) (on : ℕ → Bool) (from : ℕ) where
  -- it may stand, or not
  pub next_passed : {z : ℕ} → unless (range_test on from (range_at cell least most)) 22 ≡ ok z
      → ranges_from on from (drop at l) ≡ (ranges_from on (cell + 1) (drop (at + 3) l) >>= λ rs. ok (range_at cell least most ∷ rs))
  unfolding ranges_from unless ◌>>=◌
  next_passed t = rw (three_left l at cell least most h c d e, add-one cell, unless-ok (range_test on from (range_at cell least most)) 22 t) refl

  pub next_refused : {k : ℕ} → unless (range_test on from (range_at cell least most)) 22 ≡ refused k → ranges_from on from (drop at l) ≡ refused k
  unfolding ranges_from ◌>>=◌
  next_refused t = rw (three_left l at cell least most h c d e, t) refl

-- the list ends inside a range
pub cut_refused : (on : ℕ → Bool) (from : ℕ) (l : List ℕ) (at : ℕ) → at < length l → length l ≤ at + 2 → ranges_from on from (drop at l) ≡ refused 22
unfolding ranges_from
cut_refused on from l at h k = go (drop at l) (omega (arith, length-drop at l)) (omega (arith, length-drop at l))
  where
    go : (xs : List ℕ) → 0 < length xs → length xs ≤ 2 → ranges_from on from xs ≡ refused 22
    go [] m n = absurd (omega arith)
    go (x ∷ []) m n = refl
    go (x ∷ y ∷ []) m n = refl
    go (x ∷ y ∷ z ∷ xs) m n = absurd (omega arith)

-- or behind one
pub none_left : (on : ℕ → Bool) (from : ℕ) (l : List ℕ) (at : ℕ) → length l ≤ at → ranges_from on from (drop at l) ≡ ok []
unfolding ranges_from
none_left on from l at h = rw (drop_of_length-le l {i = at} h) refl

-- ---- the numbers of a list, however it stands in memory

-- what is said of a list that is not cut
pub ranges_are : {o : Outcome (List ℕ)} {ns : List ℕ} (on : ℕ → Bool) → o ≡ ok ns → ranges_said on o ≡ ranges_from on 0 ns
unfolding ranges_said ◌>>=◌
ranges_are on e = rw e refl

pub ranges_refused : {o : Outcome (List ℕ)} {k : ℕ} (on : ℕ → Bool) → o ≡ refused k → ranges_said on o ≡ refused k
unfolding ranges_said ◌>>=◌
ranges_refused on e = rw e refl

pub sizes_refused : {o : Outcome (List ℕ)} {k : ℕ} (p : Puzzle) → o ≡ refused k → sizes_said p o ≡ refused k
unfolding sizes_said ◌>>=◌
sizes_refused p e = rw e refl

pub sizes_none : {o : Outcome (List ℕ)} {ns : List ℕ} (p : Puzzle) → o ≡ ok ns → length ns ≡ 0 → sizes_said p o ≡ ok []
unfolding sizes_said sizes_of ◌>>=◌
sizes_none {ns} p e h = rw e (none_left (on_arrow p.arrows) 0 ns 0 (omega (arith, h)))

-- marks tell the test
pub marked_on : {marks : List ℕ} {on : ℕ → Bool} → MarkedAll marks on → (i : ℕ) → marked marks i ≡ on i
unfolding marked
marked_on {marks} {on} m i = by (dec_lt i 1024)
  where
    by : Dec (i < 1024) → eqb (get_or marks i 0) 1 ≡ on i
    by (yes h) = mark_is m.marks_are i h
    by (no h) =
        let past : get_or marks i 0 ≡ 0 = get_or_past marks i 0 (omega (arith, m.marks_are.long, h)) in
        let off : on i ≡ false = m.none i (omega (arith, h)) in
        rw (past, off) refl

-- tests that agree on every cell take the same ranges
ranges_same : (t u : ℕ → Bool) → ((i : ℕ) → t i ≡ u i) → (from : ℕ) (ns : List ℕ) → ranges_from t from ns ≡ ranges_from u from ns
unfolding ranges_from
ranges_same t u e from [] = refl
ranges_same t u e from (c ∷ []) = refl
ranges_same t u e from (c ∷ l ∷ []) = refl
ranges_same t u e from (c ∷ l ∷ h ∷ ns) = rw (ranges_same t u e (suc c) ns, test) refl
  where
    test : range_test t from (range_at c l h) ≡ range_test u from (range_at c l h)
    test = unfold range_test in rw (e c) refl

-- the marks of the arrow cells take the sizes
pub sizes_marked : {marks : List ℕ} (p : Puzzle) → MarkedAll marks (on_arrow p.arrows) → (o : Outcome (List ℕ)) → ranges_said (marked marks) o ≡ sizes_said p o
unfolding ranges_said sizes_said sizes_of ◌>>=◌
sizes_marked p m (refused k) = refl
sizes_marked {marks} p m (ok ns) = ranges_same (marked marks) (on_arrow p.arrows) (marked_on m) 0 ns

-- the sizes in numbers
pub sizes_words : (p : Puzzle) (ns : List ℕ) → sizes_said p (ok ns) ≡ sizes_of p ns
unfolding sizes_said ◌>>=◌
sizes_words p ns = refl

-- tests that agree on every cell
all_same : (t u : ℕ → Bool) → ((i : ℕ) → t i ≡ u i) → (l : List ℕ) → all t l ≡ all u l
all_same t u e [] = refl
all_same t u e (i ∷ l) = rw (e i, all_same t u e l) refl

-- the test of the arrays by the marks of the arrow cells
pub all_marked : {marks : List ℕ} {on : ℕ → Bool} (lows highs : List ℕ) → MarkedAll marks on → all (sized_cell (marked marks) lows highs) (upto 1024) ≡ all (sized_cell on lows highs) (upto 1024)
unfolding sized_cell
all_marked {marks} {on} lows highs m = all_same (sized_cell (marked marks) lows highs) (sized_cell on lows highs) (λ i. rw (marked_on m i) refl) (upto 1024)
