-- The arrow cells in the arrays: one more, and that there is room for it.
-- Assumes nothing.
use Prim.Native.Nat.{ℕ, ◌+◌, ◌≤◌, ◌<◌}
use native.Mathlib.Omega.{arith}
use mathlib.Core.Logic.{◌⊎◌, inl, inr}
use mathlib.Core.Path.{◌≡◌, refl, sym, ap, subst, ◌∙◌}
use mathlib.Core.Bool.{true, false, not, true≢false}
use mathlib.Core.List.Memᴰ
use mathlib.Core.List.{List, [], ◌∷◌, ◌++◌, append-nil, Memᴰ}
use lib.ListN.{length, get_or, set, take, replicate, length-append}
use Rattle.grid.specs.Lists.{member, array_of}
use Rattle.grid.proofs.ListLaws.{mem-member}
use Rattle.grid.proofs.ArrayLaws.{array_length, array_more}
use Rattle.grid.proofs.MarkLaws.{Marks-none, Marks-more, mark_zero, mark_other}
use Rattle.std.proofs.lemmas.List.{length-take-le, take_more_set}
use Rattle.fields.specs.Fields.{ok, refused, unless}
use Rattle.record.specs.Valid.{Fresh}
use Rattle.record.specs.Inside.{Kept}
use Rattle.record.proofs.FreshLaws.{Fresh-append, Fresh-length}

-- the arrow cells fit
pub Kept-length : {l line marks : List ℕ} → Kept l line marks → length l ≤ 1024
Kept-length {l} k = Fresh-length 1024 [] l k.once k.within

-- nothing is kept in arrays of zeros
pub Kept-none : Kept [] (replicate 1024 0) (replicate 1024 0)
unfolding member array_of
Kept-none = record {
  once = Fresh.nil;
  within = λ x m. absurd (Memᴰ.not-nil m);
  kept = refl;
  marked = Marks-none;
}

module _ {l line marks : List ℕ} (k : Kept l line marks) (cell : ℕ) (h : cell < 1024) where
  -- a cell that is marked is used
  pub enter_twice : (get_or marks cell 0 ≡ 0 → ⊥) → unless (not (member cell l)) 4 ≡ refused 4
  unfolding unless
  enter_twice n =
      let e : member cell l ≡ true = mark_other k.marked cell h n in
      rw e refl

  module _ (z : get_or marks cell 0 ≡ 0) where
    -- one that is not is new
    new : member cell l ≡ false
    new = mark_zero k.marked cell h z

    pub enter_once : unless (not (member cell l)) 4 ≡ ok 0
    unfolding unless
    enter_once = rw new refl

    once_more : Fresh [] (l ++ (cell ∷ []))
    once_more = Fresh-append k.once (Fresh.cons (λ m. no (rw (append-nil l) at m)) Fresh.nil)
      where
        no : Memᴰ cell l → ⊥
        no m = true≢false (sym (mem-member cell l m) ∙ new)

    within_more : (x : ℕ) → Memᴰ x (l ++ (cell ∷ [])) → x < 1024
    within_more x m = go (Memᴰ.append_cases l m)
      where
        go : Memᴰ x l ⊎ Memᴰ x (cell ∷ []) → x < 1024
        go (inl a) = k.within x a
        go (inr a) = rw (Memᴰ.eq_of_singleton a) h

    -- there is room for it
    pub enter_room : length l < 1024
    enter_room = omega (arith, simp length-append at (Fresh-length 1024 [] (l ++ (cell ∷ [])) once_more within_more))

    pub enter_new : Kept (l ++ (cell ∷ [])) (set line (length l) cell) (set marks cell 1)
    enter_new = record {
      once = once_more;
      within = within_more;
      kept = rw k.kept (array_more 0 l cell enter_room);
      marked = Marks-more l cell h k.marked;
    }

-- the first `count` numbers of an array are kept in it: one more is entered
module _ (count : ℕ) (line marks : List ℕ) (c : count ≤ 1024) (k : Kept (take count line) line marks) where
  long : length line ≡ 1024
  long = ap length k.kept ∙ array_length 0 (take count line) (Kept-length k)

  pub count_is : length (take count line) ≡ count
  count_is = length-take-le count line (omega (arith, long))

  module _ (cell : ℕ) (h : cell < 1024) (z : get_or marks cell 0 ≡ 0) where
    pub line_room : count < 1024
    line_room = omega (arith, count_is, enter_room k cell h z)

    pub line_more : take (count + 1) (set line count cell) ≡ take count line ++ (cell ∷ [])
    line_more = take_more_set line count cell (omega (arith, long, line_room))

    pub line_kept : Kept (take (count + 1) (set line count cell)) (set line count cell) (set marks cell 1)
    line_kept = rw line_more (subst (λ (n : ℕ). Kept (take count line ++ (cell ∷ [])) (set line n cell) (set marks cell 1)) count_is (enter_new k cell h z))
