-- A leaf is accepted where its record is read, its edition is 1 or 2 and its sizes may stand; the record's refusals come first, then 16, then 22.
-- Assumes nothing.
use Prim.Native.Nat.{ℕ}
use mathlib.Core.Logic.{◌↔◌, ◌⊎◌, inl, inr}
use mathlib.Core.Path.{◌≡◌, refl}
use mathlib.Core.Bool.{Bool, true, false, ◌||◌}
use mathlib.Core.List.{List, []}
use lib.Dec.{eqb}
use borrow.Author.Tests.{eqb-true}
use Rattle.fields.proofs.OutcomeLaws.{bind_ok, unless-ok, ok-eq}
use Rattle.record.specs.Record.{ok, refused, ◌>>=◌, unless, Puzzle, read_record}
use Rattle.record.specs.Valid.{Valid}
use Rattle.record.specs.Leaf.{Range, Leaf, leaf_with, in_edition, is_edition, ranges_from, sizes_of, leaf_of}
use Rattle.record.specs.Sizes.{GoodSizes}
use Rattle.record.proofs.RecordLaws.{record_Valid}
use Rattle.record.proofs.SizesLaws.{read_good}

-- an edition is 1 or 2
pub edition_is : (e : ℕ) → (is_edition e ≡ true) ↔ ((e ≡ 1) ⊎ (e ≡ 2))
unfolding is_edition
edition_is e = (one_of (eqb e 1) refl, back)
  where
    one_of : (t : Bool) → eqb e 1 ≡ t → (t || eqb e 2) ≡ true → (e ≡ 1) ⊎ (e ≡ 2)
    one_of true k h = inl (eqb-true e 1 k)
    one_of false k h = inr (eqb-true e 2 h)

    back : (e ≡ 1) ⊎ (e ≡ 2) → (eqb e 1 || eqb e 2) ≡ true
    back (inl k) = rw k refl
    back (inr k) = rw k refl

-- what an accepted leaf is
pub record ValidLeaf (l : Leaf) : Type 0 where
  pub puzzle : Valid l.puzzle
  pub edition : is_edition l.edition ≡ true
  pub sizes : GoodSizes l.puzzle l.sizes

-- an empty list has no sizes, and these may stand on any puzzle
pub none_read : (p : Puzzle) → sizes_of p [] ≡ ok []
unfolding sizes_of ranges_from
none_read p = refl

pub no_sizes : (p : Puzzle) → GoodSizes p []
no_sizes p = (read_good p [] (none_read p)).1

-- what was taken to make an accepted leaf
pub record Accepted (s : List ℕ) (e : ℕ) (ns : List ℕ) (l : Leaf) : Type 0 where
  pub read : read_record s ≡ ok l.puzzle
  pub edition : l.edition ≡ e
  pub one : is_edition e ≡ true
  pub sizes : sizes_of l.puzzle ns ≡ ok l.sizes

-- a leaf is accepted exactly when its record is read, its edition is one and its sizes may stand
pub leaf_ok : (s : List ℕ) (e : ℕ) (ns : List ℕ) {l : Leaf} → leaf_of s e ns ≡ ok l → Accepted s e ns l
unfolding leaf_of
leaf_ok s e ns k =
    let a = bind_ok (read_record s) _ k in
    let b = bind_ok (unless (is_edition e) 16) _ a.2 in
    let c = bind_ok (sizes_of a.0 ns) _ b.2 in
    rw (← ok-eq c.2) (record { read = a.1; edition = refl; one = unless-ok (is_edition e) 16 b.1; sizes = c.1 })

pub ok_leaf : (s : List ℕ) (e : ℕ) (ns : List ℕ) (p : Puzzle) (rs : List Range) → read_record s ≡ ok p → is_edition e ≡ true → sizes_of p ns ≡ ok rs
    → leaf_of s e ns ≡ ok (leaf_with e rs p)
unfolding leaf_of ◌>>=◌ unless
ok_leaf s e ns p rs r h z = rw (r, h, z) refl

pub leaf_valid : (s : List ℕ) (e : ℕ) (ns : List ℕ) {l : Leaf} → leaf_of s e ns ≡ ok l → ValidLeaf l
leaf_valid s e ns {l} k =
    let a = leaf_ok s e ns k in
    record { puzzle = record_Valid s a.read; edition = rw a.edition a.one; sizes = (read_good l.puzzle ns a.sizes).1 }

-- a refused record is refused as before, whatever the edition and the sizes; 16 comes after it, and 22 after 16
pub leaf_refused : (s : List ℕ) (e : ℕ) (ns : List ℕ) {k : ℕ} → read_record s ≡ refused k → leaf_of s e ns ≡ refused k
unfolding leaf_of ◌>>=◌
leaf_refused s e ns r = rw r refl

pub leaf_16 : (s : List ℕ) (e : ℕ) (ns : List ℕ) (p : Puzzle) → read_record s ≡ ok p → is_edition e ≡ false → leaf_of s e ns ≡ refused 16
unfolding leaf_of ◌>>=◌ unless
leaf_16 s e ns p r h = rw (r, h) refl

pub leaf_sizes : (s : List ℕ) (e : ℕ) (ns : List ℕ) (p : Puzzle) {k : ℕ} → read_record s ≡ ok p → is_edition e ≡ true → sizes_of p ns ≡ refused k → leaf_of s e ns ≡ refused k
unfolding leaf_of ◌>>=◌ unless
leaf_sizes s e ns p r h z = rw (r, h, z) refl

-- ---- without sizes

-- the leaf is that of the record in the edition, with the refusals 1 to 5 and 16 alone
pub leaf_plain : (s : List ℕ) (e : ℕ) → leaf_of s e [] ≡ (read_record s >>= λ p. unless (is_edition e) 16 >>= λ _. ok (in_edition e p))
unfolding leaf_of sizes_of ranges_from ◌>>=◌
leaf_plain s e = refl

pub plain_leaf : (s : List ℕ) (e : ℕ) (p : Puzzle) → read_record s ≡ ok p → is_edition e ≡ true → leaf_of s e [] ≡ ok (in_edition e p)
plain_leaf s e p r h = ok_leaf s e [] p [] r h (none_read p)
