-- What a call opens that takes an edition and sizes: the record's refusals, then 16, then 22.
-- Assumes nothing.
use Prim.Native.Nat.{ℕ}
use native.Mathlib.Omega.{arith}
use mathlib.Core.Path.{◌≡◌, refl, ◌∙◌}
use mathlib.Core.Bool.{true, false}
use mathlib.Core.List.{List, [], ◌∷◌}
use lib.ListN.{length}
use Rattle.fields.proofs.OutcomeLaws.{bind_ok, unless-ok}
use Rattle.record.specs.Record.{Outcome, ok, refused, ◌>>=◌, unless, Puzzle, read_record}
use Rattle.record.specs.Leaf.{Range, Leaf, leaf_with, in_edition, is_edition, ranges_from, sizes_of, leaf_of}
use Rattle.record.proofs.LeafLaws.{ValidLeaf, ok_leaf, leaf_valid}
use Rattle.sizes.specs.Bytes.{numbers_in, sizes_in}
use Rattle.calls.specs.Call.{leaf_from}
use Rattle.calls.specs.Inside.{leaf_in}

module _ (s : List ℕ) (e : ℕ) (sizes : List ℕ) where
  -- a refused record
  pub with_unread : {k : ℕ} → read_record s ≡ refused k → leaf_from s e sizes ≡ refused k
  unfolding leaf_from ◌>>=◌
  with_unread r = rw r refl

  -- an edition that is not 1 or 2
  pub with_16 : {p : Puzzle} → read_record s ≡ ok p → is_edition e ≡ false → leaf_from s e sizes ≡ refused 16
  unfolding leaf_from ◌>>=◌ unless
  with_16 r h = rw (r, h) refl

  -- the sizes come next
  pub with_sizes_lem : {p : Puzzle} → read_record s ≡ ok p → is_edition e ≡ true → leaf_from s e sizes ≡ leaf_in e sizes p
  unfolding leaf_from ◌>>=◌ unless
  with_sizes_lem r h = rw (r, h) refl

-- an empty list has no sizes
pub no_bytes : (p : Puzzle) (sizes : List ℕ) → length sizes ≡ 0 → sizes_in p sizes ≡ ok []
unfolding sizes_in numbers_in sizes_of ranges_from ◌>>=◌
no_bytes p [] h = refl
no_bytes p (x ∷ l) h = absurd (omega arith)

pub sizes_none : (e : ℕ) (sizes : List ℕ) (p : Puzzle) → length sizes ≡ 0 → leaf_in e sizes p ≡ ok (in_edition e p)
unfolding ◌>>=◌
sizes_none e sizes p h = rw (no_bytes p sizes h) refl

-- sizes that are refused, or read
pub sizes_refused : (e : ℕ) (sizes : List ℕ) (p : Puzzle) {k : ℕ} → sizes_in p sizes ≡ refused k → leaf_in e sizes p ≡ refused k
unfolding ◌>>=◌
sizes_refused e sizes p h = rw h refl

pub sizes_ok : (e : ℕ) (sizes : List ℕ) (p : Puzzle) {rs : List Range} → sizes_in p sizes ≡ ok rs → leaf_in e sizes p ≡ ok (leaf_with e rs p)
unfolding ◌>>=◌
sizes_ok e sizes p h = rw h refl

module _ {A : Type 0} (F : Leaf → Outcome A) where
  -- so a leaf in edition 1 without sizes is that of its record
  pub with_none : (s : List ℕ) → (leaf_from s 1 [] >>= F) ≡ (read_record s >>= λ p. F (in_edition 1 p))
  unfolding leaf_from sizes_in numbers_in sizes_of ranges_from is_edition unless ◌>>=◌
  with_none s = go (read_record s)
    where
      go : (o : Outcome Puzzle) → ((o >>= λ p. ok (in_edition 1 p)) >>= F) ≡ (o >>= λ p. F (in_edition 1 p))
      go (refused k) = refl
      go (ok p) = refl

-- what is opened is a leaf that `open` accepts, from the numbers in the bytes
pub from_opened : (s : List ℕ) (e : ℕ) (sizes : List ℕ) {l : Leaf} → leaf_from s e sizes ≡ ok l → (ns : List ℕ) × (numbers_in sizes ≡ ok ns) × (leaf_of s e ns ≡ ok l)
unfolding leaf_from sizes_in
from_opened s e sizes k =
    let a = bind_ok (read_record s) _ k in
    let b = bind_ok (unless (is_edition e) 16) _ a.2 in
    let c = bind_ok (sizes_in a.0 sizes) _ b.2 in
    let d = bind_ok (numbers_in sizes) _ c.1 in
    (d.0, d.1, ok_leaf s e d.0 a.0 c.0 a.1 (unless-ok (is_edition e) 16 b.1) d.2 ∙ c.2)

pub from_valid : (s : List ℕ) (e : ℕ) (sizes : List ℕ) {l : Leaf} → leaf_from s e sizes ≡ ok l → ValidLeaf l
from_valid s e sizes k = let a = from_opened s e sizes k in leaf_valid s e a.0 a.2
