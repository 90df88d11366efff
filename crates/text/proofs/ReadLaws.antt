-- What stands in a room into which is read piece by piece.
-- Assumes nothing.
use Prim.Native.Nat.{ℕ, ◌+◌, ◌≤◌}
use mathlib.Core.Path.{◌≡◌, sym, ap, ap₂, ◌∙◌, subst}
use mathlib.Core.List.{List, ◌++◌}
use lib.ListN.{length, take}
use lib.Seq.{take-add, take-append-le, drop_at, length-take-le}
use borrow.Rule.Slice.PartMut.{put_mid, post_of, take_put}
use Rattle.std.specs.declared.option.Option.{Option}
use Rattle.std.specs.Io.KnownBytes.{Consumes}
use Rattle.std.proofs.KnownBytes.{Consumes-trans}

module _ (a k n : ℕ) (room piece : List ℕ) (before : a ≤ length room) (within : n ≤ length piece) where
  -- what was read before, and behind it what a piece of the room has got
  read_on : take a room ++ take n piece ≡ take (a + n) (put_mid a k room piece)
  read_on = sym (take-add a n (put_mid a k room piece) ∙ ap₂ (λ xs ys. xs ++ ys) (take_put a k room piece before)
      (ap (take n) (drop_at (take a room) (piece ++ post_of a k room) a (length-take-le a room before)) ∙ take-append-le n piece (post_of a k room) within))

  -- both were taken from the input
  pub taken_on : (x y z : Option (List ℕ)) → Consumes x y (take a room) → Consumes y z (take n piece) → Consumes x z (take (a + n) (put_mid a k room piece))
  taken_on x y z p q = subst (Consumes x z) read_on (Consumes-trans x y z (take a room) (take n piece) p q)
