-- One pass over the cells that writes those that pass a test.
-- Assumes nothing.
use Prim.Native.Nat.{ℕ, ◌+◌, ◌≤◌, ◌<◌}
use native.Mathlib.Omega.{arith}
use mathlib.Core.Path.{◌≡◌, refl}
use mathlib.Core.Bool.{Bool, true, false}
use mathlib.Core.List.{List, [], ◌∷◌, ◌++◌, map-append, append-nil}
use lib.ListN.{length, length-map}
use Rattle.std.specs.Borrow.{MutBor}
use Rattle.grid.specs.Lists.{range, upto, filter}
use Rattle.grid.proofs.ListLaws.{filter-length}
use Rattle.grid.proofs.AppendLaws.{upto_more, filter_more, upto-length}
use Rattle.literals.specs.Literals.{each}
use Rattle.literals.specs.Held.{Holds}
use Rattle.literals.specs.declared.Literals.{Literals}
use Rattle.literals.proofs.BufferLaws.{Wrote-none}
use Rattle.literals.proofs.HeldLaws.{holds_room}

-- literals of one value
each-append : (v : ℕ) (l m : List ℕ) → each v (l ++ m) ≡ each v l ++ each v m
unfolding each
each-append v l m = map-append (λ (i : ℕ). (i, v)) l m

pub each-length : (v : ℕ) (l : List ℕ) → length (each v l) ≡ length l
unfolding each
each-length v l = length-map l (λ i. (i, v))

-- the literals of the cells of a list that pass, and of one cell more
literals_on : (p : ℕ → Bool) (v : ℕ) (l : List ℕ) (x : ℕ) → p x ≡ true → each v (filter p l) ++ ((x, v) ∷ []) ≡ each v (filter p (l ++ (x ∷ [])))
unfolding each
literals_on p v l x e = rw (filter_more p l x, e, each-append v (filter p l) (x ∷ [])) refl

literals_over : (p : ℕ → Bool) (v : ℕ) (l : List ℕ) (x : ℕ) → p x ≡ false → each v (filter p l) ≡ each v (filter p (l ++ (x ∷ [])))
literals_over p v l x e = rw (filter_more p l x, e, append-nil (filter p l)) refl

module _ (p : ℕ → Bool) (v : ℕ) {lent : MutBor (List ℕ)} where
  -- nothing was looked at yet
  pub pass_none : {out : MutBor (List ℕ)} → out.ghost_name ≡ lent.ghost_name → out.now ≡ lent.now → Holds lent (each v (filter p [])) record { out = out; count = 0 }
  unfolding each
  pass_none same now = record { same = same; wrote = rw now (Wrote-none lent.now) }

  -- the cells of a list that pass are written, and one cell more is looked at
  module _ (l : List ℕ) {a : Literals} where
    -- no more are written than were looked at
    pub pass_count : Holds lent (each v (filter p l)) a → a.count ≤ length l
    pass_count h = omega (arith, h.wrote.many, each-length v (filter p l), filter-length p l)

    -- and there is room for that one, where the buffer that was lent has room for all
    pub pass_room : Holds lent (each v (filter p l)) a → length l < length lent.now → a.count < length a.out.now
    pass_room h room = holds_room h (omega (arith, pass_count h))

    -- it was written, as it passes
    pub pass_on : (x : ℕ) → Holds lent (each v (filter p l) ++ ((x, v) ∷ [])) a → p x ≡ true → Holds lent (each v (filter p (l ++ (x ∷ [])))) a
    pass_on x h e = rw (literals_on p v l x e) at h

    -- it was not, as it does not
    pub pass_over : (x : ℕ) → Holds lent (each v (filter p l)) a → p x ≡ false → Holds lent (each v (filter p (l ++ (x ∷ [])))) a
    pass_over x h e = rw (literals_over p v l x e) at h

  -- the same for the cells in row order
  module _ (i : ℕ) {a : Literals} where
    pub cells_count : Holds lent (each v (filter p (upto i))) a → a.count ≤ i
    cells_count h = omega (arith, pass_count (upto i) h, upto-length i)

    pub cells_room : Holds lent (each v (filter p (upto i))) a → i < length lent.now → a.count < length a.out.now
    cells_room h room = pass_room (upto i) h (omega (arith, upto-length i))

    pub cells_on : Holds lent (each v (filter p (upto i)) ++ ((i, v) ∷ [])) a → p i ≡ true → Holds lent (each v (filter p (upto (i + 1)))) a
    cells_on h e = rw (upto_more i) (pass_on (upto i) i h e)

    pub cells_over : Holds lent (each v (filter p (upto i))) a → p i ≡ false → Holds lent (each v (filter p (upto (i + 1)))) a
    cells_over h e = rw (upto_more i) (pass_over (upto i) i h e)

  pub cells_none : {out : MutBor (List ℕ)} → out.ghost_name ≡ lent.ghost_name → out.now ≡ lent.now → Holds lent (each v (filter p (upto 0))) record { out = out; count = 0 }
  unfolding upto range
  cells_none same now = pass_none same now
