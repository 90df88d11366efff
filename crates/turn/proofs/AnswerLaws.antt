-- Steps in turn, and the answers of `turn`.
-- Assumes nothing.
use Prim.Native.Nat.{ℕ, ◌+◌, ◌≤◌, ◌<◌}
use native.Mathlib.Omega.{arith}
use native.Mathlib.Numerals.{add-one}
use mathlib.Core.Path.{◌≡◌, refl, sym, ap, subst, ◌∙◌}
use mathlib.Core.List.{List, [], ◌∷◌, map, map-id}
use lib.Dec.{leb, ltb}
use lib.ListN.{length, get_or}
use lib.Seq.{ext_get_or}
use borrow.Author.Tests.{le-leb, leb-true, lt-ltb, ltb-true}
use Rattle.grid.proofs.ListLaws.{So-false, mem_at}
use Rattle.fields.specs.Fields.{ok, refused, ◌>>=◌, unless}
use Rattle.record.specs.Record.{Puzzle, read_record, Bytes}
use Rattle.record.specs.Valid.{Valid}
use Rattle.turn.specs.Turn.{stay, flip_if, carried, turned_by, turn_record}
use Rattle.turn.specs.Inside.{step_of, spun}
use Rattle.turn.specs.declared.Move.TheVariants.{Quarter, Flip}
use Rattle.turn.proofs.PuzzleLaws.{carried_at, carried-length}

-- staying changes nothing
lines_same : (as' : List (List ℕ)) → map (map (λ i. i)) as' ≡ as'
lines_same [] = refl
lines_same (a ∷ as') = let e = map-id a in let r = lines_same as' in cc

stay_same : (p : Puzzle) → Valid p → turned_by (stay p.grid) p ≡ p
stay_same p v = build (carried (stay p.grid) p.given) p.given (map (map (λ i. i)) p.arrows) p.arrows codes (lines_same p.arrows)
  where
    build : (c d : List ℕ) (x y : List (List ℕ)) → c ≡ d → x ≡ y → ◌≡◌ {A = Puzzle} (record { grid = p.grid; given = c; arrows = x }) (record { grid = p.grid; given = d; arrows = y })
    build c d x y a b = cc

    codes : carried (stay p.grid) p.given ≡ p.given
    codes = ext_get_or 0 (carried (stay p.grid) p.given) p.given (carried-length (stay p.grid) p.given ∙ sym v.total)
        λ i h. carried_at (stay p.grid) p.given i (omega (arith, carried-length (stay p.grid) p.given))

pub flip_taken : (k : ℕ) (p : Puzzle) → 4 ≤ k → turned_by (step_of Flip p.grid) p ≡ turned_by (flip_if (leb 4 k) p.grid) p
unfolding flip_if
flip_taken k p h = rw (le-leb 4 k h)

pub flip_left : (k : ℕ) (p : Puzzle) → Valid p → k < 4 → p ≡ turned_by (flip_if (leb 4 k) p.grid) p
unfolding flip_if
flip_left k p v h = rw (So-false (leb 4 k) (λ t. let z = leb-true 4 k t in omega arith)) (sym (stay_same p v))

-- quarter turns one by one
pub spun_none : (p : Puzzle) → p ≡ spun 0 p
unfolding spun
spun_none p = refl

pub spun_more : (r : ℕ) (p q : Puzzle) → q ≡ spun r p → turned_by (step_of Quarter q.grid) q ≡ spun (r + 1) p
unfolding spun
spun_more r p q e = rw e (ap (λ (k : ℕ). spun k p) (sym (add-one r)))

-- the answers
module _ (k n : ℕ) (s : List ℕ) where
  pub turn_14 : (p : Puzzle) → read_record s ≡ ok p → 7 < k → turn_record k n s ≡ refused 14
  unfolding turn_record ◌>>=◌ unless
  turn_14 p e l = rw (e, So-false (ltb k 8) (λ t. let z = ltb-true k 8 t in omega arith))

  pub turn_15 : (p : Puzzle) → read_record s ≡ ok p → k ≤ 7 → n < length s → turn_record k n s ≡ refused 15
  unfolding turn_record ◌>>=◌ unless
  turn_15 p e l f = rw (e, lt-ltb k 8 (omega arith), So-false (leb (length s) n) (λ t. let z = leb-true (length s) n t in omega arith))

-- a slice holds bytes
pub Bytes-of : (s : List ℕ) → ((k : ℕ) → get_or s k 0 < 256) → Bytes s
Bytes-of s h x m = let r = mem_at s m in subst (λ y. y < 256) r.2 (h r.0)
