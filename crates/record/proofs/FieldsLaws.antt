-- A record is its fields and the filler behind them: what is read of a whole record, and of one at the head of a file.
-- Assumes nothing.
use Prim.Native.Nat.{ℕ, zero, suc, ◌+◌, ◌*◌}
use native.Mathlib.Omega.{arith}
use mathlib.Core.Path.{◌≡◌, refl, sym, ap, ◌∙◌}
use mathlib.Core.Bool.{Bool, true, false}
use mathlib.Core.List.{List, [], ◌∷◌, ◌++◌}
use lib.ListN.{length, length-append}
use Rattle.grid.specs.Lists.{flat_map}
use Rattle.grid.specs.Grid.{Grid, size}
use Rattle.fields.specs.Fields.{Outcome, ok, refused, ◌>>=◌, unless, field, filler, rest_zero}
use Rattle.fields.proofs.OutcomeLaws.{bind_ok, ok-eq}
use Rattle.record.specs.Record.{Puzzle, cell_codes, arrow_at, arrows_at, read_record}
use Rattle.record.specs.Problem.{arrow_cells}
use Rattle.record.specs.Head.{arrows_in, read_fields, head_bits, head_of, read_head, puzzle_in}
use Rattle.record.specs.declared.Extent.{Extent}
use Rattle.record.specs.declared.Extent.TheVariants.{Whole, Head}
use Rattle.record.specs.Inside.{ended, read_as}

-- ---- outcomes

-- the last step taken out of those before it
pub under : {A B C : Type 0} (a : Outcome A) (f : A → Outcome B) (e : A → Outcome C) (k : C → Outcome B) → ((x : A) → a ≡ ok x → f x ≡ (e x >>= k)) → (a >>= f) ≡ ((a >>= e) >>= k)
unfolding ◌>>=◌
under (refused n) f e k h = refl
under (ok x) f e k h = h x refl

-- what a value goes through, before or after it is made
through : {A B : Type 0} (o : Outcome A) (f : A → B) (t : A → Bool) (n : ℕ) (u : B → Bool) → ((x : A) → o ≡ ok x → t x ≡ u (f x))
    → ((o >>= λ x. unless (t x) n >>= λ _. ok x) >>= λ x. ok (f x)) ≡ ((o >>= λ x. ok (f x)) >>= λ y. unless (u y) n >>= λ _. ok y)
unfolding ◌>>=◌
through (refused k) f t n u h = refl
through (ok x) f t n u h = rw (h x refl) (go (u (f x)))
  where
    go : (b : Bool) → ((unless b n >>= λ _. ok x) >>= λ x. ok (f x)) ≡ (unless b n >>= λ _. ok (f x))
    go true = unfold unless in refl
    go false = unfold unless in refl

-- ---- the fields and what stands behind them

-- as many arrows as were asked for
pub arrows_count : (s : List ℕ) (g : Grid) (u : List ℕ) (at m : ℕ) {l : List (List ℕ)} → arrows_in s g u at m ≡ ok l → length l ≡ m
unfolding arrows_in
arrows_count s g u at zero e = rw (← ok-eq e) refl
arrows_count s g u at (suc m) e =
    let a = bind_ok (arrow_at s g u at) _ e in
    let b = bind_ok (arrows_in s g (a.0 ++ u) (at + 18 + 2 * length a.0) m) _ a.2 in
    rw (← ok-eq b.2) (ap suc (arrows_count s g (a.0 ++ u) (at + 18 + 2 * length a.0) m b.1))

-- where m arrows from at end
unfoldable pub end_of : ℕ → ℕ → List (List ℕ) → ℕ
end_of at m l = at + 18 * m + 2 * length (arrow_cells l)

-- arrows and their filler, apart
none_parted : (s : List ℕ) (at : ℕ) → (unless (filler s at) 5 >>= λ _. ok []) ≡ (ok [] >>= λ (l : List (List ℕ)). unless (filler s (end_of at 0 l)) 5 >>= λ _. ok l)
unfolding ◌>>=◌ end_of arrow_cells
none_parted s at = let z : at + 0 + 0 ≡ at = omega arith in rw z refl

arrows_parted : (s : List ℕ) (g : Grid) (u : List ℕ) (at m : ℕ) → arrows_at s g u at m ≡ (arrows_in s g u at m >>= λ l. unless (filler s (end_of at m l)) 5 >>= λ _. ok l)
unfolding arrows_at arrows_in
arrows_parted s g u at zero = none_parted s at
arrows_parted s g u at (suc m) = under (arrow_at s g u at) _ _ _ (λ a _. go a (arrows_parted s g (a ++ u) (at + 18 + 2 * length a) m))
  where
    go : (a : List ℕ) → arrows_at s g (a ++ u) (at + 18 + 2 * length a) m ≡ (arrows_in s g (a ++ u) (at + 18 + 2 * length a) m >>= λ l. unless (filler s (end_of (at + 18 + 2 * length a) m l)) 5 >>= λ _. ok l)
        → (arrows_at s g (a ++ u) (at + 18 + 2 * length a) m >>= λ rest. ok (a ∷ rest))
        ≡ ((arrows_in s g (a ++ u) (at + 18 + 2 * length a) m >>= λ rest. ok (a ∷ rest)) >>= λ l. unless (filler s (end_of at (suc m) l)) 5 >>= λ _. ok l)
    go a ih =
        ap (λ (o : Outcome (List (List ℕ))). o >>= λ rest. ok (a ∷ rest)) ih
        ∙ through (arrows_in s g (a ++ u) (at + 18 + 2 * length a) m) (λ rest. a ∷ rest) (λ l. filler s (end_of (at + 18 + 2 * length a) m l)) 5 (λ l. filler s (end_of at (suc m) l))
        (λ l _. ap (filler s) (unfold end_of arrow_cells in omega (arith, length-append a (flat_map (λ b. b) l))))

-- the puzzle of a grid, codes and arrows
abbrev pub made : Grid → List ℕ → List (List ℕ) → Puzzle
made g cs l = record { grid = g; given = cs; arrows = l }

-- the test behind the arrows is the one behind the puzzle's fields
pub made_ended : (s : List ℕ) (g : Grid) (m : ℕ) (cs : List ℕ) (t : ℕ → Bool)
    → ((arrows_in s g [] (21 + 2 * size g) m >>= λ l. unless (t (end_of (21 + 2 * size g) m l)) 5 >>= λ _. ok l) >>= λ rest. ok (made g cs rest))
    ≡ ((arrows_in s g [] (21 + 2 * size g) m >>= λ rest. ok (made g cs rest)) >>= λ p. unless (t (head_bits p)) 5 >>= λ _. ok p)
made_ended s g m cs t = through (arrows_in s g [] (21 + 2 * size g) m) (made g cs) (λ l. t (end_of (21 + 2 * size g) m l)) 5 (λ p. t (head_bits p))
    (λ l e. ap t (unfold end_of head_bits in omega (arith, arrows_count s g [] (21 + 2 * size g) m e)))

-- a record is its fields, and the filler behind them
pub record_fields : (s : List ℕ) → read_record s ≡ (read_fields s >>= λ p. unless (filler s (head_bits p)) 5 >>= λ _. ok p)
unfolding read_record read_fields
record_fields s =
    under (field s 0 5) _ _ _ (λ h _. under (field s 5 5) _ _ _ (λ w _. under (field s 10 11) _ _ _ (λ m _.
    under (cell_codes s 21 (size (sheet h w))) _ _ _ (λ cs _. last (sheet h w) m cs))))
  where
    sheet : ℕ → ℕ → Grid
    sheet h w = record { height = h + 1; width = w + 1 }

    last : (g : Grid) (m : ℕ) (cs : List ℕ) → (arrows_at s g [] (21 + 2 * size g) m >>= λ rest. ok (made g cs rest))
        ≡ ((arrows_in s g [] (21 + 2 * size g) m >>= λ rest. ok (made g cs rest)) >>= λ p. unless (filler s (head_bits p)) 5 >>= λ _. ok p)
    last g m cs =
        ap (λ (o : Outcome (List (List ℕ))). o >>= λ rest. ok (made g cs rest)) (arrows_parted s g [] (21 + 2 * size g) m)
        ∙ made_ended s g m cs (filler s)

-- what may stand behind the fields
pub ended_whole : {b : Extent} {r : Bool} (s : List ℕ) (at : ℕ) → b ≡ Whole → r ≡ filler s at → r ≡ ended b s at
unfolding ended
ended_whole s at t e = rw t e

pub ended_head : {b : Extent} {r : Bool} (s : List ℕ) (at : ℕ) → b ≡ Head → r ≡ rest_zero s at → r ≡ ended b s at
unfolding ended
ended_head s at t e = rw t e

-- what is read of a whole record is the record
pub record_as : (s : List ℕ) → read_as Whole s ≡ read_record s
unfolding read_as ended
record_as s = sym (record_fields s)

-- and what is read of one at the head of a file is the puzzle of that head
pub head_as : (s : List ℕ) → read_as Head s ≡ puzzle_in (read_head s)
unfolding read_as ended puzzle_in read_head
head_as s = under (read_fields s) _ _ _ (λ p _. both p (rest_zero s (head_bits p)))
  where
    both : (p : Puzzle) (z : Bool) → (unless z 5 >>= λ _. ok p) ≡ ((unless z 5 >>= λ _. ok (head_of p)) >>= λ h. ok h.puzzle)
    both p true = unfold unless ◌>>=◌ head_of in refl
    both p false = unfold unless ◌>>=◌ in refl
