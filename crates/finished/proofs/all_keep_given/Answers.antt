-- `finished::all_keep_given` meets its contract: the fold keeps whether each cell so far keeps what is given.
-- Assumes nothing.
use Prim.Native.Nat.{ℕ, zero, suc, ◌≤◌, ◌*◌}
use native.Mathlib.Omega.{arith}
use mathlib.Core.Path.{◌≡◌, refl, sym, ap, ◌∙◌}
use mathlib.Core.Bool.{Bool, true, ◌&&◌, and-true, and_assoc}
use mathlib.Core.List.{List, [], ◌∷◌}
use lib.ListN.{length, get_or, take}
use Rattle.std.proofs.Common.{rules}
use Rattle.std.specs.List.{fold, zip}
use Rattle.std.specs.Slice.Iter.{iter_rest}
use Rattle.std.specs.Iterator.Adapters.{zip_first, zip_second}
use Rattle.std.proofs.lemmas.Iterator.{YieldsList-from_slice, YieldsList-from_zip}
use Rattle.std.proofs.lemmas.Iterator.Consumers.{fold_from_yields_List}
use Rattle.grid.specs.Lists.{all, range, upto}
use Rattle.finished.specs.Finished.{keeps, keeps_all}
use Rattle.finished.proofs.all_keep_given.Goals as goal

-- a test of the numbers behind each of those
later : (p : ℕ → Bool) (k n : ℕ) → all (λ i. p (suc i)) (range k n) ≡ all p (range (suc k) n)
unfolding range
later p k zero = refl
later p k (suc n) = ap (λ b. p (suc k) && b) (later p (suc k) n)

-- a fold over two lists side by side says whether all their members pass
side_by_side : (t : ℕ → ℕ → Bool) (xs ys : List ℕ) (n : ℕ) (good : Bool) → n ≤ length xs → n ≤ length ys
    → fold (λ (b : Bool) (x : ℕ × ℕ). b && t x.0 x.1) good (zip (take n xs) ys) ≡ (good && all (λ i. t (get_or xs i 0) (get_or ys i 0)) (range 0 n))
unfolding range
side_by_side t xs ys zero good h l = sym (and-true good)
side_by_side t [] ys (suc n) good h l = absurd (omega arith)
side_by_side t (x ∷ xs) [] (suc n) good h l = absurd (omega arith)
side_by_side t (x ∷ xs) (y ∷ ys) (suc n) good h l =
    side_by_side t xs ys n (good && t x y) (omega arith) (omega arith) ∙ and_assoc good (t x y) (all (λ i. t (get_or xs i 0) (get_or ys i 0)) (range 0 n))
    ∙ ap (λ b. good && (t x y && b)) (later (λ i. t (get_or (x ∷ xs) i 0) (get_or (y ∷ ys) i 0)) 0 n)

pub returns : goal.returns
unfolding keeps_all upto
returns c =
    let q = c.args.problem.now in
    let n = q.height * q.width in
    let first : iter_rest (zip_first c.zip.result) ≡ take n q.cells = search rules in
    let second : iter_rest (zip_second c.zip.result) ≡ c.args.cells.now = search rules in
    fold_from_yields_List {s = c.zip.result} _ (λ b x. b && keeps x.0 x.1) true c.fold.result c.fold.ensures.ran
    (YieldsList-from_zip (YieldsList-from_slice (take n q.cells) first) (YieldsList-from_slice c.args.cells.now second)) (λ a x b q k. search rules)
    ∙ side_by_side keeps q.cells c.args.cells.now n true (omega (arith, c.requires)) (omega (arith, c.requires))
