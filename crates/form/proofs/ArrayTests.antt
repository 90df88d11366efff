-- The tests of arrays say what stands in them.
-- Assumes nothing.
use Prim.Native.Nat.{ℕ, zero, suc, ◌-◌, ◌≤◌, ◌<◌}
use native.Mathlib.Omega.{arith}
use mathlib.Core.Path.{◌≡◌, refl, sym, ap}
use mathlib.Core.Bool.{true, ◌&&◌, not}
use mathlib.Core.List.Memᴰ
use mathlib.Core.List.{List, [], ◌∷◌, Memᴰ}
use lib.Dec.{eqb, ltb}
use lib.ListN.{length, take, drop, replicate, length-drop, take-append-drop}
use lib.Seq.{length-take-le}
use borrow.Author.Tests.{eqb-true, eq-eqb, ltb-true, lt-ltb}
use Rattle.std.proofs.lemmas.Bool.{and_from}
use Rattle.grid.specs.Lists.{all, member, array_of}
use Rattle.grid.proofs.ListLaws.{and-true, member-mem, mem-member, So-not, not-So}
use Rattle.grid.proofs.ArrayLaws.{array_behind}
use Rattle.record.specs.Valid.{Fresh, nil, cons}
use Rattle.form.specs.Form.{behind, fresh}

-- d at every place
all_same : (d : ℕ) (l : List ℕ) → all (eqb d) l ≡ true → l ≡ replicate (length l) d
all_same d [] h = refl
all_same d (x ∷ l) h =
    let a = and-true (eqb d x) (all (eqb d) l) h in
    let e : x ≡ d = sym (eqb-true d x a.0) in
    rw e (ap (λ (r : List ℕ). d ∷ r) (all_same d l a.1))

same_all : (d k : ℕ) → all (eqb d) (replicate k d) ≡ true
same_all d zero = refl
same_all d (suc k) = and_from _ _ (eq-eqb d d refl) (same_all d k)

-- an array with d behind its first n places keeps these
pub behind_kept : (d n : ℕ) (l : List ℕ) → length l ≡ 1024 → n ≤ 1024 → behind d n l ≡ true → array_of d (take n l) ≡ l
unfolding behind array_of
behind_kept d n l h k t =
    let e : 1024 - length (take n l) ≡ length (drop n l) = omega (arith, length-take-le n l (omega arith), length-drop n l) in
    rw (e, ← all_same d (drop n l) t) (take-append-drop n l)

-- and the other way round
pub kept_behind : (d n : ℕ) (l : List ℕ) → length l ≡ n → behind d n (array_of d l) ≡ true
unfolding behind
kept_behind d n l h = rw (← h, array_behind d l) (same_all d (1024 - length l))

-- indexes below n, none twice, nor one of used
pub Fresh-is : (n : ℕ) (used l : List ℕ) → fresh n used l ≡ true → Fresh used l × ((x : ℕ) → Memᴰ x l → x < n)
unfolding fresh
Fresh-is n used [] h = (nil, λ x m. absurd (Memᴰ.not-nil m))
Fresh-is n used (i ∷ l) h =
    let a = and-true (ltb i n && not (member i used)) (fresh n (i ∷ used) l) h in
    let b = and-true (ltb i n) (not (member i used)) a.0 in
    let r = Fresh-is n (i ∷ used) l a.1 in
    (cons (λ m. not-So {a = member i used} b.1 (mem-member i used m)) r.0, below (ltb-true i n b.0) r.1)
  where
    below : i < n → ((x : ℕ) → Memᴰ x l → x < n) → (x : ℕ) → Memᴰ x (i ∷ l) → x < n
    below k f x (Memᴰ.head e) = omega arith
    below k f x (Memᴰ.tail m) = f x m

pub is_Fresh : (n : ℕ) {used l : List ℕ} → Fresh used l → ((x : ℕ) → Memᴰ x l → x < n) → fresh n used l ≡ true
unfolding fresh
is_Fresh n nil f = refl
is_Fresh n {used} (cons {j} {js} h r) f =
    and_from _ _
    (and_from _ _ (lt-ltb j n (f j (Memᴰ.head refl))) (So-not (member j used) (λ s. h (member-mem j used s))))
    (is_Fresh n r (λ x m. f x (Memᴰ.tail m)))
