-- Sets as rising lists: the cells of a grid rise, and so do those that pass a test; two rising lists with the same members are one.
-- Assumes nothing.
use Prim.Native.Nat.{ℕ, zero, suc, ◌≤◌, ◌<◌}
use native.Mathlib.Omega.{arith}
use mathlib.Core.Path.{◌≡◌, refl, sym}
use mathlib.Core.Bool.{Bool, true, false, cond}
use mathlib.Core.List.Memᴰ
use mathlib.Core.List.{List, [], ◌∷◌, Memᴰ}
use Rattle.grid.specs.Lists.{range, upto, filter, last}
pub use Rattle.grid.specs.Lists.{Rising, nil, cons}
use Rattle.grid.specs.Grid.{Grid, size, cells_of}
use Rattle.grid.proofs.ListLaws.{filter-mem, range-mem}

pub range-Rising : (a k : ℕ) → Rising (range a k)
unfolding range
range-Rising a zero = nil
range-Rising a (suc k) = cons (λ y m. (range-mem (suc a) k m).0) (range-Rising (suc a) k)

pub filter-Rising : (p : ℕ → Bool) {l : List ℕ} → Rising l → Rising (filter p l)
filter-Rising p nil = nil
filter-Rising p (cons {x} {xs} h r) = go (p x) (filter-Rising p r)
  where
    go : (b : Bool) → Rising (filter p xs) → Rising (cond b (x ∷ filter p xs) (filter p xs))
    go true k = cons (λ y m. h y (filter-mem p xs m).0) k
    go false k = k

-- all cells, in row order, rise
pub cells_Rising : (g : Grid) → Rising (cells_of g)
unfolding cells_of upto
cells_Rising g = range-Rising 0 (size g)

-- the first member is the least, and the last the greatest
pub first_least : {x : ℕ} {xs : List ℕ} → Rising (x ∷ xs) → (y : ℕ) → Memᴰ y (x ∷ xs) → x ≤ y
first_least (cons h k) y (Memᴰ.head e) = omega arith
first_least (cons h k) y (Memᴰ.tail m) = omega (arith, h y m)

pub last_greatest : (d : ℕ) {l : List ℕ} → Rising l → (y : ℕ) → Memᴰ y l → y ≤ last d l
unfolding last
last_greatest d (cons {xs = []} h k) y (Memᴰ.head e) = omega arith
last_greatest d (cons {x} {xs = z ∷ zs} h k) y (Memᴰ.head e) = omega (arith, h z (Memᴰ.head refl), last_greatest x k z (Memᴰ.head refl))
last_greatest d (cons {x} h k) y (Memᴰ.tail m) = last_greatest x k y m
last_greatest d nil y x3 = elim x3 [ ]

-- two rising lists with the same members are one
pub Rising-same : {a b : List ℕ} → Rising a → Rising b → ((x : ℕ) → Memᴰ x a → Memᴰ x b) → ((x : ℕ) → Memᴰ x b → Memᴰ x a) → a ≡ b
Rising-same nil nil f g = refl
Rising-same nil (cons {x} h r) f g = absurd (Memᴰ.not-nil (g x (Memᴰ.head refl)))
Rising-same (cons {x} h r) nil f g = absurd (Memᴰ.not-nil (f x (Memᴰ.head refl)))
Rising-same (cons {x} {xs} h r) (cons {x = y} {xs = ys} k s) f g = rw (first, Rising-same r s tail_in in_tail)
  where
    pick : Memᴰ x (y ∷ ys) → Memᴰ y (x ∷ xs) → x ≡ y
    pick (Memᴰ.head e) n = e
    pick (Memᴰ.tail m) (Memᴰ.head e) = sym e
    pick (Memᴰ.tail m) (Memᴰ.tail n) = absurd (omega (arith, k x m, h y n))

    first : x ≡ y
    first = pick (f x (Memᴰ.head refl)) (g y (Memᴰ.head refl))

    drop_first : (z : ℕ) → x < z → Memᴰ z (y ∷ ys) → Memᴰ z ys
    drop_first z l (Memᴰ.head e) = absurd (omega (arith, first, e))
    drop_first z l (Memᴰ.tail m) = m

    drop_other : (z : ℕ) → y < z → Memᴰ z (x ∷ xs) → Memᴰ z xs
    drop_other z l (Memᴰ.head e) = absurd (omega (arith, first, e))
    drop_other z l (Memᴰ.tail m) = m

    tail_in : (z : ℕ) → Memᴰ z xs → Memᴰ z ys
    tail_in z m = drop_first z (h z m) (f z (Memᴰ.tail m))

    in_tail : (z : ℕ) → Memᴰ z ys → Memᴰ z xs
    in_tail z m = drop_other z (k z m) (g z (Memᴰ.tail m))
