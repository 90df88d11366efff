-- Bits, packed into bytes: what is read from the bytes is what the bits make.
-- Assumes nothing.
use Prim.Native.Nat.{ℕ, zero, suc, ◌+◌, ◌-◌, ◌*◌, ◌/◌, ◌%◌, ◌^◌, ◌≤◌, ◌<◌}
use native.Mathlib.Nat.{mod-lt, pow-suc, add-suc, add-zero, div-div-eq-div-mul, mul_comm, div-one, not-suc-le-zero, le_of_suc-le-suc}
use native.Mathlib.Omega.{arith}
use mathlib.Core.Path.{◌≡◌, refl, sym, ap, ◌∙◌}
use mathlib.Core.List.Memᴰ
use mathlib.Core.List.{List, [], ◌∷◌, ◌++◌, append_assoc}
use lib.Dec.{lit<}
use lib.ListN.{length, get_or, drop, length-append}
use lib.Seq.{get_or-drop, drop-drop, get_or_at}
use Rattle.grid.specs.Lists.{flat_map}
use Rattle.fields.specs.Fields.{bit, number}
use Rattle.record.specs.Record.{Bytes}
use Rattle.record.specs.Write.{bits_of, value_of, pack}

-- every entry is a bit
abbrev pub Bits : List ℕ → Type 0
Bits b = (k : ℕ) → get_or b k 0 < 2

-- a bit of the number that bits make
value_bit : (b : List ℕ) → Bits b → (r e : ℕ) → value_of (suc (r + e)) b / 2 ^ e % 2 ≡ get_or b r 0
unfolding value_of
value_bit b h r zero = rw (add-zero r, div-one (2 * value_of r b + get_or b r 0)) (omega (arith, h r))
value_bit b h r (suc e) =
    rw (add-suc r e, pow-suc 2 e, mul_comm (2 ^ e) 2, ← div-div-eq-div-mul (2 * value_of (suc (r + e)) b + get_or b (suc (r + e)) 0) 2 (2 ^ e))
    (ap (λ (x : ℕ). x / 2 ^ e % 2) half ∙ value_bit b h r e)
  where
    half : (2 * value_of (suc (r + e)) b + get_or b (suc (r + e)) 0) / 2 ≡ value_of (suc (r + e)) b
    half = omega (arith, h (suc (r + e)))

-- a byte of the packed bits
pub pack_byte : (m : ℕ) (b : List ℕ) (q : ℕ) → q < m → get_or (pack m b) q 0 ≡ value_of 8 (drop (8 * q) b)
unfolding pack
pack_byte zero b q l = absurd (not-suc-le-zero l)
pack_byte (suc m) b zero l = refl
pack_byte (suc m) b (suc q) l =
    let n : 8 + 8 * q ≡ 8 * suc q = omega arith in
    pack_byte m (drop 8 b) q (le_of_suc-le-suc l) ∙ ap (value_of 8) (drop-drop (8 * q) 8 b ∙ ap (λ (x : ℕ). drop x b) n)

-- as many bytes as were asked for
pub length-pack : (m : ℕ) (b : List ℕ) → length (pack m b) ≡ m
unfolding pack
length-pack zero b = refl
length-pack (suc m) b = ap suc (length-pack m (drop 8 b))

-- a bit of them, and a number
pack-bit : (m : ℕ) (b : List ℕ) → Bits b → (k : ℕ) → k < 8 * m → bit (pack m b) k ≡ get_or b k 0
unfolding bit
pack-bit m b h k l =
    let n : suc (k % 8 + (7 - k % 8)) ≡ 8 = omega (arith, mod-lt k {m = 8} (lit< tt)) in
    let w : 8 * (k / 8) + k % 8 ≡ k = omega arith in
    ap (λ (x : ℕ). x / 2 ^ (7 - k % 8) % 2) (pack_byte m b (k / 8) (omega arith))
    ∙ ap (λ (x : ℕ). value_of x (drop (8 * (k / 8)) b) / 2 ^ (7 - k % 8) % 2) (sym n)
    ∙ value_bit (drop (8 * (k / 8)) b) (λ i. rw get_or-drop (h (8 * (k / 8) + i))) (k % 8) (7 - k % 8)
    ∙ get_or-drop (8 * (k / 8)) b (k % 8) 0
    ∙ ap (λ (x : ℕ). get_or b x 0) w

pub pack-number : (m : ℕ) (b : List ℕ) → Bits b → (at k : ℕ) → at + k ≤ 8 * m → number (pack m b) at k ≡ value_of k (drop at b)
unfolding number value_of
pack-number m b h at zero l = refl
pack-number m b h at (suc k) l = rw (pack-number m b h at k (omega arith), pack-bit m b h (at + k) (omega arith), get_or-drop) refl

-- a field has its bits
pub length-bits_of : (x k : ℕ) → length (bits_of x k) ≡ k
unfolding bits_of
length-bits_of x zero = refl
length-bits_of x (suc k) = rw length-append (omega (arith, length-bits_of (x / 2) k))

-- the bits of x make x
pub value_bits_of : (k x : ℕ) (post : List ℕ) → x < 2 ^ k → value_of k (bits_of x k ++ post) ≡ x
unfolding value_of bits_of
value_bits_of zero x post h = omega arith
value_bits_of (suc k) x post h =
    rw (append_assoc (bits_of (x / 2) k) ((x % 2) ∷ []) post, value_bits_of k (x / 2) ((x % 2) ∷ post) (omega (arith, pow-suc 2 k)), get_or_at (bits_of (x / 2) k) (x % 2) post 0 k (length-bits_of (x / 2) k))
    (omega arith)

-- no bits make 0
pub value_nil : (k : ℕ) → value_of k [] ≡ 0
unfolding value_of
value_nil zero = refl
value_nil (suc k) = omega (arith, value_nil k)

-- lists of bits
pub Bits-append : (a b : List ℕ) → Bits a → Bits b → Bits (a ++ b)
Bits-append [] b ha hb k = hb k
Bits-append (x ∷ a) b ha hb zero = ha 0
Bits-append (x ∷ a) b ha hb (suc k) = Bits-append a b (λ i. ha (suc i)) hb k

pub Bits-bits_of : (x k : ℕ) → Bits (bits_of x k)
unfolding bits_of
Bits-bits_of x zero = λ i. lit< tt
Bits-bits_of x (suc k) = Bits-append (bits_of (x / 2) k) ((x % 2) ∷ []) (Bits-bits_of (x / 2) k) one
  where
    one : Bits ((x % 2) ∷ [])
    one zero = mod-lt x (lit< tt)
    one (suc i) = lit< tt

pub Bits-flat_map : {A : Type 0} (f : A → List ℕ) (l : List A) → ((x : A) → Bits (f x)) → Bits (flat_map f l)
Bits-flat_map f [] h = λ i. lit< tt
Bits-flat_map f (x ∷ l) h = Bits-append (f x) (flat_map f l) (h x) (Bits-flat_map f l h)

-- what is packed are bytes
value_lt : (k : ℕ) (b : List ℕ) → Bits b → value_of k b < 2 ^ k
unfolding value_of
value_lt zero b h = lit< tt
value_lt (suc k) b h = omega (arith, value_lt k b h, h k, pow-suc 2 k)

pub pack-Bytes : (m : ℕ) (b : List ℕ) → Bits b → Bytes (pack m b)
unfolding pack
pack-Bytes zero b h x m = absurd (Memᴰ.not-nil m)
pack-Bytes (suc n) b h x (Memᴰ.head e) = rw e (value_lt 8 b h)
pack-Bytes (suc n) b h x (Memᴰ.tail m) = pack-Bytes n (drop 8 b) (λ k. rw get_or-drop (h (8 + k))) x m
