-- One bit more behind the bits that were written.
-- Assumes nothing.
use Prim.Native.Nat.{ℕ, zero, suc, ◌+◌, ◌-◌, ◌*◌, ◌/◌, ◌%◌, ◌^◌, ◌≤◌, ◌<◌}
use native.Mathlib.Omega.{arith}
use native.Mathlib.Decide.{ℕ_discrete}
use native.Mathlib.Nat.{mul_assoc, mul_comm, mul-div_cancel, pow-suc, add-suc}
use mathlib.Core.Path.{◌≡◌, refl, sym, ap, subst, ◌∙◌}
use mathlib.Core.List.{List, [], ◌∷◌, ◌++◌}
use lib.ListN.{length, get_or, set, drop, length-append, length-drop, length-set, drop_of_length-le, get_or-eq_default, get_or-append}
use lib.Pow.{pow_pos}
use lib.Seq.{get_or-append-add, get_or-set_same, get_or-set_other, drop-append-le}
use Rattle.record.specs.Write.{value_of}
use Rattle.record.proofs.PackLaws.{value_nil}
use Rattle.writer.specs.Wrote.{Wrote, put_byte, Appends}
use Rattle.writer.specs.declared.BitWriter.{BitWriter}

-- bits that are there
value_front : (k : ℕ) (c : List ℕ) (x : ℕ) → k ≤ length c → value_of k (c ++ (x ∷ [])) ≡ value_of k c
unfolding value_of
value_front zero c x h = refl
value_front (suc k) c x h = rw (value_front k c x (omega arith), get_or-append c (x ∷ []) 0 k (omega arith))

-- one more, and j zeros behind it
value_more : (j : ℕ) (c : List ℕ) (x : ℕ) → value_of (suc (length c + j)) (c ++ (x ∷ [])) ≡ value_of (suc (length c + j)) c + 2 ^ j * x
unfolding value_of
value_more zero c x =
    let a : get_or (c ++ (x ∷ [])) (length c + 0) 0 ≡ x = get_or-append-add c (x ∷ []) 0 0 in
    let b : get_or c (length c + 0) 0 ≡ 0 = get_or-eq_default c 0 {n = length c + 0} (omega arith) in
    let e : length c + 0 ≡ length c = omega arith in
    let f : value_of (length c + 0) (c ++ (x ∷ [])) ≡ value_of (length c + 0) c = rw e (value_front (length c) c x (omega arith)) in
    omega (arith, a, b, f)
value_more (suc j) c x =
    let a : get_or (c ++ (x ∷ [])) (length c + suc j) 0 ≡ 0 = get_or-eq_default (c ++ (x ∷ [])) 0 {n = length c + suc j} (rw length-append (omega arith)) in
    let b : get_or c (length c + suc j) 0 ≡ 0 = get_or-eq_default c 0 {n = length c + suc j} (omega arith) in
    let r = value_more j c x in
    let e : length c + suc j ≡ suc (length c + j) = omega arith in
    let f : value_of (length c + suc j) (c ++ (x ∷ [])) ≡ value_of (length c + suc j) c + 2 ^ j * x = rw e r in
    let p : 2 ^ suc j * x ≡ 2 * (2 ^ j * x) = rw (pow-suc 2 j, mul_comm (2 ^ j) 2) (mul_assoc 2 (2 ^ j) x) in
    omega (arith, a, b, f, p)

-- zeros behind
value_zeros : (j : ℕ) (c : List ℕ) → value_of (length c + j) c ≡ value_of (length c) c * 2 ^ j
unfolding value_of
value_zeros zero c = let e : length c + 0 ≡ length c = omega arith in rw e (omega arith)
value_zeros (suc j) c =
    let b : get_or c (length c + j) 0 ≡ 0 = get_or-eq_default c 0 {n = length c + j} (omega arith) in
    let r = value_zeros j c in
    let p : value_of (length c) c * 2 ^ suc j ≡ value_of (length c) c * 2 ^ j * 2 = rw (pow-suc 2 j) (sym (mul_assoc (value_of (length c) c) (2 ^ j) 2)) in
    rw (add-suc (length c) j) (omega (arith, b, r, p))

-- it is a byte again
pub put_small : (r v x : ℕ) → r < 8 → v < 256 → x ≤ 1 → put_byte r v x < 256
put_small zero v x h b l = omega arith
put_small (suc zero) v x h b l = omega arith
put_small (suc (suc zero)) v x h b l = omega arith
put_small (suc (suc (suc zero))) v x h b l = omega arith
put_small (suc (suc (suc (suc zero)))) v x h b l = omega arith
put_small (suc (suc (suc (suc (suc zero))))) v x h b l = omega arith
put_small (suc (suc (suc (suc (suc (suc zero)))))) v x h b l = omega arith
put_small (suc (suc (suc (suc (suc (suc (suc zero))))))) v x h b l = omega arith
put_small (suc (suc (suc (suc (suc (suc (suc (suc r)))))))) v x h b l = absurd (omega arith)

-- a byte of which nothing is kept
put_fresh : (v u x : ℕ) → v < 256 → u < 256 → put_byte 0 v x ≡ put_byte 0 u x
put_fresh v u x h l = omega arith

-- the byte of c and one bit more
byte_more : (c : List ℕ) (x : ℕ) → length c < 8 → value_of 8 (c ++ (x ∷ [])) ≡ put_byte (length c) (value_of 8 c) x
byte_more c x l =
    let r : ℕ = length c in
    let e : suc (r + (7 - r)) ≡ 8 = omega arith in
    let f : r + suc (7 - r) ≡ 8 = omega arith in
    let a : value_of 8 (c ++ (x ∷ [])) ≡ value_of 8 c + 2 ^ (7 - r) * x = subst (λ n. value_of n (c ++ (x ∷ [])) ≡ value_of n c + 2 ^ (7 - r) * x) e (value_more (7 - r) c x) in
    let b : value_of 8 c ≡ value_of r c * 2 ^ suc (7 - r) = subst (λ n. value_of n c ≡ value_of r c * 2 ^ suc (7 - r)) f (value_zeros (suc (7 - r)) c) in
    let w : 2 ^ suc (7 - r) ≡ 2 * 2 ^ (7 - r) = pow-suc 2 (7 - r) ∙ mul_comm (2 ^ (7 - r)) 2 in
    let d : value_of 8 c ≡ value_of r c * (2 * 2 ^ (7 - r)) = b ∙ ap (λ (k : ℕ). value_of r c * k) w in
    let p : 0 < 2 * 2 ^ (7 - r) = omega (arith, pow_pos (7 - r)) in
    let z : value_of 8 c / (2 * 2 ^ (7 - r)) * (2 * 2 ^ (7 - r)) ≡ value_of 8 c = ap (λ (k : ℕ). k / (2 * 2 ^ (7 - r)) * (2 * 2 ^ (7 - r))) d ∙ ap (λ (k : ℕ). k * (2 * 2 ^ (7 - r))) (mul-div_cancel (value_of r c) p) ∙ sym d in
    a ∙ ap (λ (k : ℕ). k + 2 ^ (7 - r) * x) (sym z)

-- one bit more
putting : (old b new : List ℕ) (x : ℕ) → Wrote old b new → get_or new (length b / 8) 0 < 256 → length b < 8 * length new
    → Wrote old (b ++ (x ∷ [])) (set new (length b / 8) (put_byte (length b % 8) (get_or new (length b / 8) 0) x))
putting old b new x w small room = record { long = length-set new q _ ∙ w.long; bytes = bytes; behind = behind }
  where
    q : ℕ
    q = length b / 8

    v' : ℕ
    v' = put_byte (length b % 8) (get_or new (length b / 8) 0) x

    more : length (b ++ (x ∷ [])) ≡ length b + 1
    more = length-append b (x ∷ [])

    tail_length : length (drop (8 * q) b) ≡ length b % 8
    tail_length = length-drop (8 * q) b ∙ omega arith

    byte : put_byte (length b % 8) (get_or new q 0) x ≡ put_byte (length b % 8) (value_of 8 (drop (8 * q) b)) x
    byte = go (ℕ_discrete (length b % 8) 0)
      where
        go : Dec (length b % 8 ≡ 0) → put_byte (length b % 8) (get_or new q 0) x ≡ put_byte (length b % 8) (value_of 8 (drop (8 * q) b)) x
        go (yes e) =
            let z : value_of 8 (drop (8 * (length b / 8)) b) ≡ 0 = ap (value_of 8) (drop_of_length-le b {i = 8 * (length b / 8)} (omega arith)) ∙ value_nil 8 in
            rw e (put_fresh (get_or new (length b / 8) 0) (value_of 8 (drop (8 * (length b / 8)) b)) x small (omega (arith, z)))
        go (no n) = ap (λ (k : ℕ). put_byte (length b % 8) k x) (w.bytes q (omega arith))

    there : get_or (set new q v') q 0 ≡ value_of 8 (drop (8 * q) (b ++ (x ∷ [])))
    there =
        get_or-set_same new q v' 0 (omega arith) ∙ byte ∙ ap (λ (r : ℕ). put_byte r (value_of 8 (drop (8 * q) b)) x) (sym tail_length)
        ∙ sym (byte_more (drop (8 * q) b) x (omega (arith, tail_length)))
        ∙ ap (value_of 8) (sym (drop-append-le (8 * q) b (x ∷ []) (omega arith)))

    bytes : (k : ℕ) → 8 * k < length (b ++ (x ∷ [])) → get_or (set new q v') k 0 ≡ value_of 8 (drop (8 * k) (b ++ (x ∷ [])))
    bytes k l = go (ℕ_discrete k q)
      where
        go : Dec (k ≡ q) → get_or (set new q v') k 0 ≡ value_of 8 (drop (8 * k) (b ++ (x ∷ [])))
        go (yes e) = subst (λ i. get_or (set new q v') i 0 ≡ value_of 8 (drop (8 * i) (b ++ (x ∷ [])))) (sym e) there
        go (no n) =
            let m : 8 * k + 8 ≤ length b = omega (arith, more) in
            get_or-set_other new q k v' 0 n ∙ w.bytes k (omega arith)
            ∙ sym (value_front 8 (drop (8 * k) b) x (rw length-drop (omega arith)))
            ∙ ap (value_of 8) (sym (drop-append-le (8 * k) b (x ∷ []) (omega arith)))

    behind : (k : ℕ) → length (b ++ (x ∷ [])) ≤ 8 * k → get_or (set new q v') k 0 ≡ get_or old k 0
    behind k l = get_or-set_other new q k v' 0 (λ e. omega (arith, more)) ∙ w.behind k (omega (arith, more))

-- a byte is what the code makes of its parts, as their sum
pub sum_small : (r w v x : ℕ) → w ≡ 2 ^ (7 - r) → r < 8 → v < 256 → x ≤ 1 → v / (2 * w) * (2 * w) + w * x < 256
sum_small r w v x e l b h = rw e (put_small r v x l b h)

-- one bit more behind what a writer has written
pub put_bit_Appends : (s t : BitWriter) (x v : ℕ) → v ≡ put_byte (s.at % 8) (get_or s.out.now (s.at / 8) 0) x → get_or s.out.now (s.at / 8) 0 < 256 → s.at < 8 * length s.out.now
    → t.out.ghost_name ≡ s.out.ghost_name → t.out.now ≡ set s.out.now (s.at / 8) v → t.at ≡ s.at + 1 → Appends 1 (x ∷ []) s t
put_bit_Appends s t x v d small room n o p = record {
  same = n;
  many = omega arith;
  place = p;
  long = ap length o ∙ length-set s.out.now (s.at / 8) v;
  wrote = λ before b e w. let r = putting before b s.out.now x w (rw e small) (rw e room) in rw (o, d) (rw e at r);
}
