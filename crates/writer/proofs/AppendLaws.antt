-- Fields written one behind the other.
-- Assumes nothing.
use Prim.Native.Nat.{ℕ, zero, suc, ◌+◌, ◌-◌, ◌*◌, ◌/◌, ◌%◌, ◌≤◌, ◌<◌}
use native.Mathlib.Omega.{arith}
use native.Mathlib.Numerals.{add-one}
use mathlib.Core.Path.{◌≡◌, refl, sym, ap, subst, ◌∙◌}
use mathlib.Core.List.{List, [], ◌∷◌, ◌++◌, append-nil, append_assoc}
use lib.ListN.{length, get_or, take, drop, length-append}
use lib.Seq.{length-take-le}
use Rattle.std.proofs.lemmas.List.{take_more}
use Rattle.grid.specs.Lists.{flat_map}
use Rattle.grid.specs.Grid.{Grid, row, col, size}
use Rattle.grid.specs.Side.{sized}
use Rattle.grid.proofs.AppendLaws.{flat_map-append}
use Rattle.record.specs.Problem.{grid_of, arrows_from, puzzle_of}
use Rattle.record.specs.Lines.{start_at}
use Rattle.record.specs.declared.Problem.{Problem}
use Rattle.record.specs.Write.{bits_of, direction, step_bits, arrow_bits, record_bits}
use Rattle.writer.specs.Wrote.{Appends, arrows_size, fields_size}
use Rattle.writer.specs.declared.BitWriter.{BitWriter}
use Rattle.writer.proofs.LineLaws.{start_last}

-- nothing, and one behind the other
pub Appends-none : (s : BitWriter) → Appends 0 [] s s
Appends-none s = record { same = refl; many = refl; place = omega arith; long = refl; wrote = λ before b e w. rw (append-nil b) w }

pub Appends-then : {j k : ℕ} {c d : List ℕ} {s t u : BitWriter} → Appends j c s t → Appends k d t u → Appends (j + k) (c ++ d) s u
Appends-then {c = c} {d = d} a b = record {
  same = b.same ∙ a.same;
  many = omega (arith, a.many, b.many, length-append c d);
  place = omega (arith, a.place, b.place);
  long = b.long ∙ a.long;
  wrote = λ before l e w. rw (← append_assoc l c d) (b.wrote before (l ++ c) (length-append l c ∙ omega (arith, e, a.many, a.place)) (a.wrote before l e w));
}

pub Appends-is : {j k : ℕ} {c d : List ℕ} {s t : BitWriter} → j ≡ k → c ≡ d → Appends j c s t → Appends k d s t
Appends-is {j} {k} {c} {d} {s} {t} e f a = subst (λ l. Appends k l s t) f (subst (λ n. Appends n c s t) e a)

-- the bits of x
pub put_none : (x k : ℕ) (s : BitWriter) → k ≡ 0 → Appends k (bits_of x k) s s
unfolding bits_of
put_none x k s e = rw e (Appends-none s)

pub put_more : (x k : ℕ) {s t u : BitWriter} → (k ≡ 0 → ⊥) → Appends (k - 1) (bits_of (x / 2) (k - 1)) s t → Appends 1 ((x % 2) ∷ []) t u → Appends k (bits_of x k) s u
unfolding bits_of
put_more x zero n a b = absurd (n refl)
put_more x (suc k) {s} {t} {u} n a b =
    let e : suc k - 1 ≡ k = omega arith in
    Appends-is (add-one k) refl (Appends-then (subst (λ m. Appends m (bits_of (x / 2) m) s t) e a) b)

-- one piece more
pub Appends-more : {A : Type 0} (f : A → List ℕ) (l : List A) (x : A) {j k : ℕ} {s t u : BitWriter} → Appends j (flat_map f l) s t → Appends k (f x) t u → Appends (j + k) (flat_map f (l ++ (x ∷ []))) s u
Appends-more f l x a b = Appends-is refl (sym (flat_map-append f l (x ∷ []) ∙ ap (λ m. flat_map f l ++ m) (append-nil (f x)))) (Appends-then a b)

-- none of the codes, and one more
pub cells_none : (codes : List ℕ) (s : BitWriter) → Appends 0 (flat_map (λ c. bits_of c 2) (take 0 codes)) s s
cells_none codes s = Appends-none s

pub cells_more : (codes : List ℕ) (i : ℕ) {s t u : BitWriter} → i < length codes → Appends (2 * i) (flat_map (λ c. bits_of c 2) (take i codes)) s t → Appends 2 (bits_of (get_or codes i 0) 2) t u
    → Appends (2 * (i + 1)) (flat_map (λ c. bits_of c 2) (take (i + 1) codes)) s u
cells_more codes i h a b = Appends-is (omega arith) (ap (flat_map (λ c. bits_of c 2)) (sym (take_more codes i 0 h))) (Appends-more (λ c. bits_of c 2) (take i codes) (get_or codes i 0) a b)

-- none of the steps, and one more
steps_next : (g : Grid) (first : ℕ) (others : List ℕ) (i : ℕ) → i < length others
    → step_bits g first (take i others) ++ bits_of (direction g (get_or (first ∷ others) i 0) (get_or others i 0)) 2 ≡ step_bits g first (take (suc i) others)
unfolding step_bits
steps_next g first [] i h = absurd (omega arith)
steps_next g first (j ∷ js) zero h = sym (append-nil (bits_of (direction g first j) 2))
steps_next g first (j ∷ js) (suc i) h =
    append_assoc (bits_of (direction g first j) 2) (step_bits g j (take i js)) (bits_of (direction g (get_or (j ∷ js) i 0) (get_or js i 0)) 2)
    ∙ ap (λ (l : List ℕ). bits_of (direction g first j) 2 ++ l) (steps_next g j js i (omega arith))

pub steps_none : (g : Grid) (arrow : List ℕ) (s : BitWriter) → Appends 0 (step_bits g (get_or arrow 0 0) (take 0 (drop 1 arrow))) s s
unfolding step_bits
steps_none g arrow s = Appends-none s

pub steps_more : (g : Grid) (arrow : List ℕ) (i : ℕ) {s t u : BitWriter} → i + 1 < length arrow → Appends (2 * i) (step_bits g (get_or arrow 0 0) (take i (drop 1 arrow))) s t
    → Appends 2 (bits_of (direction g (get_or arrow i 0) (get_or arrow (i + 1) 0)) 2) t u → Appends (2 * (i + 1)) (step_bits g (get_or arrow 0 0) (take (i + 1) (drop 1 arrow))) s u
steps_more g [] i h a b = absurd (omega arith)
steps_more g (first ∷ others) i h a b =
    rw (add-one i) (Appends-is (omega arith) (steps_next g first others i (omega arith)) (Appends-then a (rw (add-one i) at b)))

-- the fields of an arrow
pub arrow_Appends : (g : Grid) (arrow : List ℕ) {s t u v w : BitWriter} → 0 < length arrow → Appends 5 (bits_of (get_or arrow 0 0 / g.width) 5) s t → Appends 5 (bits_of (get_or arrow 0 0 % g.width) 5) t u
    → Appends 10 (bits_of (length arrow - 1) 10) u v → Appends (2 * (length arrow - 1)) (step_bits g (get_or arrow 0 0) (drop 1 arrow)) v w → Appends (18 + 2 * length arrow) (arrow_bits g arrow) s w
unfolding arrow_bits row col
arrow_Appends g [] some x y z a = absurd (omega arith)
arrow_Appends g (i ∷ js) some x y z a =
    let e : length (i ∷ js) - 1 ≡ length js = omega arith in
    Appends-is (omega arith) refl (Appends-then x (Appends-then y (Appends-then (rw e at z) a)))

-- one arrow more that is cut out of the line
arrows_next : (line : List ℕ) (at : ℕ) (ends : List ℕ) (k : ℕ) → k < length ends
    → arrows_from line at (take (suc k) ends) ≡ arrows_from line at (take k ends) ++ (take (get_or ends k 0 - get_or (at ∷ ends) k 0) (drop (get_or (at ∷ ends) k 0) line) ∷ [])
unfolding arrows_from
arrows_next line at [] k h = absurd (omega arith)
arrows_next line at (e ∷ es) zero h = refl
arrows_next line at (e ∷ es) (suc k) h = ap (λ (l : List (List ℕ)). take (e - at) (drop at line) ∷ l) (arrows_next line e es k (omega arith))

start_of : (ends : List ℕ) (k : ℕ) → start_at ends k ≡ get_or (0 ∷ ends) k 0
unfolding start_at
start_of ends zero = refl
start_of ends (suc k) = refl

pub arrows_none : (g : Grid) (line ends : List ℕ) (s : BitWriter) → Appends 0 (flat_map (arrow_bits g) (arrows_from line 0 (take 0 ends))) s s
unfolding arrows_from
arrows_none g line ends s = Appends-none s

pub arrows_more : (g : Grid) (line ends : List ℕ) (k from to : ℕ) {j m : ℕ} {s t u : BitWriter} → k < length ends → from ≡ start_at ends k → to ≡ get_or ends k 0
    → Appends j (flat_map (arrow_bits g) (arrows_from line 0 (take k ends))) s t → Appends m (arrow_bits g (take (to - from) (drop from line))) t u
    → Appends (j + m) (flat_map (arrow_bits g) (arrows_from line 0 (take (k + 1) ends))) s u
arrows_more g line ends k from to h p q a b =
    let e : arrows_from line 0 (take k ends) ++ (take (to - from) (drop from line) ∷ []) ≡ arrows_from line 0 (take (k + 1) ends) =
    rw (p ∙ start_of ends k, q) (sym (arrows_next line 0 ends k h)) ∙ ap (λ (n : ℕ). arrows_from line 0 (take n ends)) (sym (add-one k)) in
    Appends-is refl (ap (flat_map (arrow_bits g)) e) (Appends-more (arrow_bits g) (arrows_from line 0 (take k ends)) (take (to - from) (drop from line)) a b)

pub arrows_all : (q : Problem) (k from : ℕ) {s t : BitWriter} → k ≡ q.count → k ≤ length q.ends → from ≡ start_at q.ends k
    → Appends (18 * k + 2 * from) (flat_map (arrow_bits (sized q.height q.width)) (arrows_from q.arrows 0 (take k q.ends))) s t
    → Appends (arrows_size q) (flat_map (arrow_bits (grid_of q)) (puzzle_of q).arrows) s t
unfolding puzzle_of grid_of
arrows_all q k from e l p a =
    let size : 18 * k + 2 * from ≡ arrows_size q = rw (p ∙ start_last q.ends k l, e) refl in
    Appends-is size (ap (λ (n : ℕ). flat_map (arrow_bits (sized q.height q.width)) (arrows_from q.arrows 0 (take n q.ends))) e) a

-- as many arrows as ends
length-arrows_from : (line : List ℕ) (at : ℕ) (ends : List ℕ) → length (arrows_from line at ends) ≡ length ends
unfolding arrows_from
length-arrows_from line at [] = refl
length-arrows_from line at (e ∷ es) = ap suc (length-arrows_from line e es)

-- all fields of a record
pub fields_Appends : (q : Problem) {s t u v w x : BitWriter} → q.height * q.width ≤ length q.cells → q.count ≤ length q.ends → Appends 5 (bits_of (q.height - 1) 5) s t → Appends 5 (bits_of (q.width - 1) 5) t u
    → Appends 11 (bits_of q.count 11) u v → Appends (2 * length (take (q.height * q.width) q.cells)) (flat_map (λ c. bits_of c 2) (take (q.height * q.width) q.cells)) v w
    → Appends (arrows_size q) (flat_map (arrow_bits (grid_of q)) (puzzle_of q).arrows) w x → Appends (fields_size q) (record_bits (puzzle_of q)) s x
unfolding record_bits puzzle_of grid_of size
fields_Appends q h k a b c d e =
    let many : q.count ≡ length (arrows_from q.arrows 0 (take q.count q.ends)) = sym (length-arrows_from q.arrows 0 (take q.count q.ends) ∙ length-take-le q.count q.ends k) in
    Appends-is (omega (arith, length-take-le (q.height * q.width) q.cells h)) refl (Appends-then a (Appends-then b (Appends-then (rw many at c) (Appends-then d e))))
