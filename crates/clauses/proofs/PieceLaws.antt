-- Clauses as bytes: one after another, and those of each kind.
-- Assumes nothing.
use Prim.Native.Nat.{ℕ, zero, suc, ◌+◌, ◌-◌, ◌/◌, ◌%◌, ◌<◌}
use native.Mathlib.Omega.{arith}
use mathlib.Core.Path.{◌≡◌, refl, sym, ap, ◌∙◌}
use mathlib.Core.Bool.{not}
use mathlib.Core.List.{List, [], ◌∷◌, ◌++◌, map, append-nil, map-map}
use lib.Dec.{eqb}
use lib.ListN.{length, get_or, set, take, drop, length-map, length-append, length-drop}
use lib.Seq.{ext_get_or, length-take-le}
use borrow.Author.Tests.{eq-eqb, ne_eqb}
use Rattle.std.proofs.Common.{take_all}
use Rattle.std.proofs.lemmas.List.{get_or-map, get_or_default}
use Rattle.std.proofs.lemmas.List.Edits.{map_over_more}
use Rattle.grid.specs.Lists.{flat_map, filter, upto, range}
use Rattle.grid.specs.Cells.{word}
use Rattle.grid.proofs.ListLaws.{length-map-upto, map-upto_at}
use Rattle.grid.proofs.AppendLaws.{flat_map-append}
use Rattle.exported.specs.Written.{bytes_of}
use Rattle.clauses.specs.Clauses.{Clause, given_at, apart, others_of, arrow_clauses, clause_bytes, clauses_bytes}

-- clauses one after another
pub clauses_append : (l m : List Clause) → clauses_bytes (l ++ m) ≡ clauses_bytes l ++ clauses_bytes m
unfolding clauses_bytes
clauses_append l m = flat_map-append clause_bytes l m

pub clauses_one : (c : Clause) → clauses_bytes (c ∷ []) ≡ clause_bytes c
unfolding clauses_bytes
clauses_one c = append-nil (clause_bytes c)

pub clauses_none : clauses_bytes [] ≡ []
unfolding clauses_bytes
clauses_none = refl

pub map_pieces : {A : Type 0} (f : A → Clause) (l : List A) → flat_map (λ x. clause_bytes (f x)) l ≡ clauses_bytes (map f l)
unfolding clauses_bytes
map_pieces f [] = refl
map_pieces f (x ∷ l) = ap (λ r. clause_bytes (f x) ++ r) (map_pieces f l)

pub flat_pieces : {A : Type 0} (f : A → List Clause) (l : List A) → flat_map (λ x. clauses_bytes (f x)) l ≡ clauses_bytes (flat_map f l)
unfolding clauses_bytes
flat_pieces f [] = refl
flat_pieces f (x ∷ l) = ap (λ r. flat_map clause_bytes (f x) ++ r) (flat_pieces f l) ∙ sym (flat_map-append clause_bytes (f x) (flat_map f l))

-- ---- the literals of a cell

word_0 : (i : ℕ) → word (i, 0) ≡ i
unfolding word
word_0 i = omega arith

pub word_1 : (i : ℕ) → word (i, 1) ≡ 32768 + i
unfolding word
word_1 i = omega arith

-- ---- a clause of each kind

-- black, given, plain
pub given_black : (i : ℕ) → bytes_of (1 ∷ i ∷ []) ≡ clauses_bytes (given_at 1 i)
unfolding given_at clause_bytes
given_black i = sym (clauses_one ((i, 0) ∷ []) ∙ ap (λ (x : ℕ). bytes_of (1 ∷ x ∷ [])) (word_0 i))

pub given_square : (i : ℕ) → bytes_of (1 ∷ (32768 + i) ∷ []) ≡ clauses_bytes (given_at 2 i)
unfolding given_at clause_bytes
given_square i = sym (clauses_one ((i, 1) ∷ []) ∙ ap (λ (x : ℕ). bytes_of (1 ∷ x ∷ [])) (word_1 i))

pub given_plain : (c i : ℕ) → (c ≡ 1 → ⊥) → (c ≡ 2 → ⊥) → given_at c i ≡ []
unfolding given_at
given_plain c i n m = rw (ne_eqb c 1 n, ne_eqb c 2 m) refl

-- two cells, and three
pub apart_bytes : (i j : ℕ) → bytes_of (2 ∷ i ∷ j ∷ []) ≡ clauses_bytes (apart i j ∷ [])
unfolding clause_bytes
apart_bytes i j = sym (clauses_one (apart i j) ∙ rw (word_0 i, word_0 j) refl)

pub between_bytes : (x i y : ℕ) → bytes_of (3 ∷ x ∷ i ∷ y ∷ []) ≡ clause_bytes ((x, 0) ∷ (i, 0) ∷ (y, 0) ∷ [])
unfolding clause_bytes
between_bytes x i y = sym (rw (word_0 x, word_0 i, word_0 y) refl)

-- ---- the cells of an arrow

-- the literals of cells as 1
abbrev pub squares_of : List ℕ → List ℕ
squares_of = map (λ j. word (j, 1))

-- one more of an array that becomes its literals
pub next_square : (cells literals : List ℕ) (k : ℕ) → k < length cells → literals ≡ squares_of (take k cells) ++ drop k cells
    → set literals k (get_or literals k 0 + 32768) ≡ squares_of (take (k + 1) cells) ++ drop (k + 1) cells
next_square cells literals k h e =
    let f : ℕ → ℕ = λ j. word (j, 1) in
    let x = get_or literals k 0 in
    let long : length literals ≡ length cells =
    omega (arith, h, ap length e, length-append (map f (take k cells)) (drop k cells), length-map (take k cells) f, length-take-le k cells (omega (arith, h)), length-drop k cells) in
    let w : x + 32768 ≡ f x = omega (arith, word_1 x) in
    ap (set literals k) w ∙ map_over_more f cells literals k x h e (get_or_default literals k 0 x (omega (arith, h, long)))

-- all but one
rest_kept : (j s n : ℕ) → j < s → filter (λ t. not (eqb t j)) (range s n) ≡ range s n
unfolding range
rest_kept j s zero h = refl
rest_kept j s (suc n) h = rw (ne_eqb s j (λ e. omega arith)) (ap (λ (l : List ℕ). s ∷ l) (rest_kept j (suc s) n (omega arith)))

others_range : (g : ℕ → ℕ) (j s k n : ℕ) → j ≡ s + k → k < n → map g (filter (λ t. not (eqb t j)) (range s n)) ≡ take k (map g (range s n)) ++ drop (suc k) (map g (range s n))
unfolding range
others_range g j s k zero e h = absurd (omega arith)
others_range g j s zero (suc n) e h = rw (eq-eqb s j (omega arith), rest_kept j (suc s) n (omega arith)) refl
others_range g j s (suc k) (suc n) e h = rw (ne_eqb s j (λ q. omega arith)) (ap (λ (l : List ℕ). g s ∷ l) (others_range g j (suc s) k n (omega arith) (omega arith)))

others_words : (a : List ℕ) (k : ℕ) → k < length a → map word (others_of a k) ≡ take k (squares_of a) ++ drop (suc k) (squares_of a)
unfolding others_of upto
others_words a k h =
    let g : ℕ → ℕ = λ t. word (get_or a t 0, 1) in
    map-map word (λ (t : ℕ). (get_or a t 0, 1)) (filter (λ t. not (eqb t k)) (range 0 (length a)))
    ∙ others_range g k 0 k (length a) (omega arith) h
    ∙ ap (λ (l : List ℕ). take k l ++ drop (suc k) l) whole
  where
    whole : map (λ t. word (get_or a t 0, 1)) (upto (length a)) ≡ squares_of a
    whole = ext_get_or 0 (map (λ t. word (get_or a t 0, 1)) (upto (length a))) (squares_of a)
        (length-map-upto (λ t. word (get_or a t 0, 1)) (length a) ∙ sym (length-map a (λ (j : ℕ). word (j, 1))))
        (λ t l. let m : t < length a = omega (arith, length-map-upto (λ t. word (get_or a t 0, 1)) (length a)) in
        map-upto_at (λ t. word (get_or a t 0, 1)) (length a) t 0 m ∙ sym (get_or-map (λ (j : ℕ). word (j, 1)) a t 0 0 m))

bytes_append : (l m : List ℕ) → bytes_of (l ++ m) ≡ bytes_of l ++ bytes_of m
unfolding bytes_of
bytes_append l m = flat_map-append (λ x. x / 256 ∷ x % 256 ∷ []) l m

others_there : (a : List ℕ) (k : ℕ) → k < length a
    → bytes_of ((length (squares_of a) - 1) ∷ []) ++ (bytes_of (take k (squares_of a)) ++ bytes_of (drop (k + 1) (squares_of a))) ≡ clause_bytes (others_of a k)
unfolding clause_bytes
others_there a k h =
    let z : k + 1 ≡ suc k = omega arith in
    let words = others_words a k h in
    let long = length-map a (λ (j : ℕ). word (j, 1)) in
    let n : length (others_of a k) ≡ length (squares_of a) - 1 =
    omega (arith, h, long, length-map (others_of a k) word, ap length words, length-append (take k (squares_of a)) (drop (suc k) (squares_of a)), length-take-le k (squares_of a) (omega (arith, h, long)), length-drop (suc k) (squares_of a)) in
    let whole : (length (squares_of a) - 1) ∷ (take k (squares_of a) ++ drop (k + 1) (squares_of a)) ≡ length (others_of a k) ∷ map word (others_of a k) = rw (n, words, z) refl in
    ap (λ (l : List ℕ). bytes_of ((length (squares_of a) - 1) ∷ []) ++ l) (sym (bytes_append (take k (squares_of a)) (drop (k + 1) (squares_of a))))
    ∙ sym (bytes_append ((length (squares_of a) - 1) ∷ []) (take k (squares_of a) ++ drop (k + 1) (squares_of a))) ∙ ap bytes_of whole

-- the clause of the cell at place k: the count, and the literals before and behind it
pub others_bytes : (a literals : List ℕ) (k : ℕ) → literals ≡ squares_of a → k < length literals
    → bytes_of ((length literals - 1) ∷ []) ++ (bytes_of (take k literals) ++ bytes_of (take (length literals - (k + 1)) (drop (k + 1) literals))) ≡ clause_bytes (others_of a k)
others_bytes a literals k e l = rw (take_all (length literals - (k + 1)) (drop (k + 1) literals) (omega (arith, length-drop (k + 1) literals)), e) (others_there a k (omega (arith, l, ap length e, length-map a (λ (j : ℕ). word (j, 1)))))

-- those of all its cells
pub all_others : (a literals : List ℕ) (k : ℕ) → literals ≡ squares_of a → k ≡ length literals → map (others_of a) (upto k) ≡ arrow_clauses a
unfolding arrow_clauses
all_others a literals k e l =
    let n : k ≡ length a = omega (arith, l, ap length e, length-map a (λ (j : ℕ). word (j, 1))) in
    rw n refl
