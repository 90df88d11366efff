-- What the exported calls can return. The host call: a count from 0 to 3 × H × W + 1, or a negated refusal of 1 to 5, 7, 9, 11 and 12. Never 6, 8 or 10.
-- In an edition with sizes 16 and 22 come to these.
-- Assumes nothing.
use Prim.Native.Nat.{ℕ, zero, suc, ◌+◌, ◌*◌, ◌/◌, ◌%◌, ◌≤◌, ◌<◌}
use native.Mathlib.Omega.{arith}
use native.Mathlib.Decide.{ℕ_discrete}
use mathlib.Core.Logic.{◌⊎◌, inl, inr}
use mathlib.Core.Path.{◌≡◌, refl, sym, ◌∙◌}
use mathlib.Core.Bool.{Bool, true, false, cond, ◌&&◌, ◌||◌, not, false≢true}
use mathlib.Core.List.Memᴰ
use mathlib.Core.List.{List, [], ◌∷◌, ◌++◌, Memᴰ}
use mathlib.Core.Option.{none, some}
use lib.Dec.{eqb, leb, ltb}
use lib.IntN.{ℤ, pos, neg_ℤ}
use lib.ListN.{length}
use borrow.Author.Tests.{ltb-true, leb-false, eqb-true, eq-eqb, not-true}
use Rattle.grid.specs.Lists.{all, member}
use Rattle.grid.specs.Grid.{Grid, size, up, down, left, right}
use Rattle.grid.proofs.ListLaws.{all-mem, and-true}
use Rattle.record.specs.Record.{Outcome, ok, refused, ◌>>=◌, unless, Puzzle, number, field, cell_codes, there, step_from, step_cells, arrow_at, filler, arrows_at, read_record, Bytes}
use Rattle.record.specs.Arrows.{on_arrow}
use Rattle.record.specs.Leaf.{Leaf, in_edition, is_edition, range_at, range_test, ranges_from, sizes_of}
use Rattle.record.specs.Head.{Head, read_head}
use Rattle.record.proofs.LeafLaws.{ValidLeaf, leaf_ok}
use Rattle.record.proofs.RecordLaws.{record_Valid, Valid-size}
use Rattle.record.proofs.HeadLaws.{head_fault}
use Rattle.finished.specs.Finished.{finished_test}
use Rattle.grid.specs.Cells.{Literal}
use Rattle.board.specs.Board.{decide, refusal, decided, cells_after, enough}
use Rattle.board.proofs.Standing.{Standing, none, after-Standing, Standing-calls, Standing-low}
use Rattle.literals.specs.Literals.{Found}
use Rattle.reasons.specs.Reasons.{find_reason, find_on}
use Rattle.reasons.proofs.NonEmpty.{reason_some}
use Rattle.reasons.proofs.ReasonLaws.{found_length}
use Rattle.reasons.proofs.OnMachine.{on_machine}
use Rattle.clauses.specs.Clauses.{sheet_bytes, sheet_within, sheet_for}
use Rattle.clauses.proofs.LengthLaws.{sheet_most}
use Rattle.shades.specs.Shades.{shades_on}
use Rattle.shades.proofs.ShadeLaws.{shades_length}
use Rattle.certain.specs.Tree.{Reached, search_of}
use Rattle.certain.specs.Facts.{certainty, untold, known, certain_by, Spent, Facts}
use Rattle.file.specs.File.{tail_of, cells_in, tail_test, solution_in, Graded, Solved, graded_in, solved_in, player_behind, setter_behind}
use Rattle.file.specs.Call.{Given, to_player, to_setter, player_within, setter_within, player_given, setter_given}
use Rattle.file.proofs.TailLaws.{solution_length}
use Rattle.exported.specs.Written.{bytes_of}
use Rattle.exported.proofs.BytesLaws.{bytes_length}
use Rattle.sizes.specs.Bytes.{numbers_in, sizes_in}
use Rattle.calls.specs.Call.{accept_or, decide_bytes, call_on, host_call, leaf_from, host_call_with}
use Rattle.calls.proofs.Opened.{from_opened, from_valid}
use Rattle.calls.proofs.Steps.{first_leaf}
use Rattle.certificate.specs.Certificate.{words_of, whole_words, claimed, headed}
use Rattle.unique.specs.Unique.{steps_of, solution_or, host_unique}
use Rattle.unique.proofs.StepLaws.{Refusal, steps_Refusal}
use Rattle.calls.specs.Found.{host_finds, host_finds_with, returned}
use Rattle.calls.specs.Judged.{host_finished, host_finished_with}
use Rattle.calls.specs.Shaded.{host_shades}
use Rattle.calls.specs.Told.{certainty_number, Said, said_of, certain_on, host_certain, host_certain_with}
use Rattle.host.specs.Returns.{faults, refusals, host_refusals, with_refusals, unique_refusals, Returns, negated_refusal, literal_count, Possible, refusal_of, value_of, FoundOn, no_reason, some_reason, FoundWith}

-- ---- an outcome step by step

-- any value
abbrev pub Any : {A : Type 0} → A → Type 0
Any a = Unit {0}

-- a test that computes without being opened
abbrev pub among : ℕ → List ℕ → Bool
among k [] = false
among k (j ∷ js) = eqb k j || among k js

pub listed : (k : ℕ) (ks : List ℕ) → among k ks ≡ true → Memᴰ k ks
listed k [] e = absurd (false≢true e)
listed k (j ∷ js) e = go (eqb k j) refl (λ (f : among k js ≡ true). listed k js f) e
  where
    go : (t : Bool) → eqb k j ≡ t → (among k js ≡ true → Memᴰ k js) → (t || among k js) ≡ true → Memᴰ k (j ∷ js)
    go true q rest e = Memᴰ.head (eqb-true k j q)
    go false q rest e = Memᴰ.tail (rest e)

pub in_list : {k : ℕ} {ks : List ℕ} → Memᴰ k ks → among k ks ≡ true
in_list {k} (Memᴰ.head {x = j} e) = rw (eq-eqb k j e) refl
in_list {k} (Memᴰ.tail {x = j} {xs = js} m) = go (eqb k j) (in_list m)
  where
    go : (t : Bool) → among k js ≡ true → (t || among k js) ≡ true
    go true e = refl
    go false e = e

module _ {ks : List ℕ} {A : Type 0} where
  pub then_Possible : {B : Type 0} {P : A → Type 0} {Q : B → Type 0} {o : Outcome A} {f : A → Outcome B} → Possible ks P o → ((a : A) → P a → Possible ks Q (f a)) → Possible ks Q (o >>= f)
  unfolding ◌>>=◌
  then_Possible (refusal_of m) h = refusal_of m
  then_Possible (value_of {a} p) h = h a p

  -- the value is that of the outcome
  itself : {P : A → Type 0} {o : Outcome A} → Possible ks P o → Possible ks (λ a. o ≡ ok a) o
  itself (refusal_of m) = refusal_of m
  itself (value_of p) = value_of refl

  -- a longer list, a weaker property
  pub Possible-more : {P Q : A → Type 0} {js : List ℕ} {o : Outcome A} → ((k : ℕ) → Memᴰ k ks → Memᴰ k js) → ((a : A) → P a → Q a) → Possible ks P o → Possible js Q o
  Possible-more h q (refusal_of m) = refusal_of (h _ m)
  Possible-more h q (value_of p) = value_of (q _ p)

pub unless-Possible : {ks : List ℕ} (t : Bool) (k : ℕ) → (t ≡ false → Memᴰ k ks) → Possible ks Any (unless t k)
unfolding unless
unless-Possible true k m = value_of tt
unless-Possible false k m = refusal_of (m refl)

-- ---- the record: 1 to 5

field-Possible : (s : List ℕ) (at k : ℕ) → Possible faults Any (field s at k)
unfolding field
field-Possible s at k = go (leb (at + k) (8 * length s))
  where
    go : (t : Bool) → Possible faults Any (cond t (ok (number s at k)) (refused 1))
    go true = value_of tt
    go false = refusal_of (listed 1 faults refl)

codes_Possible : (s : List ℕ) (at n : ℕ) → Possible faults Any (cell_codes s at n)
unfolding cell_codes
codes_Possible s at zero = value_of tt
codes_Possible s at (suc n) =
    then_Possible (field-Possible s at 2) λ c _. then_Possible (unless-Possible (ltb c 3) 2 (λ _. listed 2 faults refl)) λ _ _.
    then_Possible (codes_Possible s (at + 2) n) λ cs _. value_of tt

there-Possible : (l : List ℕ) → Possible faults Any (there l)
unfolding there
there-Possible [] = refusal_of (listed 3 faults refl)
there-Possible (j ∷ js) = value_of tt

step_Possible : (g : Grid) (i d : ℕ) → Possible faults Any (step_from g i d)
unfolding step_from
step_Possible g i zero = there-Possible (up g i)
step_Possible g i (suc zero) = there-Possible (down g i)
step_Possible g i (suc (suc zero)) = there-Possible (left g i)
step_Possible g i (suc (suc (suc d))) = there-Possible (right g i)

steps_Possible : (s : List ℕ) (g : Grid) (used : List ℕ) (i at k : ℕ) → Possible faults Any (step_cells s g used i at k)
unfolding step_cells
steps_Possible s g used i at zero = value_of tt
steps_Possible s g used i at (suc k) =
    then_Possible (field-Possible s at 2) λ d _. then_Possible (step_Possible g i d) λ j _. then_Possible (unless-Possible (not (member j used)) 4 (λ _. listed 4 faults refl)) λ _ _.
    then_Possible (steps_Possible s g (j ∷ used) j (at + 2) k) λ js _. value_of tt

arrow_Possible : (s : List ℕ) (g : Grid) (used : List ℕ) (at : ℕ) → Possible faults Any (arrow_at s g used at)
unfolding arrow_at
arrow_Possible s g used at =
    then_Possible (field-Possible s at 5) λ y _. then_Possible (field-Possible s (at + 5) 5) λ x _. then_Possible (field-Possible s (at + 10) 10) λ k _.
    then_Possible (unless-Possible (ltb y g.height && ltb x g.width) 3 (λ _. listed 3 faults refl)) λ _ _.
    then_Possible (unless-Possible (not (member (y * g.width + x) used)) 4 (λ _. listed 4 faults refl)) λ _ _.
    then_Possible (steps_Possible s g ((y * g.width + x) ∷ used) (y * g.width + x) (at + 20) k) λ js _. value_of tt

arrows_Possible : (s : List ℕ) (g : Grid) (used : List ℕ) (at m : ℕ) → Possible faults Any (arrows_at s g used at m)
unfolding arrows_at
arrows_Possible s g used at zero = then_Possible (unless-Possible (filler s at) 5 (λ _. listed 5 faults refl)) λ _ _. value_of tt
arrows_Possible s g used at (suc m) =
    then_Possible (arrow_Possible s g used at) λ a _. then_Possible (arrows_Possible s g (a ++ used) (at + 18 + 2 * length a) m) λ rest _. value_of tt

pub read_Possible : (s : List ℕ) → Possible faults Any (read_record s)
unfolding read_record
read_Possible s =
    then_Possible (field-Possible s 0 5) λ h _. then_Possible (field-Possible s 5 5) λ w _. then_Possible (field-Possible s 10 11) λ m _.
    let g : Grid = record { height = h + 1; width = w + 1 } in
    then_Possible (codes_Possible s 21 (size g)) λ cs _. then_Possible (arrows_Possible s g [] (21 + 2 * size g) m) λ rest _. value_of tt

-- they are among those of the record and of the decisions
fault_refusal : (k : ℕ) → Memᴰ k faults → Memᴰ k refusals
fault_refusal k m = Memᴰ.append_left (7 ∷ 9 ∷ 12 ∷ []) m

-- ---- a leaf in an edition with sizes: 1 to 5, 16, 22

pub ranges_Possible : (on : ℕ → Bool) (from : ℕ) (ns : List ℕ) → Possible (22 ∷ []) Any (ranges_from on from ns)
unfolding ranges_from
ranges_Possible on from [] = value_of tt
ranges_Possible on from (c ∷ []) = refusal_of (Memᴰ.head refl)
ranges_Possible on from (c ∷ l ∷ []) = refusal_of (Memᴰ.head refl)
ranges_Possible on from (c ∷ l ∷ h ∷ ns) =
    then_Possible (unless-Possible (range_test on from (range_at c l h)) 22 (λ _. Memᴰ.head refl)) λ _ _. then_Possible (ranges_Possible on (suc c) ns) λ rs _. value_of tt

numbers_Possible : (bytes : List ℕ) → Possible (22 ∷ []) Any (numbers_in bytes)
unfolding numbers_in
numbers_Possible [] = value_of tt
numbers_Possible (x ∷ []) = refusal_of (Memᴰ.head refl)
numbers_Possible (x ∷ y ∷ bytes) = then_Possible (numbers_Possible bytes) λ ns _. value_of tt

sizes_Possible : (p : Puzzle) (bytes : List ℕ) → Possible (22 ∷ []) Any (sizes_in p bytes)
unfolding sizes_in sizes_of
sizes_Possible p bytes = then_Possible (numbers_Possible bytes) λ ns _. ranges_Possible (on_arrow p.arrows) 0 ns

-- the leaf, or one of these refusals, where the list has them
leaf_Possible : {ks : List ℕ} → ((k : ℕ) → Memᴰ k (16 ∷ 22 ∷ faults) → Memᴰ k ks) → (s : List ℕ) (e : ℕ) (sizes : List ℕ)
    → Possible ks (λ (l : Leaf). leaf_from s e sizes ≡ ok l) (leaf_from s e sizes)
unfolding leaf_from
leaf_Possible {ks} has s e sizes = itself opened
  where
    first : {k : ℕ} → Memᴰ k (22 ∷ []) → Memᴰ k (22 ∷ faults)
    first m = Memᴰ.append_left faults m

    opened : Possible ks Any (leaf_from s e sizes)
    opened =
        then_Possible (Possible-more (λ k m. has k (Memᴰ.tail (Memᴰ.tail m))) (λ p _. tt {0}) (read_Possible s)) λ p _.
        then_Possible (unless-Possible (is_edition e) 16 (λ _. has 16 (Memᴰ.head refl))) λ _ _.
        then_Possible (Possible-more (λ k m. has k (Memᴰ.tail (first m))) (λ rs _. tt {0}) (sizes_Possible p sizes)) λ rs _. value_of tt

-- its record is read
leaf_reads : (s : List ℕ) (e : ℕ) (sizes : List ℕ) {l : Leaf} → leaf_from s e sizes ≡ ok l → read_record s ≡ ok l.puzzle
leaf_reads s e sizes k = let a = from_opened s e sizes k in (leaf_ok s e a.0 a.2).read

-- ---- the decisions: 12, 7, 9, and 8 only for a value that two bytes don't have

module _ {ks : List ℕ} (has : (k : ℕ) → Memᴰ k refusals → Memᴰ k ks) where
  accept_Possible : {P : List Literal → Type 0} (k : ℕ) {o : Outcome (List Literal)} → (0 < k → Memᴰ k ks) → Possible ks P o → Possible ks P (accept_or k o)
  unfolding accept_or
  accept_Possible zero m p = p
  accept_Possible (suc k) m p = refusal_of (m (omega arith))

  -- 8 is due to a value above 1 alone
  decide-refusal : (g : Grid) (i v : ℕ) (ds : List Literal) → (1 < v → Memᴰ 8 ks) → 0 < refusal g (decide i v) ds → Memᴰ (refusal g (decide i v) ds) ks
  unfolding refusal
  decide-refusal g i v ds eight = go (ltb i (size g)) (leb v 1) refl (decided ds i)
    where
      go : (a b : Bool) → leb v 1 ≡ b → (c : Bool) → 0 < cond a (cond b (cond c 9 0) 8) 7 → Memᴰ (cond a (cond b (cond c 9 0) 8) 7) ks
      go true true e true p = has 9 (listed 9 refusals refl)
      go true true e false p = absurd (omega arith)
      go true false e c p = eight (leb-false v 1 e)
      go false b e c p = has 7 (listed 7 refusals refl)

  decide_Possible : (g : Grid) (bytes : List ℕ) → ((a b : ℕ) → Memᴰ a bytes → Memᴰ b bytes → 1 < (a * 256 + b) / 32768 → Memᴰ 8 ks)
      → {ds : List Literal} → Standing g ds → Possible ks (Standing g) (decide_bytes g ds bytes)
  unfolding decide_bytes
  decide_Possible g [] eight s = value_of s
  decide_Possible g (a ∷ []) eight s = refusal_of (has 12 (listed 12 refusals refl))
  decide_Possible g (a ∷ b ∷ rest) eight {ds} s = go (eqb ((a * 256 + b) % 32768 / 1024) 0)
      (accept_Possible (refusal g (decide ((a * 256 + b) % 1024) ((a * 256 + b) / 32768)) ds)
      (decide-refusal g ((a * 256 + b) % 1024) ((a * 256 + b) / 32768) ds (eight a b (Memᴰ.head refl) (Memᴰ.tail (Memᴰ.head refl))))
      (decide_Possible g rest (λ c d p q. eight c d (Memᴰ.tail (Memᴰ.tail p)) (Memᴰ.tail (Memᴰ.tail q)))
      (after-Standing g (decide ((a * 256 + b) % 1024) ((a * 256 + b) / 32768)) s)))
    where
      go : (t : Bool) {o : Outcome (List Literal)} → Possible ks (Standing g) o → Possible ks (Standing g) (cond t o (refused 12))
      go true h = h
      go false h = refusal_of (has 12 (listed 12 refusals refl))

-- ---- the call

-- a record has at most 1,024 cells
pub few_cells : (s : List ℕ) (p : Puzzle) → read_record s ≡ ok p → size p.grid ≤ 1024
few_cells s p e = Valid-size (record_Valid s e)

found_with : (s : List ℕ) (l : Leaf) → ValidLeaf l → read_record s ≡ ok l.puzzle → {ds : List Literal} → Standing l.puzzle.grid ds → FoundWith s (find_on l ds)
found_with s l v e {ds} st = record { puzzle = l.puzzle; reads = e; few = few_cells s l.puzzle e; found = go (find_on l ds) refl }
  where
    go : (f : Found) → find_on l ds ≡ f → FoundOn l.puzzle.grid f
    go none q = no_reason
    go (some r) q =
        let cells = cells_after l.puzzle.grid ds in
        let q' : find_reason l (cells_after l.puzzle.grid ds) ≡ some r = unfold find_on in q in
        let c = Standing-calls l.puzzle.grid st in
        some_reason {r = r} (reason_some l cells r q') (found_length l s e cells r q')
        (λ x m. Standing-low st x (rw c.1 at ((on_machine l v c.0 c.0).stands r (rw c.1 q) x m)))

-- a call on a leaf, where the list has 11 if the output may be too short, and 8 if a value may be above 1
on_Possible : {ks : List ℕ} → ((k : ℕ) → Memᴰ k refusals → Memᴰ k ks) → {A : Type 0} {Q : A → Type 0} (need : Grid → ℕ) (says : Leaf → List Literal → A) (decisions : List ℕ) (k : ℕ) (l : Leaf)
    → (k < need l.puzzle.grid → Memᴰ 11 ks) → ((a b : ℕ) → Memᴰ a decisions → Memᴰ b decisions → 1 < (a * 256 + b) / 32768 → Memᴰ 8 ks)
    → ((ds : List Literal) → Standing l.puzzle.grid ds → Q (says l ds)) → Possible ks Q (call_on need says decisions k l)
on_Possible has need says decisions k l eleven eight q =
    then_Possible (unless-Possible (leb (need l.puzzle.grid) k) 11 (λ f. eleven (leb-false (need l.puzzle.grid) k f))) λ _ _.
    then_Possible (decide_Possible has l.puzzle.grid decisions eight none) λ ds st. value_of (q ds st)

-- what the call can find, where the list has 11 if the output may be too short, and 8 if a value may be above 1
pub host_Possible : {ks : List ℕ} → ((k : ℕ) → Memᴰ k refusals → Memᴰ k ks) → (s decisions : List ℕ) (k : ℕ)
    → ((p : Puzzle) → read_record s ≡ ok p → k < 2 * (3 * size p.grid + 1) → Memᴰ 11 ks)
    → ((a b : ℕ) → Memᴰ a decisions → Memᴰ b decisions → 1 < (a * 256 + b) / 32768 → Memᴰ 8 ks)
    → Possible ks (FoundWith s) (host_finds s decisions k)
unfolding host_finds enough
host_Possible has s decisions k eleven eight =
    then_Possible (itself (Possible-more (λ j m. has j (fault_refusal j m)) (λ p _. tt {0}) (read_Possible s))) λ p e.
    on_Possible has (λ g. 2 * enough g) find_on decisions k (in_edition 1 p) (eleven p e) eight (λ ds st. found_with s (in_edition 1 p) (first_leaf p (record_Valid s e)) e st)

-- two bytes have no value above 1
pub byte_value : {bytes : List ℕ} → Bytes bytes → (a b : ℕ) → Memᴰ a bytes → Memᴰ b bytes → 1 < (a * 256 + b) / 32768 → ⊥
byte_value low a b p q h = omega (arith, low a p, low b q)

-- a number that is returned for what can be found
found_Returns : {ks s : List ℕ} {o : Outcome Found} → Possible ks (FoundWith s) o → Returns ks s (returned o)
unfolding returned
found_Returns (refusal_of m) = negated_refusal m
found_Returns {ks} {s} (value_of f) = counted f.puzzle f.reads f.found
  where
    counted : {f : Found} (p : Puzzle) → read_record s ≡ ok p → FoundOn p.grid f → Returns ks s (returned (ok f))
    counted p e no_reason = literal_count {n = 0} p e (omega arith)
    counted p e (some_reason full few each) = literal_count p e few

-- every number that it returns is one of them
pub host_Returns : (s decisions : List ℕ) (k : ℕ) → Bytes decisions → Returns host_refusals s (returned (host_finds s decisions k))
host_Returns s decisions k low =
    found_Returns (host_Possible (λ _ m. Memᴰ.tail m) s decisions k (λ _ _ _. Memᴰ.head refl) (λ a b p q h. absurd (byte_value low a b p q h)))

-- so it is with the call in an edition with sizes
module _ (s : List ℕ) (e : ℕ) (sizes decisions : List ℕ) (low : Bytes decisions) where
  -- a call on what it opens: what it says, or a refusal of the list, and never 6, 8 or 10
  with_Possible : {A : Type 0} {Q : A → Type 0} (need : Grid → ℕ) (says : Leaf → List Literal → A) (k : ℕ)
      → ((l : Leaf) → leaf_from s e sizes ≡ ok l → (ds : List Literal) → Standing l.puzzle.grid ds → Q (says l ds)) → Possible with_refusals Q (host_call_with need says s e sizes decisions k)
  with_Possible need says k q =
      then_Possible (leaf_Possible (λ k m. opened m) s e sizes) λ l o.
      on_Possible (λ _ m. Memᴰ.tail (Memᴰ.tail (Memᴰ.tail m))) need says decisions k l (λ _. Memᴰ.tail (Memᴰ.tail (Memᴰ.head refl)))
      (λ a b m n h. absurd (byte_value low a b m n h)) (q l o)
    where
      opened : {k : ℕ} → Memᴰ k (16 ∷ 22 ∷ faults) → Memᴰ k with_refusals
      opened (Memᴰ.head z) = Memᴰ.head z
      opened (Memᴰ.tail (Memᴰ.head z)) = Memᴰ.tail (Memᴰ.head z)
      opened (Memᴰ.tail (Memᴰ.tail m)) = Memᴰ.tail (Memᴰ.tail (Memᴰ.tail (fault_refusal _ m)))

  -- what it can find
  pub find_with_Possible : (k : ℕ) → Possible with_refusals (FoundWith s) (host_finds_with s e sizes decisions k)
  unfolding host_finds_with
  find_with_Possible k = with_Possible (λ g. 2 * enough g) find_on k (λ l o ds st. found_with s l (from_valid s e sizes o) (leaf_reads s e sizes o) st)

  pub find_with_Returns : (k : ℕ) → Returns with_refusals s (returned (host_finds_with s e sizes decisions k))
  find_with_Returns k = found_Returns (find_with_Possible k)

  -- whether the leaf is finished: yes or no, or a refusal of the list without 11
  pub finished_with_Possible : Possible (16 ∷ 22 ∷ refusals) (λ (t : Bool). Unit {0}) (host_finished_with s e sizes decisions)
  unfolding host_finished_with
  finished_with_Possible =
      then_Possible (leaf_Possible (λ k m. opened m) s e sizes) λ l _.
      then_Possible (decide_Possible (λ _ m. Memᴰ.tail (Memᴰ.tail m)) l.puzzle.grid decisions (λ a b m n h. absurd (byte_value low a b m n h)) none) λ ds _. value_of tt
    where
      opened : {k : ℕ} → Memᴰ k (16 ∷ 22 ∷ faults) → Memᴰ k (16 ∷ 22 ∷ refusals)
      opened m = Memᴰ.append_left (7 ∷ 9 ∷ 12 ∷ []) m

-- two numbers with one negation are the same
negated_same : (j n : ℕ) → neg_ℤ (pos j) ≡ neg_ℤ (pos n) → j ≡ n
negated_same zero zero e = refl
negated_same zero (suc n) e = let z : ◌≡◌ {A = ℕ} 0 1 = cc in absurd (omega arith)
negated_same (suc j) zero e = let z : ◌≡◌ {A = ℕ} 0 1 = cc in absurd (omega arith)
negated_same (suc j) (suc n) e = cc

-- a count is no negated number
not_count : (n c : ℕ) → 0 < n → pos c ≡ neg_ℤ (pos n) → ⊥
not_count zero c h e = omega arith
not_count (suc n) c h e = let z : ◌≡◌ {A = ℕ} 0 1 = cc in omega arith

-- 6, 8 and 10 are no refusals of the call
other : (n : ℕ) → Memᴰ n (6 ∷ 8 ∷ 10 ∷ []) → (0 < n) × (among n host_refusals ≡ false)
other n m =
    let t = and-true (ltb 0 n) (not (among n host_refusals)) (all-mem (λ j. ltb 0 j && not (among j host_refusals)) (6 ∷ 8 ∷ 10 ∷ []) refl n m) in
    (ltb-true 0 n t.0, not-true (among n host_refusals) t.1)

-- so it never returns the negated 6, 8 or 10
pub never_returned : (s decisions : List ℕ) (k : ℕ) → Bytes decisions → (n : ℕ) → Memᴰ n (6 ∷ 8 ∷ 10 ∷ []) → returned (host_finds s decisions k) ≡ neg_ℤ (pos n) → ⊥
never_returned s decisions k low n o e = go (host_Returns s decisions k low) e
  where
    go : {z : ℤ} → Returns host_refusals s z → z ≡ neg_ℤ (pos n) → ⊥
    go (negated_refusal {k = j} m) q = false≢true (sym (other n o).1 ∙ in_list (Memᴰ.cast (sym (negated_same j n q)) m))
    go (literal_count {n = c} p r h) q = not_count n c (other n o).0 q

-- the call that tells whether a leaf is finished: yes or no, or a refusal of the record or of a decision, and never 6, 8, 10 or 11
pub finished_Possible : (s decisions : List ℕ) → Bytes decisions → Possible refusals (λ (t : Bool). Unit {0}) (host_finished s decisions)
unfolding host_finished
finished_Possible s decisions low =
    then_Possible (Possible-more fault_refusal (λ p _. tt {0}) (read_Possible s)) λ p _.
    then_Possible (decide_Possible (λ _ m. m) p.grid decisions (λ a b m n h. absurd (byte_value low a b m n h)) none) λ ds _. value_of tt

-- the call that writes the clause sheet: at most 2,246,656 bytes, or a refusal of the record or 13
pub clauses_Possible : (s : List ℕ) (n : ℕ) → Possible (13 ∷ faults) (λ (bytes : List ℕ). length bytes ≤ 2246656) (sheet_for n s)
unfolding sheet_for sheet_within
clauses_Possible s n =
    then_Possible (itself (Possible-more (λ _ m. Memᴰ.tail m) (λ p _. tt {0}) (read_Possible s))) λ p e.
    then_Possible (unless-Possible (leb (length (sheet_bytes p)) n) 13 (λ _. Memᴰ.head refl)) λ _ _. value_of (sheet_most s p e)

-- a call in the host call's order: what it says, or a refusal of the record or of a decision, or 11, and never 6, 8 or 10
call_Possible : {A : Type 0} {Q : A → Type 0} (need : Grid → ℕ) (says : Leaf → List Literal → A) (s decisions : List ℕ) (k : ℕ) → Bytes decisions
    → ((p : Puzzle) → read_record s ≡ ok p → (ds : List Literal) → Q (says (in_edition 1 p) ds)) → Possible host_refusals Q (host_call need says s decisions k)
call_Possible need says s decisions k low q =
    then_Possible (itself (Possible-more (λ x m. Memᴰ.tail (fault_refusal x m)) (λ p _. tt {0}) (read_Possible s))) λ p e.
    on_Possible (λ _ m. Memᴰ.tail m) need says decisions k (in_edition 1 p) (λ _. Memᴰ.head refl) (λ a b m n h. absurd (byte_value low a b m n h)) (λ ds _. q p e ds)

-- the call for the shades: 4 × H × W bytes
pub shades_Possible : (s decisions : List ℕ) (k : ℕ) → Bytes decisions
    → Possible host_refusals (λ (l : List ℕ). (p : Puzzle) × (read_record s ≡ ok p) × (length l ≡ 4 * size p.grid)) (host_shades s decisions k)
unfolding host_shades
shades_Possible s decisions k low =
    call_Possible (λ g. 4 * size g) (λ l ds. bytes_of (shades_on l.puzzle.grid (cells_after l.puzzle.grid ds))) s decisions k low
    (λ p e ds. (p, e, omega (arith, bytes_length (shades_on p.grid (cells_after p.grid ds)), shades_length p.grid (cells_after p.grid ds))))

-- the call for the cells that are certain: 0, 1 or 2
abbrev pub SaidOne : Said → Type 0
SaidOne x = (x.number ≡ pos 0) ⊎ (x.number ≡ pos 1) ⊎ (x.number ≡ pos 2)

certain_by_cases : (n budget : ℕ) (r : Reached) → certain_by n budget r ≡ cond (leb r.steps budget) (known n r) (untold Spent budget)
unfolding certain_by
certain_by_cases n budget r = refl

pub search_number : (n budget : ℕ) (r : Reached) → SaidOne (said_of n (certain_by n budget r))
unfolding said_of
search_number = number_is
  where
    told : (boards : List (List ℕ)) → (certainty_number (certainty boards) ≡ pos 0) ⊎ (certainty_number (certainty boards) ≡ pos 1) ⊎ (certainty_number (certainty boards) ≡ pos 2)
    told [] = unfold certainty certainty_number in inr (inl refl)
    told (b ∷ bs) = unfold certainty certainty_number in inl refl

    by : (t : Bool) (n budget : ℕ) (r : Reached) (f : Facts) → f ≡ cond t (known n r) (untold Spent budget)
        → (certainty_number f.answer ≡ pos 0) ⊎ (certainty_number f.answer ≡ pos 1) ⊎ (certainty_number f.answer ≡ pos 2)
    by true n budget r f e = rw e (unfold known in told r.boards)
    by false n budget r f e = rw e (unfold untold certainty_number in inr (inr refl))

    number_is : (n budget : ℕ) (r : Reached)
        → (certainty_number (certain_by n budget r).answer ≡ pos 0) ⊎ (certainty_number (certain_by n budget r).answer ≡ pos 1) ⊎ (certainty_number (certain_by n budget r).answer ≡ pos 2)
    number_is n budget r = by (leb r.steps budget) n budget r (certain_by n budget r) (certain_by_cases n budget r)

certain_number : (budget : ℕ) (l : Leaf) (ds : List Literal) → SaidOne (certain_on budget l ds)
certain_number budget l ds = search_number (size l.puzzle.grid) budget (search_of l (cells_after l.puzzle.grid ds))

pub certain_Possible : (s decisions : List ℕ) (budget k : ℕ) → Bytes decisions → Possible host_refusals SaidOne (host_certain s decisions budget k)
unfolding host_certain
certain_Possible s decisions budget k low = call_Possible (λ g. 8 + size g) (certain_on budget) s decisions k low (λ p e ds. certain_number budget (in_edition 1 p) ds)

pub certain_with_Possible : (s : List ℕ) (e : ℕ) (sizes decisions : List ℕ) (budget k : ℕ) → Bytes decisions → Possible with_refusals SaidOne (host_certain_with s e sizes decisions budget k)
unfolding host_certain_with
certain_with_Possible s e sizes decisions budget k low = with_Possible s e sizes decisions low (λ g. 8 + size g) (certain_on budget) k (λ l o ds _. certain_number budget l ds)

-- the call that checks a certificate: that it is accepted, or a refusal of the record, 16 or 22, or one of the certificate
pub unique_Possible : (s : List ℕ) (e : ℕ) (sizes c : List ℕ) → Possible unique_refusals (λ (solution : List ℕ). Unit {0}) (host_unique s e sizes c)
unfolding host_unique
unique_Possible s e sizes c =
    then_Possible (leaf_Possible (λ k m. Memᴰ.append_left (23 ∷ 24 ∷ 25 ∷ 26 ∷ 27 ∷ 28 ∷ 29 ∷ 30 ∷ []) m) s e sizes) λ l _.
    then_Possible (unless-Possible (whole_words c) 23 (λ _. listed 23 unique_refusals refl)) λ _ _.
    then_Possible (unless-Possible (headed (size l.puzzle.grid) (words_of c)) 24 (λ _. listed 24 unique_refusals refl)) λ _ _.
    then_Possible (unless-Possible (finished_test l (claimed (size l.puzzle.grid) (words_of c))) 25 (λ _. listed 25 unique_refusals refl)) λ _ _.
    solved (steps_of l (words_of c)) (claimed (size l.puzzle.grid) (words_of c)) (steps_Refusal l (words_of c) (length (words_of c)) (size l.puzzle.grid + 2))
  where
    one : (k : ℕ) → 26 ≤ k → k ≤ 30 → Memᴰ k unique_refusals
    one k h m = go (ℕ_discrete k 26) (ℕ_discrete k 27) (ℕ_discrete k 28) (ℕ_discrete k 29)
      where
        go : Dec (k ≡ 26) → Dec (k ≡ 27) → Dec (k ≡ 28) → Dec (k ≡ 29) → Memᴰ k unique_refusals
        go (yes q) b c d = rw q (listed 26 unique_refusals refl)
        go (no a) (yes q) c d = rw q (listed 27 unique_refusals refl)
        go (no a) (no b) (yes q) d = rw q (listed 28 unique_refusals refl)
        go (no a) (no b) (no c) (yes q) = rw q (listed 29 unique_refusals refl)
        go (no a) (no b) (no c) (no d) = let q : k ≡ 30 = omega arith in rw q (listed 30 unique_refusals refl)

    solved : (k : ℕ) (solution : List ℕ) → Refusal k → Possible unique_refusals (λ (solution : List ℕ). Unit {0}) (solution_or k solution)
    solved zero solution r = unfold solution_or in value_of tt
    solved (suc k) solution (inl z) = absurd (omega arith)
    solved (suc k) solution (inr r) = unfold solution_or in refusal_of (one (suc k) r.0 r.1)

-- the record at the head of a file: 1 to 5
head_Possible : (s : List ℕ) → Possible faults Any (read_head s)
head_Possible s = go (read_head s) refl
  where
    same : {k : ℕ} → Possible faults (Any {A = Puzzle}) (refused k) → Possible faults (Any {A = Head}) (refused k)
    same (refusal_of m) = refusal_of m

    go : (o : Outcome Head) → read_head s ≡ o → Possible faults Any o
    go (refused k) e = same (rw (head_fault s e) at (read_Possible s))
    go (ok h) e = value_of tt

-- the player's call for a file: the length of its record and one byte, or a refusal of the record, or 11 or 20
pub player_Possible : (n : ℕ) (s : List ℕ)
    → Possible (11 ∷ 20 ∷ faults) (λ (a : Given). (h : Head) × (read_head s ≡ ok h) × (a.length ≡ h.bytes) × (length a.bytes ≡ 1)) (player_given n s)
unfolding player_given player_within player_behind graded_in to_player
player_Possible n s = then_Possible within λ f e. value_of (f.head, e, refl, refl)
  where
    within : Possible (11 ∷ 20 ∷ faults) (λ (f : Graded). read_head s ≡ ok f.head) (player_within n s)
    within =
        then_Possible (itself (Possible-more (λ _ m. Memᴰ.tail (Memᴰ.tail m)) (λ h _. tt {0}) (head_Possible s))) λ h e.
        then_Possible (unless-Possible (leb 1 n) 11 (λ _. Memᴰ.head refl)) λ _ _.
        then_Possible (unless-Possible (tail_test (tail_of s h) (cells_in h)) 20 (λ _. Memᴰ.tail (Memᴰ.head refl))) λ _ _. value_of e

-- the setter's call: that length, a byte and one more for each cell, or a refusal of the record, or 11, 20, 16 or 21
pub setter_Possible : (n e : ℕ) (s : List ℕ)
    → Possible (11 ∷ 20 ∷ 16 ∷ 21 ∷ faults) (λ (a : Given). (h : Head) × (read_head s ≡ ok h) × (a.length ≡ h.bytes) × (length a.bytes ≡ 1 + cells_in h)) (setter_given n e s)
unfolding setter_given setter_within setter_behind solved_in graded_in to_setter
setter_Possible n e s = then_Possible within λ f q. value_of (f.graded.head, q.0, refl, omega (arith, q.1))
  where
    within : Possible (11 ∷ 20 ∷ 16 ∷ 21 ∷ faults) (λ (f : Solved). (read_head s ≡ ok f.graded.head) × (length f.solution ≡ cells_in f.graded.head)) (setter_within n e s)
    within =
        then_Possible (itself (Possible-more (λ _ m. Memᴰ.tail (Memᴰ.tail (Memᴰ.tail (Memᴰ.tail m)))) (λ h _. tt {0}) (head_Possible s))) λ h q.
        then_Possible (unless-Possible (leb (1 + cells_in h) n) 11 (λ _. Memᴰ.head refl)) λ _ _.
        then_Possible (unless-Possible (tail_test (tail_of s h) (cells_in h)) 20 (λ _. Memᴰ.tail (Memᴰ.head refl))) λ _ _.
        then_Possible (unless-Possible (is_edition e) 16 (λ _. listed 16 (11 ∷ 20 ∷ 16 ∷ 21 ∷ faults) refl)) λ _ _.
        then_Possible (unless-Possible (finished_test (in_edition e h.puzzle) (solution_in (tail_of s h) (cells_in h))) 21 (λ _. listed 21 (11 ∷ 20 ∷ 16 ∷ 21 ∷ faults) refl)) λ _ _.
        value_of (q, solution_length (tail_of s h) (cells_in h))
