-- A board passes the test exactly when it is that of a valid puzzle with standing decisions.
-- Assumes nothing.
use Prim.Native.Nat.{ℕ, ◌*◌, ◌-◌, ◌≤◌, ◌<◌}
use native.Mathlib.Omega.{arith}
use mathlib.Core.Logic.{◌⊎◌, inl, inr}
use mathlib.Core.Path.{◌≡◌, refl, sym, ap, ap₂, ◌∙◌, subst}
use mathlib.Core.Bool.{Bool, true, false, So, cond, ◌&&◌, ◌||◌, true≢false, false≢true}
use mathlib.Core.List.Memᴰ
use mathlib.Core.List.{List, [], ◌∷◌, ◌++◌, map, map-append, append_assoc, append-nil, Memᴰ}
use lib.Dec.{eqb, leb}
use lib.ListN.{length, get_or, take, length-map, length-append}
use lib.Seq.{length-take-le, get_or-take, ext_get_or}
use borrow.Author.Tests.{eqb-true, eq-eqb, leb-true, le-leb, ne_eqb}
use Rattle.std.proofs.lemmas.Bool.{and_from}
use Rattle.grid.specs.Lists.{all, any, member, upto, array_of, Distinct}
use Rattle.grid.specs.Grid.{Grid, size}
use Rattle.grid.proofs.ListLaws.{and-true, Dec-So, So-false, mem-member, member-mem, all-mem, mem-all, mem-upto, upto-mem, at_mem}
use Rattle.grid.proofs.AppendLaws.{eqb_sym}
use Rattle.grid.proofs.ArrayLaws.{array_length, array_take, array_in}
use Rattle.grid.proofs.GridLaws.{size_most}
use Rattle.record.specs.Valid.{Fresh}
use Rattle.record.specs.Leaf.{Leaf, is_edition}
use Rattle.record.specs.Problem.{problem_of, puzzle_of, grid_of}
use Rattle.record.proofs.FreshLaws.{Fresh-length}
use Rattle.record.proofs.LeafLaws.{ValidLeaf}
use Rattle.record.proofs.LineLaws.{valid_arrows}
use Rattle.record.proofs.ProblemLaws.{problem_puzzle}
use Rattle.record.proofs.RecordLaws.{Valid-size}
use Rattle.form.specs.Form.{long, behind, fresh, problem_formed, shown, stated, ordered}
use Rattle.form.proofs.ArrayTests.{behind_kept, kept_behind, Fresh-is, is_Fresh}
use Rattle.form.proofs.ProblemForm.{Formed, Formed-is, is_Formed, formed_Valid, formed_again, valid_Formed}
use Rattle.sizes.specs.Kept.{lowest_of, highest_of}
use Rattle.sizes.specs.Form.{SizeArrays}
use Rattle.sizes.proofs.KeptLaws.{kept_sizes}
use Rattle.sizes.proofs.FormLaws.{sizes_is, is_sizes, arrays_good, lowest_back, highest_back, good_arrays}
use Rattle.board.specs.declared.Board.{Board}
use Rattle.grid.specs.Cells.{Literal}
use Rattle.board.specs.Board.{value_at, cells_after, decided}
use Rattle.board.specs.Kept.{board_of, sizes_on, leaf_on}
use Rattle.board.specs.Form.{Counts, counts_formed, sizes_good, well_formed}
use Rattle.board.proofs.HintLaws.{Counts-is, is_Counts}
use Rattle.board.proofs.Standing.{Standing, none, more, index, Standing-low, Standing-Distinct, cell_value, cells_length}

-- ---- decisions on listed cells

-- the listed cells with the values that f gives
unfoldable pub valued : (ℕ → ℕ) → List ℕ → List Literal
valued f l = map (λ i. (i, f i)) l

valued-index : (f : ℕ → ℕ) (l : List ℕ) → map index (valued f l) ≡ l
unfolding valued
valued-index f [] = refl
valued-index f (i ∷ l) = ap (λ (r : List ℕ). i ∷ r) (valued-index f l)

-- their value is f's at a listed cell, and 2 at any other
valued_at : (f : ℕ → ℕ) (l : List ℕ) (i : ℕ) → value_at (valued f l) i ≡ cond (member i l) (f i) 2
unfolding value_at valued member
valued_at f [] i = refl
valued_at f (j ∷ l) i = go (Dec-So (eqb j i)) (valued_at f l i)
  where
    go : Dec (So (eqb j i)) → value_at (valued f l) i ≡ cond (any (eqb i) l) (f i) 2 → cond (eqb j i) (f j) (value_at (valued f l) i) ≡ cond (eqb i j || any (eqb i) l) (f i) 2
    go (yes e) ih = rw (e, eq-eqb i j (sym (eqb-true j i e))) (ap f (eqb-true j i e))
    go (no h) ih = rw (So-false (eqb j i) h, ne_eqb i j (λ e. h (eq-eqb j i (sym e)))) ih

-- a cell is decided when it is listed
pub decided_listed : (ds : List Literal) (i : ℕ) → decided ds i ≡ member i (map index ds)
unfolding decided member
decided_listed [] i = refl
decided_listed (d ∷ ds) i = ap₂ (λ (a b : Bool). a || b) (eqb_sym d.0 i) (decided_listed ds i)

-- decisions on fresh cells stand
module _ (g : Grid) where
  Standing-is : (pre ds : List Literal) (used : List ℕ) → Standing g pre → ((x : ℕ) → Memᴰ x (map index pre) → Memᴰ x used)
      → Fresh used (map index ds) → ((d : Literal) → Memᴰ d ds → (d.0 < size g) × (d.1 ≤ 1)) → Standing g (pre ++ ds)
  Standing-is pre [] used s u f b = rw (append-nil pre) s
  Standing-is pre (d ∷ ds) used s u (Fresh.cons h r) b =
      let k = b d (Memᴰ.head refl) in
      let free : decided pre d.0 ≡ false = So-false (decided pre d.0) (λ t. h (u d.0 (member-mem d.0 (map index pre) (sym (decided_listed pre d.0) ∙ t)))) in
      let next : Standing g (pre ++ (d ∷ [])) = more s k.0 k.1 free in
      rw append_assoc at (Standing-is (pre ++ (d ∷ [])) ds (d.0 ∷ used) next later r (λ e m. b e (Memᴰ.tail m)))
    where
      later : (x : ℕ) → Memᴰ x (map index (pre ++ (d ∷ []))) → Memᴰ x (d.0 ∷ used)
      later x m = go (Memᴰ.append_cases (map index pre) (rw (map-append index pre (d ∷ [])) at m))
        where
          go : Memᴰ x (map index pre) ⊎ Memᴰ x (d.0 ∷ []) → Memᴰ x (d.0 ∷ used)
          go (inl k) = Memᴰ.tail (u x k)
          go (inr k) = Memᴰ.head (Memᴰ.eq_of_singleton k)

Distinct-Fresh : (used l : List ℕ) → Distinct l → ((x : ℕ) → Memᴰ x l → ¬ Memᴰ x used) → Fresh used l
Distinct-Fresh used [] d f = Fresh.nil
Distinct-Fresh used (i ∷ l) d f = Fresh.cons (f i (Memᴰ.head refl)) (Distinct-Fresh (i ∷ used) l d.1 later)
  where
    later : (x : ℕ) → Memᴰ x l → ¬ Memᴰ x (i ∷ used)
    later x m (Memᴰ.head e) = d.0 (subst (λ z. Memᴰ z l) e m)
    later x m (Memᴰ.tail k) = f x (Memᴰ.tail m) k

-- standing decisions are on fresh cells of the grid
pub Standing-Fresh : {g : Grid} {ds : List Literal} → Standing g ds → Fresh [] (map index ds) × ((x : ℕ) → Memᴰ x (map index ds) → x < size g)
Standing-Fresh {g} {ds} s = (
  Distinct-Fresh [] (map index ds) (Standing-Distinct s) (λ x m. Memᴰ.not-nil),
  λ x m. let r = Memᴰ.of_map index ds m in subst (λ z. z < size g) r.2 (Standing-low s r.0 r.1).0,
)

-- and no more than the grid has cells
pub Standing-length : {g : Grid} {ds : List Literal} → Standing g ds → length ds ≤ size g
Standing-length {g} {ds} s =
    let r = Standing-Fresh s in
    rw (length-map ds index) at (Fresh-length (size g) [] (map index ds) r.0 r.1)

-- the value at a listed cell is 0 or 1, at any other 2
pub value_listed : (ds : List Literal) (i : ℕ) → ((d : Literal) → Memᴰ d ds → d.1 ≤ 1) → decided ds i ≡ true → value_at ds i ≤ 1
unfolding decided value_at
value_listed [] i low h = absurd (false≢true h)
value_listed (d ∷ ds) i low h = go (eqb d.0 i) h (value_listed ds i (λ e m. low e (Memᴰ.tail m)))
  where
    go : (t : Bool) → (t || any (λ (e : Literal). eqb e.0 i) ds) ≡ true → (any (λ (e : Literal). eqb e.0 i) ds ≡ true → value_at ds i ≤ 1) → cond t d.1 (value_at ds i) ≤ 1
    go true q ih = low d (Memᴰ.head refl)
    go false q ih = ih q

pub value_free : (ds : List Literal) (i : ℕ) → decided ds i ≡ false → value_at ds i ≡ 2
unfolding decided value_at
value_free [] i h = refl
value_free (d ∷ ds) i h = go (eqb d.0 i) h (value_free ds i)
  where
    go : (t : Bool) → (t || any (λ (e : Literal). eqb e.0 i) ds) ≡ false → (any (λ (e : Literal). eqb e.0 i) ds ≡ false → value_at ds i ≡ 2) → cond t d.1 (value_at ds i) ≡ 2
    go true q ih = absurd (true≢false q)
    go false q ih = ih q

-- ---- the test of a board

-- the cells that the board lists as decided
abbrev pub listed : Board → List ℕ
listed b = take b.decided b.order

-- what a board that passes the test is known to be
pub record Whole (b : Board) : Type 0 where
  pub problem : Formed b.problem
  pub cells_long : length b.cells ≡ 1024
  pub order_long : length b.order ≡ 1024
  pub counts : Counts b.hints
  pub edition : is_edition b.edition ≡ true
  pub sizes : SizeArrays (puzzle_of b.problem).arrows b.lowest b.highest
  pub few : b.decided ≤ 1024
  pub once : fresh (size (grid_of b.problem)) [] (listed b) ≡ true
  pub zeros : behind 0 b.decided b.order ≡ true
  pub states : all (shown (listed b) b.cells) (upto (size (grid_of b.problem))) ≡ true
  pub twos : behind 2 (size (grid_of b.problem)) b.cells ≡ true

pub Whole-is : (b : Board) → well_formed b ≡ true → Whole b
unfolding well_formed sizes_good long ordered stated
Whole-is b h =
    let n : ℕ = size (grid_of b.problem) in
    let a = and-true (problem_formed b.problem && (long b.cells && long b.order && counts_formed b.hints && is_edition b.edition && sizes_good b)) (ordered n b.decided b.order && stated n (listed b) b.cells) h in
    let c = and-true (problem_formed b.problem) (long b.cells && long b.order && counts_formed b.hints && is_edition b.edition && sizes_good b) a.0 in
    let z = and-true (long b.cells && long b.order && counts_formed b.hints && is_edition b.edition) (sizes_good b) c.1 in
    let v = and-true (long b.cells && long b.order && counts_formed b.hints) (is_edition b.edition) z.0 in
    let l = and-true (long b.cells && long b.order) (counts_formed b.hints) v.0 in
    let d = and-true (long b.cells) (long b.order) l.0 in
    let e = and-true (ordered n b.decided b.order) (stated n (listed b) b.cells) a.1 in
    let f = and-true (leb b.decided 1024 && fresh n [] (listed b)) (behind 0 b.decided b.order) e.0 in
    let k = and-true (leb b.decided 1024) (fresh n [] (listed b)) f.0 in
    let m = and-true (all (shown (listed b) b.cells) (upto n)) (behind 2 n b.cells) e.1 in
    record {
      problem = Formed-is b.problem c.0;
      cells_long = eqb-true (length b.cells) 1024 d.0;
      order_long = eqb-true (length b.order) 1024 d.1;
      counts = Counts-is b.hints l.1;
      edition = v.1;
      sizes = sizes_is (puzzle_of b.problem).arrows b.lowest b.highest z.1;
      few = leb-true b.decided 1024 k.0;
      once = k.1;
      zeros = f.1;
      states = m.0;
      twos = m.1;
    }

pub is_Whole : (b : Board) → Whole b → well_formed b ≡ true
unfolding well_formed sizes_good long ordered stated
is_Whole b w =
    and_from _ _
    (and_from _ _ (is_Formed b.problem w.problem)
    (and_from _ _ (and_from _ _ (and_from _ _ (and_from _ _ (eq-eqb (length b.cells) 1024 w.cells_long) (eq-eqb (length b.order) 1024 w.order_long)) (is_Counts b.hints w.counts)) w.edition)
    (is_sizes (puzzle_of b.problem).arrows b.lowest b.highest w.sizes)))
    (and_from _ _ (and_from _ _ (and_from _ _ (le-leb b.decided 1024 w.few) w.once) w.zeros) (and_from _ _ w.states w.twos))

-- the decisions that a board lists, with the values of their cells
unfoldable pub decisions_of : Board → List Literal
decisions_of b = valued (λ i. get_or b.cells i 0) (listed b)

module _ (b : Board) (w : Whole b) where
  g : Grid
  g = grid_of b.problem

  most : size g ≤ 1024
  unfolding g
  most = size_most (grid_of b.problem) w.problem.sizes.high.0 w.problem.sizes.high.1

  on_grid : Fresh [] (listed b) × ((x : ℕ) → Memᴰ x (listed b) → x < size g)
  unfolding g
  on_grid = Fresh-is (size (grid_of b.problem)) [] (listed b) w.once

  state : (i : ℕ) → i < size g → shown (listed b) b.cells i ≡ true
  unfolding g
  state i h = all-mem (shown (listed b) b.cells) (upto (size (grid_of b.problem))) w.states i (mem-upto (size (grid_of b.problem)) h)

  low : (d : Literal) → Memᴰ d (decisions_of b) → (d.0 < size g) × (d.1 ≤ 1)
  unfolding decisions_of valued shown
  low d m =
      let r = Memᴰ.of_map (λ (i : ℕ). (i, get_or b.cells i 0)) (listed b) m in
      let i = r.0 in
      let h : i < size g = on_grid.1 i r.1 in
      let s : leb (get_or b.cells i 0) 1 ≡ true = rw (mem-member i (listed b) r.1) at (state i h) in
      rw (← r.2) (h, leb-true (get_or b.cells i 0) 1 s)

  -- its decisions stand
  pub whole_Standing : Standing (grid_of b.problem) (decisions_of b)
  unfolding g decisions_of
  whole_Standing =
      Standing-is (grid_of b.problem) [] (decisions_of b) [] none (λ x m. m)
      (rw (valued-index (λ i. get_or b.cells i 0) (listed b)) on_grid.0) low

  -- a cell has the value of its decision, and 2 where it has none
  value : (i : ℕ) → i < size g → value_at (decisions_of b) i ≡ get_or b.cells i 0
  unfolding decisions_of
  value i h = valued_at (λ j. get_or b.cells j 0) (listed b) i ∙ go (member i (listed b)) (unfold shown in state i h)
    where
      go : (t : Bool) → cond t (leb (get_or b.cells i 0) 1) (eqb (get_or b.cells i 0) 2) ≡ true → cond t (get_or b.cells i 0) 2 ≡ get_or b.cells i 0
      go true q = refl
      go false q = sym (eqb-true (get_or b.cells i 0) 2 q)

  cells_are : cells_after g (decisions_of b) ≡ take (size g) b.cells
  cells_are =
      let len : length (cells_after g (decisions_of b)) ≡ size g = cells_length g (decisions_of b) in
      ext_get_or 0 (cells_after g (decisions_of b)) (take (size g) b.cells) (len ∙ sym (length-take-le (size g) b.cells (omega (arith, most, w.cells_long)))) (λ i h.
      let h' : i < size g = omega (arith, len) in
      cell_value g (decisions_of b) i h' ∙ value i h' ∙ sym (get_or-take (size g) b.cells i 0 h'))

  -- as many as the board counts
  pub whole_length : length (decisions_of b) ≡ b.decided
  unfolding decisions_of
  whole_length =
      sym (length-map (decisions_of b) index) ∙ ap length (valued-index (λ i. get_or b.cells i 0) (listed b))
      ∙ length-take-le b.decided b.order (omega (arith, w.few, w.order_long))

  -- its leaf is one that is accepted
  pub whole_leaf : ValidLeaf (leaf_on b)
  unfolding leaf_on sizes_on g
  whole_leaf = record {
    puzzle = formed_Valid b.problem w.problem;
    edition = w.edition;
    sizes = arrays_good (puzzle_of b.problem) b.lowest b.highest w.sizes (size g) most;
  }

  -- its arrays of sizes are those of the sizes that it keeps
  sizes_again : (lowest_of (sizes_on b) ≡ b.lowest) × (highest_of (sizes_on b) ≡ b.highest)
  unfolding sizes_on g
  sizes_again =
      let p = puzzle_of b.problem in
      let v = valid_arrows p (formed_Valid b.problem w.problem) in
      let over : size p.grid ≤ size g = unfold puzzle_of in omega arith in
      (lowest_back p b.lowest b.highest w.sizes v (size g) over, highest_back p b.lowest b.highest w.sizes v (size g) over)

  -- it is the board of its leaf, its decisions and its counts
  pub whole_again : board_of (leaf_on b) (decisions_of b) b.hints ≡ b
  unfolding board_of leaf_on puzzle_of g
  whole_again =
      let c : array_of 2 (cells_after (grid_of b.problem) (decisions_of b)) ≡ b.cells = ap (array_of 2) cells_are ∙ behind_kept 2 (size g) b.cells w.cells_long most w.twos in
      let e : map index (decisions_of b) ≡ listed b = unfold decisions_of in valued-index (λ i. get_or b.cells i 0) (listed b) in
      let o : array_of 0 (map index (decisions_of b)) ≡ b.order = ap (array_of 0) e ∙ behind_kept 0 b.decided b.order w.order_long w.few w.zeros in
      let q : problem_of (puzzle_of b.problem) ≡ b.problem = formed_again b.problem w.problem in
      rw (q, c, o, whole_length, sizes_again.0, sizes_again.1) refl

  -- an undecided cell leaves room for one more decision
  pub whole_room : (i : ℕ) → i < size (grid_of b.problem) → get_or b.cells i 0 ≡ 2 → b.decided < 1024
  unfolding g
  whole_room i h e =
      let free : decided (decisions_of b) i ≡ false =
      So-false (decided (decisions_of b) i) (λ t. omega (arith, value i h, value_listed (decisions_of b) i (λ d m. (Standing-low whole_Standing d m).1) t)) in
      let s : Standing (grid_of b.problem) (decisions_of b ++ ((i, 0) ∷ [])) = more {v = 0} whole_Standing h (omega arith) free in
      omega (arith, Standing-length s, length-append (decisions_of b) ((i, 0) ∷ []), whole_length, most)

  -- the latest decision is on the grid
  pub whole_latest : 0 < b.decided → get_or b.order (b.decided - 1) 0 < size (grid_of b.problem)
  unfolding g
  whole_latest h =
      let k : b.decided - 1 < b.decided = omega arith in
      let n : length (listed b) ≡ b.decided = length-take-le b.decided b.order (omega (arith, w.few, w.order_long)) in
      rw (get_or-take b.decided b.order (b.decided - 1) 0 k) at (on_grid.1 (get_or (listed b) (b.decided - 1) 0) (at_mem (listed b) (b.decided - 1) (omega arith)))

  -- H × W is at most 1,024
  pub whole_most : size (grid_of b.problem) ≤ 1024
  unfolding g
  whole_most = most

-- ---- what the code needs of a board that passes

module _ (b : Board) (w : well_formed b ≡ true) where
  pub formed_area : b.problem.height * b.problem.width ≤ 1024
  unfolding grid_of size
  formed_area = whole_most b (Whole-is b w)

  pub formed_tall : b.problem.height ≤ 32
  unfolding grid_of
  formed_tall = (Whole-is b w).problem.sizes.high.0

  pub formed_wide : b.problem.width ≤ 32
  unfolding grid_of
  formed_wide = (Whole-is b w).problem.sizes.high.1

  pub formed_few : b.decided ≤ 1024
  formed_few = (Whole-is b w).few

  pub formed_room : (i : ℕ) → i < b.problem.height * b.problem.width → get_or b.cells i 0 ≡ 2 → b.decided < 1024
  unfolding grid_of size
  formed_room = whole_room b (Whole-is b w)

  pub formed_latest : 0 < b.decided → get_or b.order (b.decided - 1) 0 < 1024
  unfolding grid_of size
  formed_latest h = omega (arith, whole_latest b (Whole-is b w) h, whole_most b (Whole-is b w))

-- ---- and the other way round

module _ (l : Leaf) (v : ValidLeaf l) {ds : List Literal} (s : Standing l.puzzle.grid ds) where
  -- the board shows the value at each cell
  pub cell_shown : (i : ℕ) → i < size l.puzzle.grid → get_or (array_of 2 (cells_after l.puzzle.grid ds)) i 0 ≡ value_at ds i
  cell_shown i h = array_in 2 (cells_after l.puzzle.grid ds) 0 i (omega (arith, cells_length l.puzzle.grid ds)) ∙ cell_value l.puzzle.grid ds i h

  order_taken : take (length ds) (array_of 0 (map index ds)) ≡ map index ds
  order_taken = rw (← length-map ds index) (array_take 0 (map index ds))

  shows : (i : ℕ) → i < size l.puzzle.grid → shown (map index ds) (array_of 2 (cells_after l.puzzle.grid ds)) i ≡ true
  unfolding shown
  shows i h = rw (cell_shown i h, ← decided_listed ds i) (go (decided ds i) refl)
    where
      go : (t : Bool) → decided ds i ≡ t → cond t (leb (value_at ds i) 1) (eqb (value_at ds i) 2) ≡ true
      go true e = le-leb (value_at ds i) 1 (value_listed ds i (λ d m. (Standing-low s d m).1) e)
      go false e = eq-eqb (value_at ds i) 2 (value_free ds i e)

  -- its arrays of sizes keep sizes that may stand
  kept : SizeArrays (puzzle_of (problem_of l.puzzle)).arrows (lowest_of l.sizes) (highest_of l.sizes)
  kept = rw (problem_puzzle l.puzzle v.puzzle) (good_arrays l.puzzle l.sizes v.sizes)

  -- the board of an accepted leaf with standing decisions passes the test, with any counts
  pub standing_Whole : {ns : List ℕ} → Counts ns → Whole (board_of l ds ns)
  unfolding board_of problem_of grid_of
  standing_Whole counts =
      let n : length ds ≤ 1024 = omega (arith, Standing-length s, Valid-size v.puzzle) in
      let f = Standing-Fresh s in
      record {
        problem = valid_Formed l.puzzle v.puzzle;
        cells_long = array_length 2 (cells_after l.puzzle.grid ds) (omega (arith, cells_length l.puzzle.grid ds, Valid-size v.puzzle));
        order_long = array_length 0 (map index ds) (omega (arith, length-map ds index));
        counts = counts;
        edition = v.edition;
        sizes = kept;
        few = n;
        once = rw order_taken (is_Fresh (size l.puzzle.grid) f.0 f.1);
        zeros = kept_behind 0 (length ds) (map index ds) (length-map ds index);
        states = rw order_taken (mem-all (shown (map index ds) (array_of 2 (cells_after l.puzzle.grid ds))) (upto (size l.puzzle.grid)) (λ i m. shows i (upto-mem (size l.puzzle.grid) m)));
        twos = kept_behind 2 (size l.puzzle.grid) (cells_after l.puzzle.grid ds) (cells_length l.puzzle.grid ds);
      }

-- the board of an accepted leaf keeps the leaf
module _ (l : Leaf) (v : ValidLeaf l) (ds : List Literal) (ns : List ℕ) where
  pub board_sizes : sizes_on (board_of l ds ns) ≡ l.sizes
  unfolding sizes_on board_of problem_of grid_of
  board_sizes = kept_sizes l.puzzle (valid_arrows l.puzzle v.puzzle) l.sizes v.sizes (size l.puzzle.grid) (omega arith) (Valid-size v.puzzle)

  pub board_leaf : leaf_on (board_of l ds ns) ≡ l
  unfolding leaf_on board_of
  board_leaf = rw (problem_puzzle l.puzzle v.puzzle, board_sizes) refl
