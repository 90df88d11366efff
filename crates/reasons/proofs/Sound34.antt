-- Reasons 3 and 4 are sound.
-- Assumes nothing.
use Prim.Native.Nat.{ℕ, ◌+◌, ◌-◌, ◌≤◌, ◌<◌}
use mathlib.Core.Logic.{◌⊎◌, inl, inr}
use mathlib.Core.Path.{◌≡◌, refl, sym, ap, ◌∙◌, subst}
use mathlib.Core.Bool.{Bool, true, false, So, cond, not, false≢true}
use mathlib.Core.List.{List, [], ◌∷◌, ◌++◌, Memᴰ}
use mathlib.Core.Option.{none, some}
use Rattle.std.proofs.Math.Option.{none-ne-some}
use native.Mathlib.Omega.{arith}
use lib.Dec.{eqb, ltb}
use lib.ListN.{length, get_or}
use borrow.Author.Tests.{eqb-true, eq-eqb, ltb-true}
use Rattle.grid.specs.Lists.{filter, any, flat_map, init, tail}
use Rattle.grid.proofs.ListLaws.{mem-filter, flat_map-mem, Dec-So, not-So, So-not, any-mem, at_mem}
use Rattle.grid.specs.Grid.{Grid, size}
use Rattle.grid.specs.Count.{count}
use Rattle.grid.specs.Cells.{Literal, empty, square, undecided, Agrees}
use Rattle.grid.proofs.CellLaws.{square_below}
use Rattle.groups.proofs.GroupLaws.{label_own}
use Rattle.groups.proofs.RulesLaws.{Dec-block}
use Rattle.groups.proofs.Shift.{Contains-map, fits-Contains, Contains-fits}
use Rattle.groups.specs.Arrows.{OnArrow, pairs, Pair, pos_last, pos_cur}
use Rattle.groups.specs.Rules.{fits, Shift, taking, Contains}
use Rattle.groups.proofs.ArrowLaws.{NextAt, pairs-Parted, at_last, at_cur, pos_below, position, length_gap, at_gap}
use Rattle.kinds.proofs.Bridge.{decisions, Dec-Reach, sq<, block_name}
use Rattle.kinds.specs.Kinds.{View, view, view_with, block, reach, fence}
use Rattle.kinds.specs.Meaning.{PartialBoard, Block, Reach, Setting, partial_of}
use Rattle.kinds.proofs.Confine.{Fenced}
use Rattle.kinds.proofs.Fence.{Reach-in, in_Reach, Block-in, in_Block, length-Reach, length-block, fenced}
use Rattle.reasons.proofs.First.{first_some, Agrees-left, Agrees-right, Agrees-each, or_else-some, or_else-none, reason_if-none, reason_if-some}
use Rattle.reasons.proofs.Plain.{line_len, RulesAt, on_line, Which, line_at}
use Rattle.literals.specs.Literals.{Found, reason_if, first_found_of, each}
use Rattle.growth.specs.Growth.{reason_shrink, most_apart, block_name as view_name, reason_grow, reason3_at, gap, reason4_at, reason4a_at, reason4b_at, reason34}
use Rattle.growth.specs.Gap.{Choice}
use Rattle.growth.proofs.Gap.{most_bound}
use Rattle.reasons.proofs.Refute.{Arrows, Filling, reason_3, reason_4a, reason_4b}

module _ (set : Setting) where
  open set use {puzzle, lines, cells, valid}

  abbrev pub grid : Grid
  grid = puzzle.grid

  abbrev pub arrows : List (List ℕ)
  arrows = puzzle.arrows

  -- the board, as Confine takes it
  abbrev pub B : PartialBoard
  B = partial_of set

  -- the arrows as Refute takes them
  abbrev pub A : Arrows B
  A = record {
    Which = Which arrows;
    len = line_len arrows;
    at = line_at arrows;
    on = on_line arrows;
    side = λ t k l. lines.side t.0 t.1 k l;
    once = λ t i j. lines.once t.0 t.1 i j;
  }

  -- the view of the board
  abbrev pub v : View
  v = view puzzle cells

  -- the first cell of a block is in it
  pub home : (a : ℕ) → So (square cells a) → Block B a (block_name set a)
  home a s = label_own grid (square cells) a (sq< set a s) s

  -- the test of reason 3 looks for a shift of a's block in c's reach
  fits-So : (a c t : ℕ) → OnArrow arrows a → So (square cells c) → So (fits grid (block v (block_name set a)) (reach v (block_name set c)) (block_name set a) t) → (s : Shift) × Contains grid s (Block B a) (Reach B c)
  fits-So a c t aa sc h = (
    taking grid (block_name set a) t,
    Contains-map grid (taking grid (block_name set a) t) (λ x. Memᴰ x (block v (block_name set a))) (λ x. Memᴰ x (reach v (block_name set c))) (Block B a) (Reach B c)
        (λ x. in_Block set a x aa) (λ x. Reach-in set c x sc) (fits-Contains grid (block v (block_name set a)) (reach v (block_name set c)) (block_name set a) t h),
  )

  So-fits : (a c : ℕ) → So (square cells a) → OnArrow arrows a → OnArrow arrows c → (s : Shift) → Contains grid s (Block B a) (Reach B c) → So (any (fits grid (block v (block_name set a)) (reach v (block_name set c)) (block_name set a)) (reach v (block_name set c)))
  So-fits a c sa aa ac s f = Contains-fits grid (block v (block_name set a)) (reach v (block_name set c)) (block_name set a) (in_Block set a (block_name set a) aa (home a sa)) s
      (Contains-map grid s (Block B a) (Reach B c) (λ x. Memᴰ x (block v (block_name set a))) (λ x. Memᴰ x (reach v (block_name set c)))
      (λ x. Block-in set a x sa) (λ x. in_Reach set c x ac) f)

  -- two squares of an arrow with none between, by their positions, and the cells between
  pub record Spot : Type 0 where
    pub t : Which arrows
    pub i : ℕ
    pub j : ℕ
    pub jl : j < line_len arrows t
    pub pr : NextAt (λ c. So (square cells c)) (line_at arrows t) i j
    pub between : List ℕ

  module _ (spot : Spot) where
    open spot use {t, i, j, jl, pr, between}

    -- the earlier cell
    abbrev pub last_cell : ℕ
    last_cell = line_at arrows t i

    -- the later cell
    abbrev pub cur_cell : ℕ
    cur_cell = line_at arrows t j

    -- the pair as Reasons has it
    abbrev pub pair : Pair
    pair = record { last = last_cell; between = between; cur = cur_cell }

    pub aa : OnArrow arrows last_cell
    aa = on_line arrows t i (omega (arith, pr.0))

    pub ac : OnArrow arrows cur_cell
    ac = on_line arrows t j jl

    -- the test of reason 3: some shift fits
    abbrev pub tried : Bool
    tried = any (fits grid (block v (block_name set last_cell)) (reach v (block_name set cur_cell)) (block_name set last_cell)) (reach v (block_name set cur_cell))

    pub three_some : (r : List Literal) → reason3_at v pair ≡ some r → (reason_grow v pair ≡ r) × ((s : Shift) → ¬ Contains grid s (Block B last_cell) (Reach B cur_cell))
    unfolding reason3_at view view_with view_name
    three_some r e = let w = reason_if-some (not tried) (reason_grow v pair) r e in (w.1, λ s f. not-So {a = tried} w.0 (So-fits last_cell cur_cell pr.1 aa ac s f))

    pub three_none : reason3_at v pair ≡ none → (s : Shift) × Contains grid s (Block B last_cell) (Reach B cur_cell)
    unfolding reason3_at view view_with view_name
    three_none e = go (Dec-So tried)
      where
        go : Dec (So tried) → (s : Shift) × Contains grid s (Block B last_cell) (Reach B cur_cell)
        go (yes h) = let w = any-mem (fits grid (block v (block_name set last_cell)) (reach v (block_name set cur_cell)) (block_name set last_cell)) (reach v (block_name set cur_cell)) h in fits-So last_cell cur_cell w.0 aa pr.2 w.2
        go (no h) = absurd (reason_if-none (not tried) (reason_grow v pair) e (So-not tried h))

    -- the test of reason 4 (a)
    abbrev pub too_few : Bool
    too_few = ltb (length (reach v (block_name set cur_cell))) (length (block v (block_name set last_cell)) + 1)

    -- the test of reason 4 (b)
    abbrev pub too_many : Bool
    too_many = ltb (length (reach v (block_name set last_cell)) + 1 + most_apart cells false (tail (init between))) (length (block v (block_name set cur_cell)))

    -- the literals of reason 4 (b)
    abbrev pub shrink_literals : List Literal
    shrink_literals = each 1 (block v (block_name set cur_cell)) ++ each 1 (last_cell ∷ []) ++ fence v (block_name set last_cell) ++ each 0 (filter (empty cells) (tail (init between)))

    -- 4 (b) in the edition e
    abbrev many_in : ℕ → Found
    many_in e = cond (eqb e 1) (reason_if too_many shrink_literals) none

    many_some : (e : ℕ) (r : List Literal) → many_in e ≡ some r → (e ≡ 1) × So too_many × (shrink_literals ≡ r)
    many_some e r = go (eqb e 1) refl
      where
        go : (t : Bool) → eqb e 1 ≡ t → cond t (reason_if too_many shrink_literals) none ≡ some r → (e ≡ 1) × So too_many × (shrink_literals ≡ r)
        go true z k = let w = reason_if-some too_many shrink_literals r k in (eqb-true e 1 z, w.0, w.1)
        go false z k = absurd (none-ne-some r k)

    pub four_some : (e : ℕ) (r : List Literal) → reason4_at v pair e ≡ some r → (So too_few × (reason_grow v pair ≡ r)) ⊎ ((e ≡ 1) × So too_many × (shrink_literals ≡ r))
    unfolding reason4_at reason4a_at reason4b_at reason_shrink view view_with view_name gap
    four_some e r k =
        or_else-some (reason_if too_few (reason_grow v pair)) (many_in e) r k
        (λ k. inl (reason_if-some too_few (reason_grow v pair) r k)) (λ k. inr (many_some e r k))

    pub four_none : (e : ℕ) → reason4_at v pair e ≡ none → (¬ So too_few) × (e ≡ 1 → ¬ So too_many)
    unfolding reason4_at reason4a_at reason4b_at reason_shrink view view_with view_name gap
    four_none e k =
        let w = or_else-none (reason_if too_few (reason_grow v pair)) (many_in e) k in
        (reason_if-none too_few (reason_grow v pair) w.0, λ h. reason_if-none too_many shrink_literals (subst (λ t. cond t (reason_if too_many shrink_literals) none ≡ none) (eq-eqb e 1 h) w.1))

    -- a filling that agrees and meets the rules
    module _ {e : ℕ} (full : List ℕ) (long : length full ≡ size grid) (rules : RulesAt e puzzle full) where
      -- the squares of the full board
      abbrev F : ℕ → Type 0
      F c = So (square full c)

      low : (c : ℕ) → F c → c < size grid
      low c s = omega (arith, square_below full c s, long)

      -- the full board as Refute takes it
      abbrev fill : Filling B grid
      fill = record { F = F; dec = λ c. Dec-So (square full c); below = low; dec_block = Dec-block puzzle full long }

      is_square : (c : ℕ) → get_or full c 0 ≡ 1 → F c
      unfolding square
      is_square c e = eq-eqb _ _ e

      not_square : (c : ℕ) → get_or full c 0 ≡ 0 → ¬ F c
      unfolding square
      not_square c e s = omega (arith, eqb-true)

      module _ (ag : Agrees full (reason_grow v pair)) where
        -- the literals of last's block
        abbrev first : List Literal
        first = each 1 (block v (block_name set last_cell))

        -- the literal of cur's arrow cell
        abbrev second : List Literal
        second = each 1 (cur_cell ∷ [])

        grow_all : (x : ℕ) → Block B last_cell x → F x
        unfolding reason_grow view view_with view_name
        grow_all x bl = is_square x (Agrees-each full 1 (block v (block_name set last_cell)) (Agrees-left full first second (Agrees-left full (first ++ second) (fence v (block_name set cur_cell)) ag)) x (in_Block set last_cell x aa bl))

        grow_cur : F cur_cell
        unfolding reason_grow view view_with view_name
        grow_cur = is_square cur_cell (Agrees-each full 1 (cur_cell ∷ []) (Agrees-right full first second (Agrees-left full (first ++ second) (fence v (block_name set cur_cell)) ag)) cur_cell (Memᴰ.head refl))

        grow_fence : Fenced B F cur_cell
        unfolding reason_grow view view_with view_name
        grow_fence = fenced set full cur_cell ac pr.2 (Agrees-right full (first ++ second) (fence v (block_name set cur_cell)) ag)

        pub three_sound : ((s : Shift) → ¬ Contains grid s (Block B last_cell) (Reach B cur_cell)) → ⊥
        three_sound = reason_3 e B grid A (decisions set) (Dec-Reach set) fill rules t i j jl pr grow_all grow_cur grow_fence

        pub four_a_sound : So too_few → ⊥
        four_a_sound h = reason_4a e B grid A (decisions set) (Dec-Reach set) fill rules t i j jl pr grow_all grow_cur grow_fence
            (omega (arith, ltb-true, length-Reach set cur_cell ac pr.2 (Dec-Reach set cur_cell), length-block set last_cell aa pr.1))

      pub four_b_sound : e ≡ 1 → length (tail (init between)) ≡ j - (i + 3) → ((k : ℕ) → k < length (tail (init between)) → line_at arrows t (i + 2 + k) ≡ get_or (tail (init between)) k 0)
          → Agrees full shrink_literals → So too_many → ⊥
      four_b_sound one glen gat ag h = reason_4b e B grid A (decisions set) (Dec-Reach set) fill rules t i j jl pr all_cur lst fnc gp g₀ most one
          (omega (arith, ltb-true, length-Reach set last_cell aa pr.1 (Dec-Reach set last_cell), length-block set cur_cell ac pr.2))
        where
          G : List ℕ
          G = tail (init between)

          g₀ : ℕ
          g₀ = most_apart cells false G

          p₁ : List Literal
          p₁ = each 1 (block v (block_name set cur_cell))

          p₂ : List Literal
          p₂ = each 1 (last_cell ∷ [])

          p₃ : List Literal
          p₃ = fence v (block_name set last_cell)

          p₄ : List Literal
          p₄ = each 0 (filter (empty cells) G)

          ag₁₂₃ : Agrees full (p₁ ++ p₂ ++ p₃)
          ag₁₂₃ = Agrees-left full (p₁ ++ p₂ ++ p₃) p₄ ag

          ag₁₂ : Agrees full (p₁ ++ p₂)
          ag₁₂ = Agrees-left full (p₁ ++ p₂) p₃ ag₁₂₃

          all_cur : (x : ℕ) → Block B cur_cell x → F x
          all_cur x bl = is_square x (Agrees-each full 1 (block v (block_name set cur_cell)) (Agrees-left full p₁ p₂ ag₁₂) x (in_Block set cur_cell x ac bl))

          lst : F last_cell
          lst = is_square last_cell (Agrees-each full 1 (last_cell ∷ []) (Agrees-right full p₁ p₂ ag₁₂) last_cell (Memᴰ.head refl))

          fnc : Fenced B F last_cell
          fnc = fenced set full last_cell aa pr.1 (Agrees-right full (p₁ ++ p₂) p₃ ag₁₂₃)

          gp : (p : ℕ) → i + 2 ≤ p → p + 2 ≤ j → So (empty cells (line_at arrows t p)) → ¬ F (line_at arrows t p)
          gp p lo hi z =
              let k : ℕ = p - (i + 2) in
              let l : k < length G = omega (arith, glen) in
              let e : line_at arrows t p ≡ get_or G k 0 = ap (line_at arrows t) (omega arith) ∙ gat k l in
              not_square (line_at arrows t p) (Agrees-each full 0 (filter (empty cells) G) (Agrees-right full (p₁ ++ p₂ ++ p₃) p₄ ag) (line_at arrows t p)
              (mem-filter (empty cells) G (subst (λ x. Memᴰ x G) (sym e) (at_mem G k l)) z))

          most : (S : ℕ → Type 0) (d : (k : ℕ) → Dec (S k)) → Choice (λ k. So (undecided cells (line_at arrows t (i + 2 + k)))) (j - (i + 3)) S → count d (j - (i + 3)) ≤ g₀
          most S d ch = subst (λ n. count d n ≤ g₀) glen
              (most_bound cells G S d (λ k l s. subst (λ x. So (undecided cells x)) (gat k l) (ch.good k s)) ch.apart false (λ z. absurd (false≢true z)))

  -- a listed pair, by its positions
  pub record Placed (p : Pair) : Type 0 where
    pub spot : Spot
    pub is : p ≡ pair spot
    pub glen : length (tail (init spot.between)) ≡ spot.j - (spot.i + 3)
    pub gat : (k : ℕ) → k < length (tail (init spot.between)) → line_at arrows spot.t (spot.i + 2 + k) ≡ get_or (tail (init spot.between)) k 0

  pub placed : (p : Pair) → Memᴰ p (flat_map (pairs cells) arrows) → Placed p
  placed p m =
      let w = flat_map-mem (pairs cells) arrows m in
      let q = pairs-Parted cells w.0 p w.2 in
      record {
        spot = record {
          t = (w.0, w.1);
          i = pos_last q;
          j = pos_cur q;
          jl = pos_below cells w.0 p q;
          pr = position cells w.0 p q;
          between = p.between;
        };
        is = λ k. record { last = sym (at_last cells w.0 p q) k; between = p.between; cur = sym (at_cur cells w.0 p q) k };
        glen = length_gap cells w.0 p q;
        gat = at_gap cells w.0 p q;
      }

  module _ (e : ℕ) where
    -- a reason 3 or 4 is one of three, the last in the first edition only
    pub data Told34 (r : List Literal) : Type 0 where
      no_shift : (spot : Spot) → ((s : Shift) → ¬ Contains grid s (Block B (last_cell spot)) (Reach B (cur_cell spot))) → reason_grow v (pair spot) ≡ r → Told34 r
      told_too_few : (spot : Spot) → So (too_few spot) → reason_grow v (pair spot) ≡ r → Told34 r
      told_too_many : e ≡ 1 → {p : Pair} (q : Placed p) → So (too_many q.spot) → shrink_literals q.spot ≡ r → Told34 r

    pub told_34 : (r : List Literal) → reason34 e v ≡ some r → Told34 r
    unfolding reason34 view view_with
    told_34 r k =
        or_else-some (first_found_of (reason3_at v) ps) (first_found_of (λ p. reason4_at v p e) ps) r k
        (λ k. let w = first_some (reason3_at v) ps r k in three w.0 (placed w.0 w.1) w.2)
        (λ k. let w = first_some (λ p. reason4_at v p e) ps r k in four w.0 (placed w.0 w.1) w.2)
      where
        ps : List Pair
        ps = flat_map (pairs cells) arrows

        three : (p : Pair) (q : Placed p) → reason3_at v p ≡ some r → Told34 r
        three p q k = let w = three_some q.spot r (subst (λ z. reason3_at v z ≡ some r) q.is k) in no_shift q.spot w.1 w.0

        four : (p : Pair) (q : Placed p) → reason4_at v p e ≡ some r → Told34 r
        four p q k = two (four_some q.spot e r (subst (λ z. reason4_at v z e ≡ some r) q.is k))
          where
            two : (So (too_few q.spot) × (reason_grow v (pair q.spot) ≡ r)) ⊎ ((e ≡ 1) × So (too_many q.spot) × (shrink_literals q.spot ≡ r)) → Told34 r
            two (inl (h, z)) = told_too_few q.spot h z
            two (inr (o, h, z)) = told_too_many o q h z

    module _ (full : List ℕ) (long : length full ≡ size grid) (rules : RulesAt e puzzle full) where
      -- reasons 3 and 4 are sound
      pub reason34_sound : (r : List Literal) → reason34 e v ≡ some r → Agrees full r → ⊥
      reason34_sound r k ag = go (told_34 r k)
        where
          go : Told34 r → ⊥
          go (no_shift spot n z) = three_sound spot full long rules (subst (Agrees full) (sym z) ag) n
          go (told_too_few spot h z) = four_a_sound spot full long rules (subst (Agrees full) (sym z) ag) h
          go (told_too_many o q h z) = four_b_sound q.spot full long rules o q.glen q.gat (subst (Agrees full) (sym z) ag) h
