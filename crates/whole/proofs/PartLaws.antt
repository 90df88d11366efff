-- A puzzle as a part of another: blocks, arrow cells, pairs, two squares and the rules of an edition; where the whole is finished, so is the part.
-- Assumes nothing.
use Prim.Native.Nat.{ℕ, ◌<◌}
use native.Mathlib.Omega.{arith}
use mathlib.Core.Logic.{◌↔◌}
use mathlib.Core.Path.{◌≡◌, refl, sym, ap, subst, ◌∙◌}
use mathlib.Core.Bool.{true, false, So}
use mathlib.Core.List.{List, [], ◌∷◌, ◌++◌, map, map-append, Memᴰ}
use Rattle.grid.specs.Grid.{size}
use Rattle.grid.specs.Cells.{square}
use Rattle.grid.proofs.CellLaws.{square_below}
use Rattle.record.specs.Record.{Puzzle}
use Rattle.record.specs.Leaf.{in_edition}
use Rattle.groups.specs.Arrows.{OnArrow}
use Rattle.groups.specs.Rules.{Grown, SameBlock, OneArrowCell, Next, BlockRules}
use Rattle.finished.specs.Finished.{TwoSquares, Finished}
use Rattle.embed.specs.Embedding.{Image}
use Rattle.embed.proofs.EmbedLaws.{group_Image, Grown-to, Grown-from}
use Rattle.whole.specs.Whole.{Part}

-- parts of a mapped list are mapped parts
pub map_parts : (f : ℕ → ℕ) (a u v : List ℕ) → map f a ≡ u ++ v → (u' : List ℕ) × (v' : List ℕ) × (a ≡ u' ++ v') × (map f u' ≡ u) × (map f v' ≡ v)
map_parts f a [] v e = ([], a, refl, refl, e)
map_parts f [] (x ∷ u) v e = let z : ◌≡◌ {A = ℕ} 0 1 = cc in absurd (omega arith)
map_parts f (y ∷ a) (x ∷ u) v e =
    let r = map_parts f a u v (cc) in
    let k : f y ≡ x = cc in
    (y ∷ r.0, r.1, ap {B = List ℕ} (λ l. y ∷ l) r.2, cc, r.4)

pub map-cons : (f : ℕ → ℕ) (a : List ℕ) (x : ℕ) (v : List ℕ) → map f a ≡ x ∷ v → (y : ℕ) × (v' : List ℕ) × (a ≡ y ∷ v') × (f y ≡ x) × (map f v' ≡ v)
map-cons f [] x v e = let z : ◌≡◌ {A = ℕ} 0 1 = cc in absurd (omega arith)
map-cons f (y ∷ a) x v e = (y, a, refl, cc, cc)

module _ {p q : Puzzle} {f : ℕ → ℕ} {cells cells' : List ℕ} (I : Part p q f cells cells') where
  -- squares are squares
  pub same_square : (i : ℕ) → i < size p.grid → square cells' (f i) ≡ square cells i
  unfolding square
  same_square i l = rw (I.states i l)

  square_on : (i : ℕ) → So (square cells i) → i < size p.grid
  square_on i s = omega (arith, I.long, square_below cells i s)

  -- a block and its image
  pub block_Image : (i : ℕ) → i < size p.grid → Image p.grid f (SameBlock p.grid cells i) (SameBlock q.grid cells' (f i))
  block_Image = group_Image I.embeds (λ i l s. same_square i l ∙ s) (λ i l s. sym (same_square i l) ∙ s) I.near

  -- arrow cells
  pub arrow_to : (i : ℕ) → OnArrow p.arrows i → OnArrow q.arrows (f i)
  arrow_to i (a, m, k) = (map f a, I.arrows a m, mathlib.Core.List.Memᴰ.map f k)

  pub arrow_from : (i : ℕ) → i < size p.grid → OnArrow q.arrows (f i) → OnArrow p.arrows i
  arrow_from i l (b, m, k) =
      let r = I.only b m i l k in
      let k' : Memᴰ (f i) (map f r.0) = rw r.2 at k in
      let s = mathlib.Core.List.Memᴰ.of_map f r.0 k' in
      (r.0, r.1, subst (λ x. Memᴰ x r.0) (I.embeds.inj s.0 i (I.on r.0 r.1 s.0 s.1) l s.2) s.1)

  -- exactly one arrow cell
  pub one_to : (i : ℕ) → i < size p.grid → OneArrowCell p cells i → OneArrowCell q cells' (f i)
  one_to i l c = record {
    cell = f c.cell;
    within = (block_Image i l).to c.cell c.within;
    arrow = arrow_to c.cell c.arrow;
    unique = λ j b k.
        let r = (block_Image i l).from j b in
        let k' : OnArrow q.arrows (f r.0) = rw r.2 k in
        sym r.2 ∙ ap f (c.unique r.0 r.1 (arrow_from r.0 ((block_Image i l).below r.0 r.1) k'));
  }

  pub one_from : (i : ℕ) → i < size p.grid → OneArrowCell q cells' (f i) → OneArrowCell p cells i
  one_from i l c =
      let r = (block_Image i l).from c.cell c.within in
      let lr = (block_Image i l).below r.0 r.1 in
      let k : OnArrow q.arrows (f r.0) = rw r.2 c.arrow in
      record {
        cell = r.0;
        within = r.1;
        arrow = arrow_from r.0 lr k;
        unique = λ j b k. I.embeds.inj j r.0 ((block_Image i l).below j b) lr (c.unique (f j) ((block_Image i l).to j b) (arrow_to j k) ∙ sym r.2);
      }

  -- two squares of an arrow with none between
  pub Next-to : (i j : ℕ) → Next p cells i j → Next q cells' (f i) (f j)
  Next-to i j c =
      let on = I.on _ c.arrow in
      record {
        before = map f c.before;
        between = map f c.between;
        behind = map f c.behind;
        arrow = simp map-append at (I.arrows _ c.arrow);
        first = same_square i (square_on i c.first) ∙ c.first;
        second = same_square j (square_on j c.second) ∙ c.second;
        none = λ k m.
            let r = mathlib.Core.List.Memᴰ.of_map f c.between m in
            let l : r.0 < size p.grid = on r.0 (mathlib.Core.List.Memᴰ.append_right c.before (mathlib.Core.List.Memᴰ.tail (mathlib.Core.List.Memᴰ.append_left _ r.1))) in
            ap (square cells') (sym r.2) ∙ same_square r.0 l ∙ c.none r.0 r.1;
      }

  -- what comes back of a pair whose first cell is an image
  pub record Behind (i' j' : ℕ) : Type 0 where
    pub i : ℕ
    pub j : ℕ
    pub first : f i ≡ i'
    pub second : f j ≡ j'
    pub next : Next p cells i j

  next_parts : (a before between behind : List ℕ) (i' j' : ℕ) → Memᴰ a p.arrows → map f a ≡ before ++ (i' ∷ (between ++ (j' ∷ behind)))
      → square cells' i' ≡ true → square cells' j' ≡ true → ((k : ℕ) → Memᴰ k between → square cells' k ≡ false) → Behind i' j'
  next_parts a before between behind i' j' m e s t none =
      let u = map_parts f a before (i' ∷ (between ++ (j' ∷ behind))) e in
      let v = map-cons f u.1 i' (between ++ (j' ∷ behind)) u.4 in
      let w = map_parts f v.1 between (j' ∷ behind) v.4 in
      let x = map-cons f w.1 j' behind w.4 in
      let whole : a ≡ u.0 ++ (v.0 ∷ (w.0 ++ (x.0 ∷ x.1))) = cc in
      let m' : Memᴰ (u.0 ++ (v.0 ∷ (w.0 ++ (x.0 ∷ x.1)))) p.arrows = subst (λ l. Memᴰ l p.arrows) whole m in
      let on = I.on _ m' in
      let li : v.0 < size p.grid = on v.0 (mathlib.Core.List.Memᴰ.append_right u.0 (mathlib.Core.List.Memᴰ.head refl)) in
      let lj : x.0 < size p.grid = on x.0 (mathlib.Core.List.Memᴰ.append_right u.0 (mathlib.Core.List.Memᴰ.tail (mathlib.Core.List.Memᴰ.append_right w.0 (mathlib.Core.List.Memᴰ.head refl)))) in
      record {
        i = v.0;
        j = x.0;
        first = v.3;
        second = x.3;
        next = record {
          before = u.0;
          between = w.0;
          behind = x.1;
          arrow = m';
          first = sym (same_square v.0 li) ∙ ap (square cells') v.3 ∙ s;
          second = sym (same_square x.0 lj) ∙ ap (square cells') x.3 ∙ t;
          none = λ k n.
              let l : k < size p.grid = on k (mathlib.Core.List.Memᴰ.append_right u.0 (mathlib.Core.List.Memᴰ.tail (mathlib.Core.List.Memᴰ.append_left _ n))) in
              let n' : Memᴰ (f k) between = subst (Memᴰ (f k)) w.3 (mathlib.Core.List.Memᴰ.map f n) in
              sym (same_square k l) ∙ none (f k) n';
        };
      }

  pub Next-from : (i j' : ℕ) → i < size p.grid → Next q cells' (f i) j' → Behind (f i) j'
  Next-from i j' l c =
      let r = I.only _ c.arrow i l (mathlib.Core.List.Memᴰ.append_right c.before (mathlib.Core.List.Memᴰ.head refl)) in
      next_parts r.0 c.before c.between c.behind (f i) j' r.1 (sym r.2) c.first c.second c.none

  pair_Grown : (e i j : ℕ) → Next p cells i j → Grown e p.grid (SameBlock p.grid cells i) (SameBlock p.grid cells j)
      ↔ Grown e q.grid (SameBlock q.grid cells' (f i)) (SameBlock q.grid cells' (f j))
  pair_Grown e i j c =
      let a = block_Image i (square_on i c.first) in
      let b = block_Image j (square_on j c.second) in
      (Grown-to I.embeds a b, Grown-from I.embeds a b)

  -- where the whole keeps the rules, so does the part
  pub rules_from : {e : ℕ} → BlockRules (in_edition e q) cells' → BlockRules (in_edition e p) cells
  rules_from {e} r = record {
    one = λ i l s. one_from i l (r.one (f i) (I.embeds.into i l) (same_square i l ∙ s));
    grown = λ i j c. (pair_Grown e i j c).1 (r.grown (f i) (f j) (Next-to i j c));
    sized = λ r m _. absurd (mathlib.Core.List.Memᴰ.not-nil m);
  }

  -- where the part keeps the rules, so does the whole at the part's cells
  pub Grown-at : {e : ℕ} → BlockRules (in_edition e p) cells → (i j' : ℕ) → i < size p.grid → Next q cells' (f i) j' → Grown e q.grid (SameBlock q.grid cells' (f i)) (SameBlock q.grid cells' j')
  Grown-at {e} r i j' l c =
      let b = Next-from i j' l c in
      let w = (pair_Grown e b.i b.j b.next).0 (r.grown b.i b.j b.next) in
      let w' = subst (λ y. Grown e q.grid (SameBlock q.grid cells' y) (SameBlock q.grid cells' (f b.j))) b.first w in
      subst (λ y. Grown e q.grid (SameBlock q.grid cells' (f i)) (SameBlock q.grid cells' y)) b.second w'

  -- two squares on an arrow
  pub two_to : (a : List ℕ) → Memᴰ a p.arrows → TwoSquares cells a → TwoSquares cells' (map f a)
  two_to a m t =
      let li = I.on a m t.first t.on.0 in
      let lj = I.on a m t.second t.on.1 in
      record {
        first = f t.first;
        second = f t.second;
        on = (mathlib.Core.List.Memᴰ.map f t.on.0, mathlib.Core.List.Memᴰ.map f t.on.1);
        squares = (same_square t.first li ∙ t.squares.0, same_square t.second lj ∙ t.squares.1);
        apart = λ e. t.apart (I.embeds.inj t.first t.second li lj e);
      }

  two_from : (a : List ℕ) → Memᴰ a p.arrows → TwoSquares cells' (map f a) → TwoSquares cells a
  two_from a m t =
      let x = mathlib.Core.List.Memᴰ.of_map f a t.on.0 in
      let y = mathlib.Core.List.Memᴰ.of_map f a t.on.1 in
      record {
        first = x.0;
        second = y.0;
        on = (x.1, y.1);
        squares = (
          sym (same_square x.0 (I.on a m x.0 x.1)) ∙ ap (square cells') x.2 ∙ t.squares.0,
          sym (same_square y.0 (I.on a m y.0 y.1)) ∙ ap (square cells') y.2 ∙ t.squares.1,
        );
        apart = λ e. t.apart (sym x.2 ∙ ap f e ∙ y.2);
      }

  -- where the whole is finished, so is the part
  pub Finished-from : {e : ℕ} → Finished (in_edition e q) cells' → Finished (in_edition e p) cells
  Finished-from F = record {
    decided = record { long = I.long; each = λ i l. rw (← I.states i l) (F.decided.each (f i) (I.embeds.into i l)) };
    kept = record {
      black = λ i l e. sym (I.states i l) ∙ F.kept.black (f i) (I.embeds.into i l) (I.codes i l ∙ e);
      given = λ i l e. sym (I.states i l) ∙ F.kept.given (f i) (I.embeds.into i l) (I.codes i l ∙ e);
    };
    rules = rules_from F.rules;
    two = λ a m. two_from a m (F.two (map f a) (I.arrows a m));
  }
