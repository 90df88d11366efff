-- The path of reason 2 written cell by cell.
-- Assumes nothing.
use Prim.Native.Nat.{ℕ, suc, ◌+◌, ◌-◌, ◌≤◌, ◌<◌}
use native.Mathlib.Omega.{arith}
use mathlib.Core.Path.{◌≡◌, refl, sym, ◌∙◌, subst}
use mathlib.Core.Bool.{So}
use mathlib.Core.List.Memᴰ
use mathlib.Core.List.{List, [], ◌∷◌, ◌++◌, append-nil, append_assoc}
use lib.ListN.{length, get_or, take}
use Rattle.grid.specs.Grid.{Grid, size}
use Rattle.grid.specs.Cells.{square}
use Rattle.groups.specs.Groups.{Joined}
use Rattle.grid.proofs.LinkLaws.{Linked-start}
use Rattle.paths.specs.Paths.{Entry, list_from, parent, path}
use Rattle.literals.specs.Literals.{each}
use Rattle.std.specs.Borrow.{MutBor}
use Rattle.literals.specs.Held.{Holds}
use Rattle.literals.specs.declared.Literals.{Literals}
use Rattle.paths.specs.Search.{Listing}
use Rattle.literals.proofs.BufferLaws.{Wrote-none}
use Rattle.literals.proofs.HeldLaws.{holds_room, holds_count}
use Rattle.paths.specs.BreadthFirst.{Listed}
use Rattle.paths.proofs.Walk.{Early, Tree-square, Tree-length, whole_Tree, whole_Listed, parent-Early, Listed-left}
use Rattle.paths.proofs.Breadth.{square_inside, mark_parent, path_end, path_on}

module _ (g : Grid) (cells : List ℕ) (b : ℕ) where
  -- the breadth-first list from b
  abbrev pub whole : List Entry
  whole = list_from g (take (size g) cells) b

  -- the path from a is written up to the cell x, which is still to come
  pub record Way (a : ℕ) (lent : MutBor (List ℕ)) (x : ℕ) (way : Literals) : Type 0 where
    pub start : So (square (take (size g) cells) b)
    pub done : List Entry
    pub holds : Holds lent done way
    pub rest : each 1 (path (size g) whole a b) ≡ done ++ each 1 (path (size g - way.count) whole x b)
    pub early : Early g (take (size g) cells) (square_inside g cells) b start whole x (size g - way.count)

  -- nothing is written
  pub Way-first : (a : ℕ) {lent out : MutBor (List ℕ)} → Joined g (square (take (size g) cells)) b a → out.ghost_name ≡ lent.ghost_name → out.now ≡ lent.now → Way a lent a record { out = out; count = 0 }
  Way-first a {lent} j same now =
      let s = Linked-start j in
      let z : size g - 0 ≡ size g = omega arith in
      record {
        start = s;
        done = [];
        holds = record { same = same; wrote = rw now (Wrote-none lent.now) };
        rest = rw z refl;
        early = rw z (record {
          cs = whole;
          es = [];
          tree = whole_Tree g (take (size g) cells) (square_inside g cells) b s;
          parts = sym (append-nil whole);
          few = Tree-length g (take (size g) cells) (square_inside g cells) b s (whole_Tree g (take (size g) cells) (square_inside g cells) b s);
          listed = whole_Listed g (take (size g) cells) (square_inside g cells) b s a j;
        });
      }

  module _ {a : ℕ} {lent : MutBor (List ℕ)} {x : ℕ} {way : Literals} (W : Way a lent x way) where
    some : (cs : List Entry) → Listed cs x → 0 < length cs
    some [] l = absurd (Memᴰ.not-nil l.1)
    some (c ∷ cs) l = omega arith

    -- no more are written than the grid has cells
    pub way_below : way.count < size g
    way_below = omega (arith, some W.early.cs W.early.listed, W.early.few)

    -- the next cell is one of the grid
    pub way_cell : x < size g
    way_cell = square_inside g cells x (Tree-square g (take (size g) cells) (square_inside g cells) b W.start W.early.tree x W.early.listed)

    -- and so a small number
    pub way_small : size g ≤ 1024 → x < 1024
    way_small h = omega (arith, way_cell)

    -- there is room for it, where a buffer has room for as many as the grid has cells
    pub way_room : size g ≤ length lent.now → way.count < length way.out.now
    way_room h = holds_room W.holds (omega (arith, way_below))

    -- its mark is its parent
    pub way_mark : {order from : List ℕ} → Listing (size g) order from whole → get_or from x 0 ≡ parent whole x
    way_mark L = L.parents_are x way_cell ∙ mark_parent whole x (subst (λ (l : List Entry). Listed l x) (sym W.early.parts) (Listed-left W.early.cs W.early.es x W.early.listed))

    -- it is written, and its parent is next
    pub Way-more : ¬ (x ≡ b) → {after : Literals} → Holds lent (W.done ++ ((x, 1) ∷ [])) after → Way a lent (parent whole x) after
    unfolding each
    Way-more n {after} h =
        let k = way.count in
        let one : after.count ≡ k + 1 = holds_count (x, 1) W.holds h in
        let z : size g - k ≡ suc (size g - (k + 1)) = omega (arith, way_below) in
        let p : path (size g - k) whole x b ≡ x ∷ path (size g - (k + 1)) whole (parent whole x) b = rw z (path_on (size g - (k + 1)) whole x b n) in
        record {
          start = W.start;
          done = W.done ++ ((x, 1) ∷ []);
          holds = h;
          rest = rw one (W.rest ∙ rw p (sym (append_assoc W.done ((x, 1) ∷ []) (each 1 (path (size g - (k + 1)) whole (parent whole x) b)))));
          early = rw one (rw W.early.parts (parent-Early g (take (size g) cells) (square_inside g cells) b W.start W.early.tree W.early.es x (size g - (k + 1)) (rw (← z) W.early.few) W.early.listed n));
        }

    -- b is the last
    pub way_done : x ≡ b → {after : Literals} → Holds lent (W.done ++ ((x, 1) ∷ [])) after → Holds lent (each 1 (path (size g) whole a b)) after
    unfolding each
    way_done e h = rw (W.rest, e, path_end (size g - way.count) whole b) (rw e at h)
