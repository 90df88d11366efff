-- After the turned calls the turned decisions stand, and the cells are the turned cells.
-- Assumes nothing.
use Prim.Native.Nat.{ℕ, ◌<◌}
use native.Mathlib.Omega.{arith}
use mathlib.Core.Path.{◌≡◌, refl, sym, ap, ◌∙◌}
use mathlib.Core.Bool.{Bool, true, false, So, cond, ◌&&◌, not}
use mathlib.Core.List.{List, [], ◌∷◌, ◌++◌, map, map-append, Memᴰ}
use lib.Dec.{eqb, leb, ltb}
use lib.ListN.{length, get_or}
use lib.Seq.{ext_get_or}
use borrow.Author.Tests.{eqb-true, eq-eqb, lt-ltb, ltb-true}
use Rattle.grid.specs.Lists.{any}
use Rattle.grid.specs.Grid.{Grid, size}
use Rattle.grid.specs.Cells.{Literal}
use Rattle.grid.proofs.ListLaws.{So-false, Dec-So, init-map}
use Rattle.board.specs.Board.{value_at, cells_after, Call, decide, undo, find, decided, after, after_all}
use Rattle.board.proofs.Standing.{Standing, Standing-low, after-Standing, cell_value, cells_length}
use Rattle.turn.specs.Turn.{Turn, carried}
use Rattle.turn.proofs.TurnLaws.{Turns, Sides-size}
use Rattle.turn.proofs.PuzzleLaws.{carried-length, carried_at}
use Rattle.verdict.specs.Turned.{call_to, decision_to}

module _ {g : Grid} {m : Turn} (t : Turns g m) where
  -- different cells go to different cells
  index_same : (i j : ℕ) → i < size g → j < size g → eqb (m.to i) (m.to j) ≡ eqb i j
  index_same i j il jl = go (Dec-So (eqb i j))
    where
      go : Dec (So (eqb i j)) → eqb (m.to i) (m.to j) ≡ eqb i j
      go (yes h) = eq-eqb (m.to i) (m.to j) (ap m.to (eqb-true i j h)) ∙ sym h
      go (no h) = So-false (eqb (m.to i) (m.to j)) (λ k. h (eq-eqb i j (t.embeds.inj i j il jl (eqb-true (m.to i) (m.to j) k)))) ∙ sym (So-false (eqb i j) h)

  -- the decisions lie on the grid
  abbrev Low : List Literal → Type 0
  Low ds = (d : Literal) → Memᴰ d ds → d.0 < size g

  low : {ds : List Literal} → Standing g ds → Low ds
  low s d k = (Standing-low s d k).0

  value_same : (ds : List Literal) → Low ds → (i : ℕ) → i < size g → value_at (map (decision_to m) ds) (m.to i) ≡ value_at ds i
  unfolding value_at
  value_same [] b i l = refl
  value_same (d ∷ ds) b i l =
      rw (index_same d.0 i (b d (Memᴰ.head refl)) l, value_same ds (λ e k. b e (Memᴰ.tail k)) i l) refl

  decided_same : (ds : List Literal) → Low ds → (i : ℕ) → i < size g → decided (map (decision_to m) ds) (m.to i) ≡ decided ds i
  unfolding decided
  decided_same [] b i l = refl
  decided_same (d ∷ ds) b i l =
      rw (index_same d.0 i (b d (Memᴰ.head refl)) l, decided_same ds (λ e k. b e (Memᴰ.tail k)) i l) refl

  -- a decide's index is off the grid on both or on neither
  off_same : (i v j : ℕ) → call_to g m (decide i v) ≡ decide j v → ltb j (size m.grid) ≡ ltb i (size g)
  unfolding call_to
  off_same i v j e = let at : cond (ltb i (size g)) (m.to i) i ≡ j = cc in rw (← at) (go (Dec-So (ltb i (size g))))
    where
      go : Dec (So (ltb i (size g))) → ltb (cond (ltb i (size g)) (m.to i) i) (size m.grid) ≡ ltb i (size g)
      go (yes h) = rw h (lt-ltb (m.to i) (size m.grid) (t.embeds.into i (ltb-true i (size g) h)))
      go (no h) = rw (So-false (ltb i (size g)) h) (ap (ltb i) (Sides-size g m.grid t.sides) ∙ So-false (ltb i (size g)) h)

  -- a call
  call_same : (c : Call) {ds : List Literal} → Standing g ds → after m.grid (call_to g m c) (map (decision_to m) ds) ≡ map (decision_to m) (after g c ds)
  unfolding after call_to
  call_same (decide i v) {ds} s = rw (off_same i v (cond (ltb i (size g)) (m.to i) i) refl) (go (ltb i (size g)) refl)
    where
      put : (b : Bool) → cond b (map (decision_to m) ds ++ ((m.to i, v) ∷ [])) (map (decision_to m) ds) ≡ map (decision_to m) (cond b (ds ++ ((i, v) ∷ [])) ds)
      put true = sym (map-append (decision_to m) ds ((i, v) ∷ []))
      put false = refl

      go : (b : Bool) → ltb i (size g) ≡ b
          → cond (b && leb v 1 && not (decided (map (decision_to m) ds) (cond b (m.to i) i))) (map (decision_to m) ds ++ ((cond b (m.to i) i, v) ∷ [])) (map (decision_to m) ds)
          ≡ map (decision_to m) (cond (b && leb v 1 && not (decided ds i)) (ds ++ ((i, v) ∷ [])) ds)
      go true e = rw (decided_same ds (low s) i (ltb-true i (size g) e)) (put (leb v 1 && not (decided ds i)))
      go false e = refl
  call_same undo {ds} s = init-map (decision_to m) ds
  call_same (find q n) s = refl

  -- calls in turn
  pub calls_same : (cs : List Call) {ds : List Literal} → Standing g ds → after_all m.grid (map (call_to g m) cs) (map (decision_to m) ds) ≡ map (decision_to m) (after_all g cs ds)
  unfolding after_all
  calls_same [] s = refl
  calls_same (c ∷ cs) s = ap (after_all m.grid (map (call_to g m) cs)) (call_same c s) ∙ calls_same cs (after-Standing g c s)

  -- the cells
  pub cells_same : {ds : List Literal} → Standing g ds → cells_after m.grid (map (decision_to m) ds) ≡ carried m (cells_after g ds)
  cells_same {ds} s = ext_get_or 0 (cells_after m.grid (map (decision_to m) ds)) (carried m (cells_after g ds))
      (cells_length m.grid (map (decision_to m) ds) ∙ sym (carried-length m (cells_after g ds))) each
    where
      each : (j : ℕ) → j < length (cells_after m.grid (map (decision_to m) ds)) → get_or (cells_after m.grid (map (decision_to m) ds)) j 0 ≡ get_or (carried m (cells_after g ds)) j 0
      each j h =
          let l : j < size m.grid = omega (arith, cells_length m.grid (map (decision_to m) ds)) in
          let k = t.into j l in
          cell_value m.grid (map (decision_to m) ds) j l
          ∙ ap (value_at (map (decision_to m) ds)) (sym (t.to_from j l))
          ∙ value_same ds (low s) (m.from j) k
          ∙ sym (carried_at m (cells_after g ds) j l ∙ cell_value g ds (m.from j) k)
