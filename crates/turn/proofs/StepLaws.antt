-- Turning step by step: what the code does.
-- Assumes nothing.
use Prim.Native.Nat.{ℕ, zero, suc, ◌%◌, ◌<◌}
use native.Mathlib.Omega.{arith}
use mathlib.Core.Path.{◌≡◌, refl, sym, ap, ◌∙◌}
use mathlib.Core.List.{List, [], ◌∷◌, map, map-map}
use lib.Dec.{leb}
use lib.Seq.{ext_get_or}
use Rattle.grid.specs.Grid.{Grid, size}
use Rattle.record.specs.Record.{Puzzle}
use Rattle.turn.specs.Turn.{Turn, quarter, then, quarters, flip_if, turning, carried, turned_by, turned}
use Rattle.turn.specs.Inside.{spun}
use Rattle.turn.proofs.TurnLaws.{Turns, quarter-Turns}
use Rattle.turn.proofs.PuzzleLaws.{carried-length, carried_at}

lines_then : (f h : ℕ → ℕ) (as' : List (List ℕ)) → map (map (λ i. h (f i))) as' ≡ map (map h) (map (map f) as')
lines_then f h [] = refl
lines_then f h (a ∷ as') = let e = map-map h f a in let r = lines_then f h as' in cc

-- one turn and then another, on a puzzle
pub puzzle_then : (p : Puzzle) (m : Turn) (s : Grid → Turn) → Turns m.grid (s m.grid) → turned_by (then m s) p ≡ turned_by (s m.grid) (turned_by m p)
puzzle_then p m s u = build (carried (then m s) p.given) (carried (s m.grid) (carried m p.given)) _ _ codes (lines_then m.to (s m.grid).to p.arrows)
  where
    build : (c d : List ℕ) (x y : List (List ℕ)) → c ≡ d → x ≡ y → ◌≡◌ {A = Puzzle} (record { grid = (s m.grid).grid; given = c; arrows = x }) (record { grid = (s m.grid).grid; given = d; arrows = y })
    build c d x y a b = cc

    codes : carried (then m s) p.given ≡ carried (s m.grid) (carried m p.given)
    codes = ext_get_or 0 (carried (then m s) p.given) (carried (s m.grid) (carried m p.given)) (carried-length (then m s) p.given ∙ sym (carried-length (s m.grid) (carried m p.given)))
        λ i h.
        let l : i < size (s m.grid).grid = omega (arith, carried-length (then m s) p.given) in
        carried_at (then m s) p.given i l ∙ sym (carried_at (s m.grid) (carried m p.given) i l ∙ carried_at m p.given ((s m.grid).from i) (u.into i l))

spun_by : (p : Puzzle) (r : ℕ) (m : Turn) → turned_by (quarters r m) p ≡ spun r (turned_by m p)
unfolding quarters spun
spun_by p zero m = refl
spun_by p (suc r) m = puzzle_then p (quarters r m) quarter (quarter-Turns (quarters r m).grid) ∙ ap (λ (q : Puzzle). turned_by (quarter q.grid) q) (spun_by p r m)

-- turning is a flip or none, and then quarter turns one by one
pub turned_steps : (k : ℕ) (p : Puzzle) → turned k p ≡ spun (k % 4) (turned_by (flip_if (leb 4 k) p.grid) p)
unfolding turned turning
turned_steps k p = spun_by p (k % 4) (flip_if (leb 4 k) p.grid)
