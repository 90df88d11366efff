-- Which arrays are those of an accepted record, and which those of decisions on its cells, as tests. The test of a board (refusal 6) is made of them.
-- Assumes nothing.
use Rattle.std.specs.Prelude.{ℕ, Bool, true, cond, ◌&&◌, not, List, [], ◌∷◌, eqb, leb, ltb, length, get_or, take, drop}
use Rattle.grid.specs.Lists.{all, member, last, upto}
use Rattle.grid.specs.Grid.{Grid, size, neighbours}
use Rattle.record.specs.Problem.{grid_of, arrows_from}
use Rattle.record.specs.declared.Problem.{Problem}

-- an array has 1,024 places
unfoldable pub long : List ℕ → Bool
long l = eqb (length l) 1024

-- d stands at every place from n on
unfoldable pub behind : ℕ → ℕ → List ℕ → Bool
behind d n l = all (eqb d) (drop n l)

-- the numbers rise, each above the one before it, the first above at
unfoldable pub rises : ℕ → List ℕ → Bool
rises at [] = true
rises at (e ∷ es) = ltb at e && rises e es

-- indexes below n, none of them twice, nor one of used
unfoldable pub fresh : ℕ → List ℕ → List ℕ → Bool
fresh n used [] = true
fresh n used (i ∷ rest) = (ltb i n && not (member i used)) && fresh n (i ∷ used) rest

-- from i on, each cell is a neighbour of the one before it
unfoldable pub walks : Grid → ℕ → List ℕ → Bool
walks g i [] = true
walks g i (j ∷ js) = member j (neighbours g i) && walks g j js

-- an arrow goes from neighbour to neighbour
unfoldable pub is_path : Grid → List ℕ → Bool
is_path g [] = true
is_path g (i ∷ js) = walks g i js

-- H and W are 1 to 32
unfoldable pub good_size : Grid → Bool
good_size g = (leb 1 g.height && leb g.height 32) && (leb 1 g.width && leb g.width 32)

-- a code for each cell, and 0 behind
unfoldable pub coded : ℕ → List ℕ → Bool
coded n l = all (λ c. ltb c 3) (take n l) && behind 0 n l

-- count ends, and 0 behind
unfoldable pub ended : ℕ → List ℕ → Bool
ended count l = (leb count 1024 && rises 0 (take count l)) && behind 0 count l

-- the arrows that end at es stand in l, and 0 behind
unfoldable pub drawn : Grid → List ℕ → List ℕ → Bool
drawn g es l = ((leb (last 0 es) 1024 && fresh (size g) [] (take (last 0 es) l)) && behind 0 (last 0 es) l) && all (is_path g) (arrows_from l 0 es)

-- what an accepted record says, in arrays
unfoldable pub problem_formed : Problem → Bool
problem_formed q =
    (good_size (grid_of q) && (long q.cells && (long q.arrows && long q.ends)))
    && (coded (size (grid_of q)) q.cells && (ended q.count q.ends && drawn (grid_of q) (take q.count q.ends) q.arrows))

-- a listed cell is empty or square, any other is undecided
unfoldable pub shown : List ℕ → List ℕ → ℕ → Bool
shown listed l i = cond (member i listed) (leb (get_or l i 0) 1) (eqb (get_or l i 0) 2)

-- the states of n cells, the listed ones decided, and 2 behind
unfoldable pub stated : ℕ → List ℕ → List ℕ → Bool
stated n listed l = all (shown listed l) (upto n) && behind 2 n l

-- the decided cells, each once, and 0 behind
unfoldable pub ordered : ℕ → ℕ → List ℕ → Bool
ordered n count l = (leb count 1024 && fresh n [] (take count l)) && behind 0 count l
