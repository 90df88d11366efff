-- The certificate that a leaf has one solution only: its words, its steps, and what the hints of a step come to. Of the leaf it knows the number of cells alone.
-- A word is three bytes, most significant first. A step is 8,388,608 + n, n literals (value × 32,768 + index, as in find's buffer), m, and m hints: places of earlier steps. Only a
-- step's first word is 8,388,608 or more, so that a hint can be tested to name a step. The first step is the claimed solution's: cell 0, 1, .., each with the value that the
-- solution does not have, and no hint. The last step has no literal.
-- Assumes nothing.
use Rattle.std.specs.Prelude.{ℕ, ◌+◌, ◌-◌, ◌*◌, ◌/◌, ◌%◌, Bool, cond, ◌&&◌, List, [], ◌∷◌, map, eqb, ltb, leb, length, get_or, take, drop, set}
use Rattle.grid.specs.Lists.{all, upto}

-- ---- bytes

-- the word at place k of the bytes
unfoldable pub word_at : List ℕ → ℕ → ℕ
word_at s k = get_or s (3 * k) 0 * 65536 + get_or s (3 * k + 1) 0 * 256 + get_or s (3 * k + 2) 0

-- all words
unfoldable pub words_of : List ℕ → List ℕ
words_of s = map (word_at s) (upto (length s / 3))

-- ---- words

-- what a step's first word has beyond the number of its literals; no other word is as large
abbrev pub tag : ℕ
tag = 8388608

-- the bytes are whole words, and no more words than a hint can tell from a tag
unfoldable pub whole_words : List ℕ → Bool
whole_words s = eqb (length s % 3) 0 && leb (length s / 3) tag

-- the cell of a literal
abbrev pub cell_of : ℕ → ℕ
cell_of w = w % 1024

-- its value
abbrev pub value_of : ℕ → ℕ
value_of w = w / 32768 % 2

-- a literal of a leaf of n cells
unfoldable pub literal : ℕ → ℕ → Bool
literal n w = ltb w 65536 && ltb (w % 32768) n

-- how many literals the step at p has
abbrev pub width : List ℕ → ℕ → ℕ
width ws p = get_or ws p 0 - tag

-- its clause
abbrev pub clause_at : List ℕ → ℕ → List ℕ
clause_at ws p = take (width ws p) (drop (p + 1) ws)

-- where the number of its hints stands
abbrev pub middle : List ℕ → ℕ → ℕ
middle ws p = p + 1 + width ws p

-- its hints
abbrev pub hints_at : List ℕ → ℕ → List ℕ
hints_at ws p = take (get_or ws (middle ws p) 0) (drop (middle ws p + 1) ws)

-- where the next step starts
abbrev pub next : List ℕ → ℕ → ℕ
next ws p = middle ws p + 1 + get_or ws (middle ws p) 0

-- a step that is whole stands at p
unfoldable pub whole : List ℕ → ℕ → Bool
whole ws p = leb tag (get_or ws p 0) && (ltb (middle ws p) (length ws) && leb (next ws p) (length ws))

-- h is the place of a step whose clause ends before p
unfoldable pub earlier : List ℕ → ℕ → ℕ → Bool
earlier ws p h = ltb h p && (leb tag (get_or ws h 0) && leb (middle ws h) p)

-- ---- a clause under cells of which some are decided

-- a literal w of a cell in the state c, read behind literals that left q: 0 where all are false; v + 2 where all are false but v, which is undecided; 1 for any other
unfoldable pub look_step : ℕ → ℕ → ℕ → ℕ
look_step c q w = cond (eqb c (value_of w)) 1 (cond (eqb c 2) (cond (eqb q 0) (w + 2) (cond (eqb q (w + 2)) q 1)) q)

-- a clause, read behind literals that left q
unfoldable pub look_from : List ℕ → ℕ → List ℕ → ℕ
look_from cells q [] = q
look_from cells q (w ∷ ws) = look_from cells (look_step (get_or cells (cell_of w) 0) q w) ws

-- the hint h of the step at p: what its clause comes to; 1 where it is not the place of an earlier step
unfoldable pub hint_of : List ℕ → ℕ → List ℕ → ℕ → ℕ
hint_of ws p cells h = cond (earlier ws p h) (look_from cells 0 (clause_at ws h)) 1

-- ---- a step

-- what a step comes to, and the cells: 0 where the cells have to tell, 1 where a clause is false, else a refusal
abbrev pub State : Type 0
State = ℕ × List ℕ

-- each literal of a clause assumed false; 27 for a word that is no literal
unfoldable pub assume_from : ℕ → List ℕ → List ℕ → State
assume_from n cells [] = (0, cells)
assume_from n cells (w ∷ ws) = cond (literal n w) (assume_from n (set cells (cell_of w) (1 - value_of w)) ws) (27, cells)

-- the hints of the step at p in turn: 1 where the last one is false under the cells, 0 where each decided a cell; 28 for a hint that is not the place of an earlier step,
-- that decides no cell, or that is false and not the last
unfoldable pub follow_from : List ℕ → ℕ → List ℕ → List ℕ → State
follow_from ws p cells [] = (0, cells)
follow_from ws p cells (h ∷ hs) =
    cond (eqb (hint_of ws p cells h) 0) (cond (eqb (length hs) 0) (1, cells) (28, cells))
    (cond (eqb (hint_of ws p cells h) 1) (28, cells)
    (follow_from ws p (set cells (cell_of (hint_of ws p cells h - 2)) (value_of (hint_of ws p cells h - 2))) hs))

-- the hints, once the clause is assumed false
unfoldable pub hints_from : List ℕ → ℕ → State → State
hints_from ws at s = cond (eqb s.0 0) (follow_from ws at s.1 (hints_at ws at)) s

-- the step at a place, on the cells that the leaf decides: 26 where it is not whole; 27 for more literals than there are cells (so that a hint is as quick to follow as the leaf is
-- small), or for a word that is no literal; 28
unfoldable pub step_from : ℕ → List ℕ → List ℕ → ℕ → State
step_from n base ws at = cond (whole ws at) (cond (leb (width ws at) n) (hints_from ws at (assume_from n base (clause_at ws at))) (27, base)) (26, base)

-- ---- the first step

-- the word w is a literal of cell i
unfoldable pub head_word : ℕ → ℕ → Bool
head_word w i = ltb w 65536 && eqb (w % 32768) i

-- the word at 1 + i is one
unfoldable pub head_at : List ℕ → ℕ → Bool
head_at ws i = head_word (get_or ws (i + 1) 0) i

-- the claimed solution of n cells
unfoldable pub claimed : ℕ → List ℕ → List ℕ
claimed n ws = map (λ i. 1 - value_of (get_or ws (i + 1) 0)) (upto n)

-- the words start with the claimed solution's step
unfoldable pub headed : ℕ → List ℕ → Bool
headed n ws = leb (n + 2) (length ws) && (eqb (get_or ws 0 0) (tag + n) && (eqb (get_or ws (n + 1) 0) 0 && all (head_at ws) (upto n)))
