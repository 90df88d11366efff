-- A call that keeps no board: it opens a record, decides in order and says something.
-- Assumes nothing.
use Rattle.std.specs.Prelude.{ℕ, zero, suc, ◌*◌, ◌/◌, ◌%◌, ◌+◌, cond, List, [], ◌∷◌, eqb, leb}
use Rattle.grid.specs.Grid.{Grid}
use Rattle.grid.specs.Cells.{Literal}
use Rattle.record.specs.Record.{Outcome, ok, refused, ◌>>=◌, unless, read_record}
use Rattle.record.specs.Leaf.{Leaf, leaf_with, in_edition, is_edition}
use Rattle.sizes.specs.Bytes.{sizes_in}
use Rattle.board.specs.Board.{decide, after, refusal}

-- what comes next where k is 0, else the refusal k
unfoldable pub accept_or : ℕ → Outcome (List Literal) → Outcome (List Literal)
accept_or zero next = next
accept_or (suc k) next = refused (suc k)

-- the decisions in the bytes, one after the other, on a board with the decisions ds: for each 12, 7, 9, and the odd byte last
unfoldable pub decide_bytes : Grid → List Literal → List ℕ → Outcome (List Literal)
decide_bytes g ds [] = ok ds
decide_bytes g ds (a ∷ []) = refused 12
decide_bytes g ds (a ∷ b ∷ rest) =
    cond (eqb ((a * 256 + b) % 32768 / 1024) 0)
    (accept_or (refusal g (decide ((a * 256 + b) % 1024) ((a * 256 + b) / 32768)) ds)
    (decide_bytes g (after g (decide ((a * 256 + b) % 1024) ((a * 256 + b) / 32768)) ds) rest))
    (refused 12)

-- what a call asks of a leaf: 11 for an output of k bytes, less than a board of this size needs, then the decisions' refusals, then what it says of the leaf and its
-- decisions
abbrev pub call_on : {A : Type 0} → (Grid → ℕ) → (Leaf → List Literal → A) → List ℕ → ℕ → Leaf → Outcome A
call_on need says decisions k l =
    unless (leb (need l.puzzle.grid) k) 11 >>= λ _.
    decide_bytes l.puzzle.grid [] decisions >>= λ ds.
    ok (says l ds)

-- a call opens in edition 1 and without sizes: 1 to 5, then as above
abbrev pub host_call : {A : Type 0} → (Grid → ℕ) → (Leaf → List Literal → A) → List ℕ → List ℕ → ℕ → Outcome A
host_call need says s decisions k =
    read_record s >>= λ p.
    call_on need says decisions k (in_edition 1 p)

-- the leaf of a record in an edition with sizes that are bytes, two for each number: the record's refusals, 1 to 5, then 16 for another edition, then 22 for sizes that
-- may not stand
unfoldable pub leaf_from : List ℕ → ℕ → List ℕ → Outcome Leaf
leaf_from s e sizes =
    read_record s >>= λ p.
    unless (is_edition e) 16 >>= λ _.
    sizes_in p sizes >>= λ rs.
    ok (leaf_with e rs p)

-- a call that takes an edition and sizes: 1 to 5, 16, 22, then as above
abbrev pub host_call_with : {A : Type 0} → (Grid → ℕ) → (Leaf → List Literal → A) → List ℕ → ℕ → List ℕ → List ℕ → ℕ → Outcome A
host_call_with need says s e sizes decisions k =
    leaf_from s e sizes >>= λ l.
    call_on need says decisions k l
