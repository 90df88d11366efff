-- What a maker of certificates has to meet, without the order of refusals and without counting the steps: these are accepted, and no others.
-- Assumes nothing.
use Rattle.std.specs.Prelude.{ℕ, ◌+◌, ◌<◌, ◌≡◌, true, List, length}
use Rattle.grid.specs.Grid.{size}
use Rattle.record.specs.Record.{ok}
use Rattle.record.specs.Leaf.{Leaf}
use Rattle.finished.specs.Finished.{Finished}
use Rattle.calls.specs.Call.{leaf_from}
use Rattle.certificate.specs.Certificate.{words_of, whole_words, width, next, claimed, headed}
use Rattle.unique.specs.Unique.{step_of}

-- from a place on the steps close one after the other; the last one has no literal, and the words end with it
pub data Closes (l : Leaf) (ws : List ℕ) : ℕ → Type 0 where
  last_step : {at : ℕ} → at < length ws → step_of l ws at ≡ 0 → width ws at ≡ 0 → next ws at ≡ length ws → Closes l ws at
  one_step : {at : ℕ} → at < length ws → step_of l ws at ≡ 0 → (width ws at ≡ 0 → ⊥) → Closes l ws (next ws at) → Closes l ws at

-- the bytes c are whole words, which start with the step of a claimed solution; that is finished; and the steps behind it close
pub record Good (l : Leaf) (c : List ℕ) : Type 0 where
  pub whole : whole_words c ≡ true
  pub head : headed (size l.puzzle.grid) (words_of c) ≡ true
  pub finished : Finished l (claimed (size l.puzzle.grid) (words_of c))
  pub steps : Closes l (words_of c) (size l.puzzle.grid + 2)

-- so it is with the leaf of the record s in the edition e with the sizes
pub record GoodFor (s : List ℕ) (e : ℕ) (sizes c : List ℕ) : Type 0 where
  pub leaf : Leaf
  pub opens : leaf_from s e sizes ≡ ok leaf
  pub good : Good leaf c
