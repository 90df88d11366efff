-- The facts of the code, as the definitions have them.
-- Assumes nothing.
use Rattle.std.specs.Prelude.{ℕ, List, replicate}
use Rattle.refusal.specs.Refusals.{Outcome, ok, refused}
use Rattle.certain.specs.Facts.{Facts, Certainty, Told, Impossible, Spent, Refused, untold}
use Rattle.certain.specs.declared.Certainty.{Certainty as Answer}
use Rattle.certain.specs.declared.Certainty.TheVariants.{Told as told, Impossible as impossible, Spent as spent}
use Rattle.certain.specs.declared.Facts.{Facts as Known}

-- the answer of a search that was made
abbrev pub answer_as : Answer → Certainty
answer_as (told cells) = Told
answer_as impossible = Impossible
answer_as spent = Spent

-- what is told of the cells: 3 at every place where nothing is told
abbrev pub cells_as : Answer → List ℕ
cells_as (told cells) = cells
cells_as impossible = replicate 1024 3
cells_as spent = replicate 1024 3

-- the facts that a search tells
abbrev pub facts_as : Known → Facts
facts_as known = record { answer = answer_as known.answer; steps = known.steps; cells = cells_as known.answer }

-- a refusal tells nothing
abbrev pub refused_facts : ℕ → Facts
refused_facts k = untold (Refused k) 0

-- what `certain` answers: facts, or a refusal
abbrev pub told_as : Outcome Known → Facts
told_as (ok known) = facts_as known
told_as (refused k) = refused_facts k
