-- The text that says what was counted of a list. A character is its ASCII code.
-- Assumes nothing.
use Rattle.std.specs.Prelude.{ℕ, Bool, cond, List, [], ◌∷◌, ◌++◌, Option, Some, None, decimal}
use Rattle.replay.specs.declared.Tally.{Tally}

-- a number, and a word behind it
abbrev pub count_text : ℕ → List ℕ → List ℕ
count_text n word = decimal n ++ word

-- the same for the parts of the entries, and nothing where there is no word for them
abbrev pub parts_text : ℕ → Option (List ℕ) → List ℕ
parts_text n None = []
parts_text n (Some word) = count_text n word

-- the word differ behind a space, and a newline
abbrev pub differ_text : List ℕ
differ_text = 32 ∷ 100 ∷ 105 ∷ 102 ∷ 102 ∷ 101 ∷ 114 ∷ 10 ∷ []

-- the line list damaged, and nothing for a list in which no damage was met
abbrev pub damage_text : Bool → List ℕ
damage_text sound = cond sound [] (108 ∷ 105 ∷ 115 ∷ 116 ∷ 32 ∷ 100 ∷ 97 ∷ 109 ∷ 97 ∷ 103 ∷ 101 ∷ 100 ∷ 10 ∷ [])

-- what was counted of a list, with a word for its entries and, where their parts are told too, one for these
abbrev pub tally_text : Tally → List ℕ → Option (List ℕ) → List ℕ
tally_text t entry part = ((count_text t.entries entry ++ parts_text t.parts part) ++ count_text t.differ differ_text) ++ damage_text t.whole
