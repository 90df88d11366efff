-- The search reaches just the finished boards that agree with the decided cells.
-- Assumes nothing.
use Prim.Native.Nat.{ℕ, zero, suc, ◌≤◌, ◌<◌}
use native.Mathlib.Omega.{arith}
use native.Mathlib.Decide.{ℕ_discrete}
use mathlib.Core.Logic.{◌⊎◌, inl, inr}
use mathlib.Core.Path.{◌≡◌, refl, sym, ap, ◌∙◌, subst}
use mathlib.Core.Bool.{Bool, true, false, cond}
use mathlib.Core.List.Memᴰ
use mathlib.Core.List.{List, [], ◌∷◌, ◌++◌, Memᴰ}
use mathlib.Core.Option.{none, some}
use lib.ListN.{length, get_or, set, length-set}
use lib.Seq.{ext_get_or}
use Rattle.grid.specs.Lists.{how_many}
use Rattle.grid.specs.Cells.{Literal, ValidCells}
use Rattle.grid.proofs.ArrayLaws.{Entry, hit, miss, Entry-at}
use Rattle.record.specs.Leaf.{Leaf}
use Rattle.record.specs.Valid.{Valid}
use Rattle.record.specs.Sizes.{GoodSizes}
use Rattle.record.proofs.LineLaws.{valid_arrows}
use Rattle.kinds.specs.Meaning.{Setting}
use Rattle.literals.specs.Literals.{Found}
use Rattle.reasons.specs.Reasons.{find_reason}
use Rattle.reasons.proofs.Sound.{sound}
use Rattle.reasons.proofs.Stands.{find_Stands}
use Rattle.finished.specs.Finished.{Finished, finished_test}
use Rattle.finished.proofs.FinishedLaws.{Finished-means}
use Rattle.certain.specs.Tree.{lowest, Reached, counted, both, stepped, search_in, search_of}
use Rattle.certain.proofs.LowestLaws.{none_left, next, fewer, low_set}

-- a board that keeps every decided cell
abbrev pub Extends : List ℕ → List ℕ → Type 0
Extends cells board = (i : ℕ) → i < length cells → get_or cells i 0 ≤ 1 → get_or board i 0 ≡ get_or cells i 0

-- a finished one
pub record Solves (l : Leaf) (cells board : List ℕ) : Type 0 where
  pub finished : Finished l board
  pub extends : Extends cells board

-- a decision on an undecided cell
module _ (cells : List ℕ) (i v : ℕ) (h : i < length cells) (u : get_or cells i 0 ≡ 2) where
  -- what keeps it keeps the decided cells
  back : (board : List ℕ) → Extends (set cells i v) board → Extends cells board
  back board e j l k = go (Entry-at cells i v j h)
    where
      go : Entry cells i v j → get_or board j 0 ≡ get_or cells j 0
      go (hit q x) = absurd (omega (arith, ap (λ (z : ℕ). get_or cells z 0) q))
      go (miss q x) = e j (omega (arith, length-set cells i v)) (omega arith) ∙ x

  -- and what has its value keeps it
  forth : (board : List ℕ) → Extends cells board → get_or board i 0 ≡ v → Extends (set cells i v) board
  forth board e b j l k = go (Entry-at cells i v j h)
    where
      go : Entry cells i v j → get_or board j 0 ≡ get_or (set cells i v) j 0
      go (hit q x) = ap (λ (z : ℕ). get_or board z 0) q ∙ b ∙ sym x
      go (miss q x) = e j (omega (arith, length-set cells i v)) (omega arith) ∙ sym x

module _ (leaf : Leaf) (v : Valid leaf.puzzle) (good : GoodSizes leaf.puzzle leaf.sizes) where
  abbrev setting : (cells : List ℕ) → ValidCells leaf.puzzle.grid cells → Setting
  setting cells valid = record { puzzle = leaf.puzzle; lines = valid_arrows leaf.puzzle v; cells = cells; valid = valid }

  valid_set : (cells : List ℕ) → ValidCells leaf.puzzle.grid cells → (i v : ℕ) → v ≤ 2 → ValidCells leaf.puzzle.grid (set cells i v)
  valid_set cells valid i v low = record { long = length-set cells i v ∙ valid.long; three = low_set cells i v valid.three low }

  -- where there is a finished board no reason is given
  no_reason : (cells : List ℕ) (valid : ValidCells leaf.puzzle.grid cells) (board : List ℕ) → Solves leaf cells board → (r : List Literal) → find_reason leaf cells ≡ some r → ⊥
  no_reason cells valid board s r e =
      sound leaf.edition leaf.sizes (setting cells valid) good r e board s.finished.decided.long agrees s.finished.rules
    where
      agrees : (i w : ℕ) → Memᴰ (i, w) r → get_or board i 0 ≡ w
      agrees i w m =
          let t = find_Stands (setting cells valid) leaf.edition leaf.sizes r e i w m in
          s.extends i (omega (arith, t.0, valid.long)) (omega (arith, t.1, t.2)) ∙ t.2

  -- what is counted at a full board
  counted-Solves : (cells : List ℕ) → ValidCells leaf.puzzle.grid cells → (board : List ℕ) → Memᴰ board (counted leaf cells).boards → Solves leaf cells board
  unfolding counted
  counted-Solves cells valid board m = go (finished_test leaf cells) refl m
    where
      go : (t : Bool) → finished_test leaf cells ≡ t → Memᴰ board (cond t (cells ∷ []) []) → Solves leaf cells board
      go true e m =
          let q = Memᴰ.eq_of_singleton m in
          subst (λ (z : List ℕ). Solves leaf cells z) (sym q) (record { finished = (Finished-means leaf v cells valid.long).0 e; extends = λ i l k. refl })
      go false e m = absurd (Memᴰ.not-nil m)

  Solves-counted : (cells : List ℕ) → ValidCells leaf.puzzle.grid cells → how_many 2 cells ≡ 0 → (board : List ℕ) → Solves leaf cells board → Memᴰ board (counted leaf cells).boards
  unfolding counted
  Solves-counted cells valid no_more board s =
      let same : board ≡ cells = ext_get_or 0 board cells (s.finished.decided.long ∙ sym valid.long) each in
      let t : finished_test leaf cells ≡ true = (Finished-means leaf v cells valid.long).1 (subst (λ (z : List ℕ). Finished leaf z) same s.finished) in
      rw t (Memᴰ.head same)
    where
      each : (i : ℕ) → i < length board → get_or board i 0 ≡ get_or cells i 0
      each i l = s.extends i (omega (arith, s.finished.decided.long, valid.long)) (low (ℕ_discrete (get_or cells i 0) 2))
        where
          low : Dec (get_or cells i 0 ≡ 2) → get_or cells i 0 ≤ 1
          low (yes e) = absurd (none_left cells no_more i e)
          low (no n) = omega (arith, n, valid.three i)

  -- the boards of a step
  step_mem : (f : Found) (r : Reached) {board : List ℕ} → Memᴰ board (stepped f r).boards → Memᴰ board r.boards
  unfolding stepped
  step_mem none r m = m
  step_mem (some l) r m = absurd (Memᴰ.not-nil m)

  mem_step : (f : Found) (r : Reached) {board : List ℕ} → ((l : List Literal) → f ≡ some l → ⊥) → Memᴰ board r.boards → Memᴰ board (stepped f r).boards
  unfolding stepped
  mem_step none r n m = m
  mem_step (some l) r n m = absurd (n l refl)

  -- every board that is reached is finished and keeps the decided cells
  reached_Solves : (k : ℕ) (cells : List ℕ) → ValidCells leaf.puzzle.grid cells → how_many 2 cells ≡ k → (board : List ℕ) → Memᴰ board (search_in leaf k cells).boards → Solves leaf cells board
  unfolding search_in both
  reached_Solves zero cells valid e board m = counted-Solves cells valid board (step_mem (find_reason leaf cells) (counted leaf cells) m)
  reached_Solves (suc k) cells valid e board m =
      let q = step_mem (find_reason leaf cells) (both (search_in leaf k (set cells (lowest cells) 1)) (search_in leaf k (set cells (lowest cells) 0))) m in
      let x = next cells k e in
      let each : (v : ℕ) → Solves leaf (set cells (lowest cells) v) board → Solves leaf cells board =
      λ v s. record { finished = s.finished; extends = back cells (lowest cells) v x.0 x.1 board s.extends } in
      go (Memᴰ.append_cases (search_in leaf k (set cells (lowest cells) 1)).boards q)
      (λ m. each 1 (reached_Solves k (set cells (lowest cells) 1) (valid_set cells valid (lowest cells) 1 (omega arith)) (fewer cells k 1 e (omega arith)) board m))
      (λ m. each 0 (reached_Solves k (set cells (lowest cells) 0) (valid_set cells valid (lowest cells) 0 (omega arith)) (fewer cells k 0 e (omega arith)) board m))
    where
      go : {A B : Type 0} → A ⊎ B → (A → Solves leaf cells board) → (B → Solves leaf cells board) → Solves leaf cells board
      go (inl a) f g = f a
      go (inr b) f g = g b

  -- and every such board is reached
  Solves-reached : (k : ℕ) (cells : List ℕ) → ValidCells leaf.puzzle.grid cells → how_many 2 cells ≡ k → (board : List ℕ) → Solves leaf cells board → Memᴰ board (search_in leaf k cells).boards
  unfolding search_in both
  Solves-reached zero cells valid e board s = mem_step (find_reason leaf cells) (counted leaf cells) (no_reason cells valid board s) (Solves-counted cells valid e board s)
  Solves-reached (suc k) cells valid e board s =
      let x = next cells k e in
      let i : ℕ = lowest cells in
      let low = s.finished.decided.each i (omega (arith, x.0, valid.long)) in
      mem_step (find_reason leaf cells) (both (search_in leaf k (set cells i 1)) (search_in leaf k (set cells i 0))) (no_reason cells valid board s)
      (go (ℕ_discrete (get_or board i 0) 1)
      (λ q. Solves-reached k (set cells i 1) (valid_set cells valid i 1 (omega arith)) (fewer cells k 1 e (omega arith)) board (record { finished = s.finished; extends = forth cells i 1 x.0 x.1 board s.extends q }))
      (λ q. Solves-reached k (set cells i 0) (valid_set cells valid i 0 (omega arith)) (fewer cells k 0 e (omega arith)) board (record { finished = s.finished; extends = forth cells i 0 x.0 x.1 board s.extends (omega (arith, q, low)) })))
    where
      go : Dec (get_or board (lowest cells) 0 ≡ 1)
          → (get_or board (lowest cells) 0 ≡ 1 → Memᴰ board (search_in leaf k (set cells (lowest cells) 1)).boards)
          → ((get_or board (lowest cells) 0 ≡ 1 → ⊥) → Memᴰ board (search_in leaf k (set cells (lowest cells) 0)).boards)
          → Memᴰ board ((search_in leaf k (set cells (lowest cells) 1)).boards ++ (search_in leaf k (set cells (lowest cells) 0)).boards)
      go (yes q) f g = Memᴰ.append_left (search_in leaf k (set cells (lowest cells) 0)).boards (f q)
      go (no q) f g = Memᴰ.append_right (search_in leaf k (set cells (lowest cells) 1)).boards (g q)

  -- so it is with the whole search
  pub search-Solves : (cells : List ℕ) → ValidCells leaf.puzzle.grid cells → (board : List ℕ) → Memᴰ board (search_of leaf cells).boards → Solves leaf cells board
  unfolding search_of
  search-Solves cells valid board m = reached_Solves (how_many 2 cells) cells valid refl board m

  pub Solves-search : (cells : List ℕ) → ValidCells leaf.puzzle.grid cells → (board : List ℕ) → Solves leaf cells board → Memᴰ board (search_of leaf cells).boards
  unfolding search_of
  Solves-search cells valid board s = Solves-reached (how_many 2 cells) cells valid refl board s
