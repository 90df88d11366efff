-- The steps of the call that tells whether a leaf is finished, and what it returns: 1 exactly for an accepted record with accepted decisions whose
-- board is finished.
-- Assumes nothing.
use Prim.Native.Nat.{ℕ, zero, suc}
use native.Mathlib.Omega.{arith}
use mathlib.Core.Logic.{◌↔◌}
use mathlib.Core.Path.{◌≡◌, refl, sym, ap, ◌∙◌}
use mathlib.Core.Bool.{Bool, true, false}
use mathlib.Core.List.{List, []}
use lib.IntN.{pos, neg_ℤ}
use lib.ListN.{take}
use mir.Val.{bool_byte}
use Rattle.grid.specs.Cells.{Literal}
use Rattle.grid.specs.Grid.{size}
use Rattle.fields.proofs.ReadLaws.{bind_refused}
use Rattle.std.specs.declared.result.Result.{Result}
use Rattle.refusal.specs.declared.Refusal.{Refusal}
use Rattle.refusal.specs.Refusals.{returned_of}
use Rattle.record.specs.Record.{Outcome, ok, refused, ◌>>=◌, Puzzle, read_record}
use Rattle.record.specs.Leaf.{Leaf, in_edition}
use Rattle.record.proofs.LeafLaws.{ValidLeaf}
use Rattle.board.specs.Board.{cells_after}
use Rattle.board.proofs.Standing.{none, cells_valid}
use Rattle.finished.specs.Finished.{Finished, finished_test}
use Rattle.finished.proofs.FinishedLaws.{Finished-means}
use Rattle.calls.specs.Call.{decide_bytes, leaf_from}
use Rattle.calls.specs.Inside.{Told}
use Rattle.calls.proofs.Opened.{with_none, from_valid}
use Rattle.calls.proofs.Opening.{returned_refused}
use Rattle.calls.proofs.Steps.{bytes_Standing, Made}
use Rattle.calls.specs.Judged.{judge_on, host_finished, host_finished_with, judged, FinishedBy, FinishedWith}

-- the call is that in edition 1 without sizes
pub finished_plain : (s decisions : List ℕ) → host_finished s decisions ≡ host_finished_with s 1 [] decisions
unfolding host_finished host_finished_with
finished_plain s decisions = sym (with_none (judge_on decisions) s)

-- a refusal
pub judged_not : {o : Outcome Bool} {k : ℕ} → o ≡ refused k → neg_ℤ (pos k) ≡ judged o
unfolding judged
judged_not e = rw e refl

-- decisions that are made in order on a leaf
module _ (l : Leaf) (decisions : List ℕ) where
  -- one is refused
  pub judged_refused : {k : ℕ} → decide_bytes l.puzzle.grid [] decisions ≡ refused k → neg_ℤ (pos k) ≡ judged (judge_on decisions l)
  judged_refused e = judged_not (bind_refused (λ (ds : List Literal). ok (finished_test l (cells_after l.puzzle.grid ds))) e)

  -- all are accepted: the verdict on the states that are left
  pub judged_done : {cells : List ℕ} → Made l decisions cells → judged (ok (finished_test l (take (size l.puzzle.grid) cells))) ≡ judged (judge_on decisions l)
  unfolding ◌>>=◌
  judged_done m = rw (m.left, m.accepted) refl

-- the number of a verdict
pub judged_number : (yes : Bool) → pos (bool_byte yes) ≡ judged (ok yes)
unfolding judged
judged_number true = refl
judged_number false = refl

-- what the call returns, by what is told of the leaf that is opened
pub told_judged : (o : Outcome Leaf) (decisions before after : List ℕ) (answer : Result ℕ Refusal) → Told o (λ l before after answer. (returned_of answer ≡ judged (judge_on decisions l)) × (after ≡ before)) before after answer
    → returned_of answer ≡ judged (o >>= judge_on decisions)
unfolding judged ◌>>=◌
told_judged (refused k) decisions before after answer t = returned_refused answer t.0
told_judged (ok l) decisions before after answer t = t.0

-- ---- what it returns

never_one : (k : ℕ) → neg_ℤ (pos k) ≡ pos 1 → ⊥
never_one zero e = let z : ◌≡◌ {A = ℕ} 0 1 = cc in omega arith
never_one (suc k) e = let z : ◌≡◌ {A = ℕ} 0 1 = cc in omega arith

one_is_yes : (t : Bool) → judged (ok t) ≡ pos 1 → t ≡ true
unfolding judged
one_is_yes true e = refl
one_is_yes false e = let z : ◌≡◌ {A = ℕ} 0 1 = cc in absurd (omega arith)

module _ (decisions : List ℕ) where
  -- the decisions are accepted on the leaf, and the board that they leave is finished
  record JudgedYes (l : Leaf) : Type 0 where
    accepted : List Literal
    decides : decide_bytes l.puzzle.grid [] decisions ≡ ok accepted
    finished : Finished l (cells_after l.puzzle.grid accepted)

  module _ (l : Leaf) (v : ValidLeaf l) where
    means : (ds : List Literal) → decide_bytes l.puzzle.grid [] decisions ≡ ok ds → (finished_test l (cells_after l.puzzle.grid ds) ≡ true) ↔ Finished l (cells_after l.puzzle.grid ds)
    means ds d = Finished-means l v.puzzle (cells_after l.puzzle.grid ds) (cells_valid (bytes_Standing l.puzzle.grid decisions none d)).long

    leaf_yes : (r : Outcome (List Literal)) → decide_bytes l.puzzle.grid [] decisions ≡ r → judged (r >>= λ ds. ok (finished_test l (cells_after l.puzzle.grid ds))) ≡ pos 1 → JudgedYes l
    unfolding judged ◌>>=◌
    leaf_yes (refused k) d h = absurd (never_one k h)
    leaf_yes (ok ds) d h = record { accepted = ds; decides = d; finished = (means ds d).0 (one_is_yes (finished_test l (cells_after l.puzzle.grid ds)) h) }

    leaf_one : (ds : List Literal) → decide_bytes l.puzzle.grid [] decisions ≡ ok ds → Finished l (cells_after l.puzzle.grid ds) → judged (judge_on decisions l) ≡ pos 1
    unfolding judged ◌>>=◌
    leaf_one ds d f = rw (d, (means ds d).1 f) refl

  module _ (s : List ℕ) where
    module _ (e : ℕ) (sizes : List ℕ) where
      opened_as : (o : Outcome Leaf) → leaf_from s e sizes ≡ o → judged (o >>= λ l. judge_on decisions l) ≡ pos 1 → FinishedWith s e sizes decisions
      unfolding judged ◌>>=◌
      opened_as (refused k) q h = absurd (never_one k h)
      opened_as (ok l) q h =
          let y = leaf_yes l (from_valid s e sizes q) (decide_bytes l.puzzle.grid [] decisions) refl h in
          record { leaf = l; opens = q; accepted = y.accepted; decides = y.decides; finished = y.finished }

      -- the call in an edition with sizes returns 1 exactly where the record, the edition, the sizes and the decisions are accepted and the board that they
      -- leave is finished
      pub with_exact : (judged (host_finished_with s e sizes decisions) ≡ pos 1) ↔ FinishedWith s e sizes decisions
      unfolding host_finished_with ◌>>=◌
      with_exact = (
        λ q. opened_as (leaf_from s e sizes) refl q,
        λ f. rw f.opens (leaf_one f.leaf (from_valid s e sizes f.opens) f.accepted f.decides f.finished),
      )

    -- in edition 1 without sizes the leaf is that of the record alone
    from_plain : leaf_from s 1 [] ≡ (read_record s >>= λ p. ok (in_edition 1 p))
    unfolding ◌>>=◌
    from_plain = sym (as_it_is (leaf_from s 1 [])) ∙ with_none (λ l. ok l) s
      where
        as_it_is : (o : Outcome Leaf) → (o >>= λ l. ok l) ≡ o
        as_it_is (refused k) = refl
        as_it_is (ok l) = refl

    with_by : FinishedWith s 1 [] decisions → FinishedBy s decisions
    unfolding ◌>>=◌
    with_by f = go (read_record s) refl (sym f.opens ∙ from_plain)
      where
        go : (r : Outcome Puzzle) → read_record s ≡ r → ok f.leaf ≡ (r >>= λ p. ok (in_edition 1 p)) → FinishedBy s decisions
        go (refused k) e q = let z : ◌≡◌ {A = ℕ} 0 1 = cc in absurd (omega arith)
        go (ok p) e q =
            let i : f.leaf ≡ in_edition 1 p = cc in
            record { puzzle = p; reads = e; accepted = f.accepted; decides = rw i at f.decides; finished = rw i at f.finished }

    by_with : FinishedBy s decisions → FinishedWith s 1 [] decisions
    unfolding ◌>>=◌
    by_with f = record { leaf = in_edition 1 f.puzzle; opens = from_plain ∙ rw f.reads refl; accepted = f.accepted; decides = f.decides; finished = f.finished }

    -- so does the call in edition 1 without sizes
    pub judged_exact : (judged (host_finished s decisions) ≡ pos 1) ↔ FinishedBy s decisions
    judged_exact =
        let same = ap judged (finished_plain s decisions) in
        let w = with_exact 1 [] in
        (λ e. with_by (w.0 (sym same ∙ e)), λ f. same ∙ w.1 (by_with f))
