-- Document 02, §8, as one theorem: what `certain` tells of every board that a list of calls leaves, and that it refuses as find does.
-- Assumes nothing.
use Prim.Native.Nat.{ℕ, ◌≤◌, ◌<◌}
use native.Mathlib.Omega.{arith}
use native.Mathlib.Decide.{dec_le}
use mathlib.Core.Logic.{◌⊎◌, inl, inr, ◌↔◌}
use mathlib.Core.Path.{◌≡◌, refl, sym, ap, ◌∙◌, subst}
use mathlib.Core.Bool.{Bool, true, false, cond}
use mathlib.Core.List.Memᴰ
use mathlib.Core.List.{List, [], ◌∷◌, Memᴰ}
use mathlib.Core.Option.{none, some}
use lib.Dec.{leb, ltb}
use lib.ListN.{length, get_or}
use Rattle.grid.specs.Grid.{size}
use Rattle.grid.specs.Cells.{Literal}
use Rattle.grid.proofs.ListLaws.{split}
use Rattle.grid.proofs.FilledLaws.{filled_at}
use Rattle.record.specs.Record.{ok}
use Rattle.record.specs.Leaf.{Leaf, leaf_of}
use Rattle.record.specs.Problem.{grid_of, problem_of}
use Rattle.record.proofs.LeafLaws.{ValidLeaf, leaf_valid}
use Rattle.board.specs.Board.{Call, cells_after, enough}
use Rattle.board.specs.Calls.{standing, hints_after}
use Rattle.board.specs.Form.{Counts, well_formed}
use Rattle.board.specs.Hints.{find_refusal}
use Rattle.board.specs.Kept.{board_of}
use Rattle.board.specs.declared.Board.{Board}
use Rattle.board.proofs.Standing.{Standing, calls_Standing, cells_valid, Standing-low, cell_stands, stands_cell, cells_length}
use Rattle.board.proofs.BoardForm.{board_leaf}
use Rattle.board.proofs.CallLaws.{Standing-well, opened_left, after_low}
use Rattle.literals.specs.Literals.{Found}
use Rattle.literals.specs.Buffer.{finding_by}
use Rattle.literals.specs.Buffer as finding
use Rattle.reasons.specs.Find.{leaf_on, cells_on, reason_on, find_of}
use Rattle.reasons.specs.Demand3.{board_after}
use Rattle.reasons.proofs.Demand3.{cells_on_lem}
use Rattle.certain.specs.Tree.{Reached, search_of}
use Rattle.certain.specs.Facts.{fact_of, facts_in, certainty, untold, known, certain_by, certain_of}
use Rattle.certain.specs.Meaning.{Solution, Some, TrueOf, CertainCells, RefusedAsFind, Section8}
use Rattle.certain.specs.Facts.{Certainty, Told, Impossible, Spent, Refused, Facts}
use Rattle.certain.proofs.FactLaws.{fact_square, fact_empty, fact_open}
use Rattle.certain.proofs.SearchLaws.{Solves, search-Solves, Solves-search}
use Rattle.certain.proofs.WayLaws.{search_some}
use Rattle.certain.proofs.AnswerLaws.{by_known, by_spent, certain_well}

-- ---- what a search tells

told_not : {a : Certainty} → a ≡ Impossible → a ≡ Told → ⊥
told_not e f = let z : ◌≡◌ {A = ℕ} 0 1 = cc in omega arith

-- it is true of the boards that are meant, where those are the ones that it gathers
known_true : (n : ℕ) (r : Reached) (S : List ℕ → Type 0) → ((b : List ℕ) → Memᴰ b r.boards → S b) → ((b : List ℕ) → S b → Memᴰ b r.boards)
    → ((b : List ℕ) → S b → (i : ℕ) → i < n → get_or b i 0 ≤ 1) → TrueOf n S (known n r)
unfolding known facts_in
known_true n r S to from low = go r.boards refl
  where
    go : (bs : List (List ℕ)) → r.boards ≡ bs → TrueOf n S (known n r)
    go [] e = record {
      square = λ i l. (λ t. absurd (told_not none_told t.0), λ w. absurd (empty_all w.0));
      empty = λ i l. (λ t. absurd (told_not none_told t.0), λ w. absurd (empty_all w.0));
      either = λ i l. (λ t. absurd (told_not none_told t.0), λ w. absurd (empty_all (w.0.0, w.0.1)));
      none = (λ _ w. empty_all w, λ _. none_told);
    }
      where
        none_told : certainty r.boards ≡ Impossible
        none_told = rw e (unfold certainty in refl)

        empty_all : Some S → ⊥
        empty_all w = Memᴰ.not-nil (subst (λ (bs : List (List ℕ)). Memᴰ w.0 bs) e (from w.0 w.1))
    go (b ∷ bs) e = record {
      square = λ i l. let f = fact_square n r.boards S to from low here i l in (λ t. f.0 (sym (at i l) ∙ t.1), λ w. (told, at i l ∙ f.1 w));
      empty = λ i l. let f = fact_empty n r.boards S to from low here i l in (λ t. f.0 (sym (at i l) ∙ t.1), λ w. (told, at i l ∙ f.1 w));
      either = λ i l. let f = fact_open n r.boards S to from low here i l in (λ t. f.0 (sym (at i l) ∙ t.1), λ w. (told, at i l ∙ f.1 w));
      none = (λ k. absurd (told_not k told), λ no. absurd (no here));
    }
      where
        told : certainty r.boards ≡ Told
        told = rw e (unfold certainty in refl)

        here : Some S
        here = (b, to b (subst (λ (bs : List (List ℕ)). Memᴰ b bs) (sym e) (Memᴰ.head refl)))

        at : (i : ℕ) → i < n → get_or (known n r).cells i 0 ≡ fact_of r.boards i
        at i l = filled_at 3 (fact_of r.boards) n i l

never_spent : (bs : List (List ℕ)) → certainty bs ≡ Spent → ⊥
unfolding certainty
never_spent [] e = let z : ◌≡◌ {A = ℕ} 0 1 = cc in omega arith
never_spent (b ∷ bs) e = let z : ◌≡◌ {A = ℕ} 0 1 = cc in omega arith

never_refused : (bs : List (List ℕ)) (k : ℕ) → certainty bs ≡ Refused k → ⊥
unfolding certainty
never_refused [] k e = let z : ◌≡◌ {A = ℕ} 0 1 = cc in omega arith
never_refused (b ∷ bs) k e = let z : ◌≡◌ {A = ℕ} 0 1 = cc in omega arith

-- ---- a budget

module _ (n budget : ℕ) (r : Reached) where
  abbrev answer : Certainty
  answer = (certain_by n budget r).answer

  answer_spent : budget < r.steps → answer ≡ Spent
  unfolding untold
  answer_spent h = ap (λ (f : Facts). f.answer) (by_spent n budget r h)

  answer_known : r.steps ≤ budget → answer ≡ certainty r.boards
  unfolding known
  answer_known h = ap (λ (f : Facts). f.answer) (by_known n budget r h)

  spent_more : answer ≡ Spent → budget < r.steps
  spent_more e = go (dec_le r.steps budget)
    where
      go : Dec (r.steps ≤ budget) → budget < r.steps
      go (yes h) = absurd (never_spent r.boards (sym (answer_known h) ∙ e))
      go (no h) = omega arith

  not_spent : ¬ (answer ≡ Spent) → r.steps ≤ budget
  not_spent ns = go (dec_le r.steps budget)
    where
      go : Dec (r.steps ≤ budget) → r.steps ≤ budget
      go (yes h) = h
      go (no h) = absurd (ns (answer_spent (omega arith)))

  not_refused : (k : ℕ) → ¬ (answer ≡ Refused k)
  not_refused k e = go (dec_le r.steps budget)
    where
      go : Dec (r.steps ≤ budget) → ⊥
      go (yes h) = never_refused r.boards k (sym (answer_known h) ∙ e)
      go (no h) = let s = answer_spent (omega arith) in let z : ◌≡◌ {A = ℕ} 0 1 = cc in omega arith

  count_spent : answer ≡ Spent → (certain_by n budget r).steps ≡ budget
  unfolding untold
  count_spent e = ap (λ (f : Facts). f.steps) (by_spent n budget r (spent_more e))

  count_known : ¬ (answer ≡ Spent) → (certain_by n budget r).steps ≡ r.steps
  unfolding known
  count_known ns = ap (λ (f : Facts). f.steps) (by_known n budget r (not_spent ns))

  larger_same : (more : ℕ) → budget ≤ more → ¬ (answer ≡ Spent) → certain_by n more r ≡ certain_by n budget r
  larger_same more l ns = let h = not_spent ns in by_known n more r (omega (arith, h)) ∙ sym (by_known n budget r h)

-- ---- on the board of standing decisions

module _ (l : Leaf) (v : ValidLeaf l) (counts : List ℕ) (few : Counts counts) {ds : List Literal} (s : Standing l.puzzle.grid ds) where
  -- the board's cells
  abbrev cells : List ℕ
  cells = cells_after l.puzzle.grid ds

  -- a board that agrees with the decisions keeps the decided cells, and the other way round
  Solution-Solves : (full : List ℕ) → Solution l ds full → Solves l cells full
  Solution-Solves full x = record {
    finished = x.finished;
    extends = λ i k h. x.agrees i (get_or cells i 0) (cell_stands l.puzzle.grid ds i (get_or cells i 0) (omega (arith, cells_length l.puzzle.grid ds)) h refl);
  }

  Solves-Solution : (full : List ℕ) → Solves l cells full → Solution l ds full
  Solves-Solution full x = record {
    finished = x.finished;
    agrees = λ i w m.
        let low = Standing-low s (i, w) m in
        let e = stands_cell s i w m in
        x.extends i (omega (arith, low.0, cells_length l.puzzle.grid ds)) (omega (arith, low.1, e)) ∙ e;
  }

  -- what is answered is the search's
  pub answer_is : (budget : ℕ) → certain_of (board_of l ds counts) budget ≡ certain_by (size l.puzzle.grid) budget (search_of l cells)
  answer_is budget =
      certain_well (board_of l ds counts) budget (Standing-well l v few s)
      ∙ (unfold board_of problem_of grid_of in ap (certain_by (size l.puzzle.grid) budget) search_is)
    where
      search_is : search_of (leaf_on (board_of l ds counts)) (cells_on (board_of l ds counts)) ≡ search_of l cells
      search_is = rw (cells_on_lem l v counts s, board_leaf l v ds counts) refl

  true_of : (budget : ℕ) → (search_of l cells).steps ≤ budget → TrueOf (size l.puzzle.grid) (Solution l ds) (certain_by (size l.puzzle.grid) budget (search_of l cells))
  true_of budget h =
      rw (by_known (size l.puzzle.grid) budget (search_of l cells) h)
      (known_true (size l.puzzle.grid) (search_of l cells) (Solution l ds)
      (λ b m. Solves-Solution b (search-Solves l v.puzzle v.sizes cells (cells_valid s) b m))
      (λ b x. Solves-search l v.puzzle v.sizes cells (cells_valid s) b (Solution-Solves b x))
      (λ b x i k. x.finished.decided.each i k))

  -- so it is answered, and so it is in every field
  module _ (b : Board) (is : b ≡ board_of l ds counts) where
    abbrev n : ℕ
    n = size l.puzzle.grid

    said : (budget : ℕ) → certain_of b budget ≡ certain_by n budget (search_of l cells)
    said budget = ap (λ (z : Board). certain_of z budget) is ∙ answer_is budget

    said_spent : (budget : ℕ) → ¬ ((certain_of b budget).answer ≡ Spent) → ¬ ((certain_by n budget (search_of l cells)).answer ≡ Spent)
    said_spent budget ns e = ns (ap (λ (f : Facts). f.answer) (said budget) ∙ e)

    on_true : (budget : ℕ) → ¬ ((certain_of b budget).answer ≡ Spent) → TrueOf n (Solution l ds) (certain_of b budget)
    on_true budget ns = subst (λ (f : Facts). TrueOf n (Solution l ds) f) (sym (said budget)) (true_of budget (not_spent n budget (search_of l cells) (said_spent budget ns)))

    on_steps : (budget : ℕ) → ¬ ((certain_of b budget).answer ≡ Spent) → (certain_of b budget).steps ≡ (search_of l cells).steps
    on_steps budget ns = ap (λ (f : Facts). f.steps) (said budget) ∙ count_known n budget (search_of l cells) (said_spent budget ns)

    on_spent : (budget : ℕ) → ((certain_of b budget).answer ≡ Spent) ↔ (budget < (search_of l cells).steps)
    on_spent budget = (
      λ e. spent_more n budget (search_of l cells) (sym (ap (λ (f : Facts). f.answer) (said budget)) ∙ e),
      λ h. ap (λ (f : Facts). f.answer) (said budget) ∙ answer_spent n budget (search_of l cells) h,
    )

    on_count : (budget : ℕ) → (certain_of b budget).answer ≡ Spent → (certain_of b budget).steps ≡ budget
    on_count budget e = ap (λ (f : Facts). f.steps) (said budget) ∙ count_spent n budget (search_of l cells) (sym (ap (λ (f : Facts). f.answer) (said budget)) ∙ e)

    on_larger : (budget more : ℕ) → budget ≤ more → ¬ ((certain_of b budget).answer ≡ Spent) → certain_of b more ≡ certain_of b budget
    on_larger budget more h ns = said more ∙ larger_same n budget (search_of l cells) more h (said_spent budget ns) ∙ sym (said budget)

    on_accepted : (budget k : ℕ) → ¬ ((certain_of b budget).answer ≡ Refused k)
    on_accepted budget k e = not_refused n budget (search_of l cells) k (sym (ap (λ (f : Facts). f.answer) (said budget)) ∙ e)

-- ---- after any list of calls

certain_cells : (s : List ℕ) (e : ℕ) (ns : List ℕ) (l : Leaf) → leaf_of s e ns ≡ ok l → (cs : List Call) → CertainCells s e ns l cs
certain_cells s e ns l k cs =
    let v = leaf_valid s e ns k in
    let c : List ℕ = hints_after l.puzzle cs in
    let few = after_low l.puzzle cs in
    let t = calls_Standing l.puzzle.grid cs in
    let b : Board = board_after s e ns cs in
    let is = opened_left s e ns l k cs in
    record {
      search_is = said l v c few t b is;
      cells = on_true l v c few t b is;
      steps = on_steps l v c few t b is;
      spent = on_spent l v c few t b is;
      count = on_count l v c few t b is;
      zero_spent = (on_spent l v c few t b is 0).1 (search_some l (cells_after l.puzzle.grid (standing l.puzzle cs)));
      larger = on_larger l v c few t b is;
      accepted = on_accepted l v c few t b is;
    }

-- ---- any board

-- an ill-formed one
module _ (b : Board) (h : well_formed b ≡ false) where
  certain_6 : (budget : ℕ) → ((certain_of b budget).answer ≡ Refused 6) × ((certain_of b budget).steps ≡ 0)
  unfolding certain_of untold
  certain_6 budget = rw h (refl, refl)

  find_6 : (player : ℕ) (buffer : List ℕ) → find_of b player buffer ≡ finding.Refused 6
  unfolding find_of find_refusal finding_by
  find_6 player buffer = rw h refl

-- a well-formed one: find refuses it with 17 or 11 at most
find_not_6 : (b : Board) → well_formed b ≡ true → (player : ℕ) (buffer : List ℕ) → find_of b player buffer ≡ finding.Refused 6 → ⊥
unfolding find_of find_refusal
find_not_6 b h player buffer e = go (leb player 3) (ltb (length buffer) (enough (grid_of b.problem))) (reason_on b) (rw h at e)
  where
    go : (known t : Bool) (f : Found) → finding_by (cond known (cond t 11 0) 17) f ≡ finding.Refused 6 → ⊥
    go false t f q = let z : ◌≡◌ {A = ℕ} 17 6 = cc (seventeen f q) in omega arith
      where
        seventeen : (f : Found) → finding_by 17 f ≡ finding.Refused 6 → finding.Refused 17 ≡ finding.Refused 6
        seventeen f q = unfold finding_by in q
    go true true f q = let z : ◌≡◌ {A = ℕ} 11 6 = cc (eleven f q) in omega arith
      where
        eleven : (f : Found) → finding_by 11 f ≡ finding.Refused 6 → finding.Refused 11 ≡ finding.Refused 6
        eleven f q = unfold finding_by in q
    go true false none q = let z : ◌≡◌ {A = ℕ} 0 1 = cc (nothing q) in omega arith
      where
        nothing : finding_by 0 none ≡ finding.Refused 6 → finding.Nothing ≡ finding.Refused 6
        nothing q = unfold finding_by in q
    go true false (some r) q = let z : ◌≡◌ {A = ℕ} 0 1 = cc (some_reason q) in omega arith
      where
        some_reason : finding_by 0 (some r) ≡ finding.Refused 6 → finding.Reason (length r) ≡ finding.Refused 6
        some_reason q = unfold finding_by in q

refused_as_find : (b : Board) → RefusedAsFind b
refused_as_find b = go (split (well_formed b))
  where
    go : (well_formed b ≡ true) ⊎ (well_formed b ≡ false) → RefusedAsFind b
    go (inl h) = record {
      six = λ budget player buffer. (λ e. absurd (never budget 6 e), λ e. absurd (accepts player buffer e));
      only = λ budget k e. absurd (never budget k e);
    }
      where
        never : (budget k : ℕ) → (certain_of b budget).answer ≡ Refused k → ⊥
        never budget k e = not_refused (size (grid_of b.problem)) budget (search_of (leaf_on b) (cells_on b)) k (sym (ap (λ (f : Facts). f.answer) (certain_well b budget h)) ∙ e)

        accepts : (player : ℕ) (buffer : List ℕ) → find_of b player buffer ≡ finding.Refused 6 → ⊥
        accepts player buffer e = find_not_6 b h player buffer e
    go (inr h) = record {
      six = λ budget player buffer. (λ _. find_6 b h player buffer, λ _. (ill budget).0);
      only = λ budget k e. (let a = (ill budget).0 in cc, (ill budget).1);
    }
      where
        ill : (budget : ℕ) → ((certain_of b budget).answer ≡ Refused 6) × ((certain_of b budget).steps ≡ 0)
        ill budget = certain_6 b h budget

-- §8
pub section_8 : Section8
section_8 = record { holds = certain_cells; refuses = refused_as_find }
