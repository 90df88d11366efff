-- The steps of an arrow, and an arrow with its start.
-- Assumes nothing.
use Prim.Native.Nat.{ℕ, zero, suc, ◌+◌, ◌-◌, ◌*◌, ◌<◌}
use native.Mathlib.Nat.{sub-zero, add-zero}
use native.Mathlib.Omega.{arith}
use mathlib.Core.Path.{◌≡◌, refl, sym, ap, ◌∙◌, subst}
use mathlib.Core.Bool.{Bool, ◌&&◌, ◌||◌, not, or_comm}
use mathlib.Core.List.{List, [], ◌∷◌, ◌++◌, append_assoc, append-nil}
use lib.Dec.{eqb, ltb}
use lib.ListN.{length}
use borrow.Author.Tests.{ltb-true}
use Rattle.grid.specs.Lists.{member}
use Rattle.grid.proofs.ListLaws.{and-true}
use Rattle.grid.specs.Grid.{Grid}
use Rattle.grid.proofs.AppendLaws.{member-append}
use Rattle.fields.specs.Fields.{Outcome, ok, refused, ◌>>=◌, unless, field, step_from}
use Rattle.record.specs.Record.{step_cells, arrow_at}
use Rattle.record.specs.Head.{arrows_in}
use Rattle.fields.specs.Inside.{Agrees, Past, step_at, opening_at}
use Rattle.fields.specs.declared.BitReader.{BitReader}
use Rattle.record.specs.Inside.{take_at}
use Rattle.fields.specs.declared.Start.{Start}
use Rattle.std.specs.Prelude.{Ok, Err, IfOk}
use Rattle.std.specs.declared.result.Result.{Result}
use Rattle.refusal.specs.declared.Refusal.{Refusal}
use Rattle.fields.proofs.OutcomeLaws.{bind_ok, unless-ok, ok-eq, field-ok}
use Rattle.fields.proofs.ReadLaws.{bind_bind, bind_same, bind_value, bind_refused, behind, past_none, past_then}

-- steps that agree on every value
pub bind_ext : {A B : Type 0} (o : Outcome A) (f h : A → Outcome B) → ((x : A) → f x ≡ h x) → (o >>= f) ≡ (o >>= h)
unfolding ◌>>=◌
bind_ext (refused k) f h e = refl
bind_ext (ok a) f h e = e a

-- the same members
pub record Same (u v : List ℕ) : Type 0 where
  pub each : (x : ℕ) → member x u ≡ member x v

Same-cons : (j : ℕ) {u v : List ℕ} → Same u v → Same (j ∷ u) (j ∷ v)
unfolding member
Same-cons j e = record { each = λ x. ap (λ (b : Bool). eqb x j || b) (e.each x) }

-- one list after another, either way round
pub Same-turn : (u v : List ℕ) → Same (u ++ v) (v ++ u)
Same-turn u v = record { each = λ x. member-append x u v ∙ or_comm (member x u) (member x v) ∙ sym (member-append x v u) }

Same-append : (a : List ℕ) {u v : List ℕ} → Same u v → Same (a ++ u) (a ++ v)
Same-append a {u} {v} e = record { each = λ x. member-append x a u ∙ ap (λ (b : Bool). member x a || b) (e.each x) ∙ sym (member-append x a v) }

module _ (s : List ℕ) (g : Grid) where
  -- which cells are used matters, and not in which order
  steps_Same : (k : ℕ) {u v : List ℕ} (i at : ℕ) → Same u v → step_cells s g u i at k ≡ step_cells s g v i at k
  unfolding step_cells
  steps_Same zero i at e = refl
  steps_Same (suc k) {u} {v} i at e =
      bind_ext (field s at 2) _ _ (λ d. bind_ext (step_from g i d) _ _ (λ j.
      ap (λ (b : Bool). unless (not b) 4 >>= λ _. step_cells s g (j ∷ u) j (at + 2) k >>= λ js. ok (j ∷ js)) (e.each j)
      ∙ ap (λ (o : Outcome (List ℕ)). unless (not (member j v)) 4 >>= λ _. o >>= λ js. ok (j ∷ js)) (steps_Same k j (at + 2) (Same-cons j e))))

  arrow_Same : {u v : List ℕ} (at : ℕ) → Same u v → arrow_at s g u at ≡ arrow_at s g v at
  unfolding arrow_at
  arrow_Same {u} {v} at e =
      bind_ext (field s at 5) _ _ (λ y. bind_ext (field s (at + 5) 5) _ _ (λ x. bind_ext (field s (at + 10) 10) _ _ (λ k.
      bind_ext (unless (ltb y g.height && ltb x g.width) 3) _ _ (λ _. cell k (y * g.width + x)))))
    where
      cell : (k i : ℕ) → (unless (not (member i u)) 4 >>= λ _. step_cells s g (i ∷ u) i (at + 20) k >>= λ js. ok (i ∷ js))
          ≡ (unless (not (member i v)) 4 >>= λ _. step_cells s g (i ∷ v) i (at + 20) k >>= λ js. ok (i ∷ js))
      cell k i =
          ap (λ (b : Bool). unless (not b) 4 >>= λ _. step_cells s g (i ∷ u) i (at + 20) k >>= λ js. ok (i ∷ js)) (e.each i)
          ∙ ap (λ (o : Outcome (List ℕ)). unless (not (member i v)) 4 >>= λ _. o >>= λ js. ok (i ∷ js)) (steps_Same k i (at + 20) (Same-cons i e))

  pub arrows_Same : (m : ℕ) {u v : List ℕ} (at : ℕ) → Same u v → arrows_in s g u at m ≡ arrows_in s g v at m
  unfolding arrows_in
  arrows_Same zero at e = refl
  arrows_Same (suc m) {u} {v} at e =
      ap (λ (o : Outcome (List ℕ)). o >>= λ a. arrows_in s g (a ++ u) (at + 18 + 2 * length a) m >>= λ rest. ok (a ∷ rest)) (arrow_Same at e)
      ∙ bind_ext (arrow_at s g v at) _ _ (λ a. ap (λ (o : Outcome (List (List ℕ))). o >>= λ rest. ok (a ∷ rest)) (arrows_Same m (at + 18 + 2 * length a) (Same-append a e)))

  -- the cell j joins the used ones, and the steps go on from it
  abbrev pub from : List ℕ → ℕ → ℕ → ℕ → Outcome (List ℕ)
  from l at k j = step_cells s g (l ++ (j ∷ [])) j at k >>= λ js. ok (j ∷ js)

  joined : (l : List ℕ) (at k j : ℕ) → (unless (not (member j l)) 4 >>= λ _. step_cells s g (j ∷ l) j at k >>= λ js. ok (j ∷ js)) ≡ (unless (not (member j l)) 4 >>= λ _. from l at k j)
  joined l at k j = ap (λ (o : Outcome (List ℕ)). unless (not (member j l)) 4 >>= λ _. o >>= λ js. ok (j ∷ js)) (steps_Same k j at (Same-turn (j ∷ []) l))

  -- one step more
  pub steps_next : (l : List ℕ) (i at k : ℕ) → step_cells s g l i at (suc k) ≡ (take_at s g l i at >>= from l (at + 2) k)
  unfolding step_cells take_at step_at ◌>>=◌
  steps_next l i at k =
      bind_ext (field s at 2) _ _ (λ d. bind_ext (step_from g i d) _ _ (λ j. joined l (at + 2) k j ∙ sym (bind_bind (unless (not (member j l)) 4) (λ _. ok j) (from l (at + 2) k))))
      ∙ sym (bind_bind (step_at s g i at) (λ j. unless (not (member j l)) 4 >>= λ _. ok j) (from l (at + 2) k) ∙ bind_bind (field s at 2) (λ d. step_from g i d) _)

  -- an arrow in parts
  pub arrow_parts : (l : List ℕ) (at : ℕ)
      → arrow_at s g l at ≡ (opening_at s g at >>= λ o. unless (not (member (o.place.row * g.width + o.place.col) l)) 4 >>= λ _. from l (at + 20) o.steps (o.place.row * g.width + o.place.col))
  unfolding arrow_at opening_at ◌>>=◌
  arrow_parts l at = go (field s at 5) (field s (at + 5) 5) (field s (at + 10) 10)
    where
      R : Start → Outcome (List ℕ)
      R o = unless (not (member (o.place.row * g.width + o.place.col) l)) 4 >>= λ _. from l (at + 20) o.steps (o.place.row * g.width + o.place.col)

      go : (f₁ f₂ f₃ : Outcome ℕ)
          → (f₁ >>= λ y. f₂ >>= λ x. f₃ >>= λ k. unless (ltb y g.height && ltb x g.width) 3 >>= λ _. unless (not (member (y * g.width + x) l)) 4 >>= λ _.
          step_cells s g ((y * g.width + x) ∷ l) (y * g.width + x) (at + 20) k >>= λ js. ok ((y * g.width + x) ∷ js))
          ≡ ((f₁ >>= λ y. f₂ >>= λ x. f₃ >>= λ k. unless (ltb y g.height && ltb x g.width) 3 >>= λ _. ok (record { place = record { row = y; col = x }; steps = k })) >>= R)
      go (refused k) f₂ f₃ = refl
      go (ok y) (refused k) f₃ = refl
      go (ok y) (ok x) (refused k) = refl
      go (ok y) (ok x) (ok k) =
          bind_ext (unless (ltb y g.height && ltb x g.width) 3) _ _ (λ _. joined l (at + 20) k (y * g.width + x))
          ∙ sym (bind_bind (unless (ltb y g.height && ltb x g.width) 3) (λ _. ok (record { place = record { row = y; col = x }; steps = k })) R)

-- a step that is taken: each way out
module _ (s : List ℕ) (g : Grid) (l : List ℕ) (i at : ℕ) where
  pub step_lost : {k : ℕ} → refused k ≡ step_at s g i at → take_at s g l i at ≡ refused k
  unfolding take_at
  step_lost e = bind_refused _ (sym e)

  module _ (j : ℕ) (e : ok j ≡ step_at s g i at) where
    pub step_used : {k : ℕ} → unless (not (member j l)) 4 ≡ refused k → take_at s g l i at ≡ refused k
    unfolding take_at
    step_used a = bind_value _ (sym e) ∙ bind_refused _ a

    pub step_new : {z : ℕ} → unless (not (member j l)) 4 ≡ ok z → take_at s g l i at ≡ ok j
    unfolding take_at
    step_new a = bind_value _ (sym e) ∙ bind_value _ a

-- the first t steps are taken, up to where is read now, and what is left makes of them what the whole makes
pub record StepsSoFar (b : BitReader) (g : Grid) (l : List ℕ) (i k t j : ℕ) (line : List ℕ) (now : BitReader) : Type 0 where
  pub js : List ℕ
  pub line_is : line ≡ l ++ js
  pub past : Past (2 * t) b now
  pub rest : step_cells b.bytes.now g l i b.at k ≡ (step_cells b.bytes.now g (l ++ js) j (b.at + 2 * t) (k - t) >>= λ ks. ok (js ++ ks))

module _ (b : BitReader) (g : Grid) (l : List ℕ) (i k : ℕ) where
  abbrev s : List ℕ
  s = b.bytes.now

  abbrev at : ℕ
  at = b.at

  pub steps_start : StepsSoFar b g l i k 0 i l b
  steps_start = record {
    js = [];
    line_is = sym (append-nil l);
    past = past_none b;
    rest = rw (append-nil l, sub-zero k, add-zero at) (sym (bind_same (step_cells s g l i at k)));
  }

  left : (t j : ℕ) (js : List ℕ) → t < k
      → (step_cells s g (l ++ js) j (at + 2 * t) (k - t) >>= λ ks. ok (js ++ ks)) ≡ ((take_at s g (l ++ js) j (at + 2 * t) >>= from s g (l ++ js) (at + 2 * (t + 1)) (k - (t + 1))) >>= λ ks. ok (js ++ ks))
  left t j js h =
      let e : k - t ≡ suc (k - (t + 1)) = omega arith in
      let p : at + 2 * t + 2 ≡ at + 2 * (t + 1) = omega arith in
      rw e (ap (λ (o : Outcome (List ℕ)). o >>= λ ks. ok (js ++ ks)) (steps_next s g (l ++ js) j (at + 2 * t) (k - (t + 1)) ∙ rw p refl))

  module _ {t j : ℕ} {line : List ℕ} {now : BitReader} (h : t < k) (w : StepsSoFar b g l i k t j line now) where
    -- what is taken here
    taken : {o : Outcome ℕ} → take_at now.bytes.now g line j now.at ≡ o → take_at s g (l ++ w.js) j (at + 2 * t) ≡ o
    taken e = rw (w.past.same, w.past.on, w.line_is) at e

    pub steps_fault : {f : ℕ} → take_at now.bytes.now g line j now.at ≡ refused f → step_cells s g l i at k ≡ refused f
    steps_fault e = w.rest ∙ left t j w.js h ∙ bind_refused (λ ks. ok (w.js ++ ks)) (bind_refused _ (taken e))

    pub steps_more : {c : ℕ} {line' : List ℕ} {next : BitReader} → take_at now.bytes.now g line j now.at ≡ ok c → line' ≡ line ++ (c ∷ []) → Past 2 now next → StepsSoFar b g l i k (t + 1) c line' next
    steps_more {c} e q p = record {
      js = w.js ++ (c ∷ []);
      line_is = q ∙ ap (λ (u : List ℕ). u ++ (c ∷ [])) w.line_is ∙ append_assoc l w.js (c ∷ []);
      past = past_then (2 * (t + 1)) w.past p (omega arith);
      rest = w.rest ∙ left t j w.js h ∙ ap (λ (o : Outcome (List ℕ)). o >>= λ ks. ok (w.js ++ ks)) (bind_value _ (taken e))
          ∙ behind (step_cells s g ((l ++ w.js) ++ (c ∷ [])) c (at + 2 * (t + 1)) (k - (t + 1))) w.js c
          ∙ ap (λ (u : List ℕ). step_cells s g u c (at + 2 * (t + 1)) (k - (t + 1)) >>= λ ks. ok ((w.js ++ (c ∷ [])) ++ ks)) (append_assoc l w.js (c ∷ []));
    }

  module _ {t j : ℕ} {line : List ℕ} {now : BitReader} (h : t ≡ k) (w : StepsSoFar b g l i k t j line now) where
    pub steps_end : Agrees {B = Unit {0}} (step_cells s g l i at k) (λ js _. line ≡ l ++ js) (Ok tt)
    unfolding step_cells ◌>>=◌
    steps_end =
        let e : k - t ≡ 0 = omega (arith, h) in
        let a : step_cells s g l i at k ≡ ok w.js = w.rest ∙ ap (λ (m : ℕ). step_cells s g (l ++ w.js) j (at + 2 * t) m >>= λ ks. ok (w.js ++ ks)) e ∙ ap {B = Outcome (List ℕ)} ok (append-nil w.js) in
        (w.js, a, w.line_is)

-- an arrow begins on the grid
pub opening_fits : (s : List ℕ) (g : Grid) (at : ℕ) {y x k : ℕ} → opening_at s g at ≡ ok (record { place = record { row = y; col = x }; steps = k }) → (y < g.height) × (x < g.width) × (k < 1024)
unfolding opening_at
opening_fits s g at {y} {x} {k} e =
    let a = bind_ok (field s at 5) _ e in
    let b = bind_ok (field s (at + 5) 5) _ a.2 in
    let c = bind_ok (field s (at + 10) 10) _ b.2 in
    let d = bind_ok (unless (ltb a.0 g.height && ltb b.0 g.width) 3) _ c.2 in
    let t = and-true (ltb a.0 g.height) (ltb b.0 g.width) (unless-ok _ 3 d.1) in
    let q = ok-eq d.2 in
    let qy : a.0 ≡ y = ap (λ (o : Start). o.place.row) q in
    let qx : b.0 ≡ x = ap (λ (o : Start). o.place.col) q in
    let qk : c.0 ≡ k = ap (λ (o : Start). o.steps) q in
    let h : a.0 < g.height = ltb-true a.0 g.height t.0 in
    let w : b.0 < g.width = ltb-true b.0 g.width t.1 in
    let f : c.0 < 1024 = field-ok s (at + 10) 10 c.1 in
    (subst (λ (n : ℕ). n < g.height) qy h, subst (λ (n : ℕ). n < g.width) qx w, subst (λ (n : ℕ). n < 1024) qk f)

-- as many cells as steps
pub steps_length : (s : List ℕ) (g : Grid) (u : List ℕ) (i at k : ℕ) {js : List ℕ} → step_cells s g u i at k ≡ ok js → length js ≡ k
unfolding step_cells
steps_length s g u i at zero e = rw (← ok-eq e) refl
steps_length s g u i at (suc k) e =
    let a = bind_ok (field s at 2) _ e in
    let b = bind_ok (step_from g i a.0) _ a.2 in
    let c = bind_ok (unless (not (member b.0 u)) 4) _ b.2 in
    let d = bind_ok (step_cells s g (b.0 ∷ u) b.0 (at + 2) k) _ c.2 in
    rw (← ok-eq d.2) (ap suc (steps_length s g (b.0 ∷ u) b.0 (at + 2) k d.1))

-- an arrow: each way out
module _ (b : BitReader) (g : Grid) (l : List ℕ) where
  abbrev bytes : List ℕ
  bytes = b.bytes.now

  abbrev place : ℕ
  place = b.at

  pub arrow_bad : {k : ℕ} → refused k ≡ opening_at bytes g place → arrow_at bytes g l place ≡ refused k
  arrow_bad e = arrow_parts bytes g l place ∙ bind_refused _ (sym e)

  module _ (y x k : ℕ) (e : ok (record { place = record { row = y; col = x }; steps = k }) ≡ opening_at bytes g place) where
    abbrev cell : ℕ
    cell = y * g.width + x

    -- what is left when the start is read
    begun : arrow_at bytes g l place ≡ (unless (not (member cell l)) 4 >>= λ _. from bytes g l (place + 20) k cell)
    begun = arrow_parts bytes g l place ∙ bind_value _ (sym e)

    pub arrow_used : {f : ℕ} → unless (not (member cell l)) 4 ≡ refused f → arrow_at bytes g l place ≡ refused f
    arrow_used a = begun ∙ bind_refused _ a

    module _ {now : BitReader} (p : Past 20 b now) {z : ℕ} {line : List ℕ} (line' : List ℕ) (a : unless (not (member cell l)) 4 ≡ ok z) (q : line ≡ l ++ (cell ∷ [])) where
      -- the steps that are read from here
      onward : {o : Outcome (List ℕ)} → step_cells now.bytes.now g line cell now.at k ≡ o → step_cells bytes g (l ++ (cell ∷ [])) cell (place + 20) k ≡ o
      onward c = rw (p.same, p.on, q) at c

      pub arrow_steps : (next : BitReader) (r : Result (Unit {0}) Refusal) → Agrees (step_cells now.bytes.now g line cell now.at k) (λ js _. line' ≡ line ++ js) r → IfOk r (λ _. Past (2 * k) now next)
          → Agrees (arrow_at bytes g l place) (λ a _. (line' ≡ l ++ a) × Past (18 + 2 * length a) b next) r
      arrow_steps next (Ok u) c d =
          let t = onward c.1 in (
            cell ∷ c.0,
            begun ∙ bind_value _ a ∙ bind_value _ t,
            (
              c.2 ∙ ap (λ (u : List ℕ). u ++ c.0) q ∙ append_assoc l (cell ∷ []) c.0,
              past_then (18 + 2 * length (cell ∷ c.0)) p d (omega (arith, steps_length bytes g (l ++ (cell ∷ [])) cell (place + 20) k t)),
            ),
          )
      arrow_steps next (Err f) c d = begun ∙ bind_value _ a ∙ bind_refused _ (onward c)
