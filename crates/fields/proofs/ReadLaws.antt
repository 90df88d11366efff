-- What the steps of a reading make of an outcome: fields, codes, starts.
-- Assumes nothing.
use Prim.Native.Nat.{ℕ, ◌+◌, ◌≤◌, ◌<◌}
use native.Mathlib.Omega.{arith}
use borrow.Author.Tests.{lt-ltb, le-ltb}
use mathlib.Core.Path.{◌≡◌, refl, sym, ap, ◌∙◌}
use mathlib.Core.List.{List, [], ◌∷◌, ◌++◌, append_assoc}
use Rattle.grid.specs.Grid.{Grid}
use Rattle.grid.specs.Side.{sized}
use Rattle.fields.specs.Fields.{Outcome, ok, refused, ◌>>=◌, unless, field, step_from}
use Rattle.fields.specs.Inside.{Past, cell_code, code_at, step_at, opening_at}
use Rattle.fields.specs.declared.BitReader.{BitReader}
use Rattle.fields.specs.declared.Start.{Start}
use Rattle.fields.proofs.OutcomeLaws.{next_ok, next_refused, field-ok}

-- one step after another
pub bind_bind : {A B C : Type 0} (o : Outcome A) (f : A → Outcome B) (h : B → Outcome C) → ((o >>= f) >>= h) ≡ (o >>= λ x. f x >>= h)
unfolding ◌>>=◌
bind_bind (refused k) f h = refl
bind_bind (ok a) f h = refl

-- a last step that keeps the value
pub bind_same : {A : Type 0} (o : Outcome A) → (o >>= λ x. ok x) ≡ o
unfolding ◌>>=◌
bind_same (refused k) = refl
bind_same (ok a) = refl

-- after a value, after a refusal
pub bind_value : {A B : Type 0} {o : Outcome A} {a : A} (f : A → Outcome B) → o ≡ ok a → (o >>= f) ≡ f a
unfolding ◌>>=◌
bind_value f e = rw e refl

pub bind_refused : {A B : Type 0} {o : Outcome A} {k : ℕ} (f : A → Outcome B) → o ≡ refused k → (o >>= f) ≡ refused k
unfolding ◌>>=◌
bind_refused f e = rw e refl

-- a value more, behind those that came before
pub behind : {A : Type 0} (o : Outcome (List A)) (pre : List A) (x : A) → ((o >>= λ cs. ok (x ∷ cs)) >>= λ cs. ok (pre ++ cs)) ≡ (o >>= λ cs. ok ((pre ++ (x ∷ [])) ++ cs))
unfolding ◌>>=◌
behind (refused k) pre x = refl
behind {A} (ok cs) pre x = ap {B = Outcome (List A)} ok (sym (append_assoc pre (x ∷ []) cs))

-- no bits further, and one way behind another
pub past_none : (b : BitReader) → Past 0 b b
past_none b = record { same = refl; on = omega arith }

pub past_then : {m n : ℕ} (k : ℕ) {a b c : BitReader} → Past m a b → Past n b c → m + n ≡ k → Past k a c
past_then k p q e = record { same = q.same ∙ p.same; on = omega (arith, q.on, p.on, e) }

-- a code that is read: the field is cut, or its number is looked at
module _ (s : List ℕ) (at : ℕ) where
  pub code_cut : {k : ℕ} → refused k ≡ field s at 2 → refused k ≡ code_at s at
  unfolding code_at
  code_cut e = next_refused cell_code e

  pub code_is : {c : ℕ} {z : Outcome ℕ} → ok c ≡ field s at 2 → z ≡ cell_code c → z ≡ code_at s at
  unfolding code_at
  code_is e q = next_ok cell_code e q

-- a step that is read
module _ (s : List ℕ) (g : Grid) (i at : ℕ) where
  pub step_cut : {k : ℕ} → refused k ≡ field s at 2 → refused k ≡ step_at s g i at
  unfolding step_at
  step_cut e = next_refused _ e

  pub step_is : {d : ℕ} {z : Outcome ℕ} → ok d ≡ field s at 2 → z ≡ step_from g i d → z ≡ step_at s g i at
  unfolding step_at
  step_is e q = next_ok _ e q

-- a start that is read: each of its fields may be cut, and its row or its column off the grid
module _ (b : BitReader) (h w : ℕ) where
  abbrev pub opening : Outcome Start
  opening = opening_at b.bytes.now (sized h w) b.at

  pub row_cut : {k : ℕ} → refused k ≡ field b.bytes.now b.at 5 → refused k ≡ opening
  unfolding opening_at ◌>>=◌
  row_cut e = rw (← e) refl

  module _ {y : ℕ} {b1 : BitReader} (ey : ok y ≡ field b.bytes.now b.at 5) (p : Past 5 b b1) where
    pub col_cut : {k : ℕ} → refused k ≡ field b1.bytes.now b1.at 5 → refused k ≡ opening
    unfolding opening_at ◌>>=◌
    col_cut e = rw (← ey, ← (rw (p.same, p.on) at e)) refl

    module _ {x : ℕ} {b2 : BitReader} (ex : ok x ≡ field b1.bytes.now b1.at 5) (q : Past 5 b1 b2) where
      second : ok x ≡ field b.bytes.now (b.at + 5) 5
      second = rw (p.same, p.on) at ex

      same : b2.bytes.now ≡ b.bytes.now
      same = q.same ∙ p.same

      on : b2.at ≡ b.at + 10
      on = omega (arith, q.on, p.on)

      pub steps_cut : {k : ℕ} → refused k ≡ field b2.bytes.now b2.at 10 → refused k ≡ opening
      unfolding opening_at ◌>>=◌
      steps_cut e = rw (← ey, ← second, ← (rw (same, on) at e)) refl

      module _ {n : ℕ} (en : ok n ≡ field b2.bytes.now b2.at 10) where
        third : ok n ≡ field b.bytes.now (b.at + 10) 10
        third = rw (same, on) at en

        pub row_off : h ≤ y → refused 3 ≡ opening
        unfolding opening_at unless ◌>>=◌
        row_off l = rw (← ey, ← second, ← third, le-ltb y h l) refl

        pub col_off : y < h → w ≤ x → refused 3 ≡ opening
        unfolding opening_at unless ◌>>=◌
        col_off l r = rw (← ey, ← second, ← third, lt-ltb y h l, le-ltb x w r) refl

        pub start_on : y < h → x < w → ok (record { place = record { row = y; col = x }; steps = n }) ≡ opening
        unfolding opening_at unless ◌>>=◌
        start_on l r = rw (← ey, ← second, ← third, lt-ltb y h l, lt-ltb x w r) refl

        pub start_past : {b3 : BitReader} → Past 10 b2 b3 → Past 20 b b3
        start_past r = record { same = r.same ∙ same; on = omega (arith, r.on, on) }

-- a step's code is one of four
pub code_small : (s : List ℕ) (at : ℕ) {d : ℕ} → ok d ≡ field s at 2 → d < 4
code_small s at e = field-ok s at 2 (sym e)

pub ruleset rules = (code_cut, code_is, step_cut, step_is, code_small)

pub ruleset start_rules = (start_on, start_past, row_cut, col_cut, steps_cut)
