-- The codes of the cells, one after another.
-- Assumes nothing.
use Prim.Native.Nat.{ℕ, suc, ◌+◌, ◌-◌, ◌*◌, ◌≤◌, ◌<◌}
use native.Mathlib.Nat.{sub-zero, add-zero}
use native.Mathlib.Omega.{arith}
use mathlib.Core.Path.{◌≡◌, refl, sym, ap, ◌∙◌}
use mathlib.Core.List.{List, [], ◌∷◌, ◌++◌, append-nil}
use lib.Dec.{ltb}
use lib.ListN.{length, set, take, drop, replicate, length-set, length-replicate}
use lib.Seq.{take_all}
use Rattle.std.proofs.lemmas.List.{take_more_set, length-take-le, drop-replicate}
use Rattle.grid.specs.Lists.{array_of}
use Rattle.fields.specs.Fields.{Outcome, ok, refused, ◌>>=◌, unless, field}
use Rattle.fields.specs.Inside.{Agrees, Past, cell_code, code_at}
use Rattle.fields.specs.declared.BitReader.{BitReader}
use Rattle.fields.proofs.ReadLaws.{bind_bind, bind_same, bind_value, bind_refused, behind, past_none, past_then}
use Rattle.std.specs.Prelude.{Ok}
use Rattle.record.specs.Record.{cell_codes}

-- the codes of one cell more
cells_next : (s : List ℕ) (at n : ℕ) → cell_codes s at (suc n) ≡ (code_at s at >>= λ c. cell_codes s (at + 2) n >>= λ cs. ok (c ∷ cs))
unfolding cell_codes code_at cell_code ◌>>=◌
cells_next s at n = go (field s at 2)
  where
    go : (o : Outcome ℕ) → (o >>= λ c. unless (ltb c 3) 2 >>= λ _. cell_codes s (at + 2) n >>= λ cs. ok (c ∷ cs)) ≡ ((o >>= cell_code) >>= λ c. cell_codes s (at + 2) n >>= λ cs. ok (c ∷ cs))
    go (refused k) = refl
    go (ok c) = sym (bind_bind (unless (ltb c 3) 2) (λ _. ok c) (λ x. cell_codes s (at + 2) n >>= λ cs. ok (x ∷ cs)))

-- the first i codes are written, up to where is read now, and what is left makes of them what the whole makes
pub record CellsSoFar (b : BitReader) (n i : ℕ) (cells : List ℕ) (now : BitReader) : Type 0 where
  pub long : length cells ≡ n
  pub past : Past (2 * i) b now
  pub rest : cell_codes b.bytes.now b.at n ≡ (cell_codes b.bytes.now (b.at + 2 * i) (n - i) >>= λ cs. ok (take i cells ++ cs))

module _ (b : BitReader) (n : ℕ) where
  abbrev s : List ℕ
  s = b.bytes.now

  abbrev at : ℕ
  at = b.at

  pub cells_start : {cells : List ℕ} → length cells ≡ n → CellsSoFar b n 0 cells b
  cells_start e = record { long = e; past = past_none b; rest = rw (sub-zero n, add-zero at) (sym (bind_same (cell_codes s at n))) }

  module _ {i : ℕ} {cells : List ℕ} {now : BitReader} (h : i < n) (f : CellsSoFar b n i cells now) where
    -- what is left, when the next code is read
    left : (cell_codes s (at + 2 * i) (n - i) >>= λ cs. ok (take i cells ++ cs))
        ≡ ((code_at s (at + 2 * i) >>= λ c. cell_codes s (at + 2 * (i + 1)) (n - (i + 1)) >>= λ cs. ok (c ∷ cs)) >>= λ cs. ok (take i cells ++ cs))
    left =
        let e : n - i ≡ suc (n - (i + 1)) = omega arith in
        let p : at + 2 * i + 2 ≡ at + 2 * (i + 1) = omega arith in
        rw e (ap (λ (o : Outcome (List ℕ)). o >>= λ cs. ok (take i cells ++ cs)) (cells_next s (at + 2 * i) (n - (i + 1)) ∙ rw p refl))

    -- the code that is read here
    here : {o : Outcome ℕ} → o ≡ code_at now.bytes.now now.at → code_at s (at + 2 * i) ≡ o
    here e = sym (rw (f.past.same, f.past.on) at e)

    pub cells_fault : {k : ℕ} → refused k ≡ code_at now.bytes.now now.at → cell_codes s at n ≡ refused k
    cells_fault e = f.rest ∙ left ∙ bind_refused (λ cs. ok (take i cells ++ cs)) (bind_refused _ (here e))

    pub cells_more : (c : ℕ) {next : BitReader} → ok c ≡ code_at now.bytes.now now.at → Past 2 now next → CellsSoFar b n (i + 1) (set cells i c) next
    cells_more c e p = record {
      long = length-set cells i c ∙ f.long;
      past = past_then (2 * (i + 1)) f.past p (omega arith);
      rest = f.rest
          ∙ left
          ∙ ap (λ (o : Outcome (List ℕ)). o >>= λ cs. ok (take i cells ++ cs)) (bind_value _ (here e))
          ∙ behind (cell_codes s (at + 2 * (i + 1)) (n - (i + 1))) (take i cells) c
          ∙ ap (λ (l : List ℕ). cell_codes s (at + 2 * (i + 1)) (n - (i + 1)) >>= λ cs. ok (l ++ cs)) (sym (take_more_set cells i c (omega (arith, f.long))));
    }

  module _ {i : ℕ} {cells : List ℕ} {now : BitReader} (k : n ≤ i) (f : CellsSoFar b n i cells now) where
    pub cells_end : Agrees {B = Unit {0}} (cell_codes s at n) (λ cs _. cells ≡ cs) (Ok tt)
    unfolding cell_codes ◌>>=◌
    cells_end =
        let e : n - i ≡ 0 = omega arith in
        let a : cell_codes s at n ≡ ok (take i cells) = f.rest ∙ ap (λ (m : ℕ). cell_codes s (at + 2 * i) m >>= λ cs. ok (take i cells ++ cs)) e ∙ ap {B = Outcome (List ℕ)} ok (append-nil (take i cells)) in
        (take i cells, a, sym (take_all i cells (omega (arith, f.long))))

-- an array of zeros, its first n places, and the whole when these are written
pub zeros : replicate {A = ℕ} 1024 0 ≡ array_of 0 []
unfolding array_of
zeros = refl

pub zeros_front : (n : ℕ) → n ≤ 1024 → length (take n (replicate {A = ℕ} 1024 0)) ≡ n
zeros_front n h = length-take-le n (replicate 1024 0) (rw (length-replicate {A = ℕ} 1024 0) h)

pub zeros_over : (n : ℕ) (codes : List ℕ) → length codes ≡ n → codes ++ drop n (replicate 1024 0) ≡ array_of 0 codes
unfolding array_of
zeros_over n codes e = rw (e, drop-replicate {X = ℕ} n 1024 0) refl
