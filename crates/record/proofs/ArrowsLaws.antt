-- The arrows of a record, one after another, and the filler behind them.
-- Assumes nothing.
use Prim.Native.Nat.{ℕ, suc, ◌+◌, ◌-◌, ◌*◌, ◌≤◌, ◌<◌}
use native.Mathlib.Nat.{sub-zero}
use native.Mathlib.Omega.{arith}
use mathlib.Core.Path.{◌≡◌, refl, sym, ap, ◌∙◌}
use mathlib.Core.Bool.{Bool, true, false}
use mathlib.Core.List.{List, [], ◌∷◌, ◌++◌, append_assoc, append-nil}
use lib.ListN.{length, set, length-append}
use Rattle.grid.specs.Lists.{array_of}
use Rattle.grid.specs.Grid.{Grid}
use Rattle.fields.specs.Fields.{Outcome, ok, refused, ◌>>=◌, unless}
use Rattle.record.specs.Record.{arrow_at}
use Rattle.record.specs.Head.{arrows_in}
use Rattle.grid.proofs.ArrayLaws.{array_more}
use Rattle.record.specs.Valid.{Arrow}
use Rattle.record.specs.Problem.{arrow_cells, ends_from}
use Rattle.std.specs.Prelude.{Ok}
use Rattle.fields.specs.Inside.{Agrees, Past}
use Rattle.fields.specs.declared.BitReader.{BitReader}
use Rattle.record.specs.Inside.{ended, arrows_ended}
use Rattle.record.specs.declared.Extent.{Extent}
use Rattle.record.proofs.RecordLaws.{Arrow-ok}
use Rattle.fields.proofs.ReadLaws.{bind_same, bind_value, bind_refused, behind, past_none, past_then}
use Rattle.record.proofs.ProblemLaws.{length_ends}
use Rattle.record.proofs.ArrowLaws.{bind_ext, Same-turn, arrows_Same}

-- one arrow more
arrows_next : (s : List ℕ) (g : Grid) (l : List ℕ) (at m : ℕ) → arrows_in s g l at (suc m) ≡ (arrow_at s g l at >>= λ a. arrows_in s g (l ++ a) (at + 18 + 2 * length a) m >>= λ rest. ok (a ∷ rest))
unfolding arrows_in
arrows_next s g l at m = bind_ext (arrow_at s g l at) _ _ (λ a. ap (λ (o : Outcome (List (List ℕ))). o >>= λ rest. ok (a ∷ rest)) (arrows_Same s g m (at + 18 + 2 * length a) (Same-turn a l)))

-- the cells and the ends of one arrow more
cells_snoc : (as' : List (List ℕ)) (a : List ℕ) → arrow_cells (as' ++ (a ∷ [])) ≡ arrow_cells as' ++ a
unfolding arrow_cells
cells_snoc [] a = append-nil a
cells_snoc (b ∷ as') a = ap (λ (t : List ℕ). b ++ t) (cells_snoc as' a) ∙ sym (append_assoc b (arrow_cells as') a)

ends_snoc : (at : ℕ) (as' : List (List ℕ)) (a : List ℕ) → ends_from at (as' ++ (a ∷ [])) ≡ ends_from at as' ++ ((at + length (arrow_cells as') + length a) ∷ [])
unfolding arrow_cells ends_from
ends_snoc at [] a = ap (λ (n : ℕ). n ∷ []) (omega arith)
ends_snoc at (b ∷ as') a =
    let e : at + length b + length (arrow_cells as') + length a ≡ at + length (b ++ arrow_cells as') + length a = rw (length-append b (arrow_cells as')) (omega arith) in
    ap (λ (t : List ℕ). (at + length b) ∷ t) (ends_snoc (at + length b) as' a ∙ ap (λ (n : ℕ). ends_from (at + length b) as' ++ (n ∷ [])) e)

-- no arrow is empty
pub arrow_some : (s : List ℕ) (g : Grid) (l : List ℕ) (at : ℕ) {a : List ℕ} → arrow_at s g l at ≡ ok a → 0 < length a
arrow_some s g l at e = go (Arrow-ok s g l at e).0
  where
    go : {b : List ℕ} → Arrow g b → 0 < length b
    go (Arrow.arrow h w) = omega arith

-- the first n arrows are read, up to where is read now, and what is left makes of them what the whole makes
pub record ArrowsSoFar (b : BitReader) (g : Grid) (m n : ℕ) (line ends : List ℕ) (now : BitReader) : Type 0 where
  pub read : List (List ℕ)
  pub many : length read ≡ n
  pub line_is : line ≡ arrow_cells read
  pub some : n ≤ length line
  pub ended : ends ≡ array_of 0 (ends_from 0 read)
  pub past : Past (18 * n + 2 * length line) b now
  pub rest : arrows_in b.bytes.now g [] b.at m ≡ (arrows_in b.bytes.now g line now.at (m - n) >>= λ l. ok (read ++ l))

module _ (b : BitReader) (g : Grid) (m : ℕ) where
  abbrev s : List ℕ
  s = b.bytes.now

  abbrev at : ℕ
  at = b.at

  pub arrows_start : (line ends : List ℕ) → line ≡ [] → ends ≡ array_of 0 [] → ArrowsSoFar b g m 0 line ends b
  unfolding arrow_cells ends_from
  arrows_start line ends e z =
      rw e (record {
        read = [];
        many = refl;
        line_is = refl;
        some = omega arith;
        ended = z;
        past = past_then 0 (past_none b) (past_none b) (omega arith);
        rest = rw (sub-zero m) (sym (bind_same (arrows_in s g [] at m)));
      })

  module _ {n : ℕ} {line ends : List ℕ} {now : BitReader} (w : ArrowsSoFar b g m n line ends now) where
    left : n < m → arrows_in s g [] at m ≡ ((arrow_at s g line now.at >>= λ a. arrows_in s g (line ++ a) (now.at + 18 + 2 * length a) (m - (n + 1)) >>= λ l. ok (a ∷ l)) >>= λ l. ok (w.read ++ l))
    left h =
        let e : m - n ≡ suc (m - (n + 1)) = omega arith in
        w.rest ∙ rw e (ap (λ (o : Outcome (List (List ℕ))). o >>= λ l. ok (w.read ++ l)) (arrows_next s g line now.at (m - (n + 1))))

    -- the arrow that is read here
    here : {o : Outcome (List ℕ)} → arrow_at now.bytes.now g line now.at ≡ o → arrow_at s g line now.at ≡ o
    here e = rw w.past.same at e

    pub arrows_fault : (extent : Extent) {k : ℕ} → n < m → arrow_at now.bytes.now g line now.at ≡ refused k → arrows_ended extent s g at m ≡ refused k
    unfolding arrows_ended
    arrows_fault extent h e = bind_refused _ (left h ∙ bind_refused (λ l. ok (w.read ++ l)) (bind_refused _ (here e)))

    module _ {a line' : List ℕ} (e : arrow_at now.bytes.now g line now.at ≡ ok a) (q : line' ≡ line ++ a) where
      -- there is room for its end
      pub arrows_room : length line' ≤ 1024 → n < 1024
      arrows_room k = omega (arith, w.some, arrow_some s g line now.at (here e), length-append line a, ap length q)

      pub arrows_more : {next : BitReader} → Past (18 + 2 * length a) now next → n < m → length line' ≤ 1024 → ArrowsSoFar b g m (n + 1) line' (set ends n (length line')) next
      arrows_more {next} p h k =
          let c : ℕ = length line' in
          let size : length (ends_from 0 w.read) ≡ n = length_ends 0 w.read ∙ w.many in
          let cells : length line ≡ length (arrow_cells w.read) = ap length w.line_is in
          let total : c ≡ length line + length a = ap length q ∙ length-append line a in
          let end : c ≡ 0 + length (arrow_cells w.read) + length a = omega (arith, total, cells) in
          let on : now.at + 18 + 2 * length a ≡ next.at = omega (arith, p.on) in
          record {
            read = w.read ++ (a ∷ []);
            many = length-append w.read (a ∷ []) ∙ omega (arith, w.many);
            line_is = q ∙ ap (λ (u : List ℕ). u ++ a) w.line_is ∙ sym (cells_snoc w.read a);
            some = omega (arith, w.some, arrow_some s g line now.at (here e), total);
            ended = ap (λ (t : List ℕ). set t n c) w.ended
                ∙ ap (λ (i : ℕ). set (array_of 0 (ends_from 0 w.read)) i c) (sym size)
                ∙ array_more 0 (ends_from 0 w.read) c (omega (arith, size, arrows_room k))
                ∙ ap (λ (i : ℕ). array_of 0 (ends_from 0 w.read ++ (i ∷ []))) end
                ∙ ap (array_of 0) (sym (ends_snoc 0 w.read a));
            past = past_then (18 * (n + 1) + 2 * c) w.past p (omega (arith, total));
            rest = left h
                ∙ ap (λ (o : Outcome (List (List ℕ))). o >>= λ l. ok (w.read ++ l)) (bind_value _ (here e))
                ∙ behind (arrows_in s g (line ++ a) (now.at + 18 + 2 * length a) (m - (n + 1))) w.read a
                ∙ ap (λ (i : ℕ). arrows_in s g (line ++ a) i (m - (n + 1)) >>= λ l. ok ((w.read ++ (a ∷ [])) ++ l)) on
                ∙ ap (λ (u : List ℕ). arrows_in s g u next.at (m - (n + 1)) >>= λ l. ok ((w.read ++ (a ∷ [])) ++ l)) (sym q);
          }

  -- no arrow is left
  module _ {n : ℕ} (h : n ≡ m) {line ends : List ℕ} {now : BitReader} (w : ArrowsSoFar b g m n line ends now) where
    all_read : arrows_in s g [] at m ≡ ok w.read
    unfolding arrows_in ◌>>=◌
    all_read =
        let e : m - n ≡ 0 = omega (arith, h) in
        w.rest ∙ rw e (ap {B = Outcome (List (List ℕ))} ok (append-nil w.read))

    behind_is : (extent : Extent) {t : Bool} → t ≡ ended extent now.bytes.now now.at → ended extent s (at + 18 * m + 2 * length (arrow_cells w.read)) ≡ t
    behind_is extent f =
        let on : now.at ≡ at + 18 * m + 2 * length (arrow_cells w.read) = omega (arith, w.past.on, h, ap length w.line_is) in
        sym (rw (w.past.same, on) at f)

    pub arrows_filled : (extent : Extent) → true ≡ ended extent now.bytes.now now.at
        → Agrees {B = Unit {0}} (arrows_ended extent s g at m) (λ l _. (line ≡ arrow_cells l) × (ends ≡ array_of 0 (ends_from 0 l))) (Ok tt)
    unfolding arrows_ended ◌>>=◌ unless
    arrows_filled extent f =
        let a : arrows_ended extent s g at m ≡ ok w.read = rw (all_read, behind_is extent f) refl in
        (w.read, a, (w.line_is, w.ended))

    pub arrows_unfilled : (extent : Extent) → false ≡ ended extent now.bytes.now now.at → arrows_ended extent s g at m ≡ refused 5
    unfolding arrows_ended ◌>>=◌ unless
    arrows_unfilled extent f = rw (all_read, behind_is extent f) refl
