-- What several writes put into a string of a fixed room.
-- Assumes nothing.
use mathlib.Core.Path.{◌≡◌, subst, sym, ap, ◌∙◌}
use Prim.Native.Nat.{ℕ}
use Rattle.std.specs.Prelude.{Bool, true, false, Result, Ok, Err, List, [], ◌∷◌, ◌++◌, OnOk}
use Rattle.std.specs.Result.{is_err}
use Rattle.std.specs.List.{concat, FoldsTo}
use Rattle.std.specs.Fmt.{WritesInCalls}
use Rattle.arrayvec.specs.ArrayString.{ArrayString}
use Rattle.std.proofs.Common.{append_assoc, append-nil}

in_turn : (w : ArrayString) (xs : List (List ℕ)) (v : ArrayString) → FoldsTo (λ s bytes t. t.bytes ≡ s.bytes ++ bytes) w xs v → v.bytes ≡ w.bytes ++ concat xs
in_turn w [] v p = subst (λ u. u.bytes ≡ w.bytes ++ []) p (sym (append-nil w.bytes))
in_turn w (x ∷ xs) v p = in_turn p.0 xs v p.2 ∙ ap (λ l. l ++ concat xs) p.1 ∙ append_assoc w.bytes x (concat xs)

-- an empty string has the text that calls of `write_str` gave it
pub written : (w : ArrayString) (bs : List ℕ) (v : ArrayString) → w.bytes ≡ [] → WritesInCalls (λ s bytes t. t.bytes ≡ s.bytes ++ bytes) w bs v → v.bytes ≡ bs
written w bs v e p = in_turn w p.parts v p.calls ∙ ap (λ l. l ++ concat p.parts) e ∙ p.whole

-- what holds on success holds where there was no failure
pub not_failed : {A E P : Type 0} (r : Result A E) → is_err r ≡ false → OnOk r P → P
not_failed (Ok x) p h = h
not_failed (Err e) p h = let z : ◌≡◌ {A = Bool} true false = p in cc
