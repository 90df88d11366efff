-- The first reason among the pairs of one arrow, and of all arrows, by their places.
-- Assumes nothing.
use Prim.Native.Nat.{ℕ, zero, suc, ◌+◌, ◌*◌, ◌≤◌, ◌<◌}
use native.Mathlib.Omega.{arith}
use native.Mathlib.Numerals.{add-one}
use mathlib.Core.Path.{◌≡◌, refl, sym, ap, ◌∙◌}
use mathlib.Core.Bool.{true}
use mathlib.Core.List.{List, [], ◌∷◌, Memᴰ}
use mathlib.Core.Option.{none}
use lib.ListN.{length, get_or, take, drop, length-take, drop_of_length-le}
use lib.Seq.{slice, slice-cons, take_all}
use Rattle.grid.proofs.CellLaws.{square_taken}
use Rattle.grid.specs.Lists.{flat_map, member}
use Rattle.grid.proofs.ListLaws.{at_mem, mem-any, mem-member}
use Rattle.grid.proofs.SliceLaws.{slice_none, slice_taken}
use Rattle.grid.specs.Cells.{square}
use Rattle.record.specs.Problem.{arrows_from}
use Rattle.record.specs.Lines.{start_at}
use Rattle.groups.specs.Arrows.{on_arrow, Pair, pairs}
use Rattle.groups.specs.Arrays.{lines_of}
use Rattle.kinds.specs.Kinds.{View}
use Rattle.growth.specs.Pairs.{pair_at, pair_in, NextSquare, view_on, Stretch, Line, Whole}
use Rattle.literals.specs.Inside.{FoundAs}
use Rattle.literals.specs.Literals.{Found, or_else, first_found_of}
use Rattle.std.specs.Prelude.{Some, None}
use Rattle.literals.proofs.Findings.{nothing_found, found_first, first_append}
use Rattle.growth.proofs.PairNames.{next_taken, part_at}
use Rattle.growth.proofs.PairPlaces.{pair_part, pairs_start, pairs_more, pairs_end}

-- ---- one arrow

-- the first reason that `finds` has among the pairs from the place k on
abbrev pub ahead : (View → Pair → Found) → ℕ → ℕ → List (List ℕ) → List ℕ → List ℕ → ℕ → Found
ahead finds h w lines cells arrow k = first_found_of (finds (view_on h w lines cells)) (pairs (take (h * w) cells) (slice k (length arrow) arrow))

module _ (finds : View → Pair → Found) {h w : ℕ} {lines : List (List ℕ)} {cells arrow kinds owners : List ℕ} (s : Stretch h w lines cells arrow kinds owners) where
  abbrev F : Pair → Found
  F = finds (view_on h w lines cells)

  abbrev L : List ℕ
  L = take (h * w) cells

  long : length arrow ≤ length arrow
  long = omega arith

  -- it is the one from the first square on
  pub search_start : {r : ℕ} → NextSquare cells arrow 0 (length arrow) r → first_found_of F (pairs L arrow) ≡ ahead finds h w lines cells arrow r
  search_start n =
      ap (λ (l : List ℕ). first_found_of F (pairs L l)) (sym (take_all (length arrow) arrow long))
      ∙ ap (first_found_of F) (pairs_start L arrow (length arrow) long (next_taken (h * w) n (λ k _ u. s.inside k u)))

  -- there is none behind the last place
  pub search_done : (k : ℕ) → length arrow ≤ k → ahead finds h w lines cells arrow k ≡ none
  unfolding first_found_of pairs
  search_done k q = rw (slice_none arrow k (length arrow) q) refl

  module _ (last : ℕ) (within : last < length arrow) (first : square cells (get_or arrow last 0) ≡ true) {cur : ℕ} (n : NextSquare cells arrow (last + 1) (length arrow) cur) where
    taken : NextSquare L arrow (last + 1) (length arrow) cur
    taken = next_taken (h * w) n (λ k _ u. s.inside k u)

    first_taken : square L (get_or arrow last 0) ≡ true
    first_taken = square_taken cells (h * w) (get_or arrow last 0) (s.inside last within) ∙ first

    -- the pair of a square and the next gives none, or the reason
    pub search_more : cur < length arrow → {part b a : List ℕ} → part ≡ slice last (cur + 1) arrow → FoundAs (F (pair_in part)) b a None → ahead finds h w lines cells arrow last ≡ ahead finds h w lines cells arrow cur
    unfolding first_found_of or_else
    search_more q e x =
        let pair = ap pair_in e ∙ pair_part arrow last cur n.low q in
        ap (first_found_of F) (pairs_more L arrow (length arrow) long last within first_taken taken q) ∙ rw (nothing_found (F (pair_at arrow last cur)) (rw pair at x)).0 refl

    pub search_found : cur < length arrow → {part b a : List ℕ} {k : ℕ} → part ≡ slice last (cur + 1) arrow → FoundAs (F (pair_in part)) b a (Some k) → FoundAs (ahead finds h w lines cells arrow last) b a (Some k)
    unfolding first_found_of
    search_found q e x =
        rw (pairs_more L arrow (length arrow) long last within first_taken taken q)
        (found_first (F (pair_at arrow last cur)) (ahead finds h w lines cells arrow cur) (rw (ap pair_in e ∙ pair_part arrow last cur n.low q) at x))

    -- no square comes after it
    pub search_end : cur ≡ length arrow → ahead finds h w lines cells arrow last ≡ none
    unfolding first_found_of
    search_end e = ap (first_found_of F) (pairs_end L arrow (length arrow) long last within first_taken taken e)

-- ---- all arrows

-- the arrows from the a-th on, which starts at the place `from`
abbrev pub lines_from : List ℕ → List ℕ → ℕ → ℕ → ℕ → List (List ℕ)
lines_from arrows ends number from a = arrows_from arrows from (drop a (take number ends))

lines_more : (arrows ends : List ℕ) (number from a : ℕ) → a < number → number ≤ length ends
    → lines_from arrows ends number from a ≡ slice from (get_or ends a 0) arrows ∷ lines_from arrows ends number (get_or ends a 0) (a + 1)
unfolding arrows_from
lines_more arrows ends number from a h k = rw (slice-cons a number ends 0 h k, slice_taken arrows from (get_or ends a 0), add-one a) refl

lines_end : (arrows ends : List ℕ) (number from a : ℕ) → number ≤ a → lines_from arrows ends number from a ≡ []
unfolding arrows_from
lines_end arrows ends number from a h = rw (drop_of_length-le (take number ends) {i = a} (simp length-take (omega arith))) refl

-- the first reason among their pairs
abbrev pub rest_of : (Pair → Found) → List ℕ → List (List ℕ) → Found
rest_of f cells l = first_found_of f (flat_map (pairs cells) l)

module _ (f : Pair → Found) (cells arrows ends : List ℕ) (number from a : ℕ) where
  pub rest_end : number ≤ a → rest_of f cells (lines_from arrows ends number from a) ≡ none
  unfolding first_found_of
  rest_end h = rw (lines_end arrows ends number from a h) refl

  module _ (h : a < number) (k : number ≤ length ends) where
    rest_split : rest_of f cells (lines_from arrows ends number from a)
        ≡ or_else (first_found_of f (pairs cells (slice from (get_or ends a 0) arrows))) (rest_of f cells (lines_from arrows ends number (get_or ends a 0) (a + 1)))
    rest_split = rw (lines_more arrows ends number from a h k) (first_append f (pairs cells (slice from (get_or ends a 0) arrows)) (flat_map (pairs cells) (lines_from arrows ends number (get_or ends a 0) (a + 1))))

    -- the next arrow gives none, or the reason
    pub rest_more : {b b' : List ℕ} → FoundAs (first_found_of f (pairs cells (slice from (get_or ends a 0) arrows))) b b' None
        → rest_of f cells (lines_from arrows ends number from a) ≡ rest_of f cells (lines_from arrows ends number (get_or ends a 0) (a + 1))
    unfolding or_else
    rest_more x = rest_split ∙ rw (nothing_found (first_found_of f (pairs cells (slice from (get_or ends a 0) arrows))) x).0 refl

    pub rest_found : {b b' : List ℕ} {n : ℕ} → FoundAs (first_found_of f (pairs cells (slice from (get_or ends a 0) arrows))) b b' (Some n)
        → FoundAs (rest_of f cells (lines_from arrows ends number from a)) b b' (Some n)
    rest_found x =
        rw rest_split
        (found_first (first_found_of f (pairs cells (slice from (get_or ends a 0) arrows))) (rest_of f cells (lines_from arrows ends number (get_or ends a 0) (a + 1))) x)

-- the next arrow is one of the board's
module _ {h w : ℕ} {cells arrows ends kinds owners : List ℕ} {number : ℕ} (all : Whole h w cells arrows ends kinds owners number) (from a : ℕ) (within : a < number)
    (sub : (l : List ℕ) → Memᴰ l (lines_from arrows ends number from a) → Memᴰ l (lines_of arrows ends number)) where
  this : Memᴰ (slice from (get_or ends a 0) arrows) (lines_of arrows ends number)
  this = sub _ (rw (lines_more arrows ends number from a within all.drawn.ends_long) (Memᴰ.head refl))

  pub sub_more : (l : List ℕ) → Memᴰ l (lines_from arrows ends number (get_or ends a 0) (a + 1)) → Memᴰ l (lines_of arrows ends number)
  sub_more l m = sub l (rw (lines_more arrows ends number from a within all.drawn.ends_long) (Memᴰ.tail m))

  pub next_Stretch : Stretch h w (lines_of arrows ends number) cells (slice from (get_or ends a 0) arrows) kinds owners
  unfolding on_arrow
  next_Stretch = record {
    held = all.held;
    few = all.drawn.few (slice from (get_or ends a 0) arrows) this;
    inside = λ k l. all.drawn.inside (slice from (get_or ends a 0) arrows) this (get_or (slice from (get_or ends a 0) arrows) k 0) (at_mem (slice from (get_or ends a 0) arrows) k l);
    are_on_arrow = λ k l. mem-any (member (get_or (slice from (get_or ends a 0) arrows) k 0)) (lines_of arrows ends number) this (mem-member (get_or (slice from (get_or ends a 0) arrows) k 0) (slice from (get_or ends a 0) arrows) (at_mem (slice from (get_or ends a 0) arrows) k l));
  }

  pub next_Line : Line h w cells (slice from (get_or ends a 0) arrows) kinds owners
  next_Line = record {
    lines = lines_of arrows ends number;
    stretch = next_Stretch;
    places = record { small = λ k l. rw (part_at from (get_or ends a 0) arrows k l) (all.drawn.places.cells (from + k)) };
  }

-- an arrow ends where it starts, or behind that
pub starts_low : {h w : ℕ} {cells arrows ends kinds owners : List ℕ} {number : ℕ} → Whole h w cells arrows ends kinds owners number → (a : ℕ) → a < number → start_at ends a ≤ get_or ends a 0
unfolding start_at
starts_low all zero l = omega arith
starts_low {ends = ends} all (suc a) l = let rise = all.drawn.ends_rise a (omega arith) in rw (← add-one a) rise
