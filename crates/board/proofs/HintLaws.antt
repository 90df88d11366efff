-- Accepted finds among calls: how many there are of each player, and what the plain machine and the counts make of them.
-- Assumes nothing.
use Prim.Native.Nat.{ℕ, zero, suc, ◌+◌, ◌≤◌, ◌<◌, min}
use native.Mathlib.Nat.{min-eq_left, min-eq_right, min-le_right}
use native.Mathlib.Decide.{ℕ_discrete, dec_lt, dec_le}
use native.Mathlib.Omega.{arith}
use mathlib.Core.Logic.{◌↔◌}
use mathlib.Core.Path.{◌≡◌, refl, sym, ap, ◌∙◌}
use mathlib.Core.Bool.{Bool, true, false, cond, ◌&&◌}
use mathlib.Core.List.{List, [], ◌∷◌, ◌++◌, map}
use lib.Dec.{eqb, leb, ltb}
use lib.ListN.{length, get_or, set, replicate, length-append, length-set, get_or-eq_default}
use lib.Seq.{ext_get_or, get_or-set_same, get_or-set_other}
use borrow.Author.Tests.{eqb-true, eq-eqb, ne_eqb, leb-true, le-leb, lt-leb, lt-ltb, le-ltb}
use Rattle.std.proofs.lemmas.Bool.{and_from}
use Rattle.grid.specs.Lists.{all, filter, upto}
use Rattle.grid.specs.Grid.{Grid}
use Rattle.grid.specs.Cells.{Literal}
use Rattle.grid.proofs.ListLaws.{and-true, all-mem, mem-all, at_mem, mem_at, length-map-upto, map-upto_at, map-upto_past}
use Rattle.grid.proofs.AppendLaws.{filter-append}
use Rattle.board.specs.Board.{Call, find, after, refusal, after_all, enough, asks, how_often}
use Rattle.board.specs.Kept.{no_hints}
use Rattle.board.specs.Form.{Counts, counts_formed}
use Rattle.board.specs.Hints.{raised}

-- ---- four counts

-- the test says so
pub Counts-is : (ns : List ℕ) → counts_formed ns ≡ true → Counts ns
unfolding counts_formed
Counts-is ns e =
    let a = and-true (eqb (length ns) 4) (all (λ n. leb n 65535) ns) e in
    record { four = eqb-true (length ns) 4 a.0; low = λ q. go a.1 q (dec_lt q (length ns)) }
  where
    go : all (λ n. leb n 65535) ns ≡ true → (q : ℕ) → Dec (q < length ns) → get_or ns q 0 ≤ 65535
    go h q (yes l) = leb-true (get_or ns q 0) 65535 (all-mem (λ n. leb n 65535) ns h (get_or ns q 0) (at_mem ns q l))
    go h q (no l) = rw (get_or-eq_default ns 0 {n = q} (omega arith)) (omega arith)

pub is_Counts : (ns : List ℕ) → Counts ns → counts_formed ns ≡ true
unfolding counts_formed
is_Counts ns h =
    and_from _ _ (eq-eqb (length ns) 4 h.four) (mem-all (λ n. leb n 65535) ns (λ x m. let r = mem_at ns m in le-leb x 65535 (rw (← r.2) (h.low r.0))))

-- a count for each player
abbrev pub each : (ℕ → ℕ) → List ℕ
each f = map f (upto 4)

pub each_at : (f : ℕ → ℕ) (q : ℕ) → q ≤ 3 → get_or (each f) q 0 ≡ f q
each_at f q l = map-upto_at f 4 q 0 (omega arith)

pub each_is : (f : ℕ → ℕ) (ns : List ℕ) → length ns ≡ 4 → ((q : ℕ) → q ≤ 3 → f q ≡ get_or ns q 0) → each f ≡ ns
each_is f ns four h =
    ext_get_or 0 (each f) ns (length-map-upto f 4 ∙ sym four) (λ q l.
    let k : q ≤ 3 = omega (arith, length-map-upto f 4) in
    each_at f q k ∙ h q k)

pub each-Counts : (f : ℕ → ℕ) → ((q : ℕ) → f q ≤ 65535) → Counts (each f)
each-Counts f h = record { four = length-map-upto f 4; low = λ q. go q (dec_le q 3) }
  where
    go : (q : ℕ) → Dec (q ≤ 3) → get_or (each f) q 0 ≤ 65535
    go q (yes l) = rw (each_at f q l) (h q)
    go q (no l) = rw (map-upto_past f 4 q 0 (omega arith)) (omega arith)

-- those of a fresh board
none_yet : (n q : ℕ) → ◌≡◌ {A = ℕ} (get_or (replicate n 0) q 0) 0
none_yet zero q = refl
none_yet (suc n) zero = refl
none_yet (suc n) (suc q) = none_yet n q

pub no_hints_lem : Counts no_hints
no_hints_lem = record { four = refl; low = λ q. rw (none_yet 4 q) (omega arith) }

-- ---- one count of them

-- a count stays a count
raised_low : (n : ℕ) → raised n ≤ 65535
unfolding raised
raised_low n = min-le_right (n + 1) 65535

-- to rise and then to rise k times more is to rise by as many, as far as 65,535
rises : (t : Bool) (n k : ℕ) → min (cond t (raised n) n + k) 65535 ≡ min (n + cond t (suc k) k) 65535
unfolding raised
rises false n k = refl
rises true n k = go (dec_le (n + 1) 65535)
  where
    go : Dec (n + 1 ≤ 65535) → min (min (n + 1) 65535 + k) 65535 ≡ min (n + suc k) 65535
    go (yes l) =
        let e : n + 1 + k ≡ n + suc k = omega arith in
        rw (min-eq_left l, e) refl
    go (no m) =
        let l : 65535 ≤ n + 1 = omega arith in
        let a : 65535 ≤ 65535 + k = omega arith in
        let b : 65535 ≤ n + suc k = omega arith in
        rw (min-eq_right l, min-eq_right a, min-eq_right b) refl

-- ---- what a call makes of the counts

-- the counts ns after a call: a player's rises where the call is an accepted find of that player
abbrev pub counted : Grid → Call → List ℕ → List ℕ
counted g c ns = each (λ q. cond (asks g q c) (raised (get_or ns q 0)) (get_or ns q 0))

-- the counts ns after the calls cs
abbrev pub counted_all : Grid → List Call → List ℕ → List ℕ
counted_all g cs ns = each (λ q. min (get_or ns q 0 + how_often g q cs) 65535)

-- they stay four counts
pub counted-Counts : (g : Grid) (c : Call) {ns : List ℕ} → Counts ns → Counts (counted g c ns)
counted-Counts g c {ns} h = each-Counts (λ q. cond (asks g q c) (raised (get_or ns q 0)) (get_or ns q 0)) (λ q. go (asks g q c) (get_or ns q 0) (h.low q))
  where
    go : (t : Bool) (n : ℕ) → n ≤ 65535 → cond t (raised n) n ≤ 65535
    go true n k = raised_low n
    go false n k = k

pub all_Counts : (g : Grid) (cs : List Call) (ns : List ℕ) → Counts (counted_all g cs ns)
all_Counts g cs ns = each-Counts (λ q. min (get_or ns q 0 + how_often g q cs) 65535) (λ q. min-le_right (get_or ns q 0 + how_often g q cs) 65535)

-- the finds that count for player q are those of that player that the machine doesn't refuse
pub asks_accepted : (g : Grid) (q r k : ℕ) (ds : List Literal) → (asks g q (find r k) ≡ true) ↔ (r ≡ q) × (refusal g (find r k) ds ≡ 0)
unfolding asks refusal
asks_accepted g q r k ds = (forth, back)
  where
    forth : (eqb r q && (leb r 3 && leb (enough g) k)) ≡ true → (r ≡ q) × (◌≡◌ {A = ℕ} (cond (leb r 3) (cond (ltb k (enough g)) 11 0) 17) 0)
    forth e =
        let a = and-true (eqb r q) (leb r 3 && leb (enough g) k) e in
        let b = and-true (leb r 3) (leb (enough g) k) a.1 in
        (eqb-true r q a.0, rw (b.0, le-ltb k (enough g) (leb-true (enough g) k b.1)) refl)

    back : (r ≡ q) × (◌≡◌ {A = ℕ} (cond (leb r 3) (cond (ltb k (enough g)) 11 0) 17) 0) → (eqb r q && (leb r 3 && leb (enough g) k)) ≡ true
    back (e, h) = rw (eq-eqb r q e) (go (dec_le r 3) (dec_le (enough g) k) h)
      where
        go : Dec (r ≤ 3) → Dec (enough g ≤ k) → ◌≡◌ {A = ℕ} (cond (leb r 3) (cond (ltb k (enough g)) 11 0) 17) 0 → (leb r 3 && leb (enough g) k) ≡ true
        go (yes l) (yes m) z = rw (le-leb r 3 l, le-leb (enough g) k m) refl
        go (yes l) (no m) z = absurd (omega (arith, rw (le-leb r 3 l, lt-ltb k (enough g) (omega arith)) at z))
        go (no l) m z = absurd (omega (arith, rw (lt-leb r 3 (omega arith)) at z))

-- an accepted find raises the count of its player alone, a refused one raises none
pub counted-find : (g : Grid) (q k : ℕ) (ns : List ℕ) → length ns ≡ 4 → q ≤ 3 → enough g ≤ k → set ns q (raised (get_or ns q 0)) ≡ counted g (find q k) ns
unfolding asks
counted-find g q k ns four l m =
    sym (each_is (λ r. cond (eqb q r && (leb q 3 && leb (enough g) k)) (raised (get_or ns r 0)) (get_or ns r 0)) (set ns q (raised (get_or ns q 0)))
    (length-set ns q (raised (get_or ns q 0)) ∙ four) (λ r h. rw (le-leb q 3 l, le-leb (enough g) k m) (go r h (ℕ_discrete r q))))
  where
    go : (r : ℕ) → r ≤ 3 → Dec (r ≡ q) → cond (eqb q r && true) (raised (get_or ns r 0)) (get_or ns r 0) ≡ get_or (set ns q (raised (get_or ns q 0))) r 0
    go r h (yes e) = rw (e, eq-eqb q q refl, get_or-set_same ns q (raised (get_or ns q 0)) 0 (omega (arith, four))) refl
    go r h (no n) = rw (ne_eqb q r (λ e. n (sym e)), get_or-set_other ns q r (raised (get_or ns q 0)) 0 n) refl

pub asks_not : (g : Grid) (r q k : ℕ) → (leb q 3 && leb (enough g) k) ≡ false → asks g r (find q k) ≡ false
unfolding asks
asks_not g r q k e = rw e (go (eqb q r))
  where
    go : (t : Bool) → (t && false) ≡ false
    go true = refl
    go false = refl

-- a call that is no accepted find of any player leaves the counts
pub counted_none : (g : Grid) (c : Call) (ns : List ℕ) → length ns ≡ 4 → ((q : ℕ) → asks g q c ≡ false) → ns ≡ counted g c ns
counted_none g c ns four h = sym (each_is (λ q. cond (asks g q c) (raised (get_or ns q 0)) (get_or ns q 0)) ns four (λ q l. rw (h q) refl))

-- one call more, before the others
often_cons : (g : Grid) (q : ℕ) (c : Call) (cs : List Call) → how_often g q (c ∷ cs) ≡ cond (asks g q c) (suc (how_often g q cs)) (how_often g q cs)
unfolding how_often
often_cons g q c cs = go (asks g q c)
  where
    go : (t : Bool) → length (cond t (c ∷ filter (asks g q) cs) (filter (asks g q) cs)) ≡ cond t (suc (length (filter (asks g q) cs))) (length (filter (asks g q) cs))
    go true = refl
    go false = refl

-- the counts after no call, after one call and then the others, and after calls on a fresh board
pub count_none : (g : Grid) {ns : List ℕ} → Counts ns → counted_all g [] ns ≡ ns
unfolding how_often
count_none g {ns} h = each_is (λ q. min (get_or ns q 0 + 0) 65535) ns h.four (λ q l.
    let e : get_or ns q 0 + 0 ≡ get_or ns q 0 = omega arith in
    rw e (min-eq_left (h.low q)))

pub count_cons : (g : Grid) (c : Call) (cs : List Call) (ns : List ℕ) → counted_all g cs (counted g c ns) ≡ counted_all g (c ∷ cs) ns
count_cons g c cs ns =
    each_is (λ q. min (get_or (counted g c ns) q 0 + how_often g q cs) 65535) (counted_all g (c ∷ cs) ns) (all_Counts g (c ∷ cs) ns).four (λ q l.
    ap (λ (n : ℕ). min (n + how_often g q cs) 65535) (each_at (λ r. cond (asks g r c) (raised (get_or ns r 0)) (get_or ns r 0)) q l)
    ∙ rises (asks g q c) (get_or ns q 0) (how_often g q cs) ∙ ap (λ (k : ℕ). min (get_or ns q 0 + k) 65535) (sym (often_cons g q c cs))
    ∙ sym (each_at (λ r. min (get_or ns r 0 + how_often g r (c ∷ cs)) 65535) q l))

pub count_fresh : (g : Grid) (cs : List Call) → counted_all g cs no_hints ≡ each (λ q. min (how_often g q cs) 65535)
count_fresh g cs =
    each_is (λ q. min (get_or no_hints q 0 + how_often g q cs) 65535) (each (λ q. min (how_often g q cs) 65535)) (length-map-upto (λ q. min (how_often g q cs) 65535) 4) (λ q l.
    let z : get_or no_hints q 0 + how_often g q cs ≡ how_often g q cs = omega (arith, none_yet 4 q) in
    ap (λ (n : ℕ). min n 65535) z ∙ sym (each_at (λ r. min (how_often g r cs) 65535) q l))

-- two lists of calls, one after the other
pub often_append : (g : Grid) (q : ℕ) (cs es : List Call) → how_often g q (cs ++ es) ≡ how_often g q cs + how_often g q es
unfolding how_often
often_append g q cs es = ap length (filter-append (asks g q) cs es) ∙ length-append (filter (asks g q) cs) (filter (asks g q) es)

pub calls_append : (g : Grid) (cs es : List Call) (ds : List Literal) → after_all g (cs ++ es) ds ≡ after_all g es (after_all g cs ds)
unfolding after_all
calls_append g [] es ds = refl
calls_append g (c ∷ cs) es ds = calls_append g cs es (after g c ds)

-- ---- any four counts are those of some finds

module _ (g : Grid) where
  -- n accepted finds of player q
  abbrev times : ℕ → ℕ → List Call
  times q n = replicate n (find q (enough g))

  -- they count as n for that player, and for no other
  often_own : (q n : ℕ) → q ≤ 3 → how_often g q (times q n) ≡ n
  often_own q zero l = unfold how_often in refl
  often_own q (suc n) l = often_cons g q (find q (enough g)) (times q n) ∙ rw (asks_own, often_own q n l) refl
    where
      asks_own : asks g q (find q (enough g)) ≡ true
      asks_own = unfold asks in rw (eq-eqb q q refl, le-leb q 3 l, le-leb (enough g) (enough g) (omega arith)) refl

  often_other : (q r n : ℕ) → (r ≡ q → ⊥) → how_often g q (times r n) ≡ 0
  often_other q r zero d = unfold how_often in refl
  often_other q r (suc n) d = often_cons g q (find r (enough g)) (times r n) ∙ rw (asks_other, often_other q r n d) refl
    where
      asks_other : asks g q (find r (enough g)) ≡ false
      asks_other = unfold asks in rw (ne_eqb r q d) refl

  -- so many accepted finds of each player, from player q on
  pub asking : ℕ → List ℕ → List Call
  asking q [] = []
  asking q (n ∷ ns) = times q n ++ asking (suc q) ns

  asking_before : (q r : ℕ) (ns : List ℕ) → r < q → how_often g r (asking q ns) ≡ 0
  unfolding asking
  asking_before q r [] l = unfold how_often in refl
  asking_before q r (n ∷ ns) l =
      often_append g r (times q n) (asking (suc q) ns) ∙ omega (arith, often_other r q n (λ e. omega arith), asking_before (suc q) r ns (omega arith))

  asking_from : (q : ℕ) (ns : List ℕ) (k : ℕ) → q + k ≤ 3 → how_often g (q + k) (asking q ns) ≡ get_or ns k 0
  unfolding asking
  asking_from q [] k l = unfold how_often in refl
  asking_from q (n ∷ ns) zero l =
      let e : q + 0 ≡ q = omega arith in
      rw e (often_append g q (times q n) (asking (suc q) ns) ∙ omega (arith, often_own q n (omega arith), asking_before (suc q) q ns (omega arith)))
  asking_from q (n ∷ ns) (suc k) l =
      let e : q + suc k ≡ suc q + k = omega arith in
      often_append g (q + suc k) (times q n) (asking (suc q) ns)
      ∙ rw (often_other (q + suc k) q n (λ z. omega arith), e, asking_from (suc q) ns k (omega arith)) (omega arith)

  pub asking_often : (ns : List ℕ) (q : ℕ) → q ≤ 3 → how_often g q (asking 0 ns) ≡ get_or ns q 0
  asking_often ns q l = let z : 0 + q ≡ q = omega arith in rw z at (asking_from 0 ns q (omega arith))

  -- they leave the decisions
  times_same : (q n : ℕ) (ds : List Literal) → after_all g (times q n) ds ≡ ds
  unfolding after_all after
  times_same q zero ds = refl
  times_same q (suc n) ds = times_same q n ds

  pub asking_same : (q : ℕ) (ns : List ℕ) (ds : List Literal) → after_all g (asking q ns) ds ≡ ds
  unfolding asking
  asking_same q [] ds = unfold after_all in refl
  asking_same q (n ∷ ns) ds = calls_append g (times q n) (asking (suc q) ns) ds ∙ rw (times_same q n ds) (asking_same (suc q) ns ds)
