-- The mathematics of a flood: no code is named here.
-- Assumes nothing.
use Prim.Native.Nat.{ℕ, ◌+◌, ◌-◌, ◌*◌, ◌≤◌, ◌<◌}
use native.Mathlib.Decide.{dec_lt}
use native.Mathlib.Omega.{arith}
use mathlib.Core.Path.{◌≡◌, refl, sym, ap, ◌∙◌}
use mathlib.Core.Bool.{Bool, true, false, So, cond}
use mathlib.Core.Logic.{◌⊎◌, inl, inr}
use mathlib.Core.List.Memᴰ
use mathlib.Core.List.{List, [], ◌∷◌, Memᴰ}
use lib.ListN.{length, get_or, set, length-set, replicate, length-replicate, get_or-replicate}
use lib.Seq.{get_or-set_same, get_or-set_other}
use Rattle.grid.specs.Link.{here, step}
use Rattle.grid.specs.Grid.{Grid, size, cells_of, neighbours}
use Rattle.grid.specs.Side.{sized, beside_of, InGrid}
use Rattle.grid.proofs.SideLaws.{area, beside_at, towards-mem}
use Rattle.grid.proofs.AroundLaws.{gathered, gathered_next, gathered_same, gathered_all}
use Rattle.grid.proofs.ListLaws.{split, So-false, place_in}
use Rattle.grid.proofs.AppendLaws.{by_eq}
use Rattle.grid.proofs.FilledLaws.{filled_is}
use Rattle.grid.proofs.ArrayLaws.{Entry, hit, miss, Entry-at, fewer_set, how_many-le}
use Rattle.groups.specs.Groups.{Joined}
use Rattle.groups.specs.Arrays.{no_group, label_at, label_array}
use Rattle.groups.specs.Flood.{unlabelled, free, Only, Unlabelled, same, Shut, Walked, Right, none, some, Sofar, Marked, Offered, skip, take, OfferedSide, beyond, within, Flooding, Spread, Ready}
use Rattle.groups.specs.Table.{Unused, Counting}
use Rattle.groups.proofs.GroupLaws.{label}
use Rattle.groups.proofs.LabellingLaws.{set_still, Kept-still, Kept-set, Kept-then, sofar_label}
use Rattle.groups.proofs.CountLaws.{Offered-counts}

-- what one offer does
module _ {q s : ℕ} {L st : List ℕ} {c : ℕ} {L' st' : List ℕ} {r : ℕ} (small : s < 1024) where
  Offered-room : Offered q s L st c L' st' r → c + free L ≤ 1024 → r + free L' ≤ 1024
  Offered-room (skip no_go l t e) h = rw (l, e) h
  Offered-room (take u l t e) h = rw (l, e) (omega (arith, fewer_set L q s u (λ x. omega (arith, x)) (omega arith)))

  Offered-falls : Offered q s L st c L' st' r → 2 * free L' + r ≤ 2 * free L + c
  Offered-falls (skip no_go l t e) = rw (l, e) (omega arith)
  Offered-falls (take u l t e) = rw (l, e) (omega (arith, fewer_set L q s u (λ x. omega (arith, x)) (omega arith)))

  Offered-stays : Offered q s L st c L' st' r → (k : ℕ) → (get_or L k 0 ≡ unlabelled → ⊥) → get_or L' k 0 ≡ unlabelled → ⊥
  Offered-stays (skip no_go l t e) k h = rw l h
  Offered-stays (take u l t e) k h = rw l (λ x. h (set_still L q s u k x))

  pub Offered-labelled : Offered q s L st c L' st' r → get_or L' q 0 ≡ unlabelled → ⊥
  Offered-labelled (skip no_go l t e) = rw l no_go
  Offered-labelled (take u l t e) = rw l (λ x. omega (arith, x, get_or-set_same L q s 0 (place_in L q (omega arith))))

  Offered-keeps :
      {g : Grid} {p : ℕ → Bool} {L₀ : List ℕ} {i : ℕ} → Offered q s L st c L' st' r → (So (p q) → Joined g p s q) → Flooding g p s L₀ i L st c
      → Flooding g p s L₀ i L' st' r
  Offered-keeps {g} {p} {L₀} {i} (skip no_go l t e) linked F = rw (l, t, e) (record {
    long = F.long;
    stack_long = length-set st c q ∙ F.stack_long;
    room = F.room;
    only = F.only;
    kept = F.kept;
    waiting = λ t h. rw (get_or-set_other st c t q 0 (λ f. omega (arith, f))) (F.waiting t h);
    done = λ j was x gone. F.done j was x (λ t b y. gone t b (get_or-set_other st c t q 0 (λ f. omega (arith, f)) ∙ y));
  })
  Offered-keeps {g} {p} {L₀} {i} (take u l t e) linked F = rw (l, t, e) moved
    where
      apart : s ≡ unlabelled → ⊥
      apart x = omega (arith, x)

      q_in : q < length L
      q_in = place_in L q (omega arith)

      c_in : c < length st
      c_in = omega (arith, fewer_set L q s u apart (omega arith), F.room, F.stack_long)

      joined : Joined g p s q
      joined = linked (F.only q (Kept-still (F.kept q) u))

      waiting' : (t : ℕ) → t < c + 1 → Entry st c q t → Joined g p s (get_or (set st c q) t 0)
      waiting' t h (hit e v) = rw v joined
      waiting' t h (miss ne v) = rw v (F.waiting t (omega (arith, ne)))

      done' : (j : ℕ) → get_or L₀ j 0 ≡ unlabelled → get_or (set L q s) j 0 ≡ s → ((t : ℕ) → t < c + 1 → get_or (set st c q) t 0 ≡ j → ⊥) → (j ≡ i → ⊥) → Entry L q s j → Shut g p (set L q s) j
      done' j was x gone ne (hit e v) k side o' y = absurd (gone c (omega arith) (get_or-set_same st c q 0 c_in ∙ sym e))
      done' j was x gone ne (miss a v) k side o' y =
          F.done j was (sym v ∙ x) (λ t b z. gone t (omega arith) (get_or-set_other st c t q 0 (λ f. omega (arith, f)) ∙ z)) ne k side o' (set_still L q s u k y)

      moved : Flooding g p s L₀ i (set L q s) (set st c q) (c + 1)
      moved = record {
        long = length-set L q s ∙ F.long;
        stack_long = length-set st c q ∙ F.stack_long;
        room = omega (arith, fewer_set L q s u apart (omega arith), F.room);
        only = F.only;
        kept = λ j. Kept-then (F.kept j) (Kept-set u joined j);
        waiting = λ t h. waiting' t h (Entry-at st c q t c_in);
        done = λ j was x gone ne. done' j was x gone ne (Entry-at L q s j q_in);
      }

-- what the neighbours of i in the first k directions, offered in turn, do
pub record Offers (g : Grid) (p : ℕ → Bool) (s i k : ℕ) (L st : List ℕ) (c : ℕ) (L' st' : List ℕ) (r : ℕ) : Type 0 where
  pub room : r + free L' ≤ 1024
  falls : 2 * free L' + r ≤ 2 * free L + c
  stays : (j : ℕ) → (get_or L j 0 ≡ unlabelled → ⊥) → get_or L' j 0 ≡ unlabelled → ⊥
  labelled : (j : ℕ) → Memᴰ j (gathered g i k) → So (p j) → get_or L' j 0 ≡ unlabelled → ⊥
  keeps : (L₀ : List ℕ) → ((j : ℕ) → Memᴰ j (neighbours g i) → So (p j) → Joined g p s j) → Flooding g p s L₀ i L st c → Flooding g p s L₀ i L' st' r
  counts : (t : ℕ → Bool) (x : ℕ) → Counting s t L st c x → Counting s t L' st' r x

module _ {g : Grid} {p : ℕ → Bool} {s i : ℕ} {L st : List ℕ} {c : ℕ} where
  -- before the first
  pub Offers-none : c + free L ≤ 1024 → Offers g p s i 0 L st c L st c
  unfolding gathered
  Offers-none h = record {
    room = h;
    falls = omega arith;
    stays = λ j u. u;
    labelled = λ j m. absurd (Memᴰ.not-nil m);
    keeps = λ L₀ near F. F;
    counts = λ t x C. C;
  }

  -- one more
  pub Offers-more :
      {k : ℕ} {L' st' : List ℕ} {r : ℕ} {L'' st'' : List ℕ} {r' : ℕ} → s < 1024 → Offers g p s i k L st c L' st' r
      → OfferedSide (beside_of g i k) s L' st' r L'' st'' r' → Offers g p s i (k + 1) L st c L'' st'' r'
  Offers-more {k} small O (beyond off l t e) = rw (l, t, e) (record {
    room = O.room;
    falls = O.falls;
    stays = O.stays;
    labelled = λ j. rw (gathered_same g i k off) (O.labelled j);
    keeps = O.keeps;
    counts = O.counts;
  })
  Offers-more {k} {L'' = L''} small O (within q at_q o) = record {
    room = Offered-room small o O.room;
    falls = omega (arith, Offered-falls small o, O.falls);
    stays = λ j u. Offered-stays small o j (O.stays j u);
    labelled = λ j m. labelled' j (Memᴰ.append_cases (gathered g i k) (rw (gathered_next g i k q at_q) at m));
    keeps = λ L₀ near F. Offered-keeps small o (near q (towards-mem g i k (rw (beside_at g i k q at_q) (Memᴰ.head refl)))) (O.keeps L₀ near F);
    counts = λ t x C. Offered-counts s t small O.room o (O.counts t x C);
  }
    where
      labelled' : (j : ℕ) → Memᴰ j (gathered g i k) ⊎ Memᴰ j (q ∷ []) → So (p j) → get_or L'' j 0 ≡ unlabelled → ⊥
      labelled' j (inl m) = λ y. Offered-stays small o j (O.labelled j m y)
      labelled' j (inr m) = rw (Memᴰ.eq_of_singleton m) (λ _. Offered-labelled small o)

-- a cell is taken from the stack, and its neighbours are offered
module _ {g : Grid} {p : ℕ → Bool} {s : ℕ} {L₀ : List ℕ} (fits : size g ≤ 1024) where
  pop : {L st : List ℕ} {c : ℕ} → 0 < c → Flooding g p s L₀ 1024 L st c → Flooding g p s L₀ (get_or st (c - 1) 0) L st (c - 1)
  pop {L} {st} {c} pos F = record {
    long = F.long;
    stack_long = F.stack_long;
    room = omega (arith, F.room);
    only = F.only;
    kept = F.kept;
    waiting = λ t h. F.waiting t (omega arith);
    done = λ j was x gone ne k side.
        F.done j was x (λ t b y. by_eq t (c - 1) (λ e. ne (sym y ∙ ap (λ (m : ℕ). get_or st m 0) e)) (λ e. gone t (omega arith) y)) (λ e. omega (arith, side.0)) k side;
  }

  close : {L st : List ℕ} {c i : ℕ} → Shut g p L i → Flooding g p s L₀ i L st c → Flooding g p s L₀ 1024 L st c
  close {L} {st} {c} {i} shut F = record {
    long = F.long;
    stack_long = F.stack_long;
    room = F.room;
    only = F.only;
    kept = F.kept;
    waiting = F.waiting;
    done = λ j was x gone ne. by_eq j i (λ e. rw e shut) (λ a. F.done j was x gone a);
  }

  spread_keeps :
      {L st L' st' : List ℕ} {c r : ℕ} → 0 < c → get_or st (c - 1) 0 < size g
      → Offers g p s (get_or st (c - 1) 0) 4 L st (c - 1) L' st' r → Flooding g p s L₀ 1024 L st c → Flooding g p s L₀ 1024 L' st' r
  spread_keeps {st = st} {c = c} pos on O F = close (λ k side. O.labelled k (rw (gathered_all g i) side.1)) (O.keeps L₀ near (pop pos F))
    where
      i : ℕ
      i = get_or st (c - 1) 0

      near : (j : ℕ) → Memᴰ j (neighbours g i) → So (p j) → Joined g p s j
      near j m o = step (F.waiting (c - 1) (omega arith)) (on, m) o

-- the cell on top of the stack is one of the grid
pub top : {h w s : ℕ} {L st : List ℕ} {c i : ℕ} → h ≤ 32 → w ≤ 32 → Ready (h * w) s L st c → i ≡ get_or st (c - 1) 0 → InGrid h w i
top tall wide r e = record { tall = tall; wide = wide; within = rw e r.top }

-- what is done when the neighbours in all four directions have been offered
pub Spread-does :
    {h w s : ℕ} {p : ℕ → Bool} {L st L' st' : List ℕ} {c i r : ℕ} → h ≤ 32 → w ≤ 32 → Ready (h * w) s L st c → i ≡ get_or st (c - 1) 0
    → Offers (sized h w) p s i 4 L st (c - 1) L' st' r → Spread (sized h w) p s L st c L' st' r
unfolding size
Spread-does {h} {w} {i = i} tall wide ready at_top O = record {
  keeps = λ L₀ F. spread_keeps (area h w tall wide) ready.count ready.top (rw at_top at O) F;
  stays = O.stays;
  falls = omega (arith, ready.count, O.falls);
  counts = O.counts;
}

-- before the first turn of a flood's loop: s has been offered
pub flood_starts :
    {g : Grid} {p : ℕ → Bool} {s : ℕ} {L₀ st₀ L st : List ℕ} {c : ℕ} → s < 1024 → (length L₀ ≡ 1024) × (length st₀ ≡ 1025)
    → Offered s s L₀ st₀ 0 L st c → Only p L₀ → Flooding g p s L₀ 1024 L st c
flood_starts {L₀ = L₀} small long o only = Offered-keeps small o here (record {
  long = refl;
  stack_long = long.1;
  room = omega (arith, how_many-le unlabelled L₀, long.0);
  only = only;
  kept = λ j. same refl;
  waiting = λ t h. absurd (omega (arith, h));
  done = λ j was x. absurd (omega (arith, was, x));
})

-- after the last
pub flood_ends :
    {g : Grid} {p : ℕ → Bool} {s : ℕ} {L₀ L st : List ℕ} {c : ℕ} → size g ≤ 1024 → c ≡ 0 → Flooding g p s L₀ 1024 L st c
    → (get_or L s 0 ≡ unlabelled → ⊥) → Walked g p s s L₀ L
flood_ends fits e F seed = record {
  added = record {
    long = F.long;
    kept = F.kept;
    done = λ j was x k side. F.done j was x (λ t b y. omega arith) (λ q. omega (arith, side.0)) k side;
  };
  seed = λ _. seed;
}

-- the cells are told one after the other
pub marked_none : (p : ℕ → Bool) → Marked p 0 (replicate 1024 no_group)
marked_none p = record { long = length-replicate {A = ℕ} 1024 no_group; below = λ j h. absurd (omega (arith, h)); behind = λ j l h. get_or-replicate {A = ℕ} 1024 j no_group 0 h }

-- before the first flood, and after the last. L₀ are the labels before the first, and only cells of the grid pass
module _ (g : Grid) {p : ℕ → Bool} {L₀ : List ℕ} (fits : size g ≤ 1024) (on : (j : ℕ) → So (p j) → j < size g) (T : Marked p (size g) L₀) where
  marked_out : (j : ℕ) → j < 1024 → p j ≡ false → get_or L₀ j 0 ≡ no_group
  marked_out j h f = go (dec_lt j (size g))
    where
      go : Dec (j < size g) → get_or L₀ j 0 ≡ no_group
      go (yes l) = T.below j l ∙ rw f
      go (no l) = T.behind j (omega arith) h

  pub marked_yet : Unlabelled p L₀
  marked_yet = record { only = λ j e. only' j e (split (p j)); all = λ j o. T.below j (on j o) ∙ rw o }
    where
      only' : (j : ℕ) → get_or L₀ j 0 ≡ unlabelled → (p j ≡ true) ⊎ (p j ≡ false) → So (p j)
      only' j e (inl o) = o
      only' j e (inr f) = absurd (omega (arith, e, marked_out j (omega (arith, place_in L₀ j (omega (arith, e)), T.long)) f))

  -- no cell has the label of a group that is not reached yet
  pub unused : {s : ℕ} {L : List ℕ} → s < 1024 → Sofar g p L₀ s L → Unused s L
  unused {s} {L} small S j h e = passes (split (p j))
    where
      labelled : Right g p s L j → ⊥
      labelled (none u) = omega (arith, u, e)
      labelled (some lt le n) = omega (arith, lt, e)

      passes : (p j ≡ true) ⊎ (p j ≡ false) → ⊥
      passes (inl o) = labelled (S.right j o)
      passes (inr f) = omega (arith, S.others j f, marked_out j h f, e)

  pub flooded : {L : List ℕ} → Sofar g p L₀ (size g) L → L ≡ label_array g p
  unfolding label_array label_at cells_of
  flooded {L} S = filled_is no_group (label_at g p) (size g) L fits (S.long ∙ T.long) (λ i l. front i l (split (p i))) (λ i l h. out i h (So-false (p i) (λ o. omega (arith, on i o))))
    where
      out : (i : ℕ) → i < 1024 → p i ≡ false → get_or L i 0 ≡ no_group
      out i h f = S.others i f ∙ marked_out i h f

      front : (i : ℕ) → i < size g → (p i ≡ true) ⊎ (p i ≡ false) → get_or L i 0 ≡ cond (p i) (label g p i) no_group
      front i l (inl o) = sofar_label on S i o ∙ rw o
      front i l (inr f) = out i (omega arith) f ∙ rw f
