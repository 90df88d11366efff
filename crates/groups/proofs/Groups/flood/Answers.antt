-- `groups::Groups::flood` meets its contract. The loop's invariant: the flood goes on, s has its label, and what left the stack is counted.
-- The measure falls with every cell labelled and every cell taken from the stack.
-- Assumes nothing.
use Prim.Native.Nat.{ℕ, ◌+◌, ◌-◌, ◌*◌, ◌≤◌, ◌<◌}
use native.Mathlib.Omega.{arith}
use mathlib.Core.Path.{◌≡◌, refl, ap}
use mathlib.Core.Bool.{Bool, true}
use mathlib.Core.List.{List}
use lib.ListN.{length, get_or, set}
use borrow.Author.Rules.{rules}
use Rattle.grid.specs.Grid.{size}
use Rattle.grid.specs.Side.{sized, InGrid}
use Rattle.grid.proofs.SideLaws.{area, cell_small}
use Rattle.grid.proofs.ArrayLaws.{how_many-le}
use Rattle.groups.specs.Arrays.{marked}
use Rattle.groups.specs.Flood.{unlabelled, free, Ready}
use Rattle.groups.specs.Table.{Counting}
use Rattle.groups.specs.declared.Groups.{Groups}
use Rattle.groups.proofs.GroupLaws.{linked_size}
use Rattle.groups.proofs.CountLaws.{bit_few, Offered-counts, counted, Counting-none, Counting-few}
use Rattle.groups.proofs.FloodLaws.{Offered-labelled, flood_starts}
use Rattle.groups.proofs.Groups.flood.Goals as goal
use Rattle.groups.proofs.Groups.flood.Goals.{Start, In-loop-count}
use Rattle.groups.proofs.Groups.flood.Invariants.{Amid}

-- while a cell waits, the next turn can be made
ready :
    {h w s : ℕ} {cells onarrow : List ℕ} {G₀ G : Groups} {st : List ℕ} {c ones crossed : ℕ} → InGrid h w s → 0 < c
    → Amid (sized h w) s cells onarrow G₀ G st c ones crossed → Ready (h * w) s G.labels st c
unfolding size
ready {h} {w} {c = c} G some A =
    let F = A.floods (λ _. true) (λ _ _. refl) in
    record {
      seed = cell_small G;
      count = some;
      room = F.room;
      top = linked_size (sized h w) (λ _. true) G.within (F.waiting (c - 1) (omega arith));
    }

-- the cell that the flood starts from
cell : (c : Start) → InGrid c.args.grid.height c.args.grid.width c.args.s
cell c = record { tall = c.args.grid.tall; wide = c.args.grid.wide; within = c.requires.cell }

-- the next turn can be made
turn : (c : In-loop-count) → Ready (c.args.grid.height * c.args.grid.width) c.args.s c.loop-count.self.labels c.loop-count.stack c.loop-count.count
turn c = ready (record { tall = c.args.grid.tall; wide = c.args.grid.wide; within = c.requires.cell }) c.loop-count-test.true c.loop-count.invariant

-- the cell on top of the stack is one of the grid
top_small : {h w s : ℕ} {L st : List ℕ} {c i : ℕ} → h ≤ 32 → w ≤ 32 → Ready (h * w) s L st c → i ≡ get_or st (c - 1) 0 → i < 1024
top_small {h} {w} tall wide R e = omega (arith, e, R.top, area h w tall wide)

-- at the end of a flood, the counts are written
written :
    (G₀ G : Groups) (s : ℕ) {x a y b : ℕ} → G ≡ record G₀ { labels = G.labels } → x ≡ a → y ≡ b
    → record G { squares = set G.squares s x; arrowed = set G.arrowed s y } ≡ record G₀ { labels = G.labels; squares = set G₀.squares s a; arrowed = set G₀.arrowed s b }
written G₀ G s rest p q = cc

pub offer-count-requires : goal.offer-count-requires
offer-count-requires c =
    let small : c.args.s < 1024 = cell_small (cell (goal.at.offer-count-requires c).Start) in
    let long : length c.args.self.now.labels ≡ 1024 = search rules in
    record { cell = small; seed = small; room = omega (arith, how_many-le unlabelled c.args.self.now.labels) }

pub loop-count-init : goal.loop-count-init
loop-count-init c =
    let G = c.args.self.now in
    let s = c.args.s in
    let long : length G.labels ≡ 1024 = search rules in
    let stack_long : length c.args.stack.now ≡ 1025 = search rules in
    let small : s < 1024 = cell_small (cell (goal.at.loop-count-init c).Start) in
    let room : 0 + free G.labels ≤ 1024 = omega (arith, how_many-le unlabelled G.labels) in
    let none : (t : ℕ → Bool) → Counting s t c.offer-count.new.labels c.offer-count.new.stack c.offer-count.result 0 = λ t. Offered-counts s t small room c.offer-count.ensures (Counting-none s t long stack_long c.requires.unused) in
    record {
      floods = λ p only. flood_starts small (long, stack_long) c.offer-count.ensures only;
      seed = Offered-labelled small c.offer-count.ensures;
      squares = none (marked c.args.cells.now);
      crossings = none (marked c.args.onarrow.now);
      rest = refl;
    }

pub offset_bounds-stack-count : goal.offset_bounds-stack-count
offset_bounds-stack-count c = let R = turn (goal.at.offset_bounds-stack-count c).In-loop-count in omega (arith, R.room)

pub bounds-stack-count : goal.bounds-stack-count
bounds-stack-count c = let R = turn (goal.at.bounds-stack-count c).In-loop-count in omega (arith, R.room)

pub bounds-cells-i : goal.bounds-cells-i
bounds-cells-i c = top_small c.args.grid.tall c.args.grid.wide (turn (goal.at.bounds-cells-i c).In-loop-count) c.from-i.ensures

pub overflow_add-ones : goal.overflow_add-ones
overflow_add-ones c = omega (arith, c.from-ones.ensures, bit_few, Counting-few c.args.s (marked c.args.cells.now) c.loop-count.invariant.squares)

pub bounds-onarrow-i : goal.bounds-onarrow-i
bounds-onarrow-i c = top_small c.args.grid.tall c.args.grid.wide (turn (goal.at.bounds-onarrow-i c).In-loop-count) c.from-i.ensures

pub overflow_add-crossed : goal.overflow_add-crossed
overflow_add-crossed c = omega (arith, c.from-crossed.ensures, bit_few, Counting-few c.args.s (marked c.args.onarrow.now) c.loop-count.invariant.crossings)

pub spread-count-requires : goal.spread-count-requires
spread-count-requires c = turn (goal.at.spread-count-requires c).In-loop-count

pub loop-count-smaller : goal.loop-count-smaller
loop-count-smaller c = (c.spread-count.ensures (λ _. true)).falls

pub loop-count-preserved : goal.loop-count-preserved
unfolding marked
loop-count-preserved c =
    let s = c.args.s in
    let A = c.loop-count.invariant in
    let S = c.spread-count.ensures (λ _. true) in
    let some = c.loop-count-test.true in
    let R = turn (goal.at.loop-count-preserved c).In-loop-count in
    let few : c.loop-count.count ≤ 1025 = omega (arith, R.room) in
    record {
      floods = λ p only. (c.spread-count.ensures p).keeps c.args.self.now.labels (A.floods p only);
      seed = S.stays s A.seed;
      squares = rw (c.from-ones.ensures, c.from-i.ensures) (S.counts (marked c.args.cells.now) _ (counted s (marked c.args.cells.now) some few A.squares));
      crossings = rw (c.from-crossed.ensures, c.from-i.ensures) (S.counts (marked c.args.onarrow.now) _ (counted s (marked c.args.onarrow.now) some few A.crossings));
      rest = ap (λ (G : Groups). record G { labels = c.spread-count.new.labels }) A.rest;
    }

pub overflow_cast-self : goal.overflow_cast-self
overflow_cast-self c = omega (arith, Counting-few c.args.s (marked c.args.cells.now) c.loop-count.invariant.squares)

pub overflow_cast-self-2 : goal.overflow_cast-self-2
overflow_cast-self-2 c = omega (arith, Counting-few c.args.s (marked c.args.onarrow.now) c.loop-count.invariant.crossings)
