-- On a finite grid everything that Confine speaks of is decided.
-- Assumes nothing.
use Prim.Native.Nat.{ℕ, ◌<◌}
use mathlib.Core.Logic.{◌⊎◌, inl, inr}
use native.Mathlib.Decide.{map_dec}
use Rattle.grid.proofs.LinkLaws.{Linked-end, Linked-start}
use Rattle.grid.proofs.Count.{Dec-and, Dec-or, Dec-not, Dec-some}
use Rattle.grid.proofs.Finite.{Dec-Linked}
use Rattle.kinds.specs.Meaning.{PartialBoard, Block, InArrow, Touch, Foreign, Floating, Neighbour, Reach}
use Rattle.kinds.proofs.Confine.{Decide}

-- every decision of a board on a finite grid
module _ (B : PartialBoard) (n : ℕ) where
  open B use {Adj, Arrow, Empty, Square, Undecided}

  module _ (d_adj : (i j : ℕ) → Dec (Adj i j)) (d_arrow : (c : ℕ) → Dec (Arrow c)) (d_sq : (c : ℕ) → Dec (Square c)) (d_un : (c : ℕ) → Dec (Undecided c))
      (sq< : (c : ℕ) → Square c → c < n) (un< : (c : ℕ) → Undecided c → c < n) where
    -- a search over all numbers, where what is looked for lies below n
    Dec-any : {P : ℕ → Type 0} → ((i : ℕ) → Dec (P i)) → ((i : ℕ) → P i → i < n) → Dec ((i : ℕ) × P i)
    Dec-any d h = map_dec (λ w. (w.0, w.2)) (λ w. (w.0, h _ w.1, w.1)) (Dec-some d n)

    d_blk : (a c : ℕ) → Dec (Block B a c)
    d_blk = Dec-Linked Adj d_adj n Square d_sq sq<

    d_in : (c : ℕ) → Dec (InArrow B c)
    d_in c = map_dec (λ w. (w.0, w.1.0, w.1.1)) (λ w. (w.0, (w.1, w.2)))
        (Dec-any (λ d. Dec-and (d_arrow d) (d_blk d c)) (λ d w. sq< d (Linked-start w.1)))

    d_touch : (a c : ℕ) → Dec (Touch B a c)
    d_touch a c = map_dec (λ w. (w.0, w.1.0, w.1.1)) (λ w. (w.0, (w.1, w.2)))
        (Dec-any (λ y. Dec-and (d_adj c y) (d_blk a y)) (λ y w. sq< y (Linked-end w.1)))

    d_foreign : (a c : ℕ) → Dec (Foreign B a c)
    d_foreign a c = map_dec (λ w. (w.0, w.1.0, w.1.1.0, w.1.1.1)) (λ w. (w.0, (w.1, (w.2, w.3))))
        (Dec-any (λ d. Dec-and (d_arrow d) (Dec-and (Dec-not (d_blk a d)) (d_touch d c))) (λ d w. sq< d (Linked-start w.1.1.2)))

    d_nbr : (a c : ℕ) → Dec (Neighbour B a c)
    d_nbr a c = map_dec (λ w. (w.0, w.1.0, w.1.1)) (λ w. (w.0, (w.1, w.2)))
        (Dec-and (d_un c) (Dec-and (d_touch a c) (Dec-not (d_foreign a c))))

    d_floating : (c : ℕ) → Dec (Floating B c)
    d_floating c = Dec-or (Dec-and (d_sq c) (Dec-not (d_in c))) (Dec-and (d_un c) (Dec-not
        (map_dec (λ w. (w.0, w.1.0, w.1.1)) (λ w. (w.0, (w.1, w.2)))
        (Dec-any (λ d. Dec-and (d_arrow d) (d_touch d c)) (λ d w. sq< d (Linked-start w.1.2))))))

    float< : (c : ℕ) → Floating B c → c < n
    float< c (inl w) = sq< c w.0
    float< c (inr w) = un< c w.0

    pub all_decided : ((i j : ℕ) → Adj i j → Adj j i) → ((c : ℕ) → Empty c ⊎ Square c ⊎ Undecided c) → Decide B
    all_decided adj_sym cases = record { adj_sym = adj_sym; cases = cases; blk = d_blk; in_arrow = d_in; touch = d_touch; foreign = d_foreign }

    pub Reach-decided : (a c : ℕ) → Dec (Reach B a c)
    Reach-decided a c = Dec-or (d_blk a c) (Dec-or (d_nbr a c)
        (map_dec (λ w. (w.0, w.1.0, w.1.1.0, w.1.1.1.0, w.1.1.1.1)) (λ w. (w.0, (w.1, (w.2, (w.3, w.4)))))
        (Dec-any (λ m. Dec-any (λ f. Dec-and (d_nbr a m) (Dec-and (d_adj m f) (Dec-Linked Adj d_adj n (Floating B) d_floating float< f c)))
        (λ f w. float< f (Linked-start w.1.1)))
        (λ m w. un< m w.1.0.0))))
