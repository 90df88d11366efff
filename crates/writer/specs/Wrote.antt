-- Bits written to the front of lent bytes.
-- Assumes nothing.
use Rattle.std.specs.Prelude.{ℕ, ◌+◌, ◌*◌, ◌/◌, ◌-◌, ◌^◌, ◌≤◌, ◌<◌, ◌≡◌, List, ◌++◌, length, get_or, drop}
use Rattle.grid.specs.Grid.{Grid}
use Rattle.record.specs.Record.{Puzzle}
use Rattle.record.specs.Problem.{total_of}
use Rattle.record.specs.declared.Problem.{Problem}
use Rattle.record.specs.Lines.{Lines}
use Rattle.record.specs.Write.{value_of, write_record}
use Rattle.writer.specs.declared.BitWriter.{BitWriter}

-- the bits b stand at the front of `new`, most significant first, with zeros behind them in their last byte; the other bytes are those of `old`
pub record Wrote (old b new : List ℕ) : Type 0 where
  pub long : length new ≡ length old
  pub bytes : (q : ℕ) → 8 * q < length b → get_or new q 0 ≡ value_of 8 (drop (8 * q) b)
  pub behind : (q : ℕ) → length b ≤ 8 * q → get_or new q 0 ≡ get_or old q 0

-- a byte that keeps what stands before bit r, and gets bit r
abbrev pub put_byte : ℕ → ℕ → ℕ → ℕ
put_byte r v x = v / (2 * 2 ^ (7 - r)) * (2 * 2 ^ (7 - r)) + 2 ^ (7 - r) * x

-- the k bits c are written behind the first bits of the record, whatever these are
pub record Appends (k : ℕ) (c : List ℕ) (old new : BitWriter) : Type 0 where
  pub same : new.out.ghost_name ≡ old.out.ghost_name
  pub many : length c ≡ k
  pub place : new.at ≡ old.at + k
  pub long : length new.out.now ≡ length old.out.now
  pub wrote : (before b : List ℕ) → length b ≡ old.at → Wrote before b old.out.now → Wrote before (b ++ c) new.out.now

-- k bits more find room, and can be counted
abbrev pub Room : BitWriter → ℕ → Type 0
Room writer k = (writer.at + k ≤ 8 * length writer.out.now) × (writer.at + k ≤ 65536)

-- at least one cell, and each one of the grid
pub record IsArrow (g : Grid) (arrow : List ℕ) : Type 0 where
  pub some : 0 < length arrow
  pub cells : (k : ℕ) → k < length arrow → get_or arrow k 0 < g.height * g.width

-- how many bits the arrows of a problem have
abbrev pub arrows_size : Problem → ℕ
arrows_size q = 18 * q.count + 2 * total_of q

-- how many bits all its fields have
abbrev pub fields_size : Problem → ℕ
fields_size q = 21 + 2 * (q.height * q.width) + 18 * q.count + 2 * total_of q

-- the arrows of a problem stand in its line, and all its fields find room
pub record Ready (q : Problem) (writer : BitWriter) : Type 0 where
  pub high : 0 < q.height
  pub lines : Lines q.height q.width q.arrows q.ends q.count
  pub room : Room writer (fields_size q)

-- the record of the puzzle stands at the front of `new`, the bytes behind it are those of `old`, and n is its length
pub record Recorded (p : Puzzle) (old new : List ℕ) (n : ℕ) : Type 0 where
  pub count : n ≡ length (write_record p)
  pub whole : new ≡ write_record p ++ drop (length (write_record p)) old
