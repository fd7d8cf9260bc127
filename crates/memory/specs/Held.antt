-- How a memory module holds its meaning in the words that it was lent.
use Rattle.std.specs.Prelude.{ℕ, ◌*◌, ◌/◌, min, List, length, take, drop}
use Rattle.std.specs.Borrow.{GName}
use Rattle.memory.specs.Model.{MemoryModel}

-- the lines of n words: the whole ones, and 64 at most
abbrev pub line_count : ℕ → ℕ
line_count n = min (n / 8) 64

abbrev pub front : List ℕ → List ℕ → List ℕ
front memory words = take (8 * line_count (length memory)) words

abbrev pub held : List ℕ → List ℕ → ℕ → ℕ → ℕ → MemoryModel
held current memory asked due late = record { current = front memory current; kept = front memory memory; asked = asked; due = due; late = late }

-- a module at first: both images are the words that it was lent, and the sets are empty
abbrev pub opened : List ℕ → MemoryModel
opened memory = held memory memory 0 0 0

-- what no call changes: whose words the module was lent, and the words past its lines
pub record Frame : Type 0 where
  pub lender : GName
  pub rest : List ℕ

abbrev pub beyond : List ℕ → List ℕ
beyond memory = drop (8 * line_count (length memory)) memory

abbrev pub framed : GName → List ℕ → Frame
framed g memory = record { lender = g; rest = beyond memory }
