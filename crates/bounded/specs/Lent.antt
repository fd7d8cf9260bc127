-- A list over lent memory as one value, and what more entries make of it.
use Rattle.std.specs.Prelude.{ℕ, ◌+◌, Bool, cond, List, [], ◌++◌, length, drop, Ok, Err, Result, nat_le}
use Rattle.std.specs.Borrow.{GName}
use Rattle.bounded.specs.declared.Bounded.{Bounded}
use Rattle.bounded.specs.declared.Full.{Full}
use Rattle.bounded.specs.Entries.{entries, room, spare, lender}

pub record Lent (T : Type 0) : Type 0 where
  pub entries : List T
  pub room : ℕ
  pub spare : List T
  pub lender : GName

-- what a list holds, and the memory that it holds it in
abbrev pub held : {T : Type 0} → Bounded T → Lent T
held b = record { entries = entries b; room = room b; spare = spare b; lender = lender b }

-- a list with no entries over lent memory
abbrev pub empty_over : {T : Type 0} → List T → GName → Lent T
empty_over memory name = record { entries = []; room = length memory; spare = memory; lender = name }

-- some entries more at the end, in the memory that was to spare
abbrev pub extended : {T : Type 0} → Lent T → List T → Lent T
extended l more = record { entries = l.entries ++ more; room = l.room; spare = drop (length more) l.spare; lender = l.lender }

-- whether some entries more have room
abbrev pub fits : {T : Type 0} → Lent T → List T → Bool
fits l more = nat_le (length l.entries + length more) l.room

-- the list after it was asked to take some entries more, and its answer
abbrev pub added : {T : Type 0} → Lent T → List T → Lent T
added l more = cond (fits l more) (extended l more) l

abbrev pub answered : {T : Type 0} → Lent T → List T → Result (Unit {0}) Full
answered l more = cond (fits l more) (Ok tt) (Err (record {}))
