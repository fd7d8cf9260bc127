-- What a whole script comes to.
use Rattle.std.specs.Prelude.{ℕ, ◌-◌, min, cond, List, [], ◌∷◌, length, Some, None, Ok, Err, Result, nat_lt}
use Rattle.bounded.specs.declared.Bounded.{Bounded}
use Rattle.bounded.specs.Entries.{entries, room}
use Rattle.script.specs.declared.call.Call.{Call}
use Rattle.script.specs.declared.fault.Fault.{Fault}
use Rattle.script.specs.declared.fault.FaultKind.TheVariants.{TooManyCalls, WrongFirstLine, TooLong}
use Rattle.script.specs.declared.setup.Setup.{Setup}
use Rattle.script.specs.Places.{Spot, words_in, lines_in}
use Rattle.script.specs.Faults.{at_line}
use Rattle.script.specs.Setups.{setup_of}
use Rattle.script.specs.Calls.{call_of}

-- the setup or the first fault, and the calls read before it
pub record Reading : Type 0 where
  pub result : Result Setup Fault
  pub calls : List Call

abbrev pub stopped : Fault → Reading
stopped f = record { result = Err f; calls = [] }

abbrev pub with_call : Call → Reading → Reading
with_call c r = record { result = r.result; calls = c ∷ r.calls }

-- the lines after the first, where at most `left` calls are read
abbrev pub calls_of : Setup → ℕ → List Spot → Reading
calls_of setup left [] = record { result = Ok setup; calls = [] }
calls_of setup left (l ∷ ls) =
    cond (nat_lt 0 left)
    (elim (call_of l.line (words_in l.line l.text)) [ Ok c ↦ with_call c (calls_of setup (left - 1) ls) | Err f ↦ stopped f ])
    (stopped (at_line TooManyCalls l.line))

-- the first line says the setup
abbrev pub lines_reading : ℕ → List Spot → Reading
lines_reading left [] = stopped (at_line WrongFirstLine 1)
lines_reading left (l ∷ ls) =
    elim (setup_of (words_in l.line l.text)) [ Some s ↦ calls_of s left ls | None ↦ stopped (at_line WrongFirstLine 1) ]

-- at most 32,768 bytes are read as lines
abbrev pub reading_of : ℕ → List ℕ → Reading
reading_of left script = cond (nat_lt 32768 (length script)) (stopped (at_line TooLong 1)) (lines_reading left (lines_in script))

-- how many calls are read after `count` of them: 512 in all, and no more than the list has room for
abbrev pub calls_left : ℕ → Bounded Call → ℕ
calls_left count list = min (512 - count) (room list - length (entries list))
