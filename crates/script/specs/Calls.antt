-- What call a line of a script is.
use Rattle.std.specs.Prelude.{ℕ, Bool, cond, List, [], ◌∷◌, length, Some, None, Ok, Err, codes, Option, Result, ◌==◌}
use Rattle.script.specs.declared.fault.Fault.{Fault}
use Rattle.script.specs.declared.fault.FaultKind.TheVariants.{UnknownWord, FieldCount, NoNumber}
use Rattle.script.specs.declared.call.Verb.{Verb}
use Rattle.script.specs.declared.call.Verb.TheVariants.{Format, Start, Arrive, Cut}
use Rattle.script.specs.declared.call.Call.{Call}
use Rattle.script.specs.declared.call.Call.TheVariants.{Format as FormatCall, Start as StartCall, Arrive as ArriveCall, Cut as CutCall}
use Rattle.script.specs.Places.{Seen, first_of, rest_of, text_of}
use Rattle.script.specs.Places.Seen.{name, number}
use Rattle.script.specs.Names.{named}
use Rattle.script.specs.Faults.{at_line}

abbrev pub verb_name : Verb → List ℕ
verb_name Format = codes "format"
verb_name Start = codes "start"
verb_name Arrive = codes "arrive"
verb_name Cut = codes "cut"

abbrev pub verb_of : List ℕ → Option Verb
verb_of bs = named verb_name (Format ∷ Start ∷ Arrive ∷ Cut ∷ []) bs

-- how many words a line with this verb may have
abbrev pub counted : Verb → ℕ → Bool
counted Format n = n == 2
counted Start n = n == 1
counted Arrive n = n == 2
counted Cut n = n == 1

-- a field is a number
abbrev pub field_of : ℕ → Option Seen → Result ℕ Fault
field_of line None = Err (at_line FieldCount line)
field_of line (Some (name s)) = Err (record { kind = NoNumber; line = s.line; byte = s.byte })
field_of line (Some (number s n)) = Ok n

-- go on with a number, or hand on the fault
abbrev pub with_number : Result ℕ Fault → (ℕ → Result Call Fault) → Result Call Fault
with_number (Ok n) k = k n
with_number (Err f) k = Err f

-- the call of a verb with its fields
abbrev pub fields_of : ℕ → Verb → List Seen → Result Call Fault
fields_of line Format ws = with_number (field_of line (first_of ws)) (λ n. Ok (FormatCall n))
fields_of line Start ws = Ok StartCall
fields_of line Arrive ws = with_number (field_of line (first_of ws)) (λ n. Ok (ArriveCall n))
fields_of line Cut ws = Ok CutCall

abbrev pub verb_call : ℕ → Option Verb → List Seen → Result Call Fault
verb_call line None ws = Err (at_line UnknownWord line)
verb_call line (Some v) ws = cond (counted v (length ws)) (fields_of line v (rest_of ws)) (Err (at_line FieldCount line))

-- the call that the words of a line are, or the first fault of the line
abbrev pub call_of : ℕ → List Seen → Result Call Fault
call_of line ws = verb_call line (verb_of (text_of (first_of ws))) ws
