-- The numbers of the faults.
use Rattle.std.specs.Prelude.{ℕ, List, ◌++◌, codes, decimal}
use Rattle.script.specs.declared.fault.Fault.{Fault}
use Rattle.script.specs.declared.fault.FaultKind.{FaultKind}
use Rattle.script.specs.declared.fault.FaultKind.TheVariants.{TooManyCalls, UnknownWord, FieldCount, NoNumber, WrongFirstLine, TooLong}

abbrev pub fault_number : FaultKind → ℕ
fault_number TooManyCalls = 31
fault_number UnknownWord = 32
fault_number FieldCount = 33
fault_number NoNumber = 34
fault_number WrongFirstLine = 35
fault_number TooLong = 38

-- the fault of a whole line
abbrev pub at_line : FaultKind → ℕ → Fault
at_line kind line = record { kind = kind; line = line; byte = 1 }

-- how a fault reads, by the code, the line and the byte
abbrev pub fault_words : ℕ → ℕ → ℕ → List ℕ
fault_words code line byte = codes "fault " ++ (decimal code ++ (codes " line " ++ (decimal line ++ (codes " byte " ++ decimal byte))))

abbrev pub text_of_fault : Fault → List ℕ
text_of_fault f = fault_words (fault_number f.kind) f.line f.byte
