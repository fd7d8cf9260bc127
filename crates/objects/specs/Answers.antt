-- What an operation can answer, and the number and the value of each answer.
use Rattle.std.specs.Prelude.{ℕ, List, codes, Result, Ok, Err}
use Rattle.objects.specs.declared.answer.Denied.{Denied}
use Rattle.objects.specs.declared.answer.Denied.TheVariants.{Empty, Full, Unknown}

-- a value, or why there is none
abbrev pub Answer : Type 0
Answer = Result ℕ Denied

abbrev pub answer_code : Answer → ℕ
answer_code (Ok v) = 0
answer_code (Err Empty) = 1
answer_code (Err Full) = 2
answer_code (Err Unknown) = 3

abbrev pub answer_value : Answer → ℕ
answer_value (Ok v) = v
answer_value (Err d) = 0

-- how a denial reads
abbrev pub denied_text : Denied → List ℕ
denied_text Empty = codes "nothing is in"
denied_text Full = codes "no more fits in"
denied_text Unknown = codes "no such operation"
