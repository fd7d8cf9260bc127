-- Which operation a number names.
use Rattle.std.specs.Prelude.{◌≡◌, ◌≢◌, ℕ, Result, MatchResult}
use Rattle.objects.specs.declared.answer.Denied.{Denied}
use Rattle.objects.specs.declared.answer.Denied.TheVariants.{Unknown}
use Rattle.objects.specs.declared.op.Op.{Op}
use Rattle.objects.specs.declared.op.Op.TheVariants.{Put, Take, Look}

abbrev pub number_of : Op → ℕ
number_of Put = 1
number_of Take = 2
number_of Look = 3

-- the result is the operation of that number, or `Unknown` where no operation has it
abbrev pub Names : ℕ → Result Op Denied → Type 0
Names n r = MatchResult r (λ op. number_of op ≡ n) (λ d. (d ≡ Unknown) × (n ≢ 1) × (n ≢ 2) × (n ≢ 3))
