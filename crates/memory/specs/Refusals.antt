-- How a refusal of a memory module reads.
use Rattle.std.specs.Prelude.{ℕ, List, codes}
use Rattle.memory.specs.declared.refusal.Refusal.{Refusal}
use Rattle.memory.specs.declared.refusal.Refusal.TheVariants.{Outside, NotAllowed}

abbrev pub refusal_text : Refusal → List ℕ
refusal_text Outside = codes "the word or line is not inside"
refusal_text NotAllowed = codes "the line may not arrive yet"
