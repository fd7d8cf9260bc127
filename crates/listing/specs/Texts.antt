-- The text of a listing, and of a fault.
use Rattle.std.specs.Prelude.{ℕ, List, [], ◌∷◌, ◌++◌, codes}
use Rattle.machine.specs.Numbers.{refused_words}
use Rattle.script.specs.declared.call.Verb.{Verb}
use Rattle.script.specs.Calls.{verb_name}
use Rattle.script.specs.Faults.{fault_words}
use Rattle.listing.specs.declared.outcome.Refused.{Refused as Refusal}
use Rattle.listing.specs.declared.outcome.Outcome.{Outcome}
use Rattle.listing.specs.declared.outcome.Outcome.TheVariants.{Done, Refused}

-- a call that was done, by its verb
abbrev pub plain_text : Verb → List ℕ
plain_text v = verb_name v ++ codes " ok"

abbrev pub refused_text : Refusal → List ℕ
refused_text r = refused_words r.number r.layer

abbrev pub outcome_text : Outcome → List ℕ
outcome_text (Done p) = plain_text p
outcome_text (Refused r) = refused_text r

-- each line ends in LF
abbrev pub line_text : Outcome → List ℕ
line_text o = outcome_text o ++ codes "\n"

abbrev pub listing_text : List Outcome → List ℕ
listing_text [] = []
listing_text (o ∷ os) = line_text o ++ listing_text os

-- the code, the line and the byte
abbrev pub fault_text : ℕ → ℕ → ℕ → List ℕ
fault_text code line byte = fault_words code line byte ++ codes "\n"
