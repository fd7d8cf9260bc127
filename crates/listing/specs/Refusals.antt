-- How a listing shows a refusal.
use Rattle.std.specs.Prelude.{◌≡◌}
use Rattle.machine.specs.declared.refusal.Refusal.{Refusal}
use Rattle.machine.specs.Numbers.{refusal_number, refusal_layer}
use Rattle.listing.specs.declared.outcome.Refused.{Refused}

abbrev pub shown_as : Refusal → Refused
shown_as k = record { number = refusal_number k; layer = refusal_layer k }

abbrev pub ShownAs : Refusal → Refused → Type 0
ShownAs k r = r ≡ shown_as k
