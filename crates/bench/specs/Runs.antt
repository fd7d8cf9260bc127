-- What the calls of a script come to on a store.
use Rattle.std.specs.Prelude.{List, [], ◌∷◌, Ok, Err, Result}
use Rattle.memory.specs.Conduct.{Conduct}
use Rattle.objects.specs.Model.{ObjectModel}
use Rattle.machine.specs.declared.refusal.Refusal.{Refusal}
use Rattle.machine.specs.Calls.{Machine, Done, formatted, does}
use Rattle.machine.specs.Calls.{Call.start, Call.arrive, Call.cut}
use Rattle.store.specs.Called.{plain_result}
use Rattle.script.specs.declared.call.Call.{Call}
use Rattle.script.specs.declared.call.Call.TheVariants.{Format, Start, Arrive, Cut}
use Rattle.script.specs.declared.call.Verb.{Verb}
use Rattle.script.specs.declared.call.Verb.TheVariants.{Format as FormatDone, Start as StartDone, Arrive as ArriveDone, Cut as CutDone}
use Rattle.listing.specs.declared.outcome.Outcome.{Outcome}
use Rattle.listing.specs.declared.outcome.Outcome.TheVariants.{Done as DoneAs, Refused}
use Rattle.listing.specs.Refusals.{shown_as}

-- how the listing shows a reply
abbrev pub told : Verb → Result (Unit {0}) Refusal → Outcome
told v (Ok x) = DoneAs v
told v (Err k) = Refused (shown_as k)

module _ (X : ObjectModel) (C : Conduct) where
  -- the outcome of one call, and the store after it
  pub record Ran : Type 0 where
    pub outcome : Outcome
    pub after : Machine X C

  abbrev pub ran_as : Verb → Done X C → Ran
  ran_as v d = record { outcome = told v (plain_result d.0); after = d.1 }

  abbrev pub ran : Call → Machine X C → Ran
  ran (Format n) s = ran_as FormatDone (formatted X C n s)
  ran Start s = ran_as StartDone (does X C start s)
  ran (Arrive l) s = ran_as ArriveDone (does X C (arrive l) s)
  ran Cut s = record { outcome = DoneAs CutDone; after = (does X C cut s).1 }

  -- one outcome for each call, in their order
  abbrev pub outcomes : List Call → Machine X C → List Outcome
  outcomes [] s = []
  outcomes (c ∷ cs) s = (ran c s).outcome ∷ outcomes cs (ran c s).after
