-- What it means that a call of the code did a call of the machine.
use Rattle.std.specs.Prelude.{◌≡◌, Ok, Err, Result}
use Rattle.memory.specs.Conduct.{Conduct}
use Rattle.memory.specs.Held.{Frame}
use Rattle.objects.specs.Model.{ObjectModel}
use Rattle.machine.specs.declared.refusal.Refusal.{Refusal}
use Rattle.machine.specs.declared.refusal.Refusal.TheVariants.{NotUp}
use Rattle.machine.specs.Calls.{Reply, Machine, Done}
use Rattle.machine.specs.Calls.{Reply.ticket, Reply.answer, Reply.stepped, Reply.slip, Reply.ok, Reply.refused}
use Rattle.store.specs.declared.store.Store.{Store}
use Rattle.store.specs.Shown.{shown, frame_of}

-- the result of a call that gives nothing but that it was done; a reply that no such call has stands for a refusal
abbrev pub plain_result : Reply → Result (Unit {0}) Refusal
plain_result ok = Ok tt
plain_result (refused k) = Err k
plain_result (ticket t) = Err NotUp
plain_result (answer a) = Err NotUp
plain_result (stepped c) = Err NotUp
plain_result slip = Err NotUp

-- a call that is never refused, and gives nothing
abbrev pub no_result : Reply → Unit {0}
no_result r = tt

module _ (X : ObjectModel) (C : Conduct) {O M : Type 0} (state : O → X.State) (meaning : M → C.State) (frame : M → Frame) where
  -- the result is the machine's reply, the store after it the machine's; the lent words that no call touches are as they were
  pub record Called {R : Type 0} (result : Reply → R) (does : Machine X C → Done X C) (s t : Store O M) (r : R) : Type 0 where
    pub reply : r ≡ result (does (shown X C state meaning s)).0
    pub after : shown X C state meaning t ≡ (does (shown X C state meaning s)).1
    pub lent : frame_of frame t ≡ frame_of frame s
