-- What it means that a memory module was moved on.
use Rattle.std.specs.Prelude.{◌≡◌}
use Rattle.memory.specs.Held.{Frame}

-- the state is what `to` makes of the one before; the lent words that no call touches are as they were
pub record Moved {S M : Type 0} (meaning : M → S) (frame : M → Frame) (to : S → S) (old new : M) : Type 0 where
  pub after : meaning new ≡ to (meaning old)
  pub lent : frame new ≡ frame old
