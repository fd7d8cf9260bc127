-- A store over a kind of memory makes only moves that rows of calls allow.
use Rattle.std.specs.Prelude.{◌≡◌, ℕ}
use Rattle.memory.specs.Post.{Formed}
use Rattle.memory.specs.Conduct.{Conduct}
use Rattle.objects.specs.Model.{ObjectModel}
use Rattle.machine.specs.Calls.{Call, Machine, does, formatted}
use Rattle.machine.specs.Calls.{Reply.ok}
use Rattle.machine.specs.Run.{History, Store, Does, Formatted, Run}

module _ (X : ObjectModel) (C : Conduct) where
  -- a store as rows of calls see it
  abbrev pub seen : Machine X C → Store X
  seen s = record { table = s.table; memory = C.model s.memory }

  -- a format begins a row of calls, and in a row every call does what it may
  pub record Follows : Type 0 where
    pub begins : (n : ℕ) (s : Machine X C) → Formed (C.model s.memory) → (formatted X C n s).0 ≡ ok → Formatted X (seen (formatted X C n s).1)
    pub goes_on : {h : History} (s : Machine X C) → Run X h (seen s) → (c : Call) → Does X c (seen s) (does X C c s).0 (seen (does X C c s).1)
