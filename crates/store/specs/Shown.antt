-- What a store of the code stands for: a store of the machine, whose places and lock no call here changes.
use Rattle.std.specs.Prelude.{ℕ, Some, None, Ok, Err, Option, Result, true, replicate}
use Rattle.memory.specs.Conduct.{Conduct}
use Rattle.memory.specs.Held.{Frame}
use Rattle.objects.specs.Model.{ObjectModel}
use Rattle.machine.specs.declared.refusal.Refusal.{Refusal}
use Rattle.machine.specs.Machine.{Table}
use Rattle.machine.specs.Machine.{Place.free}
use Rattle.machine.specs.Calls.{Machine, down_table}
use Rattle.store.specs.declared.index.Index.{Index}
use Rattle.store.specs.declared.store.Store.{Store}
use Rattle.store.specs.declared.store.Table.{Table as TableOf}
use Rattle.store.specs.Indices.{index_word}

-- the workers and the record that a start found
abbrev pub found_shown : Result (ℕ × Index) Refusal → Result (ℕ × ℕ) Refusal
found_shown (Ok (n, i)) = Ok (n, index_word i)
found_shown (Err k) = Err k

-- which words a store's memory was lent, and those that no call touches
abbrev pub frame_of : {O M : Type 0} → (M → Frame) → Store O M → Frame
frame_of frame s = frame s.memory

module _ (X : ObjectModel) {O : Type 0} (state : O → X.State) where
  abbrev pub table_shown : Option (TableOf O) → Table X
  table_shown None = down_table X
  table_shown (Some t) = record {
    up = true;
    workers = t.workers;
    settled = index_word t.settled;
    places = replicate 8 free;
    lock = None;
    loaded = replicate 40 0;
    working = state t.working;
  }

module _ (X : ObjectModel) (C : Conduct) {O M : Type 0} (state : O → X.State) (meaning : M → C.State) where
  abbrev pub shown : Store O M → Machine X C
  shown s = record { table = table_shown X state s.table; memory = meaning s.memory }
