-- Worked examples of the rules, over two lines of zeros.
use Rattle.std.specs.Prelude.{◌≡◌, true, false, replicate, slice_index}
use Rattle.memory.specs.Model.{MemoryModel, write, ask, fence, sync, cut, arrival, allowed}
use Rattle.memory.specs.Held.{opened}

abbrev zeros : MemoryModel
zeros = opened (replicate 16 0)

-- a cut loses a written word, unless its line was asked for and brought by a sync
abbrev pub LostAndKept : Type 0
LostAndKept = (slice_index (cut (write 8 5 zeros)).current 8 ≡ 0) × (slice_index (cut (sync (ask 1 (write 8 5 zeros)))).current 8 ≡ 5)

-- line 1 is due, and line 0 was written after it
abbrev ahead : MemoryModel
ahead = write 0 1 (fence (ask 1 (write 8 5 zeros)))

-- a late line may not arrive before the due one
abbrev pub Late : Type 0
Late = (allowed 0 ahead ≡ false) × (allowed 1 ahead ≡ true) × (allowed 0 (arrival 1 ahead) ≡ true)
