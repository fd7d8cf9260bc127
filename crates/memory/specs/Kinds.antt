-- The two kinds of memory module: lazy adds no arrival, prompt lets a line arrive once it is written or asked.
use Rattle.std.specs.Prelude.{ℕ, List, slice_set}
use Rattle.memory.specs.declared.lazy.Lazy.{Lazy}
use Rattle.memory.specs.Model.{MemoryModel, cut}
use Rattle.memory.specs.Calls.{Call, writes, asks, fences, syncs, arrives, effect}
use Rattle.memory.specs.Conduct.{Conduct}
use Rattle.memory.specs.Held.{held, opened, framed, Frame}

abbrev pub lazy : Conduct
lazy = record { State = MemoryModel; model = λ m. m; does = effect; loses = cut }

-- what a lazy module stands for
abbrev pub lazy_meaning : Lazy → MemoryModel
lazy_meaning s = held s.current s.kept.now s.on_the_way.asked s.on_the_way.due s.on_the_way.late

abbrev pub lazy_frame : Lazy → Frame
lazy_frame s = framed s.kept.ghost_name s.kept.now

-- the state of a prompt module is its words: nothing is ever on its way
abbrev pub settled : Call → List ℕ → List ℕ
settled (writes a v) words = slice_set words a v
settled (asks i) words = words
settled fences words = words
settled syncs words = words
settled (arrives i) words = words

abbrev pub prompt : Conduct
prompt = record { State = List ℕ; model = opened; does = settled; loses = λ words. words }
