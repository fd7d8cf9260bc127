-- The text that a script gives: a function of its bytes.
use Rattle.std.specs.Prelude.{ℕ, List, replicate, Ok, Err, Result}
use Rattle.memory.specs.Conduct.{Conduct}
use Rattle.memory.specs.Held.{opened}
use Rattle.memory.specs.Kinds.{lazy, prompt}
use Rattle.objects.specs.Model.{ObjectModel}
use Rattle.objects.specs.Rows.{queue_model, stack_model}
use Rattle.machine.specs.Calls.{begun}
use Rattle.script.specs.declared.call.Call.{Call}
use Rattle.script.specs.declared.fault.Fault.{Fault}
use Rattle.script.specs.declared.setup.Setup.{Setup}
use Rattle.script.specs.declared.setup.ObjectKind.{ObjectKind}
use Rattle.script.specs.declared.setup.ObjectKind.TheVariants.{Queue, Stack}
use Rattle.script.specs.declared.setup.MemoryKind.{MemoryKind}
use Rattle.script.specs.declared.setup.MemoryKind.TheVariants.{Lazy, Prompt}
use Rattle.script.specs.Faults.{fault_number}
use Rattle.script.specs.Readings.{reading_of}
use Rattle.listing.specs.Texts.{listing_text, fault_text}
use Rattle.bench.specs.Runs.{outcomes}

abbrev pub model_of : ObjectKind → ObjectModel
model_of Queue = queue_model
model_of Stack = stack_model

-- the memory of a script: 28 lines of zeros
abbrev pub zeros : List ℕ
zeros = replicate 224 0

-- the listing of a run on a store over a memory, which begins down
abbrev pub run_text : (X : ObjectModel) (C : Conduct) → C.State → List Call → List ℕ
run_text X C m calls = listing_text (outcomes X C calls (begun X C m))

abbrev pub text_on : MemoryKind → ObjectModel → List Call → List ℕ
text_on Lazy X calls = run_text X lazy (opened zeros) calls
text_on Prompt X calls = run_text X prompt zeros calls

abbrev pub text_of : Result Setup Fault → List Call → List ℕ
text_of (Ok s) calls = text_on s.memory (model_of s.object) calls
text_of (Err f) calls = fault_text (fault_number f.kind) f.line f.byte

abbrev pub script_text : List ℕ → List ℕ
script_text bytes = text_of (reading_of 512 bytes).result (reading_of 512 bytes).calls
