-- What setup the first line of a script names.
use Rattle.std.specs.Prelude.{ℕ, cond, ◌&&◌, List, [], ◌∷◌, length, Some, None, codes, Option, ◌==◌}
use Rattle.std.specs.Str.{bytes_eq}
use Rattle.script.specs.declared.setup.ObjectKind.{ObjectKind}
use Rattle.script.specs.declared.setup.ObjectKind.TheVariants.{Queue, Stack}
use Rattle.script.specs.declared.setup.MemoryKind.{MemoryKind}
use Rattle.script.specs.declared.setup.MemoryKind.TheVariants.{Lazy, Prompt}
use Rattle.script.specs.declared.setup.Setup.{Setup}
use Rattle.script.specs.Names.{named}
use Rattle.script.specs.Places.{Seen, first_of, rest_of, text_of}

abbrev pub object_name : ObjectKind → List ℕ
object_name Queue = codes "queue"
object_name Stack = codes "stack"

abbrev pub memory_name : MemoryKind → List ℕ
memory_name Lazy = codes "lazy"
memory_name Prompt = codes "prompt"

abbrev pub object_of : List ℕ → Option ObjectKind
object_of bs = named object_name (Queue ∷ Stack ∷ []) bs

abbrev pub memory_of : List ℕ → Option MemoryKind
memory_of bs = named memory_name (Lazy ∷ Prompt ∷ []) bs

abbrev pub setup_from : Option ObjectKind → Option MemoryKind → Option Setup
setup_from None m = None
setup_from (Some o) None = None
setup_from (Some o) (Some m) = Some (record { object = o; memory = m })

-- three words: `store`, the object and the memory
abbrev pub setup_of : List Seen → Option Setup
setup_of ws =
    cond (length ws == 3 && bytes_eq (text_of (first_of ws)) (codes "store"))
    (setup_from (object_of (text_of (first_of (rest_of ws)))) (memory_of (text_of (first_of (rest_of (rest_of ws))))))
    None
