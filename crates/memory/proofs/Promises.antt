-- Both kinds of module keep the promise.
use Rattle.std.proofs.Common.{◌≡◌, ℕ, ◌*◌, ◌^◌, ◌<◌, true, List, length, set, sym, refl, subst, arith, length-take}
use Rattle.std.proofs.lemmas.Bool.{ltb-true}
use Rattle.memory.specs.Model.{MemoryModel, Adds, none, write}
use Rattle.memory.specs.Calls.{Call, writes, asks, fences, syncs, arrives, accepts, effect}
use Rattle.memory.specs.Conduct.{Keeps}
use Rattle.memory.specs.Held.{opened, line_count, front}
use Rattle.memory.specs.Kinds.{lazy, prompt, settled}
use Rattle.memory.proofs.Images.{adds_same, held-lines}
use Rattle.memory.proofs.Quiet.{write-quiet, ask-quiet, fence-quiet, sync-quiet, arrival-quiet, opened-set}

pub lazy_keeps : Keeps lazy
lazy_keeps = record { adds = λ c m a. none; cuts = λ m. (m, none, refl) }

written : (a v : ℕ) (ws : List ℕ) → accepts (writes a v) (opened ws) ≡ true → Adds (write a v (opened ws)) (opened (set ws a v))
written a v ws i =
    let h : a < length (front ws ws) = ltb-true a _ i in
    let e = length-take (8 * line_count (length ws)) ws in
    let l = held-lines ws ws 0 0 0 in
    subst (λ (m : MemoryModel). Adds (write a v (opened ws)) m) (sym (opened-set a v ws (omega arith)))
    (write-quiet a v (front ws ws) (omega arith))

adds-allowed : (c : Call) (ws : List ℕ) → accepts c (opened ws) ≡ true → Adds (effect c (opened ws)) (opened (settled c ws))
adds-allowed (writes a v) ws i = written a v ws i
adds-allowed (asks l) ws i = ask-quiet l (front ws ws) (ltb-true l _ i)
adds-allowed fences ws i = adds_same _ _ (fence-quiet (front ws ws))
adds-allowed syncs ws i = adds_same _ _ (sync-quiet (front ws ws))
adds-allowed (arrives l) ws i = adds_same _ _ (sym (arrival-quiet (2 ^ l) (front ws ws)))

pub prompt_keeps : Keeps prompt
prompt_keeps = record { adds = adds-allowed; cuts = λ ws. (opened ws, none, refl) }
