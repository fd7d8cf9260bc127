use Rattle.std.proofs.Common.{◌≡◌, ℕ, ◌+◌, ◌<◌, length, get_or}
use Rattle.store.proofs.store.reads.words.Given as goal

-- the words so far are those of the memory
abbrev pub invariant-loop-i : goal.invariant-loop-i
invariant-loop-i g l =
    (length l.w-items ≡ g.row.N)
    × ((k : ℕ) → k < l.i → get_or l.w-items k 0 ≡ get_or (g.M.Memory.conduct.model (g.M.Memory.meaning l.memory)).current (l.from + k) 0)
