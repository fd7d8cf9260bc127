-- The calls that change a memory module, and rows of accepted ones.
use Rattle.std.specs.Prelude.{◌≡◌, ℕ, zero, suc, ◌+◌, Bool, true, cond, ◌&&◌, List, [], ◌∷◌, Ok, Err, Result}
use Rattle.memory.specs.declared.refusal.Refusal.{Refusal}
use Rattle.memory.specs.declared.refusal.Refusal.TheVariants.{Outside, NotAllowed}
use Rattle.memory.specs.Model.{MemoryModel, Adds, write, ask, fence, sync, arrival, allowed}
use Rattle.memory.specs.Post.{inside_line, inside_word}

pub data Call : Type 0 where
  writes : ℕ → ℕ → Call
  asks : ℕ → Call
  fences : Call
  syncs : Call
  arrives : ℕ → Call

-- the call is not refused
abbrev pub accepts : Call → MemoryModel → Bool
accepts (writes a v) m = inside_word a m
accepts (asks i) m = inside_line i m
accepts fences m = true
accepts syncs m = true
accepts (arrives i) m = inside_line i m && allowed i m

-- why it is refused, where it is
abbrev pub refusal_of : Call → MemoryModel → Refusal
refusal_of (writes a v) m = Outside
refusal_of (asks i) m = Outside
refusal_of fences m = Outside
refusal_of syncs m = Outside
refusal_of (arrives i) m = cond (inside_line i m) NotAllowed Outside

abbrev pub reply : Call → MemoryModel → Result (Unit {0}) Refusal
reply c m = cond (accepts c m) (Ok tt) (Err (refusal_of c m))

-- what an accepted call does, before arrivals are added
abbrev pub effect : Call → MemoryModel → MemoryModel
effect (writes a v) m = write a v m
effect (asks i) m = ask i m
effect fences m = fence m
effect syncs m = sync m
effect (arrives i) m = arrival i m

-- a row of accepted calls leads from one meaning to the other
pub data Reach : List Call → MemoryModel → MemoryModel → Type 0 where
  done : {m : MemoryModel} → Reach [] m m
  next : {m k n : MemoryModel} {c : Call} {cs : List Call} → accepts c m ≡ true → Adds (effect c m) k → Reach cs k n → Reach (c ∷ cs) m n

-- a write for each word, from word a on
abbrev pub each_word : ℕ → List ℕ → List Call
each_word a [] = []
each_word a (v ∷ vs) = writes a v ∷ each_word (a + 1) vs

-- an ask for each of n lines, from line i on
abbrev pub each_line : ℕ → ℕ → List Call
each_line i zero = []
each_line i (suc n) = asks i ∷ each_line (suc i) n
