-- The laws of calls in a row, and what arrivals and writes leave as it is.
use Rattle.std.proofs.Common.{◌≡◌, ℕ, ◌+◌, ◌/◌, ◌^◌, true, false, cond, List, [], ◌∷◌, ◌++◌, length, refl, ap, ◌∙◌, arith}
use Rattle.memory.specs.Sets.{mem}
use Rattle.memory.specs.Model.{MemoryModel, Adds, none, more, arrivals, put, write}
use Rattle.memory.specs.Calls.{Call, writes, Reach, done, next, each_word, accepts, effect}
use Rattle.memory.proofs.Copies.{length-copied}

pub reach_more : {cs : List Call} (c : Call) {m k n : MemoryModel} → Reach cs m k → accepts c k ≡ true → Adds (effect c k) n → Reach (cs ++ c ∷ []) m n
reach_more c done a s = next a s done
reach_more c (next b t r) a s = next b t (reach_more c r a s)

pub each_word-more : (a v : ℕ) (vs : List ℕ) → each_word a (vs ++ v ∷ []) ≡ each_word a vs ++ writes (a + length vs) v ∷ []
each_word-more a v [] = ap (λ b. writes b v ∷ []) (omega arith)
each_word-more a v (x ∷ vs) = ap (λ cs. writes a x ∷ cs) (each_word-more (a + 1) v vs ∙ ap (λ b. each_word (a + 1) vs ++ writes b v ∷ []) (omega arith))

-- arrivals and writes keep the size
pub adds_size : {m n : MemoryModel} → Adds m n → length n.kept ≡ length m.kept
adds_size none = refl
adds_size {m} (more i h k r) = adds_size r ∙ length-copied (2 ^ i) m.current m.kept

pub write_size : (a v : ℕ) (m : MemoryModel) → length (write a v m).kept ≡ length m.kept
write_size a v m = elim (mem m.due (a / 8)) as (λ b. length (put a v (cond b (arrivals m.due m) m)).kept ≡ length m.kept) [ true ↦ length-copied m.due m.current m.kept | false ↦ refl ]

-- arrivals in a row
pub adds_trans : {m k n : MemoryModel} → Adds m k → Adds k n → Adds m n
adds_trans none s = s
adds_trans (more i h a r) s = more i h a (adds_trans r s)

pub adds-current : {m n : MemoryModel} → Adds m n → n.current ≡ m.current
adds-current none = refl
adds-current (more i h a r) = adds-current r
