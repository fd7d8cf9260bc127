-- What a memory module answers, what a cut may leave, and what is so of every module.
use Rattle.std.specs.Prelude.{◌≡◌, ℕ, ◌*◌, ◌/◌, ◌≤◌, Bool, cond, length, Ok, Err, Result, count_ones, nat_lt, slice_index}
use Rattle.memory.specs.declared.refusal.Refusal.{Refusal}
use Rattle.memory.specs.declared.refusal.Refusal.TheVariants.{Outside}
use Rattle.memory.specs.declared.counts.Counts.{Counts}
use Rattle.memory.specs.Model.{MemoryModel, Adds, lines, write, ask, sync, cut}

abbrev pub inside_word : ℕ → MemoryModel → Bool
inside_word a m = nat_lt a (length m.kept)

abbrev pub inside_line : ℕ → MemoryModel → Bool
inside_line i m = nat_lt i (lines m)

-- the word that is read
abbrev pub word_at : ℕ → MemoryModel → Result ℕ Refusal
word_at a m = cond (inside_word a m) (Ok (slice_index m.current a)) (Err Outside)

-- a word that is inside written, its line asked, and all brought
abbrev pub stores : ℕ → ℕ → MemoryModel → MemoryModel
stores a v m = cond (inside_word a m) (sync (ask (a / 8) (write a v m))) m

-- how many lines are asked, due and late
abbrev pub counted : MemoryModel → Counts
counted m = record { asked = count_ones m.asked; due = count_ones m.due; late = count_ones m.late }

-- power is cut: arrivals may be added first
abbrev pub CutTo : MemoryModel → MemoryModel → Type 0
CutTo m after = (n : MemoryModel) × Adds m n × (after ≡ cut n)

-- what is so of every module
pub record Formed (m : MemoryModel) : Type 0 where
  pub images : length m.current ≡ length m.kept
  pub whole : length m.kept ≡ 8 * lines m
  pub few : lines m ≤ 64
