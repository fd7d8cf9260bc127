-- The meaning of a memory module: two images of its words, and three sets of its lines.
use Rattle.std.specs.Prelude.{◌≡◌, ℕ, ◌*◌, ◌/◌, ◌^◌, ◌<◌, Bool, true, cond, not, ◌||◌, List, map, length, take, drop, ◌==◌, slice_index, slice_set}
use Rattle.std.specs.List.{range_with_len}
use Rattle.memory.specs.Sets.{mem, with_line, minus}

pub record MemoryModel : Type 0 where
  pub current : List ℕ
  pub kept : List ℕ
  pub asked : ℕ
  pub due : ℕ
  pub late : ℕ

-- the eight words of line i of an image
abbrev pub line : ℕ → List ℕ → List ℕ
line i image = take 8 (drop (8 * i) image)

-- `old` with the words of the lines in s as `new` has them
unfoldable pub copied : ℕ → List ℕ → List ℕ → List ℕ
copied s new old = map (λ a. cond (mem s (a / 8)) (slice_index new a) (slice_index old a)) (range_with_len 0 (length old))

abbrev pub lines : MemoryModel → ℕ
lines m = length m.kept / 8

-- the lines of s arrive: when no line is due any more, none is late
abbrev pub arrivals : ℕ → MemoryModel → MemoryModel
arrivals s m = record { current = m.current; kept = copied s m.current m.kept; asked = minus m.asked s; due = minus m.due s; late = cond (minus m.due s == 0) 0 m.late }

abbrev pub arrival : ℕ → MemoryModel → MemoryModel
arrival i m = arrivals (2 ^ i) m

-- line i may arrive: no line is due, or it is due, or it is not late
abbrev pub allowed : ℕ → MemoryModel → Bool
allowed i m = m.due == 0 || (mem m.due i || not (mem m.late i))

abbrev pub put : ℕ → ℕ → MemoryModel → MemoryModel
put a v m = record { current = slice_set m.current a v; kept = m.kept; asked = m.asked; due = m.due; late = cond (m.due == 0) m.late (with_line m.late (a / 8)) }

-- a write to a line that is due waits for all due lines
abbrev pub way : ℕ → MemoryModel → MemoryModel
way i m = cond (mem m.due i) (arrivals m.due m) m

abbrev pub write : ℕ → ℕ → MemoryModel → MemoryModel
write a v m = put a v (way (a / 8) m)

abbrev pub ask : ℕ → MemoryModel → MemoryModel
ask i m = record { current = m.current; kept = m.kept; asked = with_line m.asked i; due = m.due; late = m.late }

abbrev pub fence : MemoryModel → MemoryModel
fence m = record { current = m.current; kept = (arrivals m.due m).kept; asked = 0; due = (arrivals m.due m).asked; late = 0 }

abbrev pub brought : MemoryModel → MemoryModel
brought m = arrivals m.asked m

abbrev pub sync : MemoryModel → MemoryModel
sync m = record { current = m.current; kept = (brought (arrivals m.due m)).kept; asked = 0; due = 0; late = 0 }

abbrev pub cut : MemoryModel → MemoryModel
cut m = record { current = m.kept; kept = m.kept; asked = 0; due = 0; late = 0 }

-- n is m after some allowed arrivals, or none
pub data Adds : MemoryModel → MemoryModel → Type 0 where
  none : {m : MemoryModel} → Adds m m
  more : {m n : MemoryModel} (i : ℕ) → i < lines m → allowed i m ≡ true → Adds (arrival i m) n → Adds m n
