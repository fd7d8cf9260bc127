-- The lines of a script and the words of a line, each with its place.
use Rattle.std.specs.Prelude.{ℕ, ◌+◌, cond, List, [], ◌∷◌, length, Some, None, Option, ◌==◌}
use Rattle.script.specs.Numbers.{number_of}
use Rattle.script.specs.Pieces.{words_of, lines_of}

-- bytes, with the line and the byte where they begin
pub record Spot : Type 0 where
  pub text : List ℕ
  pub line : ℕ
  pub byte : ℕ

-- a word as the script has it
pub data Seen : Type 0 where
  name : Spot → Seen
  number : Spot → ℕ → Seen

abbrev pub seen_as : Spot → Option ℕ → Seen
seen_as s None = name s
seen_as s (Some n) = number s n

abbrev pub seen_at : Spot → Seen
seen_at s = seen_as s (number_of s.text)

-- the word at a place
abbrev pub word_at : ℕ → ℕ → List ℕ → Seen
word_at line byte bs = seen_at (record { text = bs; line = line; byte = byte })

abbrev pub words_at : ℕ → ℕ → List (List ℕ) → List Seen
words_at line byte [] = []
words_at line byte (w ∷ ws) = word_at line byte w ∷ words_at line (byte + length w + 1) ws

-- the words of a line
abbrev pub words_in : ℕ → List ℕ → List Seen
words_in line bs = words_at line 1 (words_of bs)

-- the lines with their numbers
abbrev pub lines_at : ℕ → List (List ℕ) → List Spot
lines_at line [] = []
lines_at line (l ∷ ls) = record { text = l; line = line; byte = 1 } ∷ lines_at (line + 1) ls

-- the lines of a script
abbrev pub lines_in : List ℕ → List Spot
lines_in bs = lines_at 1 (lines_of bs)

abbrev pub first_of : {X : Type 0} → List X → Option X
first_of [] = None
first_of (x ∷ xs) = Some x

abbrev pub rest_of : {X : Type 0} → List X → List X
rest_of [] = []
rest_of (x ∷ xs) = xs

-- the bytes of a word, none where there is no word
abbrev pub text_of : Option Seen → List ℕ
text_of None = []
text_of (Some (name s)) = s.text
text_of (Some (number s n)) = s.text

-- pieces with their places: behind an LF a line begins, and behind another separator the line goes on
abbrev pub spots_at : ℕ → ℕ → ℕ → List (List ℕ) → List Spot
spots_at sep line byte [] = []
spots_at sep line byte (w ∷ ws) =
    record { text = w; line = line; byte = byte } ∷ spots_at sep (cond (sep == 10) (line + 1) line) (cond (sep == 10) 1 (byte + length w + 1)) ws
