-- What the readers of a script give, and what they have still to give.
use Rattle.std.specs.Prelude.{ℕ, List, [], ◌∷◌, map, Some, None, Option}
use Rattle.bounded.specs.declared.Bounded.{Bounded}
use Rattle.script.specs.declared.call.Call.{Call}
use Rattle.script.specs.declared.setup.Setup.{Setup}
use Rattle.script.specs.declared.words.Part.{Part}
use Rattle.script.specs.declared.words.Word.{Word}
use Rattle.script.specs.declared.words.Word.TheVariants.{Name, Number}
use Rattle.script.specs.declared.words.Pieces.{Pieces}
use Rattle.script.specs.Pieces.{pieces}
use Rattle.script.specs.Places.{Spot, Seen, seen_at, spots_at, lines_in}
use Rattle.script.specs.Places.Seen.{name, number}
use Rattle.script.specs.Readings.{Reading, calls_of, calls_left}

abbrev pub spot_of : Part → Spot
spot_of p = record { text = p.bytes.now; line = p.line; byte = p.byte }

abbrev pub seen_of : Word → Seen
seen_of (Name p) = name (spot_of p)
seen_of (Number p n) = number (spot_of p) n

-- the pieces of what is left of a part
abbrev pub ahead_of : ℕ → Option Part → List Spot
ahead_of sep None = []
ahead_of sep (Some p) = spots_at sep p.line p.byte (pieces sep ([] ∷ []) p.bytes.now)

abbrev pub pieces_ahead : Pieces → List Spot
pieces_ahead s = ahead_of s.sep s.rest

-- the pieces as words
abbrev pub words_ahead : Pieces → List Seen
words_ahead s = map seen_at (pieces_ahead s)

-- the lines of a script, where an empty script has an empty line
abbrev pub lines_or_one : List ℕ → List Spot
lines_or_one [] = record { text = []; line = 1; byte = 1 } ∷ []
lines_or_one (b ∷ bs) = lines_in (b ∷ bs)

-- what the lines that are still to come give
abbrev pub to_come : Setup → ℕ → Bounded Call → List Spot → Reading
to_come setup count list lines = calls_of setup (calls_left count list) lines
