-- Text cut at each byte of one kind.
use Rattle.std.specs.Prelude.{ℕ, cond, List, [], ◌∷◌, ◌==◌}

-- one byte more at the front of the first piece
abbrev pub on_first : ℕ → List (List ℕ) → List (List ℕ)
on_first c [] = (c ∷ []) ∷ []
on_first c (w ∷ ws) = (c ∷ w) ∷ ws

-- cut at each sep; `last` is what is left at the end
abbrev pub pieces : ℕ → List (List ℕ) → List ℕ → List (List ℕ)
pieces sep last [] = last
pieces sep last (c ∷ cs) = cond (c == sep) ([] ∷ pieces sep last cs) (on_first c (pieces sep last cs))

-- lines end in LF, which the last may lack
abbrev pub lines_of : List ℕ → List (List ℕ)
lines_of bs = pieces 10 [] bs

-- words are split at each space
abbrev pub words_of : List ℕ → List (List ℕ)
words_of bs = pieces 32 ([] ∷ []) bs
