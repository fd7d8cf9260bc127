-- What value of a kind a word names.
use Rattle.std.specs.Prelude.{ℕ, List, Option}
use Rattle.std.specs.List.{find}
use Rattle.std.specs.Str.{bytes_eq}

-- the first of some values whose name is the word
abbrev pub named : {T : Type 0} → (T → List ℕ) → List T → List ℕ → Option T
named name values word = find (λ v. bytes_eq word (name v)) values
