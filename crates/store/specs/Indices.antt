-- The index as the word that the memory holds.
use Rattle.std.specs.Prelude.{◌≡◌, ℕ, cond, Ok, Err, Result, ◌==◌}
use Rattle.machine.specs.declared.refusal.Refusal.{Refusal}
use Rattle.machine.specs.declared.refusal.Refusal.TheVariants.{WrongIndex}
use Rattle.store.specs.declared.index.Index.{Index}
use Rattle.store.specs.declared.index.Index.TheVariants.{Zero, One}

abbrev pub index_word : Index → ℕ
index_word Zero = 0
index_word One = 1

-- the index that a word is
abbrev pub index_of : ℕ → Result Index Refusal
index_of w = cond (w == 0) (Ok Zero) (cond (w == 1) (Ok One) (Err WrongIndex))

abbrev pub IndexOf : ℕ → Result Index Refusal → Type 0
IndexOf w r = r ≡ index_of w
