-- What is read from a memory, word by word.
use Rattle.std.proofs.Common.{◌≡◌, ℕ, length, get_or, sym, refl, inl, inr, arith}
use Rattle.std.specs.Result.{result_unwrap_or}
use Rattle.std.proofs.lemmas.Bool.{cases_Bool, ltb-false}
use Rattle.std.proofs.lemmas.List.{get_or_past}
use Rattle.std.specs.Prelude.{nat_lt}
use Rattle.memory.specs.Model.{MemoryModel}
use Rattle.memory.specs.Post.{word_at}

-- outside the memory a word is 0
pub word_or_zero : (a : ℕ) (m : MemoryModel) → length m.current ≡ length m.kept → result_unwrap_or (word_at a m) 0 ≡ get_or m.current a 0
word_or_zero a m e =
    elim (cases_Bool (nat_lt a (length m.kept))) [
      | inl l ↦ simp l refl
      | inr l ↦ simp l (sym (get_or_past m.current a 0 (omega (arith, e, ltb-false a (length m.kept) l))))
    ]
