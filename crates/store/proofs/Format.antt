-- The parts of a format, written one after another, are the whole row.
use Rattle.std.proofs.Common.{◌≡◌, ℕ, ◌+◌, List, ◌++◌, length, sym, ap, ◌∙◌}
use Rattle.memory.specs.Calls.{Call, each_word}
use Rattle.memory.specs.Conduct.{Conduct, after_calls}
use Rattle.memory.proofs.Rows.{calls_join, after_words}

module _ (C : Conduct) where
  -- words from a, then words from b, which follows
  pub then_words : (a b : ℕ) (xs ys : List ℕ) (s t u : C.State) → a + length xs ≡ b → t ≡ after_calls C (each_word a xs) s
      → u ≡ after_calls C (each_word b ys) t → u ≡ after_calls C (each_word a (xs ++ ys)) s
  then_words a b xs ys s t u e p q =
      q ∙ ap (after_calls C (each_word b ys)) p ∙ ap (λ d. after_calls C (each_word d ys) (after_calls C (each_word a xs) s)) (sym e)
      ∙ sym (after_words C a xs ys s)

  pub then_calls : (cs ds : List Call) (s t u : C.State) → t ≡ after_calls C cs s → u ≡ after_calls C ds t → u ≡ after_calls C (cs ++ ds) s
  then_calls cs ds s t u p q = q ∙ ap (after_calls C ds) p ∙ sym (calls_join C cs ds s)
