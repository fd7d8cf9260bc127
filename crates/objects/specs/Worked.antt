-- Worked cases of the rules, by the numbers that an answer shows.
use Rattle.std.specs.Prelude.{◌≡◌, ℕ, [], ◌∷◌, replicate, Some, None}
use Rattle.objects.specs.Answers.{Answer, answer_code, answer_value}
use Rattle.objects.specs.Rows.{Entries, clip, queue_model, stack_model}

-- an answer is the code c with the value v
abbrev Shows : Answer → ℕ → ℕ → Type 0
Shows a c v = (answer_code a ≡ c) × (answer_value a ≡ v)

abbrev several : ℕ → Entries
several n = clip (replicate n 7)

abbrev pub FullAndEmpty : Type 0
FullAndEmpty = Shows (queue_model.answer queue_model.fresh 2 0) 1 0 × Shows (queue_model.answer (several 31) 1 5) 0 32 × Shows (queue_model.answer (several 32) 1 5) 2 0

abbrev two : Entries
two = clip (5 ∷ 6 ∷ [])

-- the queue takes out the oldest entry, the stack the newest
abbrev pub Ends : Type 0
Ends = Shows (queue_model.answer two 2 0) 0 5 × ((queue_model.next two 2 0).items ≡ 6 ∷ []) × Shows (stack_model.answer two 2 0) 0 6 × ((stack_model.next two 2 0).items ≡ 5 ∷ [])

abbrev pub Pictures : Type 0
Pictures = (queue_model.reads (33 ∷ replicate 39 0) ≡ None) × (queue_model.reads (0 ∷ 9 ∷ replicate 38 0) ≡ None) × (queue_model.reads (replicate 40 0) ≡ Some queue_model.fresh)
