-- Objects that hold at most 32 words, the oldest first; they differ in the entry that is taken out.
use Rattle.std.specs.Prelude.{ℕ, ◌+◌, ◌-◌, ◌≤◌, Bool, false, cond, List, [], ◌∷◌, ◌++◌, length, take, drop, replicate, Some, None, Option, Ok, Err, ◌==◌, nat_le, nat_lt, slice_index}
use Rattle.std.specs.List.{list_all}
use Rattle.std.proofs.Common.{arith, length-take}
use Rattle.objects.specs.declared.answer.Denied.TheVariants.{Empty, Full, Unknown}
use Rattle.objects.specs.Answers.{Answer}
use Rattle.objects.specs.Model.{ObjectModel}

pub record Entries : Type 0 where
  pub items : List ℕ
  pub few : length items ≤ 32

pub clip-few : (xs : List ℕ) → length (take 32 xs) ≤ 32
clip-few xs = simp length-take (omega arith)

-- the first 32 of a list
abbrev pub clip : List ℕ → Entries
clip xs = record { items = take 32 xs; few = clip-few xs }

-- what an end answers of its entry, and what stays without that entry
abbrev pub First : Type 0
First = List ℕ → Answer

abbrev pub Rest : Type 0
Rest = List ℕ → List ℕ

abbrev pub oldest : First
oldest [] = Err Empty
oldest (x ∷ xs) = Ok x

abbrev pub but_oldest : Rest
but_oldest xs = drop 1 xs

abbrev pub newest : First
newest xs = cond (length xs == 0) (Err Empty) (Ok (slice_index xs (length xs - 1)))

abbrev pub but_newest : Rest
but_newest xs = take (length xs - 1) xs

-- what operation 1 answers, and what is held then
abbrev pub answer_to_put : Entries → Answer
answer_to_put s = cond (nat_lt (length s.items) 32) (Ok (length s.items + 1)) (Err Full)

abbrev pub with_put : Entries → ℕ → Entries
with_put s arg = cond (nat_lt (length s.items) 32) (clip (s.items ++ (arg ∷ []))) s

-- operation 1 puts in, 2 takes out, 3 looks
abbrev pub answer_of : First → Entries → ℕ → Answer
answer_of first s op = cond (op == 1) (answer_to_put s) (cond (op == 2) (first s.items) (cond (op == 3) (first s.items) (Err Unknown)))

abbrev pub held_after : Rest → Entries → ℕ → ℕ → Entries
held_after rest s op arg = cond (op == 1) (with_put s arg) (cond (op == 2) (clip (rest s.items)) s)

-- the count, the entries, then zeros
abbrev pub pictured : List ℕ → List ℕ
pictured xs = length xs ∷ (xs ++ replicate (39 - length xs) 0)

abbrev pub zeros : List ℕ → Bool
zeros xs = list_all (λ x. x == 0) xs

-- the entries that the count of a picture announces
abbrev pub named : List ℕ → List ℕ
named ws = take (slice_index ws 0) (drop 1 ws)

abbrev pub is_picture : List ℕ → Bool
is_picture ws = cond (length ws == 40) (cond (nat_le (slice_index ws 0) 32) (zeros (drop (slice_index ws 0 + 1) ws)) false) false

abbrev pub read : List ℕ → Option Entries
read ws = cond (is_picture ws) (Some (clip (named ws))) None

abbrev pub row_model : ℕ → First → Rest → ObjectModel
row_model kind first rest = record {
  kind = kind;
  State = Entries;
  fresh = clip [];
  answer = λ s op arg. answer_of first s op;
  next = held_after rest;
  picture = λ s. pictured s.items;
  reads = read;
}

abbrev pub queue_model : ObjectModel
queue_model = row_model 1 oldest but_oldest

abbrev pub stack_model : ObjectModel
stack_model = row_model 2 newest but_newest
