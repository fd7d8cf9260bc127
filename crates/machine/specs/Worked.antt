-- The worked cases of the rules in one table, each computed.
use Rattle.std.specs.Prelude.{◌≡◌, ℕ, zero, suc, ◌+◌, ◌*◌, List, [], ◌∷◌, ◌++◌, replicate, slice_set}
use Rattle.memory.specs.Kinds.{prompt}
use Rattle.memory.specs.Worked.{LostAndKept, Late}
use Rattle.objects.specs.Rows.{queue_model}
use Rattle.objects.specs.Worked.{FullAndEmpty, Pictures}
use Rattle.machine.specs.Numbers.{refusal_number, step_number}
use Rattle.machine.specs.Calls.{Machine, Reply, does, formatted, begun, resumed, up_table}
use Rattle.machine.specs.Calls.{Call.announce, Call.step, Call.start}
use Rattle.machine.specs.Calls.{Reply.ticket, Reply.answer, Reply.stepped, Reply.slip, Reply.ok, Reply.refused}

-- the number that a reply bears: 0 where it is a plain ok
abbrev pub reply_number : Reply → ℕ
reply_number (refused k) = refusal_number k
reply_number (stepped c) = step_number c
reply_number (ticket t) = t
reply_number (answer a) = a.value
reply_number slip = 0
reply_number ok = 0

-- a store for a queue over a prompt memory of that many lines of zeros
abbrev over : ℕ → Machine queue_model prompt
over lines = begun queue_model prompt (replicate (8 * lines) 0)

abbrev format_number : ℕ → ℕ → ℕ
format_number lines n = reply_number (formatted queue_model prompt n (over lines)).0

-- 8 workers need 28 lines; 1 to 8 workers can be served
abbrev pub Formats : Type 0
Formats = (format_number 28 8 ≡ 0) × (format_number 27 8 ≡ 14) × (format_number 28 0 ≡ 13) × (format_number 28 9 ≡ 13)

-- an image in which the first of one worker has turn word 3, code 0 and value 7, and what a resume of a turn replies there
abbrev third : List ℕ
third = slice_set (slice_set (replicate 112 0) 16 3) 18 7

abbrev resumes : ℕ → Reply
resumes turn = (resumed queue_model (up_table queue_model 1 0) third 0 turn 1 501).0

-- the turn of the turn word is answered, the next waits, others are refused
abbrev pub Resumes : Type 0
Resumes = (resumes 3 ≡ answer (record { code = 0; value = 7 })) × (resumes 4 ≡ ticket 4) × (reply_number (resumes 2) ≡ 12) × (reply_number (resumes 5) ≡ 12)

-- the numbers that so many steps of worker 0 answer
abbrev pub steps_from : ℕ → Machine queue_model prompt → List ℕ
steps_from zero s = []
steps_from (suc k) s = reply_number (does queue_model prompt (step 0) s).0 ∷ steps_from k (does queue_model prompt (step 0) s).1

-- a started store for n workers in which worker 0 has announced
abbrev announced_in : ℕ → Machine queue_model prompt
announced_in n = (does queue_model prompt (announce 0 1 501) (does queue_model prompt start (formatted queue_model prompt n (over 28)).1).1).1

-- a round of n workers from the lock to Leave, of whom the first is served
abbrev round : ℕ → ℕ → List ℕ
round others asks = 1 ∷ (replicate 5 3 ++ (4 ∷ (replicate others 5 ++ (replicate 5 6 ++ (replicate asks 7 ++ (8 ∷ 9 ∷ 10 ∷ 11 ∷ 12 ∷ []))))))

-- the steps from taking the lock to leaving it, with n workers
abbrev pub round_length : ℕ → ℕ
round_length n = 2 * n + 21

-- 23 steps for one worker, 37 for eight
abbrev pub Rounds : Type 0
Rounds = (round_length 1 ≡ 23) × (round_length 8 ≡ 37) × (steps_from 23 (announced_in 1) ≡ round 0 6) × (steps_from 37 (announced_in 8) ≡ round 7 13)

pub record WorkedCases : Type 0 where
  pub lost_and_kept : LostAndKept
  pub late : Late
  pub full_and_empty : FullAndEmpty
  pub pictures : Pictures
  pub formats : Formats
  pub resumes : Resumes
  pub rounds : Rounds
