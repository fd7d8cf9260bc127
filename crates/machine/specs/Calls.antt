-- What each call on a store answers, and what table and memory it leaves.
use Rattle.std.specs.Prelude.{ℕ, ◌+◌, ◌-◌, ◌^◌, Bool, true, false, cond, ◌&&◌, List, replicate, is_some, None, Ok, Err, Result, ◌==◌, nat_le, nat_lt, slice_index}
use Rattle.std.specs.Str.{bytes_eq}
use Rattle.memory.specs.declared.refusal.Refusal.{Refusal as MemoryRefusal}
use Rattle.memory.specs.Model.{MemoryModel, lines, line}
use Rattle.memory.specs.Calls.{arrives, reply}
use Rattle.memory.specs.Conduct.{Conduct, after_call, after_calls}
use Rattle.objects.specs.Model.{ObjectModel}
use Rattle.machine.specs.declared.answer.Answer.{Answer}
use Rattle.machine.specs.declared.phase.Phase.TheVariants.{Gate}
use Rattle.machine.specs.declared.steps.StepAnswer.{StepAnswer}
use Rattle.machine.specs.declared.refusal.Refusal.{Refusal}
use Rattle.machine.specs.declared.refusal.Refusal.TheVariants.{NotUp, NotDown, NoWorker, PlaceTaken, TurnsUsedUp, OtherTurn, NotAnswered, TurnOutOfRange, OtherRequest, PlaceNotFree, TurnNotNext, WorkerCount, TooFewLines, WrongContents, WrongKind, WrongIndex, NoPicture, InMemory}
use Rattle.machine.specs.Layout.{lines_used, contents, object_words, format_calls}
use Rattle.machine.specs.Machine.{Place, Table, Step, place_of, with_place, turn_word, record_answer, step as step_of}
use Rattle.machine.specs.Machine.{Place.free, Place.waiting, Place.answered}

-- a call with its numbers: worker, turn, operation and argument, or a line
pub data Call : Type 0 where
  announce : ℕ → ℕ → ℕ → Call
  step : ℕ → Call
  collect : ℕ → ℕ → ℕ → ℕ → Call
  note : ℕ → ℕ → ℕ → ℕ → Call
  resume : ℕ → ℕ → ℕ → ℕ → Call
  arrive : ℕ → Call
  cut : Call
  start : Call

pub data Reply : Type 0 where
  ticket : ℕ → Reply
  answer : Answer → Reply
  stepped : StepAnswer → Reply
  slip : Reply
  ok : Reply
  refused : Refusal → Reply

-- a refusal of the memory, handed on
abbrev pub in_memory : Result (Unit {0}) MemoryRefusal → Reply
in_memory (Ok x) = ok
in_memory (Err k) = refused (InMemory k)

-- line 0 names a number of workers from 1 to 8, is right for it but for the kind, and the lines are there
abbrev pub contents_fit : MemoryModel → Bool
contents_fit m =
    let n = slice_index m.current 2 in
    (nat_le 1 n && nat_le n 8) && (bytes_eq (line 0 m.current) (contents (slice_index m.current 1) n) && nat_le (lines_used n) (lines m))

-- the number of workers that the memory is for, or the first no
abbrev pub workers_found : MemoryModel → Result ℕ Refusal
workers_found m = cond (nat_le 14 (lines m)) (cond (contents_fit m) (Ok (slice_index m.current 2)) (Err WrongContents)) (Err TooFewLines)

module _ (X : ObjectModel) where
  abbrev pub Outcome : Type 0
  Outcome = Reply × Table X

  -- what a call answers and leaves by the worker's place
  module _ (t : Table X) (image : List ℕ) (w turn op arg : ℕ) where
    abbrev pub announce_at : Place → Outcome
    announce_at free = cond (nat_lt (turn_word X t image w) (2 ^ 32 - 1))
        (ticket (turn_word X t image w + 1), with_place X t w (waiting (turn_word X t image w + 1) op arg Gate))
        (refused TurnsUsedUp, t)
    announce_at (waiting u o a p) = (refused PlaceTaken, t)
    announce_at (answered u o a r) = (refused PlaceTaken, t)

    abbrev pub collect_at : Place → Outcome
    collect_at free = (refused OtherTurn, t)
    collect_at (waiting u o a p) = cond (u == turn) (refused NotAnswered, t) (refused OtherTurn, t)
    collect_at (answered u o a r) = cond (u == turn) (answer r, with_place X t w free) (refused OtherTurn, t)

    abbrev pub same : ℕ → ℕ → Bool
    same o a = o == op && a == arg

    abbrev pub resume_at : Place → Outcome
    resume_at free = cond (turn == turn_word X t image w) (answer (record_answer X t image w), t)
        (cond (turn == turn_word X t image w + 1) (ticket turn, with_place X t w (waiting turn op arg Gate)) (refused TurnNotNext, t))
    resume_at (waiting u o a p) = cond (u == turn) (cond (same o a) (ticket turn, t) (refused OtherRequest, t)) (refused PlaceNotFree, t)
    resume_at (answered u o a r) = cond (u == turn) (cond (same o a) (ticket turn, t) (refused OtherRequest, t)) (refused PlaceNotFree, t)

  -- is the store up, is the worker below n
  abbrev pub as_up : Table X → ℕ → Outcome → Outcome
  as_up t w o = cond t.up (cond (nat_lt w t.workers) o (refused NoWorker, t)) (refused NotUp, t)

  abbrev pub announced : Table X → List ℕ → ℕ → ℕ → ℕ → Outcome
  announced t image w op arg = as_up t w (announce_at t image w 0 op arg (place_of X t w))

  abbrev pub collected : Table X → List ℕ → ℕ → ℕ → ℕ → ℕ → Outcome
  collected t image w turn op arg = as_up t w (collect_at t image w turn op arg (place_of X t w))

  abbrev pub resumed : Table X → List ℕ → ℕ → ℕ → ℕ → ℕ → Outcome
  resumed t image w turn op arg = as_up t w
      (cond (nat_le 1 turn && nat_lt turn (2 ^ 32)) (resume_at t image w turn op arg (place_of X t w)) (refused TurnOutOfRange, t))

  abbrev pub down_table : Table X
  down_table = record {
    up = false;
    workers = 0;
    settled = 0;
    places = replicate 8 free;
    lock = None;
    loaded = replicate 40 0;
    working = X.fresh;
  }

  abbrev pub up_table : ℕ → ℕ → Table X
  up_table n s = record {
    up = true;
    workers = n;
    settled = s;
    places = replicate 8 free;
    lock = None;
    loaded = replicate 40 0;
    working = X.fresh;
  }

  -- what a start finds for n workers: the index, or the first no
  abbrev pub found_for : MemoryModel → ℕ → Result (ℕ × ℕ) Refusal
  found_for m n =
      let r = slice_index m.current 8 in
      cond (slice_index m.current 1 == X.kind)
      (cond (nat_lt r 2)
      (cond (is_some (X.reads (object_words m.current n r)))
      (Ok (n, r))
      (Err NoPicture)) (Err WrongIndex)) (Err WrongKind)

  abbrev pub then_found : MemoryModel → Result ℕ Refusal → Result (ℕ × ℕ) Refusal
  then_found m (Ok n) = found_for m n
  then_found m (Err k) = Err k

  -- what a start finds in the memory: the number of workers and the index, or the first no
  abbrev pub found : MemoryModel → Result (ℕ × ℕ) Refusal
  found m = then_found m (workers_found m)

  abbrev pub started_at : Table X → Result (ℕ × ℕ) Refusal → Outcome
  started_at t (Ok (n, r)) = (ok, up_table n r)
  started_at t (Err k) = (refused k, t)

  -- a start brings a store that is down up at what it finds
  abbrev pub started : Table X → MemoryModel → Outcome
  started t m = cond t.up (refused NotDown, t) (started_at t (found m))

module _ (X : ObjectModel) (C : Conduct) where
  -- a store over a kind of memory
  pub record Machine : Type 0 where
    pub table : Table X
    pub memory : C.State

  -- what a call answers, and the store after it
  abbrev pub Done : Type 0
  Done = Reply × Machine

  abbrev pub begun : C.State → Machine
  begun m = record { table = down_table X; memory = m }

  -- a call that leaves the memory
  abbrev pub quiet : Machine → Outcome X → Done
  quiet s o = (o.0, record { table = o.1; memory = s.memory })

  -- a step makes its calls of the memory one after another
  abbrev pub stepped_as : Machine → Step X → Done
  stepped_as s (Step.stepped p) = (stepped p.answer, record { table = p.after; memory = after_calls C p.calls s.memory })
  stepped_as s (Step.no k) = (refused k, s)

  -- what is now in the memory of a store
  abbrev pub image : Machine → List ℕ
  image s = (C.model s.memory).current

  abbrev pub does : Call → Machine → Done
  does (announce w op arg) s = quiet s (announced X s.table (image s) w op arg)
  does (step w) s = stepped_as s (step_of X s.table (image s) w)
  does (collect w turn op arg) s = quiet s (collected X s.table (image s) w turn op arg)
  does (note w turn op arg) s = (slip, s)
  does (resume w turn op arg) s = quiet s (resumed X s.table (image s) w turn op arg)
  does (arrive l) s = (in_memory (reply (arrives l) (C.model s.memory)), record { table = s.table; memory = after_call C (arrives l) s.memory })
  does cut s = (ok, begun (C.loses s.memory))
  does start s = quiet s (started X s.table (C.model s.memory))

  -- a format writes a fresh store for n workers
  abbrev pub formatted : ℕ → Machine → Done
  formatted n s =
      cond s.table.up (refused NotDown, s)
      (cond (nat_le 1 n && nat_le n 8)
      (cond (nat_le (lines_used n) (lines (C.model s.memory)))
      (ok, begun (after_calls C (format_calls X.kind (X.picture X.fresh) n) s.memory))
      (refused TooFewLines, s))
      (refused WorkerCount, s))
