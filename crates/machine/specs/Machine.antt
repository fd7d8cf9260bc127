-- The step machine: what a step answers, what it leaves in the table, and which calls of the memory it makes.
use Rattle.std.specs.Prelude.{ℕ, zero, suc, ◌+◌, ◌*◌, Bool, cond, List, [], ◌∷◌, ◌++◌, map, take, drop, Some, None, Option, ◌==◌, nat_lt, slice_index, slice_index_or, slice_set}
use Rattle.memory.specs.Model.{line}
use Rattle.memory.specs.Calls.{Call, writes, asks, fences, syncs, each_word}
use Rattle.objects.specs.Answers.{Answer as ObjectAnswer, answer_code, answer_value}
use Rattle.objects.specs.Model.{ObjectModel}
use Rattle.machine.specs.declared.answer.Answer.{Answer}
use Rattle.machine.specs.declared.phase.Phase.{Phase}
use Rattle.machine.specs.declared.phase.Phase.TheVariants.{Gate, Watch, Look, Load, Serve, Store, Ask, Fence, Flip, Mark, Sync, Leave}
use Rattle.machine.specs.declared.steps.StepAnswer.{StepAnswer}
use Rattle.machine.specs.declared.steps.StepAnswer.TheVariants.{TookLock, Watches, LineLoaded, Served, LineKept, LineStored, LineAsked, RecordFenced, IndexFlipped, IndexAsked, IndexSynced, LockLeft, AnswerFound, GoesAgain}
use Rattle.machine.specs.declared.refusal.Refusal.{Refusal}
use Rattle.machine.specs.declared.refusal.Refusal.TheVariants.{NotUp, NoWorker, NotWaiting, LoadedNoPicture}
use Rattle.machine.specs.Layout.{record_line, worker_at, object_at, other}

-- an object's answer as the two words of a worker line
abbrev pub answer_words : ObjectAnswer → Answer
answer_words a = record { code = answer_code a; value = answer_value a }

-- n words of an image from word a on; outside it, zeros
abbrev pub words_from : List ℕ → ℕ → ℕ → List ℕ
words_from image a zero = []
words_from image a (suc n) = slice_index image a ∷ words_from image (a + 1) n

-- a worker's place: free, or with turn, operation and argument, and its phase or its answer
pub data Place : Type 0 where
  free : Place
  waiting : ℕ → ℕ → ℕ → Phase → Place
  answered : ℕ → ℕ → ℕ → Answer → Place

-- the next phase after an indexed one, with n workers
abbrev pub next_serve : ℕ → ℕ → Phase
next_serve n k = cond (nat_lt (k + 1) n) (Serve (k + 1)) (Store 0)

abbrev pub next_store : ℕ → Phase
next_store k = cond (nat_lt k 4) (Store (k + 1)) (Ask 0)

abbrev pub next_ask : ℕ → ℕ → Phase
next_ask n k = cond (nat_lt k (n + 4)) (Ask (k + 1)) Fence

-- the request that a place holds for a round to serve, if its turn is not the one recorded
abbrev pub wants : Place → ℕ → Option (ℕ × ℕ × ℕ)
wants free word = None
wants (waiting turn op arg p) word = cond (turn == word) None (Some (turn, op, arg))
wants (answered turn op arg a) word = None

-- at Leave the holder and the watchers go to Look
abbrev pub woken : Place → Place
woken free = free
woken (answered turn op arg a) = answered turn op arg a
woken (waiting turn op arg Watch) = waiting turn op arg Look
woken (waiting turn op arg Leave) = waiting turn op arg Look
woken (waiting turn op arg Gate) = waiting turn op arg Gate
woken (waiting turn op arg Look) = waiting turn op arg Look
woken (waiting turn op arg (Load k)) = waiting turn op arg (Load k)
woken (waiting turn op arg (Serve k)) = waiting turn op arg (Serve k)
woken (waiting turn op arg (Store k)) = waiting turn op arg (Store k)
woken (waiting turn op arg (Ask k)) = waiting turn op arg (Ask k)
woken (waiting turn op arg Fence) = waiting turn op arg Fence
woken (waiting turn op arg Flip) = waiting turn op arg Flip
woken (waiting turn op arg Mark) = waiting turn op arg Mark
woken (waiting turn op arg Sync) = waiting turn op arg Sync

module _ (X : ObjectModel) where
  -- what the store remembers between calls
  pub record Table : Type 0 where
    pub up : Bool
    pub workers : ℕ
    pub settled : ℕ
    pub places : List Place
    pub lock : Option ℕ
    pub loaded : List ℕ
    pub working : X.State

  -- what an accepted step answers, the table after it, and the calls of the memory that it makes
  pub record Plan : Type 0 where
    pub answer : StepAnswer
    pub after : Table
    pub calls : List Call

  pub data Step : Type 0 where
    stepped : Plan → Step
    no : Refusal → Step

  abbrev pub place_of : Table → ℕ → Place
  place_of t w = slice_index_or t.places w free

  abbrev pub with_place : Table → ℕ → Place → Table
  with_place t w p = record {
    up = t.up;
    workers = t.workers;
    settled = t.settled;
    places = slice_set t.places w p;
    lock = t.lock;
    loaded = t.loaded;
    working = t.working;
  }

  abbrev pub with_lock : Table → Option ℕ → Table
  with_lock t l = record {
    up = t.up;
    workers = t.workers;
    settled = t.settled;
    places = t.places;
    lock = l;
    loaded = t.loaded;
    working = t.working;
  }

  abbrev pub with_loaded : Table → List ℕ → Table
  with_loaded t l = record {
    up = t.up;
    workers = t.workers;
    settled = t.settled;
    places = t.places;
    lock = t.lock;
    loaded = l;
    working = t.working;
  }

  abbrev pub with_working : Table → X.State → Table
  with_working t x = record {
    up = t.up;
    workers = t.workers;
    settled = t.settled;
    places = t.places;
    lock = t.lock;
    loaded = t.loaded;
    working = x;
  }

  -- the turn word of a worker's line in the settled record, and the answer beside it
  abbrev pub turn_word : Table → List ℕ → ℕ → ℕ
  turn_word t image w = slice_index image (worker_at t.workers t.settled w)

  abbrev pub record_answer : Table → List ℕ → ℕ → Answer
  record_answer t image w = record {
    code = slice_index image (worker_at t.workers t.settled w + 1);
    value = slice_index image (worker_at t.workers t.settled w + 2);
  }

  -- a step of worker w, whose place waits with this turn, operation and argument
  module _ (t : Table) (image : List ℕ) (w : ℕ) (turn op arg : ℕ) where
    abbrev pub goes : StepAnswer → Phase → List Call → Step
    goes c p cs = stepped (record { answer = c; after = with_place t w (waiting turn op arg p); calls = cs })

    abbrev pub gate : Option ℕ → Step
    gate None = stepped (record {
      answer = TookLock;
      after = with_lock (with_place t w (waiting turn op arg (Load 0))) (Some w);
      calls = [];
    })
    gate (Some h) = goes Watches Watch []

    abbrev pub look : Step
    look = cond (turn_word t image w == turn)
        (stepped (record {
          answer = AnswerFound;
          after = with_place t w (answered turn op arg (record_answer t image w));
          calls = [];
        }))
        (goes GoesAgain Gate [])

    -- Load 4 makes the working object
    abbrev pub made : Option X.State → List ℕ → Step
    made None ws = no LoadedNoPicture
    made (Some x) ws = stepped (record {
      answer = LineLoaded;
      after = with_working (with_loaded (with_place t w (waiting turn op arg (Serve 0))) ws) x;
      calls = [];
    })

    -- the object lines up to line k, the last just read
    abbrev pub heard : ℕ → List ℕ
    heard k = take (8 * k) t.loaded ++ words_from image (object_at t.workers t.settled + 8 * k) 8

    abbrev pub load : ℕ → Step
    load k =
        let ws = heard k ++ drop (8 * k + 8) t.loaded in
        cond (nat_lt k 4)
        (stepped (record { answer = LineLoaded; after = with_loaded (with_place t w (waiting turn op arg (Load (k + 1)))) ws; calls = [] }))
        (made (X.reads (heard k)) ws)

    abbrev pub serve_with : ℕ → Option (ℕ × ℕ × ℕ) → Step
    serve_with k None = stepped (record {
      answer = LineKept;
      after = with_place t w (waiting turn op arg (next_serve t.workers k));
      calls = each_word (worker_at t.workers (other t.settled) k) (words_from image (worker_at t.workers t.settled k) 8);
    })
    serve_with k (Some (u, o, a)) = stepped (record {
      answer = Served;
      after = with_working (with_place t w (waiting turn op arg (next_serve t.workers k))) (X.next t.working o a);
      calls = each_word (worker_at t.workers (other t.settled) k)
          (u ∷ answer_code (X.answer t.working o a) ∷ answer_value (X.answer t.working o a)
          ∷ words_from image (worker_at t.workers t.settled k + 3) 5);
    })

    abbrev pub store_line : ℕ → Step
    store_line k = goes LineStored (next_store k)
        (each_word (object_at t.workers (other t.settled) + 8 * k) (line k (X.picture t.working)))

    abbrev pub leave : Step
    leave = stepped (record {
      answer = LockLeft;
      after = record {
        up = t.up;
        workers = t.workers;
        settled = other t.settled;
        places = map woken t.places;
        lock = None;
        loaded = t.loaded;
        working = t.working;
      };
      calls = [];
    })

    -- no run comes to a line past the last; a step there is refused
    abbrev pub within : ℕ → ℕ → Step → Step
    within k most s = cond (nat_lt k most) s (no NotWaiting)

    abbrev pub step_at : Phase → Step
    step_at Gate = gate t.lock
    step_at Watch = goes Watches Watch []
    step_at Look = look
    step_at (Load k) = within k 5 (load k)
    step_at (Serve k) = within k t.workers (serve_with k (wants (place_of t k) (turn_word t image k)))
    step_at (Store k) = within k 5 (store_line k)
    step_at (Ask k) = within k (t.workers + 5) (goes LineAsked (next_ask t.workers k) (asks (record_line t.workers (other t.settled) + k) ∷ []))
    step_at Fence = goes RecordFenced Flip (fences ∷ [])
    step_at Flip = goes IndexFlipped Mark (writes 8 (other t.settled) ∷ [])
    step_at Mark = goes IndexAsked Sync (asks 1 ∷ [])
    step_at Sync = goes IndexSynced Leave (syncs ∷ [])
    step_at Leave = leave

  abbrev pub step_place : Table → List ℕ → ℕ → Place → Step
  step_place t image w free = no NotWaiting
  step_place t image w (answered u o a r) = no NotWaiting
  step_place t image w (waiting u o a p) = step_at t image w u o a p

  abbrev pub step : Table → List ℕ → ℕ → Step
  step t image w =
      cond t.up (cond (nat_lt w t.workers) (step_place t image w (place_of t w)) (no NoWorker)) (no NotUp)
