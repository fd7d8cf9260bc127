-- What a row of calls promises: one growing order of accepted requests explains every answer and every recovery.
use Rattle.std.specs.Prelude.{◌≡◌, ℕ, ◌+◌, ◌<◌, ◌≤◌, Bool, true, false, cond, ◌&&◌, T, ◌⊎◌, List, [], ◌∷◌, ◌++◌, length, Some, None, Option, ◌==◌, ◌≢◌}
use mathlib.Core.List.{Memᴰ}
use Rattle.memory.specs.Model.{MemoryModel, lines}
use Rattle.memory.specs.Post.{Formed}
use Rattle.machine.specs.declared.answer.Answer.{Answer}
use Rattle.objects.specs.Model.{ObjectModel}
use Rattle.machine.specs.declared.steps.StepAnswer.{StepAnswer}
use Rattle.machine.specs.declared.steps.StepAnswer.TheVariants.{TookLock, Watches, LineLoaded, Served, LineKept, LineStored, LineAsked, RecordFenced, IndexFlipped, IndexAsked, IndexSynced, LockLeft, AnswerFound, GoesAgain}
use Rattle.machine.specs.Layout.{lines_used, object_words}
use Rattle.machine.specs.Machine.{turn_word, answer_words}
use Rattle.machine.specs.Calls.{Call, Reply}
use Rattle.machine.specs.Calls.{Call.announce, Call.step, Call.collect, Call.note, Call.resume, Call.arrive, Call.cut, Call.start}
use Rattle.machine.specs.Calls.{Reply.ticket, Reply.answer, Reply.stepped, Reply.slip, Reply.ok, Reply.refused}
use Rattle.machine.specs.Run.{History, Store, Does, Run, Formatted}
use Rattle.machine.specs.Run.{Run.formatted, Run.after}

-- what a worker asked for
pub record Request : Type 0 where
  pub worker : ℕ
  pub turn : ℕ
  pub op : ℕ
  pub arg : ℕ

-- the request that a call accepted, where it gave a ticket
abbrev pub ticketed : Reply → ℕ → ℕ → ℕ → Option Request
ticketed (ticket t) w op arg = Some (record { worker = w; turn = t; op = op; arg = arg })
ticketed (answer a) w op arg = None
ticketed (stepped c) w op arg = None
ticketed slip w op arg = None
ticketed ok w op arg = None
ticketed (refused k) w op arg = None

abbrev pub accepted : Call × Reply → Option Request
accepted (announce w op arg, r) = ticketed r w op arg
accepted (resume w t op arg, r) = ticketed r w op arg
accepted (step w, r) = None
accepted (collect w t op arg, r) = None
accepted (note w t op arg, r) = None
accepted (arrive l, r) = None
accepted (cut, r) = None
accepted (start, r) = None

-- the answer that a call gave, with the worker and the turn that it is for
pub record Given : Type 0 where
  pub worker : ℕ
  pub turn : ℕ
  pub value : Answer

abbrev pub handed : Reply → ℕ → ℕ → Option Given
handed (answer a) w t = Some (record { worker = w; turn = t; value = a })
handed (ticket u) w t = None
handed (stepped c) w t = None
handed slip w t = None
handed ok w t = None
handed (refused k) w t = None

abbrev pub gave : Call × Reply → Option Given
gave (collect w t op arg, r) = handed r w t
gave (resume w t op arg, r) = handed r w t
gave (announce w op arg, r) = None
gave (step w, r) = None
gave (note w t op arg, r) = None
gave (arrive l, r) = None
gave (cut, r) = None
gave (start, r) = None

abbrev pub or_else : Option Request → Option Request → Option Request
or_else (Some x) y = Some x
or_else None y = y

abbrev pub for_worker : ℕ → Option Request → Option Request
for_worker w None = None
for_worker w (Some q) = cond (q.worker == w) (Some q) None

abbrev pub for_turn : ℕ → ℕ → Option Request → Option Request
for_turn w t None = None
for_turn w t (Some q) = cond (q.worker == w && q.turn == t) (Some q) None

-- a history has its newest call first
abbrev pub last_of : ℕ → History → Option Request
last_of w [] = None
last_of w (e ∷ h) = or_else (for_worker w (accepted e)) (last_of w h)

abbrev pub last_for : ℕ → ℕ → History → Option Request
last_for w t [] = None
last_for w t (e ∷ h) = or_else (for_turn w t (accepted e)) (last_for w t h)

-- the running round: how many workers it has passed, whom it served, whether it has done its Flip
pub record Round : Type 0 where
  pub passed : ℕ
  pub served : List Request
  pub flipped : Bool

abbrev pub listed : Option Request → List Request
listed None = []
listed (Some q) = q ∷ []

abbrev pub pass : List Request → Option Round → Option Round
pass qs None = None
pass qs (Some r) = Some (record { passed = r.passed + 1; served = r.served ++ qs; flipped = r.flipped })

abbrev pub flip : Option Round → Option Round
flip None = None
flip (Some r) = Some (record { passed = r.passed; served = r.served; flipped = true })

abbrev pub next_worker : Option Round → ℕ
next_worker None = 0
next_worker (Some r) = r.passed

-- how a step's answer moves the running round
abbrev pub step_round : StepAnswer → History → Option Round → Option Round
step_round TookLock h r = Some (record { passed = 0; served = []; flipped = false })
step_round Watches h r = r
step_round LineLoaded h r = r
step_round Served h r = pass (listed (last_of (next_worker r) h)) r
step_round LineKept h r = pass [] r
step_round LineStored h r = r
step_round LineAsked h r = r
step_round RecordFenced h r = r
step_round IndexFlipped h r = flip r
step_round IndexAsked h r = r
step_round IndexSynced h r = r
step_round LockLeft h r = None
step_round AnswerFound h r = r
step_round GoesAgain h r = r

abbrev pub reply_round : Reply → History → Option Round → Option Round
reply_round (stepped c) h r = step_round c h r
reply_round (ticket t) h r = r
reply_round (answer a) h r = r
reply_round slip h r = r
reply_round ok h r = r
reply_round (refused k) h r = r

abbrev pub call_round : Call → Reply → History → Option Round → Option Round
call_round (step w) x h r = reply_round x h r
call_round cut x h r = None
call_round (announce w op arg) x h r = r
call_round (collect w t op arg) x h r = r
call_round (note w t op arg) x h r = r
call_round (resume w t op arg) x h r = r
call_round (arrive l) x h r = r
call_round start x h r = r

-- a round goes from taking the lock to leaving it, or to a cut
abbrev pub running : History → Option Round
running [] = None
running ((c, r) ∷ h) = call_round c r h (running h)

abbrev pub Flipped : Option Round → Type 0
Flipped None = ⊥
Flipped (Some r) = T r.flipped

abbrev pub served_by : Option Round → List Request
served_by None = []
served_by (Some r) = r.served

-- the requests of one worker, in their order
abbrev pub of_worker : ℕ → List Request → List Request
of_worker w [] = []
of_worker w (q ∷ qs) = cond (q.worker == w) (q ∷ of_worker w qs) (of_worker w qs)

-- turns t, t + 1, … with the words last accepted for each
abbrev pub InTurn : ℕ → ℕ → History → List Request → Type 0
InTurn w t h [] = Unit {0}
InTurn w t h (q ∷ qs) = (last_for w t h ≡ Some q) × InTurn w (t + 1) h qs

-- a step that found the answer made its worker's request answered
abbrev pub becomes : StepAnswer → Option Request → Option (ℕ × ℕ)
becomes TookLock o = None
becomes Watches o = None
becomes LineLoaded o = None
becomes Served o = None
becomes LineKept o = None
becomes LineStored o = None
becomes LineAsked o = None
becomes RecordFenced o = None
becomes IndexFlipped o = None
becomes IndexAsked o = None
becomes IndexSynced o = None
becomes LockLeft o = None
becomes AnswerFound None = None
becomes AnswerFound (Some q) = Some (q.worker, q.turn)
becomes GoesAgain o = None

-- whose request the call made answered, and of which turn
abbrev pub answered_by : Call × Reply → History → Option (ℕ × ℕ)
answered_by (step w, stepped c) h = becomes c (last_of w h)
answered_by (step w, ticket t) h = None
answered_by (step w, answer a) h = None
answered_by (step w, slip) h = None
answered_by (step w, ok) h = None
answered_by (step w, refused k) h = None
answered_by (announce w op arg, r) h = None
answered_by (collect w t op arg, r) h = None
answered_by (note w t op arg, r) h = None
answered_by (resume w t op arg, r) h = None
answered_by (arrive l, r) h = None
answered_by (cut, r) h = None
answered_by (start, r) h = None

-- no call so far accepted the request
abbrev pub Unaccepted : Request → History → Type 0
Unaccepted q h = (e : Call × Reply) → Memᴰ e h → accepted e ≢ Some q

-- the history has a moment at which (w, t) was answered or its answer given, and the request had not been accepted yet
pub data Before (w t : ℕ) (q : Request) : History → Type 0 where
  answered : {e : Call × Reply} {h : History} → answered_by e h ≡ Some (w, t) → Unaccepted q (e ∷ h) → Before w t q (e ∷ h)
  given : {e : Call × Reply} {h : History} (a : Answer) → gave e ≡ Some (record { worker = w; turn = t; value = a })
      → Unaccepted q (e ∷ h) → Before w t q (e ∷ h)
  later : {e : Call × Reply} {h : History} → Before w t q h → Before w t q (e ∷ h)

abbrev pub Is : ℕ → ℕ → Request → Type 0
Is w t q = (q.worker ≡ w) × (q.turn ≡ t)

module _ (X : ObjectModel) where
  -- the object after an order, run from fresh
  abbrev pub run_from : X.State → List Request → X.State
  run_from x [] = x
  run_from x (q ∷ qs) = run_from (X.next x q.op q.arg) qs

  abbrev pub state_after : List Request → X.State
  state_after order = run_from X.fresh order

  -- the answer given for a turn is the object's own at its place in the order
  abbrev pub Explained : List Request → Given → Type 0
  Explained order g = (before : List Request) × (q : Request) × (rest : List Request) ×
      (order ≡ before ++ q ∷ rest) × Is g.worker g.turn q × (answer_words (X.answer (state_after before) q.op q.arg) ≡ g.value)

  -- a started store shows the object after an order, and its turn words count each worker's requests in it
  pub record Finds (s : Store X) (order : List Request) : Type 0 where
    pub pictured : X.reads (object_words s.memory.current s.table.workers s.table.settled) ≡ Some (state_after order)
    pub counted : (w : ℕ) → w < s.table.workers → turn_word X s.table s.memory.current w ≡ length (of_worker w order)

  -- the order explains the calls so far: turns in order, answers given, earlier ones ahead, what is shown now and after a cut
  pub record Explains (h : History) (s : Store X) (order : List Request) : Type 0 where
    pub turns : (w : ℕ) → InTurn w 1 h (of_worker w order)
    pub answers : (e : Call × Reply) (g : Given) → Memᴰ e h → gave e ≡ Some g → Explained order g
    pub ahead : (w t : ℕ) (q : Request) → Memᴰ q order → Before w t q h →
        (front : List Request) × (p : Request) × (rest : List Request) × (order ≡ front ++ p ∷ rest) × Is w t p × Memᴰ q rest
    pub shows : s.table.up ≡ true → Finds s order
    pub survives : (r₁ r₂ : Reply) (s₁ s₂ : Store X) → Does X cut s r₁ s₁ → Does X start s₁ r₂ s₂ →
        (r₂ ≡ ok) × (Finds s₂ order ⊎ (Flipped (running h) × Finds s₂ (order ++ served_by (running h))))

  -- every run has an order, empty at first, that only grows at its end and explains the run; runs begin, and never get stuck
  pub record Durable : Type 0 where
    pub order : {h : History} {s : Store X} → Run X h s → List Request
    pub first : {s : Store X} (f : Formatted X s) → order (formatted f) ≡ []
    pub grows : {h : History} {s s' : Store X} (run : Run X h s) (c : Call) (r : Reply) (d : Does X c s r s') →
        (new : List Request) × (order (after run c r d) ≡ order run ++ new)
    pub explains : {h : History} {s : Store X} (run : Run X h s) → Explains h s (order run)
    pub begins : (n : ℕ) (m : MemoryModel) → 1 ≤ n → n ≤ 8 → Formed m → lines_used n ≤ lines m → (s : Store X) × Formatted X s
    pub goes_on : {h : History} {s : Store X} (run : Run X h s) (c : Call) → (r : Reply) × (s' : Store X) × Does X c s r s'
