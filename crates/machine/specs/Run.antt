-- Rows of calls on one freshly formatted store, whatever arrivals its memory adds.
use Rattle.std.specs.Prelude.{◌≡◌, ℕ, ◌≤◌, Bool, true, false, List, [], ◌∷◌}
use Rattle.memory.specs.declared.refusal.Refusal.TheVariants.{Outside, NotAllowed}
use Rattle.memory.specs.Model.{MemoryModel, Adds, lines, allowed, arrival}
use Rattle.memory.specs.Post.{Formed, CutTo, inside_line}
use Rattle.memory.specs.Calls.{Reach}
use Rattle.objects.specs.Model.{ObjectModel}
use Rattle.machine.specs.declared.refusal.Refusal.TheVariants.{InMemory}
use Rattle.machine.specs.Layout.{lines_used, format_calls}
use Rattle.machine.specs.Machine.{Table, Step, step as step_of}
use Rattle.machine.specs.Calls.{Call, Reply, Outcome, announced, collected, resumed, started, down_table}
use Rattle.machine.specs.Calls.{Call.announce, Call.step, Call.collect, Call.note, Call.resume, Call.arrive, Call.cut, Call.start}
use Rattle.machine.specs.Calls.{Reply.stepped, Reply.slip, Reply.ok, Reply.refused}

-- the calls so far with their replies, the newest first
abbrev pub History : Type 0
History = List (Call × Reply)

module _ (X : ObjectModel) where
  -- a store at one moment
  pub record Store : Type 0 where
    pub table : Table X
    pub memory : MemoryModel

  -- a call that leaves the memory
  abbrev pub Quiet : Store → Store → Outcome X → Reply → Type 0
  Quiet s s' o r = (r ≡ o.0) × (s'.table ≡ o.1) × (s'.memory ≡ s.memory)

  -- a step makes its calls one after another
  abbrev pub Stepped : Store → Store → Step X → Reply → Type 0
  Stepped s s' (Step.stepped p) r = (r ≡ stepped p.answer) × (s'.table ≡ p.after) × Reach p.calls s.memory s'.memory
  Stepped s s' (Step.no k) r = (r ≡ refused k) × (s' ≡ s)

  -- a line arrives at the caller's word: is it inside, is it allowed
  abbrev pub Arrived : Store → Store → ℕ → Bool → Bool → Reply → Type 0
  Arrived s s' l false _ r = (r ≡ refused (InMemory Outside)) × (s' ≡ s)
  Arrived s s' l true false r = (r ≡ refused (InMemory NotAllowed)) × (s' ≡ s)
  Arrived s s' l true true r = (r ≡ ok) × (s'.table ≡ s.table) × Adds (arrival l s.memory) s'.memory

  -- from one store a call may give this reply and leave that store
  abbrev pub Does : Call → Store → Reply → Store → Type 0
  Does (announce w op arg) s r s' = Quiet s s' (announced X s.table s.memory.current w op arg) r
  Does (step w) s r s' = Stepped s s' (step_of X s.table s.memory.current w) r
  Does (collect w turn op arg) s r s' = Quiet s s' (collected X s.table s.memory.current w turn op arg) r
  Does (note w turn op arg) s r s' = (r ≡ slip) × (s' ≡ s)
  Does (resume w turn op arg) s r s' = Quiet s s' (resumed X s.table s.memory.current w turn op arg) r
  Does (arrive l) s r s' = Arrived s s' l (inside_line l s.memory) (allowed l s.memory) r
  Does cut s r s' = (r ≡ ok) × (s'.table ≡ down_table X) × CutTo s.memory s'.memory
  Does start s r s' = Quiet s s' (started X s.table s.memory) r

  -- a memory was formatted for n workers, and the store is down
  pub record Formatted (s : Store) : Type 0 where
    pub n : ℕ
    pub some : 1 ≤ n
    pub most : n ≤ 8
    pub before : MemoryModel
    pub formed : Formed before
    pub room : lines_used n ≤ lines before
    pub reached : Reach (format_calls X.kind (X.picture X.fresh) n) before s.memory
    pub down : s.table ≡ down_table X

  -- the stores that a row of calls on a freshly formatted one may lead to
  pub data Run : History → Store → Type 0 where
    formatted : {s : Store} → Formatted s → Run [] s
    after : {h : History} {s s' : Store} → Run h s → (c : Call) (r : Reply) → Does c s r s' → Run ((c, r) ∷ h) s'
