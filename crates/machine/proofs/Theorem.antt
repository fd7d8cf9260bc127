-- The promises, from the invariant: one order explains every run, and a store over any memory that keeps its own makes such runs.
use Rattle.std.proofs.Common.{◌≡◌, ℕ, ◌≤◌, true, leb, List, [], ◌∷◌, ◌++◌, refl}
use Rattle.std.proofs.lemmas.Bool.{le-leb}
use Rattle.memory.specs.Model.{MemoryModel, lines}
use Rattle.memory.specs.Post.{Formed}
use Rattle.memory.specs.Conduct.{Conduct, Keeps}
use Rattle.memory.specs.Kinds.{lazy}
use Rattle.memory.proofs.Promises.{lazy_keeps}
use Rattle.objects.specs.Model.{ObjectModel, Lawful}
use Rattle.machine.specs.Layout.{lines_used}
use Rattle.machine.specs.Calls.{Call, Reply, Machine, does, formatted as format, down_table}
use Rattle.machine.specs.Calls.{Call.announce, Call.step, Call.collect, Call.note, Call.resume, Call.arrive, Call.cut, Call.start}
use Rattle.machine.specs.Run.{History, Store as Depot, Does, Formatted, Run}
use Rattle.machine.specs.Run.{Run.formatted, Run.after}
use Rattle.machine.specs.Order.{Request, Explains, Durable}
use Rattle.machine.specs.Follows.{seen, Follows}
use Rattle.machine.proofs.Invariant.{Inv}
use Rattle.machine.proofs.Moves.{Next}
use Rattle.machine.proofs.Places.{keeps_announce, keeps_collect, keeps_note, keeps_resume}
use Rattle.machine.proofs.StepByPhase.{keeps_step}
use Rattle.machine.proofs.Cuts.{keeps_cut}
use Rattle.machine.proofs.Arrives.{keeps_arrive}
use Rattle.machine.proofs.Starts.{keeps_start, found_after, up_finds}
use Rattle.machine.proofs.Begins.{begins}
use Rattle.machine.proofs.GoesOn.{moves}
use Rattle.machine.proofs.Formats.{formats}

module _ (X : ObjectModel) (law : Lawful X) where
  keeps : (h : History) (s s' : Depot X) (ord : List Request) → Inv X h s ord → (c : Call) (r : Reply) →
      Does X c s r s' → Next X ((c, r) ∷ h) s' ord
  keeps h s s' ord i (announce w op arg) r d = keeps_announce X h s s' ord i w op arg r d
  keeps h s s' ord i (step w) r d = keeps_step X law h s s' ord i w r d
  keeps h s s' ord i (collect w t op arg) r d = keeps_collect X h s s' ord i w t op arg r d
  keeps h s s' ord i (note w t op arg) r d = keeps_note X h s s' ord i w t op arg r d
  keeps h s s' ord i (resume w t op arg) r d = keeps_resume X h s s' ord i w t op arg r d
  keeps h s s' ord i (arrive l) r d = keeps_arrive X h s s' ord i l r d
  keeps h s s' ord i cut r d = keeps_cut X h s s' ord i r d
  keeps h s s' ord i start r d = keeps_start X law h s s' ord i r d

  grown : {h : History} {s s' : Depot X} → (c : Call) (r : Reply) → Does X c s r s' → (o : List Request) × Inv X h s o → (o : List Request) × Inv X ((c, r) ∷ h) s' o
  grown {h} {s} {s'} c r d p = (p.0 ++ (keeps h s s' p.0 p.1 c r d).0, (keeps h s s' p.0 p.1 c r d).1)

  ordered : {h : History} {s : Depot X} → Run X h s → (o : List Request) × Inv X h s o
  ordered (formatted {s} f) = ([], begins X law s f)
  ordered (after run c r d) = grown c r d (ordered run)

  explains : {h : History} {s : Depot X} (o : List Request) → Inv X h s o → Explains X h s o
  explains {h} {s} o i = record {
    turns = i.told.turns;
    answers = i.told.answers;
    ahead = i.told.ahead;
    shows = up_finds X law h s o i;
    survives = found_after X law h s o i;
  }

  pub follows : {C : Conduct} → Keeps C → Follows X C
  follows k = record {
    begins = formats X law k;
    goes_on = λ {h} s run c. moves X k h s (ordered run).0 (ordered run).1 c;
  }

  -- a memory that adds no arrival is formatted
  begun_lazily : (n : ℕ) (m : MemoryModel) → 1 ≤ n → n ≤ 8 → Formed m → lines_used n ≤ lines m → (s : Depot X) × Formatted X s
  begun_lazily n m some most f room =
      let s : Machine X lazy = record { table = down_table X; memory = m } in
      let a : leb 1 n ≡ true = le-leb 1 n some in
      let b : leb n 8 ≡ true = le-leb n 8 most in
      let c : leb (lines_used n) (lines m) ≡ true = le-leb (lines_used n) (lines m) room in
      (seen X lazy (format X lazy n s).1, (follows lazy_keeps).begins n s f (rw (a, b, c) refl))

  -- and makes every call
  goes_lazily : {h : History} {s : Depot X} → Run X h s → (c : Call) → (r : Reply) × (s' : Depot X) × Does X c s r s'
  goes_lazily {s = s} run c =
      let t : Machine X lazy = record { table = s.table; memory = s.memory } in
      ((does X lazy c t).0, seen X lazy (does X lazy c t).1, (follows lazy_keeps).goes_on t run c)

  pub durable : Durable X
  unfolding ordered grown
  durable = record {
    order = λ run. (ordered run).0;
    first = λ f. refl;
    grows = λ {h} {s} {s'} run c r d. ((keeps h s s' (ordered run).0 (ordered run).1 c r d).0, refl);
    explains = λ run. explains (ordered run).0 (ordered run).1;
    begins = begun_lazily;
    goes_on = goes_lazily;
  }
