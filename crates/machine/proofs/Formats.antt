-- A format that is not refused leaves a freshly formatted store.
use Rattle.std.proofs.Common.{◌≡◌, ℕ, ◌/◌, ◌≤◌, Bool, true, false, cond, ◌&&◌, leb, List, [], ◌∷◌, ◌++◌, refl, ap, arith}
use Rattle.std.proofs.lemmas.Bool.{leb-true}
use Rattle.memory.specs.Model.{lines}
use Rattle.memory.specs.Post.{Formed}
use Rattle.memory.specs.Calls.{Call, syncs, each_word, each_line}
use Rattle.memory.specs.Conduct.{Conduct, Keeps, after_calls}
use Rattle.memory.proofs.Accepted.{Leads, leads_one, leads_words, leads_lines, leads_join, reach_size}
use Rattle.objects.specs.Model.{ObjectModel, Lawful}
use Rattle.machine.specs.declared.refusal.Refusal.{Refusal}
use Rattle.machine.specs.declared.refusal.Refusal.TheVariants.{NotDown, WorkerCount, TooFewLines}
use Rattle.machine.specs.Layout.{lines_used, format_words, format_calls}
use Rattle.machine.specs.Calls.{Machine, Done, begun, formatted}
use Rattle.machine.specs.Calls.{Reply.ok, Reply.refused}
use Rattle.machine.specs.Run.{Formatted}
use Rattle.machine.specs.Follows.{seen}
use Rattle.machine.proofs.Format.{length_format}

refused-ok : {k : Refusal} → refused k ≡ ok → ⊥
refused-ok e = grind arith

module _ (X : ObjectModel) (law : Lawful X) {C : Conduct} (keeps : Keeps C) where
  abbrev calls : ℕ → List Call
  calls n = format_calls X.kind (X.picture X.fresh) n

  -- the memory accepts every call of a format that it has room for
  accepted : (n : ℕ) (m : C.State) → Formed (C.model m) → lines_used n ≤ lines (C.model m) → Leads C (calls n) m
  unfolding format_calls
  accepted n m f room =
      let ws = format_words X.kind (X.picture X.fresh) n in
      let len = length_format X.kind (X.picture X.fresh) n (law.long X.fresh) in
      let whole = f.whole in
      let a = leads_words keeps ws 0 m (omega arith) in
      let j = after_calls C (each_word 0 ws) m in
      let e : lines (C.model j) ≡ lines (C.model m) = ap (λ (x : ℕ). x / 8) (reach_size a) in
      leads_join C (each_word 0 ws) (each_line 0 (lines_used n) ++ (syncs ∷ [])) m a
      (leads_join C (each_line 0 (lines_used n)) (syncs ∷ []) j (leads_lines keeps (lines_used n) 0 j (omega arith)) (leads_one keeps syncs _ refl))

  -- what a format answers and leaves, by the four questions
  abbrev answers : ℕ → Machine X C → Bool → Bool → Bool → Bool → Done X C
  answers n s up some most room = cond up (refused NotDown, s)
      (cond (some && most) (cond room (ok, begun X C (after_calls C (calls n) s.memory)) (refused TooFewLines, s)) (refused WorkerCount, s))

  pub formats : (n : ℕ) (s : Machine X C) → Formed (C.model s.memory) → (formatted X C n s).0 ≡ ok → Formatted X (seen X C (formatted X C n s).1)
  formats n s f e = go s.table.up (leb 1 n) refl (leb n 8) refl (leb (lines_used n) (lines (C.model s.memory))) refl e
    where
      go : (up some : Bool) → leb 1 n ≡ some → (most : Bool) → leb n 8 ≡ most → (room : Bool) → leb (lines_used n) (lines (C.model s.memory)) ≡ room →
          (answers n s up some most room).0 ≡ ok → Formatted X (seen X C (answers n s up some most room).1)
      go true some p most q room t e = absurd (refused-ok e)
      go false false p most q room t e = absurd (refused-ok e)
      go false true p false q room t e = absurd (refused-ok e)
      go false true p true q false t e = absurd (refused-ok e)
      go false true p true q true t e =
          let room : lines_used n ≤ lines (C.model s.memory) = leb-true (lines_used n) (lines (C.model s.memory)) t in
          record {
            n = n;
            some = leb-true 1 n p;
            most = leb-true n 8 q;
            before = C.model s.memory;
            formed = f;
            room = room;
            reached = accepted n s.memory f room;
            down = refl;
          }
