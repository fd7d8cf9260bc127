-- The holder's steps from Load to Sync, but Serve.
use Rattle.std.proofs.Common.{◌≡◌, ℕ, ◌+◌, ◌*◌, ◌<◌, ◌≤◌, Bool, true, false, cond, eqb, ltb, ◌⊎◌, List, [], ◌∷◌, ◌++◌, length, take, drop, Some, None, Option, refl, ap, ◌∙◌, subst, inl, inr, append-nil, arith, length-drop, length-take-le, take_all, take-take, take-add}
use lib.Seq.{take-append-le}
use Rattle.std.proofs.lemmas.Bool.{ltb-true, ltb-false, eq-eqb, cases_eq}
use Rattle.memory.specs.Model.{MemoryModel, line}
use Rattle.memory.specs.Calls.{fences, syncs, writes, asks}
use Rattle.memory.proofs.Lines.{over, over-line, over-other}
use Rattle.memory.proofs.Effects.{reach_nil, reach_one}
use Rattle.objects.specs.Model.{ObjectModel, Lawful}
use Rattle.machine.specs.declared.phase.Phase.{Phase}
use Rattle.machine.specs.declared.phase.Phase.TheVariants.{Load, Serve, Store, Ask, Fence, Flip, Mark, Sync, Leave}
use Rattle.machine.specs.declared.steps.StepAnswer.TheVariants.{LineLoaded, LineStored, LineAsked, RecordFenced, IndexFlipped, IndexAsked, IndexSynced}
use Rattle.machine.specs.declared.steps.StepAnswer.{StepAnswer}
use Rattle.machine.specs.Layout.{record_line, other, object_at}
use Rattle.machine.specs.Machine.{Place, Table, Step, place_of, load, made, store_line, goes, next_store, next_ask, words_from}
use Rattle.machine.specs.Machine.{Place.waiting}
use Rattle.machine.specs.Calls.{Call, Reply}
use Rattle.machine.specs.Calls.{Call.step, Reply.stepped}
use Rattle.machine.specs.Run.{History, Store as Depot, Stepped}
use Rattle.machine.specs.Order.{Request, of_worker, running, state_after, becomes}
use Rattle.machine.proofs.Words.{words-line}
use Rattle.machine.proofs.Stages.{Steady, Asking, SameRecord, InRecord, within, other-bit, room-words}
use Rattle.machine.proofs.Invariant.{passed_at, stored_at, flipped_at, MemoryAt, Matches, Told, Tells, Pictured, WordsAt, Inside, Held, Up}
use Rattle.machine.proofs.Moves.{Next, same-order}
use Rattle.machine.proofs.History.{told-idle}
use Rattle.machine.proofs.Advances.{steady-writes, steady_asking, asking_ask, asking_fence, fenced_flip, flipping-mark, marked_sync}
use Rattle.machine.proofs.Turn.{turned, up_turn, each_turn, over-same, flip-same, same_now, stepped_to, quiet_step}
use Rattle.machine.proofs.Serve.{in_worker, in_object}

module _ (X : ObjectModel) (law : Lawful X) where
  module _ (h : History) (s s' : Depot X) (ord : List Request) (told : Told X h ord) (u : Up X h s ord) (w : ℕ)
      (held : Held X s.table.workers s.table.settled h s.table s.memory ord w) (lock : s.table.lock ≡ Some w) where
    abbrev In : Phase → Type 0
    In p = Inside X s.table.workers s.table.settled h s.table s.memory ord p

    abbrev at : Phase → Place
    at p = waiting held.turn held.op held.arg p

    -- a step after the whole new record is written
    late : (c : StepAnswer) (p p' : Phase) (i : In p) (l : List ℕ) (x : X.State) → ((o : Option Request) → becomes c o ≡ None) → passed_at s.table.workers p ≡ s.table.workers → stored_at p ≡ 5 →
        passed_at s.table.workers p' ≡ s.table.workers → stored_at p' ≡ 5 →
        running ((step w, stepped c) ∷ h) ≡ Some (record { passed = passed_at s.table.workers p'; served = i.served; flipped = flipped_at p' }) →
        SameRecord s.table.workers s.table.settled s'.memory.current s.memory.current →
        SameRecord s.table.workers (other s.table.settled) s'.memory.current s.memory.current →
        WordsAt X p' (turned X s.table w (at p') l x) ord i.served →
        MemoryAt s.table.workers s.table.settled p' s'.memory →
        (r : Reply) → r ≡ stepped c → s'.table ≡ turned X s.table w (at p') l x → Next X ((step w, r) ∷ h) s' ord
    late c p p' i l x n13 a b a' b' run same same' words memory r re te =
        let n = s.table.workers in
        let o = other s.table.settled in
        stepped_to X h s s' ord w c r (turned X s.table w (at p') l x) re te (same-order X _ _ ord (record {
          told = told-idle X (step w, stepped c) h ord told refl refl (quiet_step w c h n13);
          store = inl (up_turn X (step w, stepped c) h s.table s.memory s'.memory ord u w held p' l x lock refl same (record {
            served = i.served;
            run = run;
            each = each_turn X h s.table s.memory ord i.served u w held p' i.each;
            rest = rw a' (rw a at i.rest);
            workers = rw a' (λ v b. rw (same'.lines_same (record_line n o + v) (in_worker n o v b)) ((rw a at i.workers) v b));
            object = rw b' (λ j c. same'.lines_same (record_line n o + n + j) (in_object n o j c) ∙ (rw b at i.object) j c);
            words = words;
            memory = memory;
          }));
        }))

    pub ask-step : (k : ℕ) → In (Ask k) → (r : Reply) →
        Stepped X s s' (goes X s.table s.memory.current w held.turn held.op held.arg LineAsked (next_ask s.table.workers k)
        (asks (record_line s.table.workers (other s.table.settled) + k) ∷ [])) r → Next X ((step w, r) ∷ h) s' ord
    ask-step k i r d =
        let n = s.table.workers in
        let z = asking_ask n s.table.settled k s.memory s'.memory i.memory.1 i.memory.0 (reach_one d.2) in
        go (ltb k (n + 4)) refl z.0 z.1 d
      where
        go : (b : Bool) → ltb k (s.table.workers + 4) ≡ b → Asking s.table.workers s.table.settled (k + 1) s'.memory → s'.memory.current ≡ s.memory.current →
            Stepped X s s' (goes X s.table s.memory.current w held.turn held.op held.arg LineAsked (cond b (Ask (k + 1)) Fence)
            (asks (record_line s.table.workers (other s.table.settled) + k) ∷ [])) r → Next X ((step w, r) ∷ h) s' ord
        go true e q now d = late LineAsked (Ask k) (Ask (k + 1)) i _ _ (λ o. refl) refl refl refl refl i.run (same_now _ _ _ _ now) (same_now _ _ _ _ now) tt
            (let c = ltb-true k (s.table.workers + 4) e in omega arith, q) r d.0 d.1
        go false e q now d =
            let c : k + 1 ≡ s.table.workers + 5 = let x = ltb-false k (s.table.workers + 4) e in let y = i.memory.0 in omega arith in
            late LineAsked (Ask k) Fence i _ _ (λ o. refl) refl refl refl refl i.run (same_now _ _ _ _ now) (same_now _ _ _ _ now) tt (rw c at q) r d.0 d.1

    pub fence-step : In Fence → (r : Reply) →
        Stepped X s s' (goes X s.table s.memory.current w held.turn held.op held.arg RecordFenced Flip (fences ∷ [])) r → Next X ((step w, r) ∷ h) s' ord
    fence-step i r d =
        let z = asking_fence s.table.workers s.table.settled s.memory s'.memory i.memory (reach_one d.2) in
        late RecordFenced Fence Flip i _ _ (λ o. refl) refl refl refl refl i.run (same_now _ _ _ _ z.1) (same_now _ _ _ _ z.1) tt z.0 r d.0 d.1

    pub flip-step : In Flip → (r : Reply) →
        Stepped X s s' (goes X s.table s.memory.current w held.turn held.op held.arg IndexFlipped Mark (writes 8 (other s.table.settled) ∷ [])) r → Next X ((step w, r) ∷ h) s' ord
    flip-step i r d =
        let n = s.table.workers in
        let o = other s.table.settled in
        let room = i.memory.holds.room in
        let big : 8 * (2 * n + 12) ≤ length s.memory.current = room-words room in
        let z = fenced_flip s.table.workers s.table.settled s.memory s'.memory i.memory (reach_one d.2) in
        late IndexFlipped Flip Mark i _ _ (λ o. refl) refl refl refl refl (rw i.run refl)
        (rw z.1 (flip-same n s.table.settled o s.memory.current)) (rw z.1 (flip-same n o o s.memory.current)) tt z.0 r d.0 d.1

    pub mark-step : In Mark → (r : Reply) →
        Stepped X s s' (goes X s.table s.memory.current w held.turn held.op held.arg IndexAsked Sync (asks 1 ∷ [])) r → Next X ((step w, r) ∷ h) s' ord
    mark-step i r d =
        let z = flipping-mark s.table.workers s.table.settled s.memory s'.memory i.memory (reach_one d.2) in
        late IndexAsked Mark Sync i _ _ (λ o. refl) refl refl refl refl i.run (same_now _ _ _ _ z.1) (same_now _ _ _ _ z.1) tt z.0 r d.0 d.1

    pub sync-step : In Sync → (r : Reply) →
        Stepped X s s' (goes X s.table s.memory.current w held.turn held.op held.arg IndexSynced Leave (syncs ∷ [])) r → Next X ((step w, r) ∷ h) s' ord
    sync-step i r d =
        let z = marked_sync s.table.workers s.table.settled s.memory s'.memory i.memory (reach_one d.2) in
        late IndexSynced Sync Leave i _ _ (λ o. refl) refl refl refl refl i.run (same_now _ _ _ _ z.1) (same_now _ _ _ _ z.1) tt z.0 r d.0 d.1

    -- Load: the settled record's object lines are read one after another
    abbrev heard : ℕ → List ℕ
    heard k = take (8 * k) s.table.loaded ++ words_from s.memory.current (object_at s.table.workers s.table.settled + 8 * k) 8

    -- the words loaded so far, and those of earlier rounds past them
    abbrev loaded : ℕ → List ℕ
    loaded k = heard k ++ drop (8 * k + 8) s.table.loaded

    heard_is : (k : ℕ) → In (Load k) → heard k ≡ take (8 * (k + 1)) (X.picture (state_after X ord))
    heard_is k i =
        let pic = X.picture (state_after X ord) in
        let e : 8 * (k + 1) ≡ 8 * k + 8 = omega arith in
        let f : take (8 * k + 8) pic ≡ take (8 * k) pic ++ line k pic = take-add (8 * k) 8 pic in
        let n = s.table.workers in
        let l : ℕ = record_line n s.table.settled + n + k in
        let a : object_at n s.table.settled + 8 * k ≡ 8 * l = omega arith in
        let g : words_from s.memory.current (object_at n s.table.settled + 8 * k) 8 ≡ line k pic =
        ap (λ (b : ℕ). words_from s.memory.current b 8) a ∙ words-line l s.memory.current
        (let b = room-words i.memory.1.holds.room in let c = within n s.table.settled l u.bit (in_object n s.table.settled k i.memory.0) in omega arith)
        ∙ u.shows.object k i.memory.0 in
        rw (e, f, i.words, g) refl

    loaded_is : (k : ℕ) → In (Load k) → take (8 * (k + 1)) (loaded k) ≡ take (8 * (k + 1)) (X.picture (state_after X ord))
    loaded_is k i =
        let pic = X.picture (state_after X ord) in
        let b : k < 5 = i.memory.0 in
        let e = heard_is k i in
        let len : length (heard k) ≡ 8 * (k + 1) = ap length e ∙ length-take-le (8 * (k + 1)) pic (rw (law.long (state_after X ord)) (omega arith)) in
        take-append-le (8 * (k + 1)) (heard k) (drop (8 * k + 8) s.table.loaded) (omega arith) ∙ ap (take (8 * (k + 1))) e ∙ take-take (8 * (k + 1)) (8 * (k + 1)) pic (omega arith)

    nobody : (qs : List Request) → ((v : ℕ) → of_worker v qs ≡ []) → qs ≡ []
    nobody [] k = refl
    nobody (q ∷ qs) k =
        let e : eqb q.worker q.worker ≡ true = eq-eqb q.worker q.worker refl in
        let f : q ∷ of_worker q.worker qs ≡ [] = rw e at (k q.worker) in
        absurd (grind arith)

    load-more : (k : ℕ) (i : In (Load k)) (r : Reply) → k < 4 → r ≡ stepped LineLoaded →
        s'.table ≡ turned X s.table w (at (Load (k + 1))) (loaded k) s.table.working → s'.memory ≡ s.memory → Next X ((step w, r) ∷ h) s' ord
    load-more k i r b re te me =
        stepped_to X h s s' ord w LineLoaded r (turned X s.table w (at (Load (k + 1))) (loaded k) s.table.working) re te (same-order X _ _ ord (record {
          told = told-idle X (step w, stepped LineLoaded) h ord told refl refl (quiet_step w LineLoaded h (λ o. refl));
          store = inl (up_turn X (step w, stepped LineLoaded) h s.table s.memory s'.memory ord u w held (Load (k + 1)) (loaded k) s.table.working lock refl
              (same_now _ _ _ _ (ap (λ (m : MemoryModel). m.current) me)) (record {
                served = i.served;
                run = i.run;
                each = each_turn X h s.table s.memory ord i.served u w held (Load (k + 1)) i.each;
                rest = i.rest;
                workers = λ v c. absurd (omega arith);
                object = λ j c. absurd (omega arith);
                words = loaded_is k i;
                memory = (omega arith, rw me i.memory.1);
              }));
        }))

    load-last : (k : ℕ) (i : In (Load k)) (r : Reply) → r ≡ stepped LineLoaded →
        s'.table ≡ turned X s.table w (at (Serve 0)) (loaded k) (state_after X ord) → s'.memory ≡ s.memory → Next X ((step w, r) ∷ h) s' ord
    load-last k i r re te me =
        let nil : i.served ≡ [] = nobody i.served (λ v. i.rest v (omega arith)) in
        stepped_to X h s s' ord w LineLoaded r (turned X s.table w (at (Serve 0)) (loaded k) (state_after X ord)) re te (same-order X _ _ ord (record {
          told = told-idle X (step w, stepped LineLoaded) h ord told refl refl (quiet_step w LineLoaded h (λ o. refl));
          store = inl (up_turn X (step w, stepped LineLoaded) h s.table s.memory s'.memory ord u w held (Serve 0) (loaded k) (state_after X ord) lock refl
              (same_now _ _ _ _ (ap (λ (m : MemoryModel). m.current) me)) (record {
                served = i.served;
                run = i.run;
                each = each_turn X h s.table s.memory ord i.served u w held (Serve 0) i.each;
                rest = i.rest;
                workers = λ v c. absurd (omega arith);
                object = λ j c. absurd (omega arith);
                words = rw (nil, append-nil ord) refl;
                memory = (u.some, rw me i.memory.1);
              }));
        }))

    pub load_step : (k : ℕ) → In (Load k) → (r : Reply) →
        Stepped X s s' (load X s.table s.memory.current w held.turn held.op held.arg k) r → Next X ((step w, r) ∷ h) s' ord
    load_step k i r d = go (ltb k 4) refl d
      where
        go : (b : Bool) → ltb k 4 ≡ b →
            Stepped X s s' (cond b (Step.stepped (record { answer = LineLoaded; after = turned X s.table w (at (Load (k + 1))) (loaded k) s.table.working; calls = [] }))
            (made X s.table s.memory.current w held.turn held.op held.arg (X.reads (heard k)) (loaded k))) r → Next X ((step w, r) ∷ h) s' ord
        go true e d = load-more k i r (ltb-true k 4 e) d.0 d.1 (reach_nil d.2)
        go false e d =
            let c : k + 1 ≡ 5 = let x = ltb-false k 4 e in let y = i.memory.0 in omega arith in
            let pic = X.picture (state_after X ord) in
            let f : heard k ≡ pic = heard_is k i ∙ rw c (take_all 40 pic (rw (law.long (state_after X ord)) (omega arith))) in
            let g : X.reads (heard k) ≡ Some (state_after X ord) = rw f (law.back (state_after X ord)) in
            let d' : Stepped X s s' (made X s.table s.memory.current w held.turn held.op held.arg (Some (state_after X ord)) (loaded k)) r =
            subst (λ (z : Option X.State). Stepped X s s' (made X s.table s.memory.current w held.turn held.op held.arg z (loaded k)) r) g d in
            load-last k i r d'.0 d'.1 (reach_nil d'.2)

    -- Store: a line of the picture is written into the new record
    inside_store : (e : Call × Reply) (t : Table X) (m : MemoryModel) (served : List Request) (k : ℕ) → k < 5 →
        running (e ∷ h) ≡ Some (record { passed = s.table.workers; served = served; flipped = false }) →
        ((v : ℕ) → Matches v ord (place_of X t v) (of_worker v served)) →
        ((v : ℕ) → s.table.workers ≤ v → of_worker v served ≡ []) →
        ((v : ℕ) → v < s.table.workers → Tells X (line (record_line s.table.workers (other s.table.settled) + v) m.current) v (ord ++ served)) →
        Pictured X s.table.workers (other s.table.settled) m.current (k + 1) (state_after X (ord ++ served)) →
        t.working ≡ state_after X (ord ++ served) → Steady s.table.workers s.table.settled m →
        (b : Bool) → ltb k 4 ≡ b → Inside X s.table.workers s.table.settled (e ∷ h) t m ord (cond b (Store (k + 1)) (Ask 0))
    inside_store e t m served k b run each rest workers object words steady true f = record {
      served = served;
      run = run;
      each = each;
      rest = rest;
      workers = workers;
      object = object;
      words = words;
      memory = (let c = ltb-true k 4 f in omega arith, steady);
    }
    inside_store e t m served k b run each rest workers object words steady false f = record {
      served = served;
      run = run;
      each = each;
      rest = rest;
      workers = workers;
      object = λ j c. object j (let d = ltb-false k 4 f in omega arith);
      words = tt;
      memory = (omega arith, steady_asking s.table.workers s.table.settled m steady);
    }

    pub store_step : (k : ℕ) → In (Store k) → (r : Reply) →
        Stepped X s s' (store_line X s.table s.memory.current w held.turn held.op held.arg k) r → Next X ((step w, r) ∷ h) s' ord
    store_step k i r d =
        let n = s.table.workers in
        let o = other s.table.settled in
        let x = s.table.working in
        let vs = line k (X.picture x) in
        let l = record_line n o + n + k in
        let b : k < 5 = i.memory.0 in
        let room = i.memory.1.holds.room in
        let len : length vs ≡ 8 = length-take-le 8 (drop (8 * k) (X.picture x)) (rw (length-drop (8 * k) (X.picture x), law.long x) (omega arith)) in
        let big : 8 * (2 * n + 12) ≤ length s.memory.current = room-words room in
        let at-l : object_at n o + 8 * k ≡ 8 * l = omega arith in
        let c = steady-writes n s.table.settled vs (8 * l) s.memory s'.memory i.memory.1 (omega arith) (rw len (omega arith)) (rw at-l at d.2) in
        let same : SameRecord n s.table.settled s'.memory.current s.memory.current = rw c.1 (over-same n s.table.settled l s.memory.current vs u.bit (in_object n o k b) len big) in
        stepped_to X h s s' ord w LineStored r _ d.0 d.1 (same-order X _ _ ord (record {
          told = told-idle X (step w, stepped LineStored) h ord told refl refl (quiet_step w LineStored h (λ o. refl));
          store = inl (up_turn X (step w, stepped LineStored) h s.table s.memory s'.memory ord u w held (next_store k) s.table.loaded x lock refl same
              (inside_store (step w, stepped LineStored) (turned X s.table w (at (next_store k)) s.table.loaded x) s'.memory i.served k b i.run
              (each_turn X h s.table s.memory ord i.served u w held (next_store k) i.each) i.rest
              (λ v z. workers' big len c.1 v z) (λ j z. object' big len c.1 j z (cases_eq j k)) i.words c.0 (ltb k 4) refl));
        }))
      where
        inb : (j : ℕ) → InRecord s.table.workers (other s.table.settled) j → 8 * (2 * s.table.workers + 12) ≤ length s.memory.current → 8 * j + 8 ≤ length s.memory.current
        inb j a big = let g = within s.table.workers (other s.table.settled) j (other-bit s.table.settled u.bit) a in omega arith

        workers' : 8 * (2 * s.table.workers + 12) ≤ length s.memory.current → length (line k (X.picture s.table.working)) ≡ 8 →
            s'.memory.current ≡ over s.memory.current (8 * (record_line s.table.workers (other s.table.settled) + s.table.workers + k)) (line k (X.picture s.table.working)) →
            (v : ℕ) → v < s.table.workers → Tells X (line (record_line s.table.workers (other s.table.settled) + v) s'.memory.current) v (ord ++ i.served)
        workers' big len now v z =
            let n = s.table.workers in
            let o = other s.table.settled in
            let f = over-other s.memory.current (record_line n o + n + k) (record_line n o + v) (line k (X.picture s.table.working)) len (λ q. omega arith) (inb (record_line n o + v) (in_worker n o v z) big) in
            rw (now, f) (i.workers v z)

        object' : 8 * (2 * s.table.workers + 12) ≤ length s.memory.current → length (line k (X.picture s.table.working)) ≡ 8 →
            s'.memory.current ≡ over s.memory.current (8 * (record_line s.table.workers (other s.table.settled) + s.table.workers + k)) (line k (X.picture s.table.working)) →
            (j : ℕ) → j < k + 1 → (j ≡ k) ⊎ (j ≡ k → ⊥) →
            line (record_line s.table.workers (other s.table.settled) + s.table.workers + j) s'.memory.current ≡ line j (X.picture (state_after X (ord ++ i.served)))
        object' big len now j z (inl q) =
            let n = s.table.workers in
            let o = other s.table.settled in
            let vs = line k (X.picture s.table.working) in
            let f : line (record_line n o + n + k) (over s.memory.current (8 * (record_line n o + n + k)) vs) ≡ vs = over-line s.memory.current (record_line n o + n + k) vs len (inb (record_line n o + n + k) (in_object n o k i.memory.0) big) in
            let g : vs ≡ line k (X.picture (state_after X (ord ++ i.served))) = ap (λ (y : X.State). line k (X.picture y)) i.words in
            rw (q, now, f) g
        object' big len now j z (inr ne) =
            let n = s.table.workers in
            let o = other s.table.settled in
            let c : j < k = omega arith in
            let b = i.memory.0 in
            let f = over-other s.memory.current (record_line n o + n + k) (record_line n o + n + j) (line k (X.picture s.table.working)) len (λ q. ne (omega arith)) (inb (record_line n o + n + j) (in_object n o j (omega arith)) big) in
            rw (now, f) (i.object j c)
