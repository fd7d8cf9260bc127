-- Serve: a worker's line of the new record is written, served or copied.
use Rattle.std.proofs.Common.{◌≡◌, ℕ, ◌+◌, ◌*◌, ◌<◌, ◌≤◌, Bool, true, false, cond, eqb, ltb, ◌≢◌, ◌⊎◌, List, [], ◌∷◌, ◌++◌, length, Some, None, sym, refl, ap, ◌∙◌, subst, inl, inr, append_assoc, append-nil, arith, length-append}
use Rattle.std.proofs.lemmas.Bool.{ltb-true, ltb-false, eqb-false, eq-eqb, ne_eqb, cases_eq}
use Rattle.memory.specs.Model.{MemoryModel, line}
use Rattle.memory.specs.Calls.{Reach, each_word}
use Rattle.memory.proofs.Lines.{over, over-line, over-other, line_first}
use Rattle.objects.specs.Answers.{answer_code, answer_value}
use Rattle.objects.specs.Model.{ObjectModel}
use Rattle.machine.specs.declared.phase.Phase.{Phase}
use Rattle.machine.specs.declared.phase.Phase.TheVariants.{Serve, Store}
use Rattle.machine.specs.declared.steps.StepAnswer.TheVariants.{Served, LineKept}
use Rattle.machine.specs.Layout.{record_line, other, worker_at}
use Rattle.machine.specs.Machine.{Place, Table, place_of, turn_word, serve_with, wants, next_serve, words_from, answer_words}
use Rattle.machine.specs.Machine.{Place.free, Place.waiting, Place.answered}
use Rattle.machine.specs.Calls.{Call, Reply}
use Rattle.machine.specs.Calls.{Call.step, Reply.stepped}
use Rattle.machine.specs.Run.{History, Store as Depot, Stepped}
use Rattle.machine.specs.Order.{Request, of_worker, running, accepted, state_after, run_from}
use Rattle.machine.proofs.Words.{length-words, words-line}
use Rattle.machine.proofs.Stages.{Steady, SameRecord, InRecord, within, room-words, other-bit}
use Rattle.machine.proofs.Invariant.{Matches, Told, Tells, PlaceOk, Inside, Held, Up}
use Rattle.machine.proofs.Moves.{Next, same-order}
use Rattle.machine.proofs.History.{told-idle, of_worker-append, explained_append}
use Rattle.machine.proofs.Advances.{steady-writes}
use Rattle.machine.proofs.Turn.{turned, up_turn, each_turn, over-same, stepped_to, quiet_step}

-- records of this round stand among the lines of the module
pub in_worker : (n r k : ℕ) → k < n → InRecord n r (record_line n r + k)
in_worker n r k b = record { from = omega arith; below = omega arith }

pub in_object : (n r j : ℕ) → j < 5 → InRecord n r (record_line n r + n + j)
in_object n r j b = record { from = omega arith; below = omega arith }

module _ (X : ObjectModel) where
  pub run-append : (x : X.State) (a b : List Request) → run_from X x (a ++ b) ≡ run_from X (run_from X x a) b
  run-append x [] b = refl
  run-append x (q ∷ a) b = run-append (X.next x q.op q.arg) a b

  pub tells_append : (ws : List ℕ) (w : ℕ) (ord new : List Request) → of_worker w new ≡ [] → Tells X ws w ord → Tells X ws w (ord ++ new)
  tells_append ws w ord new z k =
      let e : of_worker w (ord ++ new) ≡ of_worker w ord = of_worker-append w ord new ∙ ap (λ (r : List Request). of_worker w ord ++ r) z ∙ append-nil (of_worker w ord) in
      record { count = rw e k.count; last = rw e (λ b. explained_append X ord new _ (k.last b)) }

  pub inside_serve : (n s : ℕ) (h : History) (t : Table X) (m : MemoryModel) (ord served : List Request) (k : ℕ) → k < n →
      running h ≡ Some (record { passed = k + 1; served = served; flipped = false }) →
      ((w : ℕ) → Matches w ord (place_of X t w) (of_worker w served)) →
      ((w : ℕ) → k + 1 ≤ w → of_worker w served ≡ []) →
      ((w : ℕ) → w < k + 1 → Tells X (line (record_line n (other s) + w) m.current) w (ord ++ served)) →
      t.working ≡ state_after X (ord ++ served) → Steady n s m →
      (b : Bool) → ltb (k + 1) n ≡ b → Inside X n s h t m ord (cond b (Serve (k + 1)) (Store 0))
  inside_serve n s h t m ord served k b run each rest workers words steady true e = record {
    served = served;
    run = run;
    each = each;
    rest = rest;
    workers = workers;
    object = λ j c. absurd (omega arith);
    words = words;
    memory = (ltb-true (k + 1) n e, steady);
  }
  inside_serve n s h t m ord served k b run each rest workers words steady false e =
      let z : k + 1 ≡ n = let c = ltb-false (k + 1) n e in omega arith in
      record {
        served = served;
        run = subst (λ (j : ℕ). running h ≡ Some (record { passed = j; served = served; flipped = false })) z run;
        each = each;
        rest = λ w c. rest w (omega arith);
        workers = λ w c. workers w (omega arith);
        object = λ j c. absurd (omega arith);
        words = words;
        memory = (omega arith, steady);
      }

  -- one worker passed, with the words of its new line and what they serve
  serve_up : (e : Call × Reply) (h : History) (t : Table X) (m m' : MemoryModel) (ord : List Request) (u : Up X h (record { table = t; memory = m }) ord) (w : ℕ)
      (held : Held X t.workers t.settled h t m ord w) → t.lock ≡ Some w → accepted e ≡ None →
      (k : ℕ) (i : Inside X t.workers t.settled h t m ord (Serve k)) (vs : List ℕ) (new : List Request) (x : X.State) → length vs ≡ 8 →
      running (e ∷ h) ≡ Some (record { passed = k + 1; served = i.served ++ new; flipped = false }) →
      ((v : ℕ) → v ≢ k → of_worker v new ≡ []) →
      ((v : ℕ) → Matches v ord (place_of X t v) (of_worker v (i.served ++ new))) →
      Tells X vs k (ord ++ (i.served ++ new)) →
      x ≡ state_after X (ord ++ (i.served ++ new)) →
      Reach (each_word (worker_at t.workers (other t.settled) k) vs) m m' →
      Up X (e ∷ h) (record { table = turned X t w (waiting held.turn held.op held.arg (next_serve t.workers k)) t.loaded x; memory = m' }) ord
  serve_up e h t m m' ord u w held lock a k i vs new x len run none each tells working reach =
      let n = t.workers in
      let s = t.settled in
      let room = i.memory.1.holds.room in
      let big : 8 * (2 * n + 12) ≤ length m.current = room-words room in
      let b : k < n = i.memory.0 in
      let l : ℕ = record_line n (other s) + k in
      let c = steady-writes n s vs (8 * l) m m' i.memory.1 (omega arith) (rw len (omega arith)) reach in
      let same : SameRecord n s m'.current m.current = rw c.1 (over-same n s l m.current vs u.bit (in_worker n (other s) k b) len big) in
      up_turn X e h t m m' ord u w held (next_serve t.workers k) t.loaded x lock a same
      (inside_serve n s (e ∷ h) (turned X t w (waiting held.turn held.op held.arg (next_serve t.workers k)) t.loaded x) m' ord (i.served ++ new) k b
      run (each_turn X h t m ord (i.served ++ new) u w held (next_serve t.workers k) each) rest'
      (λ v d. workers' big c.1 v d (cases_eq v k)) working c.0 (ltb (k + 1) n) refl)
    where
      rest' : (v : ℕ) → k + 1 ≤ v → of_worker v (i.served ++ new) ≡ []
      rest' v d = of_worker-append v i.served new ∙ ap {B = List Request} (λ (r : List Request). r ++ of_worker v new) (i.rest v (omega arith)) ∙ none v (λ q. omega arith)

      workers' : 8 * (2 * t.workers + 12) ≤ length m.current → m'.current ≡ over m.current (8 * (record_line t.workers (other t.settled) + k)) vs →
          (v : ℕ) → v < k + 1 → (v ≡ k) ⊎ (v ≡ k → ⊥) →
          Tells X (line (record_line t.workers (other t.settled) + v) m'.current) v (ord ++ (i.served ++ new))
      workers' big now v d (inl q) =
          let n = t.workers in
          let r = other t.settled in
          let f : line (record_line n r + k) (over m.current (8 * (record_line n r + k)) vs) ≡ vs =
          over-line m.current (record_line n r + k) vs len (let g = within n r (record_line n r + k) (other-bit t.settled u.bit) (in_worker n r k i.memory.0) in omega arith) in
          rw (q, now, f) tells
      workers' big now v d (inr ne) =
          let n = t.workers in
          let r = other t.settled in
          let b : v < k = omega arith in
          let c : v < n = let z = i.memory.0 in omega arith in
          let f : line (record_line n r + v) (over m.current (8 * (record_line n r + k)) vs) ≡ line (record_line n r + v) m.current =
          over-other m.current (record_line n r + k) (record_line n r + v) vs len (λ z. ne (omega arith))
          (let g = within n r (record_line n r + v) (other-bit t.settled u.bit) (in_worker n r v c) in omega arith) in
          rw (now, f) (rw append_assoc at (tells_append (line (record_line n r + v) m.current) v (ord ++ i.served) new (none v ne) (i.workers v b)))

  -- not served: the line is copied
  serve_none : (h : History) (s s' : Depot X) (ord : List Request) → Told X h ord → (u : Up X h s ord) (w : ℕ)
      (held : Held X s.table.workers s.table.settled h s.table s.memory ord w) → s.table.lock ≡ Some w →
      (k : ℕ) (i : Inside X s.table.workers s.table.settled h s.table s.memory ord (Serve k)) (r : Reply) →
      Stepped X s s' (serve_with X s.table s.memory.current w held.turn held.op held.arg k None) r → Next X ((step w, r) ∷ h) s' ord
  serve_none h s s' ord told u w held lock k i r d =
      let t = s.table in
      let n = t.workers in
      let room = i.memory.1.holds.room in
      let l : ℕ = record_line n t.settled + k in
      let vs : List ℕ = words_from s.memory.current (8 * l) 8 in
      let kept : vs ≡ line l s.memory.current = words-line l s.memory.current
      (let f = room-words room in let g = within n t.settled l u.bit (in_worker n t.settled k i.memory.0) in omega arith) in
      let tells : Tells X vs k ord = subst (λ (ws : List ℕ). Tells X ws k ord) (sym kept) (u.shows.workers k i.memory.0) in
      let nil : of_worker k (i.served ++ []) ≡ [] = rw (append-nil i.served) (i.rest k (omega arith)) in
      stepped_to X h s s' ord w LineKept r _ d.0 d.1 (same-order X _ _ ord (record {
        told = told-idle X (step w, stepped LineKept) h ord told refl refl (quiet_step w LineKept h (λ o. refl));
        store = inl (serve_up (step w, stepped LineKept) h t s.memory s'.memory ord u w held lock refl k i
            vs [] t.working (length-words 8 (8 * l) s.memory.current) (rw i.run refl) (λ v ne. refl) (rw (append-nil i.served) i.each)
            (tells_append vs k ord (i.served ++ []) nil tells)
            (rw (append-nil i.served) i.words) d.2);
      }))

  -- served: the request is the worker's last accepted one, and its answer goes into the line
  serve_some : (h : History) (s s' : Depot X) (ord : List Request) → Told X h ord → (u : Up X h s ord) (w : ℕ)
      (held : Held X s.table.workers s.table.settled h s.table s.memory ord w) → s.table.lock ≡ Some w →
      (k : ℕ) (i : Inside X s.table.workers s.table.settled h s.table s.memory ord (Serve k)) (r : Reply) →
      (v o a : ℕ) (p : Phase) → place_of X s.table k ≡ waiting v o a p → (v ≡ turn_word X s.table s.memory.current k → ⊥) →
      Stepped X s s' (serve_with X s.table s.memory.current w held.turn held.op held.arg k (Some (v, o, a))) r → Next X ((step w, r) ∷ h) s' ord
  serve_some h s s' ord told u w held lock k i r v o a p pl ne d =
      let t = s.table in
      let n = t.workers in
      let rest : List ℕ = words_from s.memory.current (worker_at n t.settled k + 3) 5 in
      let nil : of_worker k i.served ≡ [] = i.rest k (omega arith) in
      let q : Request = record { worker = k; turn = v; op = o; arg = a } in
      let ok-k : PlaceOk X k h ord (waiting v o a p) = rw pl at (u.places k i.memory.0) in
      let word : turn_word X t s.memory.current k ≡ length (of_worker k ord) = line_first (record_line n t.settled + k) s.memory.current ∙ (u.shows.workers k i.memory.0).count in
      let turn : v ≡ length (of_worker k ord) + 1 = let lo = ok-k.1 in let hi = ok-k.2 in let x : v ≢ length (of_worker k ord) = λ z. ne (z ∙ sym word) in omega arith in
      let mine : of_worker k (q ∷ []) ≡ q ∷ [] = let e : eqb k k ≡ true = eq-eqb k k refl in rw e refl in
      let all : of_worker k (i.served ++ q ∷ []) ≡ q ∷ [] = of_worker-append k i.served (q ∷ []) ∙ rw (nil, mine) refl in
      let run : running ((step w, stepped Served) ∷ h) ≡ Some (record { passed = k + 1; served = i.served ++ q ∷ []; flipped = false }) = rw (i.run, ok-k.0) refl in
      let none : (x : ℕ) → x ≢ k → of_worker x (q ∷ []) ≡ [] = λ x nx. let e : eqb k x ≡ false = ne_eqb k x (λ z. nx (sym z)) in rw e refl in
      let given = X.answer t.working o a in
      let whole : of_worker k (ord ++ (i.served ++ q ∷ [])) ≡ of_worker k ord ++ q ∷ [] = of_worker-append k ord (i.served ++ q ∷ []) ∙ ap (λ (z : List Request). of_worker k ord ++ z) all in
      let count : v ≡ length (of_worker k (ord ++ (i.served ++ q ∷ []))) = rw (whole, length-append (of_worker k ord) (q ∷ [])) turn in
      let tells : Tells X (v ∷ answer_code given ∷ answer_value given ∷ rest) k (ord ++ (i.served ++ q ∷ [])) = record {
        count = count;
        last = λ b. (ord ++ i.served, q, [], sym (append_assoc ord i.served (q ∷ [])), (refl, count), ap (λ (z : X.State). answer_words (X.answer z o a)) (sym i.words));
      } in
      stepped_to X h s s' ord w Served r _ d.0 d.1 (same-order X _ _ ord (record {
        told = told-idle X (step w, stepped Served) h ord told refl refl (quiet_step w Served h (λ o. refl));
        store = inl (serve_up (step w, stepped Served) h t s.memory s'.memory ord u w held lock refl k i
            (v ∷ answer_code given ∷ answer_value given ∷ rest) (q ∷ []) (X.next t.working o a)
            (let f : length rest ≡ 5 = length-words 5 (worker_at n t.settled k + 3) s.memory.current in omega arith) run none
            (λ x. each all turn x (none x) (cases_eq x k))
            tells
            (rw (← (append_assoc ord i.served (q ∷ [])), run-append X.fresh (ord ++ i.served) (q ∷ []), i.words) refl) d.2);
      }))
    where
      each : of_worker k (i.served ++ record { worker = k; turn = v; op = o; arg = a } ∷ []) ≡ record { worker = k; turn = v; op = o; arg = a } ∷ [] →
          v ≡ length (of_worker k ord) + 1 → (x : ℕ) → (x ≢ k → of_worker x (record { worker = k; turn = v; op = o; arg = a } ∷ []) ≡ []) → (x ≡ k) ⊎ (x ≡ k → ⊥) →
          Matches x ord (place_of X s.table x) (of_worker x (i.served ++ record { worker = k; turn = v; op = o; arg = a } ∷ []))
      each all turn x none (inl e) = rw e (inr (v, o, a, p, pl, all, turn))
      each all turn x none (inr nx) =
          let q : Request = record { worker = k; turn = v; op = o; arg = a } in
          let f : of_worker x (i.served ++ q ∷ []) ≡ of_worker x i.served =
          of_worker-append x i.served (q ∷ []) ∙ ap (λ (z : List Request). of_worker x i.served ++ z) (none nx) ∙ append-nil (of_worker x i.served) in
          rw f (i.each x)

  pub serve_step : (h : History) (s s' : Depot X) (ord : List Request) → Told X h ord → (u : Up X h s ord) (w : ℕ)
      (held : Held X s.table.workers s.table.settled h s.table s.memory ord w) → s.table.lock ≡ Some w →
      (k : ℕ) (i : Inside X s.table.workers s.table.settled h s.table s.memory ord (Serve k)) (r : Reply) →
      Stepped X s s' (serve_with X s.table s.memory.current w held.turn held.op held.arg k
      (wants (place_of X s.table k) (turn_word X s.table s.memory.current k))) r → Next X ((step w, r) ∷ h) s' ord
  serve_step h s s' ord told u w held lock k i r d = go (place_of X s.table k) refl d
    where
      some : (v o a : ℕ) (p : Phase) → place_of X s.table k ≡ waiting v o a p → (b : Bool) → eqb v (turn_word X s.table s.memory.current k) ≡ b →
          Stepped X s s' (serve_with X s.table s.memory.current w held.turn held.op held.arg k (cond b None (Some (v, o, a)))) r → Next X ((step w, r) ∷ h) s' ord
      some v o a p e true f x = serve_none h s s' ord told u w held lock k i r x
      some v o a p e false f x = serve_some h s s' ord told u w held lock k i r v o a p e (eqb-false v (turn_word X s.table s.memory.current k) f) x

      go : (pl : Place) → place_of X s.table k ≡ pl →
          Stepped X s s' (serve_with X s.table s.memory.current w held.turn held.op held.arg k (wants pl (turn_word X s.table s.memory.current k))) r →
          Next X ((step w, r) ∷ h) s' ord
      go free e x = serve_none h s s' ord told u w held lock k i r x
      go (answered v o a z) e x = serve_none h s s' ord told u w held lock k i r x
      go (waiting v o a p) e x = some v o a p e (eqb v (turn_word X s.table s.memory.current k)) refl x
