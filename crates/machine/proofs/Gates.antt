-- Steps outside a round: Gate, Watch, Look.
use Rattle.std.proofs.Common.{◌≡◌, ℕ, ◌+◌, ◌<◌, ◌≤◌, Bool, true, false, cond, eqb, ◌⊎◌, List, [], ◌∷◌, length, get_or, set, Some, None, Option, sym, refl, ap, ◌∙◌, subst, inl, inr, arith, length-set, get_or-set_other, get_or-set_same}
use Rattle.std.proofs.lemmas.Bool.{eqb-true, cases_eq}
use Rattle.std.proofs.lemmas.Option.{none-some}
use Rattle.memory.proofs.Lines.{line_word, line_first}
use Rattle.memory.proofs.Effects.{reach_nil}
use Rattle.objects.specs.Model.{ObjectModel}
use Rattle.machine.specs.declared.phase.Phase.{Phase}
use Rattle.machine.specs.declared.phase.Phase.TheVariants.{Gate, Watch, Look, Load}
use Rattle.machine.specs.declared.steps.StepAnswer.TheVariants.{TookLock, Watches, AnswerFound, GoesAgain}
use Rattle.machine.specs.declared.steps.StepAnswer.{StepAnswer}
use Rattle.machine.specs.Layout.{record_line}
use Rattle.machine.specs.Machine.{Place, Table, Step, place_of, with_place, turn_word, record_answer, goes, gate, look, with_lock}
use Rattle.machine.specs.Machine.{Place.free, Place.waiting, Place.answered}
use Rattle.machine.specs.Calls.{Reply}
use Rattle.machine.specs.Calls.{Call.step, Reply.stepped}
use Rattle.machine.specs.Run.{History, Store as Depot, Stepped}
use Rattle.machine.specs.Order.{Request, Explained, of_worker, last_for, running, answered_by, becomes}
use Rattle.machine.proofs.Invariant.{Stands, OutPhase, Matches, Told, PlaceOk, Idle, LockOk, Up}
use Rattle.machine.proofs.Moves.{Next, depot_path, same-order, up-place}
use Rattle.machine.proofs.History.{told-idle, told_event, last_of_for, explained_stands}
use Rattle.machine.proofs.Turn.{quiet_step, match_phase}

-- the pair that an option holds
stands_by : (w t v z : ℕ) (ord : List Request) (o : Option (ℕ × ℕ)) → o ≡ Some (w, t) → o ≡ Some (v, z) → Stands w t ord → Stands v z ord
stands_by w t v z ord o p q s =
    let e : ◌≡◌ {A = Option (ℕ × ℕ)} (Some (w, t)) (Some (v, z)) = sym p ∙ q in
    let a : w ≡ v = ap first e in
    let b : t ≡ z = ap second e in
    (s.0, s.1, s.2, s.3, (s.4.0 ∙ a, s.4.1 ∙ b))
  where
    first : Option (ℕ × ℕ) → ℕ
    first None = 0
    first (Some x) = x.0

    second : Option (ℕ × ℕ) → ℕ
    second None = 0
    second (Some x) = x.1

module _ (X : ObjectModel) where
  module _ (h : History) (s s' : Depot X) (ord : List Request) (told : Told X h ord) (u : Up X h s ord) (w : ℕ) (below : w < s.table.workers)
      (turn op arg : ℕ) where
    out_step : (c : StepAnswer) (p p' : Phase) → place_of X s.table w ≡ waiting turn op arg p → OutPhase p → OutPhase p' → ((o : Option Request) → becomes c o ≡ None) →
        running ((step w, stepped c) ∷ h) ≡ running h → (r : Reply) →
        Stepped X s s' (goes X s.table s.memory.current w turn op arg c p' []) r → Next X ((step w, r) ∷ h) s' ord
    out_step c p p' pl o o' n13 run r d =
        let me : s'.memory ≡ s.memory = reach_nil d.2 in
        let t' : Table X = with_place X s.table w (waiting turn op arg p') in
        let q : s' ≡ record { table = t'; memory = s.memory } = depot_path X s' t' s.memory d.1 me in
        let k : PlaceOk X w h ord (waiting turn op arg p) = rw pl at (u.places w below) in
        subst (λ (z : Depot X). Next X ((step w, r) ∷ h) z ord) (sym q) (rw d.0 (same-order X _ _ ord (record {
          told = told-idle X (step w, stepped c) h ord told refl refl (quiet_step w c h n13);
          store = inl (up-place X h ((step w, stepped c) ∷ h) s ord u w (waiting turn op arg p') below run (λ v ne. (refl, λ z. refl)) k
              (rw pl o) o' (λ qs x. match_phase w ord turn op arg p p' qs (rw pl at x)));
        })))

    pub watch_step : place_of X s.table w ≡ waiting turn op arg Watch → (r : Reply) →
        Stepped X s s' (goes X s.table s.memory.current w turn op arg Watches Watch []) r → Next X ((step w, r) ∷ h) s' ord
    watch_step pl r d = out_step Watches Watch Watch pl tt tt (λ o. refl) refl r d

    take-lock : place_of X s.table w ≡ waiting turn op arg Gate → Idle X s.table.workers s.table.settled h s.table s.memory → (r : Reply) →
        Stepped X s s' (gate X s.table s.memory.current w turn op arg None) r → Next X ((step w, r) ∷ h) s' ord
    take-lock pl idle r d =
        let me : s'.memory ≡ s.memory = reach_nil d.2 in
        let q : s' ≡ record { table = t'; memory = s.memory } = depot_path X s' t' s.memory d.1 me in
        let b8 : w < length s.table.places = rw u.eight (let c = u.most in omega arith) in
        let f : get_or (set s.table.places w new) w free ≡ new = get_or-set_same s.table.places w new free b8 in
        subst (λ (z : Depot X). Next X ((step w, r) ∷ h) z ord) (sym q) (rw d.0 (same-order X _ _ ord (record {
          told = told-idle X (step w, stepped TookLock) h ord told refl refl (quiet_step w TookLock h (λ o. refl));
          store = inl (record {
            some = u.some;
            most = u.most;
            bit = u.bit;
            is_up = u.is_up;
            eight = length-set s.table.places w new ∙ u.eight;
            places = λ v b. places f v b (cases_eq v w);
            head = u.head;
            shows = u.shows;
            lock = record {
              below = below;
              turn = turn;
              op = op;
              arg = arg;
              phase = Load 0;
              place = f;
              others = λ v b ne. rw (get_or-set_other s.table.places w v new free ne) (idle.all v b);
              inside = record {
                served = [];
                run = refl;
                each = λ v. inl refl;
                rest = λ v b. refl;
                workers = λ v b. absurd (omega arith);
                object = λ j b. absurd (omega arith);
                words = refl;
                memory = (omega arith, idle.steady);
              };
            };
          });
        })))
      where
        new : Place
        new = waiting turn op arg (Load 0)

        t' : Table X
        t' = with_lock X (with_place X s.table w new) (Some w)

        places : get_or (set s.table.places w new) w free ≡ new → (v : ℕ) → v < s.table.workers → (v ≡ w) ⊎ (v ≡ w → ⊥) →
            PlaceOk X v ((step w, stepped TookLock) ∷ h) ord (get_or (set s.table.places w new) v free)
        places f v b (inl e) =
            let k : PlaceOk X w h ord (waiting turn op arg Gate) = rw pl at (u.places w below) in
            rw (e, f) k
        places f v b (inr ne) = rw (get_or-set_other s.table.places w v new free ne) (u.places v b)

    pub gate_step : place_of X s.table w ≡ waiting turn op arg Gate → (r : Reply) →
        Stepped X s s' (gate X s.table s.memory.current w turn op arg s.table.lock) r → Next X ((step w, r) ∷ h) s' ord
    gate_step pl r d = go s.table.lock u.lock d
      where
        go : (l : Option ℕ) → LockOk X s.table.workers s.table.settled h s.table s.memory ord l →
            Stepped X s s' (gate X s.table s.memory.current w turn op arg l) r → Next X ((step w, r) ∷ h) s' ord
        go None k d = take-lock pl k r d
        go (Some v) k d = out_step Watches Gate Watch pl tt tt (λ o. refl) refl r d

    -- the worker's turn is the one recorded: its place takes the recorded answer
    found_turn : place_of X s.table w ≡ waiting turn op arg Look → turn_word X s.table s.memory.current w ≡ turn → (r : Reply) →
        Stepped X s s' (Step.stepped (record { answer = AnswerFound; after = with_place X s.table w (answered turn op arg (record_answer X s.table s.memory.current w)); calls = [] })) r →
        Next X ((step w, r) ∷ h) s' ord
    found_turn pl e r d =
        let me : s'.memory ≡ s.memory = reach_nil d.2 in
        let q : s' ≡ record { table = t'; memory = s.memory } = depot_path X s' t' s.memory d.1 me in
        let k : PlaceOk X w h ord (waiting turn op arg Look) = rw pl at (u.places w below) in
        let tells = u.shows.workers w below in
        let l : ℕ = record_line s.table.workers s.table.settled + w in
        let count : length (of_worker w ord) ≡ turn = sym (line_first l s.memory.current ∙ tells.count) ∙ e in
        let some : 1 ≤ length (of_worker w ord) = let c = k.3 in omega arith in
        let x : Explained X ord (record { worker = w; turn = turn; value = record_answer X s.table s.memory.current w }) =
        rw (line_word l 1 s.memory.current (omega arith), line_word l 2 s.memory.current (omega arith)) (rw count at (tells.last some)) in
        let f : last_for w turn h ≡ Some (record { worker = w; turn = turn; op = op; arg = arg }) = last_of_for w h (record { worker = w; turn = turn; op = op; arg = arg }) k.0 in
        let by : answered_by (step w, stepped AnswerFound) h ≡ Some (w, turn) = rw k.0 refl in
        subst (λ (z : Depot X). Next X ((step w, r) ∷ h) z ord) (sym q) (rw d.0 (same-order X _ _ ord (record {
          told = told_event X (step w, stepped AnswerFound) h ord told (λ v z p a b c. c) (λ g c. absurd (none-some _ c))
              (λ v z c. stands_by w turn v z ord _ by c (explained_stands X ord _ x));
          store = inl (up-place X h ((step w, stepped AnswerFound) ∷ h) s ord u w (answered turn op arg (record_answer X s.table s.memory.current w)) below refl (λ v ne. (refl, λ z. refl)) (f, x)
              (rw pl tt) tt (λ qs y. unserved count qs (rw pl at y)));
        })))
      where
        t' : Table X
        t' = with_place X s.table w (answered turn op arg (record_answer X s.table s.memory.current w))

        unserved : length (of_worker w ord) ≡ turn → (qs : List Request) → Matches w ord (waiting turn op arg Look) qs →
            Matches w ord (answered turn op arg (record_answer X s.table s.memory.current w)) qs
        unserved c qs (inl y) = inl y
        unserved c qs (inr (t₂, op₂, arg₂, p₂, pl, q, l)) = let g : turn ≡ t₂ = cc in absurd (omega arith)

    pub look-step : place_of X s.table w ≡ waiting turn op arg Look → (r : Reply) →
        Stepped X s s' (look X s.table s.memory.current w turn op arg) r → Next X ((step w, r) ∷ h) s' ord
    look-step pl r d = go (eqb (turn_word X s.table s.memory.current w) turn) refl d
      where
        go : (b : Bool) → eqb (turn_word X s.table s.memory.current w) turn ≡ b →
            Stepped X s s' (cond b (Step.stepped (record { answer = AnswerFound; after = with_place X s.table w (answered turn op arg (record_answer X s.table s.memory.current w)); calls = [] }))
            (goes X s.table s.memory.current w turn op arg GoesAgain Gate [])) r → Next X ((step w, r) ∷ h) s' ord
        go true e d = found_turn pl (eqb-true (turn_word X s.table s.memory.current w) turn e) r d
        go false e d = out_step GoesAgain Look Gate pl tt tt (λ o. refl) refl r d
