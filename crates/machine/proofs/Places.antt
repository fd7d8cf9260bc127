-- announce, collect, resume, note: calls that touch one place at most.
use Rattle.std.proofs.Common.{◌≡◌, ℕ, ◌+◌, ◌-◌, ◌^◌, ◌<◌, ◌≤◌, Bool, true, false, cond, ◌&&◌, eqb, ltb, leb, ◌≢◌, ◌⊎◌, List, ◌∷◌, length, Some, None, Option, sym, refl, ◌∙◌, subst, inl, inr, arith}
use Rattle.std.proofs.lemmas.Bool.{ltb-true, leb-true, eqb-true, eq-eqb, ne_eqb, cases_eq}
use Rattle.std.proofs.lemmas.Option.{none-some}
use Rattle.memory.proofs.Lines.{line_word, line_first}
use Rattle.objects.specs.Model.{ObjectModel}
use Rattle.machine.specs.declared.answer.Answer.{Answer}
use Rattle.machine.specs.declared.phase.Phase.{Phase}
use Rattle.machine.specs.declared.phase.Phase.TheVariants.{Gate}
use Rattle.machine.specs.declared.refusal.Refusal.{Refusal}
use Rattle.machine.specs.declared.refusal.Refusal.TheVariants.{NotUp, NoWorker, PlaceTaken, TurnsUsedUp, OtherTurn, NotAnswered, TurnOutOfRange, OtherRequest, PlaceNotFree, TurnNotNext}
use Rattle.machine.specs.Layout.{record_line}
use Rattle.machine.specs.Machine.{Place, Table, place_of, with_place, turn_word, record_answer}
use Rattle.machine.specs.Machine.{Place.free, Place.waiting, Place.answered}
use Rattle.machine.specs.Calls.{Call, Reply, Outcome, as_up, announce_at, collect_at, resume_at}
use Rattle.machine.specs.Calls.{Call.announce, Call.collect, Call.note, Call.resume, Reply.ticket, Reply.answer, Reply.refused}
use Rattle.machine.specs.Run.{History, Store as Depot, Does, Quiet}
use Rattle.machine.specs.Order.{Request, Given, Explained, of_worker, last_of, last_for, running, answered_by, gave, accepted, or_else, for_worker, for_turn}
use Rattle.machine.proofs.Invariant.{Matches, Told, PlaceOk, Up, Down, Inv}
use Rattle.machine.proofs.Moves.{Next, depot_path, same-order, up-place, up-history, place-history, store-idle, inv_idle}
use Rattle.machine.proofs.History.{told_event, last_of_for}

-- a request accepted: it is its worker's last, and the last for its turn
of_mine : (q : Request) (o a : Option Request) → o ≡ Some q → or_else (for_worker q.worker o) a ≡ Some q
of_mine q o a e = let f : eqb q.worker q.worker ≡ true = eq-eqb q.worker q.worker refl in rw (e, f) refl

of_other : (v : ℕ) (q : Request) (o a : Option Request) → o ≡ Some q → v ≢ q.worker → or_else (for_worker v o) a ≡ a
of_other v q o a e ne = let f : eqb q.worker v ≡ false = ne_eqb q.worker v (λ z. ne (sym z)) in rw (e, f) refl

for_mine : (q : Request) (o a : Option Request) → o ≡ Some q → or_else (for_turn q.worker q.turn o) a ≡ Some q
for_mine q o a e =
    let f : eqb q.worker q.worker ≡ true = eq-eqb q.worker q.worker refl in
    let g : eqb q.turn q.turn ≡ true = eq-eqb q.turn q.turn refl in
    rw (e, f, g) refl

for_other : (v t : ℕ) (q : Request) (o a : Option Request) → o ≡ Some q → v ≢ q.worker → or_else (for_turn v t o) a ≡ a
for_other v t q o a e ne = let f : eqb q.worker v ≡ false = ne_eqb q.worker v (λ z. ne (sym z)) in rw (e, f) refl

for_later : (v t : ℕ) (q : Request) (o a : Option Request) → o ≡ Some q → t ≢ q.turn → or_else (for_turn v t o) a ≡ a
for_later v t q o a e ne = go (eqb q.worker v) refl
  where
    go : (b : Bool) → eqb q.worker v ≡ b → or_else (for_turn v t o) a ≡ a
    go true f = let g : eqb q.turn t ≡ false = ne_eqb q.turn t (λ z. ne (sym z)) in rw (e, f, g) refl
    go false f = rw (e, f) refl

module _ (X : ObjectModel) where
  told_accept : (e : Call × Reply) (h : History) (ord : List Request) (q : Request) → Told X h ord →
      accepted e ≡ Some q → gave e ≡ None → answered_by e h ≡ None →
      (1 ≤ q.turn → q.turn ≤ length (of_worker q.worker ord) → last_for q.worker q.turn h ≡ Some q) → Told X (e ∷ h) ord
  told_accept e h ord q told a g b k = told_event X e h ord told keep (λ x c. absurd (none-some _ (sym g ∙ c))) (λ x z c. absurd (none-some _ (sym b ∙ c)))
    where
      keep : (v u : ℕ) (p : Request) → 1 ≤ u → u ≤ length (of_worker v ord) → last_for v u h ≡ Some p → last_for v u (e ∷ h) ≡ Some p
      keep v u p c d f = go (cases_eq v q.worker) (cases_eq u q.turn)
        where
          go : (v ≡ q.worker) ⊎ (v ≡ q.worker → ⊥) → (u ≡ q.turn) ⊎ (u ≡ q.turn → ⊥) → last_for v u (e ∷ h) ≡ Some p
          go (inr ne) y = for_other v u q (accepted e) (last_for v u h) a ne ∙ f
          go (inl x) (inr ne) = for_later v u q (accepted e) (last_for v u h) a ne ∙ f
          go (inl x) (inl y) =
              let c' : 1 ≤ q.turn = omega arith in
              let d' : q.turn ≤ length (of_worker q.worker ord) = rw (x, y) at d in
              let f' : last_for q.worker q.turn h ≡ Some p = rw (x, y) at f in
              let m : last_for q.worker q.turn (e ∷ h) ≡ Some q = for_mine q (accepted e) (last_for q.worker q.turn h) a in
              let z : last_for q.worker q.turn (e ∷ h) ≡ Some p = m ∙ sym (k c' d') ∙ f' in
              subst (λ (m : ℕ). last_for m u (e ∷ h) ≡ Some p) (sym x) (subst (λ (m : ℕ). last_for q.worker m (e ∷ h) ≡ Some p) (sym y) z)

  module _ (h : History) (s s' : Depot X) (ord : List Request) (i : Inv X h s ord) where
    -- a call that is refused, or that nobody may make
    turned_down : (c : Call) (k : Refusal) (r : Reply) → accepted (c, refused k) ≡ None → gave (c, refused k) ≡ None → answered_by (c, refused k) h ≡ None →
        running ((c, refused k) ∷ h) ≡ running h → Quiet X s s' (refused k, s.table) r → Next X ((c, r) ∷ h) s' ord
    turned_down c k r a g b run d =
        let p : s' ≡ s = depot_path X s' s.table s.memory d.1 d.2 in
        subst (λ (z : Depot X). Next X ((c, r) ∷ h) z ord) (sym p) (rw d.0 (same-order X _ _ ord (inv_idle X (c, refused k) h s ord i a g b run)))

    when_up : (c : Call) (w : ℕ) (r : Reply) (o : Outcome X) →
        ((k : Refusal) → accepted (c, refused k) ≡ None) → ((k : Refusal) → gave (c, refused k) ≡ None) → ((k : Refusal) → answered_by (c, refused k) h ≡ None) →
        ((k : Refusal) → running ((c, refused k) ∷ h) ≡ running h) → Quiet X s s' (as_up X s.table w o) r →
        (Up X h s ord → w < s.table.workers → Quiet X s s' o r → Next X ((c, r) ∷ h) s' ord) → Next X ((c, r) ∷ h) s' ord
    when_up c w r o a g b run d k = at i.store
      where
        below : Up X h s ord → (t : Bool) → ltb w s.table.workers ≡ t → Quiet X s s' (cond t o (refused NoWorker, s.table)) r → Next X ((c, r) ∷ h) s' ord
        below u true e d = k u (ltb-true w s.table.workers e) d
        below u false e d = turned_down c NoWorker r (a NoWorker) (g NoWorker) (b NoWorker) (run NoWorker) d

        at : Up X h s ord ⊎ Down X h s ord → Next X ((c, r) ∷ h) s' ord
        at (inl u) = below u (ltb w s.table.workers) refl
            (subst (λ (t : Bool). Quiet X s s' (cond t (cond (ltb w s.table.workers) o (refused NoWorker, s.table)) (refused NotUp, s.table)) r) u.is_up d)
        at (inr q) =
            let up : s.table.up ≡ false = rw q.table refl in
            turned_down c NotUp r (a NotUp) (g NotUp) (b NotUp) (run NotUp)
            (subst (λ (t : Bool). Quiet X s s' (cond t (cond (ltb w s.table.workers) o (refused NoWorker, s.table)) (refused NotUp, s.table)) r) up d)

    -- the turn word counts a worker's requests, and beside it stands its last answer
    word_is : (u : Up X h s ord) (w : ℕ) → w < s.table.workers → turn_word X s.table s.memory.current w ≡ length (of_worker w ord)
    word_is u w b = line_first (record_line s.table.workers s.table.settled + w) s.memory.current ∙ (u.shows.workers w b).count

    recorded : (u : Up X h s ord) (w turn : ℕ) → w < s.table.workers → 1 ≤ turn → turn ≡ turn_word X s.table s.memory.current w →
        Explained X ord (record { worker = w; turn = turn; value = record_answer X s.table s.memory.current w })
    recorded u w turn b one e =
        let l : ℕ = record_line s.table.workers s.table.settled + w in
        let count : length (of_worker w ord) ≡ turn = sym (e ∙ word_is u w b) in
        rw (line_word l 1 s.memory.current (omega arith), line_word l 2 s.memory.current (omega arith)) (rw count at ((u.shows.workers w b).last (omega arith)))

    -- a free place takes a request of the next turn
    takes_in : (c : Call) (u : Up X h s ord) (w turn op arg : ℕ) → w < s.table.workers → place_of X s.table w ≡ free →
        turn ≡ turn_word X s.table s.memory.current w + 1 →
        accepted (c, ticket turn) ≡ Some (record { worker = w; turn = turn; op = op; arg = arg }) → gave (c, ticket turn) ≡ None →
        answered_by (c, ticket turn) h ≡ None → running ((c, ticket turn) ∷ h) ≡ running h →
        (r : Reply) → Quiet X s s' (ticket turn, with_place X s.table w (waiting turn op arg Gate)) r → Next X ((c, r) ∷ h) s' ord
    takes_in c u w turn op arg b pl e a g ans run r d =
        let q : Request = record { worker = w; turn = turn; op = op; arg = arg } in
        let t' : Table X = with_place X s.table w (waiting turn op arg Gate) in
        let p : s' ≡ record { table = t'; memory = s.memory } = depot_path X s' t' s.memory d.1 d.2 in
        let f : turn ≡ length (of_worker w ord) + 1 = rw (word_is u w b) at e in
        subst (λ (z : Depot X). Next X ((c, r) ∷ h) z ord) (sym p) (rw d.0 (same-order X _ _ ord (record {
          told = told_accept (c, ticket turn) h ord q i.told a g ans (λ x y. absurd (omega arith));
          store = inl (up-place X h ((c, ticket turn) ∷ h) s ord u w (waiting turn op arg Gate) b run
              (λ v ne. (of_other v q (accepted (c, ticket turn)) (last_of v h) a ne, λ z. for_other v z q (accepted (c, ticket turn)) (last_for v z h) a ne))
              (of_mine q (accepted (c, ticket turn)) (last_of w h) a, omega arith, omega arith, omega arith)
              (rw pl tt) tt (λ qs m. unmatched qs (rw pl at m)));
        })))
      where
        unmatched : (qs : List Request) → Matches w ord free qs → Matches w ord (waiting turn op arg Gate) qs
        unmatched qs (inl y) = inl y
        unmatched qs (inr (t₂, op₂, arg₂, p₂, pl, q, l)) = absurd (grind arith)

    pub keeps_announce : (w op arg : ℕ) (r : Reply) → Does X (announce w op arg) s r s' → Next X ((announce w op arg, r) ∷ h) s' ord
    keeps_announce w op arg r d = when_up (announce w op arg) w r _ (λ k. refl) (λ k. refl) (λ k. refl) (λ k. refl) d (λ u b d. go u b (place_of X s.table w) refl d)
      where
        word : ℕ
        word = turn_word X s.table s.memory.current w

        room : Up X h s ord → w < s.table.workers → place_of X s.table w ≡ free → (t : Bool) →
            Quiet X s s' (cond t (ticket (word + 1), with_place X s.table w (waiting (word + 1) op arg Gate)) (refused TurnsUsedUp, s.table)) r → Next X ((announce w op arg, r) ∷ h) s' ord
        room u b e true d = takes_in (announce w op arg) u w (word + 1) op arg b e refl refl refl refl refl r d
        room u b e false d = turned_down (announce w op arg) TurnsUsedUp r refl refl refl refl d

        go : Up X h s ord → w < s.table.workers → (pl : Place) → place_of X s.table w ≡ pl →
            Quiet X s s' (announce_at X s.table s.memory.current w 0 op arg pl) r → Next X ((announce w op arg, r) ∷ h) s' ord
        go u b free e d = room u b e (ltb word (2 ^ 32 - 1)) d
        go u b (waiting t o a p) e d = turned_down (announce w op arg) PlaceTaken r refl refl refl refl d
        go u b (answered t o a z) e d = turned_down (announce w op arg) PlaceTaken r refl refl refl refl d

    pub keeps_note : (w t op arg : ℕ) (r : Reply) → Does X (note w t op arg) s r s' → Next X ((note w t op arg, r) ∷ h) s' ord
    keeps_note w t op arg r d = subst (λ (z : Depot X). Next X ((note w t op arg, r) ∷ h) z ord) (sym d.1)
        (same-order X _ _ ord (inv_idle X (note w t op arg, r) h s ord i refl refl refl refl))

    pub keeps_collect : (w turn op arg : ℕ) (r : Reply) → Does X (collect w turn op arg) s r s' → Next X ((collect w turn op arg, r) ∷ h) s' ord
    keeps_collect w turn op arg r d = when_up (collect w turn op arg) w r _ (λ k. refl) (λ k. refl) (λ k. refl) (λ k. refl) d (λ u b d. go u b (place_of X s.table w) refl d)
      where
        hands : Up X h s ord → w < s.table.workers → (o a : ℕ) (z : Answer) → place_of X s.table w ≡ answered turn o a z →
            Quiet X s s' (answer z, with_place X s.table w free) r → Next X ((collect w turn op arg, r) ∷ h) s' ord
        hands u b o a z e d =
            let t' : Table X = with_place X s.table w free in
            let p : s' ≡ record { table = t'; memory = s.memory } = depot_path X s' t' s.memory d.1 d.2 in
            let k : PlaceOk X w h ord (answered turn o a z) = rw e at (u.places w b) in
            subst (λ (y : Depot X). Next X ((collect w turn op arg, r) ∷ h) y ord) (sym p) (rw d.0 (same-order X _ _ ord (record {
              told = told_event X (collect w turn op arg, answer z) h ord i.told (λ v x y l m n. n) (λ g c. gift g c k.1) (λ v x c. absurd (none-some _ c));
              store = inl (up-place X h ((collect w turn op arg, answer z) ∷ h) s ord u w free b refl (λ v ne. (refl, λ x. refl)) tt (rw e tt) tt
                  (λ qs m. unmatched qs (rw e at m)));
            })))
          where
            gift : (g : Given) → ◌≡◌ {A = Option Given} (Some (record { worker = w; turn = turn; value = z })) (Some g) → Explained X ord (record { worker = w; turn = turn; value = z }) → Explained X ord g
            gift g c x = let y : record { worker = w; turn = turn; value = z } ≡ g = cc in subst (λ (o : Given). Explained X ord o) y x

            unmatched : (qs : List Request) → Matches w ord (answered turn o a z) qs → Matches w ord free qs
            unmatched qs (inl y) = inl y
            unmatched qs (inr (t₂, op₂, arg₂, p₂, pl, q, l)) = absurd (grind arith)

        turn_is : Up X h s ord → w < s.table.workers → (t o a : ℕ) (z : Answer) → place_of X s.table w ≡ answered t o a z → (y : Bool) → eqb t turn ≡ y →
            Quiet X s s' (cond y (answer z, with_place X s.table w free) (refused OtherTurn, s.table)) r → Next X ((collect w turn op arg, r) ∷ h) s' ord
        turn_is u b t o a z e true f d = hands u b o a z (rw (eqb-true t turn f) at e) d
        turn_is u b t o a z e false f d = turned_down (collect w turn op arg) OtherTurn r refl refl refl refl d

        not_yet : (y : Bool) → Quiet X s s' (cond y (refused NotAnswered, s.table) (refused OtherTurn, s.table)) r → Next X ((collect w turn op arg, r) ∷ h) s' ord
        not_yet true d = turned_down (collect w turn op arg) NotAnswered r refl refl refl refl d
        not_yet false d = turned_down (collect w turn op arg) OtherTurn r refl refl refl refl d

        go : Up X h s ord → w < s.table.workers → (pl : Place) → place_of X s.table w ≡ pl →
            Quiet X s s' (collect_at X s.table s.memory.current w turn op arg pl) r → Next X ((collect w turn op arg, r) ∷ h) s' ord
        go u b free e d = turned_down (collect w turn op arg) OtherTurn r refl refl refl refl d
        go u b (waiting t o a p) e d = not_yet (eqb t turn) d
        go u b (answered t o a z) e d = turn_is u b t o a z e (eqb t turn) refl d

    -- a place that already has the turn and the words: they are accepted once more
    again : (c : Call) (u : Up X h s ord) (w turn op arg : ℕ) → w < s.table.workers →
        accepted (c, ticket turn) ≡ Some (record { worker = w; turn = turn; op = op; arg = arg }) → gave (c, ticket turn) ≡ None →
        answered_by (c, ticket turn) h ≡ None → running ((c, ticket turn) ∷ h) ≡ running h →
        last_for w turn h ≡ Some (record { worker = w; turn = turn; op = op; arg = arg }) →
        (PlaceOk X w h ord (place_of X s.table w) → PlaceOk X w ((c, ticket turn) ∷ h) ord (place_of X s.table w)) →
        (r : Reply) → Quiet X s s' (ticket turn, s.table) r → Next X ((c, r) ∷ h) s' ord
    again c u w turn op arg b a g ans run last mine r d =
        let q : Request = record { worker = w; turn = turn; op = op; arg = arg } in
        let p : s' ≡ s = depot_path X s' s.table s.memory d.1 d.2 in
        subst (λ (z : Depot X). Next X ((c, r) ∷ h) z ord) (sym p) (rw d.0 (same-order X _ _ ord (record {
          told = told_accept (c, ticket turn) h ord q i.told a g ans (λ x y. last);
          store = inl (up-history X h ((c, ticket turn) ∷ h) s ord u run (λ v z k. place v k (cases_eq v w)));
        })))
      where
        place : (v : ℕ) → PlaceOk X v h ord (place_of X s.table v) → (v ≡ w) ⊎ (v ≡ w → ⊥) → PlaceOk X v ((c, ticket turn) ∷ h) ord (place_of X s.table v)
        place v k (inl e) = subst (λ (x : ℕ). PlaceOk X x ((c, ticket turn) ∷ h) ord (place_of X s.table x)) (sym e)
            (mine (subst (λ (x : ℕ). PlaceOk X x h ord (place_of X s.table x)) e k))
        place v k (inr ne) = place-history X v h ((c, ticket turn) ∷ h) ord (place_of X s.table v)
            (of_other v (record { worker = w; turn = turn; op = op; arg = arg }) (accepted (c, ticket turn)) (last_of v h) a ne)
            (λ z. for_other v z (record { worker = w; turn = turn; op = op; arg = arg }) (accepted (c, ticket turn)) (last_for v z h) a ne) k

    pub keeps_resume : (w turn op arg : ℕ) (r : Reply) → Does X (resume w turn op arg) s r s' → Next X ((resume w turn op arg, r) ∷ h) s' ord
    keeps_resume w turn op arg r d = when_up call w r _ (λ k. refl) (λ k. refl) (λ k. refl) (λ k. refl) d (λ u b d. go u b (leb 1 turn) refl (ltb turn (2 ^ 32)) d)
      where
        call : Call
        call = resume w turn op arg

        word : ℕ
        word = turn_word X s.table s.memory.current w

        q : Request
        q = record { worker = w; turn = turn; op = op; arg = arg }

        -- the turn recorded: its answer is given again
        gives : Up X h s ord → w < s.table.workers → 1 ≤ turn → turn ≡ word →
            Quiet X s s' (answer (record_answer X s.table s.memory.current w), s.table) r → Next X ((call, r) ∷ h) s' ord
        gives u b one e d =
            let z = record_answer X s.table s.memory.current w in
            let p : s' ≡ s = depot_path X s' s.table s.memory d.1 d.2 in
            subst (λ (y : Depot X). Next X ((call, r) ∷ h) y ord) (sym p) (rw d.0 (same-order X _ _ ord (record {
              told = told_event X (call, answer z) h ord i.told (λ v x y l m n. n) (λ g c. gift z g c (recorded u w turn b one e)) (λ v x c. absurd (none-some _ c));
              store = store-idle X (call, answer z) h s ord refl refl i.store;
            })))
          where
            gift : (z : Answer) (g : Given) → ◌≡◌ {A = Option Given} (Some (record { worker = w; turn = turn; value = z })) (Some g) →
                Explained X ord (record { worker = w; turn = turn; value = z }) → Explained X ord g
            gift z g c x = let y : record { worker = w; turn = turn; value = z } ≡ g = cc in subst (λ (o : Given). Explained X ord o) y x

        anew : Up X h s ord → w < s.table.workers → place_of X s.table w ≡ free → (t : Bool) → eqb turn (word + 1) ≡ t →
            Quiet X s s' (cond t (ticket turn, with_place X s.table w (waiting turn op arg Gate)) (refused TurnNotNext, s.table)) r → Next X ((call, r) ∷ h) s' ord
        anew u b e true f d = takes_in call u w turn op arg b e (eqb-true turn (word + 1) f) refl refl refl refl r d
        anew u b e false f d = turned_down call TurnNotNext r refl refl refl refl d

        at-free : Up X h s ord → w < s.table.workers → 1 ≤ turn → place_of X s.table w ≡ free → (t : Bool) → eqb turn word ≡ t →
            Quiet X s s' (cond t (answer (record_answer X s.table s.memory.current w), s.table)
            (cond (eqb turn (word + 1)) (ticket turn, with_place X s.table w (waiting turn op arg Gate)) (refused TurnNotNext, s.table))) r → Next X ((call, r) ∷ h) s' ord
        at-free u b one e true f d = gives u b one (eqb-true turn word f) d
        at-free u b one e false f d = anew u b e (eqb turn (word + 1)) refl d

        -- the place has a turn: it must be the slip's, with the slip's words
        held-turn : (v o a : ℕ) → (v ≡ turn → o ≡ op → a ≡ arg → Quiet X s s' (ticket turn, s.table) r → Next X ((call, r) ∷ h) s' ord) →
            (x : Bool) → eqb v turn ≡ x → (y : Bool) → eqb o op ≡ y → (z : Bool) → eqb a arg ≡ z →
            Quiet X s s' (cond x (cond (y && z) (ticket turn, s.table) (refused OtherRequest, s.table)) (refused PlaceNotFree, s.table)) r → Next X ((call, r) ∷ h) s' ord
        held-turn v o a k true e true f true g d = k (eqb-true v turn e) (eqb-true o op f) (eqb-true a arg g) d
        held-turn v o a k true e true f false g d = turned_down call OtherRequest r refl refl refl refl d
        held-turn v o a k true e false f z g d = turned_down call OtherRequest r refl refl refl refl d
        held-turn v o a k false e y f z g d = turned_down call PlaceNotFree r refl refl refl refl d

        at-waiting : Up X h s ord → w < s.table.workers → (v o a : ℕ) (p : Phase) → place_of X s.table w ≡ waiting v o a p → v ≡ turn → o ≡ op → a ≡ arg →
            Quiet X s s' (ticket turn, s.table) r → Next X ((call, r) ∷ h) s' ord
        at-waiting u b v o a p e x y z d =
            let e' : place_of X s.table w ≡ waiting turn op arg p = e ∙ rw (x, y, z) refl in
            let k : PlaceOk X w h ord (waiting turn op arg p) = rw e' at (u.places w b) in
            again call u w turn op arg b refl refl refl refl (last_of_for w h q k.0)
            (λ m. subst (λ (pl : Place). PlaceOk X w ((call, ticket turn) ∷ h) ord pl) (sym e') (of_mine q (Some q) (last_of w h) refl, k.1, k.2, k.3)) r d

        at-answered : Up X h s ord → w < s.table.workers → (v o a : ℕ) (c : Answer) → place_of X s.table w ≡ answered v o a c → v ≡ turn → o ≡ op → a ≡ arg →
            Quiet X s s' (ticket turn, s.table) r → Next X ((call, r) ∷ h) s' ord
        at-answered u b v o a c e x y z d =
            let e' : place_of X s.table w ≡ answered turn op arg c = e ∙ rw (x, y, z) refl in
            let k : PlaceOk X w h ord (answered turn op arg c) = rw e' at (u.places w b) in
            again call u w turn op arg b refl refl refl refl k.0
            (λ m. subst (λ (pl : Place). PlaceOk X w ((call, ticket turn) ∷ h) ord pl) (sym e') (for_mine q (Some q) (last_for w turn h) refl, k.1)) r d

        by_place : Up X h s ord → w < s.table.workers → 1 ≤ turn → (pl : Place) → place_of X s.table w ≡ pl →
            Quiet X s s' (resume_at X s.table s.memory.current w turn op arg pl) r → Next X ((call, r) ∷ h) s' ord
        by_place u b one free e d = at-free u b one e (eqb turn word) refl d
        by_place u b one (waiting v o a p) e d = held-turn v o a (at-waiting u b v o a p e) (eqb v turn) refl (eqb o op) refl (eqb a arg) refl d
        by_place u b one (answered v o a c) e d = held-turn v o a (at-answered u b v o a c e) (eqb v turn) refl (eqb o op) refl (eqb a arg) refl d

        go : Up X h s ord → w < s.table.workers → (x : Bool) → leb 1 turn ≡ x → (y : Bool) →
            Quiet X s s' (cond (x && y) (resume_at X s.table s.memory.current w turn op arg (place_of X s.table w)) (refused TurnOutOfRange, s.table)) r → Next X ((call, r) ∷ h) s' ord
        go u b true e true d = by_place u b (leb-true 1 turn e) (place_of X s.table w) refl d
        go u b true e false d = turned_down call TurnOutOfRange r refl refl refl refl d
        go u b false e y d = turned_down call TurnOutOfRange r refl refl refl refl d
