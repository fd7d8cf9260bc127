-- In a run the memory accepts every call of every step, so a store makes the moves that rows of calls allow.
use Rattle.std.proofs.Common.{◌≡◌, ℕ, ◌+◌, ◌*◌, ◌<◌, ◌≤◌, Bool, true, false, cond, ◌&&◌, eqb, ltb, ◌⊎◌, List, [], ◌∷◌, length, drop, Some, None, Ok, Err, Option, sym, refl, ap, ◌∙◌, subst, inl, inr, arith, length-take}
use Rattle.std.proofs.lemmas.Bool.{lt-ltb, ltb-true, cases_eq, both_ways}
use Rattle.memory.specs.declared.refusal.Refusal.TheVariants.{Outside as OutsideMemory, NotAllowed}
use Rattle.memory.specs.Model.{MemoryModel, line, lines, allowed}
use Rattle.memory.specs.Post.{inside_line}
use Rattle.memory.specs.Calls.{done, writes, asks, fences, syncs, arrives, each_word}
use Rattle.memory.specs.Conduct.{Conduct, Keeps}
use Rattle.memory.proofs.Accepted.{Leads, leads_one, leads_words}
use Rattle.objects.specs.Answers.{answer_code, answer_value}
use Rattle.objects.specs.Model.{ObjectModel}
use Rattle.machine.specs.declared.phase.Phase.{Phase}
use Rattle.machine.specs.declared.phase.Phase.TheVariants.{Gate, Watch, Look, Load, Serve, Store, Ask, Fence, Flip, Mark, Sync, Leave}
use Rattle.machine.specs.declared.refusal.Refusal.TheVariants.{NotUp, NoWorker, NotWaiting}
use Rattle.machine.specs.Layout.{record_line, worker_at, other}
use Rattle.machine.specs.Machine.{Place, Step, place_of, turn_word, words_from, wants, gate, made, load, serve_with, step_at, step_place, step as step_of}
use Rattle.machine.specs.Machine.{Place.free, Place.waiting, Place.answered}
use Rattle.machine.specs.Calls.{Call, Machine, image, does, stepped_as, in_memory}
use Rattle.machine.specs.Calls.{Call.announce, Call.step, Call.collect, Call.note, Call.resume, Call.arrive, Call.cut, Call.start}
use Rattle.machine.specs.Run.{History, Stepped, Arrived, Does}
use Rattle.machine.specs.Order.{Request}
use Rattle.machine.specs.Follows.{seen}
use Rattle.machine.proofs.Words.{length-words}
use Rattle.machine.proofs.Stages.{InRecord, Room, within, other-bit}
use Rattle.machine.proofs.Invariant.{OutPhase, Outside, MemoryAt, LockOk, Up, Down, Inv}
use Rattle.machine.proofs.Serve.{in_worker, in_object}

-- the words of a room's lines are kept
room-kept : {n s : ℕ} {m : MemoryModel} → Room n s m → 8 * (2 * n + 12) ≤ length m.kept
room-kept r = let b = r.formed.whole in let c = r.fits in omega arith

-- a line has at most eight words
short_line : (l : ℕ) (image : List ℕ) → length (line l image) ≤ 8
short_line l image = rw (length-take 8 (drop (8 * l) image)) (omega arith)

module _ {C : Conduct} (keeps : Keeps C) {n s : ℕ} (m : C.State) (r : Room n s (C.model m)) where
  line_on : (l : ℕ) → InRecord n (other s) l → l < lines (C.model m)
  line_on l i = let w = within n (other s) l (other-bit s r.bit) i in let f = r.fits in omega arith

  words_on : (l : ℕ) (vs : List ℕ) → InRecord n (other s) l → length vs ≤ 8 → Leads C (each_word (8 * l) vs) m
  words_on l vs i b =
      let w = line_on l i in
      let e = r.formed.whole in
      leads_words keeps vs (8 * l) m (omega arith)

  ask_on : (l : ℕ) → l < lines (C.model m) → Leads C (asks l ∷ []) m
  ask_on l b = leads_one keeps (asks l) m (lt-ltb l (lines (C.model m)) b)

  index_on : (v : ℕ) → Leads C (writes 8 v ∷ []) m
  index_on v = leads_one keeps (writes 8 v) m (lt-ltb 8 (length (C.model m).kept) (let w = room-kept r in omega arith))

module _ (X : ObjectModel) {C : Conduct} (keeps : Keeps C) where
  -- the memory accepts the calls of a step
  abbrev Callable : Step X → C.State → Type 0
  Callable (Step.stepped p) m = Leads C p.calls m
  Callable (Step.no r) m = Unit {0}

  either_on : (m : C.State) (x y : Step X) → Callable x m → Callable y m → (b : Bool) → Callable (cond b x y) m
  either_on m x y a b true = a
  either_on m x y a b false = b

  module _ (s : Machine X C) (w turn op arg : ℕ) where
    abbrev On : Phase → Type 0
    On p = Callable (step_at X s.table (image X C s) w turn op arg p) s.memory

    abbrev RoomOn : Type 0
    RoomOn = Room s.table.workers s.table.settled (C.model s.memory)

    gate_on : (l : Option ℕ) → Callable (gate X s.table (image X C s) w turn op arg l) s.memory
    gate_on None = done
    gate_on (Some v) = done

    out_on : (p : Phase) → OutPhase p → On p
    out_on Gate o = gate_on s.table.lock
    out_on Watch o = done
    out_on Look o = either_on s.memory _ _ done done (eqb (turn_word X s.table (image X C s) w) turn)
    out_on (Load k) o = absurd o
    out_on (Serve k) o = absurd o
    out_on (Store k) o = absurd o
    out_on (Ask k) o = absurd o
    out_on Fence o = absurd o
    out_on Flip o = absurd o
    out_on Mark o = absurd o
    out_on Sync o = absurd o
    out_on Leave o = absurd o

    made_on : (o : Option X.State) (ws : List ℕ) → Callable (made X s.table (image X C s) w turn op arg o ws) s.memory
    made_on None ws = tt
    made_on (Some x) ws = done

    load_on : (k : ℕ) → Callable (load X s.table (image X C s) w turn op arg k) s.memory
    load_on k = either_on s.memory _ _ done (made_on _ _) (ltb k 4)

    serve_on : (k : ℕ) → k < s.table.workers → RoomOn → (o : Option (ℕ × ℕ × ℕ)) → Callable (serve_with X s.table (image X C s) w turn op arg k o) s.memory
    serve_on k b r None =
        let a : ℕ = worker_at s.table.workers s.table.settled k in
        let e : length (words_from (image X C s) a 8) ≡ 8 = length-words 8 a (image X C s) in
        words_on keeps s.memory r _ (words_from (image X C s) a 8) (in_worker s.table.workers (other s.table.settled) k b) (omega arith)
    serve_on k b r (Some (u, o, a)) =
        let rest : List ℕ = words_from (image X C s) (worker_at s.table.workers s.table.settled k + 3) 5 in
        let e : length rest ≡ 5 = length-words 5 (worker_at s.table.workers s.table.settled k + 3) (image X C s) in
        words_on keeps s.memory r _ (u ∷ answer_code (X.answer s.table.working o a) ∷ answer_value (X.answer s.table.working o a) ∷ rest)
        (in_worker s.table.workers (other s.table.settled) k b) (omega arith)

    store_on : (k : ℕ) → k < 5 → RoomOn → Leads C (each_word (8 * (record_line s.table.workers (other s.table.settled) + s.table.workers) + 8 * k) (line k (X.picture s.table.working))) s.memory
    store_on k b r =
        let n = s.table.workers in
        let o = other s.table.settled in
        let e : 8 * (record_line n o + n + k) ≡ 8 * (record_line n o + n) + 8 * k = omega arith in
        subst (λ (a : ℕ). Leads C (each_word a (line k (X.picture s.table.working))) s.memory) e
        (words_on keeps s.memory r (record_line n o + n + k) (line k (X.picture s.table.working)) (in_object n o k b) (short_line k (X.picture s.table.working)))

    -- a phase's line past the last is refused
    on_line : (x : Step X) (b : Bool) → Callable x s.memory → Callable (cond b x (Step.no NotWaiting)) s.memory
    on_line x b a = either_on s.memory x (Step.no NotWaiting) a tt b

    holder_on : (p : Phase) → MemoryAt s.table.workers s.table.settled p (C.model s.memory) → On p
    holder_on Gate a = absurd a
    holder_on Watch a = absurd a
    holder_on Look a = absurd a
    holder_on (Load k) a = on_line _ (ltb k 5) (load_on k)
    holder_on (Serve k) a = on_line _ (ltb k s.table.workers) (serve_on k a.0 a.1.holds.room (wants (place_of X s.table k) _))
    holder_on (Store k) a = on_line _ (ltb k 5) (store_on k a.0 a.1.holds.room)
    holder_on (Ask k) a = on_line _ (ltb k (s.table.workers + 5)) (let b = a.0 in ask_on keeps s.memory a.1.holds.room _
        (line_on keeps s.memory a.1.holds.room _ (record { from = omega arith; below = omega arith })))
    holder_on Fence a = leads_one keeps fences s.memory refl
    holder_on Flip a = index_on keeps s.memory a.holds.room _
    holder_on Mark a = ask_on keeps s.memory a.room 1 (let f = a.room.fits in omega arith)
    holder_on Sync a = leads_one keeps syncs s.memory refl
    holder_on Leave a = done

  step_on : (h : History) (s : Machine X C) (ord : List Request) → Inv X h (seen X C s) ord → (w : ℕ) → Callable (step_of X s.table (image X C s) w) s.memory
  step_on h s ord i w = at i.store
    where
      outside : (pl : Place) → Outside pl → Callable (step_place X s.table (image X C s) w pl) s.memory
      outside free o = tt
      outside (answered t op arg a) o = tt
      outside (waiting t op arg p) o = out_on s w t op arg p o

      below : w < s.table.workers → (l : Option ℕ) → LockOk X s.table.workers s.table.settled h s.table (C.model s.memory) ord l →
          Callable (step_place X s.table (image X C s) w (place_of X s.table w)) s.memory
      below b None k = outside (place_of X s.table w) (k.all w b)
      below b (Some v) k = who (cases_eq w v)
        where
          who : (w ≡ v) ⊎ (w ≡ v → ⊥) → Callable (step_place X s.table (image X C s) w (place_of X s.table w)) s.memory
          who (inl q) =
              let e : place_of X s.table w ≡ waiting k.turn k.op k.arg k.phase = ap (place_of X s.table) q ∙ k.place in
              subst (λ (pl : Place). Callable (step_place X s.table (image X C s) w pl) s.memory) (sym e) (holder_on s w k.turn k.op k.arg k.phase k.inside.memory)
          who (inr ne) = outside (place_of X s.table w) (k.others w b ne)

      inside : Up X h (seen X C s) ord → (b : Bool) → ltb w s.table.workers ≡ b →
          Callable (cond b (step_place X s.table (image X C s) w (place_of X s.table w)) (Step.no NoWorker)) s.memory
      inside u true e = below (ltb-true w s.table.workers e) s.table.lock u.lock
      inside u false e = tt

      when_up : (u : Bool) (x : Step X) → Callable x s.memory ⊎ (u ≡ false) → Callable (cond u x (Step.no NotUp)) s.memory
      when_up true x (inl k) = k
      when_up true x (inr z) = absurd (both_ways true z refl)
      when_up false x k = tt

      at : Up X h (seen X C s) ord ⊎ Down X h (seen X C s) ord → Callable (step_of X s.table (image X C s) w) s.memory
      at (inl u) = when_up s.table.up _ (inl (inside u (ltb w s.table.workers) refl))
      at (inr k) = let up : s.table.up ≡ false = rw k.table refl in when_up s.table.up _ (inr up)

  stepped_on : (s : Machine X C) (x : Step X) → Callable x s.memory → Stepped X (seen X C s) (seen X C (stepped_as X C s x).1) x (stepped_as X C s x).0
  stepped_on s (Step.stepped p) k = (refl, refl, k)
  stepped_on s (Step.no r) k = (refl, refl)

  arrived_on : (s : Machine X C) (l : ℕ) (a b : Bool) → inside_line l (C.model s.memory) ≡ a → allowed l (C.model s.memory) ≡ b →
      Arrived X (seen X C s) (record { table = s.table; memory = C.model (cond (a && b) (C.does (arrives l) s.memory) s.memory) }) l a b
      (in_memory (cond (a && b) (Ok tt) (Err (cond a NotAllowed OutsideMemory))))
  arrived_on s l false b e f = (refl, refl)
  arrived_on s l true false e f = (refl, refl)
  arrived_on s l true true e f = (refl, refl, keeps.adds (arrives l) s.memory (rw (e, f) refl))

  -- every call does what it may
  pub moves : (h : History) (s : Machine X C) (ord : List Request) → Inv X h (seen X C s) ord → (c : Call) → Does X c (seen X C s) (does X C c s).0 (seen X C (does X C c s).1)
  moves h s ord i (announce w op arg) = (refl, refl, refl)
  moves h s ord i (step w) = stepped_on s (step_of X s.table (image X C s) w) (step_on h s ord i w)
  moves h s ord i (collect w t op arg) = (refl, refl, refl)
  moves h s ord i (note w t op arg) = (refl, refl)
  moves h s ord i (resume w t op arg) = (refl, refl, refl)
  moves h s ord i (arrive l) = arrived_on s l (inside_line l (C.model s.memory)) (allowed l (C.model s.memory)) refl refl
  moves h s ord i cut = (refl, refl, keeps.cuts s.memory)
  moves h s ord i start = (refl, refl, refl)
