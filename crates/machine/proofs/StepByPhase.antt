-- A step, by its phase.
use Rattle.std.proofs.Common.{◌≡◌, ℕ, ◌+◌, ◌<◌, Bool, true, false, cond, ltb, ◌⊎◌, List, ◌∷◌, Some, None, Option, sym, refl, ap, ◌∙◌, subst, inl, inr}
use Rattle.std.proofs.lemmas.Bool.{lt-ltb, ltb-true, cases_eq}
use Rattle.objects.specs.Model.{ObjectModel, Lawful}
use Rattle.machine.specs.declared.phase.Phase.{Phase}
use Rattle.machine.specs.declared.phase.Phase.TheVariants.{Gate, Watch, Look, Load, Serve, Store, Ask, Fence, Flip, Mark, Sync, Leave}
use Rattle.machine.specs.declared.refusal.Refusal.{Refusal}
use Rattle.machine.specs.declared.refusal.Refusal.TheVariants.{NotUp, NoWorker, NotWaiting}
use Rattle.machine.specs.Machine.{Place, Step, place_of, step_place, step_at}
use Rattle.machine.specs.Machine.{Place.free, Place.waiting, Place.answered}
use Rattle.machine.specs.Calls.{Reply}
use Rattle.machine.specs.Calls.{Call.step, Reply.refused}
use Rattle.machine.specs.Run.{History, Store as Depot, Does, Stepped}
use Rattle.machine.specs.Order.{Request}
use Rattle.machine.proofs.Invariant.{OutPhase, Outside, Told, Inside, Held, LockOk, Up, Down, Inv}
use Rattle.machine.proofs.Moves.{Next, same-order, inv_idle}
use Rattle.machine.proofs.Serve.{serve_step}
use Rattle.machine.proofs.Phases.{load_step, store_step, ask-step, fence-step, flip-step, mark-step, sync-step}
use Rattle.machine.proofs.Leave.{leave_step}
use Rattle.machine.proofs.Gates.{gate_step, watch_step, look-step}

module _ (X : ObjectModel) (law : Lawful X) where
  refused-step : (h : History) (s s' : Depot X) (ord : List Request) → Inv X h s ord → (w : ℕ) (k : Refusal) (r : Reply) →
      Stepped X s s' (Step.no k) r → Next X ((step w, r) ∷ h) s' ord
  refused-step h s s' ord i w k r d =
      subst (λ (z : Depot X). Next X ((step w, r) ∷ h) z ord) (sym d.1)
      (rw d.0 (same-order X _ _ ord (inv_idle X (step w, refused k) h s ord i refl refl refl refl)))

  -- the line of a phase is not past the last
  on_line : (s s' : Depot X) (r : Reply) (x : Step X) (k most : ℕ) → k < most → Stepped X s s' (cond (ltb k most) x (Step.no NotWaiting)) r → Stepped X s s' x r
  on_line s s' r x k most b d = subst (λ (t : Bool). Stepped X s s' (cond t x (Step.no NotWaiting)) r) (lt-ltb k most b) d

  holder_step : (h : History) (s s' : Depot X) (ord : List Request) → Told X h ord → (u : Up X h s ord) (w : ℕ)
      (held : Held X s.table.workers s.table.settled h s.table s.memory ord w) → s.table.lock ≡ Some w →
      (p : Phase) → held.phase ≡ p → Inside X s.table.workers s.table.settled h s.table s.memory ord p → (r : Reply) →
      Stepped X s s' (step_at X s.table s.memory.current w held.turn held.op held.arg p) r → Next X ((step w, r) ∷ h) s' ord
  holder_step h s s' ord told u w held lock Gate e i r d = absurd i.memory
  holder_step h s s' ord told u w held lock Watch e i r d = absurd i.memory
  holder_step h s s' ord told u w held lock Look e i r d = absurd i.memory
  holder_step h s s' ord told u w held lock (Load k) e i r d = load_step X law h s s' ord told u w held lock k i r (on_line s s' r _ k 5 i.memory.0 d)
  holder_step h s s' ord told u w held lock (Serve k) e i r d = serve_step X h s s' ord told u w held lock k i r (on_line s s' r _ k s.table.workers i.memory.0 d)
  holder_step h s s' ord told u w held lock (Store k) e i r d = store_step X law h s s' ord told u w held lock k i r (on_line s s' r _ k 5 i.memory.0 d)
  holder_step h s s' ord told u w held lock (Ask k) e i r d = ask-step X law h s s' ord told u w held lock k i r (on_line s s' r _ k (s.table.workers + 5) i.memory.0 d)
  holder_step h s s' ord told u w held lock Fence e i r d = fence-step X law h s s' ord told u w held lock i r d
  holder_step h s s' ord told u w held lock Flip e i r d = flip-step X law h s s' ord told u w held lock i r d
  holder_step h s s' ord told u w held lock Mark e i r d = mark-step X law h s s' ord told u w held lock i r d
  holder_step h s s' ord told u w held lock Sync e i r d = sync-step X law h s s' ord told u w held lock i r d
  holder_step h s s' ord told u w held lock Leave e i r d = leave_step X h s s' ord told u w held lock e i r d

  waiting-step : (h : History) (s s' : Depot X) (ord : List Request) → Told X h ord → (u : Up X h s ord) (w : ℕ) → w < s.table.workers →
      (turn op arg : ℕ) (p : Phase) → place_of X s.table w ≡ waiting turn op arg p → OutPhase p → (r : Reply) →
      Stepped X s s' (step_at X s.table s.memory.current w turn op arg p) r → Next X ((step w, r) ∷ h) s' ord
  waiting-step h s s' ord told u w b turn op arg Gate e o r d = gate_step X h s s' ord told u w b turn op arg e r d
  waiting-step h s s' ord told u w b turn op arg Watch e o r d = watch_step X h s s' ord told u w b turn op arg e r d
  waiting-step h s s' ord told u w b turn op arg Look e o r d = look-step X h s s' ord told u w b turn op arg e r d
  waiting-step h s s' ord told u w b turn op arg (Load k) e o r d = absurd o
  waiting-step h s s' ord told u w b turn op arg (Serve k) e o r d = absurd o
  waiting-step h s s' ord told u w b turn op arg (Store k) e o r d = absurd o
  waiting-step h s s' ord told u w b turn op arg (Ask k) e o r d = absurd o
  waiting-step h s s' ord told u w b turn op arg Fence e o r d = absurd o
  waiting-step h s s' ord told u w b turn op arg Flip e o r d = absurd o
  waiting-step h s s' ord told u w b turn op arg Mark e o r d = absurd o
  waiting-step h s s' ord told u w b turn op arg Sync e o r d = absurd o
  waiting-step h s s' ord told u w b turn op arg Leave e o r d = absurd o

  pub keeps_step : (h : History) (s s' : Depot X) (ord : List Request) → Inv X h s ord → (w : ℕ) (r : Reply) →
      Does X (step w) s r s' → Next X ((step w, r) ∷ h) s' ord
  keeps_step h s s' ord i w r d = at i.store
    where
      outside : (u : Up X h s ord) → w < s.table.workers → (pl : Place) → place_of X s.table w ≡ pl → Outside pl →
          Stepped X s s' (step_place X s.table s.memory.current w pl) r → Next X ((step w, r) ∷ h) s' ord
      outside u b free e o d = refused-step h s s' ord i w NotWaiting r d
      outside u b (answered t op arg a) e o d = refused-step h s s' ord i w NotWaiting r d
      outside u b (waiting t op arg p) e o d = waiting-step h s s' ord i.told u w b t op arg p e o r d

      below : (u : Up X h s ord) → w < s.table.workers → (l : Option ℕ) → s.table.lock ≡ l →
          LockOk X s.table.workers s.table.settled h s.table s.memory ord l →
          Stepped X s s' (step_place X s.table s.memory.current w (place_of X s.table w)) r → Next X ((step w, r) ∷ h) s' ord
      below u b None e k d = outside u b (place_of X s.table w) refl (k.all w b) d
      below u b (Some v) e k d = who (cases_eq w v)
        where
          who : (w ≡ v) ⊎ (w ≡ v → ⊥) → Next X ((step w, r) ∷ h) s' ord
          who (inl q) =
              let k' : Held X s.table.workers s.table.settled h s.table s.memory ord w = subst (λ (z : ℕ). Held X s.table.workers s.table.settled h s.table s.memory ord z) (sym q) k in
              let e' : s.table.lock ≡ Some w = e ∙ ap {B = Option ℕ} Some (sym q) in
              holder_step h s s' ord i.told u w k' e' k'.phase refl k'.inside r
              (subst (λ (pl : Place). Stepped X s s' (step_place X s.table s.memory.current w pl) r) k'.place d)
          who (inr ne) = outside u b (place_of X s.table w) refl (k.others w b ne) d

      inside : (u : Up X h s ord) (b : Bool) → ltb w s.table.workers ≡ b →
          Stepped X s s' (cond b (step_place X s.table s.memory.current w (place_of X s.table w)) (Step.no NoWorker)) r → Next X ((step w, r) ∷ h) s' ord
      inside u true e d = below u (ltb-true w s.table.workers e) s.table.lock refl u.lock d
      inside u false e d = refused-step h s s' ord i w NoWorker r d

      at : Up X h s ord ⊎ Down X h s ord → Next X ((step w, r) ∷ h) s' ord
      at (inl u) = inside u (ltb w s.table.workers) refl (subst (λ (b : Bool). Stepped X s s'
          (cond b (cond (ltb w s.table.workers) (step_place X s.table s.memory.current w (place_of X s.table w)) (Step.no NoWorker)) (Step.no NotUp)) r) u.is_up d)
      at (inr k) =
          let up : s.table.up ≡ false = rw k.table refl in
          refused-step h s s' ord i w NotUp r (subst (λ (b : Bool). Stepped X s s'
          (cond b (cond (ltb w s.table.workers) (step_place X s.table s.memory.current w (place_of X s.table w)) (Step.no NoWorker)) (Step.no NotUp)) r) up d)
