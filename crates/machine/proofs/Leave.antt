-- Leave: the round ends, and the order grows by all that it served.
use Rattle.std.proofs.Common.{◌≡◌, ℕ, ◌+◌, ◌<◌, ◌⊎◌, List, ◌∷◌, ◌++◌, map, length, get_or, Some, None, sym, refl, ap, ◌∙◌, subst, inl, inr, arith, length-append}
use lib.ListN.{get_or-map}
use Rattle.std.proofs.lemmas.Bool.{cases_eq}
use Rattle.std.proofs.lemmas.List.{length-map}
use Rattle.memory.proofs.Effects.{reach_nil}
use Rattle.objects.specs.Model.{ObjectModel}
use Rattle.machine.specs.declared.phase.Phase.TheVariants.{Gate, Watch, Look, Load, Serve, Store, Ask, Fence, Flip, Mark, Sync, Leave}
use Rattle.machine.specs.declared.steps.StepAnswer.TheVariants.{LockLeft}
use Rattle.machine.specs.Layout.{other}
use Rattle.machine.specs.Machine.{Place, Table, place_of, leave, woken}
use Rattle.machine.specs.Machine.{Place.free, Place.waiting, Place.answered}
use Rattle.machine.specs.Calls.{Reply}
use Rattle.machine.specs.Calls.{Call.step, Reply.stepped}
use Rattle.machine.specs.Run.{History, Store as Depot, Stepped}
use Rattle.machine.specs.Order.{Request, of_worker}
use Rattle.machine.proofs.Invariant.{Outside, Matches, Told, PlaceOk, Inside, Held, Up}
use Rattle.machine.proofs.Moves.{Next, depot_path}
use Rattle.machine.proofs.Stages.{other-bit}
use Rattle.machine.proofs.History.{told-idle, told_grow, of_worker-append, explained_append}
use Rattle.machine.proofs.Turn.{quiet_step}
use Rattle.machine.proofs.Cuts.{served-turns}

module _ (X : ObjectModel) where
  woken_out : (pl : Place) → Outside pl → Outside (woken pl)
  woken_out free a = a
  woken_out (answered t op arg z) a = a
  woken_out (waiting t op arg Gate) a = tt
  woken_out (waiting t op arg Watch) a = tt
  woken_out (waiting t op arg Look) a = tt
  woken_out (waiting t op arg (Load k)) a = absurd a
  woken_out (waiting t op arg (Serve k)) a = absurd a
  woken_out (waiting t op arg (Store k)) a = absurd a
  woken_out (waiting t op arg (Ask k)) a = absurd a
  woken_out (waiting t op arg Fence) a = absurd a
  woken_out (waiting t op arg Flip) a = absurd a
  woken_out (waiting t op arg Mark) a = absurd a
  woken_out (waiting t op arg Sync) a = absurd a
  woken_out (waiting t op arg Leave) a = tt

  woken-ok : (w : ℕ) (h : History) (ord : List Request) (pl : Place) → PlaceOk X w h ord pl → PlaceOk X w h ord (woken pl)
  woken-ok w h ord free k = k
  woken-ok w h ord (answered t op arg z) k = k
  woken-ok w h ord (waiting t op arg Gate) k = k
  woken-ok w h ord (waiting t op arg Watch) k = k
  woken-ok w h ord (waiting t op arg Look) k = k
  woken-ok w h ord (waiting t op arg (Load j)) k = k
  woken-ok w h ord (waiting t op arg (Serve j)) k = k
  woken-ok w h ord (waiting t op arg (Store j)) k = k
  woken-ok w h ord (waiting t op arg (Ask j)) k = k
  woken-ok w h ord (waiting t op arg Fence) k = k
  woken-ok w h ord (waiting t op arg Flip) k = k
  woken-ok w h ord (waiting t op arg Mark) k = k
  woken-ok w h ord (waiting t op arg Sync) k = k
  woken-ok w h ord (waiting t op arg Leave) k = k

  -- a place, the order grown by what its worker was served
  place_grow : (w : ℕ) (h : History) (ord new : List Request) (pl : Place) → Matches w ord pl (of_worker w new) → PlaceOk X w h ord pl → PlaceOk X w h (ord ++ new) pl
  place_grow w h ord new free m k = k
  place_grow w h ord new (answered t op arg z) m k = (k.0, explained_append X ord new _ k.1)
  place_grow w h ord new (waiting t op arg p) m k =
      let e : length (of_worker w (ord ++ new)) ≡ length (of_worker w ord) + length (of_worker w new) =
      ap length (of_worker-append w ord new) ∙ length-append (of_worker w ord) (of_worker w new) in
      go e m
    where
      go : length (of_worker w (ord ++ new)) ≡ length (of_worker w ord) + length (of_worker w new) → Matches w ord (waiting t op arg p) (of_worker w new) →
          PlaceOk X w h (ord ++ new) (waiting t op arg p)
      go e (inl z) =
          let f : length (of_worker w new) ≡ 0 = ap length z in
          let a = k.1 in let b = k.2 in
          (k.0, omega arith, omega arith, k.3)
      go e (inr (t₂, op₂, arg₂, p₂, pl, q, l)) =
          let f : length (of_worker w new) ≡ 1 = ap length q in
          let g : t ≡ t₂ = cc in
          let a = k.1 in let b = k.2 in
          (k.0, omega arith, omega arith, k.3)

  pub leave_step : (h : History) (s s' : Depot X) (ord : List Request) → Told X h ord → (u : Up X h s ord) (w : ℕ)
      (held : Held X s.table.workers s.table.settled h s.table s.memory ord w) → s.table.lock ≡ Some w → held.phase ≡ Leave →
      (i : Inside X s.table.workers s.table.settled h s.table s.memory ord Leave) (r : Reply) →
      Stepped X s s' (leave X s.table s.memory.current w held.turn held.op held.arg) r → Next X ((step w, r) ∷ h) s' ord
  leave_step h s s' ord told u w held lock ph i r d =
      let t = s.table in
      let h' : History = (step w, stepped LockLeft) ∷ h in
      let me : s'.memory ≡ s.memory = reach_nil d.2 in
      let p : s' ≡ record { table = left; memory = s.memory } = depot_path X s' left s.memory d.1 me in
      subst (λ (z : Depot X). Next X ((step w, r) ∷ h) z ord) (sym p) (rw d.0 (
        i.served,
        record {
          told = told-idle X (step w, stepped LockLeft) h (ord ++ i.served)
              (told_grow X h ord i.served told (served-turns X t.workers t.settled h t s.memory ord Leave told u.places i)) refl refl (quiet_step w LockLeft h (λ o. refl));
          store = inl (record {
            some = u.some;
            most = u.most;
            bit = other-bit t.settled u.bit;
            is_up = u.is_up;
            eight = length-map t.places woken ∙ u.eight;
            places = λ v b. rw (at v) (woken-ok v h' (ord ++ i.served) (place_of X t v) (place_grow v h' ord i.served (place_of X t v) (i.each v) (u.places v b)));
            head = u.head;
            shows = record { workers = i.workers; object = i.object };
            lock = record { run = refl; all = λ v b. rw (at v) (out v b (cases_eq v w)); steady = i.memory };
          });
        },
      ))
    where
      left : Table X
      left = record {
        up = s.table.up;
        workers = s.table.workers;
        settled = other s.table.settled;
        places = map (woken) s.table.places;
        lock = None;
        loaded = s.table.loaded;
        working = s.table.working;
      }

      at : (v : ℕ) → get_or (map (woken) s.table.places) v free ≡ woken (place_of X s.table v)
      at v = get_or-map (woken) s.table.places v free

      out : (v : ℕ) → v < s.table.workers → (v ≡ w) ⊎ (v ≡ w → ⊥) → Outside (woken (place_of X s.table v))
      out v b (inl e) = rw (e, held.place, ph) tt
      out v b (inr ne) = woken_out (place_of X s.table v) (held.others v b ne)
