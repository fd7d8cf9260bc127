-- A line's arrival at the caller's word.
use Rattle.std.proofs.Common.{◌≡◌, ℕ, Bool, true, false, ltb, ◌⊎◌, List, ◌∷◌, Some, None, Option, sym, refl, subst, inl, inr}
use Rattle.std.proofs.lemmas.Bool.{ltb-true}
use Rattle.memory.specs.Model.{MemoryModel, Adds, allowed, more, lines}
use Rattle.objects.specs.Model.{ObjectModel}
use Rattle.machine.specs.Machine.{Table}
use Rattle.machine.specs.Calls.{Reply}
use Rattle.machine.specs.Calls.{Call.arrive}
use Rattle.machine.specs.Run.{History, Store as Depot, Does, Arrived}
use Rattle.machine.specs.Order.{Request}
use Rattle.machine.proofs.Invariant.{LockOk, Up, Down, Inv}
use Rattle.machine.proofs.Moves.{Next, same-order, inv_idle, depot_path, memory-adds}
use Rattle.machine.proofs.Lasting.{steady-adds}

module _ (X : ObjectModel) where
  lock-adds : (n s : ℕ) (h : History) (t : Table X) (m k : MemoryModel) (ord : List Request) (l : Option ℕ) → Adds m k →
      LockOk X n s h t m ord l → LockOk X n s h t k ord l × (k.current ≡ m.current)
  lock-adds n s h t m k ord None d i =
      let z = steady-adds n s m k i.steady d in
      (record { run = i.run; all = i.all; steady = z.0 }, z.1)
  lock-adds n s h t m k ord (Some w) d i =
      let j = i.inside in
      let z = memory-adds n s i.phase m k j.memory d in (
        record {
          below = i.below;
          turn = i.turn;
          op = i.op;
          arg = i.arg;
          phase = i.phase;
          place = i.place;
          others = i.others;
          inside = record {
            served = j.served;
            run = j.run;
            each = j.each;
            rest = j.rest;
            workers = rw z.1 j.workers;
            object = rw z.1 j.object;
            words = j.words;
            memory = z.0;
          };
        },
        z.1,
      )

  inv_adds : (h : History) (t : Table X) (m k : MemoryModel) (ord : List Request) → Adds m k → Inv X h (record { table = t; memory = m }) ord →
      Inv X h (record { table = t; memory = k }) ord
  inv_adds h t m k ord d i = record { told = i.told; store = go i.store }
    where
      go : Up X h (record { table = t; memory = m }) ord ⊎ Down X h (record { table = t; memory = m }) ord →
          Up X h (record { table = t; memory = k }) ord ⊎ Down X h (record { table = t; memory = k }) ord
      go (inl u) =
          let z = lock-adds t.workers t.settled h t m k ord t.lock d u.lock in
          inl (record {
            some = u.some;
            most = u.most;
            bit = u.bit;
            is_up = u.is_up;
            eight = u.eight;
            places = u.places;
            head = rw z.1 u.head;
            shows = rw z.1 u.shows;
            lock = z.0;
          })
      go (inr u) =
          let z = steady-adds u.n u.s m k u.rests.steady d in
          inr (record {
            n = u.n;
            s = u.s;
            table = u.table;
            run = u.run;
            rests = record { head = rw z.1 u.rests.head; shows = rw z.1 u.rests.shows; steady = z.0 };
          })

  pub keeps_arrive : (h : History) (s s' : Depot X) (ord : List Request) → Inv X h s ord → (l : ℕ) (r : Reply) →
      Does X (arrive l) s r s' → Next X ((arrive l, r) ∷ h) s' ord
  keeps_arrive h s s' ord i l r d = same-order X ((arrive l, r) ∷ h) s' ord (go (ltb l (lines s.memory)) refl (allowed l s.memory) refl d)
    where
      base_inv : Inv X ((arrive l, r) ∷ h) s ord
      base_inv = inv_idle X (arrive l, r) h s ord i refl refl refl refl

      go : (a : Bool) → ltb l (lines s.memory) ≡ a → (b : Bool) → allowed l s.memory ≡ b → Arrived X s s' l a b r → Inv X ((arrive l, r) ∷ h) s' ord
      go false x b y q = rw q.1 base_inv
      go true x false y q = rw q.1 base_inv
      go true x true y q =
          let p : s' ≡ record { table = s.table; memory = s'.memory } = depot_path X s' s.table s'.memory q.1 refl in
          subst (λ (z : Depot X). Inv X ((arrive l, r) ∷ h) z ord) (sym p)
          (inv_adds ((arrive l, r) ∷ h) s.table s.memory s'.memory ord (more l (ltb-true l (lines s.memory) x) y q.2) base_inv)
