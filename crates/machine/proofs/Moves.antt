-- How the parts of the invariant move: a longer history, another place, another memory.
use Rattle.std.proofs.Common.{◌≡◌, ℕ, ◌+◌, ◌<◌, ◌≢◌, ◌⊎◌, List, [], ◌∷◌, ◌++◌, length, get_or, set, Some, None, Option, ◌∙◌, inl, inr, append-nil, arith, length-set}
use Rattle.std.proofs.lemmas.Bool.{cases_eq}
use Rattle.std.proofs.lemmas.List.{get_or-set_same, get_or-set_other}
use Rattle.memory.specs.Model.{MemoryModel, Adds}
use Rattle.objects.specs.Model.{ObjectModel}
use Rattle.machine.specs.declared.phase.Phase.{Phase}
use Rattle.machine.specs.declared.phase.Phase.TheVariants.{Gate, Watch, Look, Load, Serve, Store, Ask, Fence, Flip, Mark, Sync, Leave}
use Rattle.machine.specs.Layout.{other}
use Rattle.machine.specs.Machine.{Place, Table, place_of, with_place}
use Rattle.machine.specs.Machine.{Place.free, Place.waiting, Place.answered}
use Rattle.machine.specs.Calls.{Call, Reply}
use Rattle.machine.specs.Run.{History, Store as Depot}
use Rattle.machine.specs.Order.{Request, of_worker, last_of, last_for, running, answered_by, gave, accepted}
use Rattle.machine.proofs.Invariant.{OutPhase, Outside, MemoryAt, Matches, PlaceOk, WordsAt, Inside, LockOk, Up, Down, Inv}
use Rattle.machine.proofs.History.{told-idle}
use Rattle.machine.proofs.Lasting.{steady-adds, asking_adds, fenced_adds, flipping-adds, marked_adds}

-- a holder's phase is inside a round
pub not_out : (n s : ℕ) (p : Phase) (m : MemoryModel) → MemoryAt n s p m → OutPhase p → ⊥
not_out n s Gate m a b = a
not_out n s Watch m a b = a
not_out n s Look m a b = a
not_out n s (Load k) m a b = b
not_out n s (Serve k) m a b = b
not_out n s (Store k) m a b = b
not_out n s (Ask k) m a b = b
not_out n s Fence m a b = b
not_out n s Flip m a b = b
not_out n s Mark m a b = b
not_out n s Sync m a b = b
not_out n s Leave m a b = b

-- arrivals of the module's own choice change neither the stage nor what is read
pub memory-adds : (n s : ℕ) (p : Phase) (m k : MemoryModel) → MemoryAt n s p m → Adds m k → MemoryAt n s p k × (k.current ≡ m.current)
memory-adds n s Gate m k a d = absurd a
memory-adds n s Watch m k a d = absurd a
memory-adds n s Look m k a d = absurd a
memory-adds n s (Load j) m k a d = let z = steady-adds n s m k a.1 d in ((a.0, z.0), z.1)
memory-adds n s (Serve j) m k a d = let z = steady-adds n s m k a.1 d in ((a.0, z.0), z.1)
memory-adds n s (Store j) m k a d = let z = steady-adds n s m k a.1 d in ((a.0, z.0), z.1)
memory-adds n s (Ask j) m k a d = let z = asking_adds n s j m k a.1 d in ((a.0, z.0), z.1)
memory-adds n s Fence m k a d = asking_adds n s (n + 5) m k a d
memory-adds n s Flip m k a d = fenced_adds n s m k a d
memory-adds n s Mark m k a d = flipping-adds n s m k a d
memory-adds n s Sync m k a d = marked_adds n s m k a d
memory-adds n s Leave m k a d = steady-adds n (other s) m k a d

module _ (X : ObjectModel) where
  -- a place under a history that says the same of its worker
  pub place-history : (w : ℕ) (h h' : History) (ord : List Request) (pl : Place) → last_of w h' ≡ last_of w h →
      ((t : ℕ) → last_for w t h' ≡ last_for w t h) → PlaceOk X w h ord pl → PlaceOk X w h' ord pl
  place-history w h h' ord free a b k = k
  place-history w h h' ord (waiting t op arg p) a b k = (a ∙ k.0, k.1, k.2, k.3)
  place-history w h h' ord (answered t op arg x) a b k = (b t ∙ k.0, k.1)

  pub inside_history : (n s : ℕ) (h h' : History) (t : Table X) (m : MemoryModel) (ord : List Request) (p : Phase) → running h' ≡ running h →
      Inside X n s h t m ord p → Inside X n s h' t m ord p
  inside_history n s h h' t m ord p e i = record {
    served = i.served;
    run = e ∙ i.run;
    each = i.each;
    rest = i.rest;
    workers = i.workers;
    object = i.object;
    words = i.words;
    memory = i.memory;
  }

  pub lock-history : (n s : ℕ) (h h' : History) (t : Table X) (m : MemoryModel) (ord : List Request) (l : Option ℕ) → running h' ≡ running h →
      LockOk X n s h t m ord l → LockOk X n s h' t m ord l
  lock-history n s h h' t m ord None e i = record { run = e ∙ i.run; all = i.all; steady = i.steady }
  lock-history n s h h' t m ord (Some w) e i = record {
    below = i.below;
    turn = i.turn;
    op = i.op;
    arg = i.arg;
    phase = i.phase;
    place = i.place;
    others = i.others;
    inside = inside_history n s h h' t m ord i.phase e i.inside;
  }

  -- the store stays, the history grows
  pub up-history : (h h' : History) (st : Depot X) (ord : List Request) (u : Up X h st ord) → running h' ≡ running h →
      ((w : ℕ) → w < st.table.workers → PlaceOk X w h ord (place_of X st.table w) → PlaceOk X w h' ord (place_of X st.table w)) → Up X h' st ord
  up-history h h' st ord u e k = record {
    some = u.some;
    most = u.most;
    bit = u.bit;
    is_up = u.is_up;
    eight = u.eight;
    places = λ w b. k w b (u.places w b);
    head = u.head;
    shows = u.shows;
    lock = lock-history st.table.workers st.table.settled h h' st.table st.memory ord st.table.lock e u.lock;
  }

  pub store-idle : (e : Call × Reply) (h : History) (st : Depot X) (ord : List Request) → accepted e ≡ None → running (e ∷ h) ≡ running h →
      (Up X h st ord ⊎ Down X h st ord) → (Up X (e ∷ h) st ord ⊎ Down X (e ∷ h) st ord)
  store-idle e h st ord a r (inl u) = inl (up-history h (e ∷ h) st ord u r
      (λ w b k. place-history w h (e ∷ h) ord (place_of X st.table w) (rw a) (λ t. rw a) k))
  store-idle e h st ord a r (inr d) = inr (record { n = d.n; s = d.s; table = d.table; run = r ∙ d.run; rests = d.rests })

  pub inv_idle : (e : Call × Reply) (h : History) (st : Depot X) (ord : List Request) → Inv X h st ord →
      accepted e ≡ None → gave e ≡ None → answered_by e h ≡ None → running (e ∷ h) ≡ running h → Inv X (e ∷ h) st ord
  inv_idle e h st ord i a g b r = record {
    told = told-idle X e h ord i.told a g b;
    store = store-idle e h st ord a r i.store;
  }

  abbrev pub Next : History → Depot X → List Request → Type 0
  Next h s ord = (new : List Request) × Inv X h s (ord ++ new)

  pub same-order : (h : History) (st : Depot X) (ord : List Request) → Inv X h st ord → Next h st ord
  same-order h st ord i = ([], rw append-nil i)

  pub depot_path : (s : Depot X) (t : Table X) (m : MemoryModel) → s.table ≡ t → s.memory ≡ m → s ≡ record { table = t; memory = m }
  depot_path s t m a b = λ i. record { table = a i; memory = b i }

  -- one place outside the round changes
  pub each-place : (n s : ℕ) (t : Table X) (w : ℕ) (pl : Place) (ord served : List Request) → w < length t.places →
      ((qs : List Request) → Matches w ord (place_of X t w) qs → Matches w ord pl qs) →
      ((v : ℕ) → Matches v ord (place_of X t v) (of_worker v served)) →
      ((v : ℕ) → Matches v ord (get_or (set t.places w pl) v free) (of_worker v served))
  each-place n s t w pl ord served b k i v = go (cases_eq v w)
    where
      go : (v ≡ w) ⊎ (v ≡ w → ⊥) → Matches v ord (get_or (set t.places w pl) v free) (of_worker v served)
      go (inl e) =
          let f : get_or (set t.places w pl) w free ≡ pl = get_or-set_same t.places w pl free b in
          rw (e, f) (k (of_worker w served) (rw e at (i v)))
      go (inr ne) =
          let f : get_or (set t.places w pl) v free ≡ get_or t.places v free = get_or-set_other t.places w v pl free ne in
          rw f (i v)

  pub lock-place : (n s : ℕ) (h h' : History) (t : Table X) (m : MemoryModel) (ord : List Request) (l : Option ℕ) (w : ℕ) (pl : Place) →
      w < length t.places → running h' ≡ running h → Outside (place_of X t w) → Outside pl →
      ((qs : List Request) → Matches w ord (place_of X t w) qs → Matches w ord pl qs) →
      LockOk X n s h t m ord l → LockOk X n s h' (with_place X t w pl) m ord l
  lock-place n s h h' t m ord l w pl b e out out' k i = go l i
    where
      outs : (v : ℕ) → Outside (place_of X t v) → Outside (get_or (set t.places w pl) v free)
      outs v o = at (cases_eq v w)
        where
          at : (v ≡ w) ⊎ (v ≡ w → ⊥) → Outside (get_or (set t.places w pl) v free)
          at (inl q) =
              let f : get_or (set t.places w pl) w free ≡ pl = get_or-set_same t.places w pl free b in
              rw (q, f) out'
          at (inr ne) =
              let f : get_or (set t.places w pl) v free ≡ get_or t.places v free = get_or-set_other t.places w v pl free ne in
              rw f o

      go : (l : Option ℕ) → LockOk X n s h t m ord l → LockOk X n s h' (with_place X t w pl) m ord l
      go None i = record { run = e ∙ i.run; all = λ v q. outs v (i.all v q); steady = i.steady }
      go (Some v) i =
          let ne : v ≡ w → ⊥ = λ q.
          let f : place_of X t w ≡ waiting i.turn i.op i.arg i.phase = rw q at i.place in
          not_out n s i.phase m i.inside.memory (rw f at out) in
          let f : get_or (set t.places w pl) v free ≡ get_or t.places v free = get_or-set_other t.places w v pl free ne in
          record {
            below = i.below;
            turn = i.turn;
            op = i.op;
            arg = i.arg;
            phase = i.phase;
            place = f ∙ i.place;
            others = λ x q d. outs x (i.others x q d);
            inside = record {
              served = i.inside.served;
              run = e ∙ i.inside.run;
              each = each-place n s t w pl ord i.inside.served b k i.inside.each;
              rest = i.inside.rest;
              workers = i.inside.workers;
              object = i.inside.object;
              words = words i.phase i.inside.served i.inside.words;
              memory = i.inside.memory;
            };
          }
        where
          words : (p : Phase) (served : List Request) → WordsAt X p t ord served → WordsAt X p (with_place X t w pl) ord served
          words Gate q x = x
          words Watch q x = x
          words Look q x = x
          words (Load j) q x = x
          words (Serve j) q x = x
          words (Store j) q x = x
          words (Ask j) q x = x
          words Fence q x = x
          words Flip q x = x
          words Mark q x = x
          words Sync q x = x
          words Leave q x = x

  pub up-place : (h h' : History) (st : Depot X) (ord : List Request) (u : Up X h st ord) (w : ℕ) (pl : Place) → w < st.table.workers →
      running h' ≡ running h →
      ((v : ℕ) → v ≢ w → (last_of v h' ≡ last_of v h) × ((t : ℕ) → last_for v t h' ≡ last_for v t h)) →
      PlaceOk X w h' ord pl → Outside (place_of X st.table w) → Outside pl →
      ((qs : List Request) → Matches w ord (place_of X st.table w) qs → Matches w ord pl qs) →
      Up X h' (record { table = with_place X st.table w pl; memory = st.memory }) ord
  up-place h h' st ord u w pl b e hist fine out out' k =
      let b8 : w < length st.table.places = rw u.eight (omega arith) in
      record {
        some = u.some;
        most = u.most;
        bit = u.bit;
        is_up = u.is_up;
        eight = length-set st.table.places w pl ∙ u.eight;
        places = λ v c. at b8 v c (cases_eq v w);
        head = u.head;
        shows = u.shows;
        lock = lock-place st.table.workers st.table.settled h h' st.table st.memory ord st.table.lock w pl b8 e out out' k u.lock;
      }
    where
      at : w < length st.table.places → (v : ℕ) → v < st.table.workers → (v ≡ w) ⊎ (v ≡ w → ⊥) → PlaceOk X v h' ord (get_or (set st.table.places w pl) v free)
      at b8 v c (inl q) =
          let f : get_or (set st.table.places w pl) w free ≡ pl = get_or-set_same st.table.places w pl free b8 in
          rw (q, f) fine
      at b8 v c (inr ne) =
          let f : get_or (set st.table.places w pl) v free ≡ get_or st.table.places v free = get_or-set_other st.table.places w v pl free ne in
          rw f (place-history v h h' ord (place_of X st.table v) (hist v ne).0 (hist v ne).1 (u.places v c))
