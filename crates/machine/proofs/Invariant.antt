-- What holds after every call of a run, of its history, its store and the order of the requests that took effect.
use Rattle.std.proofs.Common.{◌≡◌, ℕ, ◌+◌, ◌*◌, ◌<◌, ◌≤◌, Bool, true, false, ◌≢◌, ◌⊎◌, List, [], ◌∷◌, ◌++◌, length, get_or, take, Some, None, Option}
use mathlib.Core.List.{Memᴰ}
use Rattle.memory.specs.Model.{MemoryModel, line}
use Rattle.objects.specs.Model.{ObjectModel}
use Rattle.machine.specs.declared.answer.Answer.{Answer}
use Rattle.machine.specs.declared.phase.Phase.{Phase}
use Rattle.machine.specs.declared.phase.Phase.TheVariants.{Gate, Watch, Look, Load, Serve, Store, Ask, Fence, Flip, Mark, Sync, Leave}
use Rattle.machine.specs.Layout.{record_line, other, contents}
use Rattle.machine.specs.Machine.{Place, Table, place_of}
use Rattle.machine.specs.Machine.{Place.free, Place.waiting, Place.answered}
use Rattle.machine.specs.Calls.{Call, Reply, down_table}
use Rattle.machine.specs.Run.{History, Store as Depot}
use Rattle.machine.specs.Order.{Request, Given, Is, Explained, InTurn, of_worker, last_of, last_for, running, answered_by, gave, Before, state_after}
use Rattle.machine.proofs.Stages.{Steady, Asking, Fenced, Flipping, Marked}

-- (w, t) has been answered by a step, or its answer given
pub data Done (w t : ℕ) : History → Type 0 where
  by_step : {e : Call × Reply} {h : History} → answered_by e h ≡ Some (w, t) → Done w t (e ∷ h)
  by_gift : {e : Call × Reply} {h : History} (a : Answer) → gave e ≡ Some (record { worker = w; turn = t; value = a }) → Done w t (e ∷ h)
  earlier : {e : Call × Reply} {h : History} → Done w t h → Done w t (e ∷ h)

-- (w, t) stands in an order
abbrev pub Stands : ℕ → ℕ → List Request → Type 0
Stands w t order = (front : List Request) × (p : Request) × (rest : List Request) × (order ≡ front ++ p ∷ rest) × Is w t p

abbrev pub Ahead : ℕ → ℕ → Request → List Request → Type 0
Ahead w t q order = (front : List Request) × (p : Request) × (rest : List Request) × (order ≡ front ++ p ∷ rest) × Is w t p × Memᴰ q rest

-- a place's phase is outside a round
abbrev pub OutPhase : Phase → Type 0
OutPhase Gate = Unit {0}
OutPhase Watch = Unit {0}
OutPhase Look = Unit {0}
OutPhase (Load k) = ⊥
OutPhase (Serve k) = ⊥
OutPhase (Store k) = ⊥
OutPhase (Ask k) = ⊥
OutPhase Fence = ⊥
OutPhase Flip = ⊥
OutPhase Mark = ⊥
OutPhase Sync = ⊥
OutPhase Leave = ⊥

abbrev pub Outside : Place → Type 0
Outside free = Unit {0}
Outside (waiting t op arg p) = OutPhase p
Outside (answered t op arg a) = Unit {0}

-- how far a round has come, by its holder's phase: workers passed, object lines stored, the Flip done
abbrev pub passed_at : ℕ → Phase → ℕ
passed_at n Gate = 0
passed_at n Watch = 0
passed_at n Look = 0
passed_at n (Load k) = 0
passed_at n (Serve k) = k
passed_at n (Store k) = n
passed_at n (Ask k) = n
passed_at n Fence = n
passed_at n Flip = n
passed_at n Mark = n
passed_at n Sync = n
passed_at n Leave = n

abbrev pub stored_at : Phase → ℕ
stored_at Gate = 0
stored_at Watch = 0
stored_at Look = 0
stored_at (Load k) = 0
stored_at (Serve k) = 0
stored_at (Store k) = k
stored_at (Ask k) = 5
stored_at Fence = 5
stored_at Flip = 5
stored_at Mark = 5
stored_at Sync = 5
stored_at Leave = 5

abbrev pub flipped_at : Phase → Bool
flipped_at Gate = false
flipped_at Watch = false
flipped_at Look = false
flipped_at (Load k) = false
flipped_at (Serve k) = false
flipped_at (Store k) = false
flipped_at (Ask k) = false
flipped_at Fence = false
flipped_at Flip = false
flipped_at Mark = true
flipped_at Sync = true
flipped_at Leave = true

-- what the memory is like by the holder's phase, with the bound of an indexed phase
abbrev pub MemoryAt : ℕ → ℕ → Phase → MemoryModel → Type 0
MemoryAt n s Gate m = ⊥
MemoryAt n s Watch m = ⊥
MemoryAt n s Look m = ⊥
MemoryAt n s (Load k) m = (k < 5) × Steady n s m
MemoryAt n s (Serve k) m = (k < n) × Steady n s m
MemoryAt n s (Store k) m = (k < 5) × Steady n s m
MemoryAt n s (Ask k) m = (k < n + 5) × Asking n s k m
MemoryAt n s Fence m = Asking n s (n + 5) m
MemoryAt n s Flip m = Fenced n s m
MemoryAt n s Mark m = Flipping n s m
MemoryAt n s Sync m = Marked n s m
MemoryAt n s Leave m = Steady n (other s) m

-- a served worker's place still holds the request; of a worker not served nothing is said
abbrev pub Matches : ℕ → List Request → Place → List Request → Type 0
Matches w ord pl qs = (qs ≡ []) ⊎ ((t : ℕ) × (op : ℕ) × (arg : ℕ) × (p : Phase) × (pl ≡ waiting t op arg p) ×
    (qs ≡ record { worker = w; turn = t; op = op; arg = arg } ∷ []) × (t ≡ length (of_worker w ord) + 1))

module _ (X : ObjectModel) where
  -- what is owed for the calls so far, whatever the memory
  pub record Told (h : History) (ord : List Request) : Type 0 where
    pub turns : (w : ℕ) → InTurn w 1 h (of_worker w ord)
    pub answers : (e : Call × Reply) (g : Given) → Memᴰ e h → gave e ≡ Some g → Explained X ord g
    pub ahead : (w t : ℕ) (q : Request) → Memᴰ q ord → Before w t q h → Ahead w t q ord
    pub done : (w t : ℕ) → Done w t h → Stands w t ord

  -- a worker's line after an order
  pub record Tells (ws : List ℕ) (w : ℕ) (ord : List Request) : Type 0 where
    pub count : get_or ws 0 0 ≡ length (of_worker w ord)
    pub last : 1 ≤ length (of_worker w ord) → Explained X ord (record {
      worker = w;
      turn = length (of_worker w ord);
      value = record { code = get_or ws 1 0; value = get_or ws 2 0 };
    })

  abbrev pub Pictured : ℕ → ℕ → List ℕ → ℕ → X.State → Type 0
  Pictured n r image k x = (j : ℕ) → j < k → line (record_line n r + n + j) image ≡ line j (X.picture x)

  -- record r of an image shows an order
  pub record Shows (n r : ℕ) (image : List ℕ) (ord : List Request) : Type 0 where
    pub workers : (w : ℕ) → w < n → Tells (line (record_line n r + w) image) w ord
    pub object : Pictured n r image 5 (state_after X ord)

  abbrev pub PlaceOk : ℕ → History → List Request → Place → Type 0
  PlaceOk w h ord free = Unit {0}
  PlaceOk w h ord (waiting t op arg p) =
      (last_of w h ≡ Some (record { worker = w; turn = t; op = op; arg = arg })) ×
      (length (of_worker w ord) ≤ t) × (t ≤ length (of_worker w ord) + 1) × (1 ≤ t)
  PlaceOk w h ord (answered t op arg a) =
      (last_for w t h ≡ Some (record { worker = w; turn = t; op = op; arg = arg })) ×
      Explained X ord (record { worker = w; turn = t; value = a })

  -- the table's own words by the holder's phase
  abbrev pub WordsAt : Phase → Table X → List Request → List Request → Type 0
  WordsAt Gate t ord served = ⊥
  WordsAt Watch t ord served = ⊥
  WordsAt Look t ord served = ⊥
  WordsAt (Load k) t ord served = take (8 * k) t.loaded ≡ take (8 * k) (X.picture (state_after X ord))
  WordsAt (Serve k) t ord served = t.working ≡ state_after X (ord ++ served)
  WordsAt (Store k) t ord served = t.working ≡ state_after X (ord ++ served)
  WordsAt (Ask k) t ord served = Unit {0}
  WordsAt Fence t ord served = Unit {0}
  WordsAt Flip t ord served = Unit {0}
  WordsAt Mark t ord served = Unit {0}
  WordsAt Sync t ord served = Unit {0}
  WordsAt Leave t ord served = Unit {0}

  -- a round is running, its holder in phase p
  pub record Inside (n s : ℕ) (h : History) (t : Table X) (m : MemoryModel) (ord : List Request) (p : Phase) : Type 0 where
    pub served : List Request
    pub run : running h ≡ Some (record { passed = passed_at n p; served = served; flipped = flipped_at p })
    pub each : (w : ℕ) → Matches w ord (place_of X t w) (of_worker w served)
    pub rest : (w : ℕ) → passed_at n p ≤ w → of_worker w served ≡ []
    pub workers : (w : ℕ) → w < passed_at n p → Tells (line (record_line n (other s) + w) m.current) w (ord ++ served)
    pub object : Pictured n (other s) m.current (stored_at p) (state_after X (ord ++ served))
    pub words : WordsAt p t ord served
    pub memory : MemoryAt n s p m

  pub record Held (n s : ℕ) (h : History) (t : Table X) (m : MemoryModel) (ord : List Request) (w : ℕ) : Type 0 where
    pub below : w < n
    pub turn : ℕ
    pub op : ℕ
    pub arg : ℕ
    pub phase : Phase
    pub place : place_of X t w ≡ waiting turn op arg phase
    pub others : (v : ℕ) → v < n → v ≢ w → Outside (place_of X t v)
    pub inside : Inside n s h t m ord phase

  pub record Idle (n s : ℕ) (h : History) (t : Table X) (m : MemoryModel) : Type 0 where
    pub run : running h ≡ None
    pub all : (v : ℕ) → v < n → Outside (place_of X t v)
    pub steady : Steady n s m

  abbrev pub LockOk : ℕ → ℕ → History → Table X → MemoryModel → List Request → Option ℕ → Type 0
  LockOk n s h t m ord None = Idle n s h t m
  LockOk n s h t m ord (Some w) = Held n s h t m ord w

  -- the store is up
  pub record Up (h : History) (st : Depot X) (ord : List Request) : Type 0 where
    pub some : 1 ≤ st.table.workers
    pub most : st.table.workers ≤ 8
    pub bit : st.table.settled < 2
    pub is_up : st.table.up ≡ true
    pub eight : length st.table.places ≡ 8
    pub places : (w : ℕ) → w < st.table.workers → PlaceOk w h ord (place_of X st.table w)
    pub head : line 0 st.memory.current ≡ contents X.kind st.table.workers
    pub shows : Shows st.table.workers st.table.settled st.memory.current ord
    pub lock : LockOk st.table.workers st.table.settled h st.table st.memory ord st.table.lock

  -- a memory that a start finds
  pub record Rests (n s : ℕ) (m : MemoryModel) (ord : List Request) : Type 0 where
    pub head : line 0 m.current ≡ contents X.kind n
    pub shows : Shows n s m.current ord
    pub steady : Steady n s m

  pub record Down (h : History) (st : Depot X) (ord : List Request) : Type 0 where
    pub n : ℕ
    pub s : ℕ
    pub table : st.table ≡ down_table X
    pub run : running h ≡ None
    pub rests : Rests n s st.memory ord

  pub record Inv (h : History) (st : Depot X) (ord : List Request) : Type 0 where
    pub told : Told h ord
    pub store : Up h st ord ⊎ Down h st ord
