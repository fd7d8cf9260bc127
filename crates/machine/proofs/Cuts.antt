-- What a cut finds, whatever the store was doing.
use Rattle.std.proofs.Common.{◌≡◌, ℕ, ◌+◌, ◌<◌, ◌≤◌, true, ◌⊎◌, List, [], ◌∷◌, ◌++◌, length, Some, None, Option, refl, ◌∙◌, subst, inl, inr, append-nil, arith}
use Rattle.std.proofs.lemmas.Bool.{cases_lt}
use Rattle.memory.specs.Model.{MemoryModel, line}
use Rattle.memory.specs.Post.{CutTo}
use Rattle.objects.specs.Model.{ObjectModel}
use Rattle.machine.specs.declared.phase.Phase.{Phase}
use Rattle.machine.specs.declared.phase.Phase.TheVariants.{Gate, Watch, Look, Load, Serve, Store, Ask, Fence, Flip, Mark, Sync, Leave}
use Rattle.machine.specs.Layout.{record_line, other, contents}
use Rattle.machine.specs.Machine.{Table, place_of}
use Rattle.machine.specs.Machine.{Place.waiting}
use Rattle.machine.specs.Calls.{Reply}
use Rattle.machine.specs.Calls.{Call.cut}
use Rattle.machine.specs.Run.{History, Store as Depot, Does}
use Rattle.machine.specs.Order.{Request, InTurn, of_worker, last_for, running, Flipped, served_by}
use Rattle.machine.proofs.Stages.{Steady, SameRecord}
use Rattle.machine.proofs.Invariant.{passed_at, stored_at, flipped_at, MemoryAt, Matches, Told, Shows, PlaceOk, Inside, LockOk, Up, Rests, Down, Inv}
use Rattle.machine.proofs.Moves.{Next}
use Rattle.machine.proofs.History.{told-idle, told_grow, of_worker-append, turns_more, last_of_for}
use Rattle.machine.proofs.Losses.{steady-cut, asking_cut, fenced_cut, flipping-cut}

-- what a cut leaves, by the holder's phase
memory-cut : (n s : ℕ) (p : Phase) (m k : MemoryModel) → MemoryAt n s p m → CutTo m k →
    (Steady n s k × SameRecord n s k.current m.current) ⊎
    ((flipped_at p ≡ true) × (passed_at n p ≡ n) × (stored_at p ≡ 5) × Steady n (other s) k × SameRecord n (other s) k.current m.current)
memory-cut n s Gate m k a c = absurd a
memory-cut n s Watch m k a c = absurd a
memory-cut n s Look m k a c = absurd a
memory-cut n s (Load j) m k a c = inl (steady-cut n s m k a.1 c)
memory-cut n s (Serve j) m k a c = inl (steady-cut n s m k a.1 c)
memory-cut n s (Store j) m k a c = inl (steady-cut n s m k a.1 c)
memory-cut n s (Ask j) m k a c = inl (asking_cut n s j m k a.1 c)
memory-cut n s Fence m k a c = inl (asking_cut n s (n + 5) m k a c)
memory-cut n s Flip m k a c = inl (fenced_cut n s m k a c)
memory-cut n s Mark m k a c = elim (flipping-cut n s m k a c) [ inl x ↦ inl x | inr x ↦ inr (refl, refl, refl, x.0, x.1) ]
memory-cut n s Sync m k a c = elim (flipping-cut n s m k a.flipping c) [ inl x ↦ inl x | inr x ↦ inr (refl, refl, refl, x.0, x.1) ]
memory-cut n s Leave m k a c = let z = steady-cut n (other s) m k a c in inr (refl, refl, refl, z.0, z.1)

passed_most : (n s : ℕ) (p : Phase) (m : MemoryModel) → MemoryAt n s p m → passed_at n p ≤ n
passed_most n s Gate m a = absurd a
passed_most n s Watch m a = absurd a
passed_most n s Look m a = absurd a
passed_most n s (Load j) m a = omega arith
passed_most n s (Serve j) m a = omega arith
passed_most n s (Store j) m a = omega arith
passed_most n s (Ask j) m a = omega arith
passed_most n s Fence m a = omega arith
passed_most n s Flip m a = omega arith
passed_most n s Mark m a = omega arith
passed_most n s Sync m a = omega arith
passed_most n s Leave m a = omega arith

module _ (X : ObjectModel) where
  pub shows_same : (n r : ℕ) (a b : List ℕ) (ord : List Request) → SameRecord n r a b → Shows X n r b ord → Shows X n r a ord
  shows_same n r a b ord q k = record {
    workers = λ w c. rw (q.lines_same (record_line n r + w) (record { from = omega arith; below = omega arith })) (k.workers w c);
    object = λ j c. q.lines_same (record_line n r + n + j) (record { from = omega arith; below = omega arith }) ∙ k.object j c;
  }

  -- the order with all that the running round served, in turn
  pub served-turns : (n s : ℕ) (h : History) (t : Table X) (m : MemoryModel) (ord : List Request) (p : Phase) → Told X h ord →
      ((w : ℕ) → w < n → PlaceOk X w h ord (place_of X t w)) → (i : Inside X n s h t m ord p) →
      (w : ℕ) → InTurn w 1 h (of_worker w (ord ++ i.served))
  served-turns n s h t m ord p told places i w = rw (of_worker-append w ord i.served) (go (cases_lt w n) (i.each w))
    where
      nothing : of_worker w i.served ≡ [] → InTurn w 1 h (of_worker w ord ++ of_worker w i.served)
      nothing e = rw (e, append-nil (of_worker w ord)) (told.turns w)

      go : (w < n) ⊎ (n ≤ w) → Matches w ord (place_of X t w) (of_worker w i.served) → InTurn w 1 h (of_worker w ord ++ of_worker w i.served)
      go (inr b) q =
          let c = passed_most n s p m i.memory in
          nothing (i.rest w (omega arith))
      go (inl b) (inl e) = nothing e
      go (inl b) (inr (t', op, arg, p', pl, qs, tu)) =
          let q : Request = record { worker = w; turn = t'; op = op; arg = arg } in
          let k : PlaceOk X w h ord (waiting t' op arg p') = rw pl at (places w b) in
          let f : last_for w t' h ≡ Some q = last_of_for w h q k.0 in
          let z : t' ≡ 1 + length (of_worker w ord) = omega arith in
          rw qs (turns_more w 1 h (of_worker w ord) q (told.turns w) (subst (λ (u : ℕ). last_for w u h ≡ Some q) z f))

  -- what a cut leaves, whatever the store was doing
  pub record AfterCut (h : History) (m : MemoryModel) (ord : List Request) : Type 0 where
    pub new : List Request
    pub n : ℕ
    pub r : ℕ
    pub turns : (w : ℕ) → InTurn w 1 h (of_worker w (ord ++ new))
    pub rests : Rests X n r m (ord ++ new)
    pub which : (new ≡ []) ⊎ (Flipped (running h) × (new ≡ served_by (running h)))

  nothing_new : (h : History) (m : MemoryModel) (ord : List Request) (n r : ℕ) → Told X h ord → Rests X n r m ord → AfterCut h m ord
  nothing_new h m ord n r told k = record {
    new = [];
    n = n;
    r = r;
    turns = rw append-nil told.turns;
    rests = rw append-nil k;
    which = inl refl;
  }

  cut-held : (n s : ℕ) (h : History) (t : Table X) (m k : MemoryModel) (ord : List Request) (p : Phase) → Told X h ord →
      ((w : ℕ) → w < n → PlaceOk X w h ord (place_of X t w)) →
      line 0 m.current ≡ contents X.kind n → Shows X n s m.current ord →
      Inside X n s h t m ord p → CutTo m k → AfterCut h k ord
  cut-held n s h t m k ord p told places head shows i c = go (memory-cut n s p m k i.memory c)
    where
      go : (Steady n s k × SameRecord n s k.current m.current) ⊎
          ((flipped_at p ≡ true) × (passed_at n p ≡ n) × (stored_at p ≡ 5) × Steady n (other s) k × SameRecord n (other s) k.current m.current) → AfterCut h k ord
      go (inl (st, q)) = nothing_new h k ord n s told
          (record { head = q.contents ∙ head; shows = shows_same n s k.current m.current ord q shows; steady = st })
      go (inr (f, a, b, st, q)) = record {
        new = i.served;
        n = n;
        r = other s;
        turns = served-turns n s h t m ord p told places i;
        rests = record {
          head = q.contents ∙ head;
          shows = shows_same n (other s) k.current m.current (ord ++ i.served) q
              (record { workers = rw a at i.workers; object = rw b at i.object });
          steady = st;
        };
        which = inr (rw (i.run, f) tt, rw i.run refl);
      }

  cut-lock : (n s : ℕ) (h : History) (t : Table X) (m k : MemoryModel) (ord : List Request) (l : Option ℕ) → Told X h ord →
      ((w : ℕ) → w < n → PlaceOk X w h ord (place_of X t w)) →
      line 0 m.current ≡ contents X.kind n → Shows X n s m.current ord →
      LockOk X n s h t m ord l → CutTo m k → AfterCut h k ord
  cut-lock n s h t m k ord None told places head shows i c =
      let z = steady-cut n s m k i.steady c in
      nothing_new h k ord n s told (record { head = z.1.contents ∙ head; shows = shows_same n s k.current m.current ord z.1 shows; steady = z.0 })
  cut-lock n s h t m k ord (Some w) told places head shows i c = cut-held n s h t m k ord i.phase told places head shows i.inside c

  pub cut_any : (h : History) (st : Depot X) (k : MemoryModel) (ord : List Request) → Inv X h st ord → CutTo st.memory k → AfterCut h k ord
  cut_any h st k ord i c = go i.store
    where
      go : Up X h st ord ⊎ Down X h st ord → AfterCut h k ord
      go (inl u) = cut-lock st.table.workers st.table.settled h st.table st.memory k ord st.table.lock i.told u.places u.head u.shows u.lock c
      go (inr d) =
          let z = steady-cut d.n d.s st.memory k d.rests.steady c in
          nothing_new h k ord d.n d.s i.told
          (record { head = z.1.contents ∙ d.rests.head; shows = shows_same d.n d.s k.current st.memory.current ord z.1 d.rests.shows; steady = z.0 })

  pub keeps_cut : (h : History) (s s' : Depot X) (ord : List Request) → Inv X h s ord → (r : Reply) →
      Does X cut s r s' → Next X ((cut, r) ∷ h) s' ord
  keeps_cut h s s' ord i r d =
      let a = cut_any h s s'.memory ord i d.2 in (
        a.new,
        record {
          told = told-idle X (cut, r) h (ord ++ a.new) (told_grow X h ord a.new i.told a.turns) refl refl refl;
          store = inr (record { n = a.n; s = a.r; table = d.1; run = refl; rests = a.rests });
        },
      )
