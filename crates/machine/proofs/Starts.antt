-- What a start finds, and that an up store shows its order.
use Rattle.std.proofs.Common.{◌≡◌, ℕ, ◌+◌, ◌*◌, ◌<◌, true, false, eqb, ltb, leb, ◌⊎◌, List, [], ◌∷◌, ◌++◌, get_or, take, drop, replicate, Some, None, refl, ap, ◌∙◌, inl, inr, append-nil, arith, take_all}
use lib.ListN.{get_or-replicate}
use Rattle.std.specs.Str.{bytes_eq}
use Rattle.std.proofs.lemmas.Slice.Eq.{bytes_eq-Decides}
use Rattle.std.proofs.lemmas.Bool.{lt-ltb, le-leb, eq-eqb, both_ways}
use Rattle.memory.specs.Model.{MemoryModel, lines}
use Rattle.memory.proofs.Lines.{line_word, lines_are, line_first}
use Rattle.objects.specs.Model.{ObjectModel, Lawful}
use Rattle.machine.specs.declared.refusal.Refusal.TheVariants.{NotDown}
use Rattle.machine.specs.Layout.{record_line, contents, object_words}
use Rattle.machine.specs.Machine.{Place, Table}
use Rattle.machine.specs.Machine.{Place.free}
use Rattle.machine.specs.Calls.{Reply, up_table, Outcome, started}
use Rattle.machine.specs.Calls.{Call.cut, Call.start, Reply.ok, Reply.refused}
use Rattle.machine.specs.Run.{History, Store as Depot, Does}
use Rattle.machine.specs.Order.{Request, Finds, running, state_after, Flipped, served_by}
use Rattle.machine.proofs.Invariant.{Pictured, Up, Rests, Down, Inv}
use Rattle.machine.proofs.Moves.{Next, same-order, inv_idle, depot_path}
use Rattle.machine.proofs.History.{told-idle}
use Rattle.machine.proofs.Cuts.{cut_any}

module _ (X : ObjectModel) (law : Lawful X) where
  pub object-read : (n r : ℕ) (image : List ℕ) (x : X.State) → Pictured X n r image 5 x → X.reads (object_words image n r) ≡ Some x
  object-read n r image x k =
      let e : take (8 * 5) (drop (8 * (record_line n r + n)) image) ≡ take (8 * 5) (X.picture x) = lines_are 5 (record_line n r + n) image (X.picture x) k in
      let f : take 40 (X.picture x) ≡ X.picture x = take_all 40 (X.picture x) (rw (law.long x) (omega arith)) in
      rw (e, f) (law.back x)

  -- a start on what a cut or a format leaves
  start-rests : (n s : ℕ) (t : Table X) (m : MemoryModel) (ord : List Request) → t.up ≡ false → Rests X n s m ord → started X t m ≡ (ok, up_table X n s)
  start-rests n s t m ord up k =
      let room = k.steady.holds.room in
      let a : get_or m.current 2 0 ≡ n = line_word 0 2 m.current (omega arith) ∙ ap (λ (ws : List ℕ). get_or ws 2 0) k.head in
      let b : get_or m.current 1 0 ≡ X.kind = line_word 0 1 m.current (omega arith) ∙ ap (λ (ws : List ℕ). get_or ws 1 0) k.head in
      let c : get_or m.current 8 0 ≡ s = k.steady.holds.index in
      let d : leb 14 (lines m) ≡ true = le-leb 14 (lines m) (omega arith) in
      let e : leb 1 n ≡ true = le-leb 1 n room.some in
      let f : leb n 8 ≡ true = le-leb n 8 room.most in
      let g : leb (2 * n + 12) (lines m) ≡ true = le-leb (2 * n + 12) (lines m) room.fits in
      let o : take 8 m.current ≡ contents X.kind n = k.head in
      let p : bytes_eq (contents X.kind n) (contents X.kind n) ≡ true = (bytes_eq-Decides (contents X.kind n) (contents X.kind n)).1 refl in
      let q : eqb X.kind X.kind ≡ true = eq-eqb X.kind X.kind refl in
      let v : ltb s 2 ≡ true = lt-ltb s 2 room.bit in
      let x : X.reads (object_words m.current n s) ≡ Some (state_after X ord) = object-read n s m.current (state_after X ord) k.shows.object in
      rw (up, d, a, b, o, e, f, p, g, b, c, q, v, x) refl

  finds : (n s : ℕ) (m : MemoryModel) (ord : List Request) → Rests X n s m ord → Finds X (record { table = up_table X n s; memory = m }) ord
  finds n s m ord k = record {
    pictured = object-read n s m.current (state_after X ord) k.shows.object;
    counted = λ w b. line_first (record_line n s + w) m.current ∙ (k.shows.workers w b).count;
  }

  all-free : (w : ℕ) → w < 8 → get_or {A = Place} (replicate 8 free) w free ≡ free
  all-free w b = get_or-replicate 8 w free free b

  comes_up : (n s : ℕ) (h : History) (m : MemoryModel) (ord : List Request) → running h ≡ None → Rests X n s m ord → Up X h (record { table = up_table X n s; memory = m }) ord
  comes_up n s h m ord e k =
      let room = k.steady.holds.room in
      record {
        some = room.some;
        most = room.most;
        bit = room.bit;
        is_up = refl;
        eight = refl;
        places = λ w b. rw (all-free w (omega arith)) tt;
        head = k.head;
        shows = k.shows;
        lock = record { run = e; all = λ v b. rw (all-free v (omega arith)) tt; steady = k.steady };
      }

  pub keeps_start : (h : History) (s s' : Depot X) (ord : List Request) → Inv X h s ord → (r : Reply) →
      Does X start s r s' → Next X ((start, r) ∷ h) s' ord
  keeps_start h s s' ord i r d = same-order X ((start, r) ∷ h) s' ord (go i.store)
    where
      go : Up X h s ord ⊎ Down X h s ord → Inv X ((start, r) ∷ h) s' ord
      go (inl u) =
          let e : started X s.table s.memory ≡ (refused NotDown, s.table) = rw u.is_up refl in
          let p : s' ≡ s = depot_path X s' s.table s.memory (d.1 ∙ ap (λ (o : Outcome X). o.1) e) d.2 in
          rw p (inv_idle X (start, r) h s ord i refl refl refl refl)
      go (inr k) =
          let up : s.table.up ≡ false = rw k.table refl in
          let e : started X s.table s.memory ≡ (ok, up_table X k.n k.s) = start-rests k.n k.s s.table s.memory ord up k.rests in
          let p : s' ≡ record { table = up_table X k.n k.s; memory = s.memory } =
          depot_path X s' (up_table X k.n k.s) s.memory (d.1 ∙ ap (λ (o : Outcome X). o.1) e) d.2 in
          rw p (record {
            told = told-idle X (start, r) h ord i.told refl refl refl;
            store = inl (comes_up k.n k.s ((start, r) ∷ h) s.memory ord k.run k.rests);
          })

  pub found_after : (h : History) (s : Depot X) (ord : List Request) → Inv X h s ord →
      (r₁ r₂ : Reply) (s₁ s₂ : Depot X) → Does X cut s r₁ s₁ → Does X start s₁ r₂ s₂ →
      (r₂ ≡ ok) × (Finds X s₂ ord ⊎ (Flipped (running h) × Finds X s₂ (ord ++ served_by (running h))))
  found_after h s ord i r₁ r₂ s₁ s₂ d e =
      let a = cut_any X h s s₁.memory ord i d.2 in
      let up : s₁.table.up ≡ false = rw d.1 refl in
      let f : started X s₁.table s₁.memory ≡ (ok, up_table X a.n a.r) = start-rests a.n a.r s₁.table s₁.memory (ord ++ a.new) up a.rests in
      let p : s₂ ≡ record { table = up_table X a.n a.r; memory = s₁.memory } =
      depot_path X s₂ (up_table X a.n a.r) s₁.memory (e.1 ∙ ap (λ (o : Outcome X). o.1) f) e.2 in
      let k : Finds X s₂ (ord ++ a.new) = rw p (finds a.n a.r s₁.memory (ord ++ a.new) a.rests) in
      (e.0 ∙ ap (λ (o : Outcome X). o.0) f, go a.new k a.which)
    where
      go : (new : List Request) → Finds X s₂ (ord ++ new) → (new ≡ []) ⊎ (Flipped (running h) × (new ≡ served_by (running h))) →
          Finds X s₂ ord ⊎ (Flipped (running h) × Finds X s₂ (ord ++ served_by (running h)))
      go new k (inl q) = inl (rw (q, append-nil ord) at k)
      go new k (inr (f, q)) = inr (f, rw q at k)

  -- an up store shows the order that explains its calls
  pub up_finds : (h : History) (s : Depot X) (ord : List Request) → Inv X h s ord → s.table.up ≡ true → Finds X s ord
  up_finds h s ord i e = go i.store
    where
      go : Up X h s ord ⊎ Down X h s ord → Finds X s ord
      go (inl u) = record {
        pictured = object-read s.table.workers s.table.settled s.memory.current (state_after X ord) u.shows.object;
        counted = λ w b. line_first (record_line s.table.workers s.table.settled + w) s.memory.current ∙ (u.shows.workers w b).count;
      }
      go (inr k) =
          let up : s.table.up ≡ false = rw k.table refl in
          absurd (both_ways s.table.up up e)
