-- Each call of a round leads from one stage of the memory to the next.
use Rattle.std.proofs.Common.{◌≡◌, ℕ, ◌+◌, ◌-◌, ◌*◌, ◌/◌, ◌<◌, ◌≤◌, true, ◌⊎◌, List, [], ◌∷◌, length, set, sym, refl, ap, ◌∙◌, subst, inl, inr, arith}
use Rattle.std.proofs.lemmas.Bool.{cases_eq, cond-false, ne_eqb}
use Rattle.std.proofs.lemmas.List.{get_or-set_same, get_or-set_other}
use Rattle.memory.specs.Sets.{mem, with_line}
use Rattle.memory.specs.Model.{MemoryModel, Adds, arrivals, put, write, ask, fence, sync}
use Rattle.memory.specs.Calls.{Reach, done, next, each_word}
use Rattle.memory.proofs.Lines.{over}
use Rattle.memory.proofs.Members.{none_in, put_in, still_in, was_in}
use Rattle.memory.proofs.Arrivals.{Settled, later-arrivals}
use Rattle.memory.proofs.Effects.{put-formed, put-settled, write_plain, ask-formed, fence-formed, sync-formed, sync-lines, sync_keeps, sync-asked, sync-due}
use Rattle.machine.specs.Layout.{record_line, other}
use Rattle.machine.proofs.Stages.{InRecord, Steady, Asking, Fenced, Flipping, Marked, held, waits, came, apart, past_head, other-bit, room-words}
use Rattle.machine.proofs.Lasting.{room_at, asking_later, steady-adds, asking_adds, fenced_adds, flipping-adds, marked_adds, same_index}

-- the line of a word of c lines from b on
line-within : (a b c : ℕ) → 8 * b ≤ a → a < 8 * (b + c) → (b ≤ a / 8) × (a / 8 < b + c)
line-within a b c p q = (omega arith, omega arith)

pub steady-write : (n s a v : ℕ) (m k : MemoryModel) → Steady n s m → 8 * record_line n (other s) ≤ a → a < 8 * (record_line n (other s) + (n + 5)) →
    Adds (write a v m) k → Steady n s k × (k.current ≡ set m.current a v)
steady-write n s a v m k h p q add =
    let w = line-within a (record_line n (other s)) (n + 5) p q in
    let i : InRecord n (other s) (a / 8) = record { from = w.0; below = w.1 } in
    let high = past_head n (other s) (a / 8) i in
    let e = write_plain a v m (none_in (a / 8) h.none_due) in
    let r = h.holds.room in
    let g : Steady n s (put a v m) = record {
      holds = record {
        room = room_at r.bit (put-formed a v m r.formed) refl r;
        contents = put-settled a v m 0 (λ z. omega arith) h.holds.contents;
        index_line = put-settled a v m 1 (λ z. omega arith) h.holds.index_line;
        index = get_or-set_other m.current a 8 v 0 (λ z. omega arith) ∙ h.holds.index;
        in_use = λ l j. put-settled a v m l (λ c. apart n s l (a / 8) r.bit j i (sym c)) (h.holds.in_use l j);
      };
      none_asked = h.none_asked;
      none_due = h.none_due;
      none_late = rw h.none_due h.none_late;
    } in
    steady-adds n s (put a v m) k g (rw e at add)

-- a row of writes into the record that is not settled
pub steady-writes : (n s : ℕ) (vs : List ℕ) (a : ℕ) (m k : MemoryModel) → Steady n s m → 8 * record_line n (other s) ≤ a → a + length vs ≤ 8 * (record_line n (other s) + (n + 5)) →
    Reach (each_word a vs) m k → Steady n s k × (k.current ≡ over m.current a vs)
steady-writes n s [] a m k st lo hi done = (st, refl)
steady-writes n s (v ∷ vs) a m k st lo hi (next {k = j} b d r) =
    let z = steady-write n s a v m j st lo (omega arith) d in
    let y = steady-writes n s vs (a + 1) j k z.0 (omega arith) (omega arith) r in
    (y.0, rw z.1 at y.1)

pub steady_asking : (n s : ℕ) (m : MemoryModel) → Steady n s m → Asking n s 0 m
steady_asking n s m h = record {
  holds = h.holds;
  none_due = h.none_due;
  none_late = h.none_late;
  only = λ l e. absurd (none_in l h.none_asked e);
  reached = λ j lt. absurd (omega arith);
}

pub asking_ask : (n s j : ℕ) (m k : MemoryModel) → Asking n s j m → j < n + 5 → Adds (ask (record_line n (other s) + j) m) k →
    Asking n s (j + 1) k × (k.current ≡ m.current)
asking_ask n s j m k h lt add =
    let l = record_line n (other s) + j in
    let r = h.holds.room in
    let i : InRecord n (other s) l = record { from = omega arith; below = omega arith } in
    let g : Asking n s (j + 1) (ask l m) = record {
      holds = record {
        room = room_at r.bit (ask-formed l m r.formed) refl r;
        contents = h.holds.contents;
        index_line = h.holds.index_line;
        index = h.holds.index;
        in_use = h.holds.in_use;
      };
      none_due = h.none_due;
      none_late = h.none_late;
      only = λ x e. elim (was_in m.asked l x e) [ inl c ↦ subst (λ (y : ℕ). InRecord n (other s) y) (sym c) i | inr c ↦ h.only x c ];
      reached = λ x u. elim (cases_eq x j) [
        | inl c ↦ inl (subst (λ (y : ℕ). mem (with_line m.asked l) (record_line n (other s) + y) ≡ true) (sym c) (put_in m.asked l))
        | inr c ↦ elim (h.reached x (omega arith)) [ inl e ↦ inl (still_in m.asked l (record_line n (other s) + x) e) | inr e ↦ inr e ]
      ];
    } in
    asking_adds n s (j + 1) (ask l m) k g add

pub asking_fence : (n s : ℕ) (m k : MemoryModel) → Asking n s (n + 5) m → Adds (fence m) k → Fenced n s k × (k.current ≡ m.current)
asking_fence n s m k h add =
    let q = asking_later (later-arrivals m.due m h.holds.room.formed) h in
    let r = q.holds.room in
    let g : Fenced n s (fence m) = record {
      holds = record {
        room = room_at r.bit (fence-formed m h.holds.room.formed) refl r;
        contents = q.holds.contents;
        index_line = q.holds.index_line;
        index = q.holds.index;
        in_use = q.holds.in_use;
      };
      none_asked = refl;
      none_late = refl;
      only = q.only;
      coming = λ l i. reached-line (arrivals m.due m) l i q.reached;
    } in
    fenced_adds n s (fence m) k g add
  where
    reached-line : (b : MemoryModel) (l : ℕ) → InRecord n (other s) l →
        ((j : ℕ) → j < n + 5 → (mem b.asked (record_line n (other s) + j) ≡ true) ⊎ Settled b (record_line n (other s) + j)) →
        (mem b.asked l ≡ true) ⊎ Settled b l
    reached-line b l i f =
        let lo = i.from in let hi = i.below in
        let e : record_line n (other s) + (l - record_line n (other s)) ≡ l = omega arith in
        subst (λ (x : ℕ). (mem b.asked x ≡ true) ⊎ Settled b x) e (f (l - record_line n (other s)) (omega arith))

pub fenced_flip : (n s : ℕ) (m k : MemoryModel) → Fenced n s m → Adds (write 8 (other s) m) k →
    Flipping n s k × (k.current ≡ set m.current 8 (other s))
fenced_flip n s m k h add =
    let r = h.holds.room in
    let e = write_plain 8 (other s) m (λ d. let q = past_head n (other s) 1 (h.only 1 d) in omega arith) in
    let word = same_index m.kept m.current h.holds.index_line ∙ h.holds.index in
    let long : 8 < length m.current = let w = room-words r in omega arith in
    let g : Flipping n s (put 8 (other s) m) = record {
      room = room_at r.bit (put-formed 8 (other s) m r.formed) refl r;
      contents = put-settled 8 (other s) m 0 (λ z. omega arith) h.holds.contents;
      in_use = λ l i. put-settled 8 (other s) m l (λ c. let q = past_head n s l i in omega arith) (h.holds.in_use l i);
      index = get_or-set_same m.current 8 (other s) 0 long;
      only = h.only;
      coming = λ l i. elim (h.coming l i) [
        | inl c ↦ inl c
        | inr c ↦ inr (put-settled 8 (other s) m l (λ d. let q = past_head n (other s) l i in omega arith) c)
      ];
      last = elim (cases_eq m.due 0) [
        | inl z ↦ waits z word
        | inr z ↦ held word (ap (λ (x : ℕ). mem x 1) (cond-false _ m.late (with_line m.late 1) (ne_eqb m.due 0 z)) ∙ put_in m.late 1)
      ];
    } in
    flipping-adds n s (put 8 (other s) m) k g (rw e at add)

pub flipping-mark : (n s : ℕ) (m k : MemoryModel) → Flipping n s m → Adds (ask 1 m) k → Marked n s k × (k.current ≡ m.current)
flipping-mark n s m k h add =
    let g : Marked n s (ask 1 m) = record {
      flipping = record {
        room = room_at h.room.bit (ask-formed 1 m h.room.formed) refl h.room;
        contents = h.contents;
        in_use = h.in_use;
        index = h.index;
        only = h.only;
        coming = h.coming;
        last = elim h.last [ held w t ↦ held w t | waits z w ↦ waits z w | came z w ↦ came z w ];
      };
      mark = inl (put_in m.asked 1);
    } in
    marked_adds n s (ask 1 m) k g add

pub marked_sync : (n s : ℕ) (m k : MemoryModel) → Marked n s m → Adds (sync m) k → Steady n (other s) k × (k.current ≡ m.current)
marked_sync n s m k h add =
    let f = h.flipping in
    let z = f.room.formed in
    let g : Steady n (other s) (sync m) = record {
      holds = record {
        room = room_at (other-bit s f.room.bit) (sync-formed m z) (sync-lines m z) f.room;
        contents = sync_keeps m z 0 f.contents;
        index_line = elim h.mark [ inl c ↦ sync-asked m z 1 c | inr c ↦ sync_keeps m z 1 c ];
        index = f.index;
        in_use = λ l i. elim (f.coming l i) [ inl c ↦ sync-due m z l c | inr c ↦ sync_keeps m z l c ];
      };
      none_asked = refl;
      none_due = refl;
      none_late = refl;
    } in
    steady-adds n (other s) (sync m) k g add
