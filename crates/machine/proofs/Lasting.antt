-- Each stage lasts through arrivals.
use Rattle.std.proofs.Common.{◌≡◌, ℕ, ◌<◌, true, ◌⊎◌, List, get_or, sym, ap, ◌∙◌, subst, inl, inr, arith}
use Rattle.std.proofs.lemmas.Bool.{cases_eq, both_ways}
use Rattle.memory.specs.Model.{MemoryModel, Adds, none, more, line, lines, allowed, arrival}
use Rattle.memory.specs.Post.{Formed}
use Rattle.memory.proofs.Lines.{line_first}
use Rattle.memory.proofs.Arrivals.{Settled, Later, later-adds, later-arrivals, arrival_settles, arrival_leaves, late_stays, Allowed, no_due, is_due, not_late, why_allowed}
use Rattle.machine.specs.Layout.{other}
use Rattle.machine.proofs.Stages.{Room, Kept, Steady, Asking, Fenced, Flipping, Marked, Index, held, waits, came, past_head}

-- the room stays, for either record
pub room_at : {n s r : ℕ} {m k : MemoryModel} → r < 2 → Formed k → lines k ≡ lines m → Room n s m → Room n r k
room_at b h e r = record { some = r.some; most = r.most; bit = b; formed = h; fits = rw e r.fits }

module _ {m k : MemoryModel} (p : Later m k) where
  pub room-later : {n s : ℕ} → Room n s m → Room n s k
  room-later r = room_at r.bit p.formed p.same_lines r

  pub kept-later : {n s : ℕ} → Kept n s m → Kept n s k
  kept-later h = record {
    room = room-later h.room;
    contents = p.settled 0 h.contents;
    index_line = p.settled 1 h.index_line;
    index = rw p.same_current h.index;
    in_use = λ l i. p.settled l (h.in_use l i);
  }

  pub steady-later : {n s : ℕ} → Steady n s m → Steady n s k
  steady-later h = record {
    holds = kept-later h.holds;
    none_asked = p.none_asked h.none_asked;
    none_due = p.none_due h.none_due;
    none_late = p.none_late h.none_late;
  }

  pub asking_later : {n s j : ℕ} → Asking n s j m → Asking n s j k
  asking_later h = record {
    holds = kept-later h.holds;
    none_due = p.none_due h.none_due;
    none_late = p.none_late h.none_late;
    only = λ l e. h.only l (p.fewer_asked l e);
    reached = λ j lt. elim (h.reached j lt) [ inl e ↦ p.after_asked _ e | inr e ↦ inr (p.settled _ e) ];
  }

  pub fenced_later : {n s : ℕ} → Fenced n s m → Fenced n s k
  fenced_later h = record {
    holds = kept-later h.holds;
    none_asked = p.none_asked h.none_asked;
    none_late = p.none_late h.none_late;
    only = λ l e. h.only l (p.fewer_due l e);
    coming = λ l i. elim (h.coming l i) [ inl e ↦ p.after_due l e | inr e ↦ inr (p.settled l e) ];
  }

-- arrivals of the memory's own choice keep a stage and what is read
abbrev pub Lasts : (MemoryModel → Type 0) → Type 0
Lasts P = (m k : MemoryModel) → P m → Adds m k → P k × (k.current ≡ m.current)

pub steady-adds : (n s : ℕ) → Lasts (Steady n s)
steady-adds n s m k h a = let p = later-adds h.holds.room.formed a in (steady-later p h, p.same_current)

pub asking_adds : (n s j : ℕ) → Lasts (Asking n s j)
asking_adds n s j m k h a = let p = later-adds h.holds.room.formed a in (asking_later p h, p.same_current)

pub fenced_adds : (n s : ℕ) → Lasts (Fenced n s)
fenced_adds n s m k h a = let p = later-adds h.holds.room.formed a in (fenced_later p h, p.same_current)

-- the index word follows line 1
pub same_index : (a b : List ℕ) → line 1 a ≡ line 1 b → get_or a 8 0 ≡ get_or b 8 0
same_index a b e = line_first 1 a ∙ ap (λ (x : List ℕ). get_or x 0 0) e ∙ sym (line_first 1 b)

-- one allowed arrival after the Flip
module _ {n s : ℕ} {m : MemoryModel} (l : ℕ) (h : Flipping n s m) (ok : allowed l m ≡ true) where
  step : Later m (arrival l m)
  step = later-arrivals _ m h.room.formed

  arrived : l ≡ 1 → get_or (arrival l m).kept 8 0 ≡ other s
  arrived e = same_index (arrival l m).kept m.current (subst (λ (j : ℕ). Settled (arrival l m) j) e (arrival_settles l m h.room.formed)) ∙ h.index

  unmoved : (l ≡ 1 → ⊥) → get_or (arrival l m).kept 8 0 ≡ get_or m.kept 8 0
  unmoved n = same_index (arrival l m).kept m.kept (arrival_leaves l m h.room.formed 1 (λ e. n (sym e)))

  next : Index s m → Allowed l m → (l ≡ 1) ⊎ (l ≡ 1 → ⊥) → Index s (arrival l m)
  next i (no_due z) (inl e) = came (step.none_due z) (arrived e)
  next (held w t) (is_due d) (inl e) = absurd (let q = past_head n (other s) l (h.only l d) in omega arith)
  next (held w t) (not_late f) (inl e) = absurd (both_ways _ f (rw (sym e) at t))
  next (waits z w) (is_due d) (inl e) = came (step.none_due z) (arrived e)
  next (waits z w) (not_late f) (inl e) = came (step.none_due z) (arrived e)
  next (came z w) (is_due d) (inl e) = came (step.none_due z) (arrived e)
  next (came z w) (not_late f) (inl e) = came (step.none_due z) (arrived e)
  next (held w t) a (inr n) = elim (cases_eq (arrival l m).due 0) [
    | inl z ↦ waits z (unmoved n ∙ w)
    | inr k ↦ held (unmoved n ∙ w) (rw (late_stays l m k) t)
  ]
  next (waits z w) a (inr n) = waits (step.none_due z) (unmoved n ∙ w)
  next (came z w) a (inr n) = came (step.none_due z) (unmoved n ∙ w)

  flipping-arrival : Flipping n s (arrival l m)
  flipping-arrival = record {
    room = room-later step h.room;
    contents = step.settled 0 h.contents;
    in_use = λ l i. step.settled l (h.in_use l i);
    index = h.index;
    only = λ j e. h.only j (step.fewer_due j e);
    coming = λ j i. elim (h.coming j i) [ inl e ↦ step.after_due j e | inr e ↦ inr (step.settled j e) ];
    last = next h.last (why_allowed l m ok) (cases_eq l 1);
  }

flipping_through : {n s : ℕ} {m k : MemoryModel} → Flipping n s m → Adds m k → Flipping n s k
flipping_through h none = h
flipping_through h (more l b ok a) = flipping_through (flipping-arrival l h ok) a

pub flipping-adds : (n s : ℕ) → Lasts (Flipping n s)
flipping-adds n s m k h a = (flipping_through h a, (later-adds h.room.formed a).same_current)

pub marked_adds : (n s : ℕ) → Lasts (Marked n s)
marked_adds n s m k h a =
    let p = later-adds h.flipping.room.formed a in (
      record {
        flipping = flipping_through h.flipping a;
        mark = elim h.mark [ inl e ↦ p.after_asked 1 e | inr e ↦ inr (p.settled 1 e) ];
      },
      p.same_current,
    )
