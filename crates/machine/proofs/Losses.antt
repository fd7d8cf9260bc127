-- What a cut leaves of each stage.
use Rattle.std.proofs.Common.{◌≡◌, ℕ, ◌<◌, ◌⊎◌, get_or, sym, refl, ap, ◌∙◌, subst, inl, inr}
use Rattle.memory.specs.Model.{MemoryModel, line, cut}
use Rattle.memory.specs.Post.{CutTo}
use Rattle.memory.proofs.Members.{none_in}
use Rattle.memory.proofs.Arrivals.{Settled, later-adds}
use Rattle.memory.proofs.Effects.{cut-formed}
use Rattle.machine.specs.Layout.{other}
use Rattle.machine.proofs.Stages.{InRecord, Room, Kept, Steady, Asking, Fenced, Flipping, held, waits, came, SameRecord, other-bit}
use Rattle.machine.proofs.Lasting.{room_at, kept-later, same_index, flipping-adds}

-- a reader of record r finds it as it was
abbrev pub Found : ℕ → ℕ → MemoryModel → MemoryModel → Type 0
Found n r m k = Steady n r k × SameRecord n r k.current m.current

-- what a cut of j leaves, where the index word that arrived names record r and that record arrived whole
lost : (n s r : ℕ) (m j : MemoryModel) → r < 2 → Room n s j → j.current ≡ m.current → Settled j 0 → get_or j.kept 8 0 ≡ r →
    ((l : ℕ) → InRecord n r l → Settled j l) → Found n r m (cut j)
lost n s r m j b room e c i all = (
  record {
    holds = record { room = room_at b (cut-formed j room.formed) refl room; contents = refl; index_line = refl; index = i; in_use = λ l k. refl };
    none_asked = refl;
    none_due = refl;
    none_late = refl;
  },
  record { contents = c ∙ ap (line 0) e; lines_same = λ l k. all l k ∙ ap (line l) e },
)

kept-cut : (n s : ℕ) (m k : MemoryModel) → Kept n s m → CutTo m k → Found n s m k
kept-cut n s m k h (j, a, e) =
    let p = later-adds h.room.formed a in
    let q = kept-later p h in
    subst (λ (z : MemoryModel). Found n s m z) (sym e)
    (lost n s s m j q.room.bit q.room p.same_current q.contents (same_index j.kept j.current q.index_line ∙ q.index) q.in_use)

pub steady-cut : (n s : ℕ) (m k : MemoryModel) → Steady n s m → CutTo m k → Found n s m k
steady-cut n s m k h c = kept-cut n s m k h.holds c

pub asking_cut : (n s j : ℕ) (m k : MemoryModel) → Asking n s j m → CutTo m k → Found n s m k
asking_cut n s j m k h c = kept-cut n s m k h.holds c

pub fenced_cut : (n s : ℕ) (m k : MemoryModel) → Fenced n s m → CutTo m k → Found n s m k
fenced_cut n s m k h c = kept-cut n s m k h.holds c

-- after the Flip either record may be found
pub flipping-cut : (n s : ℕ) (m k : MemoryModel) → Flipping n s m → CutTo m k → Found n s m k ⊎ Found n (other s) m k
flipping-cut n s m k h (j, a, e) =
    let z = flipping-adds n s m j h a in
    subst (λ (y : MemoryModel). Found n s m y ⊎ Found n (other s) m y) (sym e) (go z.0 z.1)
  where
    go : Flipping n s j → j.current ≡ m.current → Found n s m (cut j) ⊎ Found n (other s) m (cut j)
    go f e = elim f.last [
      | held w t ↦ inl (lost n s s m j f.room.bit f.room e f.contents w f.in_use)
      | waits z w ↦ inl (lost n s s m j f.room.bit f.room e f.contents w f.in_use)
      | came z w ↦ inr (lost n s (other s) m j (other-bit s f.room.bit) f.room e f.contents w
          (λ l i. elim (f.coming l i) [ inl c ↦ absurd (none_in l z c) | inr c ↦ c ]))
    ]
