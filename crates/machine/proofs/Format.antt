-- A format leaves a steady memory that holds the words it wrote.
use Rattle.std.proofs.Common.{◌≡◌, ℕ, zero, suc, ◌+◌, ◌*◌, ◌<◌, ◌≤◌, true, ◌⊎◌, List, [], ◌∷◌, ◌++◌, length, get_or, take, replicate, sym, refl, ap, ◌∙◌, subst, inl, inr, arith, length-append}
use lib.ListN.{length-replicate}
use Rattle.std.proofs.lemmas.Bool.{cases_eq}
use Rattle.std.proofs.lemmas.List.{get_or-take}
use Rattle.memory.specs.Sets.{mem, with_line}
use Rattle.memory.specs.Model.{MemoryModel, Adds, lines, ask, sync}
use Rattle.memory.specs.Post.{Formed}
use Rattle.memory.specs.Calls.{Reach, done, next, each_word, each_line}
use Rattle.memory.proofs.Lines.{over, over-front}
use Rattle.memory.proofs.Members.{put_in, still_in}
use Rattle.memory.proofs.Arrivals.{Settled, later-adds}
use Rattle.memory.proofs.Effects.{write-formed, write-lines, write-current, ask-formed, sync-formed, sync-lines, sync_keeps, sync-asked, reach_one, reach_append}
use Rattle.machine.specs.Layout.{format_words, format_calls}
use Rattle.machine.proofs.Stages.{Steady, within}
use Rattle.machine.proofs.Lasting.{steady-adds}

-- m with another image to read
record Has (m k : MemoryModel) (image : List ℕ) : Type 0 where
  formed : Formed k
  same_lines : lines k ≡ lines m
  reads : k.current ≡ image

wrote : (a : ℕ) (vs : List ℕ) (m k : MemoryModel) → Formed m → Reach (each_word a vs) m k → Has m k (over m.current a vs)
wrote a [] m k h done = record { formed = h; same_lines = refl; reads = refl }
wrote a (v ∷ vs) m k h (next {k = j} b add r) =
    let p = later-adds (write-formed a v m h) add in
    let q = wrote (a + 1) vs j k p.formed r in
    record {
      formed = q.formed;
      same_lines = q.same_lines ∙ p.same_lines ∙ write-lines a v m h;
      reads = q.reads ∙ ap (λ (x : List ℕ). over x (a + 1) vs) (p.same_current ∙ write-current a v m h);
    }

-- every line below l is asked or settled
abbrev Reached : ℕ → MemoryModel → Type 0
Reached l m = (i : ℕ) → i < l → (mem m.asked i ≡ true) ⊎ Settled m i

one_asked : (l : ℕ) (m k : MemoryModel) → Formed m → Reached l m → Adds (ask l m) k → Has m k m.current × Reached (suc l) k
one_asked l m k h f add =
    let p = later-adds (ask-formed l m h) add in (
      record { formed = p.formed; same_lines = p.same_lines; reads = p.same_current },
      λ i lt. elim (cases_eq i l) [
        | inl e ↦ p.after_asked i (subst (λ (x : ℕ). mem (with_line m.asked x) i ≡ true) e (put_in m.asked i))
        | inr n ↦ elim (f i (omega arith)) [ inl e ↦ p.after_asked i (still_in m.asked l i e) | inr e ↦ inr (p.settled i e) ]
      ],
    )

asked-all : (l c : ℕ) (m k : MemoryModel) → Formed m → Reached l m → Reach (each_line l c) m k → Has m k m.current × Reached (l + c) k
asked-all l zero m k h f done = let e : l + 0 ≡ l = omega arith in (record { formed = h; same_lines = refl; reads = refl }, rw e f)
asked-all l (suc c) m k h f (next {k = j} b add r) =
    let p = one_asked l m j h f add in
    let q = asked-all (suc l) c j k p.0.formed p.1 r in
    let e : l + suc c ≡ suc l + c = omega arith in
    (record { formed = q.0.formed; same_lines = q.0.same_lines ∙ p.0.same_lines; reads = q.0.reads ∙ p.0.reads }, rw e q.1)

pub length_format : (kind : ℕ) (picture : List ℕ) (n : ℕ) → length picture ≡ 40 → length (format_words kind picture n) ≡ 8 * (2 * n + 12)
length_format kind picture n a =
    let us : List ℕ = replicate (8 * n) 0 in
    let vs : List ℕ = replicate (8 * (n + 5)) 0 in
    let b : length vs ≡ 8 * (n + 5) = length-replicate (8 * (n + 5)) 0 in
    let c : length us ≡ 8 * n = length-replicate (8 * n) 0 in
    let d : length (picture ++ vs) ≡ length picture + length vs = length-append picture vs in
    let e : length (us ++ (picture ++ vs)) ≡ length us + length (picture ++ vs) = length-append us (picture ++ vs) in
    omega arith

-- over any words that fill the lines used and have the index 0
format_over : (n : ℕ) (ws : List ℕ) (m j i k : MemoryModel) → 1 ≤ n → n ≤ 8 → Formed m → 2 * n + 12 ≤ lines m →
    length ws ≡ 8 * (2 * n + 12) → get_or ws 8 0 ≡ 0 →
    Reach (each_word 0 ws) m j → Reach (each_line 0 (2 * n + 12)) j i → Adds (sync i) k →
    Steady n 0 k × (take (8 * (2 * n + 12)) k.current ≡ ws)
format_over n ws m j i k some most h room len index writing asking syncing =
    let w = wrote 0 ws m j h writing in
    let f : Reached 0 j = λ x lt. absurd (omega arith) in
    let q = asked-all 0 (2 * n + 12) j i w.formed f asking in
    let z = q.0.formed in
    let there : (l : ℕ) → l < 2 * n + 12 → Settled (sync i) l = λ l lt. elim (q.1 l (omega arith)) [ inl e ↦ sync-asked i z l e | inr e ↦ sync_keeps i z l e ] in
    let reads : i.current ≡ over m.current 0 ws = q.0.reads ∙ w.reads in
    let long : length ws ≤ length m.current = let a = h.images in let b = h.whole in omega arith in
    let front : take (8 * (2 * n + 12)) i.current ≡ ws = rw (reads, ← len) (over-front m.current ws long) in
    let st : Steady n 0 (sync i) = record {
      holds = record {
        room = record { some = some; most = most; bit = omega arith; formed = sync-formed i z; fits = rw (sync-lines i z ∙ q.0.same_lines ∙ w.same_lines) room };
        contents = there 0 (omega arith);
        index_line = there 1 (omega arith);
        index = sym (get_or-take (8 * (2 * n + 12)) i.current 8 0 (omega arith)) ∙ ap (λ (x : List ℕ). get_or x 8 0) front ∙ index;
        in_use = λ l r. there l (within n 0 l (omega arith) r);
      };
      none_asked = refl;
      none_due = refl;
      none_late = refl;
    } in
    let y = steady-adds n 0 (sync i) k st syncing in
    (y.0, ap (take (8 * (2 * n + 12))) y.1 ∙ front)

pub format_steady : (kind : ℕ) (picture : List ℕ) (n : ℕ) (m k : MemoryModel) → length picture ≡ 40 → 1 ≤ n → n ≤ 8 → Formed m → 2 * n + 12 ≤ lines m →
    Reach (format_calls kind picture n) m k → Steady n 0 k × (take (8 * (2 * n + 12)) k.current ≡ format_words kind picture n)
unfolding format_calls
format_steady kind picture n m k wide some most h room r =
    let ws = format_words kind picture n in
    let a = reach_append (each_word 0 ws) r in
    let b = reach_append (each_line 0 (2 * n + 12)) a.2 in
    format_over n ws m a.0 b.0 k some most h room (length_format kind picture n wide) refl a.1 b.1 (reach_one b.2)
