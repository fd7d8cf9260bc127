-- Rows of calls that a memory accepts, and where they lead whatever arrivals it adds.
use Rattle.std.proofs.Common.{◌≡◌, ℕ, zero, suc, ◌+◌, ◌/◌, ◌≤◌, Bool, true, cond, List, [], ◌∷◌, ◌++◌, length, sym, refl, ap, ◌∙◌, subst, arith}
use Rattle.std.proofs.lemmas.Bool.{lt-ltb}
use Rattle.memory.specs.Sets.{minus}
use Rattle.memory.specs.Model.{MemoryModel, lines, arrivals}
use Rattle.memory.specs.Calls.{Call, writes, asks, fences, syncs, arrives, Reach, done, next, accepts, effect, each_word, each_line}
use Rattle.memory.specs.Conduct.{Conduct, Keeps, after_calls}
use Rattle.memory.proofs.Copies.{length-copied}
use Rattle.memory.proofs.Runs.{adds_size, write_size}
use Rattle.memory.proofs.Rows.{calls_join}

arrivals_size : (s : ℕ) (m : MemoryModel) → length (arrivals s m).kept ≡ length m.kept
arrivals_size s m = length-copied s m.current m.kept

-- no call changes the size
effect_size : (c : Call) (m : MemoryModel) → length (effect c m).kept ≡ length m.kept
effect_size (writes a v) m = write_size a v m
effect_size (asks i) m = refl
effect_size fences m = arrivals_size m.due m
effect_size syncs m = arrivals_size (minus m.asked m.due) (arrivals m.due m) ∙ arrivals_size m.due m
effect_size (arrives i) m = arrivals_size _ m

pub reach_size : {cs : List Call} {m k : MemoryModel} → Reach cs m k → length k.kept ≡ length m.kept
reach_size done = refl
reach_size (next {m} {c = c} a d r) = reach_size r ∙ adds_size d ∙ effect_size c m

pub reach_join : {cs ds : List Call} {m j k : MemoryModel} → Reach cs m j → Reach ds j k → Reach (cs ++ ds) m k
reach_join done s = s
reach_join (next a d r) s = next a d (reach_join r s)

-- the calls are all accepted, one after another
abbrev pub Leads : (C : Conduct) → List Call → C.State → Type 0
Leads C cs s = Reach cs (C.model s) (C.model (after_calls C cs s))

module _ {C : Conduct} (keeps : Keeps C) where
  leads_more : (c : Call) (cs : List Call) (s : C.State) → accepts c (C.model s) ≡ true → Leads C cs (C.does c s) → Leads C (c ∷ cs) s
  leads_more c cs s a r = subst (λ (b : Bool). Reach (c ∷ cs) (C.model s) (C.model (after_calls C cs (cond b (C.does c s) s)))) (sym a) (next a (keeps.adds c s a) r)

  pub leads_one : (c : Call) (s : C.State) → accepts c (C.model s) ≡ true → Leads C (c ∷ []) s
  leads_one c s a = leads_more c [] s a done

  does_size : (c : Call) (s : C.State) → accepts c (C.model s) ≡ true → length (C.model (C.does c s)).kept ≡ length (C.model s).kept
  does_size c s a = adds_size (keeps.adds c s a) ∙ effect_size c (C.model s)

  pub leads_words : (vs : List ℕ) (a : ℕ) (s : C.State) → a + length vs ≤ length (C.model s).kept → Leads C (each_word a vs) s
  leads_words [] a s b = done
  leads_words (v ∷ vs) a s b =
      let e = lt-ltb a (length (C.model s).kept) (omega arith) in
      let z = does_size (writes a v) s e in
      leads_more (writes a v) (each_word (a + 1) vs) s e (leads_words vs (a + 1) (C.does (writes a v) s) (omega arith))

  pub leads_lines : (n i : ℕ) (s : C.State) → i + n ≤ lines (C.model s) → Leads C (each_line i n) s
  leads_lines zero i s b = done
  leads_lines (suc n) i s b =
      let e = lt-ltb i (lines (C.model s)) (omega arith) in
      let z : lines (C.model (C.does (asks i) s)) ≡ lines (C.model s) = ap (λ (x : ℕ). x / 8) (does_size (asks i) s e) in
      leads_more (asks i) (each_line (suc i) n) s e (leads_lines n (suc i) (C.does (asks i) s) (omega arith))

-- rows side by side
pub leads_join : (C : Conduct) (cs ds : List Call) (s : C.State) → Leads C cs s → Leads C ds (after_calls C cs s) → Leads C (cs ++ ds) s
leads_join C cs ds s p q = subst (λ (t : C.State). Reach (cs ++ ds) (C.model s) (C.model t)) (sym (calls_join C cs ds s)) (reach_join p q)
