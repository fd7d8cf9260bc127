-- A holder's step within its round: what every phase shares.
use Rattle.std.proofs.Common.{◌≡◌, ℕ, ◌+◌, ◌*◌, ◌<◌, ◌≤◌, ◌≢◌, ◌⊎◌, List, ◌∷◌, length, get_or, set, Some, None, Option, sym, refl, ap, ◌∙◌, subst, inl, inr, arith, length-set, get_or-set_other, get_or-set_same}
use Rattle.std.proofs.lemmas.Bool.{cases_eq}
use Rattle.memory.specs.Model.{MemoryModel, line}
use Rattle.memory.proofs.Lines.{set_line, over, over-other}
use Rattle.objects.specs.Model.{ObjectModel}
use Rattle.machine.specs.declared.steps.StepAnswer.{StepAnswer}
use Rattle.machine.specs.declared.phase.Phase.{Phase}
use Rattle.machine.specs.Layout.{other}
use Rattle.machine.specs.Machine.{Place, Table, place_of}
use Rattle.machine.specs.Machine.{Place.free, Place.waiting}
use Rattle.machine.specs.Calls.{Call, Reply}
use Rattle.machine.specs.Calls.{Call.step, Reply.stepped}
use Rattle.machine.specs.Run.{History, Store as Depot}
use Rattle.machine.specs.Order.{Request, of_worker, last_of, answered_by, accepted, becomes}
use Rattle.machine.proofs.Stages.{SameRecord, InRecord, apart, within, past_head}
use Rattle.machine.proofs.Invariant.{Outside, Matches, PlaceOk, Inside, Held, LockOk, Up}
use Rattle.machine.proofs.Moves.{Next, place-history, each-place, depot_path}
use Rattle.machine.proofs.Cuts.{shows_same}

-- a step that finds no answer makes nothing answered
pub quiet_step : (w : ℕ) (c : StepAnswer) (h : History) → ((o : Option Request) → becomes c o ≡ None) → answered_by (step w, stepped c) h ≡ None
quiet_step w c h e = e (last_of w h)

pub match_phase : (w : ℕ) (ord : List Request) (t op arg : ℕ) (p p' : Phase) (qs : List Request) →
    Matches w ord (waiting t op arg p) qs → Matches w ord (waiting t op arg p') qs
match_phase w ord t op arg p p' qs (inl e) = inl e
match_phase w ord t op arg p p' qs (inr (t₂, op₂, arg₂, p₂, pl, q, l)) =
    let f : waiting t op arg p' ≡ waiting t₂ op₂ arg₂ p' = cc in
    inr (t₂, op₂, arg₂, p', f, q, l)

pub same_now : (n s : ℕ) (a b : List ℕ) → a ≡ b → SameRecord n s a b
same_now n s a b e = record { contents = ap (line 0) e; lines_same = λ l i. ap (line l) e }

-- eight words written over a line of the record that is not settled leave the settled one
pub over-same : (n s l : ℕ) (image vs : List ℕ) → s < 2 → InRecord n (other s) l → length vs ≡ 8 → 8 * (2 * n + 12) ≤ length image →
    SameRecord n s (over image (8 * l) vs) image
over-same n s l image vs b i e room = record {
  contents = over-other image l 0 vs e (λ z. let c = past_head n (other s) l i in omega arith) (omega arith);
  lines_same = λ k j. over-other image l k vs e (apart n s k l b j i) (let c = within n s k b j in omega arith);
}

pub flip-same : (n s v : ℕ) (image : List ℕ) → SameRecord n s (set image 8 v) image
flip-same n s v image = record {
  contents = set_line image 8 v 0 (λ z. omega arith);
  lines_same = λ k j. set_line image 8 v k (λ z. let c = past_head n s k j in omega arith);
}

module _ (X : ObjectModel) where
  -- the holder's place moves to another phase; the round's own words may change
  abbrev pub turned : Table X → ℕ → Place → List ℕ → X.State → Table X
  turned t w pl l x = record {
    up = t.up;
    workers = t.workers;
    settled = t.settled;
    places = set t.places w pl;
    lock = t.lock;
    loaded = l;
    working = x;
  }

  pub up_turn : (e : Call × Reply) (h : History) (t : Table X) (m k : MemoryModel) (ord : List Request) (u : Up X h (record { table = t; memory = m }) ord) (w : ℕ)
      (held : Held X t.workers t.settled h t m ord w) (p : Phase) (l : List ℕ) (x : X.State) → t.lock ≡ Some w → accepted e ≡ None →
      SameRecord t.workers t.settled k.current m.current →
      Inside X t.workers t.settled (e ∷ h) (turned t w (waiting held.turn held.op held.arg p) l x) k ord p →
      Up X (e ∷ h) (record { table = turned t w (waiting held.turn held.op held.arg p) l x; memory = k }) ord
  up_turn e h t m k ord u w held p l x lock a same i =
      let pl : Place = waiting held.turn held.op held.arg p in
      let b : w < t.workers = held.below in
      let b8 : w < length t.places = rw u.eight (let c = u.most in omega arith) in
      let f : get_or (set t.places w pl) w free ≡ pl = get_or-set_same t.places w pl free b8 in
      record {
        some = u.some;
        most = u.most;
        bit = u.bit;
        is_up = u.is_up;
        eight = length-set t.places w pl ∙ u.eight;
        places = λ v c. places f v c (cases_eq v w);
        head = same.contents ∙ u.head;
        shows = shows_same X t.workers t.settled k.current m.current ord same u.shows;
        lock = subst (λ (z : Option ℕ). LockOk X t.workers t.settled (e ∷ h) (turned t w pl l x) k ord z) (sym lock) (record {
          below = b;
          turn = held.turn;
          op = held.op;
          arg = held.arg;
          phase = p;
          place = f;
          others = others;
          inside = i;
        });
      }
    where
      places : get_or (set t.places w (waiting held.turn held.op held.arg p)) w free ≡ waiting held.turn held.op held.arg p →
          (v : ℕ) → v < t.workers → (v ≡ w) ⊎ (v ≡ w → ⊥) → PlaceOk X v (e ∷ h) ord (get_or (set t.places w (waiting held.turn held.op held.arg p)) v free)
      places f v c (inl q) =
          let g : PlaceOk X w h ord (waiting held.turn held.op held.arg held.phase) = rw held.place at (u.places w held.below) in
          rw (q, f) (place-history X w h (e ∷ h) ord (waiting held.turn held.op held.arg p) (rw a) (λ z. rw a) g)
      places f v c (inr ne) =
          let g : get_or (set t.places w (waiting held.turn held.op held.arg p)) v free ≡ get_or t.places v free = get_or-set_other t.places w v _ free ne in
          rw g (place-history X v h (e ∷ h) ord (place_of X t v) (rw a) (λ z. rw a) (u.places v c))

      others : (v : ℕ) → v < t.workers → v ≢ w → Outside (get_or (set t.places w (waiting held.turn held.op held.arg p)) v free)
      others v c ne =
          let g : get_or (set t.places w (waiting held.turn held.op held.arg p)) v free ≡ get_or t.places v free = get_or-set_other t.places w v _ free ne in
          rw g (held.others v c ne)

  -- the served requests match the places, whatever the holder's phase
  pub each_turn : (h : History) (t : Table X) (m : MemoryModel) (ord served : List Request) (u : Up X h (record { table = t; memory = m }) ord) (w : ℕ)
      (held : Held X t.workers t.settled h t m ord w) (p : Phase) →
      ((v : ℕ) → Matches v ord (place_of X t v) (of_worker v served)) →
      ((v : ℕ) → Matches v ord (get_or (set t.places w (waiting held.turn held.op held.arg p)) v free) (of_worker v served))
  each_turn h t m ord served u w held p k =
      let b : w < t.workers = held.below in
      each-place X t.workers t.settled t w (waiting held.turn held.op held.arg p) ord served (rw u.eight (let c = u.most in omega arith))
      (λ qs x. match_phase w ord held.turn held.op held.arg held.phase p qs (rw held.place at x)) k

  -- a step of the holder that changes neither the round's account nor what is read
  pub stepped_to : (h : History) (s s' : Depot X) (ord : List Request) (w : ℕ) (c : StepAnswer) (r : Reply) (t : Table X) →
      r ≡ stepped c → s'.table ≡ t → Next X ((step w, stepped c) ∷ h) (record { table = t; memory = s'.memory }) ord → Next X ((step w, r) ∷ h) s' ord
  stepped_to h s s' ord w c r t a b i =
      let p : s' ≡ record { table = t; memory = s'.memory } = depot_path X s' t s'.memory b refl in
      subst (λ (z : Depot X). Next X ((step w, r) ∷ h) z ord) (sym p) (rw a i)
