-- Facts of histories and orders: one more call, a grown order. No memory.
use Rattle.std.proofs.Common.{◌≡◌, ℕ, suc, ◌+◌, ◌<◌, ◌≤◌, Bool, true, false, cond, ◌&&◌, eqb, ◌⊎◌, List, [], ◌∷◌, ◌++◌, length, Some, None, Option, sym, refl, ap, ◌∙◌, inl, inr, append_assoc, arith}
use mathlib.Core.List.Memᴰ
use mathlib.Core.List.{Memᴰ}
use Rattle.std.proofs.lemmas.Bool.{eqb-true, eq-eqb}
use Rattle.std.proofs.lemmas.Option.{none-some}
use Rattle.objects.specs.Model.{ObjectModel}
use Rattle.machine.specs.Calls.{Call, Reply}
use Rattle.machine.specs.Run.{History}
use Rattle.machine.specs.Order.{Request, Given, Is, Explained, InTurn, of_worker, last_of, last_for, answered_by, gave, accepted, Unaccepted, Before, or_else, for_worker, for_turn}
use Rattle.machine.specs.Order.{Before.answered as before-step, Before.given as before-gift, Before.later as before-later}
use Rattle.machine.proofs.Invariant.{Done, Stands, Ahead, Told, Done.by_step, Done.by_gift, Done.earlier}

-- lists
pub of_worker-append : (w : ℕ) (a b : List Request) → of_worker w (a ++ b) ≡ of_worker w a ++ of_worker w b
of_worker-append w [] b = refl
of_worker-append w (q ∷ a) b = go (eqb q.worker w) (of_worker-append w a b)
  where
    go : (t : Bool) → of_worker w (a ++ b) ≡ of_worker w a ++ of_worker w b →
        cond t (q ∷ of_worker w (a ++ b)) (of_worker w (a ++ b)) ≡ cond t (q ∷ of_worker w a) (of_worker w a) ++ of_worker w b
    go true ih = ap {B = List Request} (λ (r : List Request). q ∷ r) ih
    go false ih = ih

pub mem-of_worker : (w : ℕ) (q : Request) (ord : List Request) → q.worker ≡ w → Memᴰ q ord → Memᴰ q (of_worker w ord)
mem-of_worker w q [] e m = m
mem-of_worker w q (p ∷ ord) e m = go (Memᴰ.cases_cons m) (λ (k : Memᴰ q ord). mem-of_worker w q ord e k)
  where
    keep : (t : Bool) → Memᴰ q (of_worker w ord) → Memᴰ q (cond t (p ∷ of_worker w ord) (of_worker w ord))
    keep true k = Memᴰ.tail k
    keep false k = k

    go : (q ≡ p) ⊎ Memᴰ q ord → (Memᴰ q ord → Memᴰ q (of_worker w ord)) → Memᴰ q (cond (eqb p.worker w) (p ∷ of_worker w ord) (of_worker w ord))
    go (inl i) ih =
        let b : eqb p.worker w ≡ true = eq-eqb p.worker w (sym (ap (λ (r : Request). r.worker) i) ∙ e) in
        rw b (Memᴰ.head i)
    go (inr k) ih = keep (eqb p.worker w) (ih k)

pub stands_append : (w t : ℕ) (ord new : List Request) → Stands w t ord → Stands w t (ord ++ new)
stands_append w t ord new s =
    (s.0, s.1, s.2 ++ new, rw (s.3, append_assoc) refl, s.4)

pub ahead-append : (w t : ℕ) (q : Request) (ord new : List Request) → Ahead w t q ord → Ahead w t q (ord ++ new)
ahead-append w t q ord new s =
    (s.0, s.1, s.2 ++ new, rw (s.3, append_assoc) refl, s.4, Memᴰ.append_left new s.5)

pub stands_ahead : (w t : ℕ) (q : Request) (ord new : List Request) → Stands w t ord → Memᴰ q new → Ahead w t q (ord ++ new)
stands_ahead w t q ord new s m =
    (s.0, s.1, s.2 ++ new, rw (s.3, append_assoc) refl, s.4, Memᴰ.append_right s.2 m)

-- the last request accepted
of_for : (w : ℕ) (o a : Option Request) (b : ℕ → Option Request) → ((q : Request) → a ≡ Some q → b q.turn ≡ Some q) →
    (q : Request) → or_else (for_worker w o) a ≡ Some q → or_else (for_turn w q.turn o) (b q.turn) ≡ Some q
of_for w None a b ih q e = ih q e
of_for w (Some p) a b ih q e = go (eqb p.worker w) refl
  where
    go : (t : Bool) → eqb p.worker w ≡ t → or_else (for_turn w q.turn (Some p)) (b q.turn) ≡ Some q
    go true h =
        let f : Some p ≡ Some q = rw h at e in
        let g : p ≡ q = cc in
        let k : eqb p.turn q.turn ≡ true = eq-eqb p.turn q.turn (ap (λ (r : Request). r.turn) g) in
        rw (h, k) f
    go false h = rw h (ih q (rw h at e))

pub last_of_for : (w : ℕ) (h : History) (q : Request) → last_of w h ≡ Some q → last_for w q.turn h ≡ Some q
last_of_for w [] q e = e
last_of_for w (x ∷ h) q e = of_for w (accepted x) (last_of w h) (λ t. last_for w t h) (λ p k. last_of_for w h p k) q e

for_is : (w t : ℕ) (o a : Option Request) → ((q : Request) → a ≡ Some q → Is w t q) →
    (q : Request) → or_else (for_turn w t o) a ≡ Some q → Is w t q
for_is w t None a ih q e = ih q e
for_is w t (Some p) a ih q e = go (eqb p.worker w) refl (eqb p.turn t) refl
  where
    go : (x : Bool) → eqb p.worker w ≡ x → (y : Bool) → eqb p.turn t ≡ y → Is w t q
    go true h true k =
        let f : Some p ≡ Some q = rw (h, k) at e in
        let g : p ≡ q = cc in
        let i = eqb-true p.worker w h in
        let j = eqb-true p.turn t k in
        (rw (← g) i, rw (← g) j)
    go true h false k = ih q (rw (h, k) at e)
    go false h y k = ih q (rw h at e)

pub last_for_is : (w t : ℕ) (h : History) (q : Request) → last_for w t h ≡ Some q → Is w t q
last_for_is w t [] q e = absurd (grind arith)
last_for_is w t (x ∷ h) q e = for_is w t (accepted x) (last_for w t h) (λ p k. last_for_is w t h p k) q e

-- a row of turns
pub turns-kept : (w t : ℕ) (h h' : History) (qs : List Request) →
    ((u : ℕ) (q : Request) → t ≤ u → u < t + length qs → last_for w u h ≡ Some q → last_for w u h' ≡ Some q) →
    InTurn w t h qs → InTurn w t h' qs
turns-kept w t h h' [] k i = i
turns-kept w t h h' (q ∷ qs) k i = (
  k t q (omega arith) (omega arith) i.0,
  turns-kept w (t + 1) h h' qs (λ u p a b e. k u p (omega arith) (omega arith) e) i.1,
)

pub turns_more : (w t : ℕ) (h : History) (qs : List Request) (q : Request) →
    InTurn w t h qs → last_for w (t + length qs) h ≡ Some q → InTurn w t h (qs ++ q ∷ [])
turns_more w t h [] q i e =
    let z : t + 0 ≡ t = omega arith in
    ((rw z at e), i)
turns_more w t h (p ∷ qs) q i e =
    let z : t + suc (length qs) ≡ t + 1 + length qs = omega arith in
    (i.0, turns_more w (t + 1) h qs q i.1 (rw z at e))

turn-mem : (w t : ℕ) (h : History) (qs : List Request) (q : Request) → InTurn w t h qs → Memᴰ q qs → (u : ℕ) × (last_for w u h ≡ Some q)
turn-mem w t h [] q i m = absurd (Memᴰ.not-nil m)
turn-mem w t h (p ∷ qs) q i m = go (Memᴰ.cases_cons m) (λ k. turn-mem w (t + 1) h qs q i.1 k)
  where
    go : (q ≡ p) ⊎ Memᴰ q qs → (Memᴰ q qs → (u : ℕ) × (last_for w u h ≡ Some q)) → (u : ℕ) × (last_for w u h ≡ Some q)
    go (inl e) ih = (t, rw e i.0)
    go (inr k) ih = ih k

pub ordered_last : (w u : ℕ) (h : History) (ord : List Request) (q : Request) → InTurn w 1 h (of_worker w ord) → Memᴰ q ord → Is w u q → last_for w u h ≡ Some q
ordered_last w u h ord q i m is = go (turn-mem w 1 h (of_worker w ord) q i (mem-of_worker w q ord is.0 m))
  where
    go : (v : ℕ) × (last_for w v h ≡ Some q) → last_for w u h ≡ Some q
    go x =
        let e : q.turn ≡ x.0 = (last_for_is w x.0 h q x.1).1 in
        let f : x.0 ≡ u = sym e ∙ is.1 in
        rw f at x.1

-- what was accepted last was accepted by a call
abbrev Accepted : Request → History → Type 0
Accepted q h = (e : Call × Reply) × Memᴰ e h × (accepted e ≡ Some q)

accepted-later : (e : Call × Reply) (q : Request) (h : History) → Accepted q h → Accepted q (e ∷ h)
accepted-later e q h a = (a.0, Memᴰ.tail a.1, a.2)

accepted_by : (v u : ℕ) (e : Call × Reply) (q : Request) (h : History) (o : Option Request) → accepted e ≡ o → (last_for v u h ≡ Some q → Accepted q h)
    → or_else (for_turn v u o) (last_for v u h) ≡ Some q → Accepted q (e ∷ h)
accepted_by v u e q h None is ih k = accepted-later e q h (ih k)
accepted_by v u e q h (Some p) is ih k = go (eqb p.worker v && eqb p.turn u) k
  where
    go : (b : Bool) → or_else (cond b (Some p) None) (last_for v u h) ≡ Some q → Accepted q (e ∷ h)
    go true k = (e, Memᴰ.head refl, is ∙ k)
    go false k = accepted-later e q h (ih k)

last-accepted : (v u : ℕ) (q : Request) (h : History) → last_for v u h ≡ Some q → Accepted q h
last-accepted v u q [] k = absurd (grind arith)
last-accepted v u q (e ∷ h) k = accepted_by v u e q h (accepted e) refl (λ i. last-accepted v u q h i) k

-- one more call
pub before-done : (w t : ℕ) (q : Request) (h : History) → Before w t q h → Done w t h
before-done w t q [] b = elim b [ ]
before-done w t q (e ∷ h) (before-step a b) = by_step a
before-done w t q (e ∷ h) (before-gift a b c) = by_gift a b
before-done w t q (e ∷ h) (before-later b) = earlier (before-done w t q h b)

module _ (X : ObjectModel) where
  pub explained_append : (ord new : List Request) (g : Given) → Explained X ord g → Explained X (ord ++ new) g
  explained_append ord new g s =
      (s.0, s.1, s.2 ++ new, rw (s.3, append_assoc) refl, s.4, s.5)

  pub explained_stands : (ord : List Request) (g : Given) → Explained X ord g → Stands g.worker g.turn ord
  explained_stands ord g s = (s.0, s.1, s.2, s.3, s.4)

  pub told_event : (e : Call × Reply) (h : History) (ord : List Request) → Told X h ord →
      ((w u : ℕ) (q : Request) → 1 ≤ u → u ≤ length (of_worker w ord) → last_for w u h ≡ Some q → last_for w u (e ∷ h) ≡ Some q) →
      ((g : Given) → gave e ≡ Some g → Explained X ord g) →
      ((w t : ℕ) → answered_by e h ≡ Some (w, t) → Stands w t ord) →
      Told X (e ∷ h) ord
  told_event e h ord told keep gift by = record {
    turns = turns';
    answers = answers';
    ahead = ahead';
    done = done';
  }
    where
      turns' : (w : ℕ) → InTurn w 1 (e ∷ h) (of_worker w ord)
      turns' w = turns-kept w 1 h (e ∷ h) (of_worker w ord) (λ u q a b k. keep w u q a (omega arith) k) (told.turns w)

      answers' : (x : Call × Reply) (g : Given) → Memᴰ x (e ∷ h) → gave x ≡ Some g → Explained X ord g
      answers' x g m k = go (Memᴰ.cases_cons m)
        where
          go : (x ≡ e) ⊎ Memᴰ x h → Explained X ord g
          go (inl i) = gift g (rw i at k)
          go (inr n) = told.answers x g n k

      -- a request in the order was accepted
      not_in : (q : Request) → Memᴰ q ord → Unaccepted q (e ∷ h) → ⊥
      not_in q m n =
          let l = last-accepted q.worker q.turn q (e ∷ h) (ordered_last q.worker q.turn (e ∷ h) ord q (turns' q.worker) m (refl, refl)) in
          n l.0 l.1 l.2

      ahead' : (w t : ℕ) (q : Request) → Memᴰ q ord → Before w t q (e ∷ h) → Ahead w t q ord
      ahead' w t q m (before-step a n) = absurd (not_in q m n)
      ahead' w t q m (before-gift a b n) = absurd (not_in q m n)
      ahead' w t q m (before-later b) = told.ahead w t q m b

      done' : (w t : ℕ) → Done w t (e ∷ h) → Stands w t ord
      done' w t (by_step a) = by w t a
      done' w t (by_gift a b) = explained_stands ord (record { worker = w; turn = t; value = a }) (gift (record { worker = w; turn = t; value = a }) b)
      done' w t (earlier d) = told.done w t d

  -- a call that accepts nothing, gives nothing and answers nothing
  pub told-idle : (e : Call × Reply) (h : History) (ord : List Request) → Told X h ord →
      accepted e ≡ None → gave e ≡ None → answered_by e h ≡ None → Told X (e ∷ h) ord
  told-idle e h ord told a g b = told_event e h ord told
      (λ w u q _ _ k. rw a k)
      (λ p k. absurd (none-some _ (sym g ∙ k)))
      (λ w t k. absurd (none-some _ (sym b ∙ k)))

  -- the order grows at its end
  pub told_grow : (h : History) (ord new : List Request) → Told X h ord →
      ((w : ℕ) → InTurn w 1 h (of_worker w (ord ++ new))) → Told X h (ord ++ new)
  told_grow h ord new told turns' = record {
    turns = turns';
    answers = λ e g m k. explained_append ord new g (told.answers e g m k);
    ahead = ahead';
    done = λ w t d. stands_append w t ord new (told.done w t d);
  }
    where
      ahead' : (w t : ℕ) (q : Request) → Memᴰ q (ord ++ new) → Before w t q h → Ahead w t q (ord ++ new)
      ahead' w t q m b = go (Memᴰ.append_cases ord m)
        where
          go : Memᴰ q ord ⊎ Memᴰ q new → Ahead w t q (ord ++ new)
          go (inl k) = ahead-append w t q ord new (told.ahead w t q k b)
          go (inr k) = stands_ahead w t q ord new (told.done w t (before-done w t q h b)) k
