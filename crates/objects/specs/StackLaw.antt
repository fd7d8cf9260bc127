-- A stack gives out the latest word that is still in.
use Rattle.std.specs.Prelude.{◌≡◌, ℕ, ◌-◌, false, List, [], ◌∷◌, ◌++◌, length, Ok, nat_eq, slice_index_or, refl}
use Rattle.std.proofs.Common.{append_assoc, arith}
use Rattle.std.proofs.lemmas.List.{append-nil, length_push, get_or_push, take_at}
use Rattle.std.proofs.lemmas.Bool.{ne_eqb}
use Rattle.objects.specs.Rows.{Entries, newest, but_newest, stack_model}
use Rattle.objects.specs.Places.{newest_at}
use Rattle.objects.specs.Laws.{Operation, Event, Deed, gives, deed_of, events, after_run, Balanced, nothing, idle, one_after_another, put_and_given, Leaves, balanced, then_put, StackLaw}
use Rattle.objects.specs.Deeds.{Makes, put, given, same, sound, made}

-- the newest of entries is the last
module _ (xs : List ℕ) (x : ℕ) where
  before_last : length (xs ++ (x ∷ [])) - 1 ≡ length xs
  before_last = simp length_push (omega arith)

  newest_last : newest (xs ++ (x ∷ [])) ≡ Ok x
  newest_last =
      let b = before_last in
      let some : nat_eq (length (xs ++ (x ∷ []))) 0 ≡ false = ne_eqb (length (xs ++ (x ∷ []))) 0 (λ z. omega (arith, length_push xs x)) in
      let last : slice_index_or (xs ++ (x ∷ [])) (length xs) 0 ≡ x = get_or_push xs x 0 (length xs) refl in
      simp (some, b, last)

  but_newest_last : but_newest (xs ++ (x ∷ [])) ≡ xs
  but_newest_last = let b = before_last in rw b (take_at xs (x ∷ []) (length xs) refl)

-- a balanced row of events leaves what was left before it
still_left : {es bs : List Event} {xs : List ℕ} → Leaves es xs → Balanced bs → Leaves (es ++ bs) xs
still_left (balanced b) more = balanced (one_after_another b more)
still_left {bs = bs} (then_put {es = es} {fs = fs} x p l is-put b) more =
    rw (append_assoc es (p ∷ fs) bs) (then_put x p l is-put (one_after_another b more))

one_given : {es : List Event} {xs : List ℕ} (x : ℕ) (g : Event) → Leaves es xs → newest xs ≡ Ok x → deed_of g ≡ gives x → Leaves (es ++ (g ∷ [])) (but_newest xs)
one_given x g (balanced b) h is-given = absurd (grind arith)
one_given x g (then_put {es = es} {fs = fs} {xs = xs} y p l is-put b) h is-given =
    let n = newest_last xs y in
    let e : y ≡ x = cc in
    let gone : deed_of g ≡ gives y = cc in
    rw (but_newest_last xs y, append_assoc es (p ∷ fs) (g ∷ [])) (still_left l (put_and_given y p g is-put b gone))

one : {xs ys : List ℕ} {d : Deed} {es : List Event} (e : Event) → deed_of e ≡ d → Leaves es xs → Makes newest but_newest xs d ys → Leaves (es ++ (e ∷ [])) ys
one e does l (put x) = then_put x e l does nothing
one e does l (given x h) = one_given x e l h does
one e does l same = still_left l (idle e does)

latest : (run : List Operation) (s : Entries) (past : List Event) → Leaves past s.items → Leaves (past ++ events stack_model s run) (after_run stack_model s run).items
latest [] s past l = rw append-nil l
latest (o ∷ os) s past l =
    let e : Event = record { operation = o; answer = stack_model.answer s o.op o.arg } in
    let t : Entries = stack_model.next s o.op o.arg in
    let more = latest os t (past ++ (e ∷ [])) (one e refl l (made newest but_newest (sound newest_at) s o)) in
    rw (append_assoc past (e ∷ []) (events stack_model t os)) at more

pub stack_law : StackLaw
stack_law run = latest run stack_model.fresh [] (balanced nothing)
