-- What one operation does to the entries, at either end: it puts a word in, gives a word out, or leaves them.
use Rattle.std.specs.Prelude.{◌≡◌, ℕ, suc, ◌<◌, ◌≤◌, true, false, cond, ◌⊎◌, List, [], ◌∷◌, ◌++◌, length, take, Ok, Err, ◌==◌, nat_eq, nat_lt, refl}
use Rattle.std.specs.List.{remove}
use Rattle.std.specs.Option.{ok_or}
use Rattle.std.proofs.Common.{ap, ◌∙◌, inl, inr, arith, length-append, length-drop, length-take}
use Rattle.std.proofs.Math.ListN.{drop_of_length-le}
use Rattle.std.proofs.lemmas.List.{take_all, length_push, append-nil}
use Rattle.std.proofs.lemmas.Option.{slice_get_cases}
use Rattle.std.proofs.lemmas.Bool.{cases_Bool, ltb-true}
use Rattle.objects.specs.declared.answer.Denied.TheVariants.{Empty, Unknown}
use Rattle.objects.specs.Answers.{Answer}
use Rattle.objects.specs.Rows.{Entries, First, Rest, answer_of, held_after}
use Rattle.objects.specs.Places.{Place, OneAt}
use Rattle.objects.specs.Laws.{Operation, Deed, puts, gives, neither, deed_when}

-- what a deed makes of the entries xs
pub data Makes (first : First) (rest : Rest) (xs : List ℕ) : Deed → List ℕ → Type 0 where
  put : (x : ℕ) → Makes first rest xs (puts x) (xs ++ (x ∷ []))
  given : (x : ℕ) → first xs ≡ Ok x → Makes first rest xs (gives x) (rest xs)
  same : Makes first rest xs neither xs

-- an end that has no entry leaves all as it is, and one that has an entry leaves no more
pub record Sound (first : First) (rest : Rest) : Type 0 where
  pub entry : (xs : List ℕ) → ((first xs ≡ Err Empty) × (rest xs ≡ xs)) ⊎ ((x : ℕ) × (first xs ≡ Ok x))
  pub fewer : (xs : List ℕ) → length (rest xs) ≤ length xs

-- past the last there is nothing to remove
remove_past : (xs : List ℕ) (i : ℕ) → length xs ≤ i → remove xs i ≡ xs
remove_past xs i past = simp (take_all i xs past, drop_of_length-le xs {i = suc i} (omega arith), append-nil)

pub sound : {place : Place} {first : First} {rest : Rest} → OneAt place first rest → Sound first rest
sound {place} {first} {rest} one = record { entry = entry; fewer = fewer }
  where
    entry : (xs : List ℕ) → ((first xs ≡ Err Empty) × (rest xs ≡ xs)) ⊎ ((x : ℕ) × (first xs ≡ Ok x))
    entry xs = elim (slice_get_cases xs (place (length xs))).1 [
      | inl e ↦ inr (e.0, one.entry xs ∙ ap (λ o. ok_or o Empty) e.2)
      | inr e ↦ inl (one.entry xs ∙ ap (λ o. ok_or o Empty) e.1, one.others xs ∙ remove_past xs (place (length xs)) e.0)
    ]

    fewer : (xs : List ℕ) → length (rest xs) ≤ length xs
    fewer xs = rw (one.others xs) (simp (length-append, length-take, length-drop) (omega arith))

module _ (first : First) (rest : Rest) (ok : Sound first rest) (s : Entries) (o : Operation) where
  abbrev Made : Type 0
  Made = Makes first rest s.items (deed_when o (answer_of first s o.op)) (held_after rest s o.op o.arg).items

  whole : take 32 s.items ≡ s.items
  whole = take_all 32 s.items s.few

  made_by_put : nat_eq o.op 1 ≡ true → Made
  made_by_put is-put =
      elim (cases_Bool (nat_lt (length s.items) 32)) [
        | inl l ↦ (let below : length s.items < 32 = ltb-true (length s.items) 32 l in
            let fits : take 32 (s.items ++ (o.arg ∷ [])) ≡ s.items ++ (o.arg ∷ []) = take_all 32 (s.items ++ (o.arg ∷ [])) (simp length_push (omega arith)) in
            simp (is-put, l) (rw fits (put o.arg)))
        | inr l ↦ simp (is-put, l) same
      ]

  made_by_take : nat_eq o.op 1 ≡ false → (o.op == 2) ≡ true → Made
  made_by_take not-put is-take =
      elim (ok.entry s.items) [
        | inl e ↦ (let w = whole in let a = e.0 in let r = e.1 in simp (not-put, is-take, a, r, w) same)
        | inr e ↦ (let fits : take 32 (rest s.items) ≡ rest s.items = take_all 32 (rest s.items) (omega (arith, ok.fewer s.items, s.few)) in
            let a = e.1 in
            simp (not-put, is-take, a) (rw fits (given e.0 a)))
      ]

  -- an operation that is neither 1 nor 2 does nothing, whatever it answers
  no_deed : nat_eq o.op 1 ≡ false → (o.op == 2) ≡ false → (a : Answer) → deed_when o a ≡ neither
  no_deed not-put not-take (Ok value) = simp (not-put, not-take)
  no_deed not-put not-take (Err denied) = refl

  made_by_other : nat_eq o.op 1 ≡ false → (o.op == 2) ≡ false → Made
  made_by_other not-put not-take =
      let quiet : deed_when o (cond (o.op == 3) (first s.items) (Err Unknown)) ≡ neither = no_deed not-put not-take (cond (o.op == 3) (first s.items) (Err Unknown)) in
      simp (not-put, not-take, quiet) same

  pub made : Made
  made =
      elim (cases_Bool (o.op == 1)) [
        | inl p ↦ made_by_put p
        | inr p ↦ elim (cases_Bool (o.op == 2)) [ inl t ↦ made_by_take p t | inr t ↦ made_by_other p t ]
      ]
