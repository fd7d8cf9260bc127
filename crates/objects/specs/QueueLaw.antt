-- A queue gives out what was put in, in that order.
use Rattle.std.specs.Prelude.{◌≡◌, ℕ, List, [], ◌∷◌, ◌++◌, Ok, refl}
use Rattle.std.proofs.Common.{sym, ap, ◌∙◌, append_assoc}
use Rattle.std.proofs.lemmas.List.{append-nil}
use Rattle.objects.specs.Rows.{Entries, oldest, but_oldest, queue_model}
use Rattle.objects.specs.Places.{oldest_at}
use Rattle.objects.specs.Laws.{Operation, Event, Deed, word_in, word_out, put_in, given_out, deed_of, events, after_run, QueueLaw}
use Rattle.objects.specs.Deeds.{Makes, put, given, same, sound, made}

oldest-ahead : (xs : List ℕ) (x : ℕ) → oldest xs ≡ Ok x → xs ≡ x ∷ but_oldest xs
oldest-ahead [] x h = cc
oldest-ahead (y ∷ ys) x h = let e : y ≡ x = cc in ap (λ (w : ℕ). w ∷ ys) e

-- one event keeps what is there and comes in equal to what goes out and is there
one : {xs ys : List ℕ} {d : Deed} → Makes oldest but_oldest xs d ys → xs ++ word_in d ≡ word_out d ++ ys
one (put x) = refl
one {xs = xs} (given x h) = append-nil xs ∙ oldest-ahead xs x h
one {xs = xs} same = append-nil xs

in_order : (run : List Operation) (s : Entries) → s.items ++ put_in (events queue_model s run) ≡ given_out (events queue_model s run) ++ (after_run queue_model s run).items
in_order [] s = append-nil s.items
in_order (o ∷ os) s =
    let e : Event = record { operation = o; answer = queue_model.answer s o.op o.arg } in
    let t : Entries = queue_model.next s o.op o.arg in
    let d : Deed = deed_of e in
    let step : s.items ++ word_in d ≡ word_out d ++ t.items = one (made oldest but_oldest (sound oldest_at) s o) in
    let more = in_order os t in
    let ins = put_in (events queue_model t os) in
    sym (append_assoc s.items (word_in d) ins)
    ∙ ap (λ (xs : List ℕ). xs ++ ins) step
    ∙ append_assoc (word_out d) t.items ins
    ∙ ap (λ (xs : List ℕ). word_out d ++ xs) more
    ∙ sym (append_assoc (word_out d) (given_out (events queue_model t os)) (after_run queue_model t os).items)

pub queue_law : QueueLaw
queue_law run = in_order run queue_model.fresh
