-- One call more of a run.
use Rattle.std.proofs.Common.{◌≡◌, ℕ, ◌+◌, ◌<◌, ◌≤◌, List, [], ◌∷◌, ◌++◌, length, get_or, drop, suc, sym, refl, ap, ◌∙◌, arith, length-drop}
use Rattle.std.proofs.lemmas.List.{drop_more, length-append}
use Rattle.bounded.specs.Lent.{Lent, extended}
use Rattle.memory.specs.Conduct.{Conduct}
use Rattle.objects.specs.Model.{ObjectModel}
use Rattle.machine.specs.Calls.{Machine}
use Rattle.script.specs.declared.call.Call.{Call}
use Rattle.listing.specs.declared.outcome.Outcome.{Outcome}
use Rattle.bench.specs.Runs.{ran, outcomes}

module _ (X : ObjectModel) (C : Conduct) where
  pub length-outcomes : (cs : List Call) (s : Machine X C) → length (outcomes X C cs s) ≡ length cs
  length-outcomes [] s = refl
  length-outcomes (c ∷ cs) s = ap suc (length-outcomes cs (ran X C c s).after)

  -- the outcome of the next call, and then those of the others
  pub run_next : (cs : List Call) (i : ℕ) (d : Call) (o : Outcome) (s t : Machine X C) → i < length cs
      → o ≡ (ran X C (get_or cs i d) s).outcome → t ≡ (ran X C (get_or cs i d) s).after
      → o ∷ outcomes X C (drop (i + 1) cs) t ≡ outcomes X C (drop i cs) s
  run_next cs i d o s t h p q =
      ap (λ x. x ∷ outcomes X C (drop (i + 1) cs) t) p
      ∙ ap (λ x. (ran X C (get_or cs i d) s).outcome ∷ outcomes X C (drop (i + 1) cs) x) q
      ∙ ap (λ rest. outcomes X C rest s) (sym (drop_more cs i d h))

  -- the list has room for the outcome of the next call
  pub room_left : (cs : List Call) (i : ℕ) (s t : Machine X C) (b l : Lent Outcome) → extended b (outcomes X C (drop i cs) s) ≡ extended l (outcomes X C cs t)
      → length l.entries + length cs ≤ l.room → i < length cs → length b.entries + 1 ≤ b.room
  room_left cs i s t b l whole enough h =
      let len : length (b.entries ++ outcomes X C (drop i cs) s) ≡ length (l.entries ++ outcomes X C cs t) = ap (λ (m : Lent Outcome). length m.entries) whole in
      let room : b.room ≡ l.room = ap (λ (m : Lent Outcome). m.room) whole in
      omega (
        arith,
        length-append b.entries (outcomes X C (drop i cs) s),
        length-outcomes (drop i cs) s,
        length-drop i cs,
        length-append l.entries (outcomes X C cs t),
        length-outcomes cs t,
        len,
        room,
        enough,
        h,
      )
