-- What a list over lent memory becomes: entries that fit, entries after others, and the memory at the end.
use Rattle.std.proofs.Common.{◌≡◌, ◌+◌, ◌≤◌, List, [], ◌++◌, length, drop, Result, IsOk, refl, sym, subst, ap, ◌∙◌}
use Rattle.std.proofs.lemmas.List.{append_assoc, append-nil, drop-drop, length-append, take-append-drop}
use Rattle.std.proofs.lemmas.Bool.{le-leb, cond-true}
use Rattle.std.specs.Borrow.{GName}
use Rattle.bounded.specs.declared.Bounded.{Bounded}
use Rattle.bounded.specs.declared.Full.{Full}
use Rattle.bounded.specs.Lent.{Lent, held, empty_over, extended, added, answered}

-- entries that have room are added
pub added-extended : {T : Type 0} (l : Lent T) (more : List T) → length l.entries + length more ≤ l.room → added l more ≡ extended l more
added-extended l more h = cond-true _ _ _ (le-leb _ _ h)

-- and are not refused
pub answered-ok : {T : Type 0} (l : Lent T) (more : List T) {r : Result (Unit {0}) Full} → r ≡ answered l more → length l.entries + length more ≤ l.room → IsOk r
answered-ok l more {r} e h = subst IsOk (sym (e ∙ cond-true _ _ _ (le-leb _ _ h))) refl

pub extended-append : {T : Type 0} (l : Lent T) (a b : List T) → extended (extended l a) b ≡ extended l (a ++ b)
extended-append l a b = simp (append_assoc, drop-drop, length-append)

pub extended-nil : {T : Type 0} (l : Lent T) → extended l [] ≡ l
extended-nil l = simp append-nil

-- the memory of a list that was begun over `memory`: its entries, and behind them what was there
pub memory_after : {T : Type 0} (b : Bounded T) (memory : List T) (name : GName) (es : List T) → held b ≡ extended (empty_over memory name) es → b.items.now ≡ es ++ drop (length es) memory
memory_after {T = T} b memory name es h =
    sym (take-append-drop b.len b.items.now) ∙ ap (λ (l : Lent T). l.entries ++ l.spare) h
