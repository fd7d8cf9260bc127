-- What a fold that may stop makes of the items that an iterator gives: the value of the whole list, item by item.
use Rattle.std.proofs.Common.{◌≡◌, ℕ, List, [], ◌∷◌, length, Some, None, Option, MatchOption, Bor, sym, ap, subst, ◌∙◌}
use Rattle.std.proofs.lemmas.List.{nil_from_length}
use Rattle.std.specs.Iterator.{Yields, YieldsThen}
use Rattle.std.specs.List.{FoldsTo}

-- `one` is a step of `value`, from a number that is as it must be
pub record Steps {X : Type 0} (value : ℕ → List X → Option ℕ) (one : ℕ → X → Option ℕ) (Good : ℕ → Type 0) : Type 0 where
  pub goes : (v w : ℕ) (x : X) (xs : List X) → one v x ≡ Some w → (value v (x ∷ xs) ≡ value w xs) × Good w
  pub stops : (v : ℕ) (x : X) (xs : List X) → one v x ≡ None → value v (x ∷ xs) ≡ None
  pub ends : (v : ℕ) → Good v → value v [] ≡ Some v

-- `left` has the items that an iterator has still to give
module _ {X S : Type 0} {value : ℕ → List X → Option ℕ} {one : ℕ → X → Option ℕ} {Good : ℕ → Type 0} (law : Steps value one Good)
    (steps : S → Option (Bor X) → S → Type 0) (left : S → List X) (some : (s : S) (x : Bor X) (t : S) → steps s (Some x) t → left s ≡ x.now ∷ left t) where
  given : (R : Unit {0} × ℕ → Bor X → Unit {0} × ℕ → Type 0) → ((p q : Unit {0} × ℕ) (x : Bor X) → R p x q → one p.1 x.now ≡ Some q.1)
      → (xs : List (Bor X)) (s t : S) (p q : Unit {0} × ℕ) → Good p.1 → Yields steps s xs t → FoldsTo R p xs q → (value p.1 (left s) ≡ value q.1 (left t)) × Good q.1
  given R does [] s t p q h y f = (ap (λ u. value p.1 (left u)) y ∙ ap (λ (r : Unit {0} × ℕ). value r.1 (left t)) f, subst (λ (r : Unit {0} × ℕ). Good r.1) f h)
  given R does (x ∷ xs) s t p q h y f =
      let turn = law.goes p.1 f.0.1 x.now (left y.0) (does p f.0 x f.1) in
      let rest = given R does xs y.0 t f.0 q turn.1 y.2 f.2 in (ap (value p.1) (some s x y.0 y.1) ∙ turn.0 ∙ rest.0, rest.1)

  pub folded : (none : (s t : S) → steps s None t → length (left s) ≡ 0) (R : Unit {0} × ℕ → Bor X → Unit {0} × ℕ → Type 0) → ((p q : Unit {0} × ℕ) (x : Bor X) → R p x q → one p.1 x.now ≡ Some q.1)
      → (s u : S) (p q : Unit {0} × ℕ) (xs : List (Bor X)) (o : Option (Bor X)) (r : Option ℕ) (Q : Bor X → Type 0) → ((x : Bor X) → Q x → (one q.1 x.now ≡ None) × (r ≡ None))
      → Good p.1 → YieldsThen steps s xs o u → FoldsTo R p xs q → MatchOption o (r ≡ Some q.1) Q → r ≡ value p.1 (left s)
  folded none R does s u p q xs None r Q ended h y f m =
      let all = given R does xs s y.0 p q h y.1 f in
      let nil : left y.0 ≡ [] = nil_from_length (left y.0) (none y.0 u y.2) in m ∙ sym (all.0 ∙ ap (value q.1) nil ∙ law.ends q.1 all.1)
  folded none R does s u p q xs (Some x) r Q ended h y f m =
      let all = given R does xs s y.0 p q h y.1 f in
      let stop = ended x m in stop.1 ∙ sym (all.0 ∙ ap (value q.1) (some y.0 x u y.2) ∙ law.stops q.1 x.now (left u) stop.0)
