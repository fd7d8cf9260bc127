-- Where in a row the entry stands that an end answers and takes out.
use Rattle.std.specs.Prelude.{◌≡◌, ℕ, suc, ◌-◌, List, [], ◌∷◌, ◌++◌, length, take, slice_get, refl}
use Rattle.std.specs.List.{remove}
use Rattle.std.specs.Option.{ok_or}
use Rattle.std.proofs.Common.{sym, ap, ◌∙◌, arith}
use Rattle.std.proofs.lemmas.List.{append-nil, drop_all}
use Rattle.std.proofs.lemmas.Bool.{cond-false, ne_eqb}
use Rattle.std.proofs.lemmas.Option.{slice_get-get_or}
use Rattle.objects.specs.declared.answer.Denied.TheVariants.{Empty}
use Rattle.objects.specs.Rows.{First, Rest, oldest, newest, but_oldest, but_newest}

-- the place of one entry among so many
abbrev pub Place : Type 0
Place = ℕ → ℕ

abbrev pub oldest_place : Place
oldest_place n = 0

abbrev pub newest_place : Place
newest_place n = n - 1

-- an end answers the entry at its place, `Empty` where there is none, and leaves the others
pub record OneAt (place : Place) (first : First) (rest : Rest) : Type 0 where
  pub entry : (xs : List ℕ) → first xs ≡ ok_or (slice_get xs (place (length xs))) Empty
  pub others : (xs : List ℕ) → rest xs ≡ remove xs (place (length xs))

pub oldest_at : OneAt oldest_place oldest but_oldest
oldest_at = record { entry = entry; others = others }
  where
    entry : (xs : List ℕ) → oldest xs ≡ ok_or (slice_get xs 0) Empty
    entry [] = refl
    entry (x ∷ xs) = refl

    others : (xs : List ℕ) → but_oldest xs ≡ remove xs 0
    others [] = refl
    others (x ∷ xs) = refl

pub newest_at : OneAt newest_place newest but_newest
newest_at = record { entry = entry; others = others }
  where
    entry : (xs : List ℕ) → newest xs ≡ ok_or (slice_get xs (length xs - 1)) Empty
    entry [] = refl
    entry (x ∷ xs) = let last = slice_get-get_or (x ∷ xs) (length (x ∷ xs) - 1) 0 (omega arith) in
        cond-false _ _ _ (ne_eqb (length (x ∷ xs)) 0 (λ z. omega arith)) ∙ sym (ap (λ o. ok_or o Empty) last)

    others : (xs : List ℕ) → but_newest xs ≡ remove xs (length xs - 1)
    others [] = refl
    others (x ∷ xs) =
        let last = length (x ∷ xs) - 1 in
        sym (ap (λ ys. take last (x ∷ xs) ++ ys) (drop_all (suc last) (x ∷ xs) (omega arith)) ∙ append-nil (take last (x ∷ xs)))
