-- The number that a word writes, digit by digit.
use Rattle.std.proofs.Common.{◌≡◌, ℕ, ◌+◌, ◌-◌, ◌*◌, ◌^◌, ◌<◌, ◌≤◌, List, [], ◌∷◌, Some, None, arith}
use Rattle.std.proofs.lemmas.Bool.Decides.{nat_tests}
use Rattle.script.specs.Numbers.{value_from, number_from}
use Rattle.script.proofs.Folds.{Steps}

-- digits make a number no smaller
value_from_ge : (v : ℕ) (cs : List ℕ) → v ≤ value_from v cs
value_from_ge v [] = omega arith
value_from_ge v (c ∷ cs) = omega (arith, value_from_ge (v * 10 + (c - 48)) cs)

-- a first digit that fits
goes : (v w c : ℕ) (cs : List ℕ) → number_from v (c ∷ []) ≡ Some w → (number_from v (c ∷ cs) ≡ number_from w cs) × (w < 2 ^ 64)
goes v w c cs e = (grind (arith, nat_tests), grind (arith, nat_tests))

-- one that does not: past 2^64 there is no way back
stops : (v c : ℕ) (cs : List ℕ) → number_from v (c ∷ []) ≡ None → number_from v (c ∷ cs) ≡ None
stops v c cs e =
    let ge = value_from_ge (v * 10 + (c - 48)) cs in grind (arith, nat_tests)

ends : (v : ℕ) → v < 2 ^ 64 → number_from v [] ≡ Some v
ends v h = grind (arith, nat_tests)

pub by_digits : Steps number_from (λ v c. number_from v (c ∷ [])) (λ v. v < 2 ^ 64)
by_digits = record { goes = goes; stops = stops; ends = ends }
