-- What number a word of a script writes.
use Rattle.std.specs.Prelude.{ℕ, ◌+◌, ◌-◌, ◌*◌, ◌^◌, Bool, true, false, cond, not, ◌&&◌, List, [], ◌∷◌, Some, None, Option, ◌==◌, nat_le, nat_lt}

abbrev pub is_digit : ℕ → Bool
is_digit c = nat_le 48 c && nat_le c 57

abbrev pub digit_of : ℕ → Option ℕ
digit_of c = cond (is_digit c) (Some (c - 48)) None

abbrev pub all_digits : List ℕ → Bool
all_digits [] = true
all_digits (c ∷ cs) = is_digit c && all_digits cs

-- the number that digits write after the number so far
abbrev pub value_from : ℕ → List ℕ → ℕ
value_from v [] = v
value_from v (c ∷ cs) = value_from (v * 10 + (c - 48)) cs

-- some digits, no zero before another
abbrev pub is_numeral : List ℕ → Bool
is_numeral [] = false
is_numeral (c ∷ []) = is_digit c
is_numeral (c ∷ (d ∷ cs)) = not (c == 48) && all_digits (c ∷ (d ∷ cs))

-- the number that digits write after `v`, if it is below 2^64
abbrev pub number_from : ℕ → List ℕ → Option ℕ
number_from v cs = cond (all_digits cs && nat_lt (value_from v cs) (2 ^ 64)) (Some (value_from v cs)) None

-- the number that a word writes, if it is one below 2^64
abbrev pub number_of : List ℕ → Option ℕ
number_of w = cond (is_numeral w && nat_lt (value_from 0 w) (2 ^ 64)) (Some (value_from 0 w)) None
