-- The laws of sets of lines.
use Rattle.std.proofs.Common.{◌≡◌, ℕ, ◌+◌, ◌-◌, ◌*◌, ◌%◌, ◌^◌, ◌<◌, ◌≤◌, min, max, true, false, not, ◌&&◌, ◌||◌, eqb, sym, refl, ap, ◌∙◌, ⊎_elim, one-mul, arith, inl, inr}
use Rattle.std.specs.Int.{w64}
use lib.Bits.{bit_and, xor_add_and}
use lib.Count.{count_trailing_zeros}
use Rattle.std.proofs.lemmas.Nat.{pow_pos}
use Rattle.std.proofs.lemmas.Nat.Bits.{bit_at_or, bit_at_and, bit_at_xor, bit_at-pow_same, bit_at-pow_other, bit_at-lt, bit_at_above, bit_at_ones, bit_at-trailing_zeros, and_pow}
use Rattle.std.proofs.lemmas.Bool.{eqb-true, eq-eqb, ne_eqb, cases_eq, cases_lt, both_ways}
use Rattle.memory.specs.Sets.{bit, mem, with_line, minus}

-- one bit at a time
table_or : (x y : ℕ) → x < 2 → y < 2 → eqb (max x y) 1 ≡ (eqb x 1 || eqb y 1)
table_or x y h k = grind arith

table-minus : (x y : ℕ) → x < 2 → y < 2 → eqb ((x + min x y) % 2) 1 ≡ (eqb x 1 && not (eqb y 1))
table-minus x y h k = grind arith

pub mem-pow : (i j : ℕ) → mem (2 ^ i) j ≡ eqb i j
unfolding mem
mem-pow i j = elim (cases_eq i j) [
  | inl e ↦ rw e (eq-eqb (bit (2 ^ j) j) 1 (bit_at-pow_same j) ∙ sym (eq-eqb j j refl))
  | inr n ↦ ne_eqb (bit (2 ^ i) j) 1 (λ q. omega (arith, bit_at-pow_other i j (λ r. n (sym r)))) ∙ sym (ne_eqb i j n)
]

pub mem_with : (s i j : ℕ) → mem (with_line s i) j ≡ (mem s j || eqb i j)
unfolding mem with_line
mem_with s i j = rw bit_at_or (table_or (bit s j) (bit (2 ^ i) j) (bit_at-lt s j) (bit_at-lt (2 ^ i) j) ∙ ap (λ b. eqb (bit s j) 1 || b) (mem-pow i j))

pub mem-minus : (s t j : ℕ) → mem (minus s t) j ≡ (mem s j && not (mem t j))
unfolding mem minus
mem-minus s t j = rw (bit_at_xor, bit_at_and) (table-minus (bit s j) (bit t j) (bit_at-lt s j) (bit_at-lt t j))

-- a set below 2 ^ n has no line from n on
pub mem_past : (s n i : ℕ) → s < 2 ^ n → n ≤ i → mem s i ≡ false
unfolding mem
mem_past s n i h k = rw (bit_at_above s n i h k)

-- the first line of a set is in it
pub mem_first : (n : ℕ) → 0 < n → n < 2 ^ 64 → mem n (count_trailing_zeros 64 n) ≡ true
unfolding mem
mem_first n p h = eq-eqb _ _ (bit_at-trailing_zeros w64 n p h).1

pub first_below : (n : ℕ) → 0 < n → n < 2 ^ 64 → count_trailing_zeros 64 n < 64
first_below n p h = (bit_at-trailing_zeros w64 n p h).0

-- a line taken out makes a smaller set
pub minus_falls : (s i : ℕ) → mem s i ≡ true → minus s (2 ^ i) < s
unfolding mem minus
minus_falls s i h = let e = eqb-true (bit s i) 1 h in
    let a : bit_and s (2 ^ i) ≡ 2 ^ i = and_pow s i ∙ ap (λ x. x * 2 ^ i) e ∙ one-mul (2 ^ i) in
    rw a (omega (arith, xor_add_and s (2 ^ i), a, pow_pos i))

-- a line of a set below 2 ^ n is below n
pub mem_below : (s n i : ℕ) → s < 2 ^ n → mem s i ≡ true → i < n
mem_below s n i h m = ⊎_elim (λ l. l) (λ g. absurd (both_ways (mem s i) (mem_past s n i h g) m)) (cases_lt i n)

-- the lines of a set that lie below n
pub mem-front : (s n i : ℕ) → i < n → mem (bit_and s (2 ^ n - 1)) i ≡ mem s i
unfolding mem
mem-front s n i h = ap (λ x. eqb x 1) (bit_at_and s (2 ^ n - 1) i ∙ omega (arith, bit_at_ones n i h, bit_at-lt s i))
