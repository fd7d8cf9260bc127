-- What is left of a limit after the lines of some outcomes.
use Rattle.std.proofs.Common.{◌≡◌, ℕ, List, [], ◌∷◌, Some, None, arith}
use Rattle.std.proofs.lemmas.List.{length-append}
use Rattle.std.proofs.lemmas.Bool.Decides.{nat_tests}
use Rattle.script.proofs.Folds.{Steps}
use Rattle.listing.specs.declared.outcome.Outcome.{Outcome}
use Rattle.listing.specs.Texts.{line_text, listing_text}
use Rattle.listing.specs.Buffers.{left_of}

-- a line that fits
goes : (v w : ℕ) (o : Outcome) (os : List Outcome) → left_of v (line_text o) ≡ Some w → left_of v (listing_text (o ∷ os)) ≡ left_of w (listing_text os)
goes v w o os e = let l = length-append (line_text o) (listing_text os) in grind (arith, nat_tests)

-- one that does not
stops : (v : ℕ) (o : Outcome) (os : List Outcome) → left_of v (line_text o) ≡ None → left_of v (listing_text (o ∷ os)) ≡ None
stops v o os e = let l = length-append (line_text o) (listing_text os) in grind (arith, nat_tests)

ends : (v : ℕ) → left_of v [] ≡ Some v
ends v = grind (arith, nat_tests)

pub by_lines : Steps (λ v os. left_of v (listing_text os)) (λ v o. left_of v (line_text o)) (λ v. Unit {0})
by_lines = record { goes = λ v w o os e. (goes v w o os e, tt); stops = stops; ends = λ v k. ends v }
