-- A listing, one line after another.
use Rattle.std.proofs.Common.{◌≡◌, ℕ, ◌+◌, ◌<◌, ◌≤◌, List, ◌++◌, length, get_or, drop, Ok, arith}
use Rattle.std.proofs.lemmas.List.{at_drop_more}
use Rattle.std.proofs.lemmas.Bool.Decides.{nat_tests}
use Rattle.script.specs.declared.call.Verb.TheVariants.{Format}
use Rattle.listing.specs.declared.outcome.Outcome.{Outcome}
use Rattle.listing.specs.declared.outcome.Outcome.TheVariants.{Done}
use Rattle.listing.specs.Buffers.{sized}
use Rattle.listing.specs.Texts.{line_text, listing_text}

-- the line of the outcome at a place; past the end the checker has the first case there
abbrev pub line : List Outcome → ℕ → List ℕ
line os i = line_text (get_or os i (Done Format))

pub next-line : (os : List Outcome) (i : ℕ) → i < length os → listing_text (drop i os) ≡ line os i ++ listing_text (drop (i + 1) os)
next-line os i h = at_drop_more listing_text os i (Done Format) h

-- a length that was found is the length, and fits
pub sized_fits : (text : List ℕ) (most n : ℕ) → Ok n ≡ sized text most → (length text ≤ most) × (n ≡ length text)
sized_fits text most n e = (grind (arith, nat_tests), grind (arith, nat_tests))
