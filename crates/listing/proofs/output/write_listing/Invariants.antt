-- The list so far, with the lines that are still to come, makes up the listing.
use Rattle.std.proofs.Common.{◌≡◌, drop}
use Rattle.bounded.specs.Lent.{held, extended}
use Rattle.listing.specs.Texts.{listing_text}
use Rattle.listing.proofs.output.write_listing.Given as goal

abbrev pub invariant-loop-o : goal.invariant-loop-o
invariant-loop-o l = extended (held l.text) (listing_text (drop l.o-index l.outcomes)) ≡ extended (held l.initial.text) (listing_text l.outcomes)
