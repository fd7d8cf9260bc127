-- The lines are taken off one after another, until one does not fit.
use Rattle.std.proofs.Common.{rules, ap, ◌∙◌}
use Rattle.std.proofs.iter.Yields.{fronts}
use Rattle.std.specs.Slice.Iter.{iter_rest}
use Rattle.listing.specs.Texts.{listing_text}
use Rattle.listing.specs.Buffers.{left_of}
use Rattle.script.proofs.Folds.{folded}
use Rattle.listing.proofs.Lengths.{by_lines}
use Rattle.listing.proofs.output.room_left.Goals as goal

pub returns : goal.returns
returns c =
    let ran = c.try_fold.ensures.ran in
    folded by_lines fronts iter_rest (λ s x t k. k) (λ s t k. k.0) _ (λ p q x k. search rules) c.iter.result c.try_fold.new.self (tt, c.args.most) (ran.2, ran.3) ran.0 ran.1 c.try_fold.result _ (λ x k. (search rules, search rules)) tt ran.4 ran.5 ran.6 ∙ ap (λ os. left_of c.args.most (listing_text os)) c.iter.ensures.rest
