-- The digits are read one after another, until one does not fit.
use Rattle.std.proofs.Common.{rules, ap, ◌∙◌}
use Rattle.std.proofs.iter.Yields.{fronts}
use Rattle.std.specs.Slice.Iter.{iter_rest}
use Rattle.script.specs.Numbers.{number_from}
use Rattle.script.proofs.Folds.{folded}
use Rattle.script.proofs.Digits.{by_digits}
use Rattle.script.proofs.number.continued.Goals as goal

pub returns : goal.returns
returns c =
    let ran = c.try_fold.ensures.ran in
    folded by_digits fronts iter_rest (λ s x t k. k) (λ s t k. k.0) _ (λ p q x k. search rules) c.iter.result c.try_fold.new.self (tt, c.args.start) (ran.2, ran.3) ran.0 ran.1 c.try_fold.result _ (λ x k. (search rules, search rules)) c.ranges.start.fits ran.4 ran.5 ran.6 ∙ ap (number_from c.args.start) c.iter.ensures.rest
