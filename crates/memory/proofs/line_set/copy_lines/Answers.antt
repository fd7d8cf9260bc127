-- Each line of the set is copied, the lowest first, until none is left.
use Rattle.std.proofs.Common.{◌^◌, sym, ap, ◌∙◌}
use Rattle.memory.specs.Sets.{minus}
use Rattle.memory.specs.Model.{copied}
use Rattle.memory.proofs.Members.{left_in}
use Rattle.memory.proofs.Copies.{copied_step, copied_none}
use Rattle.memory.proofs.line_set.copy_lines.Goals as goal

pub loop-line-preserved : goal.loop-line-preserved
loop-line-preserved c = let i = c.in-Some.line in let s = c.loop-line.line-iterator in let gave = c.in-Some.ensures.steps in
    rw gave.1 (record {
      whole = ap (copied (minus s (2 ^ i)) c.args.from.now) c.copy_line.ensures ∙ copied_step s i c.args.from.now c.loop-line.to gave.0 ∙ c.loop-line.invariant.whole;
      inside = λ j h. c.loop-line.invariant.inside j (left_in s (2 ^ i) j h);
    })

pub returns : goal.returns
returns c = sym (copied_none c.args.from.now c.loop-line.to) ∙ ap (λ s. copied s c.args.from.now c.loop-line.to) (sym c.in-None.ensures.steps) ∙ c.loop-line.invariant.whole
