use Rattle.std.proofs.Common.{ap, ◌∙◌}
use Rattle.std.specs.Result.{result_unwrap_or}
use Rattle.store.proofs.Outside.{word_or_zero}
use Rattle.store.proofs.store.reads.word.Goals as goal

pub returns : goal.returns
returns g c =
    c.unwrap_or.ensures ∙ ap (λ r. result_unwrap_or r 0) c.read.ensures
    ∙ word_or_zero c.args.at (g.M.Memory.conduct.model (g.M.Memory.meaning c.args.memory.now)) c.lines.ensures.formed.images
