use Rattle.std.proofs.Common.{◌∙◌, arith}
use Rattle.memory.proofs.Rows.{words_step}
use Rattle.store.proofs.store.writes.write_words.Goals as goal

pub loop-i-preserved : goal.loop-i-preserved
loop-i-preserved g c = (
  words_step g.M.Memory.conduct c.args.from c.loop-i.i c.args.words.now (g.M.Memory.meaning c.loop-i.memory) _ (omega arith) c.write.ensures.moved.after ∙ c.loop-i.invariant.0,
  c.write.ensures.moved.lent ∙ c.loop-i.invariant.1,
)
