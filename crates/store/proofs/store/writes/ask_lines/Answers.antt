use Rattle.std.proofs.Common.{◌∙◌, arith}
use Rattle.memory.proofs.Rows.{lines_step}
use Rattle.store.proofs.store.writes.ask_lines.Goals as goal

pub loop-line-preserved : goal.loop-line-preserved
loop-line-preserved g c = (
  lines_step g.M.Memory.conduct c.loop-line.line c.args.count (g.M.Memory.meaning c.loop-line.memory) _ (omega arith) c.ask.ensures.moved.after ∙ c.loop-line.invariant.0,
  c.ask.ensures.moved.lent ∙ c.loop-line.invariant.1,
)
