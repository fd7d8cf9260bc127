use Rattle.std.proofs.Common.{◌<◌, ◌≢◌, length, arith, ◌∙◌, get_or-set_other, get_or-set_same, below_more}
use Rattle.std.proofs.lemmas.List.{length-set}
use Rattle.machine.proofs.Words.{words-read}
use Rattle.store.proofs.store.reads.words.Goals as goal

pub loop-i-preserved : goal.loop-i-preserved
loop-i-preserved g c = (
  length-set c.loop-i.w-items c.loop-i.i _ ∙ c.loop-i.invariant.0,
  below_more _ _
      (λ k h. let ne : k ≢ c.loop-i.i = omega arith in rw get_or-set_other (c.loop-i.invariant.1 k h))
      (let lt : c.loop-i.i < length c.loop-i.w-items = omega (arith, c.loop-i.invariant.0) in rw get_or-set_same c.word.ensures),
)

pub returns : goal.returns
returns g c =
    words-read g.row.N c.args.from (g.M.Memory.conduct.model (g.M.Memory.meaning c.args.memory.now)).current c.loop-i.w-items
    c.loop-i.invariant.0 (λ k h. c.loop-i.invariant.1 k (omega arith))
