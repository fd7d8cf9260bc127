use Rattle.std.proofs.Common.{ℕ, List, ap, ◌∙◌}
use Rattle.std.proofs.lemmas.List.{take-replicate}
use Rattle.memory.specs.Calls.{each_word}
use Rattle.memory.specs.Conduct.{after_calls}
use Rattle.store.proofs.store.writes.write_zeros.Goals as goal

pub returns : goal.returns
returns g c = record {
  after = c.write_words.ensures.after
      ∙ ap (λ (ws : List ℕ). after_calls g.M.Memory.conduct (each_word c.args.from ws) (g.M.Memory.meaning c.args.memory.now)) (take-replicate c.args.count 104 0 c.requires.1);
  lent = c.write_words.ensures.lent;
}
