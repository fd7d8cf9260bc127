use Rattle.std.proofs.Common.{ℕ, List, sym, ap, ◌∙◌}
use Rattle.memory.specs.Kinds.{prompt}
use Rattle.script.specs.declared.setup.MemoryKind.{MemoryKind}
use Rattle.bench.specs.Scripts.{run_text, text_on, model_of}
use Rattle.bench.proofs.Texts.{written_as}
use Rattle.bench.proofs.depot.Run.write.Goals as goal

pub returns-in-Prompt : goal.returns-in-Prompt
returns-in-Prompt c =
    let X = model_of c.args.self.setup.object in let calls = c.args.self.calls.now in
    written_as (ap (λ (ws : List ℕ). run_text X prompt ws calls) c.new-in-Prompt.ensures.value ∙ ap (λ (k : MemoryKind). text_on k X calls) (sym c.in-Prompt.is)) c.over-in-Prompt.ensures
