use Rattle.std.proofs.Common.{sym, ap}
use Rattle.script.specs.declared.setup.ObjectKind.{ObjectKind}
use Rattle.bench.specs.Scripts.{run_text, model_of}
use Rattle.bench.proofs.Texts.{written_as}
use Rattle.bench.proofs.depot.Run.over.Goals as goal

pub returns-in-Queue : goal.returns-in-Queue
returns-in-Queue g c =
    written_as (ap (λ (o : ObjectKind). run_text (model_of o) g.M.Memory.conduct (g.M.Memory.meaning c.args.memory) c.args.self.calls.now) (sym c.in-Queue.is)) c.on.ensures

pub returns-in-Stack : goal.returns-in-Stack
returns-in-Stack g c =
    written_as (ap (λ (o : ObjectKind). run_text (model_of o) g.M.Memory.conduct (g.M.Memory.meaning c.args.memory) c.args.self.calls.now) (sym c.in-Stack.is)) c.on-in-Stack.ensures
