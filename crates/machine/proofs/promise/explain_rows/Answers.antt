-- The theorem holds of every object that keeps its laws.
use Rattle.machine.proofs.Theorem.{durable}
use Rattle.machine.proofs.promise.explain_rows.Goals as goal

pub returns : goal.returns
returns g c = durable g.O.Object.model (record { back = g.met.O.Object.back; only = g.met.O.Object.only; long = g.met.O.Object.long })
