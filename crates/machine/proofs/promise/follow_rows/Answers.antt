-- A memory that keeps its promise makes only moves that rows of calls allow.
use Rattle.machine.proofs.Theorem.{follows}
use Rattle.machine.proofs.promise.follow_rows.Goals as goal

pub returns : goal.returns
returns g c = follows g.O.Object.model (record { back = g.met.O.Object.back; only = g.met.O.Object.only; long = g.met.O.Object.long }) c.lines.ensures.keeps
