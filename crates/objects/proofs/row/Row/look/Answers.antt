-- The word at the end's place is the entry that the end answers.
use Rattle.std.proofs.Common.{arith}
use Rattle.std.proofs.lemmas.Grind.{common_steps}
use Rattle.std.proofs.lemmas.Option.{gets}
use Rattle.objects.proofs.RowCode.{looked}
use Rattle.objects.proofs.row.Row.look.Goals as goal

pub returns-clause-answer : goal.returns-clause-answer
returns-clause-answer g c = grind (arith, common_steps, gets, looked c.args.self.now g.met.E.End.one_at c.index.result c.index.ensures)
