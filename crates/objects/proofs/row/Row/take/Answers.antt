-- Without the entry at the end's place the others stay, and where there is none all stays.
use Rattle.std.proofs.Common.{refl, sym, ◌∙◌, arith}
use Rattle.objects.proofs.RowCode.{none_out, one_out}
use Rattle.objects.proofs.row.Row.take.Goals as goal

pub returns-in_err-entry-clause-after : goal.returns-in_err-entry-clause-after
returns-in_err-entry-clause-after g c = none_out c.args.self.now g.met.E.End.one_at _ refl _ (sym c.look.ensures.answer ∙ c.in_err-entry.was)

pub returns-clause-after : goal.returns-clause-after
returns-clause-after g c =
    one_out c.args.self.now g.met.E.End.one_at c.index.result c.index.ensures (omega (arith, c.in_ok-entry.ensures.within)) _ c.rotate_left.ensures.after
