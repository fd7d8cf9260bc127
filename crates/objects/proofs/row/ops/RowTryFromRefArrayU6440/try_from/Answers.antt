-- Words are refused where one past the entries is not zero, and otherwise give the entries that they name.
use Rattle.std.proofs.Common.{sym, ◌∙◌, arith}
use Rattle.objects.proofs.RowCode.{no_picture, picture_read}
use Rattle.objects.proofs.row.ops.RowTryFromRefArrayU6440.try_from.Goals as goal

pub returns-then-not-all_zero : goal.returns-then-not-all_zero
returns-then-not-all_zero c = no_picture c.args.words.now (omega arith) (omega arith) (sym c.if-not-all_zero.true ∙ c.all_zero.ensures)

pub returns : goal.returns
returns c = picture_read c.args.words.now (omega arith) (omega arith) (sym c.if-not-all_zero.false ∙ c.all_zero.ensures) _ c.copy_from_slice.ensures.after
