-- The words written are the picture of what the row keeps.
use Rattle.objects.proofs.RowCode.{pictured_made}
use Rattle.objects.proofs.row.ops.ArrayU6440FromRefRow.from.Goals as goal

pub returns : goal.returns
returns c = pictured_made c.args.row.now c.copy_from_slice.new.self c.copy_from_slice.ensures.after
