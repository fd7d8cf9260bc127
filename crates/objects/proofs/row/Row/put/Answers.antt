-- A row with room has the argument as its newest entry.
use Rattle.std.proofs.Common.{arith}
use Rattle.objects.proofs.RowCode.{put_answers, put_leaves}
use Rattle.objects.proofs.row.Row.put.Goals as goal

pub returns : goal.returns
returns c = record {
  answer = put_answers c.args.self.now (omega arith);
  after = put_leaves c.args.self.now c.args.arg (omega arith);
}
