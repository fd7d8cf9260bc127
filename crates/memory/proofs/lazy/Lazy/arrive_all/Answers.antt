-- The lines of a set arrive.
use Rattle.std.proofs.Common.{rules}
use Rattle.memory.proofs.Images.{in_images, held_arrivals, framed_arrivals}
use Rattle.memory.proofs.lazy.Lazy.arrive_all.Goals as goal

pub returns-clause-moved : goal.returns-clause-moved
returns-clause-moved c = record {
  after = search (rules, in_images, held_arrivals);
  lent = framed_arrivals c.args.self.now.kept.ghost_name c.args.set c.args.self.now.current c.args.self.now.kept.now c.copy_lines.new.to (search rules);
}
