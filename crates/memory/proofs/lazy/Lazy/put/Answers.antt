-- A word written after making way, and its line late where a line is due.
use Rattle.std.proofs.Common.{ℕ, ◌*◌, ◌<◌, length, sym, subst}
use Rattle.memory.specs.Held.{line_count}
use Rattle.memory.proofs.Images.{held_write}
use Rattle.memory.proofs.lazy.Lazy.put.Goals as goal

pub returns : goal.returns
returns c = let n = c.make_way.new.self in let w = c.args.word in
    let k : w < 8 * line_count (length n.kept.now) = subst (λ (m : ℕ). w < 8 * line_count m) (sym c.make_way.ensures.long) c.requires.inside in
    record {
      moved = record {
        after = rw (c.wrote.ensures.asked, c.wrote.ensures.due, c.wrote.ensures.late)
            (held_write w c.args.value c.args.line n.current n.kept.now n.on_the_way.asked n.on_the_way.due n.on_the_way.late _ c.requires.line k c.make_way.ensures.moved.after);
        lent = c.make_way.ensures.moved.lent;
      };
    }
