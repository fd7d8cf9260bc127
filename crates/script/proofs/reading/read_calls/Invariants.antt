-- The lines that are still to come give what was to come at the start.
use Rattle.std.proofs.Common.{◌≡◌}
use Rattle.std.specs.Iterator.Adapters.{enumerate_source, enumerate_count}
use Rattle.bounded.specs.Lent.{held, extended}
use Rattle.script.specs.Ahead.{pieces_ahead, to_come}
use Rattle.script.proofs.reading.read_calls.Given as goal

abbrev pub invariant-loop-count : goal.invariant-loop-count
invariant-loop-count l =
    let ahead = to_come l.setup (enumerate_count l.count-iterator) l.calls (pieces_ahead (enumerate_source l.count-iterator)) in
    let whole = to_come l.setup 0 l.initial.calls (pieces_ahead l.fn.lines) in
    record {
      can : (goal.iterator-loop-count).can_next l.count-iterator;
      ends : (goal.iterator-loop-count).is_finite l.count-iterator;
      reply : ahead.result ≡ whole.result;
      after : extended (held l.calls) ahead.calls ≡ extended (held l.initial.calls) whole.calls;
    }
