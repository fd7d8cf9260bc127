use Rattle.std.proofs.Common.{◌≡◌, ◌-◌}
use Rattle.memory.specs.Calls.{each_line}
use Rattle.memory.specs.Conduct.{after_calls}
use Rattle.store.proofs.store.writes.ask_lines.Given as goal

-- what is left to ask leads where all of it leads
abbrev pub invariant-loop-line : goal.invariant-loop-line
invariant-loop-line g l =
    (after_calls g.M.Memory.conduct (each_line l.line (l.count - l.line)) (g.M.Memory.meaning l.memory)
    ≡ after_calls g.M.Memory.conduct (each_line 0 l.count) (g.M.Memory.meaning l.initial.memory))
    × (g.M.Memory.frame l.memory ≡ g.M.Memory.frame l.initial.memory)
