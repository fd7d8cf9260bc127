-- The invariant of copying a set: copying what is left gives the whole copy.
use Rattle.std.proofs.Common.{◌≡◌, ℕ, true}
use Rattle.memory.specs.Sets.{mem}
use Rattle.memory.specs.Model.{copied}
use Rattle.memory.proofs.line_set.copy_lines.Given as goal

abbrev pub invariant-loop-line : goal.invariant-loop-line
invariant-loop-line l = record {
  whole : copied l.line-iterator l.from l.to ≡ copied l.fn.set l.from l.initial.to;
  inside : (i : ℕ) → mem l.line-iterator i ≡ true → mem l.fn.set i ≡ true;
}
