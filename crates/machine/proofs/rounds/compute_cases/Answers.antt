-- Each worked case is computed.
use Rattle.std.proofs.Common.{refl}
use Rattle.memory.specs.Sets.{mem, with_line, minus}
use Rattle.memory.specs.Model.{copied}
use Rattle.machine.specs.Layout.{format_calls}
use Rattle.machine.proofs.rounds.compute_cases.Goals as goal

pub returns : goal.returns
unfolding mem with_line minus copied format_calls
returns c = record {
  lost_and_kept = (refl, refl);
  late = (refl, refl, refl);
  full_and_empty = ((refl, refl), (refl, refl), (refl, refl));
  pictures = (refl, refl, refl);
  formats = (refl, refl, refl, refl);
  resumes = (refl, refl, refl, refl);
  rounds = (refl, refl, refl, refl);
}
