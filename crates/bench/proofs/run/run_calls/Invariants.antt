use Rattle.std.proofs.Common.{◌≡◌, drop}
use Rattle.bounded.specs.Lent.{held, extended}
use Rattle.store.specs.Shown.{shown}
use Rattle.bench.specs.Runs.{outcomes}
use Rattle.bench.proofs.run.run_calls.Given as goal

-- what is left to run gives what all of it gives
abbrev pub invariant-loop-call : goal.invariant-loop-call
invariant-loop-call g l =
    let X = g.O.Object.model in let C = g.M.Memory.conduct in
    let show = shown X C g.O.Object.state g.M.Memory.meaning in
    extended (held l.list) (outcomes X C (drop l.call-index l.calls) (show l.store))
    ≡ extended (held l.initial.list) (outcomes X C l.calls (show l.initial.store))
