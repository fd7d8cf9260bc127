-- Each outcome has room, and what is left to run gives what all of it gives.
use Rattle.std.proofs.Common.{◌+◌, [], ◌∷◌, drop, ap, ◌∙◌}
use Rattle.bounded.specs.Lent.{held, extended}
use Rattle.bounded.proofs.Lents.{added-extended, answered-ok, extended-append}
use Rattle.store.specs.Shown.{shown}
use Rattle.bench.specs.Runs.{outcomes}
use Rattle.bench.proofs.Steps.{room_left, run_next}
use Rattle.bench.proofs.run.run_calls.Goals as goal

pub unwrap-requires : goal.unwrap-requires
unwrap-requires g c =
    answered-ok (held c.loop-call.list) (c.run_call-outcome.result ∷ []) c.push.ensures.reply
    (room_left g.O.Object.model g.M.Memory.conduct c.args.calls.now c.loop-call.call-index _ _ (held c.loop-call.list) (held c.args.list.now) c.loop-call.invariant c.requires c.loop-call-test.true)

pub loop-call-preserved : goal.loop-call-preserved
loop-call-preserved g c =
    let X = g.O.Object.model in let C = g.M.Memory.conduct in
    let show = shown X C g.O.Object.state g.M.Memory.meaning in
    let cs = c.args.calls.now in let i = c.loop-call.call-index in
    let b = held c.loop-call.list in let o = c.run_call-outcome.result in
    let s = show c.loop-call.store in let t = show c.run_call-outcome.new.store in
    let rest = outcomes X C (drop (i + 1) cs) t in
    let fits = room_left X C cs i s (show c.args.store.now) b (held c.args.list.now) c.loop-call.invariant c.requires c.loop-call-test.true in
    ap (λ l. extended l rest) (c.push.ensures.after ∙ added-extended b (o ∷ []) fits) ∙ extended-append b (o ∷ []) rest
    ∙ ap (extended b) (run_next X C cs i _ o s t c.loop-call-test.true c.run_call-outcome.ensures.outcome c.run_call-outcome.ensures.after)
    ∙ c.loop-call.invariant
