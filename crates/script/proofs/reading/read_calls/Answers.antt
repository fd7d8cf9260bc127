-- One turn more of the loop over the lines: the line is a call, and the list has room for it.
use Rattle.std.proofs.Common.{◌≡◌, ◌+◌, ◌-◌, ◌<◌, [], ◌∷◌, length, inl, refl, sym, ap, ◌∙◌, arith, ltb-true}
use Rattle.std.proofs.lemmas.List.{length_push}
use Rattle.std.specs.Iterator.Adapters.{enumerate_source, enumerate_count}
use Rattle.bounded.specs.Lent.{Lent, held, extended}
use Rattle.bounded.proofs.Lents.{added-extended, extended-append}
use Rattle.script.specs.declared.call.Call.{Call}
use Rattle.script.specs.Readings.{Reading, with_call, calls_left}
use Rattle.script.specs.Ahead.{pieces_ahead, spot_of, to_come}
use Rattle.script.proofs.Lines.{ahead_short, one_more, one_fewer, some_left}
use Rattle.script.proofs.reading.read_calls.Goals as goal

pub loop-count-init : goal.loop-count-init
loop-count-init c =
    let it = c.into_iter-count-iterator.result in
    let made = c.into_iter-count-iterator.ensures.into_iter_gives in
    let lines : enumerate_source it ≡ c.args.lines = ap enumerate_source made ∙ c.enumerate-count-items.ensures.source in
    let none : enumerate_count it ≡ 0 = ap enumerate_count made ∙ c.enumerate-count-items.ensures.count in
    let short = ahead_short c.args.lines.sep c.args.lines.rest in
    record {
      can = (tt, tt, inl (rw (none, lines) (omega (arith, short))));
      ends = tt;
      reply = rw (none, lines) refl;
      after = rw (none, lines) refl;
    }

pub loop-count-preserved : goal.loop-count-preserved
loop-count-preserved c =
    let s = c.args.setup in
    let it = c.loop-count.count-iterator in
    let n = enumerate_count it in
    let list = c.loop-count.calls in
    let b = held list in
    let b' = held c.push.new.self in
    let x = c.in_ok-call.call in
    let step = c.in-Some.ensures.steps in
    let lines = pieces_ahead (enumerate_source c.next.new.self) in
    let ahead = to_come s (enumerate_count c.next.new.self) c.push.new.self lines in
    let few : n < 512 = omega (arith, step.1, c.if-count-ge-MOST_CALLS.false) in
    let free : length b.entries < b.room = ltb-true (length b.entries) b.room (sym c.has_room.ensures ∙ c.if-not-has_room.false) in
    let more : b' ≡ extended b (x ∷ []) = c.push.ensures.after ∙ added-extended b (x ∷ []) (omega (arith, free)) in
    let len : length b'.entries ≡ length b.entries + 1 = ap (λ (l : Lent Call). length l.entries) more ∙ length_push b.entries x in
    let fewer : calls_left (enumerate_count c.next.new.self) c.push.new.self ≡ calls_left n list - 1 = ap (λ k. calls_left k c.push.new.self) step.2 ∙ one_fewer n 512 (length b.entries) b.room (length b'.entries) b'.room few free len (ap (λ (l : Lent Call). l.room) more) in
    let some = some_left n 512 (length b.entries) b.room few free in
    let whole : to_come s n list (pieces_ahead (enumerate_source it)) ≡ with_call x ahead = ap (to_come s n list) step.0 ∙ one_more s (calls_left n list) _ (spot_of c.in-Some.line) x lines some fewer c.in_ok-call.ensures in
    record {
      can = c.in-Some.ensures.goes.keeps;
      ends = tt;
      reply = sym (ap (λ (r : Reading). r.result) whole) ∙ c.loop-count.invariant.reply;
      after = ap (λ l. extended l ahead.calls) more ∙ extended-append b (x ∷ []) ahead.calls ∙ sym (ap (λ (r : Reading). extended b r.calls) whole) ∙ c.loop-count.invariant.after;
    }
