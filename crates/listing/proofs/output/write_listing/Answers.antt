-- Each line fits, and at the end the buffer holds the listing and its own bytes after it.
use Rattle.std.proofs.Common.{◌≡◌, ℕ, Ok, Err, ◌+◌, ◌≤◌, leb, [], ◌++◌, length, drop, sym, ap, ◌∙◌, arith, rules}
use Rattle.std.proofs.lemmas.List.{at_drop_all, length-append}
use Rattle.std.proofs.lemmas.Bool.{cond-true, le-leb}
use Rattle.bounded.specs.Lent.{Lent, held, added, extended}
use Rattle.bounded.proofs.Lents.{added-extended, extended-append, extended-nil, memory_after}
use Rattle.listing.specs.Texts.{listing_text}
use Rattle.listing.specs.Buffers.{filled}
use Rattle.listing.proofs.Lines.{line, next-line, sized_fits}
use Rattle.listing.proofs.output.write_listing.Goals as goal

pub loop-o-preserved : goal.loop-o-preserved
loop-o-preserved c =
    let os = c.args.outcomes.now in
    let i = c.loop-o.o-index in
    let b = held c.loop-o.text in
    let rest = listing_text (drop (i + 1) os) in
    let parts : extended b (line os i ++ rest) ≡ extended (held c.new-text.result) (listing_text os) = ap (extended b) (sym (next-line os i c.loop-o-test.true)) ∙ c.loop-o.invariant in
    let len : length (b.entries ++ (line os i ++ rest)) ≡ length (listing_text os) = ap (λ (l : Lent ℕ). length l.entries) (parts ∙ ap (λ (l : Lent ℕ). extended l (listing_text os)) c.new-text.ensures) in
    let room : b.room ≡ length c.args.out.now = ap (λ (l : Lent ℕ). l.room) (parts ∙ ap (λ (l : Lent ℕ). extended l (listing_text os)) c.new-text.ensures) in
    let fits : length b.entries + length (line os i) ≤ b.room = omega (arith, length-append b.entries (line os i ++ rest), length-append (line os i) rest, len, room, (sized_fits _ _ _ c.in_ok-n.ensures).0) in
    ap (λ l. extended l rest) (c.extend.ensures.after ∙ ap (added b) (c.as_bytes.ensures.value ∙ c.deref.ensures.0 ∙ c.line_of.ensures.text) ∙ added-extended b (line os i) fits) ∙ extended-append b (line os i) rest ∙ parts

pub returns : goal.returns
returns c =
    let os = c.args.outcomes.now in
    let b = held c.loop-o.text in
    let all = listing_text os in
    let fits = sized_fits _ _ _ c.in_ok-n.ensures in
    let t = le-leb (length all) (length c.args.out.now) fits.0 in
    let last : listing_text (drop c.loop-o.o-index os) ≡ [] = at_drop_all listing_text os c.loop-o.o-index c.loop-o-test.false in
    let whole = sym (extended-nil b) ∙ ap (extended b) (sym last) ∙ c.loop-o.invariant ∙ ap (λ (l : Lent ℕ). extended l all) c.new-text.ensures in
    let memory : c.loop-o.text.items.now ≡ filled all c.args.out.now = memory_after c.loop-o.text c.args.out.now _ all whole ∙ sym (cond-true (leb (length all) (length c.args.out.now)) (all ++ drop (length all) c.args.out.now) c.args.out.now t) in
    let named = sym (ap (λ (l : Lent ℕ). l.lender) whole) in
    record {
      reply = ap Ok fits.1 ∙ sym (cond-true (leb (length all) (length c.args.out.now)) (Ok (length all)) (Err (record {})) t);
      out = search rules;
    }
