-- A part has one piece more than separators, and each of these counts as one.
use Rattle.std.proofs.Common.{◌≡◌, ◌+◌, ◌^◌, ◌<◌, ◌==◌, count_by, sym, ap, ◌∙◌, rules, arith}
use Rattle.std.proofs.iter.runs.Sources.{sums}
use Rattle.std.proofs.lemmas.List.Sums.{count_by-le-length}
use Rattle.script.proofs.Counts.{length-spots}
use Rattle.script.proofs.words.read.count_pieces.Goals as goal

pub sum-requires-clause-fits : goal.sum-requires-clause-fits
sum-requires-clause-fits c =
    let bs = c.args.part.bytes.now in
    let few : count_by (λ b. b == c.args.sep) bs < 2 ^ 64 = omega (arith, count_by-le-length (λ b. b == c.args.sep) bs, c.args.part.byte_fits) in
    search (rules, sums)

pub overflow_add-result : goal.overflow_add-result
overflow_add-result c =
    let bs = c.args.part.bytes.now in
    let n : c.sum.result ≡ count_by (λ b. b == c.args.sep) bs = search rules in
    omega (arith, n, count_by-le-length (λ b. b == c.args.sep) bs, c.args.part.byte_fits)

pub returns : goal.returns
returns c =
    let p = c.args.part in
    let n : c.sum.result ≡ count_by (λ b. b == c.args.sep) p.bytes.now = search rules in
    ap (λ n. n + 1) n ∙ sym (length-spots c.args.sep p.line p.byte p.bytes.now)
