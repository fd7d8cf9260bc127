-- A part with no separator is the last piece; in one with a separator, the rest begins behind it.
use Rattle.std.proofs.Common.{◌≡◌, ◌+◌, cond, ◌==◌, sym, ap, ◌∙◌}
use Rattle.std.proofs.lemmas.Bool.{cond-true, cond-false, eq-eqb, ne_eqb}
use Rattle.script.proofs.Cuts.{last-piece, first-piece}
use Rattle.script.proofs.words.read.cut.Goals as goal
use Rattle.script.proofs.words.read.cut.Goals.{then-sep-eq10, else-sep-eq10}

pub returns-in_default : goal.returns-in_default
returns-in_default c = last-piece c.args.sep c.args.part.line c.args.part.byte c.args.part.bytes.now (sym c.in_default.ensures)

pub returns : goal.returns
returns c =
    let place : (cond (c.args.sep == 10) (c.args.part.line + 1) c.args.part.line ≡ c.if-sep-eq10.line.0) × (cond (c.args.sep == 10) 1 (c.args.part.byte + c.in-Some.n + 1) ≡ c.if-sep-eq10.line.1)
    = elim c.if-sep-eq10.branch [
      | then-sep-eq10 w ↦ let t = eq-eqb c.args.sep 10 w.if-sep-eq10.true in (cond-true _ _ _ t ∙ sym (ap (λ p. p.0) w.line-is), cond-true _ _ _ t ∙ sym (ap (λ p. p.1) w.line-is))
      | else-sep-eq10 w ↦ let t = ne_eqb c.args.sep 10 w.if-sep-eq10.false in (cond-false _ _ _ t ∙ sym (ap (λ p. p.0) w.line-is), cond-false _ _ _ t ∙ sym (ap (λ p. p.1) w.line-is))
    ] in
    first-piece c.args.sep c.args.part.line c.args.part.byte _ _ c.in-Some.n c.args.part.bytes.now c.split_at.result.0.now c.split_at.result.1.now (sym c.in-Some.ensures) c.split_at.ensures.front c.split_at.ensures.back place.0 place.1
