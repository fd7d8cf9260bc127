use Rattle.std.proofs.Common.{◌≡◌, ℕ, ◌+◌, ◌-◌, ◌*◌, List, [], ◌∷◌, ◌++◌, length, replicate, sym, refl, ap, ◌∙◌, append_assoc, arith}
use Rattle.std.proofs.lemmas.List.{length-replicate, replicate-append-replicate}
use Rattle.memory.specs.Calls.{syncs, each_word, each_line}
use Rattle.memory.specs.Conduct.{Conduct, after_calls}
use Rattle.machine.specs.Layout.{contents, lines_used, object_at, format_words, format_calls}
use Rattle.store.proofs.Format.{then_words, then_calls}
use Rattle.store.proofs.store.writes.write_format.Goals as goal

module _ (C : Conduct) (kind n : ℕ) (picture : List ℕ) (s s₁ s₂ s₃ s₄ : C.State) where
  words_in_order : (o l : ℕ) → o ≡ object_at n 0 → l ≡ lines_used n → length picture ≡ 40
      → s₁ ≡ after_calls C (each_word 0 (contents kind n)) s
      → s₂ ≡ after_calls C (each_word 8 (replicate (o - 8) 0)) s₁
      → s₃ ≡ after_calls C (each_word o picture) s₂
      → s₄ ≡ after_calls C (each_word (o + 40) (replicate (8 * l - (o + 40)) 0)) s₃
      → s₄ ≡ after_calls C (each_word 0 (format_words kind picture n)) s
  words_in_order o l p q k w₁ w₂ w₃ w₄ =
      let zs : List ℕ = replicate (o - 8) 0 in let qs : List ℕ = replicate (8 * l - (o + 40)) 0 in
      let v₃ = then_words C o (o + 40) picture qs s₂ s₃ s₄ (omega arith) w₃ w₄ in
      let v₂ = then_words C 8 o zs (picture ++ qs) s₁ s₂ s₄ (omega (arith, length-replicate {A = ℕ} (o - 8) 0)) w₂ v₃ in
      let v₁ = then_words C 0 8 (contents kind n) (zs ++ (picture ++ qs)) s s₁ s₄ refl w₁ v₂ in
      let z : zs ≡ replicate 8 0 ++ replicate (8 * n) 0 = ap (λ (j : ℕ). replicate j 0) (omega arith) ∙ sym (replicate-append-replicate 8 (8 * n) 0) in
      let e : qs ≡ replicate (8 * (n + 5)) 0 = ap (λ (j : ℕ). replicate j 0) (omega arith) in
      v₁ ∙ ap (λ (ws : List ℕ). after_calls C (each_word 0 (contents kind n ++ ws)) s)
      (ap (λ (ws : List ℕ). ws ++ (picture ++ qs)) z ∙ append_assoc (replicate 8 0) (replicate (8 * n) 0) (picture ++ qs)
      ∙ ap (λ (ws : List ℕ). replicate 8 0 ++ (replicate (8 * n) 0 ++ (picture ++ ws))) e)

pub returns : goal.returns
unfolding format_calls
returns g c =
    let C = g.M.Memory.conduct in let m = g.M.Memory.meaning in
    let kind = c.args.kind in let n = c.args.workers in let picture = c.args.picture.now in
    let k : length picture ≡ 40 = omega arith in
    let begin = m c.args.memory.now in let written = m c.write_zeros-2.new.memory in
    let words = words_in_order C kind n picture begin (m c.write_words.new.memory) (m c.write_zeros.new.memory) (m c.write_words-2.new.memory) written
    c.object_at-object.result c.lines_used-lines.result c.object_at-object.ensures.value c.lines_used-lines.ensures.value k
    (c.write_words.ensures.after ∙ ap (λ (ws : List ℕ). after_calls C (each_word 0 ws) begin) c.contents.ensures)
    c.write_zeros.ensures.after c.write_words-2.ensures.after c.write_zeros-2.ensures.after in
    let asked = c.ask_lines.ensures.after ∙ ap (λ (l : ℕ). after_calls C (each_line 0 l) written) c.lines_used-lines.ensures.value in
    let rest = then_calls C (each_line 0 (lines_used n)) (syncs ∷ []) written (m c.ask_lines.new.memory) (m c.sync.new.self) asked c.sync.ensures.after in
    record {
      after = then_calls C (each_word 0 (format_words kind picture n)) (each_line 0 (lines_used n) ++ (syncs ∷ [])) begin written (m c.sync.new.self) words rest;
      lent = c.sync.ensures.lent ∙ c.ask_lines.ensures.lent ∙ c.write_zeros-2.ensures.lent ∙ c.write_words-2.ensures.lent
          ∙ c.write_zeros.ensures.lent ∙ c.write_words.ensures.lent;
    }
