-- What the caller's words hold when a lazy module was opened over them and used.
use Rattle.std.proofs.Common.{◌≡◌, ℕ, Bool, ◌*◌, ◌/◌, ◌<◌, true, false, cond, List, length, set, refl, ap, ◌∙◌, arith, length-take}
use Rattle.std.proofs.lemmas.Bool.{ltb-true}
use base.Fml.{GName}
use Rattle.memory.specs.Model.{write, ask, sync}
use Rattle.memory.specs.Post.{inside_word, stores}
use Rattle.memory.specs.Held.{opened, front, framed, line_count}
use Rattle.memory.proofs.Images.{loan_set, loan_no}
use Rattle.memory.proofs.Quiet.{stored}

-- a word stored, if it is inside, and the loan at its end
pub stored_back : (w v : ℕ) (x now ws : List ℕ) (g h : GName)
    → front now now ≡ (stores w v (opened ws)).kept
    → (h ≡ g → x ≡ now) → framed g now ≡ framed h ws → x ≡ cond (inside_word w (opened ws)) (set ws w v) ws
stored_back w v x now ws g h kept back lent = go (inside_word w (opened ws)) refl
  where
    at : (b : Bool) → inside_word w (opened ws) ≡ b → front now now ≡ (cond b (sync (ask (w / 8) (write w v (opened ws)))) (opened ws)).kept
    at b e = kept ∙ ap (λ c. (cond c (sync (ask (w / 8) (write w v (opened ws)))) (opened ws)).kept) e

    go : (b : Bool) → inside_word w (opened ws) ≡ b → x ≡ cond (inside_word w (opened ws)) (set ws w v) ws
    go true e =
        let i : w < length (front ws ws) = ltb-true w _ e in
        loan_set x now ws g h w v _ e back lent (omega (arith, length-take (8 * line_count (length ws)) ws)) (at true e ∙ stored w v (front ws ws))
    go false e = loan_no x now ws (set ws w v) g h _ e back lent (at false e)
