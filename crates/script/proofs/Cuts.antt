-- The first piece of a text, and the pieces after it, each with its place.
use Rattle.std.proofs.Common.{◌≡◌, ℕ, suc, ◌+◌, ◌-◌, ◌<◌, ◌≤◌, cond, not, eqb, ◌==◌, List, [], ◌∷◌, length, take, drop, position, Some, None, refl, sym, ap, ◌∙◌, ⊎_elim, arith}
use Rattle.std.specs.List.{position_or_len}
use Rattle.std.proofs.lemmas.List.{length-take-le, length-drop, take_all, drop-drop}
use Rattle.std.proofs.lemmas.List.Sums.{prefix_len-le-length}
use Rattle.std.proofs.lemmas.Bool.{cases_Bool}
use Rattle.std.proofs.lemmas.Bool.Decides.{nat_tests}
use Rattle.script.specs.Pieces.{on_first, pieces}
use Rattle.script.specs.Places.{Spot, spots_at}

-- how many bytes come before the first sep
abbrev before : ℕ → List ℕ → ℕ
before sep bs = position_or_len (λ b. b == sep) bs

before_le : (sep : ℕ) (bs : List ℕ) → before sep bs ≤ length bs
before_le sep bs = prefix_len-le-length (λ b. not (b == sep)) bs

-- a separator is there
cut_here : (sep : ℕ) (last : List (List ℕ)) (bs : List ℕ) → before sep bs < length bs → pieces sep last bs ≡ take (before sep bs) bs ∷ pieces sep last (drop (suc (before sep bs)) bs)
cut_here sep last [] h = absurd (omega arith)
cut_here sep last (c ∷ cs) h =
    ⊎_elim (λ e. rw e) (λ e. let k : before sep cs < length cs = omega (arith, rw e at h) in let s : suc (before sep cs) ≡ 1 + before sep cs = omega arith in
    rw e (ap (on_first c) (cut_here sep last cs k) ∙ ap (λ n. take n (c ∷ cs) ∷ pieces sep last (drop (suc n) (c ∷ cs))) s)) (cases_Bool (eqb c sep))

-- none is there
cut-none : (sep : ℕ) (bs : List ℕ) → before sep bs ≡ length bs → pieces sep ([] ∷ []) bs ≡ bs ∷ []
cut-none sep [] h = refl
cut-none sep (c ∷ cs) h =
    ⊎_elim (λ e. let z : 0 ≡ suc (length cs) = rw e at h in absurd (omega arith)) (λ e. let k : before sep cs ≡ length cs = omega (arith, rw e at h) in rw e (ap (on_first c) (cut-none sep cs k))) (cases_Bool (eqb c sep))

abbrev pub spot : ℕ → ℕ → List ℕ → Spot
spot line byte bs = record { text = bs; line = line; byte = byte }

pub last-piece : (sep line byte : ℕ) (bs : List ℕ) → position (λ b. b == sep) bs ≡ None → spots_at sep line byte (pieces sep ([] ∷ []) bs) ≡ spot line byte bs ∷ []
last-piece sep line byte bs h =
    let le = before_le sep bs in
    let all : before sep bs ≡ length bs = grind (arith, nat_tests) in
    ap (spots_at sep line byte) (cut-none sep bs all)

pub first-piece : (sep line byte line' byte' n : ℕ) (bs front back : List ℕ) → position (λ b. b == sep) bs ≡ Some n → front ≡ take n bs → back ≡ drop n bs → cond (sep == 10) (line + 1) line ≡ line' → cond (sep == 10) 1 (byte + n + 1) ≡ byte'
    → spots_at sep line byte (pieces sep ([] ∷ []) bs) ≡ spot line byte front ∷ spots_at sep line' byte' (pieces sep ([] ∷ []) (take (length back - 1) (drop 1 back)))
first-piece sep line byte line' byte' n bs front back h f b l y =
    let at : before sep bs ≡ n = grind (arith, nat_tests) in
    let lt : before sep bs < length bs = grind (arith, nat_tests) in
    let len : length front ≡ n = ap length f ∙ length-take-le n bs (omega arith) in
    let here : take (before sep bs) bs ≡ front = ap (λ k. take k bs) at ∙ sym f in
    let behind : suc (before sep bs) ≡ n + 1 = omega (arith, at) in
    let rest : drop (suc (before sep bs)) bs ≡ take (length back - 1) (drop 1 back) = ap (λ k. drop k bs) behind ∙ sym (drop-drop 1 n bs) ∙ ap (drop 1) (sym b) ∙ sym (take_all (length back - 1) (drop 1 back) (omega (arith, length-drop 1 back))) in
    let cut : pieces sep ([] ∷ []) bs ≡ front ∷ pieces sep ([] ∷ []) (take (length back - 1) (drop 1 back)) = cut_here sep ([] ∷ []) bs lt ∙ ap (λ w. w ∷ pieces sep ([] ∷ []) (drop (suc (before sep bs)) bs)) here ∙ ap (λ r. front ∷ pieces sep ([] ∷ []) r) rest in
    let ws = pieces sep ([] ∷ []) (take (length back - 1) (drop 1 back)) in
    ap (spots_at sep line byte) cut ∙ ap (λ k. spot line byte front ∷ spots_at sep (cond (sep == 10) (line + 1) line) (cond (sep == 10) 1 (byte + k + 1)) ws) len
    ∙ ap (λ k. spot line byte front ∷ spots_at sep k (cond (sep == 10) 1 (byte + n + 1)) ws) l ∙ ap (λ k. spot line byte front ∷ spots_at sep line' k ws) y
