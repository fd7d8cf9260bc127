-- Pieces with their places, as the words of a line and as the lines of a script.
use Rattle.std.proofs.Common.{◌≡◌, ℕ, zero, suc, ◌+◌, ◌-◌, true, false, cond, eqb, ◌==◌, List, [], ◌∷◌, ◌++◌, length, take, drop, map, Some, None, Option, MatchOption, Bor, refl, sym, ap, subst, ◌<◌, ◌∙◌, ⊎_elim, arith}
use Rattle.std.specs.Option.{unwrap_or}
use lib.Pointwise.{pointwise}
use Rattle.std.proofs.lemmas.List.{take-append-drop}
use Rattle.std.proofs.lemmas.Bool.{cases_Bool}
use Rattle.std.proofs.lemmas.Slice.Eq.{bytes_eq-Decides}
use Rattle.script.specs.Ahead.{lines_or_one}
use Rattle.script.specs.Pieces.{on_first, pieces, lines_of}
use Rattle.script.specs.Places.{seen_at, word_at, words_at, lines_at, lines_in, spots_at}

pub as_words : (line byte : ℕ) (ws : List (List ℕ)) → map seen_at (spots_at 32 line byte ws) ≡ words_at line byte ws
as_words line byte [] = refl
as_words line byte (w ∷ ws) = ap (λ r. word_at line byte w ∷ r) (as_words line (byte + length w + 1) ws)

as_lines : (line : ℕ) (ls : List (List ℕ)) → spots_at 10 line 1 ls ≡ lines_at line ls
as_lines line [] = refl
as_lines line (l ∷ ls) = ap (λ r. record { text = l; line = line; byte = 1 } ∷ r) (as_lines (line + 1) ls)

-- a text with an LF behind it has the lines that its LFs cut it into
with_lf : (bs : List ℕ) → lines_of (bs ++ 10 ∷ []) ≡ pieces 10 ([] ∷ []) bs
with_lf [] = refl
with_lf (c ∷ cs) = ap (λ r. cond (c == 10) ([] ∷ r) (on_first c r)) (with_lf cs)

-- so has a text whose last byte, at k, is no LF
no_lf : (bs : List ℕ) (k : ℕ) → suc k ≡ length bs → pointwise eqb (drop k bs) (10 ∷ []) ≡ false → lines_of bs ≡ pieces 10 ([] ∷ []) bs
no_lf [] k e h = absurd (omega (arith, e))
no_lf (c ∷ []) zero e h =
    ⊎_elim (λ (t : eqb c 10 ≡ true). absurd (cc)) (λ (t : eqb c 10 ≡ false). rw t) (cases_Bool (eqb c 10))
no_lf (c ∷ []) (suc k) e h = absurd (omega (arith, e))
no_lf (c ∷ (d ∷ ds)) zero e h = absurd (omega (arith, e))
no_lf (c ∷ (d ∷ ds)) (suc k) e h = ap (λ r. cond (c == 10) ([] ∷ r) (on_first c r)) (no_lf (d ∷ ds) k (omega (arith, e)) h)

some_lines : (bs : List ℕ) → 0 < length bs → lines_or_one bs ≡ lines_in bs
some_lines [] h = absurd (omega arith)
some_lines (b ∷ bs) h = refl

-- the lines of a script, from its text without its last LF
stripped : (bs text : List ℕ) → length text + 1 ≡ length bs → text ≡ take (length bs - 1) bs → pointwise eqb (drop (length bs - 1) bs) (10 ∷ []) ≡ true → spots_at 10 1 1 (pieces 10 ([] ∷ []) text) ≡ lines_or_one bs
stripped bs text n t h =
    let lf : drop (length bs - 1) bs ≡ 10 ∷ [] = (bytes_eq-Decides (drop (length bs - 1) bs) (10 ∷ [])).0 h in
    let whole : bs ≡ text ++ 10 ∷ [] = sym (take-append-drop (length bs - 1) bs) ∙ ap (λ x. take (length bs - 1) bs ++ x) lf ∙ ap (λ x. x ++ 10 ∷ []) (sym t) in
    as_lines 1 (pieces 10 ([] ∷ []) text) ∙ ap (lines_at 1) (sym (with_lf text)) ∙ ap lines_in (sym whole) ∙ sym (some_lines bs (omega (arith, n)))

unstripped : (bs : List ℕ) → pointwise eqb (drop (length bs - 1) bs) (10 ∷ []) ≡ false → spots_at 10 1 1 (pieces 10 ([] ∷ []) bs) ≡ lines_or_one bs
unstripped [] h = refl
unstripped (c ∷ cs) h =
    as_lines 1 (pieces 10 ([] ∷ []) (c ∷ cs)) ∙ ap (lines_at 1) (sym (no_lf (c ∷ cs) (length (c ∷ cs) - 1) (omega arith) h))

abbrev pub Stripped : List ℕ → List ℕ → Option (Bor (List ℕ)) → Type 0
Stripped bs lf r = MatchOption r (pointwise eqb (drop (length bs - length lf) bs) lf ≡ false) (λ x. (pointwise eqb (drop (length bs - length lf) bs) lf ≡ true) × (x.now ≡ take (length bs - length lf) bs) × (length x.now + length lf ≡ length bs))

pub script_lines : (script text : Bor (List ℕ)) (lf : List ℕ) (r : Option (Bor (List ℕ))) → lf ≡ 10 ∷ [] → Stripped script.now lf r → text ≡ unwrap_or r script → spots_at 10 1 1 (pieces 10 ([] ∷ []) text.now) ≡ lines_or_one script.now
script_lines script text lf None l h e = let g : Stripped script.now (10 ∷ []) None = subst (λ x. Stripped script.now x None) l h in ap (λ (x : Bor (List ℕ)). spots_at 10 1 1 (pieces 10 ([] ∷ []) x.now)) e ∙ unstripped script.now g
script_lines script text lf (Some x) l h e = let g : Stripped script.now (10 ∷ []) (Some x) = subst (λ y. Stripped script.now y (Some x)) l h in ap (λ (x : Bor (List ℕ)). spots_at 10 1 1 (pieces 10 ([] ∷ []) x.now)) e ∙ stripped script.now x.now g.2 g.1 g.0
