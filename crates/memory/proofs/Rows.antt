-- Rows of calls, one after another.
use Rattle.std.proofs.Common.{◌≡◌, ℕ, suc, ◌+◌, ◌-◌, ◌<◌, List, [], ◌∷◌, ◌++◌, length, get_or, drop, sym, refl, ap, ◌∙◌, arith}
use Rattle.std.proofs.lemmas.List.{drop_more}
use Rattle.memory.specs.Calls.{Call, writes, asks, each_word, each_line}
use Rattle.memory.specs.Conduct.{Conduct, after_call, after_calls}

pub calls_join : (C : Conduct) (cs ds : List Call) (s : C.State) → after_calls C (cs ++ ds) s ≡ after_calls C ds (after_calls C cs s)
calls_join C [] ds s = refl
calls_join C (c ∷ cs) ds s = calls_join C cs ds (after_call C c s)

pub words_join : (a : ℕ) (xs ys : List ℕ) → each_word a (xs ++ ys) ≡ each_word a xs ++ each_word (a + length xs) ys
words_join a [] ys = ap (λ b. each_word b ys) (omega arith)
words_join a (x ∷ xs) ys = ap (λ cs. writes a x ∷ cs) (words_join (a + 1) xs ys ∙ ap (λ b. each_word (a + 1) xs ++ each_word b ys) (omega arith))

-- words and then more words
pub after_words : (C : Conduct) (a : ℕ) (xs ys : List ℕ) (s : C.State)
    → after_calls C (each_word a (xs ++ ys)) s ≡ after_calls C (each_word (a + length xs) ys) (after_calls C (each_word a xs) s)
after_words C a xs ys s = ap (λ cs. after_calls C cs s) (words_join a xs ys) ∙ calls_join C (each_word a xs) (each_word (a + length xs) ys) s

-- one call more of what is left
pub words_step : (C : Conduct) (from i : ℕ) (ws : List ℕ) (s t : C.State) → i < length ws → t ≡ after_call C (writes (from + i) (get_or ws i 0)) s
    → after_calls C (each_word (from + (i + 1)) (drop (i + 1) ws)) t ≡ after_calls C (each_word (from + i) (drop i ws)) s
words_step C from i ws s t h e =
    let a : from + (i + 1) ≡ from + i + 1 = omega arith in
    ap (λ b. after_calls C (each_word b (drop (i + 1) ws)) t) a
    ∙ ap (λ x. after_calls C (each_word (from + i + 1) (drop (i + 1) ws)) x) e
    ∙ ap (λ vs. after_calls C (each_word (from + i) vs) s) (sym (drop_more ws i 0 h))

pub lines_step : (C : Conduct) (i n : ℕ) (s t : C.State) → i < n → t ≡ after_call C (asks i) s
    → after_calls C (each_line (i + 1) (n - (i + 1))) t ≡ after_calls C (each_line i (n - i)) s
lines_step C i n s t h e =
    let a : i + 1 ≡ suc i = omega arith in
    let k : suc (n - (i + 1)) ≡ n - i = omega arith in
    ap (λ l. after_calls C (each_line l (n - (i + 1))) t) a
    ∙ ap (λ x. after_calls C (each_line (suc i) (n - (i + 1))) x) e
    ∙ ap (λ j. after_calls C (each_line i j) s) k
