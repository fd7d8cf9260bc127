-- Words of an image read one by one are those that lie there side by side.
use Rattle.std.proofs.Common.{◌≡◌, ℕ, zero, suc, ◌+◌, ◌*◌, ◌<◌, ◌≤◌, List, ◌∷◌, length, get_or, take, drop, sym, refl, ap, ◌∙◌, arith}
use Rattle.std.proofs.lemmas.List.{drop_more, ext_get_or}
use Rattle.memory.specs.Model.{line}
use Rattle.machine.specs.Machine.{words_from}

pub words_take : (n a : ℕ) (image : List ℕ) → a + n ≤ length image → words_from image a n ≡ take n (drop a image)
words_take zero a image b = refl
words_take (suc n) a image b =
    ap (λ (ws : List ℕ). get_or image a 0 ∷ ws) (words_take n (a + 1) image (omega arith)) ∙ ap (take (suc n)) (sym (drop_more image a 0 (omega arith)))

pub length-words : (n a : ℕ) (image : List ℕ) → length (words_from image a n) ≡ n
length-words zero a image = refl
length-words (suc n) a image = ap suc (length-words n (a + 1) image)

pub get_d_words : (n a k : ℕ) (image : List ℕ) → k < n → get_or (words_from image a n) k 0 ≡ get_or image (a + k) 0
get_d_words zero a k image h = absurd (omega arith)
get_d_words (suc n) a zero image h = ap (λ b. get_or image b 0) (omega arith)
get_d_words (suc n) a (suc k) image h = get_d_words n (a + 1) k image (omega arith) ∙ ap (λ b. get_or image b 0) (omega arith)

-- words that were read one by one
pub words-read : (n a : ℕ) (image ws : List ℕ) → length ws ≡ n → ((k : ℕ) → k < n → get_or ws k 0 ≡ get_or image (a + k) 0) → ws ≡ words_from image a n
words-read n a image ws e f = ext_get_or 0 ws (words_from image a n) (e ∙ sym (length-words n a image))
    (λ k l. let q : k < n = omega arith in f k q ∙ sym (get_d_words n a k image q))

-- the words of a line
pub words-line : (l : ℕ) (image : List ℕ) → 8 * l + 8 ≤ length image → words_from image (8 * l) 8 ≡ line l image
words-line l image b = words_take 8 (8 * l) image b
