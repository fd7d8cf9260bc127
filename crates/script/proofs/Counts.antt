-- How many pieces a text has, and how many words a line.
use Rattle.std.proofs.Common.{◌≡◌, ℕ, suc, ◌+◌, ◌≤◌, cond, ◌==◌, List, [], ◌∷◌, length, count_by, refl, ap, ◌∙◌, arith}
use Rattle.std.specs.List.{slice_split}
use Rattle.std.proofs.lemmas.List.Splits.{length-slice_split}
use Rattle.std.proofs.lemmas.List.Sums.{count_by-le-length}
use Rattle.std.proofs.lemmas.List.Recursion.{same_from_clauses}
use Rattle.script.specs.Pieces.{on_first, pieces, words_of}
use Rattle.script.specs.Places.{words_at, words_in, rest_of, spots_at}

length-words_at : (line byte : ℕ) (ws : List (List ℕ)) → length (words_at line byte ws) ≡ length ws
length-words_at line byte [] = refl
length-words_at line byte (w ∷ ws) = ap suc (length-words_at line (byte + length w + 1) ws)

split_is : (sep : ℕ) (bs : List ℕ) → pieces sep ([] ∷ []) bs ≡ slice_split (λ b. b == sep) bs
split_is sep bs = same_from_clauses (pieces sep ([] ∷ [])) (slice_split (λ b. b == sep)) (λ b ws. cond (b == sep) ([] ∷ ws) (on_first b ws)) refl (λ _ _. refl) (λ _ _. refl) bs

length-pieces : (sep : ℕ) (bs : List ℕ) → length (pieces sep ([] ∷ []) bs) ≡ count_by (λ b. b == sep) bs + 1
length-pieces sep bs = ap length (split_is sep bs) ∙ length-slice_split (λ b. b == sep) bs

pub length-pieces-le : (sep : ℕ) (bs : List ℕ) → length (pieces sep ([] ∷ []) bs) ≤ length bs + 1
length-pieces-le sep bs = omega (arith, length-pieces sep bs, count_by-le-length (λ b. b == sep) bs)

pub length-spots_at : (sep : ℕ) (ws : List (List ℕ)) (line byte : ℕ) → length (spots_at sep line byte ws) ≡ length ws
length-spots_at sep [] line byte = refl
length-spots_at sep (w ∷ ws) line byte = ap suc (length-spots_at sep ws (cond (sep == 10) (line + 1) line) (cond (sep == 10) 1 (byte + length w + 1)))

-- a part has one piece more than separators
pub length-spots : (sep line byte : ℕ) (bs : List ℕ) → length (spots_at sep line byte (pieces sep ([] ∷ []) bs)) ≡ count_by (λ b. b == sep) bs + 1
length-spots sep line byte bs = length-spots_at sep (pieces sep ([] ∷ []) bs) line byte ∙ length-pieces sep bs

length-words_in : (line : ℕ) (bs : List ℕ) → length (words_in line bs) ≡ count_by (λ b. b == 32) bs + 1
length-words_in line bs = length-words_at line 1 (words_of bs) ∙ length-pieces 32 bs

one_and_rest : {X : Type 0} (xs : List X) (n : ℕ) → length xs ≡ n + 1 → 1 + length (rest_of xs) ≡ length xs
one_and_rest [] n e = absurd (omega (arith, e))
one_and_rest (x ∷ xs) n e = omega arith

-- the first word of a line, and the words after it
pub word_and_rest : (line : ℕ) (bs : List ℕ) → 1 + length (rest_of (words_in line bs)) ≡ length (words_in line bs)
word_and_rest line bs = one_and_rest (words_in line bs) (count_by (λ b. b == 32) bs) (length-words_in line bs)

pub length-words-le : (line : ℕ) (bs : List ℕ) → length (words_in line bs) ≤ length bs + 1
length-words-le line bs = omega (arith, length-words_at line 1 (words_of bs), length-pieces-le 32 bs)
