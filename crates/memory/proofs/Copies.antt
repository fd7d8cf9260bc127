-- The laws of copied lines.
use Rattle.std.proofs.Common.{◌≡◌, ℕ, ◌+◌, ◌-◌, ◌*◌, ◌/◌, ◌^◌, ◌<◌, ◌≤◌, Bool, true, false, not, ◌&&◌, cond, eqb, ◌≢◌, ◌⊎◌, List, ◌++◌, length, get_or, take, drop, set, sym, refl, ap, ◌∙◌, subst, inl, inr, ⊎_elim, arith, rules, length-drop, length-set, length-take, length-append, length-take-le, get_or-drop, get_or-set_other, get_or-take}
use lib.Bits.{bit_and}
use Rattle.std.proofs.lemmas.List.{ext_get_or, places, get_or-append_right}
use borrow.Rule.Slice.PartMut.{put_mid}
use Rattle.std.proofs.lemmas.List.FromFn.{length-map-range_with_len, get_or-map-range_with_len}
use Rattle.std.proofs.lemmas.Bool.{eqb-true, eq-eqb, ne_eqb, cases_order, both_ways}
use Rattle.memory.specs.Sets.{mem, minus}
use Rattle.memory.specs.Model.{copied}
use Rattle.memory.proofs.Bits.{mem-pow, mem-minus, mem_past, mem-front}

abbrev word : ℕ → List ℕ → List ℕ → ℕ → ℕ
word s new old a = cond (mem s (a / 8)) (get_or new a 0) (get_or old a 0)

pub length-copied : (s : ℕ) (new old : List ℕ) → length (copied s new old) ≡ length old
unfolding copied
length-copied s new old = length-map-range_with_len (word s new old) 0 (length old)

pub get_or-copied : (s : ℕ) (new old : List ℕ) (a : ℕ) → a < length old → get_or (copied s new old) a 0 ≡ cond (mem s (a / 8)) (get_or new a 0) (get_or old a 0)
unfolding copied
get_or-copied s new old a h = get_or-map-range_with_len (word s new old) 0 (length old) a a 0 h (omega arith)

-- a list with the right words is the copy
pub is_copied : (s : ℕ) (new old xs : List ℕ) → length xs ≡ length old → ((a : ℕ) → a < length old → get_or xs a 0 ≡ cond (mem s (a / 8)) (get_or new a 0) (get_or old a 0)) → xs ≡ copied s new old
is_copied s new old xs e f = ext_get_or 0 xs (copied s new old) (e ∙ sym (length-copied s new old))
    (λ a h. let k : a < length old = omega arith in f a k ∙ sym (get_or-copied s new old a k))

pub copied_none : (new old : List ℕ) → copied 0 new old ≡ old
copied_none new old = sym (is_copied 0 new old old refl (λ a h. rw (mem_past 0 0 (a / 8) (omega arith) (omega arith))))

pub copied-same : (s : ℕ) (xs : List ℕ) → copied s xs xs ≡ xs
copied-same s xs = sym (is_copied s xs xs xs refl (λ a h. elim (mem s (a / 8)) as (λ b. get_or xs a 0 ≡ cond b (get_or xs a 0) (get_or xs a 0)) [ true ↦ refl | false ↦ refl ]))

-- one line of a set first, and then the others
step_place : (s i l x y : ℕ) → mem s i ≡ true → cond (mem (minus s (2 ^ i)) l) x (cond (eqb i l) x y) ≡ cond (mem s l) x y
step_place s i l x y m = rw (mem-minus s (2 ^ i) l, mem-pow i l) (go (mem s l) (eqb i l) (λ e. subst (λ k. mem s k ≡ true) (eqb-true i l e) m))
  where
    go : (b e : Bool) → (e ≡ true → b ≡ true) → cond (b && not e) x (cond e x y) ≡ cond b x y
    go true true f = refl
    go true false f = refl
    go false true f = absurd (both_ways false refl (f refl))
    go false false f = refl

pub copied_step : (s i : ℕ) (new old : List ℕ) → mem s i ≡ true → copied (minus s (2 ^ i)) new (copied (2 ^ i) new old) ≡ copied s new old
copied_step s i new old m = is_copied s new old _ (length-copied (minus s (2 ^ i)) new (copied (2 ^ i) new old) ∙ length-copied (2 ^ i) new old)
    (λ a h. let k : a < length (copied (2 ^ i) new old) = omega (arith, length-copied (2 ^ i) new old) in
    get_or-copied (minus s (2 ^ i)) new (copied (2 ^ i) new old) a k
    ∙ ap (λ x. cond (mem (minus s (2 ^ i)) (a / 8)) (get_or new a 0) x) (get_or-copied (2 ^ i) new old a h ∙ ap (λ b. cond b (get_or new a 0) (get_or old a 0)) (mem-pow i (a / 8)))
    ∙ step_place s i (a / 8) (get_or new a 0) (get_or old a 0) m)

-- what lies past the lines of a set stays
pub drop-copied : (n s : ℕ) (new old : List ℕ) → s < 2 ^ n → drop (8 * n) (copied s new old) ≡ drop (8 * n) old
drop-copied n s new old h = ext_get_or 0 _ _ (simp (length-drop, length-copied))
    (λ a k. let l : 8 * n + a < length old = omega (arith, length-drop (8 * n) (copied s new old), length-copied s new old) in
    let m : n ≤ (8 * n + a) / 8 = omega arith in
    rw (get_or-drop, get_or-drop, get_or-copied s new old (8 * n + a) l, mem_past s n ((8 * n + a) / 8) h m))

set_place : (a v : ℕ) (xs : List ℕ) (b : ℕ) → (b ≡ a) ⊎ ((b < a) ⊎ (a < b)) → get_or (set xs a v) b 0 ≡ cond (eqb (a / 8) (b / 8)) (get_or (set xs a v) b 0) (get_or xs b 0)
set_place a v xs b (inl e) = rw (eq-eqb (a / 8) (b / 8) (ap (λ k. k / 8) (sym e)))
set_place a v xs b (inr o) = let ne : b ≢ a = ⊎_elim (λ (h : b < a) (e : b ≡ a). omega arith) (λ (h : a < b) (e : b ≡ a). omega arith) o in
    rw (get_or-set_other xs a b v 0 ne) (elim (eqb (a / 8) (b / 8)) as (λ t. get_or xs b 0 ≡ cond t (get_or xs b 0) (get_or xs b 0)) [ true ↦ refl | false ↦ refl ])

-- one word changed, and its line copied
pub copied-set : (a v : ℕ) (xs : List ℕ) → copied (2 ^ (a / 8)) (set xs a v) xs ≡ set xs a v
copied-set a v xs = sym (is_copied (2 ^ (a / 8)) (set xs a v) xs (set xs a v) (length-set xs a v)
    (λ b h. rw mem-pow (set_place a v xs b (cases_order b a))))

-- a list with one line of `new` and the rest of `old`
pub line-copied : (i : ℕ) (new old xs : List ℕ) → length xs ≡ length old
    → ((k : ℕ) → 8 * i ≤ k → k < 8 * i + 8 → get_or xs k 0 ≡ get_or new k 0)
    → ((k : ℕ) → k < 8 * i → get_or xs k 0 ≡ get_or old k 0)
    → ((k : ℕ) → 8 * i + 8 ≤ k → get_or xs k 0 ≡ get_or old k 0)
    → xs ≡ copied (2 ^ i) new old
line-copied i new old xs e f g h = is_copied (2 ^ i) new old xs e (λ a l. rw mem-pow (⊎_elim
    (λ (q : i ≡ a / 8). rw (eq-eqb i (a / 8) q) (f a (omega arith) (omega arith)))
    (⊎_elim
    (λ (q : i < a / 8). rw (ne_eqb i (a / 8) (λ e. omega arith)) (h a (omega arith)))
    (λ (q : a / 8 < i). rw (ne_eqb i (a / 8) (λ e. omega arith)) (g a (omega arith))))
    (cases_order i (a / 8))))

-- a line's words put in place of the old ones
pub put_copied : (i s k : ℕ) (new old ys : List ℕ) → s ≡ 8 * i → k ≡ 8 → ys ≡ take k (drop s new) → 8 * i + 8 ≤ length new → 8 * i + 8 ≤ length old
    → put_mid s k old ys ≡ copied (2 ^ i) new old
put_copied i s k new old ys e f g h l =
    let q : length ys ≡ 8 = rw (g, f, e) (length-take-le 8 (drop (8 * i) new) (omega (arith, length-drop (8 * i) new))) in
    let w : (j : ℕ) → j < 8 → get_or ys j 0 ≡ get_or new (8 * i + j) 0 = λ j b. rw (g, f, e) (get_or-take 8 (drop (8 * i) new) j 0 b ∙ get_or-drop (8 * i) new j 0) in
    let t : length (take (8 * i) old) ≡ 8 * i = length-take-le (8 * i) old (omega arith) in
    let d : length (drop 8 (drop (8 * i) old)) ≡ length old - 8 * i - 8 = simp length-drop in
    rw (e, f) (line-copied i new old (put_mid (8 * i) 8 old ys) (simp length-append (omega arith))
    (λ j p r. search (rules, places, w))
    (λ j p. search (rules, places))
    (λ j p. let m : 8 * i + (8 + (j - 8 * i - 8)) ≡ j = omega arith in
    get_or-append_right (take (8 * i) old) (ys ++ drop 8 (drop (8 * i) old)) (8 * i) j 0 t (omega arith)
    ∙ get_or-append_right ys (drop 8 (drop (8 * i) old)) 8 (j - 8 * i) 0 q (omega arith)
    ∙ get_or-drop 8 (drop (8 * i) old) (j - 8 * i - 8) 0 ∙ get_or-drop (8 * i) old (8 + (j - 8 * i - 8)) 0 ∙ rw m refl))

-- a copy of the lines that lie in the front
pub front-copied : (l s : ℕ) (new old : List ℕ) → 8 * l ≤ length old → take (8 * l) (copied (bit_and s (2 ^ l - 1)) new old) ≡ copied s (take (8 * l) new) (take (8 * l) old)
front-copied l s new old h = is_copied s (take (8 * l) new) (take (8 * l) old) _ (simp (length-take, length-copied))
    (λ a k. let i : a < 8 * l = omega (arith, length-take (8 * l) old) in let q : a < length old = omega arith in let j : a / 8 < l = omega arith in
    get_or-take (8 * l) (copied (bit_and s (2 ^ l - 1)) new old) a 0 i ∙ get_or-copied (bit_and s (2 ^ l - 1)) new old a q
    ∙ rw (get_or-take (8 * l) new a 0 i, get_or-take (8 * l) old a 0 i, mem-front s l (a / 8) j))
