-- What the parts that a module holds mean: its lines, arrivals, writes, a cut, and the end of the loan.
use Rattle.std.proofs.Common.{◌≡◌, ℕ, ◌+◌, ◌-◌, ◌*◌, ◌/◌, ◌^◌, ◌<◌, ◌≤◌, Bool, true, false, cond, eqb, List, ◌++◌, length, take, drop, set, sym, ap, ◌∙◌, subst, arith, take-append-drop, length-take}
use lib.Bits.{bit_and, mask_lt}
use lib.Seq.{take-set-lt}
use Rattle.std.proofs.lemmas.List.{set-append_left}
use base.Fml.{GName}
use Rattle.memory.specs.Sets.{mem, minus, with_line}
use Rattle.memory.specs.Model.{MemoryModel, Adds, none, copied, arrivals, lines, put, way, write}
use Rattle.memory.specs.Held.{held, beyond, framed, front, line_count, Frame}
use Rattle.memory.proofs.Bits.{mem_below}
use Rattle.memory.proofs.Copies.{front-copied, drop-copied, length-copied}

-- a line inside of a set lies in both images
pub in_images : (n s i : ℕ) → mem (bit_and s (2 ^ line_count n - 1)) i ≡ true → (8 * i + 8 ≤ 512) × (8 * i + 8 ≤ n)
in_images n s i m = let l = mem_below (bit_and s (2 ^ line_count n - 1)) (line_count n) i (mask_lt s (line_count n)) m in (omega arith, omega arith)

pub held_arrivals : (s : ℕ) (cur mem : List ℕ) (a d l : ℕ)
    → held cur (copied (bit_and s (2 ^ line_count (length mem) - 1)) cur mem) (minus a s) (minus d s) (cond (eqb (minus d s) 0) 0 l) ≡ arrivals s (held cur mem a d l)
held_arrivals s cur mem a d l =
    let k = line_count (length mem) in let t = bit_and s (2 ^ k - 1) in
    let f : take (8 * line_count (length (copied t cur mem))) cur ≡ take (8 * k) cur = ap (λ n. take (8 * line_count n) cur) (length-copied t cur mem) in
    let g : take (8 * line_count (length (copied t cur mem))) (copied t cur mem) ≡ copied s (take (8 * k) cur) (take (8 * k) mem)
    = ap (λ n. take (8 * line_count n) (copied t cur mem)) (length-copied t cur mem) ∙ front-copied k s cur mem (omega arith) in
    cc

pub framed_arrivals : (g : GName) (s : ℕ) (cur mem now : List ℕ) → now ≡ copied (bit_and s (2 ^ line_count (length mem) - 1)) cur mem → framed g now ≡ framed g mem
framed_arrivals g s cur mem now e =
    let t = bit_and s (2 ^ line_count (length mem) - 1) in
    let f : drop (8 * line_count (length (copied t cur mem))) (copied t cur mem) ≡ drop (8 * line_count (length mem)) mem
    = ap (λ k. drop (8 * line_count k) (copied t cur mem)) (length-copied t cur mem) ∙ drop-copied (line_count (length mem)) t cur mem (mask_lt s (line_count (length mem))) in
    cc

-- the lines of what is held
pub held-lines : (cur mem : List ℕ) (a d l : ℕ) → lines (held cur mem a d l) ≡ line_count (length mem)
held-lines cur mem a d l = simp length-take (omega arith)

pub adds_same : (m n : MemoryModel) → n ≡ m → Adds m n
adds_same m n e = subst (λ (k : MemoryModel). Adds m k) (sym e) none

-- a word written after making way, and its line late where a line is due
pub held_write : (w v i : ℕ) (cur mem : List ℕ) (a d l : ℕ) (m : MemoryModel) → i ≡ w / 8 → w < 8 * line_count (length mem) → held cur mem a d l ≡ way i m
    → held (set cur w v) mem a d (cond (eqb d 0) l (with_line l i)) ≡ write w v m
held_write w v i cur mem a d l m f h g = let e = take-set-lt (8 * line_count (length mem)) cur w v h in
    let p : held (set cur w v) mem a d (cond (eqb d 0) l (with_line l (w / 8))) ≡ put w v (held cur mem a d l) = cc in
    rw f (p ∙ ap (put w v) (g ∙ ap (λ j. way j m) f))

-- when the loan ends: the memory is what is kept, and the words past the lines as they were
pub loan_back : (x now was ys : List ℕ) (g h : GName) → (h ≡ g → x ≡ now) → framed g now ≡ framed h was → front now now ≡ ys → x ≡ ys ++ beyond was
loan_back x now was ys g h f e k = f (sym (ap (λ (q : Frame). q.lender) e)) ∙ sym (take-append-drop (8 * line_count (length now)) now)
    ∙ ap (λ (zs : List ℕ). zs ++ beyond now) k ∙ ap (λ (q : Frame). ys ++ q.rest) e

pub loan_no : (x now was ys : List ℕ) (g h : GName) (b : Bool) → b ≡ false → (h ≡ g → x ≡ now) → framed g now ≡ framed h was → front now now ≡ front was was → x ≡ cond b ys was
loan_no x now was ys g h b out f e k = loan_back x now was (front was was) g h f e k ∙ take-append-drop (8 * line_count (length was)) was ∙ ap (λ z. cond z ys was) (sym out)

pub loan_set : (x now was : List ℕ) (g h : GName) (w v : ℕ) (b : Bool) → b ≡ true → (h ≡ g → x ≡ now) → framed g now ≡ framed h was → w < 8 * line_count (length was)
    → front now now ≡ set (front was was) w v → x ≡ cond b (set was w v) was
loan_set x now was g h w v b inside f e i k = loan_back x now was (set (front was was) w v) g h f e k
    ∙ sym (set-append_left (front was was) (beyond was) w v (simp length-take (omega arith)))
    ∙ ap (λ (zs : List ℕ). set zs w v) (take-append-drop (8 * line_count (length was)) was)
    ∙ ap (λ z. cond z (set was w v) was) (sym inside)
