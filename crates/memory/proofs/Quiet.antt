-- The laws of a quiet module: both images are one, and the sets are empty.
use Rattle.std.proofs.Common.{◌≡◌, ℕ, ◌*◌, ◌/◌, ◌^◌, ◌<◌, false, cond, List, length, take, set, sym, refl, ap, subst, arith, length-set}
use lib.Bits.{and_self, xor_self, or_zero_l, and_zero_l, and_zero_r, xor_zero_r}
use lib.Seq.{take-set-lt}
use Rattle.memory.specs.Sets.{mem, minus, with_line}
use Rattle.memory.specs.Model.{MemoryModel, Adds, more, arrivals, arrival, put, write, ask, fence, sync}
use Rattle.memory.specs.Held.{opened, line_count}
use Rattle.memory.proofs.Bits.{mem_past}
use Rattle.memory.proofs.Copies.{copied_none, copied-same, copied-set}
use Rattle.memory.proofs.Images.{adds_same}

abbrev pub quiet : List ℕ → MemoryModel
quiet xs = record { current = xs; kept = xs; asked = 0; due = 0; late = 0 }

pub mem-none : (i : ℕ) → mem 0 i ≡ false
mem-none i = mem_past 0 0 i (omega arith) (omega arith)

pub minus-none : (t : ℕ) → minus 0 t ≡ 0
unfolding minus
minus-none t = rw and_zero_l

pub minus_self : (s : ℕ) → minus s s ≡ 0
unfolding minus
minus_self s = rw (and_self s, xor_self s)

pub with_none : (i : ℕ) → with_line 0 i ≡ 2 ^ i
unfolding with_line
with_none i = or_zero_l (2 ^ i)

pub arrival-quiet : (s : ℕ) (xs : List ℕ) → arrivals s (quiet xs) ≡ quiet xs
arrival-quiet s xs = simp (copied-same, minus-none)

pub write-quiet : (a v : ℕ) (xs : List ℕ) → a / 8 < length xs / 8 → Adds (write a v (quiet xs)) (quiet (set xs a v))
write-quiet a v xs h =
    let p : MemoryModel = record { current = set xs a v; kept = xs; asked = 0; due = 0; late = 0 } in
    let e : write a v (quiet xs) ≡ p = ap (λ b. put a v (cond b (arrivals 0 (quiet xs)) (quiet xs))) (mem-none (a / 8)) in
    let f : quiet (set xs a v) ≡ arrival (a / 8) p = simp (copied-set, minus-none) in
    subst (λ (m : MemoryModel). Adds m (quiet (set xs a v))) (sym e) (more (a / 8) h refl (adds_same (arrival (a / 8) p) (quiet (set xs a v)) f))

pub ask-quiet : (i : ℕ) (xs : List ℕ) → i < length xs / 8 → Adds (ask i (quiet xs)) (quiet xs)
ask-quiet i xs h = more i h refl (adds_same (arrival i (ask i (quiet xs))) (quiet xs) (simp (with_none, minus_self, minus-none, copied-same)))

pub fence-quiet : (xs : List ℕ) → quiet xs ≡ fence (quiet xs)
fence-quiet xs = simp (copied-same, minus-none)

pub sync-quiet : (xs : List ℕ) → quiet xs ≡ sync (quiet xs)
sync-quiet xs = simp (copied-same, minus-none)

pub opened-set : (w v : ℕ) (mem : List ℕ) → w < 8 * line_count (length mem) → opened (set mem w v) ≡ quiet (set (take (8 * line_count (length mem)) mem) w v)
opened-set w v mem h = let e = take-set-lt (8 * line_count (length mem)) mem w v h in let f = length-set mem w v in
    simp length-set (ap quiet e)

pub minus_zero : (s : ℕ) → minus s 0 ≡ s
unfolding minus
minus_zero s = rw (and_zero_r s, xor_zero_r s)

-- a word written, its line asked and all brought
pub stored : (w v : ℕ) (xs : List ℕ) → (sync (ask (w / 8) (write w v (quiet xs)))).kept ≡ set xs w v
stored w v xs = rw (mem-none (w / 8)) (simp (with_none, minus_zero, copied_none, copied-set))
