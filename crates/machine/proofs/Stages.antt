-- What the memory holds at each stage of a round.
use Rattle.std.proofs.Common.{◌≡◌, ℕ, zero, suc, ◌+◌, ◌*◌, ◌<◌, ◌≤◌, true, ◌⊎◌, List, length, get_or, refl, inl, inr, arith}
use Rattle.memory.specs.Sets.{mem}
use Rattle.memory.specs.Model.{MemoryModel, line, lines}
use Rattle.memory.specs.Post.{Formed}
use Rattle.memory.proofs.Arrivals.{Settled}
use Rattle.machine.specs.Layout.{record_line, other}

pub record InRecord (n r l : ℕ) : Type 0 where
  pub from : record_line n r ≤ l
  pub below : l < record_line n r + (n + 5)

-- the memory has room for n workers
pub record Room (n s : ℕ) (m : MemoryModel) : Type 0 where
  pub some : 1 ≤ n
  pub most : n ≤ 8
  pub bit : s < 2
  pub formed : Formed m
  pub fits : 2 * n + 12 ≤ lines m

-- the contents, the index and record s have arrived as they are; the index names record s
pub record Kept (n s : ℕ) (m : MemoryModel) : Type 0 where
  pub room : Room n s m
  pub contents : Settled m 0
  pub index_line : Settled m 1
  pub index : get_or m.current 8 0 ≡ s
  pub in_use : (l : ℕ) → InRecord n s l → Settled m l

-- nothing is on its way
pub record Steady (n s : ℕ) (m : MemoryModel) : Type 0 where
  pub holds : Kept n s m
  pub none_asked : m.asked ≡ 0
  pub none_due : m.due ≡ 0
  pub none_late : m.late ≡ 0

-- the first k lines of the other record are asked for or there
pub record Asking (n s k : ℕ) (m : MemoryModel) : Type 0 where
  pub holds : Kept n s m
  pub none_due : m.due ≡ 0
  pub none_late : m.late ≡ 0
  pub only : (l : ℕ) → mem m.asked l ≡ true → InRecord n (other s) l
  pub reached : (j : ℕ) → j < k → (mem m.asked (record_line n (other s) + j) ≡ true) ⊎ Settled m (record_line n (other s) + j)

-- the whole other record is due or there
pub record Fenced (n s : ℕ) (m : MemoryModel) : Type 0 where
  pub holds : Kept n s m
  pub none_asked : m.asked ≡ 0
  pub none_late : m.late ≡ 0
  pub only : (l : ℕ) → mem m.due l ≡ true → InRecord n (other s) l
  pub coming : (l : ℕ) → InRecord n (other s) l → (mem m.due l ≡ true) ⊎ Settled m l

-- the index word that has arrived: that of the settled record while its line may not, and either one once the whole other record has
pub data Index (s : ℕ) (m : MemoryModel) : Type 0 where
  held : get_or m.kept 8 0 ≡ s → mem m.late 1 ≡ true → Index s m
  waits : m.due ≡ 0 → get_or m.kept 8 0 ≡ s → Index s m
  came : m.due ≡ 0 → get_or m.kept 8 0 ≡ other s → Index s m

-- the index is written, and names the other record
pub record Flipping (n s : ℕ) (m : MemoryModel) : Type 0 where
  pub room : Room n s m
  pub contents : Settled m 0
  pub in_use : (l : ℕ) → InRecord n s l → Settled m l
  pub index : get_or m.current 8 0 ≡ other s
  pub only : (l : ℕ) → mem m.due l ≡ true → InRecord n (other s) l
  pub coming : (l : ℕ) → InRecord n (other s) l → (mem m.due l ≡ true) ⊎ Settled m l
  pub last : Index s m

-- the index is asked for too, or there
pub record Marked (n s : ℕ) (m : MemoryModel) : Type 0 where
  pub flipping : Flipping n s m
  pub mark : (mem m.asked 1 ≡ true) ⊎ Settled m 1

-- the lines that a reader of record r sees are those of an earlier image
pub record SameRecord (n r : ℕ) (after before : List ℕ) : Type 0 where
  pub contents : line 0 after ≡ line 0 before
  pub lines_same : (l : ℕ) → InRecord n r l → line l after ≡ line l before

-- the two records lie apart, past the contents and the index, within the lines used
pub bits : (s : ℕ) → s < 2 → (s ≡ 0) ⊎ (s ≡ 1)
bits zero b = inl refl
bits (suc zero) b = inr refl
bits (suc (suc s)) b = absurd (omega arith)

pub apart : (n s k l : ℕ) → s < 2 → InRecord n s k → InRecord n (other s) l → k ≡ l → ⊥
apart n s k l b i j e = go (bits s b)
  where
    go : (s ≡ 0) ⊎ (s ≡ 1) → ⊥
    go (inl z) =
        let a : k < record_line n 0 + (n + 5) = rw z at i.below in
        let c : record_line n 1 ≤ l = rw z at j.from in
        omega arith
    go (inr z) =
        let a : record_line n 1 ≤ k = rw z at i.from in
        let c : l < record_line n 0 + (n + 5) = rw z at j.below in
        omega arith

pub past_head : (n r l : ℕ) → InRecord n r l → 2 ≤ l
past_head n r l i = let a = i.from in omega arith

pub within : (n r l : ℕ) → r < 2 → InRecord n r l → l < 2 * n + 12
within n r l b i = go (bits r b)
  where
    go : (r ≡ 0) ⊎ (r ≡ 1) → l < 2 * n + 12
    go (inl z) = let a : l < record_line n 0 + (n + 5) = rw z at i.below in omega arith
    go (inr z) = let a : l < record_line n 1 + (n + 5) = rw z at i.below in omega arith

pub other-bit : (s : ℕ) → s < 2 → other s < 2
other-bit s b = omega arith

-- the words of the lines used are words of the image
pub room-words : {n s : ℕ} {m : MemoryModel} → Room n s m → 8 * (2 * n + 12) ≤ length m.current
room-words r = let a = r.formed.images in let b = r.formed.whole in let c = r.fits in omega arith
