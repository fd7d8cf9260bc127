-- Where the store's words lie in the memory, and what a format writes there.
use Rattle.std.specs.Prelude.{ℕ, ◌+◌, ◌-◌, ◌*◌, List, [], ◌∷◌, ◌++◌, take, drop, replicate}
use Rattle.memory.specs.Calls.{Call, syncs, each_word, each_line}

-- the lines of n workers: contents, index, and two records of n worker lines and 5 object lines
abbrev pub lines_used : ℕ → ℕ
lines_used n = 2 * n + 12

-- the first line of record r, with n workers
abbrev pub record_line : ℕ → ℕ → ℕ
record_line n r = 2 + r * (n + 5)

-- the first word of worker w's line in record r
abbrev pub worker_at : ℕ → ℕ → ℕ → ℕ
worker_at n r w = 8 * (record_line n r + w)

-- the record that is not settled
abbrev pub other : ℕ → ℕ
other r = 1 - r

-- the first word of the object part of record r
abbrev pub object_at : ℕ → ℕ → ℕ
object_at n r = 8 * (record_line n r + n)

abbrev pub object_words : List ℕ → ℕ → ℕ → List ℕ
object_words image n r = take 40 (drop (object_at n r) image)

-- the words of line 0: format, kind, workers, lines of index and records, lines of a record, lines used
abbrev pub contents : ℕ → ℕ → List ℕ
contents kind n = 1 ∷ kind ∷ n ∷ 1 ∷ 2 ∷ (n + 7) ∷ (n + 5) ∷ (2 * n + 12) ∷ []

-- what a format writes: the contents, index 0 and the fresh picture in record 0, else zero
abbrev pub format_words : ℕ → List ℕ → ℕ → List ℕ
format_words kind picture n = contents kind n ++ (replicate 8 0 ++ (replicate (8 * n) 0 ++ (picture ++ replicate (8 * (n + 5)) 0)))

-- every used word, lowest first; every used line, lowest first; one sync
unfoldable pub format_calls : ℕ → List ℕ → ℕ → List Call
format_calls kind picture n = each_word 0 (format_words kind picture n) ++ (each_line 0 (lines_used n) ++ (syncs ∷ []))
