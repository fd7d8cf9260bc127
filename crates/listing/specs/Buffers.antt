-- A text in a caller's buffer, which may be too small for it.
use Rattle.std.specs.Prelude.{◌≡◌, ℕ, ◌-◌, cond, List, ◌++◌, length, drop, codes, Ok, Err, Result, Some, None, Option, nat_le}
use Rattle.listing.specs.declared.output.NoRoom.{NoRoom}

-- the number of bytes written, or 1,000,036 where they do not fit
abbrev pub written : List ℕ → List ℕ → ℕ
written text out = cond (nat_le (length text) (length out)) (length text) 1000036

-- the length of a text, where it has room
abbrev pub sized : List ℕ → ℕ → Result ℕ NoRoom
sized text room = cond (nat_le (length text) room) (Ok (length text)) (Err (record {}))

-- what a text leaves of a room, where it fits
abbrev pub left_of : ℕ → List ℕ → Option ℕ
left_of room text = cond (nat_le (length text) room) (Some (room - length text)) None

-- what the buffer holds then
abbrev pub filled : List ℕ → List ℕ → List ℕ
filled text out = cond (nat_le (length text) (length out)) (text ++ drop (length text) out) out

-- a text was written at the start of a buffer, or the buffer is as it was where it does not fit
pub record Written (text old new : List ℕ) (r : Result ℕ NoRoom) : Type 0 where
  pub reply : r ≡ sized text (length old)
  pub out : new ≡ filled text old

-- how a text without room is refused
abbrev pub no_room_text : NoRoom → List ℕ
no_room_text n = codes "the text does not fit"
