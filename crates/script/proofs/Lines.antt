-- The lines of a script: how many there are at most, and one line more that is a call.
use Rattle.std.proofs.Common.{◌≡◌, ℕ, ◌+◌, ◌-◌, ◌^◌, ◌<◌, min, true, ltb, List, [], ◌∷◌, length, Some, None, Option, Ok, Result, sym, arith}
use Rattle.std.proofs.lemmas.Bool.{lt-ltb}
use Rattle.std.proofs.lemmas.Bool.Decides.{nat_tests}
use Rattle.script.specs.declared.call.Call.{Call}
use Rattle.script.specs.declared.fault.Fault.{Fault}
use Rattle.script.specs.declared.setup.Setup.{Setup}
use Rattle.script.specs.declared.words.Part.{Part}
use Rattle.script.specs.Pieces.{pieces}
use Rattle.script.specs.Places.{Spot, words_in}
use Rattle.script.specs.Ahead.{ahead_of}
use Rattle.script.specs.Calls.{call_of}
use Rattle.script.specs.Readings.{with_call, calls_of}
use Rattle.script.proofs.Counts.{length-spots_at, length-pieces-le}

pub ahead_short : (sep : ℕ) (rest : Option Part) → length (ahead_of sep rest) < 2 ^ 64
ahead_short sep None = omega arith
ahead_short sep (Some p) =
    omega (arith, length-spots_at sep (pieces sep ([] ∷ []) p.bytes.now) p.line p.byte, length-pieces-le sep p.bytes.now, p.byte_fits)

abbrev pub line_call : Spot → Result Call Fault
line_call l = call_of l.line (words_in l.line l.text)

-- the lines from a call on
pub one_more : (s : Setup) (left left' : ℕ) (l : Spot) (c : Call) (ls : List Spot) → 0 < left → left' ≡ left - 1 → Ok c ≡ line_call l → calls_of s left (l ∷ ls) ≡ with_call c (calls_of s left' ls)
one_more s left left' l c ls some fewer is =
    let here : line_call l ≡ Ok c = sym is in
    let t : ltb 0 left ≡ true = lt-ltb 0 left some in
    let left_is : left - 1 ≡ left' = sym fewer in
    simp (t, here, left_is)

-- a call more leaves one call fewer to come
pub one_fewer : (count most used room used' room' : ℕ) → count < most → used < room → used' ≡ used + 1 → room' ≡ room → min (most - (count + 1)) (room' - used') ≡ min (most - count) (room - used) - 1
one_fewer count most used room used' room' a b c d = grind (arith, nat_tests)

-- where there is room for a call more, some are left to come
pub some_left : (count most used room : ℕ) → count < most → used < room → 0 < min (most - count) (room - used)
some_left count most used room a b = grind (arith, nat_tests)
