-- A text that was written, by another name.
use Rattle.std.proofs.Common.{◌≡◌, ℕ, List, Result, subst}
use Rattle.listing.specs.declared.output.NoRoom.{NoRoom}
use Rattle.listing.specs.Buffers.{Written}

pub written_as : {text same old new : List ℕ} {r : Result ℕ NoRoom} → text ≡ same → Written text old new r → Written same old new r
written_as {old = old} {new = new} {r = r} e w = subst (λ t. Written t old new r) e w
