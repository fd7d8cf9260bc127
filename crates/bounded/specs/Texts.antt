-- How a refusal reads.
use Rattle.std.specs.Prelude.{ℕ, List, codes}
use Rattle.bounded.specs.declared.Full.{Full}

abbrev pub full_text : Full → List ℕ
full_text f = codes "no more fits in"
