-- The entries that a row of the code holds.
use Rattle.std.specs.Prelude.{take}
use Rattle.objects.specs.declared.row.Row.{Row}
use Rattle.objects.specs.Rows.{Entries, clip}

abbrev pub held : Row → Entries
held row = clip (take row.count row.items)
