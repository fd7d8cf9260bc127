-- The lines of a script are the pieces of its text without its last LF.
use Rattle.script.proofs.Spots.{script_lines}
use Rattle.script.proofs.words.Pieces.lines.Goals as goal

pub returns : goal.returns
returns c = script_lines c.args.script _ c.as_slice.result.now c.strip_suffix.result c.as_slice.ensures c.strip_suffix.ensures.cases c.unwrap_or-bytes.ensures
