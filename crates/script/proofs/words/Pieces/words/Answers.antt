-- The words of a line are its pieces, each read as a word.
use Rattle.script.specs.Pieces.{words_of}
use Rattle.script.proofs.Spots.{as_words}
use Rattle.script.proofs.words.Pieces.words.Goals as goal

pub returns : goal.returns
returns c = as_words c.args.line.line 1 (words_of c.args.line.bytes.now)
