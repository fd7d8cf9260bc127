-- The words of a line are its first and those after it.
use Rattle.std.proofs.Common.{length, ap, arith}
use Rattle.script.specs.Places.{rest_of}
use Rattle.script.proofs.Counts.{word_and_rest, length-words-le}
use Rattle.script.proofs.call.read_call.Goals as goal

pub overflow_add-count_ahead : goal.overflow_add-count_ahead
overflow_add-count_ahead c =
    let line = c.args.line in
    omega (arith, c.count_ahead.ensures, ap length c.next_word.ensures.after, ap (λ xs. length (rest_of xs)) c.words-words.ensures, word_and_rest line.line line.bytes.now, length-words-le line.line line.bytes.now, line.byte_fits)
