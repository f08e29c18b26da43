-- What is written is the text, for which the buffer has room (`text_fits`).
use Rattle.std.proofs.Common.{sym, arith}
use lib.Seq.{length-take-le}
use Rattle.text.proofs.Laws.{text_fits}
use Rattle.naszeptan.proofs.answer.Goals as goal

pub slice_bounds-write_all-end : goal.slice_bounds-write_all-end
slice_bounds-write_all-end c = sym (length-take-le _ _ (grind (arith, text_fits c.args.input.now)))
