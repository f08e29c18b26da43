-- `lines::shared` meets its contract: the bitwise and is 0 where no place is set in both.
use mathlib.Core.Path.{sym}
use Rattle.lines.proofs.Laws.{shared_and}
use Rattle.lines.proofs.shared.Goals as goal

pub returns : goal.returns
returns c = sym (shared_and c.args.a c.args.b c.ranges.a.fits)
