-- `held::writes_logged` meets its contract: the write set agrees with the set of the logged lines about each line.
use mathlib.Core.Path.{ap, ◌∙◌}
use mathlib.Core.Bool.{beq}
use Rattle.base.specs.Limits.{lines}
use Rattle.base.proofs.Below.{all_cong}
use Rattle.lines.specs.Lines.{has}
use Rattle.lines.specs.Inner.{same}
use Rattle.machine.specs.Valid.{writes_logged, line_logged}
use Rattle.held.proofs.writes_logged.Goals as goal

pub returns : goal.returns
unfolding writes_logged line_logged same
returns c = c.same.ensures ∙ all_cong _ _ lines (λ l h. ap (beq (has c.args.x.now.writes l)) (c.logged.ensures l h))
