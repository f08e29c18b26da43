-- `LineSet::has_page` meets its contract: a page is a half of its word.
use mathlib.Core.Path.{ap, ◌∙◌}
use Prim.Native.Nat.{◌/◌}
use Rattle.lines.specs.Lines.{word}
use Rattle.lines.specs.Inner.{shared}
use Rattle.lines.proofs.Laws.{shared_page}
use Rattle.lines.proofs.LineSet.has_page.Goals as goal

pub returns : goal.returns
returns c = c.shared.ensures ∙ ap (shared (word c.args.self.now (c.args.page / 2))) c.page_mask.ensures ∙ shared_page c.args.self.now c.args.page
