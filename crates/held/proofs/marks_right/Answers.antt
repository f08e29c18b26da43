-- `held::marks_right` meets its contract.
use borrow.Author.Rules.{rules}
use borrow.Author.Tests.{tests}
use mathlib.Core.Path.{sym, ◌∙◌}
use Rattle.std.proofs.lemmas.Iterator.{YieldsList-from_slice}
use Rattle.std.proofs.lemmas.Iterator.Search.{all_from_yields_List}
use Rattle.machine.specs.Valid.{marked_right, marks_right}
use Rattle.held.proofs.Places.{all_used}
use Rattle.held.proofs.marks_right.Goals as goal

pub returns : goal.returns
unfolding marks_right
returns c =
    let x = c.args.x.now in
    all_from_yields_List marked_right _ _ _ c.all.ensures.ran (YieldsList-from_slice c.used.result.now cc) (λ x b q k. search (rules, tests))
    ∙ sym (all_used x.log c.used.result.now x.count c.used.ensures.value marked_right c.used.ensures.len)
