-- `held::indices_inside` meets its contract.
use borrow.Author.Rules.{rules}
use borrow.Author.Tests.{tests}
use mathlib.Core.Path.{sym, ◌∙◌}
use lib.Dec.{ltb}
use Rattle.std.proofs.lemmas.Iterator.{YieldsList-from_slice}
use Rattle.std.proofs.lemmas.Iterator.Search.{all_from_yields_List}
use Rattle.transaction.specs.declared.Entry.{Entry}
use Rattle.machine.specs.Valid.{indices_inside}
use Rattle.held.proofs.Places.{all_used}
use Rattle.held.proofs.indices_inside.Goals as goal

pub returns : goal.returns
unfolding indices_inside
returns c =
    let x = c.args.x.now in
    let p = λ (e : Entry). ltb e.index c.args.len in
    all_from_yields_List p _ _ _ c.all.ensures.ran (YieldsList-from_slice c.used.result.now cc) (λ x b q k. search (rules, tests))
    ∙ sym (all_used x.log c.used.result.now x.count c.used.ensures.value p c.used.ensures.len)
