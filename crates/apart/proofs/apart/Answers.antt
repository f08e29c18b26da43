-- `apart::apart` meets its contract: thread by thread.
use borrow.Author.Rules.{rules}
use borrow.Author.Tests.{tests}
use mathlib.Core.Path.{refl, sym, ◌∙◌}
use Rattle.std.proofs.lemmas.Iterator.{YieldsList-from_range}
use Rattle.std.proofs.lemmas.Iterator.Search.{all_from_yields_List}
use Rattle.base.specs.Limits.{most_threads}
use Rattle.base.proofs.Lists.{all_range}
use Rattle.machine.specs.Valid.{apart, clear_of}
use Rattle.apart.proofs.apart.Goals as goal

pub returns : goal.returns
unfolding apart
returns c =
    let p = clear_of c.args.m.now in
    all_from_yields_List p _ _ _ c.all.ensures.ran (YieldsList-from_range 0 most_threads most_threads refl refl) (λ x b q k. search (rules, tests))
    ∙ sym (all_range p most_threads)
