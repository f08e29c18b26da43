-- `session::value::places_right` meets its contract: place by place.
use borrow.Author.Rules.{rules}
use borrow.Author.Tests.{tests}
use mathlib.Core.Path.{refl, sym, ◌∙◌}
use Rattle.std.proofs.lemmas.Iterator.{YieldsList-from_range}
use Rattle.std.proofs.lemmas.Iterator.Search.{all_from_yields_List}
use Rattle.base.proofs.Lists.{all_range}
use Rattle.session_rules.specs.Value.{most_held, place_right}
use Rattle.session.proofs.value.places_right.Goals as goal

pub returns : goal.returns
returns c =
    let p = place_right c.args.s.now in
    all_from_yields_List p _ _ _ c.all.ensures.ran (YieldsList-from_range 0 most_held most_held refl refl) (λ x b q k. search (rules, tests))
    ∙ sym (all_range p most_held)
