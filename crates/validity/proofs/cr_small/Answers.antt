-- `validity::cr_small` meets its contract: field by field.
use borrow.Author.Rules.{rules}
use borrow.Author.Tests.{tests}
use mathlib.Core.Path.{◌≡◌, sym, ◌∙◌}
use Prim.Native.Nat.{ℕ}
use lib.Dec.{ltb}
use lib.ListN.{length}
use Rattle.std.proofs.lemmas.Iterator.{YieldsList-from_slice}
use Rattle.std.proofs.lemmas.Iterator.Search.{all_from_yields_List}
use Rattle.base.specs.Limits.{cr_fields}
use Rattle.base.proofs.Lists.{all_listed}
use Rattle.machine.specs.Valid.{cr_small}
use Rattle.validity.proofs.cr_small.Goals as goal

pub returns : goal.returns
unfolding cr_small
returns c =
    let fs = c.args.r.now.cr in
    let n : length fs ≡ cr_fields = search rules in
    let p = λ (f : ℕ). ltb f 16 in
    all_from_yields_List p _ _ _ c.all.ensures.ran (YieldsList-from_slice fs cc) (λ x b q k. search (rules, tests))
    ∙ sym (all_listed p 0 fs cr_fields n)
