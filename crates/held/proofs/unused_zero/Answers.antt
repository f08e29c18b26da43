-- `held::unused_zero` meets its contract: the count is in range, and all places from there on are zero.
use borrow.Author.Rules.{rules}
use borrow.Author.Tests.{tests, le-leb, lt-leb}
use mathlib.Core.Path.{◌≡◌, sym, ◌∙◌}
use Prim.Native.Nat.{◌-◌}
use native.Mathlib.Omega.{arith}
use lib.ListN.{length, drop}
use Rattle.std.proofs.lemmas.List.{length-drop, take_all}
use Rattle.std.proofs.lemmas.Iterator.{YieldsList-from_slice}
use Rattle.std.proofs.lemmas.Iterator.Search.{all_from_yields_List}
use Rattle.std.specs.List.{list_all}
use Rattle.base.specs.Limits.{most_places}
use Rattle.base.proofs.Below.{length_parts}
use Rattle.machine.specs.Valid.{unused_zero}
use Rattle.held.proofs.Places.{is_unused, unused_listed}
use Rattle.held.proofs.unused_zero.Goals as goal

pub returns-then-x-le-PLACES : goal.returns-then-x-le-PLACES
unfolding unused_zero
returns-then-x-le-PLACES c =
    let x = c.args.x.now in
    let n : length x.log ≡ most_places = search (rules, length_parts) in
    let rest : c.iter.result.rest.now ≡ drop x.count x.log =
    c.iter.ensures.rest ∙ take_all (most_places - x.count) (drop x.count x.log) (let q : length (drop x.count x.log) ≡ length x.log - x.count = length-drop x.count x.log in omega arith) in
    let listed : c.all.result ≡ list_all is_unused (drop x.count x.log) =
    all_from_yields_List is_unused _ _ c.all.result c.all.ensures.ran (YieldsList-from_slice (drop x.count x.log) rest) (λ x b q k. search (rules, tests)) in
    simp (le-leb _ _ c.if-x-le-PLACES.true) (listed ∙ sym (unused_listed x.log x.count n c.if-x-le-PLACES.true))

pub returns-else-x-le-PLACES : goal.returns-else-x-le-PLACES
unfolding unused_zero
returns-else-x-le-PLACES c = simp (lt-leb _ _ c.if-x-le-PLACES.false)
