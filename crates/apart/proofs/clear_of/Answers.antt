-- `apart::clear_of` meets its contract: thread by thread.
use borrow.Author.Rules.{rules}
use borrow.Author.Tests.{tests}
use mathlib.Core.Path.{refl, sym, ◌∙◌}
use mathlib.Core.Bool.{not, ◌||◌}
use Prim.Native.Nat.{ℕ}
use lib.Dec.{eqb}
use Rattle.std.proofs.lemmas.Iterator.{YieldsList-from_range}
use Rattle.std.proofs.lemmas.Iterator.Search.{all_from_yields_List}
use Rattle.base.specs.Limits.{most_threads}
use Rattle.base.proofs.Lists.{all_range}
use Rattle.machine.specs.Machine.{thread}
use Rattle.machine.specs.Valid.{clear_of, clash}
use Rattle.apart.proofs.clear_of.Goals as goal

pub returns : goal.returns
unfolding clear_of
returns c =
    let ts = c.args.m.now.threads in
    let v = c.args.v in
    let p = λ (w : ℕ). eqb v w || not (clash (thread ts v).transaction (thread ts w).transaction) in
    all_from_yields_List p _ _ _ c.all.ensures.ran (YieldsList-from_range 0 most_threads most_threads refl refl) (λ x b q k. search (rules, tests))
    ∙ sym (all_range p most_threads)
