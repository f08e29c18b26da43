-- `held::no_line` meets its contract: all words are zero.
use borrow.Author.Rules.{rules}
use borrow.Author.Tests.{tests}
use mathlib.Core.Path.{◌≡◌, sym, ◌∙◌}
use Prim.Native.Nat.{ℕ}
use lib.Dec.{eqb}
use lib.ListN.{length}
use Rattle.std.proofs.lemmas.Iterator.{YieldsList-from_slice}
use Rattle.std.proofs.lemmas.Iterator.Search.{all_from_yields_List}
use Rattle.base.specs.Limits.{words}
use Rattle.base.proofs.Lists.{all_listed}
use Rattle.machine.specs.Valid.{no_line}
use Rattle.held.proofs.no_line.Goals as goal

pub returns : goal.returns
unfolding no_line
returns c =
    let ws = c.args.s.now.words in
    let n : length ws ≡ words = search rules in
    let p = λ (w : ℕ). eqb w 0 in
    all_from_yields_List p _ _ _ c.all.ensures.ran (YieldsList-from_slice ws cc) (λ x b q k. search (rules, tests))
    ∙ sym (all_listed p 0 ws words n)
