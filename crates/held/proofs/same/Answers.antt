-- `held::same` meets its contract: sets with the same words hold the same lines, and no others do.
use Prim.Native.Nat.{ℕ, ◌<◌, ◌^◌}
use borrow.Author.Rules.{rules}
use mathlib.Core.Path.{sym, ◌∙◌}
use Rattle.base.specs.Limits.{words}
use Rattle.lines.specs.Lines.{word}
use Rattle.lines.proofs.Laws.{same_equal}
use Rattle.held.proofs.same.Goals as goal

pub returns : goal.returns
returns c =
    let f : (k : ℕ) → k < words → word c.args.a k < 2 ^ 64 = λ k h. search rules in
    let g : (k : ℕ) → k < words → word c.args.b k < 2 ^ 64 = λ k h. search rules in
    c.eq.ensures ∙ sym (same_equal c.args.a c.args.b (search rules) (search rules) f g)
