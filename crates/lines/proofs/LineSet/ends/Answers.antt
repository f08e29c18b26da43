-- `LineSet::ends` meets its contract: no line from n on is in either set if none is in any of the words.
use mathlib.Core.Path.{◌≡◌, refl, sym, ap, ◌∙◌}
use mathlib.Core.Bool.{true}
use Prim.Native.Nat.{ℕ, ◌<◌, ◌^◌, ◌*◌}
use native.Mathlib.Omega.{arith}
use borrow.Author.Rules.{rules}
use borrow.Author.Tests.{eq-eqb, ne_eqb}
use Rattle.base.specs.Limits.{words}
use Rattle.base.specs.Below.{all_below}
use Rattle.lines.specs.Lines.{word}
use Rattle.lines.specs.Inner.{ends, clear_from}
use Rattle.lines.proofs.Laws.{before, clear_shifted, clear_past, ends_more, ends_found}
use Rattle.lines.proofs.LineSet.ends.Goals as goal
use Rattle.lines.proofs.LineSet.ends.Goals.{else-s-lt64-via-then-s-lt64+else-word-s-ne0, else-s-lt64-via-else-s-lt64}

pub loop-k-init : goal.loop-k-init
unfolding all_below
loop-k-init c = refl

pub returns-then-word-s-ne0 : goal.returns-then-word-s-ne0
returns-then-word-s-ne0 c =
    let k = c.loop-k.k in
    let r : word c.args.self.now c.loop-k.k < 2 ^ 64 = search rules in
    let w : word c.args.other.now c.loop-k.k < 2 ^ 64 = search rules in
    sym (ends_found _ _ c.args.n k c.loop-k-test.true (ap (clear_from _ _) (sym c.saturating_sub-s.ensures) ∙ clear_shifted _ _ _ r w c.if-s-lt64.true ∙ ne_eqb _ _ c.if-word-s-ne0.true))

pub loop-k-preserved : goal.loop-k-preserved
loop-k-preserved c =
    let k = c.loop-k.k in
    let r : word c.args.self.now c.loop-k.k < 2 ^ 64 = search rules in
    let w : word c.args.other.now c.loop-k.k < 2 ^ 64 = search rules in
    let clear : clear_from (word c.args.self.now k) (word c.args.other.now k) c.saturating_sub-s.result ≡ true =
    elim c.else-s-lt64.branch [
      | else-s-lt64-via-then-s-lt64+else-word-s-ne0 b ↦ clear_shifted _ _ _ r w b.if-s-lt64.true ∙ eq-eqb _ _ b.if-word-s-ne0.false
      | else-s-lt64-via-else-s-lt64 b ↦ clear_past _ _ _ b.if-s-lt64.false
    ] in
    ends_more _ _ c.args.n k true (ap (clear_from _ _) (sym c.saturating_sub-s.ensures) ∙ clear) ∙ c.loop-k.invariant

pub returns : goal.returns
unfolding ends
returns c =
    let e : c.loop-k.k ≡ words = omega (arith, c.loop-k-test.false) in
    sym (sym (ap (λ (k : ℕ). all_below (before c.args.self.now c.args.other.now c.args.n) (64 * k)) e) ∙ c.loop-k.invariant)
