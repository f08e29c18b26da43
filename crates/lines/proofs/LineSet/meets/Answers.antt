-- `LineSet::meets` meets its contract: the sets meet if two of their words share a place.
use mathlib.Core.Path.{refl, sym, ap, ◌∙◌}
use mathlib.Core.Bool.{false}
use Prim.Native.Nat.{ℕ, ◌*◌}
use mathlib.Core.Path.{◌≡◌}
use native.Mathlib.Omega.{arith}
use Rattle.base.specs.Limits.{words}
use Rattle.base.specs.Below.{any_below}
use Rattle.lines.specs.Lines.{meets}
use Rattle.lines.proofs.Laws.{both, meets_more, meets_found}
use Rattle.lines.proofs.LineSet.meets.Goals as goal

pub loop-k-init : goal.loop-k-init
unfolding any_below
loop-k-init c = refl

pub returns-then-shared : goal.returns-then-shared
returns-then-shared c =
    sym (meets_found c.args.self.now c.args.other.now c.loop-k.k c.loop-k-test.true (sym c.shared.ensures ∙ c.if-shared.true))

pub loop-k-preserved : goal.loop-k-preserved
loop-k-preserved c =
    meets_more c.args.self.now c.args.other.now c.loop-k.k false (sym c.shared.ensures ∙ c.if-shared.false) ∙ c.loop-k.invariant

pub returns : goal.returns
unfolding meets
returns c =
    let e : c.loop-k.k ≡ words = omega (arith, c.loop-k-test.false) in
    sym (sym (ap (λ (k : ℕ). any_below (both c.args.self.now c.args.other.now) (64 * k)) e) ∙ c.loop-k.invariant)
