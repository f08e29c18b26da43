-- `LineSet::footprint` meets its contract: after k words, n is the number of the first 64 k lines that are in either set.
use mathlib.Core.Path.{◌≡◌, refl, sym, ap, ◌∙◌}
use Prim.Native.Nat.{ℕ, ◌+◌, ◌*◌, ◌<◌, ◌^◌}
use native.Mathlib.Omega.{arith}
use borrow.Author.Rules.{rules}
use Rattle.base.specs.Limits.{words}
use Rattle.base.specs.Below.{count_below}
use Rattle.base.proofs.Below.{count_le}
use Rattle.lines.specs.Lines.{footprint, word}
use Rattle.lines.proofs.Laws.{either, footprint_more, joined_ones, joined_le}
use Rattle.lines.proofs.LineSet.footprint.Goals as goal

pub loop-k-init : goal.loop-k-init
unfolding count_below
loop-k-init c = refl

pub loop-k-preserved : goal.loop-k-preserved
loop-k-preserved c =
    let k = c.loop-k.k in
    let r : word c.args.self.now c.loop-k.k < 2 ^ 64 = search rules in
    let w : word c.args.other.now c.loop-k.k < 2 ^ 64 = search rules in
    (λ j. c.loop-k.invariant j + joined_ones _ _ r w j) ∙ sym (footprint_more _ _ k)

pub overflow_add-n : goal.overflow_add-n
overflow_add-n c =
    let k = c.loop-k.k in
    let a = c.args.self.now in
    let b = c.args.other.now in
    let r : word c.args.self.now c.loop-k.k < 2 ^ 64 = search rules in
    let w : word c.args.other.now c.loop-k.k < 2 ^ 64 = search rules in
    omega (arith, joined_ones _ _ r w, joined_le (word a k) (word b k), count_le (either a b) (64 * k))

pub returns : goal.returns
unfolding footprint
returns c =
    let e : c.loop-k.k ≡ words = omega (arith, c.loop-k-test.false) in
    c.loop-k.invariant ∙ ap (λ (k : ℕ). count_below (either c.args.self.now c.args.other.now) (64 * k)) e
