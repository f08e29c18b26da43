-- `doubleword::marks_of` meets its contract.
use mathlib.Core.Path.{◌≡◌, sym, ap, ◌∙◌, subst}
use Prim.Native.Nat.{ℕ, ◌-◌, ◌*◌, ◌%◌, ◌^◌, ◌<◌}
use native.Mathlib.Omega.{arith}
use lib.Pow.{shl_exact, ones_lt}
use Rattle.doubleword.proofs.Laws.{one_shifted, marks_lt}
use Rattle.doubleword.specs.Doubleword.{marks_of}
use Rattle.doubleword.proofs.marks_of.Goals as goal

pub overflow_cast-result : goal.overflow_cast-result
overflow_cast-result c =
    let shifted : (1 * 2 ^ c.args.width % 2 ^ 32 - 1) * 2 ^ c.args.low % 2 ^ 32 ≡ marks_of c.args.low c.args.width = (let w = c.args.width in
    let j = c.args.low in
    ap (λ (x : ℕ). (x - 1) * 2 ^ j % 2 ^ 32) (one_shifted w 32 (omega arith)) ∙ shl_exact w j 32 (ones_lt w) (omega arith)) in
    let h = subst (λ (x : ℕ). x < 256) (sym (shifted)) (marks_lt c.args.low c.args.width (omega arith)) in omega (arith, h)
