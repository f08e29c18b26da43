-- `doubleword::merged` meets its contract.
use mathlib.Core.Path.{sym, ap, ◌∙◌}
use Prim.Native.Nat.{ℕ, ◌-◌}
use lib.Bits.{bit_and, bit_or}
use native.Mathlib.Omega.{arith}
use Rattle.doubleword.proofs.Laws.{merged_all, merged_masked, spread_masks}
use Rattle.doubleword.specs.Doubleword.{merged}
use Rattle.doubleword.proofs.merged.Goals as goal

pub returns-then-marks-eq-ALL : goal.returns-then-marks-eq-ALL
returns-then-marks-eq-ALL c =
    sym (ap (λ (m : ℕ). merged m c.args.old c.args.new) c.if-marks-eq-ALL.true ∙ merged_all c.args.old c.args.new (omega arith))

pub returns : goal.returns
returns c =
    ap (λ (mask : ℕ). bit_or (bit_and c.args.new mask) (bit_and c.args.old (0xFFFFFFFFFFFFFFFF - mask))) c.spread-mask.ensures
    ∙ merged_masked c.args.marks _ c.args.old c.args.new (spread_masks c.args.marks (omega arith)) (omega arith) (omega arith)
