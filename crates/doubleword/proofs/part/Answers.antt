-- `doubleword::part` meets its contract.
use mathlib.Core.Path.{◌≡◌, sym, ap, ◌∙◌}
use Prim.Native.Nat.{ℕ, ◌*◌, ◌/◌, ◌%◌, ◌^◌}
use native.Mathlib.Omega.{arith}
use native.Mathlib.Nat.{div-one, mod-eq_of_lt}
use Rattle.doubleword.specs.Doubleword.{part}
use Rattle.doubleword.proofs.Laws.{one_shifted}
use Rattle.doubleword.proofs.part.Goals as goal

pub returns-then-width-eq-BYTES : goal.returns-then-width-eq-BYTES
unfolding part
returns-then-width-eq-BYTES c =
    let z : c.args.low ≡ 0 = omega (arith, c.if-width-eq-BYTES.true) in
    sym (ap (λ (w : ℕ). c.args.v / 2 ^ (8 * c.args.low) % 2 ^ (8 * w)) c.if-width-eq-BYTES.true ∙ ap (λ (j : ℕ). c.args.v / 2 ^ (8 * j) % 2 ^ 64) z ∙ ap (λ (x : ℕ). x % 2 ^ 64) (div-one c.args.v) ∙ mod-eq_of_lt (omega arith))

pub returns : goal.returns
unfolding part
returns c =
    ap (λ (x : ℕ). c.args.v / 2 ^ (8 * c.args.low) % x) (one_shifted (8 * c.args.width) 64 (omega arith))
