-- `doubleword::placed` meets its contract.
use mathlib.Core.Path.{◌≡◌, sym, ap, ◌∙◌}
use Prim.Native.Nat.{ℕ, ◌*◌, ◌%◌, ◌^◌, ◌<◌}
use native.Mathlib.Omega.{arith}
use native.Mathlib.Nat.{mod-eq_of_lt}
use Rattle.doubleword.specs.Doubleword.{placed}
use Rattle.doubleword.proofs.Laws.{one_shifted, bytes_shifted}
use Rattle.doubleword.proofs.placed.Goals as goal

pub returns : goal.returns
unfolding placed
returns c =
    ap (λ (m : ℕ). c.args.x % m * 2 ^ (8 * c.args.low) % 2 ^ 64) (one_shifted (8 * c.args.width) 64 (omega arith)) ∙ bytes_shifted c.args.low c.args.width c.args.x (omega arith)

pub returns-then-width-eq-BYTES : goal.returns-then-width-eq-BYTES
unfolding placed
returns-then-width-eq-BYTES c =
    let z : c.args.low ≡ 0 = omega (arith, c.if-width-eq-BYTES.true) in
    sym (ap (λ (w : ℕ). c.args.x % 2 ^ (8 * w) * 2 ^ (8 * c.args.low)) c.if-width-eq-BYTES.true ∙ ap (λ (j : ℕ). c.args.x % 2 ^ 64 * 2 ^ (8 * j)) z ∙ ap (λ (y : ℕ). y * 1) (mod-eq_of_lt (omega arith)) ∙ omega arith)
