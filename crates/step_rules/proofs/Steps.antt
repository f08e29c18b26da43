-- Laws of the step: the step of an event that is refused, and of one that is not.
use mathlib.Core.Path.{◌≡◌}
use mathlib.Core.Bool.{false}
use mathlib.Core.List.{List}
use Prim.Native.Nat.{ℕ}
use lib.Dec.{eqb}
use lib.ListN.{length}
use Rattle.machine.specs.declared.Machine.{Machine}
use Rattle.step_rules.specs.Refusal.{refusal}
use Rattle.step_rules.specs.Step.{outcome, perform, step}
use Rattle.event.specs.declared.Event.{Event}

-- the step of a refused event, and of one that passes
module _ (m : Machine) (mem : List ℕ) (w : ℕ) (e : Event) where
  pub step_refused : (n : ℕ) → refusal m (length mem) w e ≡ n → eqb n 0 ≡ false → step m mem w e ≡ outcome n m mem
  unfolding step
  step_refused n p z = simp (p, z)

  pub step_passed : refusal m (length mem) w e ≡ 0 → step m mem w e ≡ perform m mem w e
  unfolding step
  step_passed p = simp p
