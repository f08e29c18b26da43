-- What is promised of one event, proved in proofs/Keeping.antt.
use Rattle.std.specs.Prelude.{◌≡◌, true, List, ℕ, length}
use Rattle.event.specs.declared.Event.{Event}
use Rattle.machine.specs.Valid.{valid}
use Rattle.step_rules.specs.Refusal.{refusal}
use Rattle.step_rules.specs.Step.{outcome, step}
use Rattle.machine.specs.declared.Machine.{Machine}

-- from a valid machine every event, refused or not, leaves a valid machine over a memory of the same length
abbrev pub Keeps : Type 0
Keeps =
    (m : Machine) (mem : List ℕ) (w : ℕ) (e : Event) → valid m (length mem) ≡ true
    → (length (step m mem w e).memory ≡ length mem) × (valid (step m mem w e).done.machine (length (step m mem w e).memory) ≡ true)

-- a refused event gives its number and leaves memory and machine as they were
abbrev pub RefusedUntouched : Type 0
RefusedUntouched =
    (m : Machine) (mem : List ℕ) (w : ℕ) (e : Event) → (refusal m (length mem) w e ≡ 0 → ⊥)
    → step m mem w e ≡ outcome (refusal m (length mem) w e) m mem
