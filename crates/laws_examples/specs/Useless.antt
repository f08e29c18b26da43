-- Useless steps that meet the third demand. The second demand, that the code is `step`, shuts them out. Proved in proofs/Useless.antt.
use Rattle.std.specs.Prelude.{◌≡◌, List, [], ◌∷◌, ℕ}
use Rattle.event.specs.declared.Event.{Event}
use Rattle.event.specs.declared.Event.TheVariants.{Addi}
use Rattle.machine.specs.Machine.{fresh}
use Rattle.step_rules.specs.Step.{outcome, step}
use Rattle.machine.specs.declared.Machine.{Machine}
use Rattle.laws_secrecy.specs.Secrecy.{Stepping, SecretOf}
use Rattle.laws_examples.specs.Examples.{small_memory, Each}

-- a step that answers, and changes nothing
abbrev pub still : (Machine → List ℕ → ℕ → Event → ℕ) → Stepping
still answer m mem v e = outcome (answer m mem v e) m mem

-- it refuses everything, by number 1; it answers 0 to everything; it answers as the step does
abbrev pub useless : List Stepping
useless = still (λ m mem v e. 1) ∷ still (λ m mem v e. 0) ∷ still (λ m mem v e. (step m mem v e).done.answer) ∷ []

abbrev pub AllMeet : Type 0
AllMeet = Each SecretOf useless

-- each differs from the step, of an addi on the fresh machine
abbrev pub Differs : Stepping → Type 0
Differs s = s fresh small_memory 0 (Addi 1 0 5) ≡ step fresh small_memory 0 (Addi 1 0 5) → ⊥

abbrev pub AllDiffer : Type 0
AllDiffer = Each Differs useless
