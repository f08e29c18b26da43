-- Events fed one by one: what the theorems speak of.
use Rattle.std.specs.Prelude.{ℕ, List, [], ◌∷◌}
use Rattle.event.specs.declared.Event.{Event}
use Rattle.step_rules.specs.Step.{Outcome, step}

-- events fed one by one, each by its thread; a refused event changes nothing
pub record Fed : Type 0 where
  pub by : ℕ
  pub event : Event

abbrev pub from : ℕ → Event → Fed
from w e = record { by = w; event = e }

abbrev pub after : Outcome → Fed → Outcome
after o f = step o.done.machine o.memory f.by f.event

unfoldable pub feed : List Fed → Outcome → Outcome
feed [] o = o
feed (f ∷ fs) o = feed fs (after o f)
