-- One event: refused by a number with nothing changed, or done on its own thread, on the others and on memory.
use Rattle.std.specs.Prelude.{ℕ, cond, List, set, length, ◌==◌}
use Rattle.transaction.specs.Transaction.{written}
use Rattle.thread.specs.declared.Effect.{Effect}
use Rattle.event.specs.declared.Event.{Event}
use Rattle.step_rules.specs.Effects.{effect}
use Rattle.machine.specs.Machine.{thread, with_threads}
use Rattle.step_rules.specs.Refusal.{refusal}
use Rattle.step_rules.specs.Conflict.{others}
use Rattle.machine.specs.declared.Machine.{Machine}
use Rattle.step_rules.specs.declared.Done.{Done}

-- what a step leaves: its answer with the machine, and memory
pub record Outcome : Type 0 where
  pub done : Done
  pub memory : List ℕ

abbrev pub outcome : ℕ → Machine → List ℕ → Outcome
outcome n m mem = record { done = record { answer = n; machine = m }; memory = mem }

-- an effect of thread w applied: the others after what it touches, its own thread, and memory after what it writes
abbrev pub applied : Machine → List ℕ → ℕ → Effect → Outcome
applied m mem w f =
    outcome f.answer (with_threads m (set (others f.touch m.threads w) w f.thread))
    (written f.write (thread m.threads w).transaction mem)

-- an event that is not refused: what it does is decided, then applied
unfoldable pub perform : Machine → List ℕ → ℕ → Event → Outcome
perform m mem w e = applied m mem w (effect e (thread m.threads w) mem)

unfoldable pub step : Machine → List ℕ → ℕ → Event → Outcome
step m mem w e =
    cond (refusal m (length mem) w e == 0) (perform m mem w e) (outcome (refusal m (length mem) w e) m mem)
