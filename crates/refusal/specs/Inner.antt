-- The tests of an event that has a thread: on its operands, and on the thread.
use Rattle.std.specs.Prelude.{ℕ, not, cond}
use Rattle.base.specs.Answers as answer
use Rattle.thread.specs.declared.Control.{Control}
use Rattle.event.specs.Event.{operands_right}
use Rattle.event.specs.declared.Event.{Event}
use Rattle.step_rules.specs.Refusal.{refused_there}

abbrev pub refused_at : Control → Event → ℕ → ℕ
refused_at k e len = cond (not (operands_right e len)) answer.operand (refused_there k e)
