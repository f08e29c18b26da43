-- What an event that was done has left: its answer, its own thread, what it touched and the memory. The effect says what will be written, and here it is.
use Rattle.std.specs.Prelude.{ℕ, List}
use Rattle.base.specs.Answers.{completion_number}
use Rattle.transaction.specs.Transaction.{written}
use Rattle.transaction.specs.declared.Touch.{Touch}
use Rattle.transaction.specs.declared.Transaction.{Transaction}
use Rattle.thread.specs.declared.Effect.{Effect}
use Rattle.thread.specs.declared.Thread.{Thread}
use Rattle.effect.specs.declared.Went.{Went}

pub record Landed : Type 0 where
  pub answer : ℕ
  pub thread : Thread
  pub touch : Touch
  pub memory : List ℕ

-- an effect carried out, of a thread whose transaction was x before it
abbrev pub landed : Effect → Transaction → List ℕ → Landed
landed f x mem = record { answer = f.answer; thread = f.thread; touch = f.touch; memory = written f.write x mem }

-- what the code leaves: how the event went, its thread and the memory afterwards
abbrev pub left : Went → Thread → List ℕ → Landed
left w t mem = record { answer = completion_number w.completion; thread = t; touch = w.touch; memory = mem }
