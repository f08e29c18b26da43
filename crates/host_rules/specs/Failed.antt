-- Which threads failed in an event (rule H8).
use Rattle.std.specs.Prelude.{ℕ, ◌+◌, ◌*◌, Bool, not, ◌&&◌, ◌||◌, ◌==◌}
use Rattle.base.specs.Answers as answer
use Rattle.base.specs.Below.{bit}
use Rattle.thread.specs.Thread.{is_live}
use Rattle.machine.specs.Machine.{thread}
use Rattle.machine.specs.declared.Machine.{Machine}
use Rattle.event.specs.Event.{tend_kind}
use Rattle.event.specs.declared.Fields.{Fields}
use Rattle.step_rules.specs.declared.Done.{Done}

-- thread v has a live transaction
abbrev pub live : Machine → ℕ → Bool
live m v = is_live (thread m.threads v).control.msr.state (thread m.threads v).control.msr.doomed

-- a thread's transaction ended: it was live before and is not after
abbrev pub ended : Machine → Machine → ℕ → Bool
ended m n v = live m v && not (live n v)

-- thread v failed: its own event handled its failure; or its transaction ended, and not by its own tend.
abbrev pub fails : Fields → Machine → Done → ℕ → Bool
fails f m d v =
    (f.thread == v) && (d.answer == answer.handled)
    || ended m d.machine v && not ((f.thread == v) && (f.kind == tend_kind))

-- one bit for each thread, that of thread 0 lowest
unfoldable pub failed : Fields → Machine → Done → ℕ
failed f m d = bit (fails f m d 0) + 2 * bit (fails f m d 1) + 4 * bit (fails f m d 2) + 8 * bit (fails f m d 3)
