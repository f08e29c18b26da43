-- What the code of the scan tells, beside the model.
use Rattle.std.specs.Prelude.{ℕ, List}
use Rattle.base.specs.Limits.{most_threads}
use Rattle.transaction.specs.declared.Cause.{Cause}
use Rattle.transaction.specs.declared.Cause.TheVariants.{Translation}
use Rattle.transaction.specs.declared.Touch.{Touch}
use Rattle.transaction.specs.declared.Touch.TheVariants.{Untouched, Load, Store, Page}
use Rattle.thread.specs.declared.State.{State}
use Rattle.thread.specs.declared.Thread.{Thread}
use Rattle.step_rules.specs.Conflict.{conflict_cause, strike}

-- why a transaction fails that a touch hits
abbrev pub cause : Touch → State → Cause
cause Untouched s = conflict_cause s
cause (Load l) s = conflict_cause s
cause (Store l) s = conflict_cause s
cause (Page p) s = Translation

-- the other threads, by the state that the access was made in
unfoldable pub others_from : State → Touch → List Thread → ℕ → List Thread
others_from s Untouched ts w = ts
others_from s (Load l) ts w = strike ts w (Load l) (conflict_cause s) most_threads
others_from s (Store l) ts w = strike ts w (Store l) (conflict_cause s) most_threads
others_from s (Page p) ts w = strike ts w (Page p) Translation most_threads
