-- Conflicts with the other threads (rules A3 and A6).
use Rattle.std.specs.Prelude.{ℕ, zero, suc, Bool, false, cond, ◌&&◌, ◌||◌, List, set, ◌==◌}
use Rattle.base.specs.Limits.{most_threads}
use Rattle.lines.specs.Lines as lineset
use Rattle.transaction.specs.declared.Transaction.{Transaction}
use Rattle.transaction.specs.declared.Cause.{Cause}
use Rattle.transaction.specs.declared.Cause.TheVariants.{PlainConflict, Conflict, Translation}
use Rattle.transaction.specs.declared.Touch.{Touch}
use Rattle.transaction.specs.declared.Touch.TheVariants.{Untouched, Load, Store, Page}
use Rattle.thread.specs.Thread.{is_live, felled}
use Rattle.thread.specs.declared.State.{State}
use Rattle.thread.specs.declared.State.TheVariants.{N, T, S}
use Rattle.thread.specs.declared.Thread.{Thread}
use Rattle.machine.specs.Machine.{thread}

-- what is touched meets a transaction: a load its write set, a store either set, a tlbie either set by a line of its page
unfoldable pub hits : Transaction → Touch → Bool
hits x Untouched = false
hits x (Load l) = lineset.has x.writes l
hits x (Store l) = lineset.has x.writes l || lineset.has x.reads l
hits x (Page p) = lineset.has_page x.writes p || lineset.has_page x.reads p

-- the cause by the state that the access is made in
abbrev pub conflict_cause : State → Cause
conflict_cause N = PlainConflict
conflict_cause T = Conflict
conflict_cause S = PlainConflict

-- a live transaction that is hit fails, as its thread's family has it
unfoldable pub struck : State → Thread → Touch → Cause → Thread
struck s t touch cause = cond (is_live s t.control.msr.doomed && hits t.transaction touch) (felled s t cause) t

-- the first n threads, all but the accessor struck
unfoldable pub strike : List Thread → ℕ → Touch → Cause → ℕ → List Thread
strike ts w touch cause zero = ts
strike ts w touch cause (suc n) =
    cond (n == w) (strike ts w touch cause n)
    (set (strike ts w touch cause n) n (struck (thread ts n).control.msr.state (thread ts n) touch cause))

-- what thread w's touch leaves of the other threads
unfoldable pub others : Touch → List Thread → ℕ → List Thread
others Untouched ts w = ts
others (Load l) ts w = strike ts w (Load l) (conflict_cause (thread ts w).control.msr.state) most_threads
others (Store l) ts w = strike ts w (Store l) (conflict_cause (thread ts w).control.msr.state) most_threads
others (Page p) ts w = strike ts w (Page p) Translation most_threads
