-- The machine with what a transaction keeps to itself put to nothing. Proved in proofs/Erase.antt.
use Rattle.std.specs.Prelude.{◌≡◌, true, List, map, ℕ, length, set, replicate}
use Rattle.transaction.specs.declared.Entry.{Entry}
use Rattle.transaction.specs.declared.Transaction.{Transaction}
use Rattle.thread.specs.declared.Registers.{Registers}
use Rattle.thread.specs.declared.State.{State}
use Rattle.thread.specs.declared.State.TheVariants.{N, T, S}
use Rattle.thread.specs.declared.Thread.{Thread}
use Rattle.event.specs.declared.Event.{Event}
use Rattle.machine.specs.Machine.{thread, with_threads}
use Rattle.machine.specs.Valid.{valid}
use Rattle.step_rules.specs.Step.{outcome, step}
use Rattle.step_rules.specs.Feed.{from}
use Rattle.machine.specs.declared.Machine.{Machine}
use Rattle.laws_secrecy.specs.Secrecy.{Alike, allowed, Agree}

-- registers all zero, and a log whose values are zero
abbrev pub erase_registers : Registers → Registers
erase_registers r = record { gpr = replicate (length r.gpr) 0; cr = replicate (length r.cr) 0 }

abbrev pub erase_entry : Entry → Entry
erase_entry e = record { index = e.index; marks = e.marks; value = 0 }

abbrev pub erase_held : Transaction → Transaction
erase_held x = record { reads = x.reads; writes = x.writes; count = x.count; log = map erase_entry x.log }

-- a thread with its live registers, CR0 and the values in its log all zero, if it is in T
unfoldable pub erase_in : State → Thread → Thread
erase_in N t = t
erase_in T t =
    record { live = erase_registers t.live; cr0 = 0; checkpoint = t.checkpoint; control = t.control; transaction = erase_held t.transaction }
erase_in S t = t

-- a machine with thread w so
unfoldable pub erase : ℕ → Machine → Machine
erase w m = with_threads m (set m.threads w (erase_in (thread m.threads w).control.msr.state (thread m.threads w)))

-- a valid machine with thread w in T and its erasure are alike, and the erasure is valid
abbrev pub Erased : Type 0
Erased =
    (w : ℕ) (m : Machine) (len : ℕ) → valid m len ≡ true → (thread m.threads w).control.msr.state ≡ T → Alike w m (erase w m) × (valid (erase w m) len ≡ true)

-- so one event that is allowed answers and leaves the same on both
abbrev pub ErasedEvent : Type 0
ErasedEvent =
    (w : ℕ) (m : Machine) (mem : List ℕ) (v : ℕ) (e : Event) → valid m (length mem) ≡ true → (thread m.threads w).control.msr.state ≡ T
    → allowed w (from v e) (outcome 0 m mem) ≡ true
    → ((step m mem v e).done.answer ≡ (step (erase w m) mem v e).done.answer) × Agree w (step m mem v e) (step (erase w m) mem v e)
