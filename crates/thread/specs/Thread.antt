-- One thread (rules M4 to M7): the checkpoint; recording and handling of a failure (rules F1 to F9).
use Rattle.std.specs.Prelude.{ℕ, ◌+◌, ◌-◌, ◌%◌, Bool, true, false, not, cond, ◌==◌}
use Rattle.base.specs.Below.{bit}
use Rattle.transaction.specs.Transaction as transaction
use Rattle.transaction.specs.declared.Transaction.{Transaction}
use Rattle.transaction.specs.declared.Cause.{Cause}
use Rattle.thread.specs.Texasr.{fs, rot, tl, packed, cause_bits}
use Rattle.thread.specs.declared.Registers.{Registers}
use Rattle.thread.specs.declared.State.{State}
use Rattle.thread.specs.declared.State.TheVariants.{N, T, S}
use Rattle.thread.specs.declared.Msr.{Msr}
use Rattle.thread.specs.declared.Failure.{Failure}
use Rattle.thread.specs.declared.Saved.{Saved}
use Rattle.thread.specs.declared.Control.{Control}
use Rattle.thread.specs.declared.Thread.{Thread}

-- a thread with one part anew
abbrev pub with_live : Thread → Registers → Thread
with_live t r = record { live = r; cr0 = t.cr0; checkpoint = t.checkpoint; control = t.control; transaction = t.transaction }

abbrev pub with_cr0 : Thread → ℕ → Thread
with_cr0 t f = record { live = t.live; cr0 = f; checkpoint = t.checkpoint; control = t.control; transaction = t.transaction }

abbrev pub with_checkpoint : Thread → Registers → Thread
with_checkpoint t r = record { live = t.live; cr0 = t.cr0; checkpoint = r; control = t.control; transaction = t.transaction }

abbrev pub with_control : Thread → Control → Thread
with_control t k = record { live = t.live; cr0 = t.cr0; checkpoint = t.checkpoint; control = k; transaction = t.transaction }

abbrev pub with_transaction : Thread → Transaction → Thread
with_transaction t x = record { live = t.live; cr0 = t.cr0; checkpoint = t.checkpoint; control = t.control; transaction = x }

-- the control registers with one part anew: the next address; the machine state; the failure registers; what an interrupt saved
abbrev pub with_nia : Control → ℕ → Control
with_nia k a = record { nia = a; msr = k.msr; failure = k.failure; saved = k.saved }

abbrev pub with_msr : Control → Msr → Control
with_msr k m = record { nia = k.nia; msr = m; failure = k.failure; saved = k.saved }

abbrev pub with_failure : Control → Failure → Control
with_failure k f = record { nia = k.nia; msr = k.msr; failure = f; saved = k.saved }

abbrev pub with_saved : Control → Saved → Control
with_saved k s = record { nia = k.nia; msr = k.msr; failure = k.failure; saved = s }

-- TEXASR anew
abbrev pub with_texasr : Control → ℕ → Control
with_texasr k x = with_failure k (record { tfhar = k.failure.tfhar; tfiar = k.failure.tfiar; texasr = x })

-- the state with TDOOMED
abbrev pub in_state : Control → State → Bool → Control
in_state k s d = with_msr k (record { pr = k.msr.pr; tm = k.msr.tm; state = s; doomed = d })

-- the checkpoint taken, and put back; CR0 is no part of it
abbrev pub take_checkpoint : Thread → Thread
take_checkpoint t = with_checkpoint t t.live

abbrev pub restore : Thread → Thread
restore t = with_live t t.checkpoint

-- FS = 1
abbrev pub failed : Control → Bool
failed k = fs k.failure.texasr == 1

abbrev pub suspended : State → ℕ
suspended N = 0
suspended T = 0
suspended S = 1

-- the two low bits of an address replaced by 0 and PR
abbrev pub tfiar_of : ℕ → Bool → ℕ
tfiar_of at pr = at - at % 4 + bit pr

-- the failure registers with a cause noted for an address
abbrev pub noted : Control → Cause → Bool → ℕ → Failure
noted k cause exact at =
    record {
      tfhar = k.failure.tfhar;
      tfiar = tfiar_of at k.msr.pr;
      texasr = packed (cause_bits cause) (suspended k.msr.state) (bit k.msr.pr) (bit exact) (rot k.failure.texasr) (tl k.failure.texasr);
    }

-- recording a cause for an address, only if FS = 0: TEXASR, TFIAR, TDOOMED = 1, sets and log emptied
unfoldable pub recording : Thread → Cause → Bool → ℕ → Thread
recording t cause exact at =
    cond (failed t.control) t
    (with_transaction
    (with_control t (with_failure (in_state t.control t.control.msr.state true) (noted t.control cause exact at)))
    (transaction.discard t.transaction))

-- handling: the checkpoint put back, CR0 tells the failure, and the thread goes on at TFHAR in N
unfoldable pub handling : Thread → Thread
handling t = with_cr0 (with_control (restore t) (in_state (with_nia t.control t.control.failure.tfhar) N false)) 0b1010

-- the transaction is live: in T, and in S until it is doomed
abbrev pub is_live : State → Bool → Bool
is_live N doomed = false
is_live T doomed = true
is_live S doomed = not doomed

-- another thread's event is the cause: exact = 0, at the failing thread's NIA
abbrev pub other_recording : Thread → Cause → Thread
other_recording t cause = recording t cause false t.control.nia

-- a live transaction that another thread's event fails: in T it is handled too, in S it is recorded
unfoldable pub felled : State → Thread → Cause → Thread
felled N t cause = t
felled T t cause = handling (other_recording t cause)
felled S t cause = other_recording t cause
