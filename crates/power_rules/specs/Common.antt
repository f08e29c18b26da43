-- What the events on one thread share (rules E0.1 to E0.10): the next address, CR0 from state, the thread's own failure.
use Rattle.std.specs.Prelude.{ℕ, ◌+◌, ◌*◌, ◌%◌, ◌^◌, Bool, true, cond, set, slice_index, ◌==◌}
use Rattle.base.specs.Answers as answer
use Rattle.transaction.specs.declared.Cause.{Cause}
use Rattle.transaction.specs.declared.Cause.TheVariants.{Abort}
use Rattle.transaction.specs.declared.Touch.{Touch}
use Rattle.transaction.specs.declared.Touch.TheVariants.{Untouched}
use Rattle.transaction.specs.declared.Write.{Write}
use Rattle.transaction.specs.declared.Write.TheVariants.{Unwritten}
use Rattle.thread.specs.Thread.{with_live, with_cr0, with_control, with_nia, with_texasr, failed, recording, handling}
use Rattle.thread.specs.Turns.{ts}
use Rattle.thread.specs.declared.State.{State}
use Rattle.thread.specs.declared.Msr.{Msr}
use Rattle.thread.specs.declared.Thread.{Thread}
use Rattle.thread.specs.declared.Effect.{Effect}
use Rattle.power_rules.specs.declared.Did.{Did}

abbrev pub did : ℕ → Thread → Did
did n t = record { answer = n; thread = t }

-- the effect of an event that touches or writes, and of one that does neither
abbrev pub doing : Did → Touch → Write → Effect
doing d touch write = record { answer = d.answer; thread = d.thread; touch = touch; write = write }

abbrev pub quiet : Did → Effect
quiet d = doing d Untouched Unwritten

-- the address after
abbrev pub next : ℕ → ℕ
next a = (a + 4) % 2 ^ 64

-- afterwards NIA is CIA + 4
abbrev pub advance : Thread → Thread
advance t = with_control t (with_nia t.control (next t.control.nia))

-- done, with nothing else
abbrev pub passes : Thread → Did
passes t = did answer.done (advance t)

-- CR0 from state: 0, the two TS bits, 0
abbrev pub ts_field : State → ℕ
ts_field s = 2 * ts s

abbrev pub cr0_from_state : Thread → Thread
cr0_from_state t = with_cr0 t (ts_field t.control.msr.state)

-- CR0 from state, and on to the next instruction
abbrev pub cr0_only : Thread → Did
cr0_only t = passes (cr0_from_state t)

-- the same with TEXASR anew, for a level up or down
abbrev pub leveled : Thread → ℕ → Did
leveled t x = passes (cr0_from_state (with_control t (with_texasr t.control x)))

-- the machine state with a state, PR and TM anew; TDOOMED stays
abbrev pub put_msr : Msr → State → Bool → Bool → Msr
put_msr m s pr tm = record { pr = pr; tm = tm; state = s; doomed = m.doomed }

-- general register r, and the thread with a value in it
abbrev pub gpr : Thread → ℕ → ℕ
gpr t r = slice_index t.live.gpr r

abbrev pub put_gpr : Thread → ℕ → ℕ → Thread
put_gpr t r v = with_live t (record { gpr = set t.live.gpr r v; cr = t.live.cr })

-- register RA, or 0 where RA = 0 names none
abbrev pub gpr_or_0 : Thread → ℕ → ℕ
gpr_or_0 t ra = cond (ra == 0) 0 (gpr t ra)

-- the cause of an abort or reclaim: its code is the low byte of RA
abbrev pub abort_cause : Thread → ℕ → Cause
abort_cause t ra = Abort (gpr_or_0 t ra % 2 ^ 8)

-- a cause recorded for the thread's own instruction
abbrev pub own_recording : Thread → Cause → Thread
own_recording t cause = recording t cause true t.control.nia

-- the thread's own failure in T: recorded, and handled in the same event
unfoldable pub fails : Thread → Cause → Did
fails t cause = did answer.handled (handling (own_recording t cause))

-- the thread's own failure in S: recorded for its own instruction, exact or not (rule F4), and handled at tresume; 21 only if this event
-- recorded it
unfoldable pub dooms : Thread → Cause → Bool → Did
dooms t cause exact = did (cond (failed t.control) answer.done answer.recorded) (advance (recording t cause exact t.control.nia))
