-- What is promised of what a host hands in; proved in proofs/Promises.antt. The crossing's own promises: Crosses.antt.
use Rattle.std.specs.Prelude.{◌≡◌, true, false, List, ℕ, ◌/◌, ◌%◌, ◌^◌, ◌≤◌, ◌<◌, length, take, drop}
use Rattle.base.specs.Below.{bit}
use Rattle.base.specs.Limits.{most_threads}
use Rattle.event.specs.Event.{fields_of}
use Rattle.event.specs.declared.Event.{Event}
use Rattle.event.specs.declared.Fields.{Fields}
use Rattle.machine.specs.Valid.{sized}
use Rattle.machine.specs.declared.Machine.{Machine}
use Rattle.step_rules.specs.declared.Done.{Done}
use Rattle.tape.specs.Tape.{record_size}
use Rattle.tape.specs.declared.Read.TheVariants.{Record}
use Rattle.laws_round.specs.Round.{FieldsFit, Bytes}
use Rattle.run_rules.specs.Run.{goes_on}
use Rattle.crossing.specs.Crossing.{right, machine_of}
use Rattle.host_rules.specs.Failed.{fails, failed}
use Rattle.host_rules.specs.Host.{outcome, event_read, step, raw_result, run, read, write_answer, write}
use Rattle.crossing.specs.declared.RawMachine.{RawMachine}

-- bits that are no machine are refused by 2, whatever the event and the tape, and nothing changes
abbrev pub NoMachine : Type 0
NoMachine =
    (m : RawMachine) (mem : List ℕ) → right m ≡ false → sized (machine_of m) (length mem) ≡ true
    → ((f : Fields) → step m mem f ≡ outcome 2 m mem) × ((bytes : List ℕ) → run m mem bytes ≡ raw_result 2 0 0 m mem)

-- a refused event leaves the host's bits and memory untouched, and no one failed
abbrev pub StopChangesNothing : Type 0
StopChangesNothing =
    (m : RawMachine) (mem : List ℕ) (f : Fields) → length m.threads ≡ most_threads
    → goes_on (step m mem f).done.answer ≡ false
    → ((step m mem f).done.machine ≡ m) × ((step m mem f).memory ≡ mem) × ((step m mem f).done.failed ≡ 0)

-- the mask has a bit for each thread: whether it failed
abbrev pub FailedEach : Type 0
FailedEach =
    (f : Fields) (m : Machine) (d : Done) (v : ℕ) → v < most_threads → failed f m d / 2 ^ v % 2 ≡ bit (fails f m d v)

-- every event has fields that are read as it
abbrev pub EventCrosses : Type 0
EventCrosses = (w : ℕ) (e : Event) → event_read (fields_of w e) ≡ Record w e

-- fields that fit their types and are written are read back
abbrev pub ReadsWritten : Type 0
ReadsWritten =
    (f : Fields) (buf : List ℕ) → FieldsFit f → write_answer f buf ≡ 0
    → read (take record_size (write f buf)) ≡ record { answer = 0; event = f }

-- fields that were read are written as the bytes that they were read from, whatever stood in the buffer
abbrev pub WritesRead : Type 0
WritesRead =
    (bs buf : List ℕ) → Bytes bs → (read bs).answer ≡ 0 → record_size ≤ length buf
    → (write_answer (read bs).event buf ≡ 0) × (take record_size (write (read bs).event buf) ≡ bs)

-- nothing behind the record is touched
abbrev pub KeepsRest : Type 0
KeepsRest =
    (f : Fields) (buf : List ℕ)
    → (length (write f buf) ≡ length buf) × (drop record_size (write f buf) ≡ drop record_size buf)
