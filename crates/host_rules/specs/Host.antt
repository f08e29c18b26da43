-- What a host calls: the tests and the step, the run, the reader and the writer, on plain numbers (rules H1 to H7).
use Rattle.std.specs.Prelude.{ℕ, true, cond, List, length}
use Rattle.base.specs.Answers as answer
use Rattle.machine.specs.Valid.{sized, machine_number, first_of}
use Rattle.machine.specs.declared.Machine.{Machine}
use Rattle.step_rules.specs.Step as events
use Rattle.event.specs.Event.{fields, fields_of}
use Rattle.event.specs.declared.Fields.{Fields}
use Rattle.tape.specs.Tape as tape
use Rattle.tape.specs.declared.Read.{Read}
use Rattle.tape.specs.declared.Read.TheVariants.{Record, Refused}
use Rattle.run_rules.specs.Run as tape_run
use Rattle.crossing.specs.Crossing.{right, machine_of, raw_machine}
use Rattle.crossing.specs.declared.RawMachine.{RawMachine}
use Rattle.host_rules.specs.Failed.{failed}
use Rattle.host_rules.specs.declared.RawDone.{RawDone}
use Rattle.host_rules.specs.declared.RawEnded.{RawEnded}
use Rattle.host_rules.specs.declared.RawRecord.{RawRecord}

-- version four above, the change requests that have landed below; src/lib.rt of host has the same number for the code
abbrev pub version : ℕ
version = 0x0004000A

-- the numbers 1 and 2 of any bits: bits that are no machine are 2 where the size is right
unfoldable pub number : RawMachine → ℕ → ℕ
number m len = cond (right m) (machine_number (machine_of m) len) (cond (sized (machine_of m) len) answer.no_machine answer.size)

-- what a step leaves: its answer with the threads that failed and the machine, and memory
pub record RawOutcome : Type 0 where
  pub done : RawDone
  pub memory : List ℕ

-- where nothing was done no one failed
abbrev pub outcome : ℕ → RawMachine → List ℕ → RawOutcome
outcome n m mem = record { done = record { answer = n; failed = 0; machine = m }; memory = mem }

-- the outcome of an event by its fields on a machine
abbrev pub crossed : Fields → Machine → events.Outcome → RawOutcome
crossed f m o =
    record { done = record { answer = o.done.answer; failed = failed f m o.done; machine = raw_machine o.done.machine }; memory = o.memory }

-- the event of fields on a machine: 1 and 2 come before 8 and 9, which come before the rest
abbrev pub met : Fields → Read → RawMachine → List ℕ → RawOutcome
met f (Refused n) m mem = outcome (first_of (number m (length mem)) n) m mem
met f (Record w e) m mem = cond (right m) (crossed f (machine_of m) (events.step (machine_of m) mem w e)) (outcome (number m (length mem)) m mem)

-- fields are judged as a record's are
abbrev pub event_read : Fields → Read
event_read f = tape.of_kind f true

unfoldable pub step : RawMachine → List ℕ → Fields → RawOutcome
step m mem f = met f (event_read f) m mem

-- what a run leaves: its answer, count and index with the machine, and memory
pub record RawResult : Type 0 where
  pub ended : RawEnded
  pub memory : List ℕ

abbrev pub raw_result : ℕ → ℕ → ℕ → RawMachine → List ℕ → RawResult
raw_result n k i m mem = record { ended = record { answer = n; count = k; index = i; machine = m }; memory = mem }

abbrev pub crossed_result : tape_run.Result → RawResult
crossed_result r = raw_result r.ended.answer r.ended.count r.ended.index (raw_machine r.ended.machine) r.memory

unfoldable pub run : RawMachine → List ℕ → List ℕ → RawResult
run m mem bytes = cond (right m) (crossed_result (tape_run.run (machine_of m) mem bytes)) (raw_result (number m (length mem)) 0 0 m mem)

-- a record's fields with 0, or a number with zeros
abbrev pub record_of : Read → RawRecord
record_of (Record w e) = record { answer = answer.done; event = fields_of w e }
record_of (Refused n) = record { answer = n; event = fields 0 0 0 0 0 0 0 0 }

unfoldable pub read : List ℕ → RawRecord
read bytes = record_of (tape.read bytes)

-- fields that are no event are refused by 8 or 9 before the buffer is tested
abbrev pub write_answer_of : Read → List ℕ → ℕ
write_answer_of (Record w e) buf = tape.write_answer buf
write_answer_of (Refused n) buf = n

abbrev pub written : Read → List ℕ → List ℕ
written (Record w e) buf = tape.write w e buf
written (Refused n) buf = buf

unfoldable pub write_answer : Fields → List ℕ → ℕ
write_answer f buf = write_answer_of (event_read f) buf

unfoldable pub write : Fields → List ℕ → List ℕ
write f buf = written (event_read f) buf
