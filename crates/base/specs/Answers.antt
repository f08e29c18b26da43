-- The numbers given back (rule N1). src/answer.rt has the same numbers for the code.
use Rattle.std.specs.Prelude.{ℕ, Result, Ok, Err}
use Rattle.base.specs.declared.answer.Completion.{Completion}
use Rattle.base.specs.declared.answer.Completion.TheVariants.{Done, Handled, Recorded}
use Rattle.base.specs.declared.answer.Refusal.{Refusal}
use Rattle.base.specs.declared.answer.Refusal.TheVariants.{Size, NoMachine, NoThread, Operand, HostInT, TapeLength, BadFirstByte, NoKind, Field, ShortBuffer, FacilityOff, Privileged, BadThing}

-- done
abbrev pub done : ℕ
done = 0

-- memory length or thread count
abbrev pub size : ℕ
size = 1

-- the machine is not valid
abbrev pub no_machine : ℕ
no_machine = 2

-- no such thread
abbrev pub no_thread : ℕ
no_thread = 3

-- an operand out of range
abbrev pub operand : ℕ
operand = 4

-- the host's event in Transactional state
abbrev pub host_in_t : ℕ
host_in_t = 5

-- a length that is no multiple of 16
abbrev pub tape_length : ℕ
tape_length = 6

-- a record's first byte
abbrev pub bad_first_byte : ℕ
bad_first_byte = 7

-- a record's kind
abbrev pub no_kind : ℕ
no_kind = 8

-- an unused field or a fixed byte that is not 0, or flags too big
abbrev pub field : ℕ
field = 9

-- the writer's buffer
abbrev pub short_buffer : ℕ
short_buffer = 10

-- a TM instruction with TM = 0
abbrev pub facility_off : ℕ
facility_off = 11

-- a privileged one with PR = 1
abbrev pub privileged : ℕ
privileged = 12

-- TM Bad Thing
abbrev pub bad_thing : ℕ
bad_thing = 13

-- done, own failure handled
abbrev pub handled : ℕ
handled = 20

-- done, own failure recorded in S
abbrev pub recorded : ℕ
recorded = 21

-- the number of a completion, of a refusal, and of an answer, which is one or the other
abbrev pub completion_number : Completion → ℕ
completion_number Done = done
completion_number Handled = handled
completion_number Recorded = recorded

abbrev pub refusal_number : Refusal → ℕ
refusal_number Size = size
refusal_number NoMachine = no_machine
refusal_number NoThread = no_thread
refusal_number Operand = operand
refusal_number HostInT = host_in_t
refusal_number TapeLength = tape_length
refusal_number BadFirstByte = bad_first_byte
refusal_number NoKind = no_kind
refusal_number Field = field
refusal_number ShortBuffer = short_buffer
refusal_number FacilityOff = facility_off
refusal_number Privileged = privileged
refusal_number BadThing = bad_thing

abbrev pub answer_of : Result Completion Refusal → ℕ
answer_of (Ok c) = completion_number c
answer_of (Err r) = refusal_number r

-- the number of what is refused or not
abbrev pub judgement_number : Result (Unit {0}) Refusal → ℕ
judgement_number (Ok u) = done
judgement_number (Err r) = refusal_number r
