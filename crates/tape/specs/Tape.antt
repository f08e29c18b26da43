-- One record of 16 bytes, read and written (rules T1 to T7).
use Rattle.std.specs.Prelude.{ℕ, ◌+◌, ◌*◌, ◌/◌, ◌%◌, Bool, not, cond, ◌&&◌, ◌||◌, List, [], ◌∷◌, length, take, drop, nat_le, nat_lt, slice_index, ◌==◌, Result, Ok, Err}
use Rattle.std.proofs.Math.Option.{Option, some, none}
use Rattle.std.proofs.lemmas.List.Edits.{sets}
use Rattle.base.specs.Answers as answer
use Rattle.base.specs.Answers.{refusal_number}
use Rattle.base.specs.declared.answer.Refusal.{Refusal}
use Rattle.event.specs.declared.Event.{Event}
use Rattle.event.specs.declared.Fields.{Fields}
use Rattle.kinds.specs.declared.Row.{Row}
use Rattle.kinds.specs.Rows.{kind_right, row, used, spans}
use Rattle.event.specs.Event.{event_of, fields_of}
use Rattle.tape.specs.declared.Read.{Read}
use Rattle.tape.specs.declared.Read.TheVariants.{Record, Refused}

-- src/lib.rt has the same two numbers for the code
abbrev pub record_size : ℕ
record_size = 16

abbrev pub first_byte : ℕ
first_byte = 0xE3

abbrev pub byte : List ℕ → ℕ → ℕ
byte bs n = slice_index bs n

-- record k of a tape
abbrev pub record_at : List ℕ → ℕ → List ℕ
record_at tape k = take record_size (drop (record_size * k) tape)

-- numbers of two and four bytes, highest first
abbrev pub two : ℕ → ℕ → ℕ
two a b = a * 256 + b

abbrev pub four : ℕ → ℕ → ℕ → ℕ → ℕ
four a b c d = a * 0x1000000 + b * 0x10000 + c * 0x100 + d

-- 0xE3, kind, thread, X, RA, RB, flags, 0, index in four bytes, SI in two bytes, 0, 0
unfoldable pub fields_at : List ℕ → Fields
fields_at bs =
    record {
      kind = byte bs 1;
      thread = byte bs 2;
      x = byte bs 3;
      ra = byte bs 4;
      rb = byte bs 5;
      flags = byte bs 6;
      index = four (byte bs 8) (byte bs 9) (byte bs 10) (byte bs 11);
      si = two (byte bs 12) (byte bs 13);
    }

-- number 7, or 0
abbrev pub marked : List ℕ → ℕ
marked bs = cond (byte bs 0 == first_byte) answer.done answer.bad_first_byte

abbrev pub fixed_zero : List ℕ → Bool
fixed_zero bs = (byte bs 7 == 0) && (byte bs 14 == 0) && (byte bs 15 == 0)

unfoldable pub bytes : Fields → List ℕ
bytes f =
    first_byte ∷ f.kind ∷ f.thread ∷ f.x ∷ f.ra ∷ f.rb ∷ f.flags ∷ 0
    ∷ f.index / 256 / 256 / 256 % 256 ∷ f.index / 256 / 256 % 256 ∷ f.index / 256 % 256 ∷ f.index % 256
    ∷ f.si / 256 % 256 ∷ f.si % 256 ∷ 0 ∷ 0 ∷ []

-- every field that the row does not use is 0 and the flags are not too big
unfoldable pub unused_clear : Row → Fields → Bool
unused_clear r f =
    (used r.x || (f.x == 0)) && (used r.ra || (f.ra == 0)) && (used r.rb || (f.rb == 0))
    && nat_le f.flags r.flags && (spans r.index || (f.index == 0)) && (r.si || (f.si == 0))

-- number 9, or the thread and the event: clear says that every unused field and every fixed 0 byte is 0 and the flags are not too big
unfoldable pub judged : Fields → Bool → Read
judged f clear = cond (not clear) (Refused answer.field) (Record f.thread (event_of f))

-- numbers 8 and 9 in their order, or the thread and the event; zero says that every fixed 0 byte is 0
unfoldable pub of_kind : Fields → Bool → Read
of_kind f zero = cond (not (kind_right f.kind)) (Refused answer.no_kind) (judged f (zero && unused_clear (row f.kind) f))

-- the reader: the numbers 6, 7, 8, 9 in their order, or the thread and the event
unfoldable pub read : List ℕ → Read
read bs =
    cond (not (length bs == record_size)) (Refused answer.tape_length)
    (cond (not (byte bs 0 == first_byte)) (Refused answer.bad_first_byte)
    (of_kind (fields_at bs) (fixed_zero bs)))

-- the number of each answer (rule C7), and its values: a record is 0 with its thread and event, a refusal its number alone
abbrev pub number : Read → ℕ
number (Record w e) = answer.done
number (Refused n) = n

abbrev pub values : Read → Option (ℕ × Event)
values (Record w e) = some (w, e)
values (Refused n) = none

-- a reader by what an edition has of its own: the number of what its first bytes are refused by, or 0; the fields; whether the fixed bytes are 0
abbrev pub read_by : (marked : List ℕ → ℕ) (at : List ℕ → Fields) (zero : List ℕ → Bool) → List ℕ → Read
read_by marked at zero bs =
    cond (not (length bs == record_size)) (Refused answer.tape_length)
    (cond (not (marked bs == 0)) (Refused (marked bs)) (of_kind (at bs) (zero bs)))

-- the writer: number 10 for a buffer under 16 bytes, which stays; else the first 16 bytes
unfoldable pub write_answer : List ℕ → ℕ
write_answer buf = cond (nat_lt (length buf) record_size) answer.short_buffer answer.done

unfoldable pub write : ℕ → Event → List ℕ → List ℕ
write w e buf = cond (nat_lt (length buf) record_size) buf (sets buf 0 (bytes (fields_of w e)))

-- a writer by what an edition has of its own: the number of an event that it has no record for, or 0; the bytes of fields
abbrev pub write_answer_by : (no_record : ℕ → Event → ℕ) → ℕ → Event → List ℕ → ℕ
write_answer_by no_record w e buf = cond (no_record w e == 0) (write_answer buf) (no_record w e)

abbrev pub write_by : (no_record : ℕ → Event → ℕ) (to_bytes : Fields → List ℕ) → ℕ → Event → List ℕ → List ℕ
write_by no_record to_bytes w e buf = cond (write_answer_by no_record w e buf == 0) (sets buf 0 (to_bytes (fields_of w e))) buf
