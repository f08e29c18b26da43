-- One record of edition two (rules T9 and T10): its layout and its reader.
use Rattle.std.specs.Prelude.{ℕ, ◌/◌, ◌%◌, Bool, not, cond, ◌&&◌, List, [], ◌∷◌, length, nat_le, nat_lt, ◌==◌}
use Rattle.base.specs.Answers as answer
use Rattle.event.specs.Event.{kind}
use Rattle.event.specs.declared.Event.{Event}
use Rattle.event.specs.declared.Fields.{Fields}
use Rattle.tape.specs.Tape.{record_size, byte, two, four, of_kind}
use Rattle.tape.specs.declared.Read.{Read}
use Rattle.tape.specs.declared.Read.TheVariants.{Refused}

-- the last thread and the last kind that this edition has, whatever kinds are added later; src/lib.rt has the same numbers for the code
abbrev pub last_thread : ℕ
last_thread = 3

abbrev pub last_kind : ℕ
last_kind = 17

-- thread, kind, X, RA, RB, flags, SI in two bytes and index in four, both lowest first, 0, 0, 0, 0
unfoldable pub fields_at : List ℕ → Fields
fields_at bs =
    record {
      kind = byte bs 1;
      thread = byte bs 0;
      x = byte bs 2;
      ra = byte bs 3;
      rb = byte bs 4;
      flags = byte bs 5;
      index = four (byte bs 11) (byte bs 10) (byte bs 9) (byte bs 8);
      si = two (byte bs 7) (byte bs 6);
    }

abbrev pub fixed_zero : List ℕ → Bool
fixed_zero bs = (byte bs 12 == 0) && (byte bs 13 == 0) && (byte bs 14 == 0) && (byte bs 15 == 0)

-- number 7 or 8, or 0
abbrev pub marked : List ℕ → ℕ
marked bs = cond (nat_le (byte bs 0) last_thread) (cond (nat_le (byte bs 1) last_kind) answer.done answer.no_kind) answer.bad_first_byte

-- the number of an event that the edition has no record for: 3 for the thread, then 8 for the kind; else 0
abbrev pub no_record : ℕ → Event → ℕ
no_record w e = cond (nat_lt last_thread w) answer.no_thread (cond (nat_lt last_kind (kind e)) answer.no_kind answer.done)

unfoldable pub bytes : Fields → List ℕ
bytes f =
    f.thread ∷ f.kind ∷ f.x ∷ f.ra ∷ f.rb ∷ f.flags ∷ f.si % 256 ∷ f.si / 256 % 256
    ∷ f.index % 256 ∷ f.index / 256 % 256 ∷ f.index / 256 / 256 % 256 ∷ f.index / 256 / 256 / 256 % 256
    ∷ 0 ∷ 0 ∷ 0 ∷ 0 ∷ []

-- the reader: the numbers 6, 7, 8, 9 in their order, or the thread and the event
unfoldable pub read : List ℕ → Read
read bs =
    cond (not (length bs == record_size)) (Refused answer.tape_length)
    (cond (not (nat_le (byte bs 0) last_thread)) (Refused answer.bad_first_byte)
    (cond (not (nat_le (byte bs 1) last_kind)) (Refused answer.no_kind)
    (of_kind (fields_at bs) (fixed_zero bs))))
