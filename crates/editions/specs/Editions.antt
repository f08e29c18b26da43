-- The reader, the writer and the converter of an edition that the caller names (rules T8, T11, T12).
use Rattle.std.specs.Prelude.{ℕ, zero, suc, ◌/◌, ◌%◌, not, cond, List, [], ◌++◌, length, nat_lt, ◌==◌}
use Rattle.std.proofs.lemmas.List.Edits.{sets}
use Rattle.base.specs.Answers as answer
use Rattle.event.specs.Event.{kind, fields_of}
use Rattle.event.specs.declared.Event.{Event}
use Rattle.event.specs.declared.Fields.{Fields}
use Rattle.tape.specs.Tape as three
use Rattle.tape.specs.Tape.{record_size, record_at}
use Rattle.tape.specs.FirstBad.{found, first_bad}
use Rattle.tape.specs.declared.Found.{Found}
use Rattle.tape.specs.declared.Read.{Read}
use Rattle.tape.specs.declared.Read.TheVariants.{Record, Refused}
use Rattle.edition_two.specs.Two as two
use Rattle.editions.specs.declared.Edition.{Edition}
use Rattle.editions.specs.declared.Edition.TheVariants.{Two, Three}

abbrev pub other : Edition → Edition
other Two = Three
other Three = Two

unfoldable pub read : Edition → List ℕ → Read
read Two bs = two.read bs
read Three bs = three.read bs

unfoldable pub bytes : Edition → Fields → List ℕ
bytes Two f = two.bytes f
bytes Three f = three.bytes f

-- the number of an event that the edition has no record for: 3 for the thread, then 8 for the kind; else 0
unfoldable pub no_record : Edition → ℕ → Event → ℕ
no_record Two w e = cond (nat_lt two.last_thread w) answer.no_thread (cond (nat_lt two.last_kind (kind e)) answer.no_kind answer.done)
no_record Three w e = answer.done

-- the writer: that number, then 10 for a buffer under 16 bytes; the buffer stays, or has its first 16 bytes written
unfoldable pub write_answer : Edition → ℕ → Event → List ℕ → ℕ
write_answer d w e buf = cond (no_record d w e == 0) (three.write_answer buf) (no_record d w e)

unfoldable pub write : Edition → ℕ → Event → List ℕ → List ℕ
write d w e buf = cond (write_answer d w e buf == 0) (sets buf 0 (bytes d (fields_of w e))) buf

-- the number of a record that cannot be had in the other edition: its reader's, then the other writer's; else 0
abbrev pub turned_number : Edition → Read → ℕ
turned_number d (Record w e) = no_record (other d) w e
turned_number d (Refused n) = n

unfoldable pub number : Edition → List ℕ → ℕ
number d bs = turned_number d (read d bs)

-- a record in the other edition
abbrev pub turned_bytes : Edition → Read → List ℕ
turned_bytes d (Record w e) = bytes (other d) (fields_of w e)
turned_bytes d (Refused n) = []

unfoldable pub turned : Edition → List ℕ → List ℕ
turned d bs = turned_bytes d (read d bs)

-- the first n records in the other edition
unfoldable pub all_turned : Edition → List ℕ → ℕ → List ℕ
all_turned d tape zero = []
all_turned d tape (suc n) = all_turned d tape n ++ turned d (record_at tape n)

-- the converter: 6 with the number of whole records, 10 with 0, the first bad record, or 0 with the number of records
unfoldable pub convert_answer : Edition → List ℕ → List ℕ → Found
convert_answer d tape buf =
    cond (not ((length tape % record_size) == 0)) (found answer.tape_length (length tape / record_size))
    (cond (nat_lt (length buf) (length tape)) (found answer.short_buffer 0)
    (first_bad (number d) tape 0 (length tape / record_size)))

-- the second buffer: as it was, or with all records in its first bytes
unfoldable pub convert : Edition → List ℕ → List ℕ → List ℕ
convert d tape buf =
    cond ((convert_answer d tape buf).answer == 0) (sets buf 0 (all_turned d tape (length tape / record_size))) buf
