-- Edition two of the tape as a host calls it (rule H9): the reader and the writer, on plain numbers.
use Rattle.std.specs.Prelude.{ℕ, List}
use Rattle.event.specs.declared.Fields.{Fields}
use Rattle.tape.specs.declared.Read.{Read}
use Rattle.tape.specs.declared.Read.TheVariants.{Record, Refused}
use Rattle.editions.specs.Editions as editions
use Rattle.editions.specs.declared.Edition.TheVariants.{Two}
use Rattle.host_rules.specs.Host.{event_read, record_of}
use Rattle.host_rules.specs.declared.RawRecord.{RawRecord}

unfoldable pub read : List ℕ → RawRecord
read bytes = record_of (editions.read Two bytes)

-- fields that are no event are refused by 8 or 9 before the writer tests its own
abbrev pub write_answer_of : Read → List ℕ → ℕ
write_answer_of (Record w e) buf = editions.write_answer Two w e buf
write_answer_of (Refused n) buf = n

abbrev pub written : Read → List ℕ → List ℕ
written (Record w e) buf = editions.write Two w e buf
written (Refused n) buf = buf

unfoldable pub write_answer : Fields → List ℕ → ℕ
write_answer f buf = write_answer_of (event_read f) buf

unfoldable pub write : Fields → List ℕ → List ℕ
write f buf = written (event_read f) buf
