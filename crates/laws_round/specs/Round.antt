-- What is promised of a record written and read back, and read and written back, over any layout and by the tape's reader and writer; and of
-- the reader's numbers. Proved in proofs/Round.antt.
use Rattle.std.specs.Prelude.{◌≡◌, Bool, true, not, cond, ◌&&◌, List, [], ◌∷◌, ℕ, ◌≤◌, ◌<◌, ◌^◌, length, take, drop, nat_lt, ◌==◌}
use Rattle.std.proofs.Math.Option.{some, none}
use Rattle.std.proofs.lemmas.List.Edits.{sets}
use Rattle.kinds.specs.Rows.{kind_right, row}
use Rattle.event.specs.Event.{fields_of, event_of}
use Rattle.event.specs.declared.Event.{Event}
use Rattle.event.specs.declared.Event.TheVariants.{Std}
use Rattle.event.specs.declared.Fields.{Fields}
use Rattle.tape.specs.Tape.{record_size, first_byte, byte, fields_at, fixed_zero, unused_clear, of_kind, read, number, values, write}
use Rattle.tape.specs.declared.Read.TheVariants.{Record}

-- ---- values that fit their types

-- a byte each, an index of 32 bits, an SI of 16
pub record FieldsFit (f : Fields) : Type 0 where
  pub kind : f.kind < 256
  pub thread : f.thread < 256
  pub x : f.x < 256
  pub ra : f.ra < 256
  pub rb : f.rb < 256
  pub flags : f.flags < 256
  pub index : f.index < 2 ^ 32
  pub si : f.si < 2 ^ 16

-- a list of bytes; what lies past its end is read as 0
abbrev pub Bytes : List ℕ → Type 0
Bytes bs = (n : ℕ) → byte bs n < 256

-- ---- fields and events, whatever the layout

-- the fields of an event are of a right kind, clear where its row has no use, and its own
abbrev pub EventKept : Type 0
EventKept =
    (w : ℕ) (e : Event)
    → (kind_right (fields_of w e).kind ≡ true) × (unused_clear (row (fields_of w e).kind) (fields_of w e) ≡ true) × (event_of (fields_of w e) ≡ e)

-- fields of a right kind that are clear where its row has no use are those of their event
abbrev pub FieldsKept : Type 0
FieldsKept =
    (f : Fields) → kind_right f.kind ≡ true → unused_clear (row f.kind) f ≡ true → fields_of f.thread (event_of f) ≡ f

-- ---- any layout

-- how fields stand in bytes: takes says that the layout has a record for the fields, accepts that what marks a record of it is right, and
-- the fixed bytes
pub record Layout : Type 0 where
  pub size : ℕ
  pub to_bytes : Fields → List ℕ
  pub of_bytes : List ℕ → Fields
  pub takes : Fields → Bool
  pub accepts : List ℕ → Bool
  pub sized : (f : Fields) → length (to_bytes f) ≡ size
  pub accepted : (f : Fields) → takes f ≡ true → accepts (to_bytes f) ≡ true
  pub took : (bs : List ℕ) → accepts bs ≡ true → takes (of_bytes bs) ≡ true
  pub fits : (bs : List ℕ) → Bytes bs → FieldsFit (of_bytes bs)
  pub fields_back : (f : Fields) → FieldsFit f → of_bytes (to_bytes f) ≡ f
  pub bytes_back : (bs : List ℕ) → Bytes bs → length bs ≡ size → accepts bs ≡ true → to_bytes (of_bytes bs) ≡ bs

-- bytes that a layout's reader takes, and the thread and the event that they mean
abbrev pub Means : Layout → List ℕ → ℕ → Event → Type 0
Means l bs w e = (length bs ≡ l.size) × (l.accepts bs ≡ true) × (of_kind (l.of_bytes bs) true ≡ Record w e)

-- what a layout's writer leaves in a buffer
abbrev pub laid : Layout → ℕ → Event → List ℕ → List ℕ
laid l w e buf = cond (nat_lt (length buf) l.size) buf (sets buf 0 (l.to_bytes (fields_of w e)))

-- every event whose fields fit, and which has a record, is read where it was written
abbrev pub LayoutReadsWritten : Type 0
LayoutReadsWritten =
    (l : Layout) (w : ℕ) (e : Event) (buf : List ℕ) → l.size ≤ length buf → FieldsFit (fields_of w e) → l.takes (fields_of w e) ≡ true
    → Means l (take l.size (laid l w e buf)) w e

-- every record that is read is written as it was, whatever stood in the buffer
abbrev pub LayoutWritesRead : Type 0
LayoutWritesRead =
    (l : Layout) (bs : List ℕ) (w : ℕ) (e : Event) (buf : List ℕ) → Bytes bs → Means l bs w e → l.size ≤ length buf
    → take l.size (laid l w e buf) ≡ bs

-- one meaning has one record
abbrev pub LayoutOneRecord : Type 0
LayoutOneRecord =
    (l : Layout) (bs cs : List ℕ) (w : ℕ) (e : Event) → Bytes bs → Bytes cs → Means l bs w e → Means l cs w e → bs ≡ cs

-- a record of one layout that has one in another means the same there, and turned back it is the bytes that it was
abbrev pub LayoutTurned : Type 0
LayoutTurned =
    (l k : Layout) (bs : List ℕ) (w : ℕ) (e : Event) → Bytes bs → Means l bs w e → k.takes (fields_of w e) ≡ true
    → Means k (k.to_bytes (fields_of w e)) w e × (l.takes (fields_of w e) ≡ true) × (l.to_bytes (fields_of w e) ≡ bs)

-- nothing behind the record is touched
abbrev pub LayoutKeepsRest : Type 0
LayoutKeepsRest =
    (l : Layout) (w : ℕ) (e : Event) (buf : List ℕ)
    → (length (laid l w e buf) ≡ length buf) × (drop l.size (laid l w e buf) ≡ drop l.size buf)

-- ---- the tape's layout: its reader and its writer

abbrev pub accepts : List ℕ → Bool
accepts bs = (byte bs 0 == first_byte) && fixed_zero bs

-- the first 16 bytes after the writer are read as what was written
abbrev pub ReadsWritten : Type 0
ReadsWritten =
    (w : ℕ) (e : Event) (buf : List ℕ) → record_size ≤ length buf → FieldsFit (fields_of w e)
    → read (take record_size (write w e buf)) ≡ Record w e

-- writing what was read leaves exactly those bytes in the first 16, whatever stood there
abbrev pub WritesRead : Type 0
WritesRead =
    (bs : List ℕ) (w : ℕ) (e : Event) (buf : List ℕ) → Bytes bs → read bs ≡ Record w e → record_size ≤ length buf
    → take record_size (write w e buf) ≡ bs

-- so writing it over itself changes nothing
abbrev pub WritesOver : Type 0
WritesOver = (bs : List ℕ) (w : ℕ) (e : Event) → Bytes bs → read bs ≡ Record w e → write w e bs ≡ bs

-- everything behind the 16th byte stays
abbrev pub KeepsRest : Type 0
KeepsRest =
    (w : ℕ) (e : Event) (buf : List ℕ)
    → (length (write w e buf) ≡ length buf) × (drop record_size (write w e buf) ≡ drop record_size buf)

-- one meaning has one record
abbrev pub OneRecord : Type 0
OneRecord =
    (bs cs : List ℕ) (w : ℕ) (e : Event) → Bytes bs → Bytes cs → read bs ≡ Record w e → read cs ≡ Record w e → bs ≡ cs

-- the record of rule T5, byte for byte
abbrev pub PaperRecord : Type 0
PaperRecord =
    (buf : List ℕ) → record_size ≤ length buf
    → take record_size (write 0 (Std 3 17) buf) ≡ 0xE3 ∷ 0x0D ∷ 0 ∷ 0 ∷ 3 ∷ 0 ∷ 0 ∷ 0 ∷ 0 ∷ 0 ∷ 0 ∷ 0x11 ∷ 0 ∷ 0 ∷ 0 ∷ 0 ∷ []

-- ---- the reader's numbers

-- the first of 6, 7, 8, 9 whose test fails, or 0
abbrev pub first_number : List ℕ → ℕ
first_number bs =
    cond (not (length bs == record_size)) 6
    (cond (not (byte bs 0 == first_byte)) 7
    (cond (not (kind_right (byte bs 1))) 8
    (cond (not (fixed_zero bs && unused_clear (row (byte bs 1)) (fields_at bs))) 9
    0)))

abbrev pub NumbersInOrder : Type 0
NumbersInOrder = (bs : List ℕ) → number (read bs) ≡ first_number bs

-- a record that is 0 has one meaning, the thread and the event of its fields; any other has none
abbrev pub OneMeaning : Type 0
OneMeaning =
    (bs : List ℕ) → values (read bs) ≡ cond (number (read bs) == 0) (some (byte bs 2, event_of (fields_at bs))) none

-- a record of edition two begins with its thread, 0 to 3, and is refused by 7
abbrev pub EditionTwo : Type 0
EditionTwo = (bs : List ℕ) → length bs ≡ record_size → byte bs 0 < 4 → number (read bs) ≡ 7
