-- What is promised of the two editions of the tape (rules T8 to T13): round trips of a record in each, conversion there and back, a tape of the
-- other edition, and a converted tape that is run. Proved in proofs/Promises.antt.
use Rattle.std.specs.Prelude.{◌≡◌, true, not, cond, List, [], ◌∷◌, ℕ, zero, suc, ◌+◌, ◌/◌, ◌%◌, ◌≤◌, ◌<◌, length, take, drop, ◌==◌}
use Rattle.event.specs.Event.{fields_of}
use Rattle.event.specs.declared.Event.{Event}
use Rattle.tape.specs.Tape.{record_size, first_byte, byte, record_at, number}
use Rattle.tape.specs.FirstBad.{found}
use Rattle.tape.specs.declared.Read.{Read}
use Rattle.tape.specs.declared.Read.TheVariants.{Record}
use Rattle.edition_two.specs.Two.{last_thread}
use Rattle.editions.specs.Editions.{other, read, write_answer, write, convert_answer, convert}
use Rattle.editions.specs.declared.Edition.{Edition}
use Rattle.editions.specs.declared.Edition.TheVariants.{Two, Three}
use Rattle.laws_round.specs.Round.{FieldsFit, Bytes}
use Rattle.machine.specs.Valid.{valid, machine_number}
use Rattle.machine.specs.declared.Machine.{Machine}
use Rattle.run_rules.specs.Run.{refused, play, run}

-- ---- one record, in either edition

-- what the writer wrote is read as what was written
abbrev pub ReadsWritten : Type 0
ReadsWritten =
    (d : Edition) (w : ℕ) (e : Event) (buf : List ℕ) → write_answer d w e buf ≡ 0 → FieldsFit (fields_of w e)
    → read d (take record_size (write d w e buf)) ≡ Record w e

-- what is read is written as it was, whatever stood in the buffer
abbrev pub WritesRead : Type 0
WritesRead =
    (d : Edition) (bs : List ℕ) (w : ℕ) (e : Event) (buf : List ℕ) → Bytes bs → read d bs ≡ Record w e → record_size ≤ length buf
    → (write_answer d w e buf ≡ 0) × (take record_size (write d w e buf) ≡ bs)

-- one meaning has one record
abbrev pub OneRecord : Type 0
OneRecord =
    (d : Edition) (bs cs : List ℕ) (w : ℕ) (e : Event) → Bytes bs → Bytes cs → read d bs ≡ Record w e → read d cs ≡ Record w e → bs ≡ cs

-- everything behind the 16th byte stays
abbrev pub KeepsRest : Type 0
KeepsRest =
    (d : Edition) (w : ℕ) (e : Event) (buf : List ℕ)
    → (length (write d w e buf) ≡ length buf) × (drop record_size (write d w e buf) ≡ drop record_size buf)

-- ---- a tape, either way

-- everything behind the converted records stays
abbrev pub KeepsPast : Type 0
KeepsPast =
    (d : Edition) (tape buf : List ℕ)
    → (length (convert d tape buf) ≡ length buf) × (drop (length tape) (convert d tape buf) ≡ drop (length tape) buf)

-- each record of a tape that was converted means in the other edition what it meant
abbrev pub SameEvents : Type 0
SameEvents =
    (d : Edition) (tape buf : List ℕ) → Bytes tape → (convert_answer d tape buf).answer ≡ 0 → (k : ℕ) → k < length tape / record_size
    → read (other d) (record_at (convert d tape buf) k) ≡ read d (record_at tape k)

-- converted there and back a tape is the bytes that it was
abbrev pub ThereAndBack : Type 0
ThereAndBack =
    (d : Edition) (tape buf back : List ℕ) → Bytes tape → (convert_answer d tape buf).answer ≡ 0 → length tape ≤ length back
    → (convert_answer (other d) (take (length tape) (convert d tape buf)) back ≡ found 0 (length tape / record_size))
    × (take (length tape) (convert (other d) (take (length tape) (convert d tape buf)) back) ≡ tape)

-- how a tape of an edition begins
abbrev pub Begins : Edition → List ℕ → Type 0
Begins Two tape = byte tape 0 ≤ last_thread
Begins Three tape = byte tape 0 ≡ first_byte

-- a tape of the other edition is refused by 7 at its first record, by the reader and by the converter, unless it is empty or ragged
abbrev pub OtherRefused : Type 0
OtherRefused =
    (d : Edition) (tape buf : List ℕ) → Begins (other d) tape → 0 < length tape → length tape % record_size ≡ 0
    → (number (read d (record_at tape 0)) ≡ 7) × (length tape ≤ length buf → convert_answer d tape buf ≡ found 7 0)

-- so a tape of edition two that is run as one of edition three is refused by 7 at its first record, and nothing of it is run
abbrev pub TwoNotRun : Type 0
TwoNotRun =
    (m : Machine) (mem tape : List ℕ) → valid m (length mem) ≡ true → Begins Two tape → 0 < length tape → length tape % record_size ≡ 0
    → run m mem tape ≡ refused (found 7 0) m mem

-- what a reader answers for n records of a tape, from record k on
unfoldable pub reads : Edition → List ℕ → ℕ → ℕ → List Read
reads d tape k zero = []
reads d tape k (suc n) = read d (record_at tape k) ∷ reads d tape (k + 1) n

-- a tape of edition two that was converted runs as its own events do
abbrev pub Replays : Type 0
Replays =
    (m : Machine) (mem tape buf : List ℕ) → Bytes tape → (convert_answer Two tape buf).answer ≡ 0
    → run m mem (take (length tape) (convert Two tape buf))
    ≡ cond (not (machine_number m (length mem) == 0)) (refused (found (machine_number m (length mem)) 0) m mem) (play (reads Two tape 0 (length tape / record_size)) 0 m mem)
