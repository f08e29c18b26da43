-- A run is its steps: what it leaves is what the public step gives, event by event; what it counts, and what it answers. Proved in proofs/Steps.antt and proofs/Counts.antt.
use Rattle.std.specs.Prelude.{◌≡◌, Bool, true, false, ◌&&◌, ◌⊎◌, List, [], ◌∷◌, ◌++◌, ℕ, ◌+◌, ◌%◌, ◌/◌, ◌<◌, length, slice_index}
use Rattle.machine.specs.Valid.{valid}
use Rattle.step_rules.specs.Step.{Outcome, outcome, step}
use Rattle.step_rules.specs.Feed.{Fed, from, after, feed}
use Rattle.machine.specs.declared.Machine.{Machine}
use Rattle.event.specs.declared.Event.{Event}
use Rattle.tape.specs.Tape.{record_size, read, number, record_at}
use Rattle.tape.specs.FirstBad.{bad_record}
use Rattle.tape.specs.declared.Read.{Read}
use Rattle.tape.specs.declared.Read.TheVariants.{Record, Refused}
use Rattle.run_rules.specs.Run.{Result, refused, goes_on, reads, run}

-- the event of a record, if it is one
abbrev pub fed : Read → List Fed
fed (Record w e) = from w e ∷ []
fed (Refused n) = []

-- the events of records
unfoldable pub events : List Read → List Fed
events [] = []
events (r ∷ rs) = fed r ++ events rs

-- the machine and the memory after a run are those after exactly the records that it counts, fed to the step one by one
abbrev pub RunIsSteps : Type 0
RunIsSteps =
    (m : Machine) (mem tape : List ℕ)
    → ((run m mem tape).ended.machine ≡ (feed (events (reads tape 0 (run m mem tape).ended.count)) (outcome 0 m mem)).done.machine)
    × ((run m mem tape).memory ≡ (feed (events (reads tape 0 (run m mem tape).ended.count)) (outcome 0 m mem)).memory)

-- an event that stops a run has changed nothing
abbrev pub StopChangesNothing : Type 0
StopChangesNothing =
    (m : Machine) (mem : List ℕ) (w : ℕ) (e : Event) → goes_on (step m mem w e).done.answer ≡ false
    → ((step m mem w e).done.machine ≡ m) × ((step m mem w e).memory ≡ mem)

-- each event of a list goes on
unfoldable pub all_go : List Fed → Outcome → Bool
all_go [] o = true
all_go (f ∷ fs) o = goes_on (after o f).done.answer && all_go fs (after o f)

-- each record that a run counts is an event, and went on
abbrev pub CountedWent : Type 0
CountedWent =
    (m : Machine) (mem tape : List ℕ)
    → (length (events (reads tape 0 (run m mem tape).ended.count)) ≡ (run m mem tape).ended.count)
    × (all_go (events (reads tape 0 (run m mem tape).ended.count)) (outcome 0 m mem) ≡ true)

-- a record that ends a run with an answer: the reader refuses it by that number, or the step does
abbrev pub Stops : Read → Machine → List ℕ → ℕ → Type 0
Stops (Record w e) m mem n = ((step m mem w e).done.answer ≡ n) × (goes_on n ≡ false)
Stops (Refused k) m mem n = k ≡ n

-- the end of a run over n records: all are counted and the answer is 0, or the record behind those counted ends it
abbrev pub EndsAt : ℕ → List ℕ → Result → Type 0
EndsAt n tape r =
    ((r.ended.count ≡ n) × (r.ended.answer ≡ 0))
    ⊎ ((r.ended.count < n) × Stops (read (record_at tape r.ended.count)) r.ended.machine r.memory r.ended.answer)

-- so the run of a tape without a bad record stops at the first event that is refused, and at no other
abbrev pub EndsFirst : Type 0
EndsFirst =
    (m : Machine) (mem tape : List ℕ) → valid m (length mem) ≡ true → (bad_record tape).answer ≡ 0
    → EndsAt (length tape / record_size) tape (run m mem tape)

-- a bad record keeps the whole tape from being run: nothing changes, and number and index are those of the first one
abbrev pub BadRefused : Type 0
BadRefused =
    (m : Machine) (mem tape : List ℕ) → valid m (length mem) ≡ true → ((bad_record tape).answer ≡ 0 → ⊥)
    → run m mem tape ≡ refused (bad_record tape) m mem

-- where none is bad every record of the tape is one, so the run ends at no other
abbrev pub AllRecords : Type 0
AllRecords =
    (tape : List ℕ) → (bad_record tape).answer ≡ 0
    → (length tape % record_size ≡ 0) × ((k : ℕ) → k < length tape / record_size → number (read (record_at tape k)) ≡ 0)

-- the first bad record of a tape of whole records is one that the reader refuses by its number, and none before it is refused
abbrev pub FirstBad : Type 0
FirstBad =
    (tape : List ℕ) → length tape % record_size ≡ 0 → ((bad_record tape).answer ≡ 0 → ⊥)
    → ((bad_record tape).index < length tape / record_size)
    × (number (read (record_at tape (bad_record tape).index)) ≡ (bad_record tape).answer)
    × ((i : ℕ) → i < (bad_record tape).index → number (read (record_at tape i)) ≡ 0)

-- the answers of a run over n records: one for each, or one for each that is counted and one more, which is the run's
abbrev pub Answered : ℕ → Result → Type 0
Answered n r =
    ((r.ended.count ≡ n) × (length r.answers ≡ n))
    ⊎ ((r.ended.count < n) × (length r.answers ≡ r.ended.count + 1) × (slice_index r.answers r.ended.count ≡ r.ended.answer))

-- so a run has an answer for each record done and, where a record stopped it, that one's
abbrev pub OneAnswerEach : Type 0
OneAnswerEach =
    (m : Machine) (mem tape : List ℕ) → valid m (length mem) ≡ true → (bad_record tape).answer ≡ 0
    → Answered (length tape / record_size) (run m mem tape)
