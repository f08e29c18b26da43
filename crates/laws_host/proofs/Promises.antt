-- What is refused changes nothing; every event has fields; fields written and read back, and read and written back.
use mathlib.Core.Path.{◌≡◌, refl, ap, ◌∙◌}
use mathlib.Core.Bool.{Bool, true, false, not, ◌&&◌, ◌||◌}
use mathlib.Core.List.{List, [], ◌∷◌}
use Prim.Native.Nat.{ℕ, zero, suc, ◌+◌, ◌*◌, ◌/◌, ◌%◌, ◌^◌, ◌≤◌, ◌<◌}
use native.Mathlib.Omega.{arith}
use lib.Dec.{eqb, ltb}
use lib.ListN.{length, take, drop, get_or}
use borrow.Author.Tests.{ltb-false, le-ltb}
use Rattle.base.specs.Below.{bit}
use Rattle.base.specs.Limits.{most_threads}
use Rattle.base.proofs.Below.{no_number}
use Rattle.event.specs.declared.Fields.{Fields}
use Rattle.machine.specs.Valid.{sized}
use Rattle.machine.specs.declared.Machine.{Machine}
use Rattle.step_rules.specs.Step as events
use Rattle.step_rules.specs.declared.Done.{Done}
use Rattle.tape.specs.Tape as tape
use Rattle.tape.specs.declared.Read.{Read}
use Rattle.tape.specs.declared.Read.TheVariants.{Record, Refused}
use Rattle.laws_round.specs.Round.{FieldsFit, Bytes}
use Rattle.laws_round.proofs.Round.{written, taken_kept, reads_written, writes_read, keeps_rest, of_kind_meant, one_meaning, not_0}
use Rattle.run_rules.specs.Run.{goes_on}
use Rattle.laws_run.proofs.Steps as steps
use Rattle.crossing.specs.Crossing.{right, machine_of}
use Rattle.crossing.specs.declared.RawMachine.{RawMachine}
use Rattle.laws_host.proofs.Crosses.{back}
use Rattle.host_rules.specs.Failed.{live, fails, failed}
use Rattle.host_rules.specs.Host as host
use Rattle.host_rules.specs.Host.{number, met, outcome, event_read, step, run, record_of, read, write_answer_of, write_answer, write}
use Rattle.laws_host.specs.Promises.{NoMachine, StopChangesNothing, FailedEach, EventCrosses, ReadsWritten, WritesRead, KeepsRest}

two : (m : RawMachine) (len : ℕ) → right m ≡ false → sized (machine_of m) len ≡ true → number m len ≡ 2
unfolding number
two m len broken fits = simp (broken, fits)

no_machine_met : (f : Fields) (m : RawMachine) (mem : List ℕ) → right m ≡ false → number m (length mem) ≡ 2 → (r : Read) → met f r m mem ≡ outcome 2 m mem
no_machine_met f m mem broken n (Refused k) = simp n
no_machine_met f m mem broken n (Record w e) = simp (broken, n)

pub no_machine : NoMachine
unfolding step run
no_machine m mem broken fits =
    let n = two m (length mem) broken fits in
    ((λ f. no_machine_met f m mem broken n (event_read f)), (λ bytes. simp (broken, n)))

-- an answer that a run does not go on after is not 20
not_handled : (a b c : Bool) → (a || b || c) ≡ false → b ≡ false
not_handled true true c p = p
not_handled false true c p = p
not_handled a false c p = refl

-- a machine that stays fails no thread whose failure was not handled
none_ended : (b : Bool) → (b && not b) ≡ false
none_ended true = refl
none_ended false = refl

not_false : (b : Bool) → (b && false) ≡ false
not_false true = refl
not_false false = refl

none_failed : (f : Fields) (m : Machine) (d : Done) → goes_on d.answer ≡ false → d.machine ≡ m → failed f m d ≡ 0
unfolding failed
none_failed f m d h e =
    let z = not_handled (eqb d.answer 0) (eqb d.answer 20) (eqb d.answer 21) h in
    simp (e, z, none_ended (live m 0), none_ended (live m 1), none_ended (live m 2), none_ended (live m 3), not_false (eqb f.thread 0), not_false (eqb f.thread 1), not_false (eqb f.thread 2), not_false (eqb f.thread 3))

-- by whether the bits are a machine's
met_stops : (f : Fields) (m : RawMachine) (mem : List ℕ) (r : Read) (b : Bool) → right m ≡ b → length m.threads ≡ most_threads
    → goes_on (met f r m mem).done.answer ≡ false
    → ((met f r m mem).done.machine ≡ m) × ((met f r m mem).memory ≡ mem) × ((met f r m mem).done.failed ≡ 0)
met_stops f m mem (Refused k) b p four h = (refl, refl, refl)
met_stops f m mem (Record w e) false p four h = (simp p, simp p, simp p)
met_stops f m mem (Record w e) true p four h =
    let g = rw p at h in
    let s = steps.stop_changes_nothing (machine_of m) mem w e g in
    (simp (p, s.0, back m four p), simp (p, s.1), simp p (none_failed f (machine_of m) (events.step (machine_of m) mem w e).done g s.0))

pub stop_changes_nothing : StopChangesNothing
unfolding step
stop_changes_nothing m mem f four h = met_stops f m mem (event_read f) (right m) refl four h

-- ---- the threads that failed

-- what holds of each of the four threads holds of every thread
one_of_four : (P : ℕ → Type 0) → P 0 → P 1 → P 2 → P 3 → (v : ℕ) → v < most_threads → P v
one_of_four P a b c d zero h = a
one_of_four P a b c d (suc zero) h = b
one_of_four P a b c d (suc (suc zero)) h = c
one_of_four P a b c d (suc (suc (suc zero))) h = d
one_of_four P a b c d (suc (suc (suc (suc v)))) h = absurd (omega arith)

-- four bits of a number
bits : (a b c d : Bool) → (v : ℕ) → v < most_threads → (bit a + 2 * bit b + 4 * bit c + 8 * bit d) / 2 ^ v % 2 ≡ bit (get_or (a ∷ b ∷ c ∷ d ∷ []) v false)
bits true true true true = one_of_four _ refl refl refl refl
bits true true true false = one_of_four _ refl refl refl refl
bits true true false true = one_of_four _ refl refl refl refl
bits true true false false = one_of_four _ refl refl refl refl
bits true false true true = one_of_four _ refl refl refl refl
bits true false true false = one_of_four _ refl refl refl refl
bits true false false true = one_of_four _ refl refl refl refl
bits true false false false = one_of_four _ refl refl refl refl
bits false true true true = one_of_four _ refl refl refl refl
bits false true true false = one_of_four _ refl refl refl refl
bits false true false true = one_of_four _ refl refl refl refl
bits false true false false = one_of_four _ refl refl refl refl
bits false false true true = one_of_four _ refl refl refl refl
bits false false true false = one_of_four _ refl refl refl refl
bits false false false true = one_of_four _ refl refl refl refl
bits false false false false = one_of_four _ refl refl refl refl

pub failed_each : FailedEach
unfolding failed
failed_each f m d v h = bits (fails f m d 0) (fails f m d 1) (fails f m d 2) (fails f m d 3) v h ∙ ap bit (one_of_four (λ v. get_or (fails f m d 0 ∷ fails f m d 1 ∷ fails f m d 2 ∷ fails f m d 3 ∷ []) v false ≡ fails f m d v) refl refl refl refl v h)

pub event_crosses : EventCrosses
event_crosses = written

-- ---- one record

long : (buf : List ℕ) → tape.write_answer buf ≡ 0 → tape.record_size ≤ length buf
unfolding tape.write_answer
long buf z = ltb-false (length buf) tape.record_size (no_number (ltb (length buf) tape.record_size) 9 0 z).0

-- by what the fields are judged to be
read_back : (f : Fields) (buf : List ℕ) → FieldsFit f → (r : Read) → event_read f ≡ r → write_answer_of r buf ≡ 0
    → record_of (tape.read (take tape.record_size (host.written r buf))) ≡ record { answer = 0; event = f }
read_back f buf fits (Record w e) p z =
    let k = taken_kept f w e p in
    ap record_of (reads_written w e buf (long buf z) (rw k fits)) ∙ (λ j. record { answer = 0; event = k j })
read_back f buf fits (Refused n) p z = absurd (not_0 _ (event_read f) n (of_kind_meant f true) p z)

pub host_reads_written : ReadsWritten
unfolding read write_answer write
host_reads_written f buf fits z = read_back f buf fits (event_read f) refl z

-- by what the bytes are read as
write_back : (bs buf : List ℕ) → Bytes bs → tape.record_size ≤ length buf → (r : Read) → tape.read bs ≡ r → (record_of r).answer ≡ 0
    → (write_answer_of (event_read (record_of r).event) buf ≡ 0)
    × (take tape.record_size (host.written (event_read (record_of r).event) buf) ≡ bs)
unfolding tape.write_answer
write_back bs buf h l (Record w e) p z =
    let q = written w e in
    (simp (q, le-ltb (length buf) tape.record_size l), rw q (writes_read bs w e buf h p l))
write_back bs buf h l (Refused n) p z = absurd (not_0 _ (tape.read bs) n (one_meaning bs) p z)

pub host_writes_read : WritesRead
unfolding read write_answer write
host_writes_read bs buf h z l = write_back bs buf h l (tape.read bs) refl z

rest_kept : (r : Read) (buf : List ℕ)
    → (length (host.written r buf) ≡ length buf) × (drop tape.record_size (host.written r buf) ≡ drop tape.record_size buf)
rest_kept (Record w e) buf = keeps_rest w e buf
rest_kept (Refused n) buf = (refl, refl)

pub host_keeps_rest : KeepsRest
unfolding write
host_keeps_rest f buf = rest_kept (event_read f) buf
