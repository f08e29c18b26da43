-- Laws of the records of a tape, in the words of the code's loop: a record that none refuses; one that stops the run, one after which it goes on, and the end.
use Rattle.std.proofs.Common.{◌≡◌, refl, sym, ap, ◌∙◌, true, false, List, [], ◌∷◌, ℕ, ◌+◌, ◌-◌, ◌/◌, ◌<◌, ◌≤◌, arith, length, set, get_or}
use Rattle.std.specs.Simd.{first_chunks}
use borrow.Author.Tests.{eq-eqb}
use lib.Dec.{eqb}
use Rattle.base.specs.Answers.{completion_number, refusal_number}
use Rattle.base.specs.declared.answer.Completion.{Completion}
use Rattle.base.specs.declared.answer.Completion.TheVariants.{Done, Handled, Recorded}
use Rattle.base.specs.declared.answer.Refusal.{Refusal}
use Rattle.base.specs.declared.answer.Refusal.TheVariants.{Size, NoMachine, NoThread, Operand, HostInT, TapeLength, BadFirstByte, NoKind, Field, ShortBuffer, FacilityOff, Privileged, BadThing}
use Rattle.event.specs.declared.Event.{Event}
use Rattle.machine.specs.Valid.{valid}
use Rattle.machine.specs.declared.Machine.{Machine}
use Rattle.step_rules.specs.Step.{Outcome, outcome, step}
use Rattle.tape.specs.Tape.{record_size, record_at, read, number}
use Rattle.tape.specs.FirstBad.{read_number, first_bad}
use Rattle.tape.specs.declared.Read.{Read}
use Rattle.tape.specs.declared.Read.TheVariants.{Record, Refused}
use Rattle.tape.proofs.FirstBad.{each_good, chunk_is}
use Rattle.tape.proofs.Laws.{refusal_number as refuses_by}
use Rattle.run_rules.specs.Inner.{filled}
use Rattle.run_rules.specs.Run as run
use Rattle.run_rules.specs.Run.{run_result, goes_on, reads, counted, one, play}
use Rattle.run_rules.proofs.Records.{is_counted, not_counted, uncounted, one_keeps, play_none, fills_stops, fills_goes}

-- a run stops at each refusal, and goes on after each completion
stops_after : (r : Refusal) → goes_on (refusal_number r) ≡ false
stops_after Size = refl
stops_after NoMachine = refl
stops_after NoThread = refl
stops_after Operand = refl
stops_after HostInT = refl
stops_after TapeLength = refl
stops_after BadFirstByte = refl
stops_after NoKind = refl
stops_after Field = refl
stops_after ShortBuffer = refl
stops_after FacilityOff = refl
stops_after Privileged = refl
stops_after BadThing = refl

goes_after : (c : Completion) → goes_on (completion_number c) ≡ true
goes_after Done = refl
goes_after Handled = refl
goes_after Recorded = refl

module _ (tape : List ℕ) (rs : List (List ℕ)) (is : rs ≡ first_chunks record_size (length tape / record_size) tape) (k : ℕ) (h : k < length tape / record_size) where
  chunk : get_or rs k [] ≡ record_at tape k
  chunk = ap (λ (l : List (List ℕ)). get_or l k []) is ∙ chunk_is tape (length tape / record_size) k h

  -- a record of a tape without a bad one
  pub record_good : (first_bad read_number tape 0 (length tape / record_size)).answer ≡ 0 → number (read (get_or rs k [])) ≡ 0
  record_good z = ap read_number chunk ∙ each_good read_number tape (length tape / record_size) k z h

  pub record_taken : (n : ℕ) → (first_bad read_number tape 0 (length tape / record_size)).answer ≡ 0 → read (get_or rs k []) ≡ Refused n → ⊥
  record_taken n z q =
      let p : n ≡ 0 = sym (ap number q) ∙ record_good z in
      refuses_by (get_or rs k []) (q ∙ ap Refused p)

  module _ (m m' : Machine) (mem mem' given : List ℕ) (w : ℕ) (e : Event) (taken : read (get_or rs k []) ≡ Record w e) where
    abbrev turn : run.Result
    turn = one (read (record_at tape k)) m mem k

    -- the machine stays valid
    pub still_valid : (n : ℕ) → outcome n m' mem' ≡ step m mem w e → valid m (length mem) ≡ true → valid m' (length mem') ≡ true
    unfolding one counted
    still_valid n o v = ap (λ (x : Outcome). valid x.done.machine (length x.memory)) o ∙ (one_keeps (Record w e) m mem k v).1

    turned : (n : ℕ) → outcome n m' mem' ≡ step m mem w e → turn ≡ counted (outcome n m' mem') k
    unfolding one
    turned n o = ap (λ (r : Read). one r m mem k) (ap read (sym chunk) ∙ taken) ∙ ap (λ (x : Outcome). counted x k) (sym o)

    -- what a record's answer leaves in the buffer is whole
    pub stops_here : (r : Refusal) (n n' : ℕ) (us : List ℕ) (whole : run.Result) → outcome (refusal_number r) m' mem' ≡ step m mem w e
        → filled given k (play (reads tape k (length tape / record_size - k)) k m mem) ≡ whole
        → n ≡ refusal_number r → n' ≡ refusal_number r → us ≡ set given k n'
        → ◌≡◌ {A = run.Result} (record { ended = record { answer = n; count = k; index = k; machine = m' }; memory = mem'; answers = us }) whole
    stops_here r x y us whole o rest p q u =
        let n = refusal_number r in
        let t : turn ≡ run_result n k m' mem' (n ∷ []) = turned n o ∙ not_counted (outcome n m' mem') k (stops_after r) in
        (λ j. record { ended = record { answer = p j; count = k; index = k; machine = m' }; memory = mem'; answers = (u ∙ ap (set given k) q) j })
        ∙ sym (fills_stops tape k m mem given (length tape / record_size - k) (omega (arith, h)) (ap (λ (x : run.Result). eqb x.ended.count k) t ∙ eq-eqb k k refl)
        ∙ (λ j. record { ended = (t j).ended; memory = (t j).memory; answers = set given k (t j).ended.answer }))
        ∙ rest

    pub goes_on_here : (c : Completion) (n : ℕ) (us : List ℕ) (whole : run.Result) → outcome (completion_number c) m' mem' ≡ step m mem w e
        → filled given k (play (reads tape k (length tape / record_size - k)) k m mem) ≡ whole
        → n ≡ completion_number c → us ≡ set given k n
        → filled us (k + 1) (play (reads tape (k + 1) (length tape / record_size - (k + 1))) (k + 1) m' mem') ≡ whole
    goes_on_here c x us whole o rest q u =
        let n = completion_number c in
        let t : turn ≡ run_result n (k + 1) m' mem' (n ∷ []) = turned n o ∙ is_counted (outcome n m' mem') k (goes_after c) in
        let l : length tape / record_size - k - 1 ≡ length tape / record_size - (k + 1) = omega arith in
        (λ j. filled ((u ∙ ap (set given k) q) j) (k + 1) (play (reads tape (k + 1) (length tape / record_size - (k + 1))) (k + 1) m' mem'))
        ∙ sym (fills_goes tape k m mem given (length tape / record_size - k) (omega (arith, h)) (ap (λ (x : run.Result). eqb x.ended.count k) t ∙ uncounted true k)
        ∙ (λ j. filled (set given k (t j).ended.answer) (k + 1) (play (reads tape (k + 1) (l j)) (k + 1) (t j).ended.machine (t j).memory)))
        ∙ rest

-- behind the last record
pub all_done : (tape : List ℕ) (k n : ℕ) (m : Machine) (mem given : List ℕ) (whole : run.Result) → n ≡ length tape / record_size → n ≤ k → k ≤ n
    → filled given k (play (reads tape k (length tape / record_size - k)) k m mem) ≡ whole
    → ◌≡◌ {A = run.Result} (record { ended = record { answer = 0; count = n; index = n; machine = m }; memory = mem; answers = given }) whole
all_done tape k n m mem given whole q lo hi rest =
    let e : n ≡ k = omega (arith, lo, hi) in
    (λ j. run_result 0 (e j) m mem given) ∙ sym (ap (filled given k) (play_none tape k m mem (length tape / record_size - k) (omega arith))) ∙ rest

pub ruleset turns = (record_good, record_taken, still_valid, stops_here, goes_on_here, all_done)
