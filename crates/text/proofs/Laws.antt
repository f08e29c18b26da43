-- Laws of the text: that the fresh machine is valid, what its run of an input answers and how many, and how long the text is.
use mathlib.Core.Path.{◌≡◌, refl, sym, ap, subst, ◌∙◌}
use mathlib.Core.Bool.{Bool, true, false, not, cond, ◌&&◌, ◌||◌}
use mathlib.Core.Logic.{◌⊎◌, inl, inr, ⊎_elim}
use mathlib.Core.List.{List, ◌++◌}
use Prim.Native.Nat.{ℕ, zero, suc, ◌+◌, ◌/◌, ◌%◌, ◌≤◌, ◌<◌}
use native.Mathlib.Omega.{arith}
use borrow.Author.Tests.{lt-ltb, le-ltb, le-leb, lt-leb, both_ways, eq-eqb, ne_eqb, eqb-true, ltb-false, not-false}
use lib.Dec.{eqb, leb, ltb}
use lib.ListN.{length, take, replicate, length-append}
use lib.Seq.{sets}
use Rattle.base.specs.Below.{all_below, any_below}
use Rattle.base.specs.Limits.{most_memory}
use Rattle.base.proofs.Below.{fork}
use Rattle.lines.specs.Lines as lineset
use Rattle.transaction.specs.Transaction as transaction
use Rattle.event.specs.declared.Event.{Event}
use Rattle.machine.specs.Machine.{thread, fresh, fresh_thread, fresh_memory}
use Rattle.machine.specs.Valid as valid
use Rattle.machine.specs.declared.Machine.{Machine}
use Rattle.kinds.specs.Rows.{kind_right, row}
use Rattle.tape.specs.Tape.{record_size, first_byte, byte, fields_at, fixed_zero, unused_clear, record_at, read, number, of_kind, judged}
use Rattle.tape.specs.FirstBad.{read_number, first_bad, bad_record}
use Rattle.tape.specs.declared.Found.{Found}
use Rattle.tape.specs.declared.Read.{Read}
use Rattle.tape.specs.declared.Read.TheVariants.{Record, Refused}
use Rattle.event.specs.Event.{kind, operands_right, tm_instruction}
use Rattle.step_rules.specs.Refusal.{host_in_t, off, forbidden, bad_thing, turned_down, refused_there, refused_later, refusal}
use Rattle.step_rules.specs.Step.{step}
use Rattle.run_rules.specs.Run.{Result, goes_on, run}
use Rattle.run_rules.specs.declared.Ended.{Ended}
use Rattle.laws_run.specs.Steps.{Stops, Answered}
use Rattle.laws_run.proofs.Counts.{ends_first, one_answer_each, bad_refused, all_records}
use Rattle.laws_run.proofs.Steps.{stop_refused}
use Rattle.text_lines.specs.Inner.{most_records}
use Rattle.text_lines.specs.Lines.{longest, long, bad_line, end_line, lines}
use Rattle.text_lines.proofs.Laws.{read_back, bad_line_fits, end_line_fits, lines_fit}
use Rattle.text.specs.Inner.{is_bad}
use Rattle.text.specs.Text.{text}

-- the fresh machine is valid over its memory
pub fresh_valid : valid.valid fresh most_memory ≡ true
unfolding all_below any_below lineset.place lineset.empty lineset.has lineset.meets transaction.empty fresh fresh_thread
    valid.sized valid.shaped valid.place_right valid.unused_zero valid.aligned valid.cr_small valid.fields_small valid.no_line valid.holds_nothing valid.state_rules valid.indices_inside valid.line_inside valid.lines_inside valid.distinct valid.logs_line valid.line_logged valid.writes_logged valid.marked_right valid.marks_right valid.held_right valid.thread_valid valid.clash valid.clear_of valid.apart valid.thread_right valid.threads_right valid.valid
fresh_valid = refl

-- an answer for each record done, and one more where there is a record more
answered_of : (n : ℕ) (r : Result) → Answered n r → (cond (ltb r.ended.count n) (r.ended.count + 1) r.ended.count ≡ length r.answers) × (length r.answers ≤ n)
answered_of n r a =
    ⊎_elim (λ w. (ap (λ (b : Bool). cond b (r.ended.count + 1) r.ended.count) (le-ltb _ n (omega (arith, w.0))) ∙ w.0 ∙ sym w.1, omega (arith, w.1)))
    (λ w. (ap (λ (b : Bool). cond b (r.ended.count + 1) r.ended.count) (lt-ltb _ n w.0) ∙ sym w.1, omega (arith, w.0, w.1))) a

-- of a tape without a bad record
module _ (input : List ℕ) (z : (bad_record input).answer ≡ 0) where
  pub answers_read : (cond (ltb (run fresh fresh_memory input).ended.count (length input / record_size)) ((run fresh fresh_memory input).ended.count + 1) (run fresh fresh_memory input).ended.count ≡ length (run fresh fresh_memory input).answers)
      × (length (run fresh fresh_memory input).answers ≤ length input / record_size)
  answers_read = answered_of (length input / record_size) (run fresh fresh_memory input) (one_answer_each fresh fresh_memory input fresh_valid z)

-- ---- the numbers: the reader's are 6 to 9, and a step has none of these

abbrev Readers : ℕ → Type 0
Readers n = (6 ≤ n) × (n ≤ 9)

abbrev Others : ℕ → Type 0
Others n = (n < 6) ⊎ (9 < n)

read_refuses : (bs : List ℕ) → (number (read bs) ≡ 0) ⊎ Readers (number (read bs))
unfolding read of_kind judged
read_refuses bs =
    let P : Read → Type 0 = λ r. (number r ≡ 0) ⊎ Readers (number r) in
    let f = fields_at bs in
    fork P (not (eqb (length bs) record_size)) (λ e. inr (omega arith, omega arith))
    (λ e. fork P (not (eqb (byte bs 0) first_byte)) (λ e. inr (omega arith, omega arith))
    (λ e. fork P (not (kind_right f.kind)) (λ e. inr (omega arith, omega arith))
    (λ e. fork P (not (fixed_zero bs && unused_clear (row f.kind) f)) (λ e. inr (omega arith, omega arith)) (λ e. inl refl))))

first_refuses : (tape : List ℕ) (k n : ℕ) → ((first_bad read_number tape k n).answer ≡ 0) ⊎ Readers (first_bad read_number tape k n).answer
unfolding first_bad
first_refuses tape k zero = inl refl
first_refuses tape k (suc n) =
    fork (λ (f : Found). (f.answer ≡ 0) ⊎ Readers f.answer) (eqb (read_number (record_at tape k)) 0) (λ e. first_refuses tape (k + 1) n) (λ e. read_refuses (record_at tape k))

bad_refuses : (tape : List ℕ) → ((bad_record tape).answer ≡ 0) ⊎ Readers (bad_record tape).answer
unfolding bad_record
bad_refuses tape =
    fork (λ (f : Found). (f.answer ≡ 0) ⊎ Readers f.answer) (not (eqb (length tape % record_size) 0)) (λ e. inr (omega arith, omega arith)) (λ e. first_refuses tape 0 (length tape / record_size))

step_refuses : (m : Machine) (len w : ℕ) (e : Event) → Others (refusal m len w e)
unfolding refusal refused_later refused_there valid.machine_number
step_refuses m len w e =
    let k = (thread m.threads w).control in
    let own : Others (refused_there k e) = (
    fork Others (host_in_t k.msr.state (kind e)) (λ p. inl (omega arith)) (λ p. fork Others (off k e) (λ p. inr (omega arith)) (λ p. fork Others (forbidden k e) (λ p. inr (omega arith))
    (λ p. fork Others (bad_thing k.msr.state k (kind e) (tm_instruction e) || turned_down k e) (λ p. inr (omega arith)) (λ p. inl (omega arith)))))) in
    let later : Others (refused_later m len w e) = (
    fork Others (leb m.count w) (λ p. inl (omega arith)) (λ p. fork Others (not (operands_right e len)) (λ p. inl (omega arith)) (λ p. own))) in
    let first : Others (valid.machine_number m len) = (
    fork Others (not (valid.sized m len)) (λ p. inl (omega arith)) (λ p. fork Others (not (valid.valid m len)) (λ p. inl (omega arith)) (λ p. inl (omega arith)))) in
    fork Others (eqb (valid.machine_number m len) 0) (λ p. later) (λ p. first)

step_answers : (m : Machine) (mem : List ℕ) (w : ℕ) (e : Event) → goes_on (step m mem w e).done.answer ≡ false → Others (step m mem w e).done.answer
unfolding step
step_answers m mem w e p = simp (stop_refused m mem w e p) (step_refuses m (length mem) w e)

stops_others : (r : Read) (m : Machine) (mem : List ℕ) (n : ℕ) → number r ≡ 0 → Stops r m mem n → Others n
stops_others (Record w e) m mem n z s = subst Others s.0 (step_answers m mem w e (ap goes_on s.0 ∙ s.1))
stops_others (Refused k) m mem n z s = inl (omega arith)

-- ---- what the run of an input answers

bad_run : (input : List ℕ) → ((bad_record input).answer ≡ 0 → ⊥) → ((run fresh fresh_memory input).ended.answer ≡ (bad_record input).answer)
    × ((run fresh fresh_memory input).ended.index ≡ (bad_record input).index)
bad_run input b =
    let e = bad_refused fresh fresh_memory input fresh_valid b in
    (ap (λ (r : Result). r.ended.answer) e, ap (λ (r : Result). r.ended.index) e)

good_run : (input : List ℕ) → (bad_record input).answer ≡ 0 → Others (run fresh fresh_memory input).ended.answer
good_run input z =
    ⊎_elim (λ w. inl (omega (arith, w.1)))
    (λ w. stops_others _ _ _ _ ((all_records input z).1 _ w.0) w.1)
    (ends_first fresh fresh_memory input fresh_valid z)

-- a run answers one of the reader's numbers where the tape has a bad record, and there alone
readers : (n : ℕ) → Readers n → is_bad n ≡ true
readers n r = simp (le-leb 6 n r.0, le-leb n 9 r.1)

others : (n : ℕ) → Others n → is_bad n ≡ false
others n (inl l) = simp (lt-leb 6 n l)
others n (inr l) = simp (lt-leb n 9 l) (neither (leb 6 n))
  where
    neither : (b : Bool) → (b && false) ≡ false
    neither true = refl
    neither false = refl

not_bad : (input : List ℕ) → is_bad (run fresh fresh_memory input).ended.answer ≡ false → (bad_record input).answer ≡ 0
not_bad input h =
    ⊎_elim (λ z. z) (λ r. absurd (both_ways _ h (ap is_bad (bad_run input (λ z. omega (arith, r.0))).0 ∙ readers _ r))) (bad_refuses input)

has_bad : (input : List ℕ) → is_bad (run fresh fresh_memory input).ended.answer ≡ true → (bad_record input).answer ≡ 0 → ⊥
has_bad input r z = both_ways _ (others _ (good_run input z)) r

-- ---- the text, case by case

-- what the run of a machine that is the fresh one ended with
pub fresh_ended : (input : List ℕ) (m : Machine) (e : Ended) → m ≡ fresh → e ≡ (run m fresh_memory input).ended → e ≡ (run fresh fresh_memory input).ended
fresh_ended input m e new end = end ∙ ap (λ (x : Machine). (run x fresh_memory input).ended) new

pub text_long : (input : List ℕ) → longest < length input → text input ≡ long
unfolding text
text_long input h = simp (lt-ltb longest (length input) h)

pub text_bad : (input : List ℕ) (e : Ended) → e ≡ (run fresh fresh_memory input).ended → length input ≤ longest → is_bad e.answer ≡ true
    → text input ≡ bad_line e.index e.answer
unfolding text
text_bad input e is h r =
    let x : (bad_record input).answer ≡ 0 → ⊥ = has_bad input (sym (ap (λ (x : Ended). is_bad x.answer) is) ∙ r) in
    let b = bad_run input x in
    simp (le-ltb longest (length input) h, ne_eqb (bad_record input).answer 0 x)
    (λ j. bad_line (sym (ap (λ (x : Ended). x.index) is ∙ b.1) j) (sym (ap (λ (x : Ended). x.answer) is ∙ b.0) j))

pub text_run : (input : List ℕ) → length input ≤ longest → (bad_record input).answer ≡ 0
    → text input ≡ lines 0 (run fresh fresh_memory input).answers ++ end_line (run fresh fresh_memory input).ended.count
unfolding text
text_run input h z = simp (le-ltb longest (length input) h, eq-eqb (bad_record input).answer 0 z)

-- input that is not too long and whose tape has no bad record: e is what its run ended with, buffer what its answers were put into, and n how many
-- records have one
module _ (input : List ℕ) (m : Machine) (e : Ended) (buffer : List ℕ) (n : ℕ)
    (new : m ≡ fresh)
    (end : e ≡ (run m fresh_memory input).ended)
    (filled : buffer ≡ sets (replicate most_records 0) 0 (run m fresh_memory input).answers)
    (short : length input ≤ longest)
    (no : is_bad e.answer ≡ false)
    (many : n ≡ cond (ltb e.count (length input / record_size)) (e.count + 1) e.count) where
  abbrev whole : Result
  whole = run fresh fresh_memory input

  ended_is : e ≡ whole.ended
  ended_is = fresh_ended input m e new end

  good : (bad_record input).answer ≡ 0
  good = not_bad input (sym (ap (λ (x : Ended). is_bad x.answer) ended_is) ∙ no)

  all : n ≡ length whole.answers
  all = many ∙ ap (λ (x : Ended). cond (ltb x.count (length input / record_size)) (x.count + 1) x.count) ended_is ∙ (answers_read input good).0

  few : length whole.answers ≤ most_records
  few = omega (arith, short, (answers_read input good).1)

  given_back : take n buffer ≡ whole.answers
  given_back = ap (take n) (filled ∙ ap (λ (x : Machine). sets (replicate most_records 0) 0 (run x fresh_memory input).answers) new)
      ∙ read_back (replicate most_records 0) whole.answers n all few

  pub given_length : n ≡ length (take n buffer)
  given_length = all ∙ sym (ap length given_back)

  pub given_few : n ≤ most_records
  given_few = omega (arith, all, few)

  pub run_text : lines 0 (take n buffer) ++ end_line e.count ≡ text input
  run_text = (λ j. lines 0 (given_back j) ++ end_line (ended_is j).count) ∙ sym (text_run input short good)

-- no text is longer than the longest input
pub text_fits : (input : List ℕ) → length (text input) ≤ longest
unfolding text
text_fits input =
    let small : List ℕ → Type 0 = λ x. length x ≤ longest in
    let r = run fresh fresh_memory input in
    fork small (ltb longest (length input)) (λ e. omega arith)
    (λ e. fork small (not (eqb (bad_record input).answer 0)) (λ f. omega (arith, bad_line_fits (bad_record input).index (bad_record input).answer))
    (λ f. simp length-append (omega (arith, ltb-false longest (length input) e, lines_fit 0 r.answers, (answers_read input (eqb-true _ _ (not-false _ f))).1, end_line_fits r.ended.count))))
