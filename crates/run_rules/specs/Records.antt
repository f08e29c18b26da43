-- The records of a tape run on a machine, one by one (rules R2 to R5).
use Rattle.std.specs.Prelude.{ℕ, zero, suc, ◌+◌, Bool, cond, ◌||◌, List, [], ◌∷◌, ◌==◌}
use Rattle.base.specs.Answers as answer
use Rattle.step_rules.specs.Step.{Outcome, step}
use Rattle.machine.specs.declared.Machine.{Machine}
use Rattle.tape.specs.Tape.{read, record_at}
use Rattle.tape.specs.declared.Read.{Read}
use Rattle.tape.specs.declared.Read.TheVariants.{Record, Refused}
use Rattle.run_rules.specs.declared.Ended.{Ended}

-- what a run leaves: its answer, count and index with the machine, memory, and the answers of the events done, the stopping one's too
pub record Result : Type 0 where
  pub ended : Ended
  pub memory : List ℕ
  pub answers : List ℕ

abbrev pub run_result : ℕ → ℕ → Machine → List ℕ → List ℕ → Result
run_result n k m mem given = record { ended = record { answer = n; count = k; index = k; machine = m }; memory = mem; answers = given }

-- the same with one more answer in front
abbrev pub in_front : ℕ → Result → Result
in_front n r = record { ended = r.ended; memory = r.memory; answers = n ∷ r.answers }

-- a run goes on after 0, 20 and 21
abbrev pub goes_on : ℕ → Bool
goes_on n = (n == answer.done) || (n == answer.handled) || (n == answer.recorded)

-- what the reader answers for n records of a tape, from record k on
unfoldable pub reads : List ℕ → ℕ → ℕ → List Read
reads tape k zero = []
reads tape k (suc n) = read (record_at tape k) ∷ reads tape (k + 1) n

-- what an event leaves behind k others that were done: it is counted if the run goes on after it
unfoldable pub counted : Outcome → ℕ → Result
counted o k =
    run_result o.done.answer (cond (goes_on o.done.answer) (k + 1) k) o.done.machine o.memory (o.done.answer ∷ [])

-- one record read and done: the reader's number ends the run, with the count; else the step's outcome. A run has read all records before, so
-- the first case is for who plays records that were not
unfoldable pub one : Read → Machine → List ℕ → ℕ → Result
one (Refused n) m mem k = run_result n k m mem (n ∷ [])
one (Record w e) m mem k = counted (step m mem w e) k

-- the run with these records left and k done; it stops at a record that is not counted
unfoldable pub play : List Read → ℕ → Machine → List ℕ → Result
play [] k m mem = run_result answer.done k m mem []
play (r ∷ rs) k m mem =
    let o = one r m mem k in
    let rest = play rs (k + 1) o.ended.machine o.memory in
    cond (o.ended.count == k) o (in_front o.ended.answer rest)
