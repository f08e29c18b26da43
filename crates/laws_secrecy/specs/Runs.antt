-- A run over a tape from two machines alike: the same answers, count, index and memory, and machines that are equal or still alike. Proved in proofs/Runs.antt.
use Rattle.std.specs.Prelude.{◌≡◌, true, ◌⊎◌, List, ℕ, length}
use Rattle.machine.specs.Valid.{valid}
use Rattle.step_rules.specs.Step.{outcome, step}
use Rattle.machine.specs.declared.Machine.{Machine}
use Rattle.run_rules.specs.Run.{Result, reads, run}
use Rattle.laws_run.specs.Steps.{events}
use Rattle.laws_secrecy.specs.Secrecy.{Alike, Until}

pub record SameRun (w : ℕ) (r s : Result) : Type 0 where
  pub answer : r.ended.answer ≡ s.ended.answer
  pub count : r.ended.count ≡ s.ended.count
  pub index : r.ended.index ≡ s.ended.index
  pub memory : r.memory ≡ s.memory
  pub answers : r.answers ≡ s.answers
  pub machines : (r.ended.machine ≡ s.ended.machine) ⊎ Alike w r.ended.machine s.ended.machine

-- while the demand's condition holds of the records that the run on the first machine counts. Nothing is asked of the record that stops it, which is not
-- executed, nor of those behind it
abbrev pub RunsSame : Type 0
RunsSame =
    (w : ℕ) (m n : Machine) (mem tape : List ℕ) → valid m (length mem) ≡ true → valid n (length mem) ≡ true → Alike w m n
    → Until step w (events (reads tape 0 (run m mem tape).ended.count)) (outcome 0 m mem) → SameRun w (run m mem tape) (run n mem tape)
