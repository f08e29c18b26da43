-- Laws of the run: the tests before its records.
use mathlib.Core.Path.{◌≡◌}
use mathlib.Core.Bool.{true, false}
use mathlib.Core.List.{List}
use Prim.Native.Nat.{ℕ, ◌/◌}
use borrow.Author.Tests.{eq-eqb}
use lib.Dec.{eqb}
use lib.ListN.{length}
use Rattle.machine.specs.Valid.{valid, machine_number}
use Rattle.machine.proofs.Validity.{valid_passes}
use Rattle.machine.specs.declared.Machine.{Machine}
use Rattle.tape.specs.Tape.{record_size}
use Rattle.tape.specs.FirstBad.{found, bad_record}
use Rattle.run_rules.specs.Run.{refused, reads, play, run}

-- a run does nothing where the machine or a record is refused, and else plays its records
module _ (m : Machine) (mem tape : List ℕ) where
  pub run_unready : (n : ℕ) → machine_number m (length mem) ≡ n → eqb n 0 ≡ false → run m mem tape ≡ refused (found n 0) m mem
  unfolding run
  run_unready n p z = simp (p, z)

  pub run_bad : machine_number m (length mem) ≡ 0 → eqb (bad_record tape).answer 0 ≡ false → run m mem tape ≡ refused (bad_record tape) m mem
  unfolding run
  run_bad p z = simp (p, z)

  pub run_plays : valid m (length mem) ≡ true → (bad_record tape).answer ≡ 0
      → run m mem tape ≡ play (reads tape 0 (length tape / record_size)) 0 m mem
  unfolding run
  run_plays v z = simp (valid_passes m (length mem) v, eq-eqb (bad_record tape).answer 0 z)
