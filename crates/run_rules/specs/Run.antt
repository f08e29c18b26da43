-- A tape run on a machine: the whole tape read first, then record by record (rules R1 to R5).
use Rattle.std.specs.Prelude.{ℕ, ◌/◌, not, cond, List, [], length, ◌==◌}
use Rattle.machine.specs.Valid.{machine_number}
use Rattle.machine.specs.declared.Machine.{Machine}
use Rattle.tape.specs.Tape.{record_size}
use Rattle.tape.specs.FirstBad.{found, bad_record}
use Rattle.tape.specs.declared.Found.{Found}
pub use Rattle.run_rules.specs.Records.{Result, run_result, in_front, goes_on}
unfoldable pub use Rattle.run_rules.specs.Records.{reads, counted, one, play}

-- a tape that is refused as a whole: nothing is done, and the index is that of the bad record
abbrev pub refused : Found → Machine → List ℕ → Result
refused f m mem = record { ended = record { answer = f.answer; count = 0; index = f.index; machine = m }; memory = mem; answers = [] }

-- 1 and 2, then the first bad record of the whole tape, and only where there is none the records
unfoldable pub run : Machine → List ℕ → List ℕ → Result
run m mem tape =
    let n = machine_number m (length mem) in
    cond (not (n == 0)) (refused (found n 0) m mem)
    (cond (not ((bad_record tape).answer == 0)) (refused (bad_record tape) m mem)
    (play (reads tape 0 (length tape / record_size)) 0 m mem))
