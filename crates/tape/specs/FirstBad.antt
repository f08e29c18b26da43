-- The first record of a tape that has a number, whatever gives the number.
use Rattle.std.specs.Prelude.{ℕ, zero, suc, ◌+◌, ◌/◌, ◌%◌, cond, not, List, length, ◌==◌}
use Rattle.base.specs.Answers as answer
use Rattle.tape.specs.Tape.{record_size, record_at, read, number}
use Rattle.tape.specs.declared.Found.{Found}

abbrev pub found : ℕ → ℕ → Found
found n k = record { answer = n; index = k }

-- the first of n records from record k on that has a number, with its number; or 0 and the record behind them
unfoldable pub first_bad : (List ℕ → ℕ) → List ℕ → ℕ → ℕ → Found
first_bad f tape k zero = found answer.done k
first_bad f tape k (suc n) = cond (f (record_at tape k) == 0) (first_bad f tape (k + 1) n) (found (f (record_at tape k)) k)

-- the number by which the reader refuses a record, or 0
abbrev pub read_number : List ℕ → ℕ
read_number bs = number (read bs)

-- number 6 with the number of whole records, or the first record that the reader refuses, or 0 and the number of records
unfoldable pub bad_record : List ℕ → Found
bad_record tape =
    cond (not ((length tape % record_size) == 0)) (found answer.tape_length (length tape / record_size))
    (first_bad read_number tape 0 (length tape / record_size))
