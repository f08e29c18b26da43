-- A session: a tape that comes in pieces, cut at any byte (rules Q1 to Q8).
use Rattle.std.specs.Prelude.{ℕ, cond, List, [], length, ◌==◌}
use Rattle.machine.specs.Valid.{machine_number, first_of}
use Rattle.machine.specs.declared.Machine.{Machine}
use Rattle.run_rules.specs.declared.Ended.{Ended}
use Rattle.session_rules.specs.declared.Session.{Session}
pub use Rattle.session_rules.specs.Value.{most_held, laid, session, holds, stops_at, place_right, last_answer}
unfoldable pub use Rattle.session_rules.specs.Value.{right, number}
pub use Rattle.session_rules.specs.Feeding.{Feeding, onto, wrapped, rest, behind, did}
unfoldable pub use Rattle.session_rules.specs.Feeding.{feed_on}

-- ---- rule Q3

unfoldable pub opened : Machine → ℕ → Session
opened m len = session (machine_number m len) m 0 []

-- ---- rules Q4 and Q5

-- nothing is done
abbrev pub idle : ℕ → Session → List ℕ → Feeding
idle n s mem = record { fed = record { answer = n; finished = 0; session = s }; memory = mem; answers = [] }

unfoldable pub feed : Session → List ℕ → List ℕ → Feeding
feed s mem piece =
    let n = first_of (number s (length mem)) s.answer in
    cond (n == 0) (feed_on s mem piece) (idle n s mem)

-- ---- rule Q8

abbrev pub ended : ℕ → ℕ → Machine → Ended
ended n k m = record { answer = n; count = k; index = k; machine = m }

unfoldable pub close : Session → ℕ → Ended
close s len =
    let n = number s len in
    cond (n == 0) (ended (last_answer s) s.count s.machine) (ended n 0 s.machine)
