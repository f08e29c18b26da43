-- A piece of a tape done (rules Q6 and Q7).
use Rattle.std.specs.Prelude.{ℕ, ◌+◌, ◌*◌, ◌/◌, ◌%◌, ◌^◌, cond, List, [], ◌++◌, length, drop, ◌==◌}
use Rattle.tape.specs.Tape.{record_size}
use Rattle.run_rules.specs.Run.{Result, reads, play}
use Rattle.run_rules.specs.declared.Ended.{Ended}
use Rattle.session_rules.specs.Value.{session, holds}
use Rattle.session_rules.specs.declared.Session.{Session}
use Rattle.session_rules.specs.declared.Fed.{Fed}

-- what feeding leaves: its answer, how many records it finished and the session; memory; the answers of the records that it finished
pub record Feeding : Type 0 where
  pub fed : Fed
  pub memory : List ℕ
  pub answers : List ℕ

-- a feeding behind another: its answer, session and memory; the records that both finished, and their answers
abbrev pub onto : Feeding → Feeding → Feeding
onto a b =
    record {
      fed = record { answer = b.fed.answer; finished = a.fed.finished + b.fed.finished; session = b.fed.session };
      memory = b.memory;
      answers = a.answers ++ b.answers;
    }

-- the count of records, modulo 2^64
abbrev pub wrapped : ℕ → ℕ
wrapped n = n % 2 ^ 64

-- bytes behind their whole records
abbrev pub rest : List ℕ → List ℕ
rest bs = drop (record_size * (length bs / record_size)) bs

-- the session behind a run of the whole records of some bytes: it holds the rest, or it has stopped and holds nothing
abbrev pub behind : ℕ → List ℕ → Ended → Session
behind k bs e = session e.answer e.machine (wrapped (k + e.count)) (cond (e.answer == 0) (rest bs) [])

abbrev pub did : ℕ → List ℕ → Result → Feeding
did k bs r =
    record { fed = record { answer = r.ended.answer; finished = length r.answers; session = behind k bs r.ended }; memory = r.memory; answers = r.answers }

-- the whole records of the held bytes and the piece, each read as it is reached
unfoldable pub feed_on : Session → List ℕ → List ℕ → Feeding
feed_on s mem piece =
    let bs = holds s ++ piece in
    did s.count bs (play (reads bs 0 (length bs / record_size)) 0 s.machine mem)
