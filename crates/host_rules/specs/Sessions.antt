-- A session as a host calls it (rule H10): on plain numbers.
use Rattle.std.specs.Prelude.{ℕ, cond, List, [], length, replicate}
use Rattle.crossing.specs.Crossing.{right, machine_of, raw_machine}
use Rattle.crossing.specs.declared.RawMachine.{RawMachine}
use Rattle.run_rules.specs.declared.Ended.{Ended}
use Rattle.session_rules.specs.Session as session
use Rattle.session_rules.specs.declared.Session.{Session}
use Rattle.session_rules.specs.declared.Fed.{Fed}
use Rattle.host_rules.specs.Host.{number}
use Rattle.host_rules.specs.declared.RawEnded.{RawEnded}
use Rattle.host_rules.specs.declared.RawSession.{RawSession}
use Rattle.host_rules.specs.declared.RawFed.{RawFed}

-- to plain numbers and back: the machine alone has another form
abbrev pub session_of : RawSession → Session
session_of s = record { machine = machine_of s.machine; count = s.count; held = s.held; answer = s.answer; bytes = s.bytes }

abbrev pub raw_session : Session → RawSession
raw_session s = record { machine = raw_machine s.machine; count = s.count; held = s.held; answer = s.answer; bytes = s.bytes }

-- bits that are no machine: what an opening gives has their number
abbrev pub no_session : ℕ → RawMachine → RawSession
no_session n m = record { machine = m; count = 0; held = 0; answer = n; bytes = replicate session.most_held 0 }

unfoldable pub open_raw : RawMachine → ℕ → RawSession
open_raw m len = cond (right m) (raw_session (session.opened (machine_of m) len)) (no_session (number m len) m)

-- what feeding leaves
pub record RawFeeding : Type 0 where
  pub fed : RawFed
  pub memory : List ℕ
  pub answers : List ℕ

abbrev pub crossed_fed : Fed → RawFed
crossed_fed f = record { answer = f.answer; finished = f.finished; session = raw_session f.session }

abbrev pub crossed_feeding : session.Feeding → RawFeeding
crossed_feeding f = record { fed = crossed_fed f.fed; memory = f.memory; answers = f.answers }

abbrev pub refused_feeding : ℕ → RawSession → List ℕ → RawFeeding
refused_feeding n s mem = record { fed = record { answer = n; finished = 0; session = s }; memory = mem; answers = [] }

unfoldable pub feed : RawSession → List ℕ → List ℕ → RawFeeding
feed s mem piece =
    cond (right s.machine) (crossed_feeding (session.feed (session_of s) mem piece)) (refused_feeding (number s.machine (length mem)) s mem)

abbrev pub crossed_ended : Ended → RawEnded
crossed_ended e = record { answer = e.answer; count = e.count; index = e.index; machine = raw_machine e.machine }

unfoldable pub close : RawSession → ℕ → RawEnded
close s len =
    cond (right s.machine) (crossed_ended (session.close (session_of s) len))
    (record { answer = number s.machine len; count = 0; index = 0; machine = s.machine })
