-- What is promised of a session that a host keeps (rule H10); proved in proofs/Pieces.antt.
use Rattle.std.specs.Prelude.{◌≡◌, true, false, List, ℕ, length}
use Rattle.base.specs.Limits.{most_threads}
use Rattle.machine.specs.Valid.{sized}
use Rattle.crossing.specs.Crossing.{right, machine_of}
use Rattle.session_rules.specs.declared.Session.{Session}
use Rattle.host_rules.specs.Sessions.{session_of, raw_session, no_session, open_raw, refused_feeding, feed, close}
use Rattle.host_rules.specs.declared.RawSession.{RawSession}

-- a session that crosses and comes back is the same: between two pieces nothing of it is lost
abbrev pub SessionForth : Type 0
SessionForth = (s : Session) → length s.machine.threads ≡ most_threads → session_of (raw_session s) ≡ s

-- bits of a session that are taken in and given out are the same
abbrev pub SessionBack : Type 0
SessionBack = (s : RawSession) → length s.machine.threads ≡ most_threads → right s.machine ≡ true → raw_session (session_of s) ≡ s

-- a session whose machine is none is refused by 2 in each of the three calls, and nothing changes
abbrev pub NoSessionMachine : Type 0
NoSessionMachine =
    (s : RawSession) (mem : List ℕ) → right s.machine ≡ false → sized (machine_of s.machine) (length mem) ≡ true
    → (open_raw s.machine (length mem) ≡ no_session 2 s.machine)
    × ((piece : List ℕ) → feed s mem piece ≡ refused_feeding 2 s mem)
    × (close s (length mem) ≡ record { answer = 2; count = 0; index = 0; machine = s.machine })
