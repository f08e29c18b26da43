-- A session crosses as its machine does.
use Rattle.host_rules.specs.Host.{number}
use Rattle.host_rules.specs.Sessions.{open_raw, feed, close}
use Rattle.laws_host.specs.Pieces.{SessionForth, SessionBack, NoSessionMachine}
use Rattle.laws_host.proofs.Crosses.{forth, back}

pub session_forth : SessionForth
session_forth s l = λ j. record { machine = forth s.machine l j; count = s.count; held = s.held; answer = s.answer; bytes = s.bytes }

pub session_back : SessionBack
session_back s l r = λ j. record { machine = back s.machine l r j; count = s.count; held = s.held; answer = s.answer; bytes = s.bytes }

pub no_session_machine : NoSessionMachine
unfolding open_raw feed close number
no_session_machine s mem r z = (simp (r, z), λ piece. simp (r, z), simp (r, z))
