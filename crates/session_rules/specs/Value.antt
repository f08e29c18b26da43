-- A session as a value: what it holds, which values are sessions, and its last answer (rules Q1, Q2 and Q8).
use Rattle.std.specs.Prelude.{ℕ, ◌-◌, Bool, cond, ◌&&◌, ◌||◌, List, ◌++◌, length, take, replicate, nat_le, nat_lt, slice_index, ◌==◌}
use Rattle.base.specs.Answers as answer
use Rattle.base.specs.Below.{all_below}
use Rattle.machine.specs.Valid.{machine_number, first_of}
use Rattle.machine.specs.declared.Machine.{Machine}
use Rattle.session_rules.specs.declared.Session.{Session}

-- the most bytes that are held; src/lib.rt has the same number for the code
abbrev pub most_held : ℕ
most_held = 15

-- bytes held, and zeros behind them
abbrev pub laid : List ℕ → List ℕ
laid hs = hs ++ replicate (most_held - length hs) 0

-- a session by its answer, machine, count and the bytes that it holds (rule Q1)
abbrev pub session : ℕ → Machine → ℕ → List ℕ → Session
session n m k hs = record { machine = m; count = k; held = length hs; answer = n; bytes = laid hs }

abbrev pub holds : Session → List ℕ
holds s = take s.held s.bytes

-- ---- rule Q2

-- the answers at which a session stops
abbrev pub stops_at : ℕ → Bool
stops_at n =
    (n == answer.no_thread) || (n == answer.operand) || (n == answer.host_in_t) || (n == answer.bad_first_byte) || (n == answer.no_kind)
    || (n == answer.field) || (n == answer.facility_off) || (n == answer.privileged) || (n == answer.bad_thing)

-- a place of the held bytes is used, or 0
abbrev pub place_right : Session → ℕ → Bool
place_right s i = nat_lt i s.held || (slice_index s.bytes i == 0)

unfoldable pub right : Session → Bool
right s =
    nat_le s.held most_held && all_below (place_right s) most_held && ((s.answer == 0) || (stops_at s.answer && (s.held == 0)))

-- the numbers 1 and 2 of a session
unfoldable pub number : Session → ℕ → ℕ
number s len = first_of (machine_number s.machine len) (cond (right s) 0 answer.no_machine)

-- ---- rule Q8

-- 6 where bytes are left
abbrev pub last_answer : Session → ℕ
last_answer s = first_of s.answer (cond (s.held == 0) answer.done answer.tape_length)
