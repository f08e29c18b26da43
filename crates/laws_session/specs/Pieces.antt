-- A tape in pieces: what feeding one leaves, and that pieces fed one by one are one run over their join, however it is cut.
-- Proved in proofs/.
use Rattle.std.specs.Prelude.{◌≡◌, not, cond, ℕ, ◌+◌, ◌/◌, ◌%◌, ◌^◌, ◌<◌, List, [], ◌∷◌, ◌++◌, length, ◌==◌}
use mathlib.Core.List.{flatten}
use Rattle.base.specs.Answers as answer
use Rattle.machine.specs.Valid.{machine_number, first_of}
use Rattle.machine.specs.declared.Machine.{Machine}
use Rattle.tape.specs.Tape.{record_size}
use Rattle.tape.specs.FirstBad.{found, bad_record}
use Rattle.run_rules.specs.Run.{Result, run_result, refused, reads, play, run}
use Rattle.session_rules.specs.Session.{most_held, session, holds, number, opened, Feeding, idle, onto, wrapped, feed, close}
use Rattle.session_rules.specs.declared.Session.{Session}

-- ---- one piece

-- feeding a session gives a session again, over the memory that it leaves (rule Q2)
abbrev pub SessionKept : Type 0
SessionKept =
    (s : Session) (mem piece : List ℕ)
    → number s (length mem) ≡ 0 → number (feed s mem piece).fed.session (length (feed s mem piece).memory) ≡ 0

-- a value that is no session is refused by its number, whatever the piece: it is given back, and nothing changes (rule Q4)
abbrev pub NoSession : Type 0
NoSession =
    (s : Session) (mem piece : List ℕ) → (number s (length mem) ≡ 0 → ⊥) → feed s mem piece ≡ idle (number s (length mem)) s mem

-- a session that has stopped is given back with its answer, whatever the piece, and nothing changes (rule Q5)
abbrev pub StopHolds : Type 0
StopHolds =
    (s : Session) (mem piece : List ℕ) → number s (length mem) ≡ 0 → (s.answer ≡ 0 → ⊥) → feed s mem piece ≡ idle s.answer s mem

-- bytes that finish no record are held, behind those held before, and nothing else is done: they are not looked at (rule Q6)
abbrev pub RestUnread : Type 0
RestUnread =
    (s : Session) (mem piece : List ℕ) → number s (length mem) ≡ 0 → s.answer ≡ 0 → s.held + length piece < record_size
    → feed s mem piece ≡ idle answer.done (session answer.done s.machine (wrapped s.count) (holds s ++ piece)) mem

-- a piece of no bytes leaves a session as it is (rule Q6). That 15 places are there and the count is below 2^64 is so of each value of the
-- code's type
abbrev pub EmptyPiece : Type 0
EmptyPiece =
    (s : Session) (mem : List ℕ) → number s (length mem) ≡ 0 → length s.bytes ≡ most_held → s.count < 2 ^ 64
    → feed s mem [] ≡ idle s.answer s mem

-- ---- pieces

-- a first piece and further ones, each fed to the session that the one before it leaves
unfoldable pub feeds : Session → List ℕ → List ℕ → List (List ℕ) → Feeding
feeds s mem p [] = feed s mem p
feeds s mem p (q ∷ qs) = let a = feed s mem p in onto a (feeds a.fed.session a.memory q qs)

-- pieces fed one by one are their join fed at once: answer, session, memory, answers, records finished (rule Q9). It asks nothing of the
-- value handed in: one that is no session or has stopped is given back by both
abbrev pub FeedsJoin : Type 0
FeedsJoin = (s : Session) (mem p : List ℕ) (ps : List (List ℕ)) → feeds s mem p ps ≡ feed s mem (p ++ flatten ps)

-- so two cuttings of one stream agree in everything
abbrev pub CuttingsAgree : Type 0
CuttingsAgree =
    (s : Session) (mem p : List ℕ) (ps : List (List ℕ)) (q : List ℕ) (qs : List (List ℕ)) → p ++ flatten ps ≡ q ++ flatten qs
    → feeds s mem p ps ≡ feeds s mem q qs

-- ---- a whole tape

-- a tape in pieces from its opening to its close, as a run leaves it
abbrev pub in_pieces : Machine → List ℕ → List ℕ → List (List ℕ) → Result
in_pieces m mem p ps =
    let f = feeds (opened m (length mem)) mem p ps in
    record { ended = close f.fed.session (length f.memory); memory = f.memory; answers = f.answers }

-- 6 where bytes are left behind the whole records
abbrev pub ragged : List ℕ → ℕ
ragged tape = cond ((length tape % record_size) == 0) answer.done answer.tape_length

-- the records of a tape, each read as it is reached, so that a bad one stops them where it stands; and last 6, if none stopped them. The
-- count is a session's, modulo 2^64
unfoldable pub played : Machine → List ℕ → List ℕ → Result
played m mem tape =
    let r = play (reads tape 0 (length tape / record_size)) 0 m mem in
    run_result (first_of r.ended.answer (ragged tape)) (wrapped r.ended.count) r.ended.machine r.memory r.answers

-- one run by the rule from before the whole tape was read first (rule Q9): 1 and 2, then the records
unfoldable pub run_as_read : Machine → List ℕ → List ℕ → Result
run_as_read m mem tape =
    let n = machine_number m (length mem) in
    cond (not (n == 0)) (refused (found n 0) m mem) (played m mem tape)

-- a session over any cutting of a tape is that run: answer, count, index, machine, memory, answers (rule Q9). Any machine may be handed in:
-- both refuse it alike
abbrev pub SessionIsRun : Type 0
SessionIsRun = (m : Machine) (mem p : List ℕ) (ps : List (List ℕ)) → in_pieces m mem p ps ≡ run_as_read m mem (p ++ flatten ps)

-- over a tape that has no bad record, of fewer than 2^64 records, it is the run of today (rules Q9, R1 to R5)
abbrev pub GoodTapeSame : Type 0
GoodTapeSame =
    (m : Machine) (mem p : List ℕ) (ps : List (List ℕ)) → (bad_record (p ++ flatten ps)).answer ≡ 0 → length (p ++ flatten ps) / record_size < 2 ^ 64
    → in_pieces m mem p ps ≡ run m mem (p ++ flatten ps)

-- a result with 6 for its answer where that was 0
abbrev pub cut_short : Result → Result
cut_short r =
    record { ended = record { answer = first_of r.ended.answer answer.tape_length; count = r.ended.count; index = r.ended.index; machine = r.ended.machine }; memory = r.memory; answers = r.answers }

-- bytes that never became a whole record make an answer of 0 a 6 at the close, and change nothing else, whatever they are: a wrong first
-- byte is not looked at (rules Q6, Q9)
abbrev pub UnfinishedUnread : Type 0
UnfinishedUnread =
    (m : Machine) (mem tape more p : List ℕ) (ps : List (List ℕ)) → length tape % record_size ≡ 0 → 0 < length more → length more < record_size
    → p ++ flatten ps ≡ tape ++ more → in_pieces m mem p ps ≡ cut_short (in_pieces m mem tape [])
