-- rfid and mtmsrd (rules E18, E19 and E0.11). What is asked for goes by the table of `thread/Turns`, for both.
use Rattle.std.specs.Prelude.{ℕ, ◌-◌, ◌%◌, Bool, cond}
use Rattle.base.specs.Answers as answer
use Rattle.transaction.specs.declared.Cause.TheVariants.{Disallowed}
use Rattle.thread.specs.Thread.{with_control, with_nia, with_msr, handling}
use Rattle.thread.specs.Turns.{asked, by_srr1, turned}
use Rattle.thread.specs.declared.State.{State}
use Rattle.thread.specs.declared.State.TheVariants.{N, T, S}
use Rattle.thread.specs.declared.turns.Asked.{Asked}
use Rattle.thread.specs.declared.turns.Turn.{Turn}
use Rattle.thread.specs.declared.turns.Turn.TheVariants.{Bad, Fails, To}
use Rattle.thread.specs.declared.Thread.{Thread}
use Rattle.power_rules.specs.Common.{did, next, put_msr, fails}
use Rattle.power_rules.specs.declared.Did.{Did}

-- on at an address in a state, with PR and TM
abbrev pub goes : Thread → State → Bool → Bool → ℕ → Thread
goes t s pr tm at = with_control t (with_nia (with_msr t.control (put_msr t.control.msr s pr tm)) at)

-- a thread that has come into a state: in T its failure, if it is doomed, is handled, as in tresume
abbrev pub reached : State → Thread → Did
reached N t = did answer.done t
reached T t = cond t.control.msr.doomed (did answer.handled (handling t)) (did answer.done t)
reached S t = did answer.done t

-- a Bad Thing is refused: that clause is never reached
unfoldable pub taking : Turn → Thread → Bool → ℕ → Did
taking Bad t pr at = did answer.done t
taking Fails t pr at = fails t Disallowed
taking (To s tm) t pr at = reached s (goes t s pr tm at)

abbrev pub returning : Thread → Asked → ℕ → Did
returning t a at = taking (turned t.control.msr a) t a.pr at

-- 18. rfid asks by SRR1, and goes on at SRR0 without its two low bits
unfoldable pub rfid : Thread → Did
rfid t = returning t (by_srr1 t.control.saved.srr1) (t.control.saved.srr0 - t.control.saved.srr0 % 4)

-- 19. mtmsrd (TS in two bits, TM, PR) goes on behind itself
unfoldable pub mtmsrd : Thread → (t s tm pr : Bool) → Did
mtmsrd u t s tm pr = returning u (asked t s tm pr) (next u.control.nia)
