-- tend. (rule E2). Clauses by state first. In S it is a Bad Thing and refused: that clause is never reached.
use Rattle.std.specs.Prelude.{◌-◌, Bool, cond, ◌||◌, nat_le}
use Rattle.transaction.specs.Transaction as transaction
use Rattle.transaction.specs.declared.Touch.TheVariants.{Untouched}
use Rattle.transaction.specs.declared.Write.TheVariants.{Log}
use Rattle.thread.specs.Texasr.{tl}
use Rattle.thread.specs.Thread.{with_cr0, with_control, with_transaction, with_texasr, in_state}
use Rattle.thread.specs.declared.State.{State}
use Rattle.thread.specs.declared.State.TheVariants.{N, T, S}
use Rattle.thread.specs.declared.Thread.{Thread}
use Rattle.thread.specs.declared.Effect.{Effect}
use Rattle.power_rules.specs.Common.{doing, quiet, passes, ts_field, cr0_only, leveled}
use Rattle.power_rules.specs.declared.Did.{Did}

-- 2. tend. (A): the last level, or A = 1, commits: the log goes to memory, and nothing of the transaction is left
abbrev pub commits : Thread → Bool → Bool
commits t a = a || nat_le (tl t.control.failure.texasr) 1

abbrev pub ends : Thread → Thread
ends t =
    with_transaction
    (with_control t (in_state (with_texasr t.control (t.control.failure.texasr - tl t.control.failure.texasr)) N t.control.msr.doomed))
    (transaction.discard t.transaction)

abbrev pub ended : Thread → Did
ended t = passes (with_cr0 (ends t) (ts_field T))

unfoldable pub tend : State → Thread → Bool → Effect
tend N t a = quiet (cr0_only t)
tend T t a = cond (commits t a) (doing (ended t) Untouched Log) (quiet (leveled t (t.control.failure.texasr - 1)))
tend S t a = quiet (cr0_only t)
