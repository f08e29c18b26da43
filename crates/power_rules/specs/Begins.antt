-- tbegin. (rule E1). Clauses by state first.
use Rattle.std.specs.Prelude.{Bool, cond, nat_le}
use Rattle.base.specs.Limits.{most_levels}
use Rattle.base.specs.Below.{bit}
use Rattle.transaction.specs.declared.Cause.TheVariants.{Nesting}
use Rattle.thread.specs.Texasr.{tl, begun, nested}
use Rattle.thread.specs.Thread.{with_control, with_failure, in_state, take_checkpoint}
use Rattle.thread.specs.declared.State.{State}
use Rattle.thread.specs.declared.State.TheVariants.{N, T, S}
use Rattle.thread.specs.declared.Control.{Control}
use Rattle.thread.specs.declared.Thread.{Thread}
use Rattle.power_rules.specs.Common.{next, passes, cr0_from_state, cr0_only, leveled, fails}
use Rattle.power_rules.specs.declared.Did.{Did}

-- 1. tbegin. (R)
abbrev pub begins : Control → Bool → Control
begins k r =
    with_failure (in_state k T k.msr.doomed) (record { tfhar = next k.nia; tfiar = k.failure.tfiar; texasr = begun (bit r) })

unfoldable pub tbegin : State → Thread → Bool → Did
tbegin N t r = passes (with_control (take_checkpoint (cr0_from_state t)) (begins t.control r))
tbegin T t r = cond (nat_le most_levels (tl t.control.failure.texasr)) (fails t Nesting) (leveled t (nested t.control.failure.texasr r))
tbegin S t r = cr0_only t
