-- tsr. (rule E6). Clauses by state first.
use Rattle.std.specs.Prelude.{Bool, cond}
use Rattle.base.specs.Answers as answer
use Rattle.thread.specs.Thread.{with_control, in_state, handling}
use Rattle.thread.specs.declared.State.{State}
use Rattle.thread.specs.declared.State.TheVariants.{N, T, S}
use Rattle.thread.specs.declared.Thread.{Thread}
use Rattle.power_rules.specs.Common.{did, passes, cr0_from_state, cr0_only}
use Rattle.power_rules.specs.declared.Did.{Did}

-- 6. tsr. (L): L = 0 is T to S; L = 1 is S to T, and handling if TDOOMED
abbrev pub moves : Thread → State → Did
moves t s = passes (with_control (cr0_from_state t) (in_state t.control s t.control.msr.doomed))

unfoldable pub tsuspend : State → Thread → Did
tsuspend N t = cr0_only t
tsuspend T t = moves t S
tsuspend S t = cr0_only t

unfoldable pub tresume : State → Thread → Did
tresume N t = cr0_only t
tresume T t = cr0_only t
tresume S t = cond t.control.msr.doomed (did answer.handled (handling t)) (moves t T)

unfoldable pub tsr : Thread → Bool → Did
tsr t l = cond l (tresume t.control.msr.state t) (tsuspend t.control.msr.state t)
