use Rattle.std.proofs.Common.{◌≡◌}
use Rattle.step_rules.specs.Conflict.{strike}
use Rattle.conflict.proofs.others.Given as goal

-- the threads so far are struck
abbrev pub invariant-loop-k : goal.invariant-loop-k
invariant-loop-k l = l.threads ≡ strike l.fn.threads l.w l.touch l.cause l.k
