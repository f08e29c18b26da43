use mathlib.Core.Path.{◌≡◌}
use mathlib.Core.Bool.{false}
use Prim.Native.Nat.{◌*◌}
use Rattle.base.specs.Below.{any_below}
use Rattle.lines.proofs.Laws.{both}
use Rattle.lines.proofs.LineSet.meets.Given as goal

-- no line of the words so far is in both
abbrev pub invariant-loop-k : goal.invariant-loop-k
invariant-loop-k l = any_below (both l.self l.other) (64 * l.k) ≡ false
