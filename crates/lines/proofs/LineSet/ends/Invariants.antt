use mathlib.Core.Path.{◌≡◌}
use mathlib.Core.Bool.{true}
use Prim.Native.Nat.{◌*◌}
use Rattle.base.specs.Below.{all_below}
use Rattle.lines.proofs.Laws.{before}
use Rattle.lines.proofs.LineSet.ends.Given as goal

-- the lines of the words so far
abbrev pub invariant-loop-k : goal.invariant-loop-k
invariant-loop-k l = all_below (before l.self l.other l.n) (64 * l.k) ≡ true
