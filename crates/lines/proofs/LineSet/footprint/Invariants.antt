use mathlib.Core.Path.{◌≡◌}
use Prim.Native.Nat.{◌*◌}
use Rattle.base.specs.Below.{count_below}
use Rattle.lines.proofs.Laws.{either}
use Rattle.lines.proofs.LineSet.footprint.Given as goal

-- the lines of the words so far
abbrev pub invariant-loop-k : goal.invariant-loop-k
invariant-loop-k l = l.n ≡ count_below (either l.self l.other) (64 * l.k)
