use mathlib.Core.Path.{◌≡◌}
use mathlib.Core.Bool.{true}
use Rattle.base.specs.Below.{all_below}
use Rattle.held.specs.Inner.{Seen}
use Rattle.held.proofs.Places.{new_at}
use Rattle.held.proofs.distinct.Given as goal

abbrev pub invariant-loop-k : goal.invariant-loop-k
invariant-loop-k l = record { distinct : all_below (new_at l.used) l.k ≡ true; seen : Seen l.seen l.used l.k }
