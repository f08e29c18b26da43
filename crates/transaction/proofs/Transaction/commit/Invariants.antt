use mathlib.Core.Path.{◌≡◌}
use Rattle.transaction.specs.Transaction.{commit_in}
use Rattle.transaction.proofs.Transaction.commit.Given as goal

-- memory after the places so far
abbrev pub invariant-loop-e : goal.invariant-loop-e
invariant-loop-e l = l.memory ≡ commit_in l.fn.memory l.self.log l.e-index
