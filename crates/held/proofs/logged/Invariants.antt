use Rattle.held.proofs.Places.{Lines_of}
use Rattle.held.proofs.logged.Given as goal

abbrev pub invariant-loop-e : goal.invariant-loop-e
invariant-loop-e l = Lines_of l.s l.e-items l.e-index
