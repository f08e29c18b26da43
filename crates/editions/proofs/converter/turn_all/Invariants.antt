use Rattle.std.proofs.Common.{◌≡◌}
use Rattle.std.proofs.lemmas.List.Edits.{sets}
use Rattle.editions.specs.Editions.{all_turned}
use Rattle.editions.proofs.converter.turn_all.Given as goal

abbrev pub invariant-loop-k : goal.invariant-loop-k
invariant-loop-k l = l.buf ≡ sets l.initial.buf 0 (all_turned l.d l.tape l.k)
