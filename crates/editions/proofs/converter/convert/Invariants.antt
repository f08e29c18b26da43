use Rattle.editions.specs.Editions.{number}
use Rattle.editions.proofs.converter.convert.Given as goal

abbrev pub ghost-first_bad : goal.ghost-first_bad
ghost-first_bad a = number a.number.0.now
