use Rattle.tape.specs.FirstBad.{read_number}
use Rattle.tape_whole.proofs.first_bad.Given as goal

abbrev pub ghost-first_bad : goal.ghost-first_bad
ghost-first_bad a = read_number
