use Rattle.tape.proofs.records.first_bad.Given as goal

abbrev pub ghost-bad_place : goal.ghost-bad_place
ghost-bad_place g a = g.f
