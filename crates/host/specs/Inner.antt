-- What the code makes of an event by its fields: a run of one record. No rule: proofs/Laws.antt says that it is the step.
use Rattle.std.specs.Prelude.{ℕ, List, [], ◌∷◌, slice_index}
use Rattle.std.proofs.lemmas.List.Edits.{sets}
use Rattle.machine.specs.Valid.{first_of}
use Rattle.machine.specs.declared.Machine.{Machine}
use Rattle.event.specs.declared.Fields.{Fields}
use Rattle.tape.specs.Tape.{bytes}
use Rattle.step_rules.specs.Step.{Outcome, outcome}
use Rattle.run_rules.specs.Run.{Result, run}

-- what a run of one record tells: the number that ended it, else its record's answer, which stands in a buffer of one place
abbrev pub told : Result → ℕ
told r = first_of r.ended.answer (slice_index (sets (0 ∷ []) 0 r.answers) 0)

abbrev pub left : Result → Outcome
left r = outcome (told r) r.ended.machine r.memory

abbrev pub lone : Machine → List ℕ → Fields → Outcome
lone m mem f = left (run m mem (bytes f))
