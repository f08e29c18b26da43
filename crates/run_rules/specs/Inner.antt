-- What the code's own contracts cite beside the rules.
use Rattle.std.specs.Prelude.{ℕ, List}
use Rattle.std.proofs.lemmas.List.Edits.{sets}
use Rattle.run_rules.specs.Records.{Result}

-- the answers of a run put into a buffer from place k on
abbrev pub filled : List ℕ → ℕ → Result → Result
filled old k r = record { ended = r.ended; memory = r.memory; answers = sets old k r.answers }
