-- What the contracts of functions within the code cite beside the rules.
use Rattle.std.specs.Prelude.{List, ℕ, ◌+◌, ◌/◌, length}
use Rattle.std.proofs.lemmas.List.Edits.{sets}
use Rattle.tape.specs.Tape.{record_size}
use Rattle.text_lines.specs.Lines.{longest}
use Rattle.text_lines.specs.declared.Page.{Page}

-- the most records of a tape that is run
abbrev pub most_records : ℕ
most_records = longest / record_size

-- bytes written behind those that stand on a page
abbrev pub written : Page → List ℕ → Page
written p bytes = record p { out = record p.out { now = sets p.out.now p.at bytes }; at = p.at + length bytes }
