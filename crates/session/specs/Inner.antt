-- What feeding leaves, with the buffer that was lent for the answers.
use Rattle.std.specs.Prelude.{ℕ, List}
use Rattle.std.proofs.lemmas.List.Edits.{sets}
use Rattle.session_rules.specs.Feeding.{Feeding}
use Rattle.session_rules.specs.declared.Fed.{Fed}

pub record Left : Type 0 where
  pub fed : Fed
  pub memory : List ℕ
  pub buffer : List ℕ

-- the answers go to the buffer from a place on
abbrev pub left : Feeding → List ℕ → ℕ → Left
left f buffer at = record { fed = f.fed; memory = f.memory; buffer = sets buffer at f.answers }
