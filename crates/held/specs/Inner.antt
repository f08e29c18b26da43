-- What the code's own contracts cite beside the rules: a log's doublewords as a set, 64 of them in a word.
use Rattle.std.specs.Prelude.{◌≡◌, List, ℕ, ◌<◌, length, ◌==◌}
use Rattle.base.specs.Below.{any_below}
use Rattle.base.specs.Limits.{most_memory}
use Rattle.lines.specs.Lines.{has}
use Rattle.transaction.specs.Transaction.{entry}
use Rattle.transaction.specs.declared.Entry.{Entry}

-- the words hold the doublewords of memory that the first n places name
abbrev pub Seen : List ℕ → List Entry → ℕ → Type 0
Seen ws es n = (length ws ≡ 64) × ((d : ℕ) → d < most_memory → has (record { words = ws }) d ≡ any_below (λ k. ((entry es k).index == d)) n)
