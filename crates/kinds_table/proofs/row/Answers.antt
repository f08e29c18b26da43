-- `kinds_table::row` meets its contract: numbers past the last kind's.
use Rattle.std.proofs.Common.{◌≡◌, sym, ℕ, zero, suc, ◌<◌, arith}
use Rattle.std.proofs.lemmas.Grind.{common_steps}
use native.Mathlib.Nat.{le_of_suc-le-suc}
use lib.ListN.{get_or-eq_default}
use Rattle.kinds.specs.Rows.{rows, row, no_row}
use Rattle.kinds_table.proofs.row.Goals as goal

past : (k : ℕ) → 26 < k → no_row ≡ row k
unfolding row rows
past zero h = absurd (omega arith)
past (suc k) h = sym (get_or-eq_default rows no_row (le_of_suc-le-suc h))

pub returns-in_default-2 : goal.returns-in_default-2
returns-in_default-2 c = grind (arith, common_steps, past)
