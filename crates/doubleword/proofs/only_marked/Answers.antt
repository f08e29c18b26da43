-- `doubleword::only_marked` meets its contract.
use mathlib.Core.Path.{ap, ◌∙◌}
use Prim.Native.Nat.{ℕ}
use lib.Dec.{eqb}
use native.Mathlib.Omega.{arith}
use Rattle.doubleword.proofs.Laws.{only_is}
use Rattle.doubleword.proofs.only_marked.Goals as goal

pub returns : goal.returns
returns c =
    ap (λ (x : ℕ). eqb x c.args.v) c.merged.ensures ∙ only_is c.args.marks c.args.v (omega arith)
