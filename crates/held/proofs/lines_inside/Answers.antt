-- `held::lines_inside` meets its contract: the lines that begin in memory are those below a number.
use borrow.Author.Tests.{le-ltb, lt-ltb}
use mathlib.Core.Path.{◌≡◌, sym, ap, ◌∙◌}
use mathlib.Core.Bool.{Bool, not, ◌||◌}
use Prim.Native.Nat.{ℕ, ◌*◌, ◌<◌}
use native.Mathlib.Decide.{dec_lt}
use native.Mathlib.Omega.{arith}
use lib.Dec.{ltb}
use Rattle.std.specs.Int.{div_ceil}
use Rattle.base.specs.Limits.{line_size, lines}
use Rattle.base.proofs.Below.{all_cong}
use Rattle.lines.specs.Lines.{has}
use Rattle.lines.specs.Inner.{ends}
use Rattle.machine.specs.Valid.{lines_inside, line_inside}
use Rattle.held.proofs.lines_inside.Goals as goal

begins : (l len : ℕ) → ltb l (div_ceil len line_size) ≡ ltb (l * line_size) len
begins l len = go (dec_lt (l * line_size) len)
  where
    go : Dec (l * line_size < len) → ltb l (div_ceil len line_size) ≡ ltb (l * line_size) len
    go (yes h) = lt-ltb l _ (omega arith) ∙ sym (lt-ltb (l * line_size) len h)
    go (no h) = le-ltb l _ (omega arith) ∙ sym (le-ltb (l * line_size) len (omega arith))

pub returns : goal.returns
unfolding ends lines_inside line_inside
returns c =
    let x = c.args.x.now in
    rw c.div_ceil.ensures at c.ends.ensures
    ∙ all_cong _ _ lines (λ l h. ap (λ (b : Bool). b || not (has x.reads l || has x.writes l)) (begins l c.args.len))
