use Rattle.std.proofs.Common.{◌≡◌, ◌+◌, ◌*◌, ◌≤◌, drop}
use Rattle.text_lines.specs.Inner.{written}
use Rattle.text_lines.specs.Lines.{lines}
use Rattle.text_lines.proofs.Page.lines.Given as goal

abbrev pub invariant-loop-k : goal.invariant-loop-k
invariant-loop-k l =
    (l.self.at ≤ l.fn.self.at + 10 * l.k)
    × (written l.self (lines l.k (drop l.k l.answers)) ≡ written l.fn.self (lines 0 l.answers))
