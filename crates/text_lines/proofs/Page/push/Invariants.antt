use Rattle.std.proofs.Common.{◌≡◌, ◌+◌, drop}
use Rattle.text_lines.specs.Inner.{written}
use Rattle.text_lines.proofs.Page.push.Given as goal

abbrev pub invariant-loop-byte : goal.invariant-loop-byte
invariant-loop-byte l =
    (l.self.at ≡ l.fn.self.at + l.byte-index) × (written l.self (drop l.byte-index l.bytes) ≡ written l.fn.self l.bytes)
