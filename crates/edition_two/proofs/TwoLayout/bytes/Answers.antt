-- Edition two's bytes are those of its layout.
use Rattle.std.proofs.Common.{◌≡◌, ◌/◌, ◌%◌, arith}
use Rattle.edition_two.specs.Two.{bytes}
use Rattle.edition_two.proofs.TwoLayout.bytes.Goals as goal

pub returns : goal.returns
unfolding bytes
returns c =
    let n = c.args.f.index in
    let two : n / 65536 % 256 ≡ n / 256 / 256 % 256 = omega arith in
    let three : n / 16777216 % 256 ≡ n / 256 / 256 / 256 % 256 = omega arith in
    simp (c.to_le_bytes-i.ensures, c.to_le_bytes-si.ensures, two, three)
