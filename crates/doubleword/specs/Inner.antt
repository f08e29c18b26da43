-- What the code's own contracts cite beside the rules.
use Rattle.std.specs.Prelude.{ℕ, ◌+◌, ◌*◌, ◌/◌}
use Rattle.std.specs.Int.Bits.{bit_and}

-- a byte of ones for each mark: the marks once in each byte, of which the byte's own is kept; that one is moved to the byte's top bit
unfoldable pub spread : ℕ → ℕ
spread m = bit_and (bit_and (m * 0x0101010101010101) 0x8040201008040201 + 0x00406070787C7E7F) 0x8080808080808080 / 128 * 255
