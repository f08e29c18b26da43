-- TEXASR's fields, with bit 0 the highest of 64 (rules X1 to X6).
use Rattle.std.specs.Prelude.{ℕ, ◌+◌, ◌-◌, ◌*◌, ◌/◌, ◌%◌, ◌^◌, Bool, true, false}
use Rattle.transaction.specs.declared.Cause.{Cause}
use Rattle.transaction.specs.declared.Cause.TheVariants.{Disallowed, Nesting, Footprint, OwnStore, PlainConflict, Conflict, Translation, Abort}

-- the weight of bit b
abbrev pub weight : ℕ → ℕ
weight b = 2 ^ (63 - b)

-- failure summary FS, ROT, level TL
abbrev pub fs : ℕ → ℕ
fs x = x / weight 36 % 2

abbrev pub rot : ℕ → ℕ
rot x = x / weight 38 % 2

abbrev pub tl : ℕ → ℕ
tl x = x % 2 ^ 12

-- the upper half, and the lower
abbrev pub upper : ℕ → ℕ
upper x = x / 2 ^ 32

abbrev pub lower : ℕ → ℕ
lower x = x % 2 ^ 32

-- level 1 with ROT, and all else 0: what an outermost tbegin. leaves
abbrev pub begun : ℕ → ℕ
begun r = r * weight 38 + 1

-- one level more, and ROT off if R = 0: what a nested tbegin. leaves (rule E1)
abbrev pub nested : ℕ → Bool → ℕ
nested x true = x + 1
nested x false = x - rot x * weight 38 + 1

-- a failure: its cause in the upper half; suspended, PR, FS = 1, exact, ROT, TL
abbrev pub packed : (cause suspended pr exact r level : ℕ) → ℕ
packed cause suspended pr exact r level =
    cause * 2 ^ 32 + suspended * weight 32 + pr * weight 35 + weight 36 + exact * weight 37 + r * weight 38 + level

-- a cause's 32 bits, for the upper half; an abort has its code in bits 0:7, and bit 31
abbrev pub cause_bits : Cause → ℕ
cause_bits Disallowed = 0x00800000
cause_bits Nesting = 0x00400000
cause_bits Footprint = 0x00200000
cause_bits OwnStore = 0x00100000
cause_bits PlainConflict = 0x00080000
cause_bits Conflict = 0x00040000
cause_bits Translation = 0x00020000
cause_bits (Abort code) = code * 2 ^ 24 + 1
