-- The bytes of a doubleword, and accesses of some of them (rules M11, M17 and A4). Bytes are counted from the lowest here: byte j is the rules'
-- byte 7 - j, and its mark is bit j of the marks.
use Rattle.std.specs.Prelude.{ℕ, zero, suc, ◌+◌, ◌-◌, ◌*◌, ◌/◌, ◌%◌, ◌^◌, Bool, cond, ◌||◌, ◌==◌}
use Rattle.base.specs.Limits.{doubleword_bytes}
use Rattle.base.specs.Below.{all_below}
use Rattle.lines.specs.Lines.{place}

-- bytes of a doubleword, and the marks of all of them
abbrev pub bytes : ℕ
bytes = doubleword_bytes

abbrev pub all_marks : ℕ
all_marks = 255

unfoldable pub byte : ℕ → ℕ → ℕ
byte v j = v / 2 ^ (8 * j) % 256

-- the number whose n bytes are these
unfoldable pub number : (ℕ → ℕ) → ℕ → ℕ
number f zero = 0
number f (suc n) = number f n + f n * 2 ^ (8 * n)

-- a doubleword with the marked bytes of a new one and the other bytes of an old one
unfoldable pub merged : ℕ → ℕ → ℕ → ℕ
merged m old new = number (λ j. cond (place m j) (byte new j) (byte old j)) bytes

-- the bytes that are not marked are zero
unfoldable pub only_marked : ℕ → ℕ → Bool
only_marked m v = all_below (λ j. place m j || (byte v j == 0)) bytes

-- of an access of w bytes at byte address a: its doubleword, and its lowest byte there
abbrev pub doubleword_of : ℕ → ℕ
doubleword_of a = a / bytes

abbrev pub lowest : ℕ → ℕ → ℕ
lowest w a = bytes - w - a % bytes

-- the number that w bytes make, of which byte j is the lowest
unfoldable pub part : ℕ → ℕ → ℕ → ℕ
part j w v = v / 2 ^ (8 * j) % 2 ^ (8 * w)

-- what is stored of a register: the marks of w bytes, of which byte j is the lowest, and its low bytes at their places
abbrev pub marks_of : ℕ → ℕ → ℕ
marks_of j w = (2 ^ w - 1) * 2 ^ j

unfoldable pub placed : ℕ → ℕ → ℕ → ℕ
placed j w x = x % 2 ^ (8 * w) * 2 ^ (8 * j)
