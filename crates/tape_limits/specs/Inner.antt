-- What the code's own contracts cite beside the rules.
use Rattle.std.specs.Prelude.{ℕ, ◌+◌, Bool, true, false, ◌&&◌, List, [], ◌∷◌, map, nat_le, nat_lt, slice_index, ◌==◌}
use Rattle.std.specs.Int.Bits.{bit_and, bit_or}
use Rattle.base.specs.Below.{all_below}
use Rattle.kinds.specs.Rows.{rows, used, spans}
use Rattle.kinds.specs.declared.Row.{Row}
use Rattle.tape.specs.Tape.{record_size, byte, four}

-- the largest value of a byte that is used, and of one that is not
abbrev pub most : Bool → ℕ
most true = 255
most false = 0

-- the largest value of each byte of a record of a kind with this row; first byte, kind and thread are judged elsewhere
unfoldable pub limits : Row → List ℕ
limits r =
    255 ∷ 255 ∷ 255 ∷ most (used r.x) ∷ most (used r.ra) ∷ most (used r.rb) ∷ r.flags ∷ 0
    ∷ most (spans r.index) ∷ most (spans r.index) ∷ most (spans r.index) ∷ most (spans r.index) ∷ most r.si ∷ most r.si ∷ 0 ∷ 0 ∷ []

-- the limits of all kinds, kind 1 first
unfoldable pub table : List (List ℕ)
unfolding rows limits
table = map limits rows

-- four bytes as a number whose lowest byte is the first
unfoldable pub word : List ℕ → ℕ → ℕ
word bs i = four (byte bs (i + 3)) (byte bs (i + 2)) (byte bs (i + 1)) (byte bs i)

-- a number has no bit that its limit has not
unfoldable pub covered : ℕ → ℕ → Bool
covered n limit = bit_or n limit == limit

-- ones from some bit of a byte down
unfoldable pub ones : ℕ → Bool
ones l = nat_lt l 256 && (bit_and l (l + 1) == 0)

-- all limits are such ones, and first byte, kind and thread have any value
unfoldable pub masks : List ℕ → Bool
masks ls = all_below (λ i. (slice_index ls i == 255)) 3 && all_below (λ i. ones (slice_index ls i)) record_size

-- every byte is within its limit
unfoldable pub within : List ℕ → List ℕ → Bool
within bs ls = all_below (λ i. nat_le (byte bs i) (slice_index ls i)) record_size
