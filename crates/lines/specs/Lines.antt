-- Sets of lines: one bit for each of 256 lines, in four words (rules M9, M10 and M16).
use Rattle.std.specs.Prelude.{ℕ, ◌+◌, ◌*◌, ◌/◌, ◌%◌, ◌^◌, Bool, ◌&&◌, ◌||◌, set, replicate, slice_index, ◌==◌}
use Rattle.std.specs.Int.Bits.{bit_or}
use Rattle.base.specs.Limits.{lines, words, page_lines}
use Rattle.base.specs.Below.{any_below, count_below}
use Rattle.lines.specs.declared.LineSet.{LineSet}

-- place i of a word is set
unfoldable pub place : ℕ → ℕ → Bool
place w i = (w / 2 ^ i % 2) == 1

abbrev pub word : LineSet → ℕ → ℕ
word s k = slice_index s.words k

unfoldable pub empty : LineSet
empty = record { words = replicate words 0 }

-- the set holds line l
unfoldable pub has : LineSet → ℕ → Bool
has s l = place (word s (l / 64)) (l % 64)

-- the set holds a line of page p (rule M16)
unfoldable pub has_page : LineSet → ℕ → Bool
has_page s p = any_below (λ i. has s (page_lines * p + i)) page_lines

-- the set with line l too
unfoldable pub with : LineSet → ℕ → LineSet
with s l = record { words = set s.words (l / 64) (bit_or (word s (l / 64)) (2 ^ (l % 64))) }

-- two sets have a line in common
unfoldable pub meets : LineSet → LineSet → Bool
meets a b = any_below (λ l. has a l && has b l) lines

-- the footprint: how many lines the two sets have together
unfoldable pub footprint : LineSet → LineSet → ℕ
footprint r w = count_below (λ l. has r l || has w l) lines
