-- What the code's own contracts cite beside the rules: sets compared, and two words of them.
use Rattle.std.specs.Prelude.{ℕ, ◌%◌, ◌^◌, Bool, not, cond, ◌&&◌, ◌||◌, nat_lt, ◌==◌}
use Rattle.std.specs.Bool.{beq}
use Rattle.base.specs.Limits.{lines}
use Rattle.base.specs.Below.{all_below, any_below, count_below}
use Rattle.lines.specs.Lines.{place, has}
use Rattle.lines.specs.declared.LineSet.{LineSet}

-- two sets hold the same lines
unfoldable pub same : LineSet → LineSet → Bool
same a b = all_below (λ l. beq (has a l) (has b l)) lines

-- no line from n on is in either set
unfoldable pub ends : LineSet → LineSet → ℕ → Bool
ends a b n = all_below (λ l. nat_lt l n || not (has a l || has b l)) lines

-- of two words: no place from s on is set in either
unfoldable pub clear_from : ℕ → ℕ → ℕ → Bool
clear_from a b s = all_below (λ i. nat_lt i s || not (place a i || place b i)) 64

-- of two words: a place is set in both; the same places are set; how many places are set in either
unfoldable pub shared : ℕ → ℕ → Bool
shared a b = any_below (λ i. place a i && place b i) 64

-- a line's place in its word, and a page's half of one, as words with these places set
abbrev pub line_mask : ℕ → ℕ
line_mask l = 2 ^ (l % 64)

abbrev pub page_mask : ℕ → ℕ
page_mask p = cond ((p % 2) == 0) 0x00000000FFFFFFFF 0xFFFFFFFF00000000

unfoldable pub alike : ℕ → ℕ → Bool
alike a b = all_below (λ i. beq (place a i) (place b i)) 64

unfoldable pub joined : ℕ → ℕ → ℕ
joined a b = count_below (λ i. place a i || place b i) 64
