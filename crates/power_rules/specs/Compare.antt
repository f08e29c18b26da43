-- The comparisons of tabortwc. and tabortdc. (rules E4 and E5).
use Rattle.std.specs.Prelude.{ℕ, ◌+◌, ◌-◌, ◌*◌, ◌/◌, ◌%◌, Bool, cond, ◌&&◌, ◌||◌, nat_lt, ◌==◌}

-- a number below 2 × half with its sign turned over: signed numbers are ordered as these
abbrev pub turned : ℕ → ℕ → ℕ
turned half a = cond (nat_lt a half) (a + half) (a - half)

-- a comparison that TO chooses by its bit w, and that holds
unfoldable pub picked : ℕ → ℕ → Bool → Bool
picked to w test = ((to / w % 2) == 1) && test

-- one of the five comparisons is asked for, by its bit of TO, and true
unfoldable pub holds : ℕ → ℕ → ℕ → ℕ → Bool
holds half to a b =
    picked to 16 (nat_lt (turned half a) (turned half b))
    || picked to 8 (nat_lt (turned half b) (turned half a))
    || picked to 4 (a == b)
    || picked to 2 (nat_lt a b)
    || picked to 1 (nat_lt b a)

-- the word form reads the low 32 bits, the doubleword form all 64
abbrev pub word_half : ℕ
word_half = 0x80000000

abbrev pub doubleword_half : ℕ
doubleword_half = 0x8000000000000000

abbrev pub holds_in_words : ℕ → ℕ → ℕ → Bool
holds_in_words to a b = holds word_half to (a % (2 * word_half)) (b % (2 * word_half))

abbrev pub holds_in_doublewords : ℕ → ℕ → ℕ → Bool
holds_in_doublewords to a b = holds doubleword_half to a b
