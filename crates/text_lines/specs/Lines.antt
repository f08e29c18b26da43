-- The lines that the program writes (rules P3 to P5).
use Rattle.std.specs.Prelude.{ℕ, ◌+◌, ◌/◌, ◌%◌, cond, List, [], ◌∷◌, ◌++◌, nat_lt}

-- the longest input that is run; no text is longer (`text_fits`)
abbrev pub longest : ℕ
longest = 65536

-- the last decimal digit of a number, in ASCII
abbrev pub digit : ℕ → ℕ
digit n = 48 + n % 10

-- a number below 10,000 in decimal, without leading zeros
unfoldable pub decimal : ℕ → List ℕ
decimal n =
    cond (nat_lt n 10) (digit n ∷ [])
    (cond (nat_lt n 100) (digit (n / 10) ∷ digit n ∷ [])
    (cond (nat_lt n 1000) (digit (n / 100) ∷ digit (n / 10) ∷ digit n ∷ [])
    (digit (n / 1000) ∷ digit (n / 100) ∷ digit (n / 10) ∷ digit n ∷ [])))

abbrev pub space : List ℕ
space = 32 ∷ []

abbrev pub newline : List ℕ
newline = 10 ∷ []

-- the line "INDEX ANSWER" of a record
unfoldable pub line : ℕ → ℕ → List ℕ
line k answer = decimal k ++ space ++ decimal answer ++ newline

-- the line "end N"
abbrev pub end : List ℕ
end = 101 ∷ 110 ∷ 100 ∷ 32 ∷ []

unfoldable pub end_line : ℕ → List ℕ
end_line n = end ++ decimal n ++ newline

-- the line "long"
abbrev pub long : List ℕ
long = 108 ∷ 111 ∷ 110 ∷ 103 ∷ 10 ∷ []

-- the line "bad INDEX NUMBER" of a tape with a bad record (rule P3)
abbrev pub bad : List ℕ
bad = 98 ∷ 97 ∷ 100 ∷ 32 ∷ []

unfoldable pub bad_line : ℕ → ℕ → List ℕ
bad_line k n = bad ++ line k n

-- a line for each answer, from index k on
unfoldable pub lines : ℕ → List ℕ → List ℕ
lines k [] = []
lines k (a ∷ others) = line k a ++ lines (k + 1) others
