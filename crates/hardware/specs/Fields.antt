-- The fields of a TEXASR that the comparison reads, and the cause that it tells (rules B1 and B2). Sections are those of the Power ISA text.
use Rattle.std.specs.Prelude.{ℕ, ◌-◌, ◌/◌, ◌%◌, ◌^◌, cond, List, [], ◌∷◌, ◌==◌}
use Rattle.thread.specs.Texasr.{weight, fs, upper}

-- one bit
abbrev pub bit_at : ℕ → ℕ → ℕ
bit_at b x = x / weight b % 2

-- bits 0:7, the failure code with "persistent"; bits 8:31, as a number of 24 bits (8.4.2)
abbrev pub code : ℕ → ℕ
code x = x / 2 ^ 56 % 2 ^ 8

abbrev pub causes : ℕ → ℕ
causes x = upper x % 2 ^ 24

-- the causes that 8.4.2 names: 17 to 30 are kept for later ones
abbrev pub named : List ℕ
named = 8 ∷ 9 ∷ 10 ∷ 11 ∷ 12 ∷ 13 ∷ 14 ∷ 15 ∷ 16 ∷ 31 ∷ []

-- exactly one of bits 8:31 is set for a failure, and tells its cause (8.4.2, after the table). 1: it is no cause, or several
unfoldable pub one_of : List ℕ → ℕ → ℕ
one_of [] c = 1
one_of (b ∷ bs) c = cond (c == (2 ^ (31 - b))) b (one_of bs c)

-- the cause by its bit; 0: no failure is recorded, FS = 0 (8.4.2 bit 36)
unfoldable pub told : ℕ → ℕ
told x = cond (fs x == 1) (one_of named (causes x)) 0
