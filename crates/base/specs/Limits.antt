-- The limits (rules M1 to M11, M16, M17, V1, V9). src/lib.rt has the same numbers for the code.
use Rattle.std.specs.Prelude.{ℕ, ◌*◌}

-- bytes of a doubleword (rule M17)
abbrev pub doubleword_bytes : ℕ
doubleword_bytes = 8

-- doublewords of a line; lines of the largest memory; words of a line set, of 64 lines each
abbrev pub line_size : ℕ
line_size = 16

abbrev pub lines : ℕ
lines = 256

abbrev pub words : ℕ
words = 4

-- lines of a page; doublewords of a page; pages of the largest memory (rule M16)
abbrev pub page_lines : ℕ
page_lines = 32

abbrev pub page_size : ℕ
page_size = line_size * page_lines

abbrev pub pages : ℕ
pages = 8

-- doublewords of the largest memory, which is the fresh machine's
abbrev pub most_memory : ℕ
most_memory = line_size * lines

-- the most lines of a footprint, places of a log, levels of nesting and thread records
abbrev pub most_footprint : ℕ
most_footprint = 32

abbrev pub most_places : ℕ
most_places = 64

abbrev pub most_levels : ℕ
most_levels = 4095

abbrev pub most_threads : ℕ
most_threads = 4

-- general registers, and the CR fields that a checkpoint has: 1 to 7
abbrev pub gprs : ℕ
gprs = 32

abbrev pub cr_fields : ℕ
cr_fields = 7
