-- One row for each kind: the fields that it uses and their ranges, its largest flags, whether it is a TM instruction and whether it is
-- privileged (docs/RULES.md, the table of kinds). The numbers 4, 8, 9, 11 and 12 follow it.
use Rattle.std.specs.Prelude.{ℕ, zero, suc, ◌*◌, ◌%◌, Bool, true, false, ◌&&◌, ◌||◌, List, [], ◌∷◌, nat_le, nat_lt, slice_index_or, ◌==◌}
use Rattle.base.specs.Limits.{doubleword_bytes, gprs, cr_fields, page_size}
use Rattle.kinds.specs.declared.Use.{Use}
use Rattle.kinds.specs.declared.Use.TheVariants.{No, Gpr, To, Bf, Spr}
use Rattle.kinds.specs.declared.When.{When}
use Rattle.kinds.specs.declared.When.TheVariants.{Never, Always, TmSpr, Srr}
use Rattle.kinds.specs.declared.Span.{Span}
use Rattle.kinds.specs.declared.Span.TheVariants.{Without, Doubleword, Byte, Halfword, Word, Page}
use Rattle.kinds.specs.declared.Row.{Row}

abbrev pub line : (x ra rb : Use) (flags : ℕ) (index : Span) (si : Bool) (tm privileged : When) → Row
line x ra rb flags index si tm privileged =
    record { x = x; ra = ra; rb = rb; flags = flags; index = index; si = si; tm = tm; privileged = privileged }

-- a number that is no kind uses nothing
abbrev pub no_row : Row
no_row = line No No No 0 Without false Never Never

-- X, RA, RB, largest flags, index, SI, TM instruction, privileged
unfoldable pub rows : List Row
rows =
    line No No No 1 Without false Always Never  -- 1 tbegin.: R
    ∷ line No No No 1 Without false Always Never  -- 2 tend.: A
    ∷ line No Gpr No 0 Without false Always Never  -- 3 tabort.
    ∷ line To Gpr Gpr 0 Without false Always Never  -- 4 tabortwc.
    ∷ line To Gpr Gpr 0 Without false Always Never  -- 5 tabortdc.
    ∷ line No No No 1 Without false Always Never  -- 6 tsr.: L
    ∷ line Bf No No 0 Without false Always Never  -- 7 tcheck
    ∷ line No Gpr No 0 Without false Always Always  -- 8 treclaim.
    ∷ line No No No 0 Without false Always Always  -- 9 trechkpt.
    ∷ line Spr Gpr No 0 Without false TmSpr Srr  -- 10 mtspr
    ∷ line Spr Gpr No 0 Without false TmSpr Srr  -- 11 mfspr: RA is RT
    ∷ line Gpr No No 0 Doubleword false Never Never  -- 12 ld
    ∷ line No Gpr No 0 Doubleword false Never Never  -- 13 std
    ∷ line Gpr Gpr No 0 Without true Never Never  -- 14 addi
    ∷ line No No No 0 Without false Never Never  -- 15 a disallowed instruction
    ∷ line No No No 0 Without false Never Never  -- 16 interrupt taken
    ∷ line No No No 3 Without false Never Never  -- 17 host: PR + 2 x TM
    ∷ line No No No 0 Without false Never Always  -- 18 rfid
    ∷ line No No No 15 Without false Never Always  -- 19 mtmsrd: TS + 4 x TM + 8 x PR
    ∷ line Gpr No No 0 Byte false Never Never  -- 20 lbz
    ∷ line Gpr No No 0 Halfword false Never Never  -- 21 lhz
    ∷ line Gpr No No 0 Word false Never Never  -- 22 lwz
    ∷ line No Gpr No 0 Byte false Never Never  -- 23 stb
    ∷ line No Gpr No 0 Halfword false Never Never  -- 24 sth
    ∷ line No Gpr No 0 Word false Never Never  -- 25 stw
    ∷ line No No No 0 Page false Never Always  -- 26 tlbie
    ∷ []

-- number 8: the kinds are those that have a row
unfoldable pub kind_right : ℕ → Bool
kind_right k = nat_le 1 k && nat_le k 26

unfoldable pub row : ℕ → Row
unfolding rows
row zero = no_row
row (suc k) = slice_index_or rows k no_row

-- ---- what a row tells

abbrev pub used : Use → Bool
used No = false
used Gpr = true
used To = true
used Bf = true
used Spr = true

-- SPR 128 to 131 are the failure registers, SPR 26 and 27 are SRR0 and SRR1
abbrev pub tm_spr : ℕ → Bool
tm_spr v = nat_le 128 v && nat_le v 131

abbrev pub srr : ℕ → Bool
srr v = nat_le 26 v && nat_le v 27

-- number 4: used registers to 31, TO to 31, BF to 7, SPR 26, 27 or 128 to 131
abbrev pub in_range : Use → ℕ → Bool
in_range No v = true
in_range Gpr v = nat_lt v gprs
in_range To v = nat_lt v 32
in_range Bf v = nat_le v cr_fields
in_range Spr v = srr v || tm_spr v

-- the index field is used: for a doubleword, for the address of a byte, or for a page
abbrev pub spans : Span → Bool
spans Without = false
spans Doubleword = true
spans Byte = true
spans Halfword = true
spans Word = true
spans Page = true

-- number 4: a byte address in a memory of len doublewords is a multiple of the access's width (rule M17)
abbrev pub addressed : (width i len : ℕ) → Bool
addressed width i len = ((i % width) == 0) && nat_lt i (doubleword_bytes * len)

-- number 4: a doubleword is in a memory of len doublewords, and so are the bytes at an address, and the first line of a page (rule M16)
abbrev pub in_memory : Span → ℕ → ℕ → Bool
in_memory Without i len = true
in_memory Doubleword i len = nat_lt i len
in_memory Byte i len = addressed 1 i len
in_memory Halfword i len = addressed 2 i len
in_memory Word i len = addressed 4 i len
in_memory Page i len = nat_lt (page_size * i) len

-- whether it is so with X
abbrev pub holds : When → ℕ → Bool
holds Never x = false
holds Always x = true
holds TmSpr x = tm_spr x
holds Srr x = srr x
