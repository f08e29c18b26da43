-- What the Power ISA text fixes for each cause, which is told by its bit from 8 on (rules B3 to B5).
use Rattle.std.specs.Prelude.{ℕ, zero, suc, ◌+◌, ◌-◌, ◌%◌, ◌^◌, Bool, true, false, cond, ◌&&◌, ◌||◌, nat_le, nat_lt, ◌==◌}
use Rattle.base.specs.Limits.{most_levels}
use Rattle.hardware.specs.declared.Seventh.{Seventh}
use Rattle.hardware.specs.declared.Seventh.TheVariants.{Free, Zero, One}
use Rattle.hardware.specs.declared.Profile.{Profile}

-- bit 7 of a nesting overflow: 1 by 8.4.2 bit 7, 0 by the cause that tbegin. names in 8.5
abbrev pub seven : Seventh → ℕ
seven Free = 1
seven Zero = 0
seven One = 1

abbrev pub is_free : Seventh → Bool
is_free Free = true
is_free Zero = false
is_free One = false

-- bits 0:7. An abort's are the program's (8.4.2 bits 0:6, 7 and 31; tabort. in 8.5, treclaim. in 4.4.2+); else 0:6 are 0, and bit 7 is 1 for
-- causes in 8:11 and 0 for the others (8.4.2 bit 7)
abbrev pub first_byte : Seventh → ℕ → ℕ → ℕ
first_byte s b code = cond (b == 31) code (cond (b == 9) (seven s) (cond (nat_le b 11) 1 0))

-- "TFIAR is exact" for disallowed, nesting and abort; "may be exact" for own conflict, transaction conflict, 15 and 16; "is an
-- approximation" for footprint, non-transactional conflict and translation (8.4.2, each bit)
abbrev pub may_be_exact : ℕ → Bool
may_be_exact b = ((b == 11) || (b == 13)) || ((b == 15) || (b == 16))

abbrev pub is_exact : ℕ → Bool
is_exact b = ((b == 8) || (b == 9)) || (b == 31)

abbrev pub exact : ℕ → ℕ → ℕ
exact b was = cond (may_be_exact b) was (cond (is_exact b) 1 0)

-- every cause but disallowed, nesting and abort is imprecise (8.3.1), and recording of an imprecise one may wait until handling (8.3.1; the
-- note at 8.4.2 bits 34:35)
abbrev pub is_imprecise : ℕ → Bool
is_imprecise b = nat_le 10 b && nat_le b 16

abbrev pub may_be_late : Profile → ℕ → Bool
may_be_late p b = p.late && is_imprecise b

-- with a lower highest level than the model's an earlier tbegin. overflows, maybe with another PR; and under a ROT that a later one ended
abbrev pub is_sooner : Profile → ℕ → Bool
is_sooner p b = (b == 9) && nat_lt p.highest most_levels

-- the level: recording leaves it (8.3.2), and at a nesting overflow it is the highest (tbegin. in 8.5), which is the processor's (8.4.2)
abbrev pub level : Profile → ℕ → ℕ → ℕ
level p b was = cond (b == 9) (p.highest % 2 ^ 12) was

-- the bits of the level that are not treated as reserved (8.4.2, after the table)
abbrev pub level_bits : Profile → ℕ
level_bits p = p.highest % 2 ^ 12

-- those that are compared: all, where the processor has no such level
abbrev pub level_care : Profile → ℕ → ℕ
level_care p l = cond (nat_le l (level_bits p)) (level_bits p) (2 ^ 12 - 1)

-- a highest level is 2 ^ t - 1 with t from 4 to 12 (8.4.2)
unfoldable pub is_highest : ℕ → ℕ → Bool
is_highest zero n = n == (2 ^ 4 - 1)
is_highest (suc k) n = (n == (2 ^ (k + 5) - 1)) || is_highest k n

-- bit 7 of nesting from a host's number: 0, 1, or 2 where it is free
abbrev pub seventh_of : ℕ → Seventh
seventh_of n = cond (n == 0) Zero (cond (n == 1) One Free)
