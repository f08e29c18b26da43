-- What hardware shows for a failure that an event of the model recorded: its value, and the bits that the Power ISA text fixes, its care
-- (rules B3 to B5).
use Rattle.std.specs.Prelude.{ℕ, ◌+◌, ◌-◌, ◌*◌, ◌^◌, cond, ◌&&◌, nat_le, ◌==◌}
use Rattle.base.specs.Below.{bit}
use Rattle.thread.specs.Texasr.{weight, rot, tl, packed}
use Rattle.hardware.specs.Fields.{bit_at, code, causes, told}
use Rattle.hardware.specs.Table.{is_free, first_byte, may_be_exact, exact, may_be_late, is_sooner, level, level_care}
use Rattle.hardware.specs.declared.Profile.{Profile}

-- bits 0:31 by the cause, 32 and 35 as the model has them, HV by the profile, FS = 1, exact by the cause, ROT, the level
abbrev pub rendered : Profile → ℕ → ℕ → ℕ
rendered p x b =
    packed (first_byte p.seventh b (code x) * 2 ^ 24 + causes x) (bit_at 32 x) (bit_at 35 x) (exact b (bit_at 37 x)) (rot x) (level p b (tl x))
    + bit p.hv * weight 34

-- no failure: an outermost tbegin. makes all but ROT and the level 0 (tbegin. in 8.5)
abbrev pub going : ℕ → ℕ
going x = rot x * weight 38 + tl x

-- a value that tells no one cause is left as it is
unfoldable pub value : Profile → ℕ → ℕ
value p x = cond (nat_le 8 (told x)) (rendered p x (told x)) (cond (told x == 0) (going x) x)

-- bits 0:31; all but bit 7 of a nesting overflow, where it is free
abbrev pub care_cause : Profile → ℕ → ℕ
care_cause p b = (2 ^ 32 - 1 - bit ((b == 9) && is_free p.seventh) * 2 ^ 24) * 2 ^ 32

-- 32, 34, 35 and the level are those of the recording (8.3.2; 8.4.2 bits 32 and 34:35)
abbrev pub care_state : Profile → ℕ → ℕ → ℕ
care_state p x b =
    cond (may_be_late p b) 0 (weight 32 + weight 34 + cond (is_sooner p b) 0 (weight 35) + level_care p (level p b (tl x)))

-- ROT. A tbegin. with R = 0 turns it off (tbegin. in 8.5): it may be off at a recording that waits, and still on at an earlier overflow
abbrev pub care_rot : Profile → ℕ → ℕ → ℕ
care_rot p x b = cond (cond (rot x == 1) (may_be_late p b) (is_sooner p b)) 0 (weight 38)

-- FS, and exact where it is fixed
abbrev pub care_exact : ℕ → ℕ
care_exact b = weight 36 + cond (may_be_exact b) 0 (weight 37)

-- 33 and 39:51 are reserved (8.4.2) and never compared. Where no failure is recorded all others are; nothing is where the value tells no
-- one cause
unfoldable pub care : Profile → ℕ → ℕ
care p x =
    cond (nat_le 8 (told x)) (care_cause p (told x) + care_state p x (told x) + care_rot p x (told x) + care_exact (told x))
    (cond (told x == 0) ((2 ^ 33 - 1) * 2 ^ 31 + (2 ^ 30 - 2 ^ 25) + level_care p (tl x)) 0)
