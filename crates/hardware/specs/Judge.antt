-- A value read on hardware judged against the model's (rules B6 to B8).
use Rattle.std.specs.Prelude.{ℕ, ◌+◌, ◌-◌, ◌*◌, ◌%◌, ◌^◌, Bool, true, false, cond, not, ◌&&◌, ◌||◌, nat_le, ◌==◌}
use Rattle.std.specs.Int.Bits.{bit_and, bit_xor}
use Rattle.base.specs.Below.{bit}
use Rattle.base.specs.Limits.{most_levels}
use Rattle.thread.specs.Texasr.{weight, tl}
use Rattle.hardware.specs.Fields.{bit_at, told}
use Rattle.hardware.specs.Table.{is_imprecise, may_be_late, is_sooner}
use Rattle.hardware.specs.Render.{value, care}
use Rattle.hardware.specs.declared.Profile.{Profile}
use Rattle.hardware.specs.declared.Verdict.{Verdict}
use Rattle.hardware.specs.declared.Verdict.TheVariants.{Equal, Allowed, Contradicts}
use Rattle.hardware.specs.declared.Judged.{Judged}
use Rattle.hardware.specs.declared.Registers.{Registers}
use Rattle.hardware.specs.declared.Compared.{Compared}

abbrev pub judgement : Verdict → ℕ → Judged
judgement v bits = record { verdict = v; bits = bits }

-- where a hardware value h differs from what the model's x asks for
abbrev pub differing : Profile → ℕ → ℕ → ℕ
differing p x h = bit_and (bit_xor h (value p x)) (care p x)

-- bits 8:31 and 36: what tells whether there was a failure, and by which cause
abbrev pub telling : ℕ
telling = (2 ^ 24 - 1) * 2 ^ 32 + weight 36

abbrev pub by_bits : ℕ → Judged
by_bits d = cond (d == 0) (judgement Equal 0) (judgement Contradicts d)

-- where the model failed by cause b, and hardware may go on: the model's own limit of lines and places (10), conflicts that go by the
-- block's size (11 to 13), and until a late recording (8.3.1)
abbrev pub may_go_on : Profile → ℕ → Bool
may_go_on p b = nat_le 10 b && (nat_le b 13 || ((b == 14) && p.late))

-- hardware went on (k = 0) to level 0: it committed, past an invalidation (14), which fails it at the latest then (8.3.1)
abbrev pub is_committed : ℕ → ℕ → ℕ → Bool
is_committed b k l = (b == 14) && ((k == 0) && (l == 0))

-- hardware went on (k = 0) or failed by cause k at level l, where the model went on (b = 0) or failed by another cause b.
-- Where it may go on, it may also meet the program's next abort, disallowed act or overflow. Else these are the tape's, but for nesting at a
-- lower limit than the model's (8.4.2). By 10 to 16 it may fail at any time: tracking may be shared, blocks be larger, pages be invalidated
-- (8.3.1; 8.4.2 bits 10, 15 and 16)
abbrev pub may_differ : Profile → ℕ → ℕ → ℕ → Bool
may_differ p b k l = (may_go_on p b && not (is_committed b k l)) || (is_sooner p k || is_imprecise k)

abbrev pub chosen : Bool → Verdict
chosen true = Allowed
chosen false = Contradicts

-- a failure at level 0: a transaction has one from 1 on, and recording leaves it (8.3.2)
abbrev pub is_lost : ℕ → Bool
is_lost h = nat_le 8 (told h) && (tl h == 0)

-- what a hardware value has otherwise than the text gives it for its own cause
unfoldable pub form : Profile → ℕ → ℕ
form p h = cond (differing p h h == 0) (bit (is_lost h) * (2 ^ 12 - 1)) (differing p h h)

-- by another cause: what hardware shows must first have the form of that cause
abbrev pub otherwise : Profile → ℕ → ℕ → Judged
otherwise p x h =
    cond (form p h == 0) (judgement (chosen (may_differ p (told x) (told h) (tl h))) (bit_and (bit_xor h x) telling))
    (judgement Contradicts (form p h))

-- by 10 to 16 with other bits (d): it may be another failure by the same cause, of another moment, if it has its own right form
abbrev pub again : ℕ → ℕ → Judged
again d wrong = cond (wrong == 0) (judgement Allowed d) (judgement Contradicts wrong)

-- other bits; or level 0, where the level itself is not compared and the value has one
unfoldable pub is_other : Profile → ℕ → ℕ → Bool
is_other p x h = not (differing p x h == 0) || ((tl h == 0) && not (tl (value p x) == 0))

-- by the same cause, or none on both sides
abbrev pub same : Profile → ℕ → ℕ → Judged
same p x h = cond (is_imprecise (told x) && is_other p x h) (again (differing p x h) (form p h)) (by_bits (differing p x h))

unfoldable pub judged : Profile → ℕ → ℕ → Judged
judged p x h =
    cond (told h == 1) (judgement Contradicts (bit_and h telling)) (cond (told x == told h) (same p x h) (otherwise p x h))

-- TFIAR as the model's record has it, with HV by the profile (8.4.3)
abbrev pub tfiar : Profile → ℕ → ℕ
tfiar p m = m - m % 4 + bit p.hv * 2 + m % 2

-- mfspr gives 0 to a reader with less privilege (4.4.3): a 0 tells nothing unless HV and PR at the record were 0 and 1
abbrev pub hidden : ℕ → ℕ → Bool
hidden texasr r = (r == 0) && ((bit_at 34 texasr == 1) || (bit_at 35 texasr == 0))

-- the address: exact on hardware, and of the thread's own instruction: disallowed, nesting at the same limit, own conflict, abort
abbrev pub addressed : Profile → ℕ → ℕ → Bool
addressed p b h =
    (bit_at 37 h == 1) && (((b == 8) || (b == 11)) || ((b == 31) || ((b == 9) && nat_le most_levels p.highest)))

-- the bits of TFIAR that are compared: the address; HV and PR where 34:35 are
abbrev pub tfiar_care : Profile → ℕ → ℕ → ℕ
tfiar_care p b h = bit (addressed p b h) * (2 ^ 64 - 4) + cond (may_be_late p b) 0 (cond (is_sooner p b) 2 3)

-- where TFIAR differs, for a failure by the same cause
unfoldable pub tfiar_differing : (p : Profile) (x m h r : ℕ) → ℕ
tfiar_differing p x m h r = cond (hidden x m || hidden h r) 0 (bit_and (bit_xor r (tfiar p m)) (tfiar_care p (told x) h))

-- TFHAR, whose bits 62:63 are reserved (8.4.1); CR0, whose bit 3 is kept for later use (Book I 2.3.1)
abbrev pub tfhar_differing : ℕ → ℕ → ℕ
tfhar_differing m r = bit_and (bit_xor r m) (2 ^ 64 - 4)

abbrev pub cr0_differing : ℕ → ℕ → ℕ
cr0_differing m r = bit_and (bit_xor r m) 0b1110

-- all four registers: the other three count where both failed by the same cause
abbrev pub alike : Registers → Registers → Bool
alike m h = (told m.texasr == told h.texasr) && nat_le 8 (told m.texasr)

abbrev pub only : Judged → Compared
only j = record { verdict = j.verdict; texasr = j.bits; tfiar = 0; tfhar = 0; cr0 = 0 }

-- TFIAR or TFHAR differs, by cause b: a failure by 10 to 16 may be another, of another moment; others contradict
abbrev pub elsewhere : Bool → Verdict → Verdict
elsewhere true Equal = Allowed
elsewhere true Allowed = Allowed
elsewhere true Contradicts = Contradicts
elsewhere false v = Contradicts

-- the verdict on TEXASR, if the others are the same; a handler's CR0 is the same for each failure
abbrev pub with_others : ℕ → Judged → ℕ → ℕ → ℕ → Compared
with_others b j tfiar tfhar cr0 =
    record {
      verdict = cond (cr0 == 0) (cond ((tfiar == 0) && (tfhar == 0)) j.verdict (elsewhere (is_imprecise b) j.verdict)) Contradicts;
      texasr = j.bits;
      tfiar = tfiar;
      tfhar = tfhar;
      cr0 = cr0;
    }

unfoldable pub compared : Profile → Registers → Registers → Compared
compared p m h =
    cond (alike m h)
    (with_others (told m.texasr) (judged p m.texasr h.texasr) (tfiar_differing p m.texasr m.tfiar h.texasr h.tfiar) (tfhar_differing m.tfhar h.tfhar)
    (cr0_differing m.cr0 h.cr0))
    (only (judged p m.texasr h.texasr))
