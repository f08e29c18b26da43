-- The promises hold.
use mathlib.Core.Path.{◌≡◌, refl, ap, ◌∙◌}
use mathlib.Core.Bool.{Bool, true, false, cond}
use Prim.Native.Nat.{ℕ, ◌+◌, ◌*◌, ◌/◌, ◌%◌, ◌<◌, ◌^◌}
use native.Mathlib.Omega.{arith}
use lib.Dec.{eqb, leb}
use lib.Bits.{xor_self}
use Rattle.std.proofs.lemmas.Bool.Decides.{nat_tests}
use Rattle.std.proofs.Math.Bool.{and-false, and-not_self}
use borrow.Author.Tests.{eq-eqb, ne_eqb}
use Rattle.base.specs.Below.{bit}
use Rattle.base.proofs.Below.{bit_lt}
use Rattle.thread.specs.Texasr.{fs, rot, tl, upper, packed}
use Rattle.hardware.specs.Fields.{bit_at, code, causes, named, one_of, told}
use Rattle.hardware.specs.Table.{seven, first_byte, exact, level}
use Rattle.hardware.specs.Render.{rendered, going, value, care}
use Rattle.hardware.specs.Judge.{form, is_other, judged, tfiar, tfiar_differing, compared}
use Rattle.hardware.specs.declared.Seventh.{Seventh}
use Rattle.hardware.specs.declared.Seventh.TheVariants.{Free, Zero, One}
use Rattle.hardware.specs.declared.Profile.{Profile}
use Rattle.laws_hardware.specs.Promises.{EqualToItself, AllEqual, RenderedOnce, SameWithoutHv, Table, States, Verdicts, Decided, Bench, all_judged, split, fixed, free, row_right, rows_right, state_right, states_right}

-- ---- the table's numbers fit their fields

seven_lt : (s : Seventh) → seven s < 2
seven_lt Free = omega arith
seven_lt Zero = omega arith
seven_lt One = omega arith

first_byte_lt : (s : Seventh) (b c : ℕ) → c < 2 ^ 8 → first_byte s b c < 2 ^ 8
first_byte_lt s b c h = grind (arith, seven_lt)

exact_lt : (b e : ℕ) → e < 2 → exact b e < 2
exact_lt b e h = grind arith

level_lt : (p : Profile) (b l : ℕ) → l < 2 ^ 12 → level p b l < 2 ^ 12
level_lt p b l h = grind arith

-- ---- a value rendered tells the same cause, and its fields are the table's

module _ (p : Profile) (x b : ℕ) where
  abbrev c : ℕ
  c = first_byte p.seventh b (code x) * 2 ^ 24 + causes x

  abbrev e : ℕ
  e = exact b (bit_at 37 x)

  abbrev l : ℕ
  l = level p b (tl x)

  he : e < 2
  he = exact_lt b (bit_at 37 x) (omega arith)

  hl : l < 2 ^ 12
  hl = level_lt p b (tl x) (omega arith)

  hc : first_byte p.seventh b (code x) < 2 ^ 8
  hc = first_byte_lt p.seventh b (code x) (omega arith)

  rendered_fs : fs (rendered p x b) ≡ 1
  rendered_fs = omega (arith, he, hl, bit_lt p.hv)

  rendered_upper : upper (rendered p x b) ≡ c
  rendered_upper = omega (arith, he, hl, bit_lt p.hv)

  rendered_causes : causes (rendered p x b) ≡ causes x
  rendered_causes = ap (λ (n : ℕ). n % 2 ^ 24) rendered_upper ∙ omega arith

  rendered_code : code (rendered p x b) ≡ first_byte p.seventh b (code x)
  rendered_code = omega (arith, he, hl, hc, bit_lt p.hv)

  rendered_32 : bit_at 32 (rendered p x b) ≡ bit_at 32 x
  rendered_32 = omega (arith, he, hl, bit_lt p.hv)

  rendered_35 : bit_at 35 (rendered p x b) ≡ bit_at 35 x
  rendered_35 = omega (arith, he, hl, bit_lt p.hv)

  rendered_37 : bit_at 37 (rendered p x b) ≡ e
  rendered_37 = omega (arith, he, hl, bit_lt p.hv)

  rendered_rot : rot (rendered p x b) ≡ rot x
  rendered_rot = omega (arith, he, hl, bit_lt p.hv)

  rendered_tl : tl (rendered p x b) ≡ l
  rendered_tl = omega (arith, he, hl, bit_lt p.hv)

  rendered_again : rendered p (rendered p x b) b ≡ rendered p x b
  rendered_again =
      simp (rendered_causes, rendered_code, rendered_32, rendered_35, rendered_37, rendered_rot, rendered_tl) (grind arith)

-- a cause is told only where FS = 1
told_failed : (x : ℕ) → leb 8 (told x) ≡ true → told x ≡ one_of named (causes x)
unfolding told
told_failed x h = grind (arith, nat_tests)

rendered_told : (p : Profile) (x b : ℕ) → told (rendered p x b) ≡ one_of named (causes x)
unfolding told
rendered_told p x b = simp (eq-eqb _ _ (rendered_fs p x b), rendered_causes p x b)

-- where no failure is recorded ROT and the level are kept, and FS = 0
going_fs : (x : ℕ) → fs (going x) ≡ 0
going_fs x = omega arith

going_told : (x : ℕ) → told (going x) ≡ 0
unfolding told
going_told x = simp (going_fs x)

going_again : (x : ℕ) → going (going x) ≡ going x
going_again x = omega arith

value_told : (p : Profile) (x : ℕ) → told (value p x) ≡ told x
unfolding value
value_told p x = grind (arith, nat_tests, rendered_told, told_failed, going_told)

-- ---- the promises

pub rendered_once : RenderedOnce
unfolding value
rendered_once p x = grind (arith, nat_tests, rendered_told, told_failed, rendered_again, going_told, going_again)

other_itself : (p : Profile) (x : ℕ) → is_other p x (value p x) ≡ false
unfolding is_other
other_itself p x = simp (xor_self (value p x)) (and-not_self (eqb (tl (value p x)) 0))

pub equal_to_itself : EqualToItself
unfolding judged
equal_to_itself p x h =
    simp (value_told p x, ne_eqb (told x) 1 h, eq-eqb (told x) (told x) refl, other_itself p x, and-false, xor_self (value p x))

tfiar_itself : (p : Profile) (x m h : ℕ) → tfiar_differing p x m h (tfiar p m) ≡ 0
unfolding tfiar_differing
tfiar_itself p x m h = simp (xor_self (tfiar p m)) (grind arith)

pub all_equal : AllEqual
unfolding compared
all_equal p m h =
    let j = equal_to_itself p m.texasr h in
    let t = tfiar_itself p m.texasr m.tfiar (value p m.texasr) in
    simp (j, t, xor_self m.tfhar, xor_self m.cr0) (grind arith)

-- a failure without HV whose cause the table leaves as it is
module _ (p : Profile) (c s pr e r l b : ℕ) (hv : p.hv ≡ false) (hc : c < 2 ^ 32) (hs : s < 2) (hp : pr < 2) (he : e < 2) (hr : r < 2) (hl : l < 2 ^ 12)
    (cause : one_of named (c % 2 ^ 24) ≡ b) (first : first_byte p.seventh b (c / 2 ^ 24) ≡ c / 2 ^ 24) (same : exact b e ≡ e) (other : eqb b 9 ≡ false) (known : leb 8 b ≡ true) where
  abbrev x : ℕ
  x = packed c s pr e r l

  x_fs : fs x ≡ 1
  x_fs = omega arith

  x_causes : causes x ≡ c % 2 ^ 24
  x_causes = omega arith

  x_code : code x ≡ c / 2 ^ 24
  x_code = omega arith

  x_32 : bit_at 32 x ≡ s
  x_32 = omega arith

  x_35 : bit_at 35 x ≡ pr
  x_35 = omega arith

  x_37 : bit_at 37 x ≡ e
  x_37 = omega arith

  x_rot : rot x ≡ r
  x_rot = omega arith

  x_tl : tl x ≡ l
  x_tl = omega arith

  x_told : told x ≡ b
  unfolding told
  x_told = simp (eq-eqb _ _ x_fs, x_causes, cause)

  -- bits 0:7, exact, the level and HV are those of x
  kept : rendered p x b ≡ x
  kept =
      let f : first_byte p.seventh b (code x) ≡ c / 2 ^ 24 = ap (λ (n : ℕ). first_byte p.seventh b n) x_code ∙ first in
      let g : exact b (bit_at 37 x) ≡ e = ap (λ (n : ℕ). exact b n) x_37 ∙ same in
      let m : level p b (tl x) ≡ l = ap (λ (t : Bool). cond t (p.highest % 2 ^ 12) (tl x)) other ∙ x_tl in
      let n : bit p.hv ≡ 0 = ap bit hv in
      omega (arith, x_causes, x_32, x_35, x_rot)

  left : value p x ≡ x
  unfolding value
  left = simp (x_told, known) kept

pub same_without_hv : SameWithoutHv
unfolding one_of
same_without_hv p s pr r l code hv (hs, hp, hr, hl, hc) = (
  left p 0x00080000 s pr 0 r l 12 hv (omega arith) hs hp (omega arith) hr hl refl refl refl refl refl,
  left p (code * 2 ^ 24 + 1) s pr 1 r l 31 hv (omega arith) hs hp (omega arith) hr hl
      (ap (one_of named) (abort_bit code)) (omega arith) refl refl refl,
)
  where
    abort_bit : (n : ℕ) → (n * 2 ^ 24 + 1) % 2 ^ 24 ≡ 1
    abort_bit n = omega arith

pub table : Table
unfolding fixed free row_right rows_right value care told one_of
table true true = refl
table true false = refl
table false true = refl
table false false = refl

pub states : States
unfolding fixed free state_right states_right value care told one_of
states true = (refl, refl)
states false = (refl, refl)

pub bench : Bench
unfolding fixed free value care told one_of
bench =
    record { k3 = refl; k5 = refl; k5_exact = refl; k6 = refl; k7 = refl; k7_seven = refl; k7_zero = refl; k7_one = refl }

pub verdicts : (late : Bool) → Verdicts late
unfolding value care told one_of form is_other judged all_judged split
verdicts true =
    record {
      went_on = refl;
      disallowed = refl;
      nesting = refl;
      footprint = refl;
      own_store = refl;
      plain_conflict = refl;
      conflict = refl;
      translation = refl;
      translation_waits = refl;
      abort = refl;
      lower = refl;
    }
verdicts false =
    record {
      went_on = refl;
      disallowed = refl;
      nesting = refl;
      footprint = refl;
      own_store = refl;
      plain_conflict = refl;
      conflict = refl;
      translation = refl;
      translation_waits = refl;
      abort = refl;
      lower = refl;
    }

pub decided : Decided
unfolding value care told one_of form is_other judged
decided =
    record {
      code = refl;
      two = refl;
      none = refl;
      deep = refl;
      depth = refl;
      lost = refl;
      committed = refl;
      going = refl;
      again = refl;
      persistent = refl;
      sooner = refl;
    }
