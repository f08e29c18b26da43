-- What the comparison promises: of every value, and of a table with one row for each cause (rules B3 to B6).
use Rattle.std.specs.Prelude.{ℕ, ◌+◌, ◌-◌, ◌*◌, ◌<◌, ◌^◌, ◌≡◌, Bool, true, false, cond, ◌&&◌, List, [], ◌∷◌, ◌==◌}
use Rattle.std.specs.Int.Bits.{bit_and}
use Rattle.base.specs.Limits.{most_levels}
use Rattle.transaction.specs.declared.Cause.{Cause}
use Rattle.transaction.specs.declared.Cause.TheVariants.{Disallowed, Nesting, Footprint, OwnStore, PlainConflict, Conflict, Translation, Abort}
use Rattle.thread.specs.Texasr.{weight, packed, cause_bits}
use Rattle.hardware.specs.Fields.{told}
use Rattle.hardware.specs.Render.{value, care}
use Rattle.hardware.specs.Judge.{judged, judgement, tfiar, only, compared}
use Rattle.hardware.specs.declared.Seventh.{Seventh}
use Rattle.hardware.specs.declared.Seventh.TheVariants.{Free, Zero, One}
use Rattle.hardware.specs.declared.Profile.{Profile}
use Rattle.hardware.specs.declared.Registers.{Registers}
use Rattle.hardware.specs.declared.Verdict.{Verdict}
use Rattle.hardware.specs.declared.Verdict.TheVariants.{Equal, Allowed, Contradicts}

-- what is rendered is equal to what it was rendered from, and rendered again stays; a TEXASR that tells no one cause is equal to nothing
abbrev pub EqualToItself : Type 0
EqualToItself = (p : Profile) (x : ℕ) → (told x ≡ 1 → ⊥) → judged p x (value p x) ≡ judgement Equal 0

-- so are all four registers
abbrev pub shown_registers : Profile → Registers → Registers
shown_registers p m = record { texasr = value p m.texasr; tfiar = tfiar p m.tfiar; tfhar = m.tfhar; cr0 = m.cr0 }

abbrev pub AllEqual : Type 0
AllEqual = (p : Profile) (m : Registers) → (told m.texasr ≡ 1 → ⊥) → compared p m (shown_registers p m) ≡ only (judgement Equal 0)

abbrev pub RenderedOnce : Type 0
RenderedOnce = (p : Profile) (x : ℕ) → value p (value p x) ≡ value p x

-- with HV = 0 a non-transactional conflict and an abort are rendered as they are
abbrev pub SameWithoutHv : Type 0
SameWithoutHv =
    (p : Profile) (s pr r l code : ℕ) → p.hv ≡ false → (s < 2) × (pr < 2) × (r < 2) × (l < 2 ^ 12) × (code < 2 ^ 8)
    → (value p (packed (cause_bits PlainConflict) s pr 0 r l) ≡ packed (cause_bits PlainConflict) s pr 0 r l)
    × (value p (packed (cause_bits (Abort code)) s pr 1 r l) ≡ packed (cause_bits (Abort code)) s pr 1 r l)

-- ---- one row for each cause

abbrev pub profile : Bool → Bool → Seventh → Profile
profile hv late s = record { highest = most_levels; hv = hv; late = late; seventh = s }

-- a cause with its bit 37 in the model; the upper half that hardware must show; bit 37: 0, 1 or free
pub data Exact : Type 0 where
  must may : ℕ → Exact

pub record Row : Type 0 where
  pub cause : Cause
  pub exact : ℕ
  pub upper : ℕ
  pub shown : Exact

abbrev pub row : Cause → ℕ → ℕ → Exact → Row
row c e u s = record { cause = c; exact = e; upper = u; shown = s }

abbrev pub rows : List Row
rows =
    row (Abort 0x00) 1 0x00000001 (must 1)
    ∷ row (Abort 0xA5) 1 0xA5000001 (must 1)
    ∷ row Disallowed 1 0x01800000 (must 1)
    ∷ row Nesting 1 0x01400000 (must 1)
    ∷ row Footprint 1 0x01200000 (must 0)
    ∷ row OwnStore 1 0x01100000 (may 1)
    ∷ row PlainConflict 0 0x00080000 (must 0)
    ∷ row Conflict 0 0x00040000 (may 0)
    ∷ row Translation 0 0x00020000 (must 0)
    ∷ []

-- a row's TEXASR in the model: by a thread in S with PR = 1, under ROT, at level 5
abbrev pub recorded : Row → ℕ
recorded r = packed (cause_bits r.cause) 1 1 r.exact 1 5

-- a field of which all bits are under care, and which shows a number
unfoldable pub fixed : Profile → ℕ → ℕ → ℕ → Bool
fixed p x mask n = (bit_and (care p x) mask == mask) && (bit_and (value p x) mask == n)

-- a field of which no bit is under care
unfoldable pub free : Profile → ℕ → ℕ → Bool
free p x mask = bit_and (care p x) mask == 0

abbrev pub exact_right : Profile → ℕ → Exact → Bool
exact_right p x (must n) = fixed p x (weight 37) (n * weight 37)
exact_right p x (may n) = free p x (weight 37)

-- bits 0:31, FS, exact; 33 and 39:51, which are reserved
unfoldable pub row_right : Profile → Row → Bool
row_right p r =
    fixed p (recorded r) ((2 ^ 32 - 1) * 2 ^ 32) (r.upper * 2 ^ 32)
    && (fixed p (recorded r) (weight 36) (weight 36) && (exact_right p (recorded r) r.shown && free p (recorded r) (weight 33 + (2 ^ 25 - 2 ^ 12))))

unfoldable pub rows_right : Profile → List Row → Bool
rows_right p [] = true
rows_right p (r ∷ rs) = row_right p r && rows_right p rs

-- where bit 7 of nesting is 1, late or at once, with HV or without
abbrev pub Table : Type 0
Table = (hv late : Bool) → rows_right (profile hv late One) rows ≡ true

-- 32, 34, 35, ROT and the level: under care for an abort, a disallowed act and nesting; for the others where the profile says at once, and
-- but for ROT that is 0 free where it says late
unfoldable pub state_right : Profile → ℕ → Bool → Bool
state_right p x true = fixed p x (weight 32 + weight 34 + weight 35 + weight 38 + (2 ^ 12 - 1)) (bit_and (value p x) (weight 32 + weight 34 + weight 35 + weight 38 + (2 ^ 12 - 1)))
state_right p x false = free p x (weight 32 + weight 34 + weight 35 + weight 38 + (2 ^ 12 - 1))

abbrev pub precise : Cause → Bool
precise Disallowed = true
precise Nesting = true
precise Footprint = false
precise OwnStore = false
precise PlainConflict = false
precise Conflict = false
precise Translation = false
precise (Abort code) = true

unfoldable pub states_right : Profile → (Cause → Bool) → List Row → Bool
states_right p f [] = true
states_right p f (r ∷ rs) = state_right p (recorded r) (f r.cause) && states_right p f rs

abbrev pub States : Type 0
States =
    (hv : Bool) → (states_right (profile hv false One) (λ c. true) rows ≡ true) × (states_right (profile hv true One) precise rows ≡ true)

-- ---- hardware failed by another cause than the model, or one of the two went on

-- a failure by cause b alone, in T with PR = 1 at level 1, as the text asks for it; 0: none
abbrev pub shown : Profile → ℕ → ℕ
shown p b = cond (b == 0) 1 (value p (weight b + weight 35 + weight 36 + 1))

abbrev pub number : Verdict → ℕ
number Equal = 0
number Allowed = 1
number Contradicts = 2

unfoldable pub all_judged : Profile → ℕ → Verdict → List ℕ → Bool
all_judged p b v [] = true
all_judged p b v (k ∷ ks) = (number (judged p (shown p b) (shown p k)).verdict == number v) && all_judged p b v ks

-- model's cause b: where hardware's is allowed, and where it contradicts
unfoldable pub split : Profile → ℕ → List ℕ → List ℕ → Bool
split p b allowed not = all_judged p b Equal (b ∷ []) && (all_judged p b Allowed allowed && all_judged p b Contradicts not)

-- late or at once, with the model's highest level and with a lower one
pub record Verdicts (late : Bool) : Type 0 where
  pub went_on : split (profile false late Free) 0 (10 ∷ 11 ∷ 12 ∷ 13 ∷ 14 ∷ 15 ∷ 16 ∷ []) (8 ∷ 9 ∷ 31 ∷ []) ≡ true
  pub disallowed : split (profile false late Free) 8 (10 ∷ 11 ∷ 12 ∷ 13 ∷ 14 ∷ 15 ∷ 16 ∷ []) (0 ∷ 9 ∷ 31 ∷ []) ≡ true
  pub nesting : split (profile false late Free) 9 (10 ∷ 11 ∷ 12 ∷ 13 ∷ 14 ∷ 15 ∷ 16 ∷ []) (0 ∷ 8 ∷ 31 ∷ []) ≡ true
  pub footprint : split (profile false late Free) 10 (0 ∷ 8 ∷ 9 ∷ 11 ∷ 12 ∷ 13 ∷ 14 ∷ 15 ∷ 16 ∷ 31 ∷ []) [] ≡ true
  pub own_store : split (profile false late Free) 11 (0 ∷ 8 ∷ 9 ∷ 10 ∷ 12 ∷ 13 ∷ 14 ∷ 15 ∷ 16 ∷ 31 ∷ []) [] ≡ true
  pub plain_conflict : split (profile false late Free) 12 (0 ∷ 8 ∷ 9 ∷ 10 ∷ 11 ∷ 13 ∷ 14 ∷ 15 ∷ 16 ∷ 31 ∷ []) [] ≡ true
  pub conflict : split (profile false late Free) 13 (0 ∷ 8 ∷ 9 ∷ 10 ∷ 11 ∷ 12 ∷ 14 ∷ 15 ∷ 16 ∷ 31 ∷ []) [] ≡ true
  pub translation : split (profile false late Free) 14 (10 ∷ 11 ∷ 12 ∷ 13 ∷ 15 ∷ 16 ∷ []) [] ≡ true
  pub translation_waits : all_judged (profile false late Free) 14 (cond late Allowed Contradicts) (0 ∷ 8 ∷ 9 ∷ 31 ∷ []) ≡ true
  pub abort : split (profile false late Free) 31 (10 ∷ 11 ∷ 12 ∷ 13 ∷ 14 ∷ 15 ∷ 16 ∷ []) (0 ∷ 8 ∷ 9 ∷ []) ≡ true
  pub lower : split (record { highest = 15; hv = false; late = late; seventh = Free }) 0 (9 ∷ []) (8 ∷ 31 ∷ []) ≡ true

-- another code; two causes at once, and none; a level that the processor has not; nesting at a level that is not the highest; a failure at
-- level 0; a transaction committed past an invalidation, and one that went on with a cause: each with the bits that decide it.
-- A conflict at another level, recorded at once, is allowed, and one with bit 7 contradicts; nesting at a lower highest level is equal with
-- another PR, and with ROT
pub record Decided : Type 0 where
  pub code : judged (profile false true Free) 0x8C0000011C000001 0x8D0000011C000001 ≡ judgement Contradicts (weight 7)
  pub two : judged (profile false true Free) 0x0008000018000001 0x000C000018000001 ≡ judgement Contradicts (weight 12 + weight 13 + weight 36)
  pub none : judged (profile false true Free) 0x0008000018000001 0x0000000018000001 ≡ judgement Contradicts (weight 36)
  pub deep : judged (record { highest = 15; hv = false; late = true; seventh = Free }) 0x000000011C000014 0x000000011C000004 ≡ judgement Contradicts 0x10
  pub depth : judged (profile false true Free) 0x0000000000000001 0x014000001C000001 ≡ judgement Contradicts (2 ^ 12 - 2)
  pub lost : judged (profile false true Free) 0x0008000018000001 0x0008000018000000 ≡ judgement Contradicts (2 ^ 12 - 1)
  pub committed : judged (profile false true Free) 0x0002000018000001 0x0000000000000000 ≡ judgement Contradicts (weight 14 + weight 36)
  pub going : judged (profile false true Free) 0x0000000000000001 0x0008000010000001 ≡ judgement Contradicts (weight 12 + weight 35)
  pub again : judged (profile false false Free) 0x0008000018000001 0x0008000018000002 ≡ judgement Allowed 3
  pub persistent : judged (profile false false Free) 0x0008000018000001 0x0108000018000002 ≡ judgement Contradicts (weight 7)
  pub sooner : judged (record { highest = 15; hv = false; late = true; seventh = Free }) 0x004000001C000FFF 0x014000000E00000F ≡ judgement Equal 0

-- ---- bench values by the text, on a processor with HV = 0 and the model's highest level

abbrev pub plain : Seventh → Profile
plain = profile false true

pub record Bench : Type 0 where
  pub k3 : value (plain Free) 0x008000000C000002 ≡ 0x018000000C000002
  pub k5 : value (plain Free) 0x001000009C000001 ≡ 0x011000009C000001
  pub k5_exact : free (plain Free) 0x001000009C000001 (weight 37) ≡ true
  pub k6 : value (plain Free) 0x002000000C000001 ≡ 0x0120000008000001
  pub k7 : value (plain Free) 0x004000001C000FFF ≡ 0x014000001C000FFF
  pub k7_seven : free (plain Free) 0x004000001C000FFF (weight 7) ≡ true
  pub k7_zero : value (plain Zero) 0x004000001C000FFF ≡ 0x004000001C000FFF
  pub k7_one : fixed (plain One) 0x004000001C000FFF (weight 7) (weight 7) ≡ true
