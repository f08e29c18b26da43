-- The comparison on plain numbers, as hosts call it (rule B9).
use Rattle.std.specs.Prelude.{ℕ, Bool, cond, not, ◌&&◌, nat_le, ◌==◌}
use Rattle.base.specs.Answers as answer
use Rattle.hardware.specs.Fields.{told}
use Rattle.hardware.specs.Table.{is_highest, seventh_of}
use Rattle.hardware.specs.Render.{value, care}
use Rattle.hardware.specs.Judge as judge
use Rattle.hardware.specs.declared.Profile.{Profile}
use Rattle.hardware.specs.declared.Registers.{Registers}
use Rattle.hardware.specs.declared.Verdict.{Verdict}
use Rattle.hardware.specs.declared.Verdict.TheVariants.{Equal, Allowed, Contradicts}
use Rattle.hardware.specs.declared.Compared.{Compared}
use Rattle.verdict.specs.declared.raw.RawProfile.{RawProfile}
use Rattle.verdict.specs.declared.raw.RawRegisters.{RawRegisters}
use Rattle.verdict.specs.declared.raw.RawShown.{RawShown}
use Rattle.verdict.specs.declared.raw.RawVerdict.{RawVerdict}

-- what is no profile: a highest level that no processor has, HV or late that is no bit, another number for bit 7
abbrev pub right : RawProfile → Bool
right p = is_highest 8 p.highest && ((nat_le p.hv 1 && nat_le p.late 1) && nat_le p.seventh 2)

abbrev pub profile_of : RawProfile → Profile
profile_of p = record { highest = p.highest; hv = p.hv == 1; late = p.late == 1; seventh = seventh_of p.seventh }

abbrev pub registers_of : RawRegisters → Registers
registers_of r = record { texasr = r.texasr; tfiar = r.tfiar; tfhar = r.tfhar; cr0 = r.cr0 }

-- 4: no profile, or a TEXASR of the model that tells no one cause though FS = 1
abbrev pub taken : RawProfile → ℕ → Bool
taken p x = right p && not (told x == 1)

abbrev pub shown : ℕ → ℕ → ℕ → RawShown
shown n v c = record { answer = n; value = v; care = c }

unfoldable pub show : RawProfile → ℕ → RawShown
show p x = cond (taken p x) (shown answer.done (value (profile_of p) x) (care (profile_of p) x)) (shown answer.operand 0 0)

-- 0, 1 and 2
abbrev pub number : Verdict → ℕ
number Equal = 0
number Allowed = 1
number Contradicts = 2

abbrev pub refused : RawVerdict
refused = record { answer = answer.operand; verdict = 0; cr0 = 0; texasr = 0; tfiar = 0; tfhar = 0 }

abbrev pub told_as : Compared → RawVerdict
told_as c = record { answer = answer.done; verdict = number c.verdict; cr0 = c.cr0; texasr = c.texasr; tfiar = c.tfiar; tfhar = c.tfhar }

unfoldable pub compare : RawProfile → RawRegisters → RawRegisters → RawVerdict
compare p m h = cond (taken p m.texasr) (told_as (judge.compared (profile_of p) (registers_of m) (registers_of h))) refused
