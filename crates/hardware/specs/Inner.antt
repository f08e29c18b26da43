-- How the code names a bit of TEXASR, and what one tells: contracts cite it, and no rule is stated with it.
use Rattle.std.specs.Prelude.{ℕ, cond, nat_le, ◌==◌}
use Rattle.hardware.specs.declared.Flag.{Flag}
use Rattle.hardware.specs.declared.Flag.TheVariants.{Suspended, Hypervisor, Problem, Summary, Exact, Rot}
use Rattle.hardware.specs.declared.Told.{Told}
use Rattle.hardware.specs.declared.Told.TheVariants.{Open, Torn, Failed}

abbrev pub place : Flag → ℕ
place Suspended = 32
place Hypervisor = 34
place Problem = 35
place Summary = 36
place Exact = 37
place Rot = 38

-- the number that `told` of Fields gives, as a value of the code, and back: no number from 2 to 7 is told
abbrev pub told_by : ℕ → Told
told_by n = cond (nat_le 8 n) (Failed n) (cond (n == 0) Open Torn)

abbrev pub bit_of : Told → ℕ
bit_of Open = 0
bit_of Torn = 1
bit_of (Failed b) = b
