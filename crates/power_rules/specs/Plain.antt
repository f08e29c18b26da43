-- addi, a disallowed instruction, an interrupt and the host's setting (rules E14 to E17).
use Rattle.std.specs.Prelude.{ℕ, ◌+◌, ◌-◌, ◌%◌, ◌^◌, Bool, false, cond, nat_lt}
use Rattle.base.specs.Answers as answer
use Rattle.transaction.specs.declared.Cause.TheVariants.{Disallowed}
use Rattle.thread.specs.Thread.{with_control, with_msr}
use Rattle.thread.specs.Turns.{srr1_of}
use Rattle.thread.specs.declared.State.{State}
use Rattle.thread.specs.declared.State.TheVariants.{N, T, S}
use Rattle.thread.specs.declared.Control.{Control}
use Rattle.thread.specs.declared.Thread.{Thread}
use Rattle.power_rules.specs.Common.{did, passes, put_msr, put_gpr, gpr_or_0, fails}
use Rattle.power_rules.specs.declared.Did.{Did}

-- 14. addi (RT, RA, SI): register 0 reads as zero, SI is signed
abbrev pub extended : ℕ → ℕ
extended si = cond (nat_lt si 0x8000) si (si + (2 ^ 64 - 2 ^ 16))

unfoldable pub addi : Thread → ℕ → ℕ → ℕ → Did
addi t rt ra si = passes (put_gpr t rt ((gpr_or_0 t ra + extended si) % 2 ^ 64))

-- 15. a disallowed instruction
unfoldable pub disallowed : State → Thread → Did
disallowed N t = passes t
disallowed T t = fails t Disallowed
disallowed S t = passes t

-- 16. an interrupt saves NIA and the machine state, suspends, and enters privileged state with the facility off, at its handler's address
abbrev pub handler : ℕ
handler = 0x500

abbrev pub interrupted : State → State
interrupted N = N
interrupted T = S
interrupted S = S

abbrev pub enters : Control → Control
enters k =
    record {
      nia = handler;
      msr = put_msr k.msr (interrupted k.msr.state) false false;
      failure = k.failure;
      saved = record { srr0 = k.nia; srr1 = srr1_of k.msr };
    }

unfoldable pub interrupt : Thread → Did
interrupt t = did answer.done (with_control t (enters t.control))

-- 17. the host's own setting; NIA stays
unfoldable pub host : Thread → Bool → Bool → Did
host t pr tm = did answer.done (with_control t (with_msr t.control (put_msr t.control.msr t.control.msr.state pr tm)))
