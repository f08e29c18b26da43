-- The machine state in SRR1 (rule M15), and what a return makes of the one that is asked for (rule E0.11).
use Rattle.std.specs.Prelude.{ℕ, ◌+◌, ◌*◌, ◌/◌, ◌%◌, Bool, true, false, ◌==◌}
use Rattle.base.specs.Below.{bit}
use Rattle.thread.specs.Texasr.{weight}
use Rattle.thread.specs.declared.State.{State}
use Rattle.thread.specs.declared.State.TheVariants.{N, T, S}
use Rattle.thread.specs.declared.Msr.{Msr}
use Rattle.thread.specs.declared.turns.Asked.{Asked}
use Rattle.thread.specs.declared.turns.Turn.{Turn}
use Rattle.thread.specs.declared.turns.Turn.TheVariants.{Bad, Fails, To}

-- the state as two bits
abbrev pub ts : State → ℕ
ts N = 0b00
ts T = 0b10
ts S = 0b01

-- SRR1: TS in bits 29:30, TM in 31, PR in 49, and all else 0
abbrev pub srr1_of : Msr → ℕ
srr1_of m = ts m.state * weight 30 + bit m.tm * weight 31 + bit m.pr * weight 49

-- what is asked: bits 29 and 30 of TS, which are T and S; TM; PR
abbrev pub asked : (t s tm pr : Bool) → Asked
asked t s tm pr = record { t = t; s = s; tm = tm; pr = pr }

abbrev pub bit_of : ℕ → ℕ → Bool
bit_of x b = (x / weight b % 2) == 1

-- by SRR1, whatever its other bits are
unfoldable pub by_srr1 : ℕ → Asked
by_srr1 x = asked (bit_of x 29) (bit_of x 30) (bit_of x 31) (bit_of x 49)

-- the table: the state now, TS asked in its two bits, TM now, TM asked. Bad is refused by 13; in T it is a disallowed instruction
unfoldable pub table : State → (t s now tm : Bool) → Turn
table N false false now tm = To N tm
table N false true now tm = Bad
table N true s now tm = Bad
table T t s now tm = Fails
table S false false false false = To S false
table S false false false true = Bad
table S false false true tm = Bad
table S false true now tm = To S tm
table S true false now false = Bad
table S true false now true = To T true
table S true true now tm = Bad

abbrev pub turned : Msr → Asked → Turn
turned m a = table m.state a.t a.s m.tm a.tm

abbrev pub is_bad : Turn → Bool
is_bad Bad = true
is_bad Fails = false
is_bad (To s tm) = false
