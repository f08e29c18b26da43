-- What is promised of the crossing: nothing is lost. Proved in proofs/Crosses.antt.
use Rattle.std.specs.Prelude.{◌≡◌, true, length}
use Rattle.base.specs.Limits.{most_threads}
use Rattle.machine.specs.declared.Machine.{Machine}
use Rattle.crossing.specs.Crossing.{right, machine_of, raw_machine}
use Rattle.crossing.specs.declared.RawMachine.{RawMachine}

-- a machine that crosses and comes back is the same
abbrev pub Forth : Type 0
Forth = (m : Machine) → length m.threads ≡ most_threads → machine_of (raw_machine m) ≡ m

-- what crosses has the bits of a machine
abbrev pub ForthRight : Type 0
ForthRight = (m : Machine) → right (raw_machine m) ≡ true

-- bits of a machine that are taken in and given out are the same
abbrev pub Back : Type 0
Back = (m : RawMachine) → length m.threads ≡ most_threads → right m ≡ true → raw_machine (machine_of m) ≡ m
