use Rattle.std.proofs.Common.{◌≡◌, true, ◌-◌, ◌/◌, length}
use Rattle.machine.specs.Valid.{valid}
use Rattle.run_rules.specs.Inner.{filled}
use Rattle.run_rules.specs.Records.{reads, play}
use Rattle.run.proofs.run_valid.Given as goal

-- the machine is valid here, and the run with what is left, its answers from place k on, is the whole run
abbrev pub invariant-loop-k : goal.invariant-loop-k
invariant-loop-k l =
    record {
      sound : valid l.machine (length l.mem) ≡ true;
      rest : filled l.answers l.k (play (reads l.tape l.k (length l.tape / 16 - l.k)) l.k l.machine l.mem) ≡ filled l.fn.answers 0 (play (reads l.tape 0 (length l.tape / 16)) 0 l.fn.m l.fn.mem);
    }
