-- A machine as plain numbers, and back: how it crosses to a host in C or Rust.
use Rattle.std.specs.Prelude.{ℕ, Bool, cond, ◌&&◌, [], ◌∷◌, nat_le, slice_index_or, ◌==◌}
use Rattle.base.specs.Below.{bit}
use Rattle.thread.specs.declared.State.{State}
use Rattle.thread.specs.declared.State.TheVariants.{N, T, S}
use Rattle.thread.specs.declared.Control.{Control}
use Rattle.thread.specs.declared.Thread.{Thread}
use Rattle.machine.specs.Machine.{no_registers, no_lines, thread}
use Rattle.machine.specs.declared.Machine.{Machine}
use Rattle.crossing.specs.declared.RawControl.{RawControl}
use Rattle.crossing.specs.declared.RawThread.{RawThread}
use Rattle.crossing.specs.declared.RawMachine.{RawMachine}

-- N, T and S are 0, 1 and 2
unfoldable pub state_of : ℕ → State
state_of n = cond (n == 0) N (cond (n == 1) T S)

abbrev pub state_number : State → ℕ
state_number N = 0
state_number T = 1
state_number S = 2

-- PR, TM and doomed are single bits, and the state is one of the three
unfoldable pub control_right : RawControl → Bool
control_right k = nat_le k.pr 1 && nat_le k.tm 1 && nat_le k.state 2 && nat_le k.doomed 1

-- what an index past the end of the records gives
abbrev pub no_raw_thread : RawThread
no_raw_thread =
    record {
      live = no_registers;
      cr0 = 0;
      checkpoint = no_registers;
      control = record { nia = 0; pr = 0; tm = 0; state = 0; doomed = 0; tfhar = 0; tfiar = 0; texasr = 0; srr0 = 0; srr1 = 0 };
      transaction = record { reads = no_lines; writes = no_lines; count = 0; log = [] };
    }

abbrev pub raw_at : RawMachine → ℕ → RawThread
raw_at m n = slice_index_or m.threads n no_raw_thread

-- the bits are those of a machine, valid or not: of all four records, whatever the count
unfoldable pub right : RawMachine → Bool
right m =
    control_right (raw_at m 0).control && control_right (raw_at m 1).control && control_right (raw_at m 2).control
    && control_right (raw_at m 3).control

unfoldable pub control_of : RawControl → Control
control_of k =
    record {
      nia = k.nia;
      msr = record { pr = k.pr == 1; tm = k.tm == 1; state = state_of k.state; doomed = (k.doomed == 1) };
      failure = record { tfhar = k.tfhar; tfiar = k.tfiar; texasr = k.texasr };
      saved = record { srr0 = k.srr0; srr1 = k.srr1 };
    }

unfoldable pub raw_control : Control → RawControl
raw_control k =
    record {
      nia = k.nia;
      pr = bit k.msr.pr;
      tm = bit k.msr.tm;
      state = state_number k.msr.state;
      doomed = bit k.msr.doomed;
      tfhar = k.failure.tfhar;
      tfiar = k.failure.tfiar;
      texasr = k.failure.texasr;
      srr0 = k.saved.srr0;
      srr1 = k.saved.srr1;
    }

unfoldable pub thread_of : RawThread → Thread
thread_of t =
    record { live = t.live; cr0 = t.cr0; checkpoint = t.checkpoint; control = control_of t.control; transaction = t.transaction }

unfoldable pub raw_thread : Thread → RawThread
raw_thread t =
    record { live = t.live; cr0 = t.cr0; checkpoint = t.checkpoint; control = raw_control t.control; transaction = t.transaction }

unfoldable pub machine_of : RawMachine → Machine
machine_of m =
    record {
      count = m.count;
      threads = thread_of (raw_at m 0) ∷ thread_of (raw_at m 1) ∷ thread_of (raw_at m 2) ∷ thread_of (raw_at m 3) ∷ [];
    }

unfoldable pub raw_machine : Machine → RawMachine
raw_machine m =
    record {
      count = m.count;
      threads = raw_thread (thread m.threads 0) ∷ raw_thread (thread m.threads 1) ∷ raw_thread (thread m.threads 2) ∷ raw_thread (thread m.threads 3) ∷ [];
    }
