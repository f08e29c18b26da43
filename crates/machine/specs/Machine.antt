-- The machine, and the fresh one (rules M3 and M14).
use Rattle.std.specs.Prelude.{ℕ, Bool, true, false, List, [], replicate, slice_index_or}
use Rattle.base.specs.Limits.{most_memory, most_threads, gprs, cr_fields}
use Rattle.lines.specs.declared.LineSet.{LineSet}
use Rattle.transaction.specs.Transaction as transaction
use Rattle.thread.specs.declared.Registers.{Registers}
use Rattle.thread.specs.declared.State.TheVariants.{N}
use Rattle.thread.specs.declared.Control.{Control}
use Rattle.thread.specs.declared.Thread.{Thread}
use Rattle.machine.specs.declared.Machine.{Machine}

-- control registers all zero but PR and TM: of a fresh thread, and of a record that is not there
abbrev pub initial_control : Bool → Bool → Control
initial_control pr tm =
    record { nia = 0; msr = record { pr = pr; tm = tm; state = N; doomed = false }; failure = record { tfhar = 0; tfiar = 0; texasr = 0 }; saved = record { srr0 = 0; srr1 = 0 } }

-- what an index past the end of the records gives
abbrev pub no_registers : Registers
no_registers = record { gpr = []; cr = [] }

abbrev pub no_lines : LineSet
no_lines = record { words = [] }

abbrev pub no_thread : Thread
no_thread =
    record {
      live = no_registers;
      cr0 = 0;
      checkpoint = no_registers;
      control = initial_control false false;
      transaction = record { reads = no_lines; writes = no_lines; count = 0; log = [] };
    }

abbrev pub thread : List Thread → ℕ → Thread
thread ts w = slice_index_or ts w no_thread

abbrev pub with_threads : Machine → List Thread → Machine
with_threads m ts = record { count = m.count; threads = ts }

-- the fresh machine, in problem state with the facility on, and its memory
abbrev pub blank_registers : Registers
blank_registers = record { gpr = replicate gprs 0; cr = replicate cr_fields 0 }

unfoldable pub fresh_thread : Thread
fresh_thread = record { live = blank_registers; cr0 = 0; checkpoint = blank_registers; control = initial_control true true; transaction = transaction.empty }

unfoldable pub fresh : Machine
fresh = record { count = most_threads; threads = replicate most_threads fresh_thread }

abbrev pub fresh_memory : List ℕ
fresh_memory = replicate most_memory 0
