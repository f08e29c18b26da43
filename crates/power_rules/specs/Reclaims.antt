-- tcheck, treclaim. and trechkpt. (rules E7 to E9). Bad Things are refused, and not asked here.
use Rattle.std.specs.Prelude.{ℕ, ◌+◌, ◌-◌, ◌*◌, true, false, cond, set, ◌==◌}
use Rattle.base.specs.Below.{bit}
use Rattle.transaction.specs.Transaction as transaction
use Rattle.thread.specs.Thread.{with_live, with_cr0, with_control, with_transaction, in_state, take_checkpoint, restore}
use Rattle.thread.specs.declared.State.TheVariants.{N, S}
use Rattle.thread.specs.declared.Control.{Control}
use Rattle.thread.specs.declared.Thread.{Thread}
use Rattle.power_rules.specs.Common.{passes, ts_field, own_recording, abort_cause}
use Rattle.power_rules.specs.declared.Did.{Did}

-- 7. tcheck (BF): the CR field shows, highest bit first, doomed, the state's two bits and 0
abbrev pub put_cr : Thread → ℕ → ℕ → Thread
put_cr t bf f = cond (bf == 0) (with_cr0 t f) (with_live t (record { gpr = t.live.gpr; cr = set t.live.cr (bf - 1) f }))

abbrev pub check_field : Control → ℕ
check_field k = bit k.msr.doomed * 8 + ts_field k.msr.state

unfoldable pub tcheck : Thread → ℕ → Did
tcheck t bf = passes (put_cr t bf (check_field t.control))

-- 8. treclaim. (RA): the cause of tabort., then the checkpoint is put back and the thread is in N with nothing held
abbrev pub reclaims : Thread → Thread
reclaims t = with_transaction (with_control (restore t) (in_state t.control N false)) (transaction.discard t.transaction)

unfoldable pub treclaim : Thread → ℕ → Did
treclaim t ra = passes (with_cr0 (reclaims (own_recording t (abort_cause t ra))) (ts_field t.control.msr.state))

-- 9. trechkpt.: the live registers become the checkpoint of a suspended transaction that is doomed
unfoldable pub trechkpt : Thread → Did
trechkpt t = passes (with_control (with_cr0 (take_checkpoint t) 0) (in_state t.control S true))
