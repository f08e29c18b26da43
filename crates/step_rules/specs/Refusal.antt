-- Which event is refused, and by which number (rules N1 and N2): first 1 to 5, then 11 to 13.
use Rattle.std.specs.Prelude.{ℕ, Bool, true, false, not, cond, ◌&&◌, ◌||◌, nat_le, ◌==◌}
use Rattle.base.specs.Answers as answer
use Rattle.thread.specs.Thread.{failed}
use Rattle.thread.specs.Turns.{asked, by_srr1, turned, is_bad}
use Rattle.thread.specs.declared.State.{State}
use Rattle.thread.specs.declared.State.TheVariants.{N, T, S}
use Rattle.thread.specs.declared.Control.{Control}
use Rattle.event.specs.Event.{tend_kind, treclaim_kind, trechkpt_kind, mtspr_kind, host_kind, kind, operands_right, tm_instruction, privileged}
use Rattle.event.specs.declared.Event.{Event}
use Rattle.event.specs.declared.Event.TheVariants.{Tbegin, Tend, Tabort, Tabortwc, Tabortdc, Tsr, Tcheck, Treclaim, Trechkpt, Mtspr, Mfspr, Ld, Std, Addi, Disallowed, Interrupt, Host, Rfid, Mtmsrd, Lbz, Lhz, Lwz, Stb, Sth, Stw, Tlbie}
use Rattle.machine.specs.Machine.{thread}
use Rattle.machine.specs.Valid.{machine_number, first_of}
use Rattle.machine.specs.declared.Machine.{Machine}

-- number 5: the host's event in T
abbrev pub in_t : State → Bool
in_t N = false
in_t T = true
in_t S = false

abbrev pub host_in_t : State → ℕ → Bool
host_in_t s n = (n == host_kind) && in_t s

-- number 11: TM = 0 and a TM instruction. Number 12: PR = 1 and a privileged one
abbrev pub off : Control → Event → Bool
off k e = not k.msr.tm && tm_instruction e

abbrev pub forbidden : Control → Event → Bool
forbidden k e = k.msr.pr && privileged e

-- number 13, Bad Thing, of an event of kind n, which is a TM instruction or not: tend. in S; treclaim. in N; trechkpt. unless N and FS = 1;
-- mtspr in T, and in S where it is a TM instruction
unfoldable pub bad_thing : State → Control → ℕ → Bool → Bool
bad_thing N k n tm = (n == treclaim_kind) || (n == trechkpt_kind) && not (failed k)
bad_thing T k n tm = (n == trechkpt_kind) || (n == mtspr_kind)
bad_thing S k n tm = (n == tend_kind) || ((n == trechkpt_kind) || (n == mtspr_kind) && tm)

-- number 13 of rfid and mtmsrd: what they ask for the table forbids
unfoldable pub turned_down : Control → Event → Bool
turned_down k (Tbegin r) = false
turned_down k (Tend a) = false
turned_down k (Tabort ra) = false
turned_down k (Tabortwc to ra rb) = false
turned_down k (Tabortdc to ra rb) = false
turned_down k (Tsr l) = false
turned_down k (Tcheck bf) = false
turned_down k (Treclaim ra) = false
turned_down k Trechkpt = false
turned_down k (Mtspr spr ra) = false
turned_down k (Mfspr rt spr) = false
turned_down k (Ld rt i) = false
turned_down k (Std ra i) = false
turned_down k (Addi rt ra si) = false
turned_down k Disallowed = false
turned_down k Interrupt = false
turned_down k (Host pr tm) = false
turned_down k Rfid = is_bad (turned k.msr (by_srr1 k.saved.srr1))
turned_down k (Mtmsrd t s tm pr) = is_bad (turned k.msr (asked t s tm pr))
turned_down k (Lbz rt a) = false
turned_down k (Lhz rt a) = false
turned_down k (Lwz rt a) = false
turned_down k (Stb ra a) = false
turned_down k (Sth ra a) = false
turned_down k (Stw ra a) = false
turned_down k (Tlbie p) = false

-- the tests on the event's own thread: 5, 11, 12, 13
unfoldable pub refused_there : Control → Event → ℕ
refused_there k e =
    cond (host_in_t k.msr.state (kind e)) answer.host_in_t
    (cond (off k e) answer.facility_off
    (cond (forbidden k e) answer.privileged
    (cond (bad_thing k.msr.state k (kind e) (tm_instruction e) || turned_down k e) answer.bad_thing
    answer.done)))

-- the tests that a valid machine leaves: 3, 4, 5, 11, 12, 13
unfoldable pub refused_later : Machine → ℕ → ℕ → Event → ℕ
refused_later m len w e =
    cond (nat_le m.count w) answer.no_thread
    (cond (not (operands_right e len)) answer.operand
    (refused_there (thread m.threads w).control e))

-- the number by which an event is refused, or 0: the machine's comes first
unfoldable pub refusal : Machine → ℕ → ℕ → Event → ℕ
refusal m len w e = first_of (machine_number m len) (refused_later m len w e)
