-- What comes of every return that can be asked for, as the page of the rules prints it (rule E0.11). Proved in proofs/Table.antt.
use Rattle.std.specs.Prelude.{◌≡◌, Bool, true, false, cond, List, [], ◌∷◌, ℕ, ◌+◌, ◌*◌, ◌-◌, ◌/◌, ◌%◌, ◌<◌, length, slice_index_or, ◌==◌}
use Rattle.base.specs.Below.{bit}
use Rattle.transaction.specs.declared.Cause.TheVariants.{Disallowed}
use Rattle.thread.specs.declared.State.{State}
use Rattle.thread.specs.declared.State.TheVariants.{N, T, S}
use Rattle.thread.specs.declared.Thread.{Thread}
use Rattle.event.specs.declared.Event.TheVariants.{Rfid, Mtmsrd}
use Rattle.power_rules.specs.Common.{did, quiet, next, fails}
use Rattle.machine.specs.Machine.{thread}
use Rattle.machine.specs.Valid.{valid}
use Rattle.machine.specs.declared.Machine.{Machine}
use Rattle.step_rules.specs.Step.{Outcome, outcome, applied, step}

-- a cell: a Bad Thing; a failure; or the state and TM that come
pub data Cell : Type 0 where
  bad fall : Cell
  to : State → Bool → Cell

-- asked are, from left to right, N, S, T and TS = 11, each with TM 0 and TM 1
abbrev pub table : List (List Cell)
table =
    (to N false ∷ to N true ∷ bad ∷ bad ∷ bad ∷ bad ∷ bad ∷ bad ∷ [])  -- N, TM 0
    ∷ (to N false ∷ to N true ∷ bad ∷ bad ∷ bad ∷ bad ∷ bad ∷ bad ∷ [])  -- N, TM 1
    ∷ (to S false ∷ bad ∷ to S false ∷ to S true ∷ bad ∷ to T true ∷ bad ∷ bad ∷ [])  -- S, TM 0
    ∷ (bad ∷ bad ∷ to S false ∷ to S true ∷ bad ∷ to T true ∷ bad ∷ bad ∷ [])  -- S, TM 1
    ∷ (fall ∷ fall ∷ fall ∷ fall ∷ fall ∷ fall ∷ fall ∷ fall ∷ [])  -- T, TM 0
    ∷ (fall ∷ fall ∷ fall ∷ fall ∷ fall ∷ fall ∷ fall ∷ fall ∷ [])  -- T, TM 1
    ∷ []

abbrev pub down : State → ℕ
down N = 0
down S = 2
down T = 4

-- the cell of a state and TM, and of TS in two bits and TM that are asked
abbrev pub cell : State → Bool → (t s tm : Bool) → Cell
cell st now t s tm = slice_index_or (slice_index_or table (down st + bit now) []) (4 * bit t + 2 * bit s + bit tm) bad

-- the thread on at an address with these; and the thread whose failure is handled
abbrev pub comes : Thread → State → (tm pr : Bool) → ℕ → Thread
comes t s tm pr at =
    record {
      live = t.live;
      cr0 = t.cr0;
      checkpoint = t.checkpoint;
      control =
          record {
            nia = at;
            msr = record { pr = pr; tm = tm; state = s; doomed = t.control.msr.doomed };
            failure = t.control.failure;
            saved = t.control.saved;
          };
      transaction = t.transaction;
    }

abbrev pub handles : Thread → (tm pr : Bool) → Thread
handles t tm pr =
    record {
      live = t.checkpoint;
      cr0 = 0b1010;
      checkpoint = t.checkpoint;
      control =
          record {
            nia = t.control.failure.tfhar;
            msr = record { pr = pr; tm = tm; state = N; doomed = false };
            failure = t.control.failure;
            saved = t.control.saved;
          };
      transaction = t.transaction;
    }

-- what a step leaves of a cell: the answer, and the thread on at an address
abbrev pub arrives : State → Thread → (tm pr : Bool) → ℕ → Machine → List ℕ → ℕ → Outcome
arrives N t tm pr at m mem w = applied m mem w (quiet (did 0 (comes t N tm pr at)))
arrives T t tm pr at m mem w =
    cond t.control.msr.doomed (applied m mem w (quiet (did 20 (handles t tm pr)))) (applied m mem w (quiet (did 0 (comes t T tm pr at))))
arrives S t tm pr at m mem w = applied m mem w (quiet (did 0 (comes t S tm pr at)))

abbrev pub given : Cell → Thread → (pr : Bool) → ℕ → Machine → List ℕ → ℕ → Outcome
given bad t pr at m mem w = outcome 13 m mem
given fall t pr at m mem w = applied m mem w (quiet (fails t Disallowed))
given (to s tm) t pr at m mem w = arrives s t tm pr at m mem w

-- a privileged thread of a valid machine
pub record Privileged (m : Machine) (mem : List ℕ) (w : ℕ) : Type 0 where
  pub valid : valid m (length mem) ≡ true
  pub there : w < m.count
  pub privileged : (thread m.threads w).control.msr.pr ≡ false

-- mtmsrd, whatever it asks for, from every state, TM and TDOOMED
abbrev pub MtmsrdByTable : Type 0
MtmsrdByTable =
    (m : Machine) (mem : List ℕ) (w : ℕ) → Privileged m mem w → (t s tm pr : Bool)
    → let u = thread m.threads w in
    step m mem w (Mtmsrd t s tm pr) ≡ given (cell u.control.msr.state u.control.msr.tm t s tm) u pr (next u.control.nia) m mem w

-- rfid, whatever SRR1 and SRR0 hold
abbrev pub one : ℕ → ℕ → Bool
one x weight = (x / weight % 2) == 1

abbrev pub RfidByTable : Type 0
RfidByTable =
    (m : Machine) (mem : List ℕ) (w : ℕ) → Privileged m mem w
    → let u = thread m.threads w in
    let x = u.control.saved.srr1 in
    let a = u.control.saved.srr0 in
    step m mem w Rfid
    ≡ given (cell u.control.msr.state u.control.msr.tm (one x 0x400000000) (one x 0x200000000) (one x 0x100000000)) u (one x 0x4000) (a - a % 4) m mem w
