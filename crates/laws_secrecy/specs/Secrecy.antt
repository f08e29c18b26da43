-- The third demand: a transaction's data can't be seen before it commits. Proved in proofs/Secrecy.antt.
use Rattle.std.specs.Prelude.{◌≡◌, Bool, true, false, not, ◌||◌, ◌⊎◌, List, [], ◌∷◌, ◌++◌, ℕ, length, ◌==◌}
use Rattle.transaction.specs.Transaction.{entry}
use Rattle.thread.specs.declared.State.TheVariants.{T}
use Rattle.thread.specs.declared.Thread.{Thread}
use Rattle.event.specs.declared.Event.{Event}
use Rattle.event.specs.declared.Event.TheVariants.{Tbegin, Tend, Tabort, Tabortwc, Tabortdc, Tsr, Tcheck, Treclaim, Trechkpt, Mtspr, Mfspr, Ld, Std, Addi, Disallowed, Interrupt, Host, Rfid, Mtmsrd, Lbz, Lhz, Lwz, Stb, Sth, Stw, Tlbie}
use Rattle.power_rules.specs.Ends.{commits}
use Rattle.machine.specs.Machine.{thread}
use Rattle.machine.specs.Valid.{valid}
use Rattle.step_rules.specs.Refusal.{in_t, refusal}
use Rattle.step_rules.specs.Step.{Outcome, outcome, step}
use Rattle.step_rules.specs.Feed.{Fed, feed}
use Rattle.machine.specs.declared.Machine.{Machine}

-- two threads alike except for their live registers (general registers and CR fields, CR0 too) and the values in their logs; both are Transactional.
-- The logs agree on doublewords and on which bytes were stored
pub record AlikeThread (t u : Thread) : Type 0 where
  pub transactional : t.control.msr.state ≡ T
  pub control : t.control ≡ u.control
  pub checkpoint : t.checkpoint ≡ u.checkpoint
  pub reads : t.transaction.reads ≡ u.transaction.reads
  pub writes : t.transaction.writes ≡ u.transaction.writes
  pub count : t.transaction.count ≡ u.transaction.count
  pub addresses : (n : ℕ) → (entry t.transaction.log n).index ≡ (entry u.transaction.log n).index
  pub marks : (n : ℕ) → (entry t.transaction.log n).marks ≡ (entry u.transaction.log n).marks

-- two machines alike except for that of thread w
pub record Alike (w : ℕ) (m n : Machine) : Type 0 where
  pub count : m.count ≡ n.count
  pub others : (v : ℕ) → (v ≡ w → ⊥) → thread m.threads v ≡ thread n.threads v
  pub own : AlikeThread (thread m.threads w) (thread n.threads w)

-- what the thread must not execute: a tend. that commits, a suspension or an interrupt, a conditional abort, an abort or reclaim that names a register
unfoldable pub tells : Event → Thread → Bool
tells (Tbegin r) t = false
tells (Tend a) t = commits t a
tells (Tabort ra) t = not (ra == 0)
tells (Tabortwc to ra rb) t = true
tells (Tabortdc to ra rb) t = true
tells (Tsr l) t = not l
tells (Tcheck bf) t = false
tells (Treclaim ra) t = not (ra == 0)
tells Trechkpt t = false
tells (Mtspr spr ra) t = false
tells (Mfspr rt spr) t = false
tells (Ld rt i) t = false
tells (Std ra i) t = false
tells (Addi rt ra si) t = false
tells Disallowed t = false
tells Interrupt t = true
tells (Host pr tm) t = false
tells Rfid t = false
tells (Mtmsrd b29 b30 tm pr) t = false
tells (Lbz rt a) t = false
tells (Lhz rt a) t = false
tells (Lwz rt a) t = false
tells (Stb ra a) t = false
tells (Sth ra a) t = false
tells (Stw ra a) t = false
tells (Tlbie p) t = false

-- the transaction of thread w is still open: it has not failed and was not reclaimed
abbrev pub open_at : ℕ → Outcome → Bool
open_at w o = in_t (thread o.done.machine.threads w).control.msr.state

-- an event is allowed: another thread's, or refused and so not executed, or none that tells
abbrev pub allowed : ℕ → Fed → Outcome → Bool
allowed w f o =
    not (f.by == w)
    || not (refusal o.done.machine (length o.memory) f.by f.event == 0)
    || not (tells f.event (thread o.done.machine.threads w))

-- a step function: what an event by a thread leaves of a machine and its memory. The demand is stated of any, and made of `step`
abbrev pub Stepping : Type 0
Stepping = Machine → List ℕ → ℕ → Event → Outcome

abbrev pub after_by : Stepping → Outcome → Fed → Outcome
after_by s o f = s o.done.machine o.memory f.by f.event

-- until its transaction fails or is reclaimed, thread w executes only what is allowed; nothing is asked after that, nor of any other thread
unfoldable pub Until : Stepping → ℕ → List Fed → Outcome → Type 0
Until s w [] o = Unit {0}
Until s w (f ∷ fs) o = open_at w o ≡ true → (allowed w f o ≡ true) × Until s w fs (after_by s o f)

-- what stays equal: the memory, and all of the machine but those registers and values, or all of it
pub record Agree (w : ℕ) (o p : Outcome) : Type 0 where
  pub memory : o.memory ≡ p.memory
  pub machines : (o.done.machine ≡ p.done.machine) ⊎ Alike w o.done.machine p.done.machine

-- the same through a list of events, with every answer
unfoldable pub Agrees : Stepping → ℕ → List Fed → Outcome → Outcome → Type 0
Agrees s w [] o p = Agree w o p
Agrees s w (f ∷ fs) o p =
    Agree w o p × ((after_by s o f).done.answer ≡ (after_by s p f).done.answer) × Agrees s w fs (after_by s o f) (after_by s p f)

-- the demand, first part: every answer, the memory after every event, and all of the machine but those registers and values stay equal
abbrev pub SecretOf : Stepping → Type 0
SecretOf s =
    (w : ℕ) (m n : Machine) (mem : List ℕ) → valid m (length mem) ≡ true → valid n (length mem) ≡ true → Alike w m n
    → (fs : List Fed) → Until s w fs (outcome 0 m mem) → Agrees s w fs (outcome 0 m mem) (outcome 0 n mem)

abbrev pub Secret : Type 0
Secret = SecretOf step

-- second part: from the failure or reclaim on the machines are equal in everything, and so are all answers and memories, whatever follows
abbrev pub Ended : Type 0
Ended =
    (w : ℕ) (m n : Machine) (mem : List ℕ) → valid m (length mem) ≡ true → valid n (length mem) ≡ true → Alike w m n
    → (fs : List Fed) → Until step w fs (outcome 0 m mem) → open_at w (feed fs (outcome 0 m mem)) ≡ false
    → (gs : List Fed) → feed (fs ++ gs) (outcome 0 m mem) ≡ feed (fs ++ gs) (outcome 0 n mem)
