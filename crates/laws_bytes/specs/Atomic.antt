-- Single-copy atomicity: an aligned access of one, two, four or eight bytes is made at once. Who sees one byte of a store sees all of them
-- that it looks at, and nobody sees one before. Bytes go by their addresses here (rule M17). Proved in proofs/Atomic.antt.
use Rattle.std.specs.Prelude.{◌≡◌, Bool, true, false, cond, Option, Some, None, List, ◌⊎◌, ℕ, ◌+◌, ◌-◌, ◌%◌, ◌≤◌, ◌<◌, length, nat_lt, slice_index}
use Rattle.lines.specs.Lines.{place}
use Rattle.doubleword.specs.Doubleword.{byte, doubleword_of, lowest, part}
use Rattle.transaction.specs.Transaction.{entry, line, lookup, load}
use Rattle.transaction.specs.declared.Entry.{Entry}
use Rattle.transaction.specs.declared.Transaction.{Transaction}
use Rattle.thread.specs.declared.State.TheVariants.{T}
use Rattle.thread.specs.declared.Thread.{Thread}
use Rattle.event.specs.declared.Event.{Event}
use Rattle.event.specs.declared.Event.TheVariants.{Tend, Ld, Std, Lbz, Lhz, Lwz, Stb, Sth, Stw}
use Rattle.power_rules.specs.Common.{gpr}
use Rattle.power_rules.specs.Ends.{commits}
use Rattle.machine.specs.Machine.{thread}
use Rattle.machine.specs.Valid.{valid}
use Rattle.machine.specs.declared.Machine.{Machine}
use Rattle.step_rules.specs.Refusal.{in_t, refusal}
use Rattle.step_rules.specs.Step.{Outcome, step}
use Rattle.step_rules.specs.Feed.{from, after}
use Rattle.laws_bytes.specs.Bytes.{among}

-- ---- the accesses

pub data Width : Type 0 where
  One : Width
  Two : Width
  Four : Width
  Eight : Width

abbrev pub wide : Width → ℕ
wide One = 1
wide Two = 2
wide Four = 4
wide Eight = 8

-- the store and the load of a width, of a register and at a byte address; std and ld name its doubleword
abbrev pub storing : Width → ℕ → ℕ → Event
storing One ra a = Stb ra a
storing Two ra a = Sth ra a
storing Four ra a = Stw ra a
storing Eight ra a = Std ra (doubleword_of a)

abbrev pub loading : Width → ℕ → ℕ → Event
loading One rt a = Lbz rt a
loading Two rt a = Lhz rt a
loading Four rt a = Lwz rt a
loading Eight rt a = Ld rt (doubleword_of a)

abbrev pub Aligned : Width → ℕ → Type 0
Aligned w a = a % wide w ≡ 0

-- of two aligned accesses that have a byte in common the one that is not wider lies within the other
abbrev pub Nested : Type 0
Nested =
    (w u : Width) (a c : ℕ) → Aligned w a → Aligned u c → wide w ≤ wide u → c < a + wide w → a < c + wide u
    → (c ≤ a) × (a + wide w ≤ c + wide u)

-- ---- bytes by their addresses

-- the byte of memory at an address, and the one that a thread sees there: its own log's where that is marked
abbrev pub at : List ℕ → ℕ → ℕ
at mem b = byte (slice_index mem (doubleword_of b)) (lowest 1 b)

abbrev pub sees : Thread → List ℕ → ℕ → ℕ
sees t mem b = byte (load t.transaction mem (doubleword_of b)) (lowest 1 b)

-- the byte at address b after x was stored at a: of the stored bytes the first is the highest, and every other byte is as it was
abbrev pub over : Width → (a x b was : ℕ) → ℕ
over w a x b was = cond (among a (wide w) b) (byte x (a + wide w - 1 - b)) was

-- ---- one access

-- after a store in N or S: all of its bytes are in memory, and every other byte of memory is as before; and every thread of the machine, its
-- own too, sees in its line what memory has
pub record Stored (w : Width) (a x : ℕ) (mem : List ℕ) (o : Outcome) : Type 0 where
  pub written : (b : ℕ) → at o.memory b ≡ over w a x b (at mem b)
  pub seen : (v : ℕ) → v < o.done.machine.count → (b : ℕ) → line (doubleword_of b) ≡ line (doubleword_of a)
      → sees (thread o.done.machine.threads v) o.memory b ≡ over w a x b (at mem b)

abbrev pub StoredAtOnce : Type 0
StoredAtOnce =
    (m : Machine) (mem : List ℕ) (v ra a : ℕ) (w : Width) → valid m (length mem) ≡ true → refusal m (length mem) v (storing w ra a) ≡ 0 → Aligned w a
    → in_t (thread m.threads v).control.msr.state ≡ false
    → Stored w a (gpr (thread m.threads v) ra) mem (step m mem v (storing w ra a))

-- after a store in T that is done: memory is as before, and its thread sees all of its bytes
pub record Logged (w : Width) (a x : ℕ) (t u : Thread) (mem now : List ℕ) : Type 0 where
  pub unwritten : now ≡ mem
  pub seen : (b : ℕ) → sees u now b ≡ over w a x b (sees t mem b)

abbrev pub LoggedAtOnce : Type 0
LoggedAtOnce =
    (m : Machine) (mem : List ℕ) (v ra a : ℕ) (w : Width) → valid m (length mem) ≡ true → Aligned w a
    → (thread m.threads v).control.msr.state ≡ T → (step m mem v (storing w ra a)).done.answer ≡ 0
    → Logged w a (gpr (thread m.threads v) ra) (thread m.threads v) (thread (step m mem v (storing w ra a)).done.machine.threads v) mem (step m mem v (storing w ra a)).memory

-- a load that is done takes each of its bytes as its thread sees it, the first one highest, and zeros above
abbrev pub LoadedAtOnce : Type 0
LoadedAtOnce =
    (m : Machine) (mem : List ℕ) (v rt c : ℕ) (u : Width) → valid m (length mem) ≡ true → Aligned u c
    → (step m mem v (loading u rt c)).done.answer ≡ 0
    → (i : ℕ) → byte (gpr (thread (step m mem v (loading u rt c)).done.machine.threads v) rt) i
    ≡ cond (nat_lt i (wide u)) (sees (thread m.threads v) mem (c + wide u - 1 - i)) 0

-- ---- a store, then a load

-- the bytes that a load of u bytes at c takes after w bytes of x were stored at a, over a memory from before that. Each is the store's where the
-- two meet, and elsewhere memory's. So a load that meets the store and is not wider takes bytes of the stored value alone (by `Nested` it lies
-- within), and one that does not meet it takes what it would have taken before
pub record Copied (w u : Width) (a c x : ℕ) (mem : List ℕ) (taken : ℕ → ℕ) : Type 0 where
  pub each : (i : ℕ) → taken i ≡ cond (nat_lt i (wide u)) (over w a x (c + wide u - 1 - i) (at mem (c + wide u - 1 - i))) 0
  pub within : wide u ≤ wide w → c < a + wide w → a < c + wide u → (i : ℕ) → taken i ≡ byte (part (a + wide w - (c + wide u)) (wide u) x) i
  pub clear : (c + wide u ≤ a) ⊎ (a + wide w ≤ c) → (i : ℕ) → taken i ≡ cond (nat_lt i (wide u)) (at mem (c + wide u - 1 - i)) 0

-- the first load after a store in N or S, by any thread, of any width, in the store's line
abbrev pub SingleCopy : Type 0
SingleCopy =
    (m : Machine) (mem : List ℕ) (v ra a : ℕ) (w : Width) → valid m (length mem) ≡ true → refusal m (length mem) v (storing w ra a) ≡ 0 → Aligned w a
    → in_t (thread m.threads v).control.msr.state ≡ false
    → (z rt c : ℕ) (u : Width) → Aligned u c → line (doubleword_of c) ≡ line (doubleword_of a)
    → (after (step m mem v (storing w ra a)) (from z (loading u rt c))).done.answer ≡ 0
    → Copied w u a c (gpr (thread m.threads v) ra) mem
    (λ i. byte (gpr (thread (after (step m mem v (storing w ra a)) (from z (loading u rt c))).done.machine.threads z) rt) i)

-- ---- a commit

-- byte j of a doubleword after its place in a log, if it has one, went there: the place's byte if that is marked
abbrev pub placed_over : List Entry → Option ℕ → (j was : ℕ) → ℕ
placed_over es (Some n) j was = cond (place (entry es n).marks j) (byte (entry es n).value j) was
placed_over es None j was = was

abbrev pub log_over : Transaction → (b was : ℕ) → ℕ
log_over x b was = placed_over x.log (lookup x (doubleword_of b)) (lowest 1 b) was

-- after a tend. that commits each byte of memory is the log's where it is marked, and as before elsewhere
abbrev pub CommittedAtOnce : Type 0
CommittedAtOnce =
    (m : Machine) (mem : List ℕ) (v : ℕ) (all : Bool) → valid m (length mem) ≡ true → refusal m (length mem) v (Tend all) ≡ 0
    → (thread m.threads v).control.msr.state ≡ T → commits (thread m.threads v) all ≡ true
    → (b : ℕ) → doubleword_of b < length mem
    → at (step m mem v (Tend all)).memory b ≡ log_over (thread m.threads v).transaction b (at mem b)
