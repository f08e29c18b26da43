-- Leaky variants of the step: the third demand is false of each, and an example shows it. Proved in proofs/Leaks.antt.
use Rattle.std.specs.Prelude.{Bool, true, false, not, cond, ◌&&◌, List, [], ◌∷◌, ℕ, zero, suc, ◌+◌, ◌^◌, length, set, slice_index, ◌==◌}
use Rattle.base.specs.Below.{all_below}
use Rattle.lines.specs.Lines.{place}
use Rattle.doubleword.specs.Doubleword.{bytes, all_marks, byte, merged}
use Rattle.transaction.specs.Transaction as transaction
use Rattle.transaction.specs.declared.Touch.TheVariants.{Untouched}
use Rattle.transaction.specs.declared.Write.{Write}
use Rattle.transaction.specs.declared.Write.TheVariants.{Unwritten, Bytes, Log}
use Rattle.thread.specs.Thread.{with_control, in_state}
use Rattle.thread.specs.declared.State.TheVariants.{N}
use Rattle.thread.specs.declared.Thread.{Thread}
use Rattle.thread.specs.declared.Effect.{Effect}
use Rattle.event.specs.Event.{kind}
use Rattle.event.specs.declared.Event.{Event}
use Rattle.event.specs.declared.Event.TheVariants.{Tend, Tabort, Ld, Std, Disallowed, Stb}
use Rattle.power_rules.specs.Common.{quiet, passes, gpr, put_gpr}
use Rattle.power_rules.specs.Access.{logs, store}
use Rattle.step_rules.specs.Effects.{effect}
use Rattle.machine.specs.Machine.{thread, with_threads, fresh_thread}
use Rattle.step_rules.specs.Refusal.{in_t, refusal}
use Rattle.step_rules.specs.Step.{outcome, applied, perform}
use Rattle.step_rules.specs.Feed.{Fed, from}
use Rattle.laws_secrecy.specs.Secrecy.{Stepping, Until, SecretOf}
use Rattle.laws_examples.specs.Examples.{open_thread, Example, start, ToldApart, Each}

-- the step, with another way to perform what is not refused
abbrev pub performing : Stepping → Stepping
performing p m mem v e = cond (refusal m (length mem) v e == 0) (p m mem v e) (outcome (refusal m (length mem) v e) m mem)

-- what an event writes if its thread is in N, where a store is made, and the memory that it leaves
abbrev pub in_n : Event → Thread → List ℕ → Write
in_n e t mem = (effect e (with_control t (in_state t.control N false)) mem).write

abbrev pub plainly : Event → Thread → List ℕ → List ℕ
plainly e t mem = transaction.written (in_n e t mem) t.transaction mem

-- 1. a store in T goes to memory at once, besides the log
unfoldable pub at_once : Stepping
at_once =
    performing (λ m mem v e.
    let o = perform m mem v e in
    outcome o.done.answer o.done.machine (plainly e (thread m.threads v) o.memory))

-- 2. a store that would leave memory as it is strikes no thread
abbrev pub same_values : List ℕ → List ℕ → Bool
same_values xs ys = all_below (λ i. (slice_index xs i == slice_index ys i)) (length xs)

abbrev pub untouching : Effect → Effect
untouching f = record { answer = f.answer; thread = f.thread; touch = Untouched; write = f.write }

unfoldable pub unless_same : Stepping
unless_same =
    performing (λ m mem v e.
    let t = thread m.threads v in
    let f = effect e t mem in
    applied m mem v (cond ((kind e == 13) && same_values mem (plainly e t mem)) (untouching f) f))

-- 3. a load takes the value that thread 0 has in its log
unfoldable pub from_log : Stepping
from_log =
    performing (λ m mem v e.
    applied m mem v (effect e (thread m.threads v) (transaction.commit (thread m.threads 0).transaction mem)))

-- 4. the handling of a thread's own failure, which answers 20, leaves register 1
abbrev pub leaving : ℕ → Thread → Thread → Thread
leaving answer t u = cond (answer == 20) (put_gpr u 1 (gpr t 1)) u

unfoldable pub unrestored : Stepping
unrestored =
    performing (λ m mem v e.
    let o = perform m mem v e in
    let ts = o.done.machine.threads in
    outcome o.done.answer (with_threads m (set ts v (leaving o.done.answer (thread m.threads v) (thread ts v)))) o.memory)

-- 5. marks go by the value: a store in T marks no byte that is 0, and one that marks none is not made
unfoldable pub nonzero : ℕ → ℕ → ℕ → ℕ
nonzero m x zero = 0
nonzero m x (suc n) = nonzero m x n + cond (place m n && not (byte x n == 0)) (2 ^ n) 0

abbrev pub logs_some : Thread → (i m x : ℕ) → Effect
logs_some t i m x = cond (m == 0) (quiet (passes t)) (logs t i m x)

abbrev pub thinned : Write → Thread → Effect → Effect
thinned Unwritten t f = f
thinned (Bytes i m x) t f = cond (in_t t.control.msr.state) (logs_some t i (nonzero m x bytes) x) f
thinned Log t f = f

unfoldable pub by_value : Stepping
by_value =
    performing (λ m mem v e.
    let t = thread m.threads v in
    applied m mem v (thinned (in_n e t mem) t (effect e t mem)))

-- 6. bytes that were never stored are committed: a store of some bytes marks all eight, and takes the others as thread 0's log has them
abbrev pub filled : Write → Thread → List ℕ → Effect → Effect
filled Unwritten t newest f = f
filled (Bytes i m x) t newest f = store t.control.msr.state t i all_marks (merged m (slice_index newest i) x)
filled Log t newest f = f

unfoldable pub never_stored : Stepping
never_stored =
    performing (λ m mem v e.
    let t = thread m.threads v in
    applied m mem v (filled (in_n e t mem) t (transaction.commit (thread m.threads 0).transaction mem) (effect e t mem)))

-- a leaky step, and what shows it
pub record Leak : Type 0 where
  pub leaky : Stepping
  pub shown : Example

-- the events are allowed, they tell the example's machines apart, and so the demand is false
pub record Caught (l : Leak) : Type 0 where
  pub until : Until l.leaky 0 l.shown.events (start l.shown 0)
  pub apart : ToldApart l.leaky l.shown
  pub caught : SecretOf l.leaky → ⊥

abbrev pub leak : Stepping → Thread → List Fed → Leak
leak s u fs = record { leaky = s; shown = record { level = 1; pr = true; other = u; events = fs } }

abbrev pub leak_at_once : Leak
leak_at_once = leak at_once fresh_thread (from 0 (Std 1 16) ∷ [])

-- thread 1 has read the line that thread 0 stores to; its tabort. is answered by 20 in T, by 0 in N
abbrev pub leak_unless_same : Leak
leak_unless_same = leak unless_same (open_thread 1 true 0 (transaction.join transaction.empty 16)) (from 0 (Std 1 16) ∷ from 1 (Tabort 0) ∷ [])

-- thread 1 loads the doubleword that thread 0 has stored to, and stores what it has loaded
abbrev pub leak_from_log : Leak
leak_from_log = leak from_log fresh_thread (from 1 (Ld 3 0) ∷ from 1 (Std 3 16) ∷ [])

-- thread 0 fails, and stores what is left in register 1
abbrev pub leak_unrestored : Leak
leak_unrestored = leak unrestored fresh_thread (from 0 Disallowed ∷ from 0 (Std 1 16) ∷ [])

-- thread 1 loads from the line that thread 0 stores to: where nothing was stored there is no conflict, and thread 0's tabort. is answered by 20
abbrev pub leak_by_value : Leak
leak_by_value = leak by_value fresh_thread (from 0 (Std 1 16) ∷ from 1 (Ld 3 16) ∷ from 0 (Tabort 0) ∷ [])

-- thread 1, in T, stores one byte of the doubleword that thread 0 has stored to, and commits
abbrev pub leak_never_stored : Leak
leak_never_stored = leak never_stored (open_thread 1 true 0 transaction.empty) (from 1 (Stb 2 0) ∷ from 1 (Tend false) ∷ [])

abbrev pub leaks : List Leak
leaks = leak_at_once ∷ leak_unless_same ∷ leak_from_log ∷ leak_unrestored ∷ leak_by_value ∷ leak_never_stored ∷ []

abbrev pub AllCaught : Type 0
AllCaught = Each Caught leaks
