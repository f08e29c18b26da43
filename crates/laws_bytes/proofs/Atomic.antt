-- Single-copy atomicity: what a store, a load and a commit leave, byte by byte, and who sees it.
use mathlib.Core.Path.{◌≡◌, refl, sym, ap, ◌∙◌, subst}
use mathlib.Core.Bool.{Bool, true, false, not, cond, beq, true≢false, and-false}
use mathlib.Core.List.{List}
use mathlib.Core.Logic.{◌⊎◌, inl, inr}
use Prim.Native.Nat.{ℕ, ◌+◌, ◌-◌, ◌≤◌, ◌<◌}
use native.Mathlib.Decide.{ℕ_discrete}
use native.Mathlib.Omega.{arith}
use lib.Dec.{eqb, ltb}
use lib.ListN.{length, get_or, set}
use lib.Seq.{get_or-set_same, get_or-set_other}
use borrow.Author.Tests.{ltb-true, ltb-false, lt-ltb, le-ltb, le-leb, lt-leb, eqb-true, eqb-false, eq-eqb, not-true}
use Rattle.base.specs.Limits.{lines, most_threads}
use Rattle.base.proofs.Below.{all_at, any_false_at, neither}
use Rattle.lines.specs.Lines as lineset
use Rattle.doubleword.specs.Doubleword.{byte, merged, doubleword_of, lowest, part}
use Rattle.doubleword.proofs.Laws.{merged_byte}
use Rattle.transaction.specs.Transaction as transaction
use Rattle.transaction.specs.Transaction.{entry, line, lookup, loaded, put, written}
use Rattle.transaction.proofs.Laws.{lookup_below, lookup_there, load_store, Apart, commit_at}
use Rattle.transaction.specs.declared.Entry.{Entry}
use Rattle.transaction.specs.declared.Cause.TheVariants.{Footprint, OwnStore}
use Rattle.std.specs.Prelude.{Option, Some, None}
use Rattle.transaction.specs.declared.Touch.TheVariants.{Untouched, Store}
use Rattle.transaction.specs.declared.Transaction.{Transaction}
use Rattle.transaction.specs.declared.Write.TheVariants.{Unwritten, Bytes, Log}
use Rattle.thread.specs.Thread.{with_transaction}
use Rattle.thread.specs.declared.State.{State}
use Rattle.thread.specs.declared.State.TheVariants.{N, T, S}
use Rattle.thread.specs.declared.Thread.{Thread}
use Rattle.thread.specs.declared.Effect.{Effect}
use Rattle.event.specs.declared.Event.{Event}
use Rattle.event.specs.declared.Event.TheVariants.{Tend}
use Rattle.event.specs.Event.{operands_right}
use Rattle.event.proofs.Laws.{ld_in, std_in, lbz_in, lhz_in, lwz_in, stb_in, sth_in, stw_in}
use Rattle.power_rules.specs.Common.{gpr, fails, dooms, passes, doing, quiet, leveled}
use Rattle.power_rules.specs.Ends.{ended, tend}
use Rattle.power_rules.specs.Access.{load, takes, joins, loads, store, stores, logs, meets_own, std_overflows, ld_overflows, tracked}
use Rattle.step_rules.specs.Effects.{effect}
use Rattle.machine.specs.Machine.{thread, no_thread}
use Rattle.machine.specs.Valid.{unlike, distinct, logs_line, line_logged, writes_logged, thread_valid, valid}
use Rattle.machine.specs.declared.Machine.{Machine}
use Rattle.machine.proofs.Validity.{valid_thread, valid_count, valid_memory_sized}
use Rattle.step_rules.specs.Refusal.{in_t, refusal}
use Rattle.step_rules.proofs.Refusals.{passed_thread, passed_operands, refusal_valid}
use Rattle.step_rules.specs.Conflict.{others}
use Rattle.step_rules.specs.Step.{Outcome, perform, step}
use Rattle.step_rules.proofs.Steps.{step_passed, step_refused}
use Rattle.laws_keeping.proofs.Held.{empty_touches, held_parts, held_count}
use Rattle.laws_keeping.proofs.Fails.{Holds, right, live_unfailed_s, held_nothing_n, held_nothing_s, failure_empties}
use Rattle.laws_keeping.proofs.Others.{others_length, others_met}
use Rattle.laws_keeping.proofs.Parts.{valid_right}
use Rattle.laws_keeping.proofs.Effects.{line_below}
use Rattle.laws_keeping.proofs.Keeping.{keeps}
use Rattle.laws_bytes.specs.Atomic.{Width, wide, storing, loading, Aligned, at, sees, over, StoredAtOnce, LoggedAtOnce, LoadedAtOnce, Copied, SingleCopy, placed_over, CommittedAtOnce}
use Rattle.laws_bytes.specs.Atomic.Width.{One, Two, Four, Eight}
use Rattle.laws_bytes.proofs.Bytes.{part_byte, part_above}
use Rattle.laws_bytes.proofs.Addressed.{nested, within, low, marks, value, stored_over, loaded_at}

-- ---- the events of a width are one store and one load

store_effect : (w : Width) (ra a : ℕ) (t : Thread) (mem : List ℕ)
    → effect (storing w ra a) t mem ≡ store t.control.msr.state t (doubleword_of a) (marks w a) (value w a (gpr t ra))
unfolding effect
store_effect One ra a t mem = refl
store_effect Two ra a t mem = refl
store_effect Four ra a t mem = refl
store_effect Eight ra a t mem = refl

load_effect : (u : Width) (rt c : ℕ) (t : Thread) (mem : List ℕ)
    → effect (loading u rt c) t mem ≡ load t.control.msr.state t rt (doubleword_of c) (low u c) (wide u) mem
unfolding effect
load_effect One rt c t mem = refl
load_effect Two rt c t mem = refl
load_effect Four rt c t mem = refl
load_effect Eight rt c t mem = refl

store_in : (w : Width) (ra a len : ℕ) → operands_right (storing w ra a) len ≡ true → doubleword_of a < len
store_in One ra a len o = (stb_in ra a len o).1
store_in Two ra a len o = (sth_in ra a len o).1
store_in Four ra a len o = (stw_in ra a len o).1
store_in Eight ra a len o = (std_in ra (doubleword_of a) len o).1

load_in : (u : Width) (rt c len : ℕ) → operands_right (loading u rt c) len ≡ true → rt < 32
load_in One rt c len o = (lbz_in rt c len o).0
load_in Two rt c len o = (lhz_in rt c len o).0
load_in Four rt c len o = (lwz_in rt c len o).0
load_in Eight rt c len o = (ld_in rt (doubleword_of c) len o).0

-- ---- doublewords of memory and of a log

-- memory after a store
put_at : (mem : List ℕ) (i m y d : ℕ) → i < length mem → get_or (put mem i m y) d 0 ≡ cond (eqb i d) (merged m (get_or mem d 0) y) (get_or mem d 0)
put_at mem i m y d h = go (eqb i d) refl
  where
    go : (p : Bool) → eqb i d ≡ p → get_or (put mem i m y) d 0 ≡ cond p (merged m (get_or mem d 0) y) (get_or mem d 0)
    go true p = rw (← eqb-true i d p) (get_or-set_same mem i _ 0 h)
    go false p = get_or-set_other mem i d _ 0 (λ q. eqb-false i d p (sym q))

-- a transaction that does not touch a doubleword's line has no place for it (rule V12)
unlogged : (x : Transaction) (d : ℕ) → writes_logged x ≡ true → line d < lines → transaction.touches x (line d) ≡ false → lookup x d ≡ None
unfolding writes_logged line_logged logs_line
unlogged x d g l n = go (lookup x d) refl
  where
    same : (p q : Bool) → beq p q ≡ true → p ≡ false → q ≡ false
    same true q e f = absurd (true≢false f)
    same false true e f = sym e
    same false false e f = refl

    none : logs_line x (line d) ≡ false
    none = same (lineset.has x.writes (line d)) (logs_line x (line d)) (all_at (line_logged x) lines (line d) g l) (neither (lineset.has x.reads (line d)) (lineset.has x.writes (line d)) n).1

    go : (f : Option ℕ) → lookup x d ≡ f → f ≡ None
    go None p = refl
    go (Some k) p =
        absurd (true≢false (sym (eq-eqb _ _ (ap line (lookup_there x.log d x.count p)))
        ∙ any_false_at (λ n. eqb (line (entry x.log n).index) (line d)) x.count k none (lookup_below x.log d x.count p)))

-- and sees memory there
unlogged_sees : (t : Thread) (mem : List ℕ) (b : ℕ) → lookup t.transaction (doubleword_of b) ≡ None → sees t mem b ≡ at mem b
unfolding loaded
unlogged_sees t mem b e = ap (λ (f : Option ℕ). byte (loaded t.transaction.log mem f (doubleword_of b)) (lowest 1 b)) e

-- no two places of a valid log are of one doubleword (rule V11)
places_apart : (x : Transaction) → distinct x ≡ true → Apart x.log x.count
unfolding distinct unlike
places_apart x h k l = go (transaction.lookup_in x.log (entry x.log k).index k) refl
  where
    go : (f : Option ℕ) → transaction.lookup_in x.log (entry x.log k).index k ≡ f → f ≡ None
    go None p = refl
    go (Some j) p =
        absurd (eqb-false _ _
        (not-true (eqb (entry x.log j).index (entry x.log k).index)
        (all_at (λ i. not (eqb (entry x.log i).index (entry x.log k).index)) k j (all_at (unlike x) x.count k h l) (lookup_below x.log _ k p)))
        (lookup_there x.log (entry x.log k).index k p))

-- ---- a store on its own thread

-- in N and S it writes its bytes, and touches its line
module _ (t : Thread) (i m y : ℕ) where
  store_writes : (s : State) → in_t s ≡ false → (store s t i m y).write ≡ Bytes i m y
  unfolding store
  store_writes N n = refl
  store_writes T n = absurd (true≢false n)
  store_writes S n = refl

  store_touches : (s : State) → in_t s ≡ false → (store s t i m y).touch ≡ Store (line i)
  unfolding store
  store_touches N n = refl
  store_touches T n = absurd (true≢false n)
  store_touches S n = refl

  -- and its thread has nothing of the line left (rule A2)
  store_leaves : (len : ℕ) (s : State) → t.control.msr.state ≡ s → in_t s ≡ false → thread_valid t len ≡ true
      → transaction.touches (store s t i m y).thread.transaction (line i) ≡ false
  unfolding store meets_own dooms
  store_leaves len N e n h = ap (λ (x : Transaction). transaction.touches x (line i)) (held_nothing_n t len e h) ∙ empty_touches (line i)
  store_leaves len T e n h = absurd (true≢false n)
  store_leaves len S e n h = go (transaction.touches t.transaction (line i)) refl t.control.msr.doomed refl
    where
      go : (p : Bool) → transaction.touches t.transaction (line i) ≡ p → (d : Bool) → t.control.msr.doomed ≡ d
          → transaction.touches (cond p (dooms t OwnStore true) (passes t)).thread.transaction (line i) ≡ false
      go false p d q = p
      go true p true q = absurd (true≢false (sym p ∙ ap (λ (x : Transaction). transaction.touches x (line i)) (held_nothing_s t len e q h) ∙ empty_touches (line i)))
      go true p false q =
          ap (λ (x : Transaction). transaction.touches x (line i)) (failure_empties t OwnStore true t.control.nia (live_unfailed_s t len e q h)) ∙ empty_touches (line i)

-- ---- a store in N or S

module _ (m : Machine) (mem : List ℕ) (v ra a : ℕ) (w : Width) (good : valid m (length mem) ≡ true) (z : refusal m (length mem) v (storing w ra a) ≡ 0)
    (n : in_t (thread m.threads v).control.msr.state ≡ false) where
  abbrev t : Thread
  t = thread m.threads v

  abbrev i : ℕ
  i = doubleword_of a

  abbrev f : Effect
  f = store t.control.msr.state t i (marks w a) (value w a (gpr t ra))

  here : v < m.count
  here = passed_thread m (length mem) v (storing w ra a) (sym (refusal_valid m (length mem) v (storing w ra a) good) ∙ z)

  inside : i < length mem
  inside = store_in w ra a (length mem) (passed_operands m (length mem) v (storing w ra a) (sym (refusal_valid m (length mem) v (storing w ra a) good) ∙ z))

  memory_after : (step m mem v (storing w ra a)).memory ≡ put mem i (marks w a) (value w a (gpr t ra))
  unfolding perform written
  memory_after =
      ap (λ (o : Outcome). o.memory) (step_passed m mem v (storing w ra a) z)
      ∙ ap (λ (e : Effect). written e.write t.transaction mem) (store_effect w ra a t mem)
      ∙ ap (λ x. written x t.transaction mem) (store_writes t i (marks w a) (value w a (gpr t ra)) _ n)

  threads_after : (step m mem v (storing w ra a)).done.machine.threads ≡ set (others (Store (line i)) m.threads v) v f.thread
  unfolding perform
  threads_after =
      ap (λ (o : Outcome). o.done.machine.threads) (step_passed m mem v (storing w ra a) z)
      ∙ ap (λ (e : Effect). set (others e.touch m.threads v) v e.thread) (store_effect w ra a t mem)
      ∙ ap (λ x. set (others x m.threads v) v f.thread) (store_touches t i (marks w a) (value w a (gpr t ra)) _ n)

  count_after : (step m mem v (storing w ra a)).done.machine.count ≡ m.count
  unfolding perform
  count_after = ap (λ (o : Outcome). o.done.machine.count) (step_passed m mem v (storing w ra a) z)

  -- no thread has anything of the line left
  untouched : (u : ℕ) → u < m.count → transaction.touches (thread (step m mem v (storing w ra a)).done.machine.threads u).transaction (line i) ≡ false
  untouched u l =
      ap (λ (ts : List Thread). transaction.touches (thread ts u).transaction (line i)) threads_after ∙ go (ℕ_discrete u v)
    where
      us : List Thread
      us = others (Store (line i)) m.threads v

      four : length us ≡ most_threads
      four = others_length (Store (line i)) m.threads v ∙ (valid_right m _ good).four

      few : m.count ≤ most_threads
      few = valid_count m _ good

      go : Dec (u ≡ v) → transaction.touches (thread (set us v f.thread) u).transaction (line i) ≡ false
      go (yes e) =
          let k : v < length us = omega (arith, four, few, here) in
          rw (e, get_or-set_same us v f.thread no_thread k) (store_leaves t i (marks w a) (value w a (gpr t ra)) (length mem) _ refl n (valid_thread m _ good v here))
      go (no d) =
          let k : u < most_threads = omega (arith, few) in
          rw (get_or-set_other us v u f.thread no_thread d)
          ((others_met m.threads v u (ltb u m.count) (length mem) (valid_right m _ good).four k d ((valid_right m _ good).each u k) (Store (line i))).stored (line i) refl)

  -- and so it sees memory there
  sees_memory : (u : ℕ) → u < m.count → (b : ℕ) → line (doubleword_of b) ≡ line i
      → sees (thread (step m mem v (storing w ra a)).done.machine.threads u) (step m mem v (storing w ra a)).memory b ≡ at (step m mem v (storing w ra a)).memory b
  sees_memory u l b e =
      let o = step m mem v (storing w ra a) in
      let k = keeps m mem v (storing w ra a) good in
      let y = thread o.done.machine.threads u in
      let h = valid_thread o.done.machine (length o.memory) k.1 u (rw count_after l) in
      let g = (held_parts y.transaction _ (right _ y _ refl h).holds.held).logged in
      let r : line (doubleword_of b) < lines = rw e (line_below i (length mem) (valid_memory_sized m _ good) inside) in
      unlogged_sees y o.memory b (unlogged y.transaction (doubleword_of b) g r (ap (transaction.touches y.transaction) e ∙ untouched u l))

pub stored_at_once : StoredAtOnce
stored_at_once m mem v ra a w good z al n =
    record { written = in_memory; seen = λ u l b e. sees_memory m mem v ra a w good z n u (subst (λ (k : ℕ). u < k) (count_after m mem v ra a w good z n) l) b e ∙ in_memory b }
  where
    in_memory : (b : ℕ) → at (step m mem v (storing w ra a)).memory b ≡ over w a (gpr (thread m.threads v) ra) b (at mem b)
    in_memory b =
        ap (λ (now : List ℕ). at now b) (memory_after m mem v ra a w good z n)
        ∙ stored_over w a (gpr (thread m.threads v) ra) al (λ d. get_or mem d 0) (λ d. get_or (put mem (doubleword_of a) (marks w a) (value w a (gpr (thread m.threads v) ra))) d 0)
        (λ d. put_at mem (doubleword_of a) (marks w a) _ d (inside m mem v ra a w good z n)) b

-- ---- an access that is answered 0 was not refused, and its thread is there

module _ (m : Machine) (mem : List ℕ) (v : ℕ) (e : Event) (good : valid m (length mem) ≡ true) (done : (step m mem v e).done.answer ≡ 0) where
  unrefused : refusal m (length mem) v e ≡ 0
  unrefused = go (eqb (refusal m (length mem) v e) 0) refl
    where
      go : (p : Bool) → eqb (refusal m (length mem) v e) 0 ≡ p → refusal m (length mem) v e ≡ 0
      go true p = eqb-true _ _ p
      go false p = sym (ap (λ (o : Outcome). o.done.answer) (step_refused m mem v e (refusal m (length mem) v e) refl p)) ∙ done

  performed : step m mem v e ≡ perform m mem v e
  performed = step_passed m mem v e unrefused

  answered : (effect e (thread m.threads v) mem).answer ≡ 0
  unfolding perform
  answered = sym (ap (λ (o : Outcome). o.done.answer) performed) ∙ done

  its_thread : v < m.count
  its_thread = passed_thread m (length mem) v e (sym (refusal_valid m (length mem) v e good) ∙ unrefused)

  its_operands : operands_right e (length mem) ≡ true
  its_operands = passed_operands m (length mem) v e (sym (refusal_valid m (length mem) v e good) ∙ unrefused)

  thread_after : thread (step m mem v e).done.machine.threads v ≡ (effect e (thread m.threads v) mem).thread
  unfolding perform
  thread_after =
      let f = effect e (thread m.threads v) mem in
      let us = others f.touch m.threads v in
      let k : v < length us = omega (arith, others_length f.touch m.threads v, (valid_right m _ good).four, valid_count m _ good, its_thread) in
      ap (λ (o : Outcome). thread o.done.machine.threads v) performed ∙ get_or-set_same us v f.thread no_thread k

-- ---- a store in T

module _ (t : Thread) (i m y : ℕ) where
  -- that is answered 0 has room
  logs_room : (store T t i m y).answer ≡ 0 → std_overflows t i ≡ false
  unfolding store logs fails
  logs_room = go (std_overflows t i)
    where
      go : (p : Bool) → (cond p (quiet (fails t Footprint)) (stores (passes (with_transaction t (transaction.store t.transaction i m y))) i Unwritten)).answer ≡ 0 → p ≡ false
      go true e = absurd (omega arith)
      go false e = refl

  logs_is : std_overflows t i ≡ false → store T t i m y ≡ stores (passes (with_transaction t (transaction.store t.transaction i m y))) i Unwritten
  unfolding store logs
  logs_is e = rw e

pub logged_at_once : LoggedAtOnce
unfolding perform written
logged_at_once m mem v ra a w good al s done =
    record {
      unwritten = now;
      seen = λ b. ap (λ (mm : List ℕ). sees (thread (step m mem v e).done.machine.threads v) mm b) now
          ∙ ap (λ (u : Thread). sees u mem b) (thread_after m mem v e good done ∙ ap (λ (f : Effect). f.thread) is)
          ∙ stored_over w a x al (λ d. transaction.load t.transaction mem d) (λ d. transaction.load (transaction.store t.transaction i (marks w a) (value w a x)) mem d)
          (λ d. load_store t.transaction i (marks w a) (value w a x) held.shape.log (held_count _ _ held.held) (neither (transaction.crowded t.transaction (line i)) _ room).1 mem d) b;
    }
  where
    t : Thread
    t = thread m.threads v

    e : Event
    e = storing w ra a

    i : ℕ
    i = doubleword_of a

    x : ℕ
    x = gpr t ra

    in_log : effect e t mem ≡ store T t i (marks w a) (value w a x)
    in_log = store_effect w ra a t mem ∙ ap (λ (s : State). store s t i (marks w a) (value w a x)) s

    room : std_overflows t i ≡ false
    room = logs_room t i (marks w a) (value w a x) (sym (ap (λ (f : Effect). f.answer) in_log) ∙ answered m mem v e good done)

    is : effect e t mem ≡ stores (passes (with_transaction t (transaction.store t.transaction i (marks w a) (value w a x)))) i Unwritten
    is = in_log ∙ logs_is t i (marks w a) (value w a x) room

    now : (step m mem v e).memory ≡ mem
    now = ap (λ (o : Outcome). o.memory) (performed m mem v e good done) ∙ ap (λ (f : Effect). written f.write t.transaction mem) is

    held : Holds t.transaction (length mem)
    held = (right _ t _ refl (valid_thread m _ good v (its_thread m mem v e good done))).holds

-- ---- a load

-- that is answered 0 leaves in its register a part of what its thread sees
load_takes : (t : Thread) (rt i j w : ℕ) (mem : List ℕ) (s : State) → rt < length t.live.gpr → (load s t rt i j w mem).answer ≡ 0
    → gpr (load s t rt i j w mem).thread rt ≡ part j w (transaction.load t.transaction mem i)
unfolding load fails
load_takes t rt i j w mem N h e = get_or-set_same t.live.gpr rt _ 0 h
load_takes t rt i j w mem S h e = get_or-set_same t.live.gpr rt _ 0 h
load_takes t rt i j w mem T h e = go (ld_overflows t i) (tracked t) e
  where
    go : (p q : Bool) → (cond p (quiet (fails t Footprint)) (loads (takes (cond q (joins t i) t) rt i j w mem) i)).answer ≡ 0
        → gpr (cond p (quiet (fails t Footprint)) (loads (takes (cond q (joins t i) t) rt i j w mem) i)).thread rt ≡ part j w (transaction.load t.transaction mem i)
    go true q e = absurd (omega arith)
    go false true e = get_or-set_same t.live.gpr rt _ 0 h
    go false false e = get_or-set_same t.live.gpr rt _ 0 h

pub loaded_at_once : LoadedAtOnce
loaded_at_once m mem v rt c u good al done i =
    let t = thread m.threads v in
    let e = loading u rt c in
    let is = load_effect u rt c t mem in
    let d : rt < 32 = load_in u rt c (length mem) (its_operands m mem v e good done) in
    let g : rt < length t.live.gpr = omega (arith, (right _ t _ refl (valid_thread m _ good v (its_thread m mem v e good done))).file.live.gpr) in
    ap (λ (y : Thread). byte (gpr y rt) i) (thread_after m mem v e good done ∙ ap (λ (f : Effect). f.thread) is)
    ∙ ap (λ (y : ℕ). byte y i) (load_takes t rt (doubleword_of c) (low u c) (wide u) mem t.control.msr.state g (sym (ap (λ (f : Effect). f.answer) is) ∙ answered m mem v e good done))
    ∙ loaded_at u c al (transaction.load t.transaction mem) i

-- ---- a store, then a load

-- what follows from each byte
copied : (w u : Width) (a c x : ℕ) (mem : List ℕ) (taken : ℕ → ℕ) → Aligned w a → Aligned u c
    → ((i : ℕ) → taken i ≡ cond (ltb i (wide u)) (over w a x (c + wide u - 1 - i) (at mem (c + wide u - 1 - i))) 0) → Copied w u a c x mem taken
copied w u a c x mem taken al au each = record { each = each; within = λ l p q i. each i ∙ inner l p q i (ltb i (wide u)) refl; clear = λ o i. each i ∙ outer o i (ltb i (wide u)) refl }
  where
    inner : wide u ≤ wide w → c < a + wide w → a < c + wide u → (i : ℕ) (p : Bool) → ltb i (wide u) ≡ p
        → cond p (over w a x (c + wide u - 1 - i) (at mem (c + wide u - 1 - i))) 0 ≡ byte (part (a + wide w - (c + wide u)) (wide u) x) i
    inner l p q i false e = sym (part_above (a + wide w - (c + wide u)) (wide u) x i (ltb-false i (wide u) e))
    inner l p q i true e =
        let n = nested u w c a au al l q p in
        let k = ltb-true i (wide u) e in
        let f : a + wide w - 1 - (c + wide u - 1 - i) ≡ a + wide w - (c + wide u) + i = omega (arith, n.0, n.1) in
        simp (le-leb a (c + wide u - 1 - i) (omega (arith, n.0)), lt-ltb (c + wide u - 1 - i) (a + wide w) (omega (arith, n.1)))
        (ap (byte x) f ∙ sym (part_byte (a + wide w - (c + wide u)) (wide u) x i k))

    outer : (c + wide u ≤ a) ⊎ (a + wide w ≤ c) → (i : ℕ) (p : Bool) → ltb i (wide u) ≡ p
        → cond p (over w a x (c + wide u - 1 - i) (at mem (c + wide u - 1 - i))) 0 ≡ cond p (at mem (c + wide u - 1 - i)) 0
    outer o i false e = refl
    outer (inl l) i true e = let k = ltb-true i (wide u) e in simp (lt-leb a (c + wide u - 1 - i) (omega arith))
    outer (inr l) i true e = let k = ltb-true i (wide u) e in simp (le-ltb (c + wide u - 1 - i) (a + wide w) (omega arith), and-false)

pub single_copy : SingleCopy
single_copy m mem v ra a w good z al n y rt c u au same done =
    copied w u a c _ mem _ al au (λ i. loaded_at_once o.done.machine o.memory y rt c u k au done i ∙ go i (ltb i (wide u)) refl)
  where
    o : Outcome
    o = step m mem v (storing w ra a)

    k : valid o.done.machine (length o.memory) ≡ true
    k = (keeps m mem v (storing w ra a) good).1

    go : (i : ℕ) (p : Bool) → ltb i (wide u) ≡ p
        → cond p (sees (thread o.done.machine.threads y) o.memory (c + wide u - 1 - i)) 0
        ≡ cond p (over w a (gpr (thread m.threads v) ra) (c + wide u - 1 - i) (at mem (c + wide u - 1 - i))) 0
    go i false p = refl
    go i true p =
        let l = ltb-true i (wide u) p in
        let h = within u c au in
        let q : doubleword_of (c + wide u - 1 - i) ≡ doubleword_of c = omega arith in
        (stored_at_once m mem v ra a w good z al n).seen y (its_thread o.done.machine o.memory y (loading u rt c) k done) (c + wide u - 1 - i) (ap line q ∙ same)

-- ---- a commit

-- the place's bytes over memory's
loaded_byte : (es : List Entry) (mem : List ℕ) (f : Option ℕ) (d j : ℕ) → j < 8 → byte (loaded es mem f d) j ≡ placed_over es f j (byte (get_or mem d 0) j)
unfolding loaded
loaded_byte es mem None d j h = refl
loaded_byte es mem (Some n) d j h = merged_byte (entry es n).marks (get_or mem d 0) (entry es n).value j h

pub committed_at_once : CommittedAtOnce
unfolding perform effect tend written
committed_at_once m mem v all good z s c b h =
    let t = thread m.threads v in
    let x = t.transaction in
    let here = passed_thread m (length mem) v (Tend all) (sym (refusal_valid m (length mem) v (Tend all) good) ∙ z) in
    let held = held_parts x _ (right _ t _ refl (valid_thread m _ good v here)).holds.held in
    ap (λ (o : Outcome). at o.memory b) (step_passed m mem v (Tend all) z)
    ∙ ap (λ (s : State). at (written (tend s t all).write x mem) b) s
    ∙ ap (λ (p : Bool). at (written (cond p (doing (ended t) Untouched Log) (quiet (leveled t (t.control.failure.texasr - 1)))).write x mem) b) c
    ∙ ap (λ (y : ℕ). byte y (lowest 1 b)) (commit_at mem x.log x.count (doubleword_of b) (places_apart x held.differ) h)
    ∙ loaded_byte x.log mem (lookup x (doubleword_of b)) (doubleword_of b) (lowest 1 b) (omega arith)
