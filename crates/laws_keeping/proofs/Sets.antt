-- What an event adds to its own thread's sets: nothing, or the line that it touches.
use mathlib.Core.Path.{◌≡◌, refl, sym, ap, ◌∙◌}
use mathlib.Core.Bool.{Bool, true, false, ◌||◌, or_assoc, or_comm, or-true, false≢true}
use mathlib.Core.Logic.{◌⊎◌, inl, inr, ⊎_elim}
use mathlib.Core.List.{List}
use Prim.Native.Nat.{ℕ, ◌<◌}
use lib.Dec.{eqb, leb}
use lib.ListN.{length}
use borrow.Author.Tests.{eqb-true}
use Rattle.base.specs.Limits.{lines, most_levels}
use Rattle.base.proofs.Below.{fork}
use Rattle.lines.specs.Lines as lineset
use Rattle.transaction.specs.Transaction as transaction
use Rattle.transaction.specs.declared.Cause.{Cause}
use Rattle.transaction.specs.declared.Touch.TheVariants.{Load, Store}
use Rattle.transaction.specs.declared.Transaction.{Transaction}
use Rattle.thread.specs.Texasr.{tl}
use Rattle.thread.specs.Thread.{failed, recording, handling}
use Rattle.thread.specs.declared.State.{State}
use Rattle.thread.specs.declared.State.TheVariants.{N, T, S}
use Rattle.thread.specs.declared.Thread.{Thread}
use Rattle.thread.specs.declared.Effect.{Effect}
use Rattle.event.specs.Event.{operands_right}
use Rattle.event.specs.declared.Event.{Event}
use Rattle.power_rules.specs.Common.{cr0_from_state, fails, dooms}
use Rattle.power_rules.specs.Access.{takes, tracked, loads, ld_overflows, std_overflows, load, logs, meets_own, store, tlbie}
use Rattle.power_rules.specs.Aborts.{tabort, tabort_if}
use Rattle.power_rules.specs.Begins.{tbegin}
use Rattle.power_rules.specs.Ends.{commits, tend}
use Rattle.power_rules.specs.Suspends.{tsuspend, tresume, tsr}
use Rattle.power_rules.specs.Reclaims.{tcheck, treclaim, trechkpt}
use Rattle.power_rules.specs.Special.{mtspr}
use Rattle.power_rules.specs.Returns.{taking}
use Rattle.thread.specs.declared.turns.Turn.{Turn}
use Rattle.thread.specs.declared.turns.Turn.TheVariants.{Bad, Fails, To}
use Rattle.power_rules.specs.Plain.{disallowed, interrupt, host}
use Rattle.step_rules.specs.Effects.{effect}
use Rattle.step_rules.proofs.Cases.{effect_by}
use Rattle.power_rules.specs.declared.Did.{Did}
use Rattle.machine.specs.Valid.{memory_sized, thread_valid}
use Rattle.laws_keeping.proofs.Held.{Shaped, join_has, store_has, store_reads, empty_touches}
use Rattle.laws_keeping.proofs.Fails.{valid_shaped}
use Rattle.laws_keeping.proofs.Effects.{line_below}

-- an effect that stores to the line, and one that loads from it
abbrev pub Stores : Effect → ℕ → Type 0
Stores f l = f.touch ≡ Store l

abbrev pub Loads : Effect → ℕ → Type 0
Loads f l = f.touch ≡ Load l

-- ---- a transaction kept or emptied: its sets only lose lines

abbrev pub Sheds : Transaction → Transaction → Type 0
Sheds x y = (y ≡ x) ⊎ (y ≡ transaction.empty)

pub sheds_touches : (x y : Transaction) (l : ℕ) → Sheds x y → transaction.touches y l ≡ true → transaction.touches x l ≡ true
sheds_touches x y l (inl e) p = rw e at p
sheds_touches x y l (inr e) p = absurd (false≢true (sym (empty_touches l) ∙ (rw e at p)))

-- a line of the write set is in one of the sets
pub writes_touch : (x : Transaction) (l : ℕ) → lineset.has x.writes l ≡ true → transaction.touches x l ≡ true
writes_touch x l p = simp (p, or-true)

pub sheds_writes : (x y : Transaction) (l : ℕ) → Sheds x y → lineset.has y.writes l ≡ true → lineset.has x.writes l ≡ true
sheds_writes x y l (inl e) p = rw e at p
sheds_writes x y l (inr e) p = absurd (false≢true (sym (empty_touches l) ∙ writes_touch transaction.empty l (rw e at p)))

abbrev Shed : Thread → Did → Type 0
Shed t d = Sheds t.transaction d.thread.transaction

module _ (t : Thread) where
  pub recording_sheds : (cause : Cause) (exact : Bool) (at : ℕ) → Sheds t.transaction (recording t cause exact at).transaction
  unfolding recording transaction.discard
  recording_sheds cause exact at = fork (λ (u : Thread). Sheds t.transaction u.transaction) (failed t.control) (λ e. inl refl) (λ e. inr refl)

  pub handling_sheds : (cause : Cause) (exact : Bool) (at : ℕ) → Sheds t.transaction (handling (recording t cause exact at)).transaction
  unfolding handling
  handling_sheds = recording_sheds

  fails_sheds : (cause : Cause) → Shed t (fails t cause)
  unfolding fails
  fails_sheds cause = handling_sheds cause true _

  dooms_sheds : (cause : Cause) (exact : Bool) → Shed t (dooms t cause exact)
  unfolding dooms
  dooms_sheds cause exact = recording_sheds cause exact _

-- ---- the events by state

-- all but loads and stores keep or empty it
module _ (t : Thread) where
  tbegin_sheds : (s : State) (r : Bool) → Shed t (tbegin s t r)
  unfolding tbegin
  tbegin_sheds N r = inl refl
  tbegin_sheds T r = fork (Shed t) (leb most_levels (tl t.control.failure.texasr)) (λ e. fails_sheds t _) (λ e. inl refl)
  tbegin_sheds S r = inl refl

  tend_sheds : (s : State) (a : Bool) → Sheds t.transaction (tend s t a).thread.transaction
  unfolding tend transaction.discard
  tend_sheds N a = inl refl
  tend_sheds T a = fork (λ (f : Effect). Sheds t.transaction f.thread.transaction) (commits t a) (λ e. inr refl) (λ e. inl refl)
  tend_sheds S a = inl refl

  tabort_sheds : (s : State) (cause : Cause) → Shed t (tabort s t cause)
  unfolding tabort
  tabort_sheds N cause = inl refl
  tabort_sheds T cause = fails_sheds t cause
  tabort_sheds S cause = dooms_sheds (cr0_from_state t) cause true

  tabort_if_sheds : (held : Bool) → Shed t (tabort_if t held)
  unfolding tabort_if
  tabort_if_sheds held = fork (Shed t) held (λ e. tabort_sheds t.control.msr.state _) (λ e. inl refl)

  tsuspend_sheds : (s : State) → Shed t (tsuspend s t)
  unfolding tsuspend
  tsuspend_sheds N = inl refl
  tsuspend_sheds T = inl refl
  tsuspend_sheds S = inl refl

  tresume_sheds : (s : State) → Shed t (tresume s t)
  unfolding tresume handling
  tresume_sheds N = inl refl
  tresume_sheds T = inl refl
  tresume_sheds S = fork (Shed t) t.control.msr.doomed (λ e. inl refl) (λ e. inl refl)

  tsr_sheds : (l : Bool) → Shed t (tsr t l)
  unfolding tsr
  tsr_sheds l = fork (Shed t) l (λ e. tresume_sheds t.control.msr.state) (λ e. tsuspend_sheds t.control.msr.state)

  tcheck_sheds : (bf : ℕ) → Shed t (tcheck t bf)
  unfolding tcheck
  tcheck_sheds bf = fork (λ (u : Thread). Sheds t.transaction u.transaction) (eqb bf 0) (λ e. inl refl) (λ e. inl refl)

  disallowed_sheds : (s : State) → Shed t (disallowed s t)
  unfolding disallowed
  disallowed_sheds N = inl refl
  disallowed_sheds T = fails_sheds t _
  disallowed_sheds S = inl refl

  taking_sheds : (x : Turn) (pr : Bool) (at : ℕ) → Shed t (taking x t pr at)
  unfolding taking handling
  taking_sheds Bad pr at = inl refl
  taking_sheds Fails pr at = fails_sheds t _
  taking_sheds (To N tm) pr at = inl refl
  taking_sheds (To T tm) pr at = fork (Shed t) t.control.msr.doomed (λ e. inl refl) (λ e. inl refl)
  taking_sheds (To S tm) pr at = inl refl

  meets_own_sheds : (met : Bool) (cause : Cause) (exact : Bool) → Shed t (meets_own met t cause exact)
  unfolding meets_own
  meets_own_sheds met cause exact = fork (Shed t) met (λ e. dooms_sheds t cause exact) (λ e. inl refl)

  tlbie_sheds : (s : State) (p : ℕ) → Sheds t.transaction (tlbie s t p).thread.transaction
  unfolding tlbie
  tlbie_sheds N p = inl refl
  tlbie_sheds T p = fails_sheds t _
  tlbie_sheds S p = meets_own_sheds _ _ _

-- ---- what an effect leaves: its transaction kept, emptied, or with an access to the line that it touches

data Leaves (t : Thread) (f : Effect) : Type 0 where
  shed : Sheds t.transaction f.thread.transaction → Leaves t f
  loaded : (i : ℕ) → transaction.line i < lines → f.thread.transaction ≡ transaction.join t.transaction i → Loads f (transaction.line i) → Leaves t f
  stored : (i m v : ℕ) → transaction.line i < lines → f.thread.transaction ≡ transaction.store t.transaction i m v → Stores f (transaction.line i) → Leaves t f

module _ (t : Thread) (i : ℕ) (below : transaction.line i < lines) where
  load_leaves : (s : State) (rt j w : ℕ) (mem : List ℕ) → Leaves t (load s t rt i j w mem)
  unfolding load
  load_leaves N rt j w mem = shed (inl refl)
  load_leaves T rt j w mem =
      fork (Leaves t) (ld_overflows t i) (λ o. shed (fails_sheds t _))
      (λ o. fork (λ (u : Thread). Leaves t (loads (takes u rt i j w mem) i)) (tracked t) (λ e. loaded i below refl refl) (λ e. shed (inl refl)))
  load_leaves S rt j w mem = shed (inl refl)

  store_leaves : (s : State) (m v : ℕ) → Leaves t (store s t i m v)
  unfolding store logs
  store_leaves N m v = shed (inl refl)
  store_leaves T m v = fork (Leaves t) (std_overflows t i) (λ o. shed (fails_sheds t _)) (λ o. stored i m v below refl refl)
  store_leaves S m v = shed (meets_own_sheds t _ _ _)

effect_leaves : (e : Event) (t : Thread) (mem : List ℕ) → memory_sized (length mem) ≡ true → operands_right e (length mem) ≡ true → Leaves t (effect e t mem)
unfolding effect treclaim trechkpt mtspr interrupt host transaction.discard
effect_leaves e t mem z o =
    effect_by (λ e f. operands_right e (length mem) ≡ true → Leaves t (f t mem))
    (record {
      tbegin = λ r o. shed (tbegin_sheds t t.control.msr.state r);
      tend = λ a o. shed (tend_sheds t t.control.msr.state a);
      tabort = λ ra o. shed (tabort_sheds t t.control.msr.state _);
      tabortwc = λ to ra rb o. shed (tabort_if_sheds t _);
      tabortdc = λ to ra rb o. shed (tabort_if_sheds t _);
      tsr = λ l o. shed (tsr_sheds t l);
      tcheck = λ bf o. shed (tcheck_sheds t bf);
      treclaim = λ ra o. shed (inr refl);
      trechkpt = λ o. shed (inl refl);
      mtspr = λ spr ra o. shed (inl refl);
      load = λ e rt i j w a o. load_leaves t i (line_below i _ z (a _ o).1) t.control.msr.state rt j w mem;
      store = λ e ra i m v a n o. store_leaves t i (line_below i _ z (a _ o).1) t.control.msr.state m _;
      disallowed = λ o. shed (disallowed_sheds t t.control.msr.state);
      interrupt = λ o. shed (inl refl);
      host = λ pr tm o. shed (inl refl);
      tlbie = λ p o. shed (tlbie_sheds t t.control.msr.state p);
      returns = λ e a at m o. shed (taking_sheds t _ _ _);
      registers = λ e g s o. shed (inl refl);
    })
    e o

-- ---- the lines of what is left

-- a line that an access adds is its own
added : (a : Bool) (l m : ℕ) → (a || eqb l m) ≡ true → (a ≡ true) ⊎ (l ≡ m)
added true l m p = inl refl
added false l m p = inr (eqb-true l m p)

module _ (t : Thread) (f : Effect) (shaped : Shaped t.transaction) where
  -- what such a transaction adds to the write set, and to either set
  leaves_writes : (l : ℕ) → Leaves t f → lineset.has f.thread.transaction.writes l ≡ true → (lineset.has t.transaction.writes l ≡ true) ⊎ Stores f l
  leaves_writes l (shed s) p = inl (sheds_writes t.transaction _ l s p)
  leaves_writes l (loaded i b q k) p = inl (rw q at p)
  leaves_writes l (stored i m v b q k) p =
      ⊎_elim inl (λ m. inr (rw m k))
      (added (lineset.has t.transaction.writes l) l (transaction.line i) (sym (store_has t.transaction i m v l shaped b) ∙ (rw q at p)))

  leaves_touches : (l : ℕ) → Leaves t f → transaction.touches f.thread.transaction l ≡ true
      → (transaction.touches t.transaction l ≡ true) ⊎ (Stores f l ⊎ Loads f l)
  leaves_touches l (shed s) p = inl (sheds_touches t.transaction _ l s p)
  leaves_touches l (loaded i b q k) p =
      let r = lineset.has t.transaction.reads l in
      let w = lineset.has t.transaction.writes l in
      ⊎_elim (λ m. inl (or_comm r w ∙ m)) (λ m. inr (inr (rw m k)))
      (added (w || r) l (transaction.line i)
      (or_assoc w r _ ∙ or_comm w _ ∙ ap (λ (c : Bool). c || w) (sym (join_has t.transaction i l shaped b)) ∙ (rw q at p)))
  leaves_touches l (stored i m v b q k) p =
      let r = lineset.has t.transaction.reads l in
      let w = lineset.has t.transaction.writes l in
      ⊎_elim inl (λ m. inr (inl (rw m k)))
      (added (r || w) l (transaction.line i)
      (or_assoc r w _
      ∙ (λ j. lineset.has (sym (store_reads t.transaction i m v) j) l || sym (store_has t.transaction i m v l shaped b) j) ∙ (rw q at p)))

module _ (e : Event) (t : Thread) (mem : List ℕ) (z : memory_sized (length mem) ≡ true) (h : thread_valid t (length mem) ≡ true) (o : operands_right e (length mem) ≡ true) where
  pub effect_writes : (l : ℕ) → lineset.has (effect e t mem).thread.transaction.writes l ≡ true → (lineset.has t.transaction.writes l ≡ true) ⊎ Stores (effect e t mem) l
  effect_writes l p = leaves_writes t _ (valid_shaped t (length mem) h) l (effect_leaves e t mem z o) p

  pub effect_touches : (l : ℕ) → transaction.touches (effect e t mem).thread.transaction l ≡ true
      → (transaction.touches t.transaction l ≡ true) ⊎ (Stores (effect e t mem) l ⊎ Loads (effect e t mem) l)
  effect_touches l p = leaves_touches t _ (valid_shaped t (length mem) h) l (effect_leaves e t mem z o) p
