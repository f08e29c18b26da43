-- An event on the thread itself: two threads alike that execute nothing that tells stay alike or become equal.
use mathlib.Core.Path.{◌≡◌, refl, sym, ap, ◌∙◌, subst}
use mathlib.Core.Bool.{Bool, true, false, cond, ◌||◌, true≢false}
use mathlib.Core.Logic.{◌⊎◌, inl, inr}
use mathlib.Core.List.{List, [], ◌∷◌}
use Prim.Native.Nat.{ℕ, zero, suc}
use native.Mathlib.Omega.{arith}
use lib.Dec.{eqb, leb}
use lib.Bits.{bit_or}
use lib.ListN.{length, get_or, set}
use borrow.Author.Tests.{not-false}
use Rattle.base.specs.Limits.{most_levels}
use Rattle.lines.specs.declared.LineSet.{LineSet}
use Rattle.transaction.specs.Transaction as transaction
use Rattle.transaction.specs.Transaction.{entry}
use Rattle.transaction.specs.declared.Cause.{Cause}
use Rattle.transaction.specs.declared.Cause.TheVariants.{Footprint}
use Rattle.transaction.specs.declared.Entry.{Entry}
use Rattle.transaction.specs.declared.Touch.{Touch}
use Rattle.transaction.specs.declared.Write.TheVariants.{Unwritten}
use Rattle.std.specs.Prelude.{Option, Some, None}
use Rattle.transaction.proofs.Laws.{lookup_same}
use Rattle.thread.specs.Texasr.{tl}
use Rattle.thread.specs.Thread.{with_transaction, failed, recording, handling}
use Rattle.thread.specs.declared.Registers.{Registers}
use Rattle.thread.specs.declared.State.{State}
use Rattle.thread.specs.declared.State.TheVariants.{T}
use Rattle.thread.specs.declared.Control.{Control}
use Rattle.thread.specs.declared.Thread.{Thread}
use Rattle.thread.specs.declared.Effect.{Effect}
use Rattle.kinds.specs.Rows.{tm_spr}
use Rattle.event.specs.Event.{trechkpt_kind, mtspr_kind, kind, tm_instruction}
use Rattle.event.specs.declared.Event.{Event}
use Rattle.event.specs.declared.Event.TheVariants.{Trechkpt, Mtspr}
use Rattle.power_rules.specs.Common.{did, doing, quiet, passes, gpr, fails, abort_cause}
use Rattle.power_rules.specs.Access.{tracked, ld_overflows, takes, loads, load, stores, logs, store, tlbie}
use Rattle.power_rules.specs.Aborts.{tabort}
use Rattle.power_rules.specs.Begins.{tbegin}
use Rattle.power_rules.specs.Ends.{commits, tend}
use Rattle.power_rules.specs.Suspends.{tresume, tsr}
use Rattle.power_rules.specs.Reclaims.{tcheck, treclaim}
use Rattle.power_rules.specs.Plain.{disallowed, host}
use Rattle.power_rules.specs.Returns.{taking}
use Rattle.thread.specs.Turns.{table}
use Rattle.thread.specs.declared.turns.Asked.{Asked}
use Rattle.step_rules.specs.Effects.{effect}
use Rattle.step_rules.proofs.Cases.{effect_by}
use Rattle.power_rules.specs.declared.Did.{Did}
use Rattle.step_rules.specs.Refusal.{bad_thing, refused_there}
use Rattle.laws_keeping.proofs.Effects.{not_bad}
use Rattle.laws_secrecy.specs.Secrecy.{AlikeThread, tells}

-- equal, or alike
abbrev pub Even : Thread → Thread → Type 0
Even t u = (t ≡ u) ⊎ AlikeThread t u

-- what an event does on two threads: one answer, one touch, nothing written, and threads that are equal or alike
pub record EvenEffect (a b : Effect) : Type 0 where
  pub answer : a.answer ≡ b.answer
  pub touch : a.touch ≡ b.touch
  pub unwritten : a.write ≡ Unwritten
  pub unwritten' : b.write ≡ Unwritten
  pub threads : Even a.thread b.thread

-- two places of a log with the same doubleword and the same marks
abbrev Stored : Entry → Entry → Type 0
Stored a b = (a.index ≡ b.index) × (a.marks ≡ b.marks)

-- what holds on both ways of one test
pub both : {A : Type 0} (P : A → A → Type 0) (b : Bool) {x y x' y' : A} → (b ≡ true → P x x') → (b ≡ false → P y y') → P (cond b x y) (cond b x' y')
both P true p q = p refl
both P false p q = q refl

-- what holds between the elements of two lists, and between two new ones, holds after both are stored
pub set_both : {A : Type 0} (R : ℕ → A → A → Type 0) (d : A) (xs ys : List A) (i : ℕ) (a b : A) → length xs ≡ length ys
    → ((k : ℕ) → R k (get_or xs k d) (get_or ys k d)) → R i a b → (k : ℕ) → R k (get_or (set xs i a) k d) (get_or (set ys i b) k d)
set_both R d [] [] i a b l h r k = h k
set_both R d [] (y ∷ ys) i a b l h r k = absurd (omega arith)
set_both R d (x ∷ xs) [] i a b l h r k = absurd (omega arith)
set_both R d (x ∷ xs) (y ∷ ys) zero a b l h r zero = r
set_both R d (x ∷ xs) (y ∷ ys) zero a b l h r (suc k) = h (suc k)
set_both R d (x ∷ xs) (y ∷ ys) (suc i) a b l h r zero = h zero
set_both R d (x ∷ xs) (y ∷ ys) (suc i) a b l h r (suc k) = set_both (λ n. R (suc n)) d xs ys i a b (omega arith) (λ n. h (suc n)) r k

-- the thread with other live registers, another CR0 and another log; a thread alike to it is such a one
abbrev pub beside : Thread → Registers → ℕ → List Entry → Thread
beside t r f es =
    record {
      live = r;
      cr0 = f;
      checkpoint = t.checkpoint;
      control = t.control;
      transaction = record { reads = t.transaction.reads; writes = t.transaction.writes; count = t.transaction.count; log = es };
    }

pub is_beside : {t u : Thread} → AlikeThread t u → beside t u.live u.cr0 u.transaction.log ≡ u
is_beside {t} {u} a =
    λ j. record {
      live = u.live;
      cr0 = u.cr0;
      checkpoint = a.checkpoint j;
      control = a.control j;
      transaction = record { reads = a.reads j; writes = a.writes j; count = a.count j; log = u.transaction.log };
    }

-- a first failure that is handled forgets what was not alike
pub failure_same : (t : Thread) (r : Registers) (f : ℕ) (es : List Entry) → failed t.control ≡ false → (cause : Cause) (exact : Bool) (at : ℕ)
    → handling (recording t cause exact at) ≡ handling (recording (beside t r f es) cause exact at)
unfolding handling recording transaction.discard
failure_same t r f es z cause exact at = simp z

-- a Bad Thing is refused
barred : (k : Control) (e : Event) → bad_thing k.msr.state k (kind e) (tm_instruction e) ≡ true → refused_there k e ≡ 0 → ⊥
barred k e b o = true≢false (sym b ∙ not_bad k e o)

module _ (t : Thread) (r : Registers) (f : ℕ) (es : List Entry) (p : t.control.msr.state ≡ T) (z : failed t.control ≡ false)
    (size : length t.transaction.log ≡ length es) (q : (n : ℕ) → Stored (entry t.transaction.log n) (entry es n)) where
  -- on to the next instruction, with whatever registers, CR0 and values
  goes : {k : Control} {g h : Registers} {c d : ℕ} {reads writes : LineSet} {n : ℕ} {xs ys : List Entry} {touch : Touch}
      → k.msr.state ≡ T → ((n : ℕ) → Stored (entry xs n) (entry ys n))
      → EvenEffect
      (doing (did 0 (record { live = g; cr0 = c; checkpoint = t.checkpoint; control = k; transaction = record { reads = reads; writes = writes; count = n; log = xs } })) touch Unwritten)
      (doing (did 0 (record { live = h; cr0 = d; checkpoint = t.checkpoint; control = k; transaction = record { reads = reads; writes = writes; count = n; log = ys } })) touch Unwritten)
  goes s i =
      record {
        answer = refl;
        touch = refl;
        unwritten = refl;
        unwritten' = refl;
        threads = inr (record { transactional = s; control = refl; checkpoint = refl; reads = refl; writes = refl; count = refl; addresses = λ n. (i n).0; marks = λ n. (i n).1 });
      }

  -- the thread's own failure
  falls : (cause : Cause) → EvenEffect (quiet (fails t cause)) (quiet (fails (beside t r f es) cause))
  unfolding fails
  falls cause = record { answer = refl; touch = refl; unwritten = refl; unwritten' = refl; threads = inl (failure_same t r f es z cause true _) }

  -- so of what touches nothing
  abbrev Evenly : Did → Did → Type 0
  Evenly a b = EvenEffect (quiet a) (quiet b)

  tbegin_even : (b : Bool) → Evenly (tbegin T t b) (tbegin T (beside t r f es) b)
  unfolding tbegin
  tbegin_even b = both Evenly (leb most_levels (tl t.control.failure.texasr)) (λ x. falls _) (λ x. goes p q)

  tend_even : (a : Bool) → commits t a ≡ false → EvenEffect (tend T t a) (tend T (beside t r f es) a)
  unfolding tend
  tend_even a c = simp c (goes p q)

  tcheck_even : (bf : ℕ) → Evenly (tcheck t bf) (tcheck (beside t r f es) bf)
  unfolding tcheck
  tcheck_even bf = both (λ (x y : Thread). Evenly (passes x) (passes y)) (eqb bf 0) (λ x. goes p q) (λ x. goes p q)

  -- an abort or a reclaim with RA = 0
  tabort_even : (ra : ℕ) → eqb ra 0 ≡ true → Evenly (tabort T t (abort_cause t ra)) (tabort T (beside t r f es) (abort_cause (beside t r f es) ra))
  unfolding tabort
  tabort_even ra a = simp a (falls _)

  treclaim_even : (ra : ℕ) → eqb ra 0 ≡ true → Evenly (treclaim t ra) (treclaim (beside t r f es) ra)
  unfolding treclaim recording transaction.discard
  treclaim_even ra a = record { answer = refl; touch = refl; unwritten = refl; unwritten' = refl; threads = inl (simp (a, z)) }

  tresume_even : Evenly (tresume T t) (tresume T (beside t r f es))
  unfolding tresume
  tresume_even = goes p q

  -- a load, whatever it loads
  load_even : (rt i j w : ℕ) (mem : List ℕ) → EvenEffect (load T t rt i j w mem) (load T (beside t r f es) rt i j w mem)
  unfolding load transaction.crowded
  load_even rt i j w mem =
      both EvenEffect (ld_overflows t i) (λ x. falls _)
      (λ x. both (λ (x y : Thread). EvenEffect (loads (takes x rt i j w mem) i) (loads (takes y rt i j w mem) i)) (tracked t) (λ y. goes p q) (λ y. goes p q))

  -- a store, whatever it stores: its place is found by the indices alone, and what it marks does not go by the value
  store_even : (i m v v' : ℕ) → EvenEffect (store T t i m v) (store T (beside t r f es) i m v')
  unfolding store logs transaction.crowded transaction.full transaction.store_at transaction.stored
  store_even i m v v' =
      let g = transaction.lookup t.transaction i in
      subst (λ (h : Option ℕ). EvenEffect (at t v g) (at (beside t r f es) v' h)) (lookup_same t.transaction.log es i _ (λ k l. (q k).0)) (found g)
    where
      room : Thread → Option ℕ → Bool
      room t g = transaction.crowded t.transaction (transaction.line i) || transaction.full t.transaction g

      at : Thread → ℕ → Option ℕ → Effect
      at t v g = cond (room t g) (quiet (fails t Footprint)) (stores (passes (with_transaction t (transaction.store_at t.transaction g i m v))) i Unwritten)

      kept : (n : ℕ) (a b : Entry) → Stored a b → (k : ℕ) → Stored (entry (set t.transaction.log n a) k) (entry (set es n b) k)
      kept n a b e = set_both (λ k a b. Stored a b) transaction.no_entry t.transaction.log es n a b size q e

      found : (g : Option ℕ) → EvenEffect (at t v g) (at (beside t r f es) v' g)
      found (Some n) = both EvenEffect (room t (Some n)) (λ x. falls _) (λ x. goes p (kept n _ _ (refl, ap (λ (k : ℕ). bit_or k m) (q n).1)))
      found None = both EvenEffect (room t None) (λ x. falls _) (λ x. goes p (kept _ _ _ (refl, refl)))

  disallowed_even : Evenly (disallowed T t) (disallowed T (beside t r f es))
  unfolding disallowed
  disallowed_even = falls _

  -- tlbie is one of those
  tlbie_even : (n : ℕ) → EvenEffect (tlbie T t n) (tlbie T (beside t r f es) n)
  unfolding tlbie
  tlbie_even n = falls _

  -- rfid and mtmsrd fail the transaction, whatever they ask for
  returns_even : (a : Asked) (at : ℕ) → let x = table T a.t a.s t.control.msr.tm a.tm in
      Evenly (taking x t a.pr at) (taking x (beside t r f es) a.pr at)
  unfolding taking table
  returns_even a at = falls _

  -- what is so in T is so in the thread's state
  here : (P : State → Type 0) → P T → P t.control.msr.state
  here P h = subst P (sym p) h

  effect_even : (e : Event) (mem : List ℕ) → tells e t ≡ false → refused_there t.control e ≡ 0 → EvenEffect (effect e t mem) (effect e (beside t r f es) mem)
  unfolding effect tells kind tm_instruction bad_thing tsr host
  effect_even e mem n o =
      effect_by (λ e does. tells e t ≡ false → refused_there t.control e ≡ 0 → EvenEffect (does t mem) (does (beside t r f es) mem))
      (record {
        tbegin = λ b n o. here (λ s. Evenly (tbegin s t b) (tbegin s (beside t r f es) b)) (tbegin_even b);
        tend = λ a n o. here (λ s. EvenEffect (tend s t a) (tend s (beside t r f es) a)) (tend_even a n);
        tabort =
            λ ra n o.
            here (λ s. Evenly (tabort s t (abort_cause t ra)) (tabort s (beside t r f es) (abort_cause (beside t r f es) ra))) (tabort_even ra (not-false _ n));
        tabortwc = λ to ra rb n o. absurd (true≢false n);
        tabortdc = λ to ra rb n o. absurd (true≢false n);
        tsr = λ l n o. simp (not-false l n) (here (λ s. Evenly (tresume s t) (tresume s (beside t r f es))) tresume_even);
        tcheck = λ bf n o. tcheck_even bf;
        treclaim = λ ra n o. treclaim_even ra (not-false _ n);
        trechkpt = λ n o. absurd (barred t.control Trechkpt (here (λ s. bad_thing s t.control trechkpt_kind true ≡ true) refl) o);
        mtspr = λ spr ra n o. absurd (barred t.control (Mtspr spr ra) (here (λ s. bad_thing s t.control mtspr_kind (tm_spr spr) ≡ true) refl) o);
        load = λ e rt i j w a n o. here (λ s. EvenEffect (load s t rt i j w mem) (load s (beside t r f es) rt i j w mem)) (load_even rt i j w mem);
        store = λ e ra i m v a z n o. here (λ s. EvenEffect (store s t i m (v (gpr t ra))) (store s (beside t r f es) i m (v (gpr (beside t r f es) ra)))) (store_even i m _ _);
        disallowed = λ n o. here (λ s. Evenly (disallowed s t) (disallowed s (beside t r f es))) disallowed_even;
        interrupt = λ n o. absurd (true≢false n);
        host = λ pr tm n o. goes p q;
        tlbie = λ k n o. here (λ s. EvenEffect (tlbie s t k) (tlbie s (beside t r f es) k)) (tlbie_even k);
        returns = λ e a at m n o. here (λ s. let g = a t.control in Evenly (taking (table s g.t g.s t.control.msr.tm g.tm) t g.pr (at t.control)) (taking (table s g.t g.s t.control.msr.tm g.tm) (beside t r f es) g.pr (at t.control))) (returns_even (a t.control) (at t.control));
        registers = λ e g s n o. goes p q;
      })
      e n o

-- two threads alike
module _ {t u : Thread} (a : AlikeThread t u) where
  pub effect_alike : (e : Event) (mem : List ℕ) → length t.transaction.log ≡ length u.transaction.log → failed t.control ≡ false
      → tells e t ≡ false → refused_there t.control e ≡ 0 → EvenEffect (effect e t mem) (effect e u mem)
  effect_alike e mem size z n o =
      subst (λ (x : Thread). EvenEffect (effect e t mem) (effect e x mem)) (is_beside a)
      (effect_even t u.live u.cr0 u.transaction.log a.transactional z size (λ n. (a.addresses n, a.marks n)) e mem n o)
