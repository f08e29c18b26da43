-- A thread that another thread's access meets: valid still, and with the line in its sets no more.
use mathlib.Core.Path.{◌≡◌, refl, sym, ap, ◌∙◌}
use mathlib.Core.Bool.{Bool, true, false, not, cond, ◌&&◌, and-eq-true_iff, or_comm, false≢true}
use mathlib.Core.Logic.{inl, ⊎_elim}
use mathlib.Core.List.{List}
use Prim.Native.Nat.{ℕ, zero, suc, ◌+◌, ◌*◌, ◌≤◌, ◌<◌}
use native.Mathlib.Nat.{not-suc-le-zero, eq-or-lt_of_le, le_of_suc-le-suc}
use native.Mathlib.Omega.{arith}
use lib.Dec.{eqb}
use lib.ListN.{length, set, length-set}
use lib.Seq.{get_or-set_same, get_or-set_other}
use borrow.Author.Tests.{eqb-false, ne_eqb}
use Rattle.base.specs.Limits.{page_lines}
use Rattle.base.proofs.Below.{fork, any_false}
use Rattle.lines.specs.Lines as lineset
use Rattle.lines.proofs.Laws.{has_empty}
use Rattle.transaction.specs.Transaction as transaction
use Rattle.transaction.specs.declared.Cause.{Cause}
use Rattle.transaction.specs.declared.Touch.{Touch}
use Rattle.transaction.specs.declared.Touch.TheVariants.{Untouched, Load, Store, Page}
use Rattle.transaction.specs.declared.Transaction.{Transaction}
use Rattle.thread.specs.Thread.{handling, other_recording, felled}
use Rattle.thread.specs.declared.State.{State}
use Rattle.thread.specs.declared.State.TheVariants.{N, T, S}
use Rattle.thread.specs.declared.Thread.{Thread}
use Rattle.machine.specs.Machine.{thread, no_thread}
use Rattle.machine.specs.Valid.{thread_valid, zero_state, zero_msr, zero_control, zero_thread}
use Rattle.step_rules.specs.Conflict.{hits, struck, strike}
use Rattle.laws_keeping.proofs.Fails.{live_unfailed_t, live_unfailed_s, held_nothing_n, held_nothing_s, failure_keeps_t, failure_keeps_s, failure_empties}
use Rattle.laws_keeping.proofs.Sets.{Sheds, sheds_writes, sheds_touches, recording_sheds, handling_sheds}

-- a record past the count is in N
pub zero_in_n : (t : Thread) → zero_thread t ≡ true → zero_state t.control.msr.state ≡ true
unfolding zero_thread zero_control zero_msr
zero_in_n t h = (simp and-eq-true_iff at h).0.0.1.0.0.1.1

-- the empty set has no line of a page
pub no_page : (p : ℕ) → lineset.has_page lineset.empty p ≡ false
unfolding lineset.has_page
no_page p = any_false _ page_lines (λ i h. has_empty (page_lines * p + i))

-- what is empty is not hit
unhit : (x : Transaction) (touch : Touch) → x ≡ transaction.empty → hits x touch ≡ false
unfolding transaction.empty hits
unhit x Untouched e = refl
unhit x (Load l) e = rw e (has_empty l)
unhit x (Store l) e = rw e (simp has_empty)
unhit x (Page p) e = rw e (simp no_page)

module _ (t : Thread) (len : ℕ) (touch : Touch) (cause : Cause) where
  -- by the state
  keeps : (s : State) → t.control.msr.state ≡ s → thread_valid t len ≡ true → thread_valid (struck s t touch cause) len ≡ true
  unfolding struck felled
  keeps N p h = h
  keeps T p h =
      fork (λ (u : Thread). thread_valid u len ≡ true) (hits t.transaction touch) (λ e. failure_keeps_t t len cause false _ p h) (λ e. h)
  keeps S p h =
      fork (λ (u : Thread). thread_valid u len ≡ true) (not t.control.msr.doomed && hits t.transaction touch)
      (λ e. failure_keeps_s t len cause false _ p h) (λ e. h)

  pub struck_keeps : thread_valid t len ≡ true → thread_valid (struck t.control.msr.state t touch cause) len ≡ true
  struck_keeps h = keeps t.control.msr.state refl h

  -- a record past the count is not struck
  pub struck_zero : zero_thread t ≡ true → struck t.control.msr.state t touch cause ≡ t
  unfolding struck felled
  struck_zero h = go t.control.msr.state (zero_in_n t h)
    where
      go : (s : State) → zero_state s ≡ true → struck s t touch cause ≡ t
      go N p = refl
      go T p = absurd (false≢true p)
      go S p = absurd (false≢true p)

  -- its sets only lose lines
  sheds : (s : State) → Sheds t.transaction (struck s t touch cause).transaction
  unfolding struck felled
  sheds N = inl refl
  sheds T = fork (λ (u : Thread). Sheds t.transaction u.transaction) (hits t.transaction touch) (λ e. handling_sheds t cause false _) (λ e. inl refl)
  sheds S =
      fork (λ (u : Thread). Sheds t.transaction u.transaction) (not t.control.msr.doomed && hits t.transaction touch)
      (λ e. recording_sheds t cause false _) (λ e. inl refl)

  pub struck_writes : (m : ℕ) → lineset.has (struck t.control.msr.state t touch cause).transaction.writes m ≡ true → lineset.has t.transaction.writes m ≡ true
  struck_writes m p = sheds_writes t.transaction _ m (sheds t.control.msr.state) p

  pub struck_touches : (m : ℕ) → transaction.touches (struck t.control.msr.state t touch cause).transaction m ≡ true → transaction.touches t.transaction m ≡ true
  struck_touches m p = sheds_touches t.transaction _ m (sheds t.control.msr.state) p

  -- such an access does not hit it again
  struck_unhit : (s : State) → t.control.msr.state ≡ s → thread_valid t len ≡ true → hits (struck s t touch cause).transaction touch ≡ false
  unfolding struck felled handling
  struck_unhit N p h = unhit t.transaction touch (held_nothing_n t len p h)
  struck_unhit T p h = go (hits t.transaction touch) refl
    where
      go : (b : Bool) → hits t.transaction touch ≡ b → hits (cond b (handling (other_recording t cause)) t).transaction touch ≡ false
      go true e = unhit _ touch (failure_empties t cause false _ (live_unfailed_t t len p h))
      go false e = e
  struck_unhit S p h = go t.control.msr.doomed (hits t.transaction touch) refl refl
    where
      go : (d b : Bool) → t.control.msr.doomed ≡ d → hits t.transaction touch ≡ b
          → hits (cond (not d && b) (other_recording t cause) t).transaction touch ≡ false
      go true b q e = unhit t.transaction touch (held_nothing_s t len p q h)
      go false true q e = unhit _ touch (failure_empties t cause false _ (live_unfailed_s t len p q h))
      go false false q e = e

  -- the line is in its write set no more, nor after a store in its read set
  pub struck_written : (l : ℕ) → touch ≡ Load l → thread_valid t len ≡ true → lineset.has (struck t.control.msr.state t touch cause).transaction.writes l ≡ false
  unfolding hits
  struck_written l p h =
      ap (hits (struck t.control.msr.state t touch cause).transaction) (sym p) ∙ struck_unhit t.control.msr.state refl h

  pub struck_touched : (l : ℕ) → touch ≡ Store l → thread_valid t len ≡ true → transaction.touches (struck t.control.msr.state t touch cause).transaction l ≡ false
  unfolding hits
  struck_touched l p h =
      let x = (struck t.control.msr.state t touch cause).transaction in
      or_comm (lineset.has x.reads l) _ ∙ ap (hits x) (sym p) ∙ struck_unhit t.control.msr.state refl h

-- one turn of the strike leaves the accessor and every place but its own
turned : (us : List Thread) (n w v : ℕ) (u : Thread) → (v ≡ n → v ≡ w) → thread (cond (eqb n w) us (set us n u)) v ≡ thread us v
turned us n w v u p = go (eqb n w) refl
  where
    go : (b : Bool) → eqb n w ≡ b → thread (cond b us (set us n u)) v ≡ thread us v
    go true e = refl
    go false e = get_or-set_other us n v u no_thread (λ q. eqb-false n w e (sym q ∙ p q))

-- the strike at each thread: the accessor as it was, every other struck
module _ (ts : List Thread) (w : ℕ) (touch : Touch) (cause : Cause) where
  pub strike_length : (n : ℕ) → length (strike ts w touch cause n) ≡ length ts
  unfolding strike
  strike_length zero = refl
  strike_length (suc n) =
      fork (λ (us : List Thread). length us ≡ length ts) (eqb n w) (λ e. strike_length n) (λ e. simp length-set (strike_length n))

  pub strike_own : (n : ℕ) → thread (strike ts w touch cause n) w ≡ thread ts w
  unfolding strike
  strike_own zero = refl
  strike_own (suc n) = turned (strike ts w touch cause n) n w w _ (λ q. refl) ∙ strike_own n

  pub strike_other : (n v : ℕ) → n ≤ length ts → v < n → (v ≡ w → ⊥) → thread (strike ts w touch cause n) v ≡ struck (thread ts v).control.msr.state (thread ts v) touch cause
  unfolding strike
  strike_other zero v h q p = absurd (not-suc-le-zero q)
  strike_other (suc n) v h q p =
      ⊎_elim here (λ k. turned us n w v _ (λ e. absurd (omega arith)) ∙ strike_other n v (omega arith) k p) (eq-or-lt_of_le (le_of_suc-le-suc q))
    where
      us : List Thread
      us = strike ts w touch cause n

      here : v ≡ n → thread (strike ts w touch cause (suc n)) v ≡ struck (thread ts v).control.msr.state (thread ts v) touch cause
      here e = let k : n < length us = omega (arith, strike_length n) in rw (e, ne_eqb n w (λ f. p (e ∙ f))) (get_or-set_same us n _ no_thread k)
