-- Whom a tlbie makes fail: the others by the scan, its own thread by its effect.
use mathlib.Core.Path.{◌≡◌, refl, sym, ap, ◌∙◌, subst}
use mathlib.Core.Bool.{Bool, true, false, cond, or_comm, true≢false, false≢true}
use mathlib.Core.List.{List}
use Prim.Native.Nat.{ℕ, ◌≤◌, ◌<◌}
use native.Mathlib.Decide.{ℕ_discrete}
use native.Mathlib.Omega.{arith}
use lib.ListN.{length, set}
use lib.Seq.{get_or-set_same, get_or-set_other}
use Rattle.base.specs.Limits.{most_threads}
use Rattle.lines.specs.Lines as lineset
use Rattle.transaction.specs.Transaction as transaction
use Rattle.transaction.specs.Transaction.{touches_page}
use Rattle.transaction.specs.declared.Cause.TheVariants.{Translation}
use Rattle.transaction.specs.declared.Touch.TheVariants.{Page}
use Rattle.transaction.specs.declared.Transaction.{Transaction}
use Rattle.thread.specs.Thread.{with_control, in_state, recording, handling, felled}
use Rattle.thread.specs.declared.State.{State}
use Rattle.thread.specs.declared.State.TheVariants.{N, T, S}
use Rattle.thread.specs.declared.Thread.{Thread}
use Rattle.event.specs.declared.Event.TheVariants.{Tlbie}
use Rattle.power_rules.specs.Common.{passes, dooms}
use Rattle.power_rules.specs.Access.{meets_own, tlbie}
use Rattle.step_rules.specs.Effects.{effect}
use Rattle.machine.specs.Machine.{thread, no_thread}
use Rattle.machine.specs.Valid.{thread_valid, valid}
use Rattle.machine.specs.declared.Machine.{Machine}
use Rattle.machine.proofs.Validity.{valid_thread, valid_count}
use Rattle.step_rules.specs.Refusal.{in_t}
use Rattle.step_rules.proofs.Refusals.{passed_thread, refusal_valid}
use Rattle.step_rules.specs.Conflict.{hits, struck, strike, others}
use Rattle.step_rules.specs.Step.{perform}
use Rattle.step_rules.proofs.Steps.{step_passed}
use Rattle.laws_keeping.proofs.Fails.{live_unfailed_t, live_unfailed_s, held_nothing_s}
use Rattle.laws_keeping.proofs.Parts.{valid_right}
use Rattle.laws_keeping.proofs.Struck.{no_page, strike_length, strike_other}
use Rattle.laws_pages.specs.Pages.{Left, WhoFails}

-- the scan asks the write set first
hits_page : (x : Transaction) (p : ℕ) (b : Bool) → hits x (Page p) ≡ b → b ≡ touches_page x p
unfolding hits
hits_page x p b e = sym e ∙ or_comm (lineset.has_page x.writes p) (lineset.has_page x.reads p)

-- what is empty has no line of a page
none : (x : Transaction) (p : ℕ) → x ≡ transaction.empty → touches_page x p ≡ false
unfolding transaction.empty
none x p e = rw e (simp no_page)

-- a thread put into a state, with TDOOMED: at its own state it is itself
module _ (y : Thread) (len p : ℕ) where
  abbrev put : State → Bool → Thread
  put s d = with_control y (in_state y.control s d)

  -- another thread's tlbie
  struck_left : (s : State) (d : Bool) → thread_valid (put s d) len ≡ true → Left p (put s d) (struck s (put s d) (Page p) Translation)
  unfolding struck felled handling recording
  struck_left N d h = record { exactly = refl; recorded = λ e. absurd (false≢true e); spared = λ e. (refl, refl, refl) }
  struck_left T d h = go (hits y.transaction (Page p)) refl
    where
      go : (b : Bool) → hits y.transaction (Page p) ≡ b → Left p (put T d) (cond b (felled T (put T d) Translation) (put T d))
      go true e =
          let z = live_unfailed_t (put T d) len refl h in
          record { exactly = hits_page _ p true e; recorded = λ q. simp z; spared = λ q. absurd (true≢false q) }
      go false e = record { exactly = hits_page _ p false e; recorded = λ q. absurd (false≢true q); spared = λ q. (refl, refl, refl) }
  struck_left S true h = record { exactly = refl; recorded = λ e. absurd (false≢true e); spared = λ e. (refl, refl, refl) }
  struck_left S false h = go (hits y.transaction (Page p)) refl
    where
      go : (b : Bool) → hits y.transaction (Page p) ≡ b → Left p (put S false) (cond b (felled S (put S false) Translation) (put S false))
      go true e =
          let z = live_unfailed_s (put S false) len refl refl h in
          record { exactly = simp z (hits_page _ p true e); recorded = λ q. simp z; spared = λ q. absurd (true≢false (simp z at q)) }
      go false e = record { exactly = hits_page _ p false e; recorded = λ q. absurd (false≢true q); spared = λ q. (refl, refl, refl) }

  -- its own, in N and S
  own_left : (s : State) (d : Bool) → in_t s ≡ false → thread_valid (put s d) len ≡ true → Left p (put s d) (tlbie s (put s d) p).thread
  unfolding tlbie meets_own dooms recording
  own_left N d n h = record { exactly = refl; recorded = λ e. absurd (false≢true e); spared = λ e. (refl, refl, refl) }
  own_left T d n h = absurd (true≢false n)
  own_left S true n h =
      subst (λ (b : Bool). Left p (put S true) (cond b (dooms (put S true) Translation false) (passes (put S true))).thread)
      (sym (none y.transaction p (held_nothing_s (put S true) len refl refl h)))
      (record { exactly = refl; recorded = λ e. absurd (false≢true e); spared = λ e. (refl, refl, refl) })
  own_left S false n h = go (touches_page y.transaction p) refl
    where
      go : (b : Bool) → touches_page y.transaction p ≡ b
          → Left p (put S false) (cond b (dooms (put S false) Translation false) (passes (put S false))).thread
      go true e =
          let z = live_unfailed_s (put S false) len refl refl h in
          record { exactly = simp z (sym e); recorded = λ q. simp z; spared = λ q. absurd (true≢false (simp z at q)) }
      go false e = record { exactly = sym e; recorded = λ q. absurd (false≢true q); spared = λ q. (refl, refl, refl) }

-- each thread after the event
module _ (m : Machine) (mem : List ℕ) (w p : ℕ) (right : valid m (length mem) ≡ true) (here : w < m.count) where
  abbrev t : Thread
  t = thread m.threads w

  -- in N and S the page is touched
  touches : (s : State) → in_t s ≡ false → (tlbie s t p).touch ≡ Page p
  unfolding tlbie
  touches N n = refl
  touches T n = absurd (true≢false n)
  touches S n = refl

  abbrev us : List Thread
  us = strike m.threads w (Page p) Translation most_threads

  four : length us ≡ most_threads
  four = strike_length m.threads w (Page p) Translation most_threads ∙ (valid_right m _ right).four

  after : in_t t.control.msr.state ≡ false → (perform m mem w (Tlbie p)).done.machine.threads ≡ set us w (tlbie t.control.msr.state t p).thread
  unfolding perform effect others
  after n = ap (λ touch. set (others touch m.threads w) w (tlbie t.control.msr.state t p).thread) (touches _ n)

  left : in_t t.control.msr.state ≡ false → (v : ℕ) → v < m.count → Left p (thread m.threads v) (thread (perform m mem w (Tlbie p)).done.machine.threads v)
  left n v below = subst (λ (ts : List Thread). Left p (thread m.threads v) (thread ts v)) (sym (after n)) (go (ℕ_discrete v w))
    where
      few : m.count ≤ most_threads
      few = valid_count m _ right

      own : Thread
      own = (tlbie t.control.msr.state t p).thread

      go : Dec (v ≡ w) → Left p (thread m.threads v) (thread (set us w own) v)
      go (yes e) =
          let l : w < length us = omega (arith, four, few) in
          rw (e, get_or-set_same us w own no_thread l) (own_left t (length mem) p t.control.msr.state t.control.msr.doomed n (valid_thread m _ right w here))
      go (no d) =
          let y = thread m.threads v in
          rw (get_or-set_other us w v own no_thread d, strike_other m.threads w (Page p) Translation most_threads v (omega (arith, (valid_right m _ right).four)) (omega (arith, few)) d)
          (struck_left y (length mem) p y.control.msr.state y.control.msr.doomed (valid_thread m _ right v below))

pub who_fails : WhoFails
who_fails m mem w p right z n v below =
    subst (λ o. Left p (thread m.threads v) (thread o.done.machine.threads v)) (sym (step_passed m mem w (Tlbie p) z))
    (left m mem w p right (passed_thread m (length mem) w (Tlbie p) (sym (refusal_valid m (length mem) w (Tlbie p) right) ∙ z)) n v below)
