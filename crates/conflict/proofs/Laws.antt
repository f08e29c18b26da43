-- Laws of conflicts: one turn of the strike, which goes up through the threads; the accessor's own thread.
use mathlib.Core.Bool.{and-false}
use Rattle.std.proofs.Common.{◌≡◌, ◌≢◌, refl, sym, ap, ◌∙◌, Bool, true, false, cond, List, ℕ, zero, suc, ◌+◌, ◌≤◌, add-one, ◌<◌, arith, length, set, get_or}
use native.Mathlib.Decide.{ℕ_discrete}
use borrow.Author.Tests.{eq-eqb, ne_eqb}
use Rattle.std.proofs.lemmas.List.{get_or_default, length-set, set-get_or}
use lib.Dec.{eqb}
use lib.Seq.{get_or-set_other, set_comm}
use Rattle.base.specs.Limits.{most_threads}
use Rattle.transaction.specs.declared.Cause.{Cause}
use Rattle.transaction.specs.declared.Cause.TheVariants.{Translation}
use Rattle.transaction.specs.declared.Touch.{Touch}
use Rattle.transaction.specs.declared.Touch.TheVariants.{Untouched, Load, Store, Page}
use Rattle.thread.specs.Thread.{is_live, felled}
use Rattle.thread.specs.declared.State.{State}
use Rattle.thread.specs.declared.Thread.{Thread}
use Rattle.machine.specs.Machine.{thread, no_thread}
use Rattle.step_rules.specs.Conflict.{hits, conflict_cause, struck, strike, others}
use Rattle.conflict.specs.Inner.{cause, others_from}

module _ (ts : List Thread) (w : ℕ) (touch : Touch) (cause : Cause) where
  pub strike_none : ts ≡ strike ts w touch cause 0
  unfolding strike
  strike_none = refl

  pub strike_step : (n : ℕ)
      → strike ts w touch cause (n + 1)
      ≡ cond (eqb n w) (strike ts w touch cause n) (set (strike ts w touch cause n) n (struck (thread ts n).control.msr.state (thread ts n) touch cause))
  unfolding strike
  strike_step n = ap (strike ts w touch cause) (add-one n)

  -- threads that the strike has not reached
  pub strike_above : (n k : ℕ) → n ≤ k → thread (strike ts w touch cause n) k ≡ thread ts k
  unfolding strike
  strike_above zero k h = refl
  strike_above (suc n) k h = go (eqb n w) (strike_above n k (omega arith))
    where
      go : (b : Bool) → thread (strike ts w touch cause n) k ≡ thread ts k
          → thread (cond b (strike ts w touch cause n) (set (strike ts w touch cause n) n (struck (thread ts n).control.msr.state (thread ts n) touch cause))) k ≡ thread ts k
      go true e = e
      go false e = get_or-set_other (strike ts w touch cause n) n k _ no_thread (λ q. omega arith) ∙ e

  length_strike : (n : ℕ) → length (strike ts w touch cause n) ≡ length ts
  unfolding strike
  length_strike zero = refl
  length_strike (suc n) = go (eqb n w) (length_strike n)
    where
      go : (b : Bool) → length (strike ts w touch cause n) ≡ length ts
          → length (cond b (strike ts w touch cause n) (set (strike ts w touch cause n) n (struck (thread ts n).control.msr.state (thread ts n) touch cause))) ≡ length ts
      go true e = e
      go false e = length-set (strike ts w touch cause n) n _ ∙ e

  -- thread k is struck when those before it are, whatever it reads as past the end, or it is the accessor
  pub strikes : (us : List Thread) (k : ℕ) (x d : Thread) → us ≡ strike ts w touch cause k → k < length ts → k ≢ w
      → x ≡ struck (get_or us k d).control.msr.state (get_or us k d) touch cause → set us k x ≡ strike ts w touch cause (k + 1)
  strikes us k x d p h o q =
      let long : length us ≡ length ts = ap length p ∙ length_strike k in
      let e : get_or us k d ≡ thread ts k = get_or_default us k d no_thread (omega arith) ∙ ap (λ (l : List Thread). thread l k) p ∙ strike_above k k (omega arith) in
      (λ j. set (p j) k ((q ∙ ap (λ (t : Thread). struck t.control.msr.state t touch cause) e) j))
      ∙ ap (λ (b : Bool). cond b (strike ts w touch cause k) (set (strike ts w touch cause k) k (struck (thread ts k).control.msr.state (thread ts k) touch cause))) (sym (ne_eqb k w o))
      ∙ sym (strike_step k)

  pub spares : (us : List Thread) (k : ℕ) (d : Thread) → us ≡ strike ts w touch cause k → k ≡ w → set us k (get_or us k d) ≡ strike ts w touch cause (k + 1)
  spares us k d p q =
      set-get_or us k d ∙ p
      ∙ ap (λ (b : Bool). cond b (strike ts w touch cause k) (set (strike ts w touch cause k) k (struck (thread ts k).control.msr.state (thread ts k) touch cause))) (sym (eq-eqb k w q))
      ∙ sym (strike_step k)

  -- the strike leaves the accessor alone, so it may be anew before it or behind it
  pub strike_set : (x : Thread) (n : ℕ) → strike (set ts w x) w touch cause n ≡ set (strike ts w touch cause n) w x
  unfolding strike
  strike_set x zero = refl
  strike_set x (suc n) = go (ℕ_discrete n w) (strike_set x n)
    where
      go : Dec (n ≡ w) → strike (set ts w x) w touch cause n ≡ set (strike ts w touch cause n) w x
          → cond (eqb n w) (strike (set ts w x) w touch cause n) (set (strike (set ts w x) w touch cause n) n (struck (thread (set ts w x) n).control.msr.state (thread (set ts w x) n) touch cause))
          ≡ set (cond (eqb n w) (strike ts w touch cause n) (set (strike ts w touch cause n) n (struck (thread ts n).control.msr.state (thread ts n) touch cause))) w x
      go (yes q) h = simp (eq-eqb n w q) h
      go (no o) h =
          simp (ne_eqb n w o)
          ((λ j. set (h j) n (let t = get_or-set_other ts w n x no_thread o j in struck t.control.msr.state t touch cause))
          ∙ set_comm (strike ts w touch cause n) w n x (struck (thread ts n).control.msr.state (thread ts n) touch cause) (λ q. o (sym q)))

-- nobody is struck by what touches nothing
strike_untouched : (ts : List Thread) (w : ℕ) (c : Cause) (n : ℕ) → strike ts w Untouched c n ≡ ts
unfolding strike struck hits
strike_untouched ts w c zero = refl
strike_untouched ts w c (suc n) = go (eqb n w) (strike_untouched ts w c n)
  where
    go : (b : Bool) → strike ts w Untouched c n ≡ ts
        → cond b (strike ts w Untouched c n) (set (strike ts w Untouched c n) n (struck (thread ts n).control.msr.state (thread ts n) Untouched c)) ≡ ts
    go true e = e
    go false e =
        ap (λ (b : Bool). set (strike ts w Untouched c n) n (cond b (felled (thread ts n).control.msr.state (thread ts n) c) (thread ts n))) (and-false (is_live (thread ts n).control.msr.state (thread ts n).control.msr.doomed))
        ∙ ap (λ (l : List Thread). set l n (thread ts n)) e ∙ set-get_or ts n no_thread

-- what the code of the scan leaves
others_are : (s : State) (touch : Touch) (ts : List Thread) (w : ℕ) → strike ts w touch (cause touch s) most_threads ≡ others_from s touch ts w
unfolding others_from
others_are s Untouched ts w = strike_untouched ts w (conflict_cause s) most_threads
others_are s (Load l) ts w = refl
others_are s (Store l) ts w = refl
others_are s (Page p) ts w = refl

pub all_struck : (ts us : List Thread) (w k : ℕ) (touch : Touch) (s : State) (c : Cause) → us ≡ strike ts w touch c k → k ≤ most_threads → most_threads ≤ k → c ≡ cause touch s
    → us ≡ others_from s touch ts w
all_struck ts us w k touch s c p h g q =
    let e : k ≡ most_threads = omega (arith, h, g) in
    p ∙ (λ j. strike ts w touch (q j) (e j)) ∙ others_are s touch ts w

-- so what a touch leaves of the others is the same when its own thread is done first
pub others_set : (touch : Touch) (ts : List Thread) (w : ℕ) (x : Thread)
    → others_from (thread ts w).control.msr.state touch (set ts w x) w ≡ set (others touch ts w) w x
unfolding others others_from
others_set Untouched ts w x = refl
others_set (Load l) ts w x = strike_set ts w (Load l) (conflict_cause (thread ts w).control.msr.state) x most_threads
others_set (Store l) ts w x = strike_set ts w (Store l) (conflict_cause (thread ts w).control.msr.state) x most_threads
others_set (Page p) ts w x = strike_set ts w (Page p) Translation x most_threads

-- for the loop over the threads
pub ruleset loop_steps = (strike_none, strikes, spares, all_struck)
