-- The threads of two machines alike except for thread w, struck by an access.
use mathlib.Core.Path.{◌≡◌, refl, sym, ap, ◌∙◌, subst}
use mathlib.Core.Bool.{Bool, false, cond}
use mathlib.Core.Logic.{inl, inr, ⊎_elim}
use mathlib.Core.List.{List}
use Prim.Native.Nat.{ℕ, zero, suc}
use native.Mathlib.Decide.{ℕ_discrete}
use lib.Dec.{eqb}
use lib.ListN.{length, set, length-set}
use Rattle.base.specs.Limits.{most_threads}
use Rattle.transaction.specs.declared.Cause.{Cause}
use Rattle.transaction.specs.declared.Entry.{Entry}
use Rattle.transaction.specs.declared.Touch.{Touch}
use Rattle.transaction.specs.declared.Touch.TheVariants.{Untouched, Load, Store, Page}
use Rattle.transaction.specs.declared.Transaction.{Transaction}
use Rattle.thread.specs.Thread.{failed, felled}
use Rattle.thread.specs.declared.State.{State}
use Rattle.thread.specs.declared.State.TheVariants.{T}
use Rattle.thread.specs.declared.Control.{Control}
use Rattle.thread.specs.declared.Thread.{Thread}
use Rattle.machine.specs.Machine.{thread, no_thread}
use Rattle.step_rules.specs.Conflict.{hits, conflict_cause, struck, strike, others}
use Rattle.laws_secrecy.specs.Secrecy.{AlikeThread}
use Rattle.laws_secrecy.proofs.Effects.{Even, both, set_both, beside, is_beside, failure_same}

-- what is hit is told by the sets alone
hits_same : (x : Transaction) (es : List Entry) (touch : Touch) → hits x touch ≡ hits (record { reads = x.reads; writes = x.writes; count = x.count; log = es }) touch
unfolding hits
hits_same x es Untouched = refl
hits_same x es (Load l) = refl
hits_same x es (Store l) = refl
hits_same x es (Page p) = refl

-- another thread's access strikes both of two threads alike, which makes them equal, or neither
struck_alike : {t u : Thread} → AlikeThread t u → (touch : Touch) (cause : Cause) → failed t.control ≡ false
    → Even (struck t.control.msr.state t touch cause) (struck u.control.msr.state u touch cause)
unfolding struck felled
struck_alike {t} {u} a touch cause z =
    subst (λ (x : Thread). Even (struck t.control.msr.state t touch cause) (struck x.control.msr.state x touch cause)) (is_beside a)
    (subst (λ (s : State). Even (struck s t touch cause) (struck s y touch cause)) (sym a.transactional)
    (subst (λ (b : Bool). Even (struck T t touch cause) (cond b (felled T y cause) y)) (hits_same t.transaction u.transaction.log touch)
    (both Even (hits t.transaction touch) (λ p. inl (failure_same t u.live u.cr0 u.transaction.log z cause false _)) (λ p. inr (subst (AlikeThread t) (sym (is_beside a)) a)))))
  where
    y : Thread
    y = beside t u.live u.cr0 u.transaction.log

-- of two threads v: alike or equal where v is w, and equal elsewhere
pub record At (w v : ℕ) (t u : Thread) : Type 0 where
  pub own : v ≡ w → Even t u
  pub other : (v ≡ w → ⊥) → t ≡ u

-- either way their control registers are equal
pub at_control : {w v : ℕ} {t u : Thread} → At w v t u → t.control ≡ u.control
at_control {w} {v} {t} {u} r = go (ℕ_discrete v w)
  where
    go : Dec (v ≡ w) → t.control ≡ u.control
    go (yes p) = ⊎_elim (ap (λ (x : Thread). x.control)) (λ a. a.control) (r.own p)
    go (no n) = ap (λ (x : Thread). x.control) (r.other n)

-- so of all threads of two machines
pub record Near (w : ℕ) (ts us : List Thread) : Type 0 where
  pub size : length ts ≡ length us
  pub each : (v : ℕ) → At w v (thread ts v) (thread us v)

pub set_near : {w : ℕ} {ts us : List Thread} → Near w ts us → (v : ℕ) {t u : Thread} → At w v t u → Near w (set ts v t) (set us v u)
set_near {w} {ts} {us} h v {t} {u} r =
    record { size = length-set ts v t ∙ h.size ∙ sym (length-set us v u); each = set_both (At w) no_thread ts us v t u h.size h.each r }

module _ (w : ℕ) (ts us : List Thread) (near : Near w ts us) (live : failed (thread ts w).control ≡ false) where
  -- each thread struck
  struck_at : (touch : Touch) (cause : Cause) (v : ℕ)
      → At w v (struck (thread ts v).control.msr.state (thread ts v) touch cause) (struck (thread us v).control.msr.state (thread us v) touch cause)
  struck_at touch cause v =
      record {
        own = λ p. ⊎_elim (λ q. inl (ap hit q)) (λ a. struck_alike a touch cause (rw p live)) ((near.each v).own p);
        other = λ n. ap hit ((near.each v).other n);
      }
    where
      hit : Thread → Thread
      hit t = struck t.control.msr.state t touch cause

  -- an access by thread v
  module _ (v : ℕ) where
    strike_near : (touch : Touch) (cause : Cause) (n : ℕ) → Near w (strike ts v touch cause n) (strike us v touch cause n)
    unfolding strike
    strike_near touch cause zero = near
    strike_near touch cause (suc n) =
        both (Near w) (eqb n v) (λ p. strike_near touch cause n) (λ p. set_near (strike_near touch cause n) n (struck_at touch cause n))

    access_near : (touch : Touch) → Near w (strike ts v touch (conflict_cause (thread ts v).control.msr.state) most_threads) (strike us v touch (conflict_cause (thread us v).control.msr.state) most_threads)
    access_near touch =
        subst (λ (k : Control). Near w (strike ts v touch (conflict_cause (thread ts v).control.msr.state) most_threads) (strike us v touch (conflict_cause k.msr.state) most_threads)) (at_control (near.each v))
        (strike_near touch _ most_threads)

    pub others_near : (touch : Touch) → Near w (others touch ts v) (others touch us v)
    unfolding others
    others_near Untouched = near
    others_near (Load l) = access_near (Load l)
    others_near (Store l) = access_near (Store l)
    others_near (Page p) = strike_near (Page p) _ most_threads
