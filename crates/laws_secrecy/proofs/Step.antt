-- One event on two machines alike except for thread w.
use mathlib.Core.Path.{◌≡◌, refl, sym, ap, ◌∙◌, subst}
use mathlib.Core.Bool.{Bool, true, false, not, cond, false≢true}
use mathlib.Core.Logic.{◌⊎◌, inl, inr, ⊎_elim}
use mathlib.Core.List.{List}
use Prim.Native.Nat.{ℕ, ◌<◌}
use native.Mathlib.Decide.{ℕ_discrete, dec_lt}
use native.Mathlib.Omega.{arith}
use lib.Dec.{eqb, leb, ltb}
use lib.ListN.{length, get_or-eq_default}
use lib.Seq.{ext_get_or}
use borrow.Author.Tests.{eq-eqb, eqb-true, ltb-true, not-true}
use Rattle.transaction.specs.Transaction.{written}
use Rattle.transaction.specs.declared.Touch.{Touch}
use Rattle.transaction.specs.declared.Transaction.{Transaction}
use Rattle.thread.specs.Thread.{failed}
use Rattle.thread.specs.declared.State.TheVariants.{T}
use Rattle.thread.specs.declared.Control.{Control}
use Rattle.thread.specs.declared.Thread.{Thread}
use Rattle.thread.specs.declared.Effect.{Effect}
use Rattle.event.specs.Event.{operands_right}
use Rattle.event.specs.declared.Event.{Event}
use Rattle.step_rules.specs.Effects.{effect}
use Rattle.machine.specs.Machine.{thread, no_thread}
use Rattle.machine.specs.Valid.{thread_valid, zero_state, valid}
use Rattle.step_rules.specs.Refusal.{in_t, refused_there, refused_later, refusal}
use Rattle.step_rules.specs.Conflict.{others}
use Rattle.step_rules.specs.Step.{perform, step}
use Rattle.machine.specs.declared.Machine.{Machine}
use Rattle.machine.proofs.Validity.{valid_thread}
use Rattle.step_rules.proofs.Refusals.{passed_there, refusal_valid}
use Rattle.step_rules.proofs.Steps.{step_refused, step_passed}
use Rattle.laws_keeping.proofs.Fails.{live_unfailed_t, valid_shaped}
use Rattle.laws_keeping.proofs.Struck.{zero_in_n}
use Rattle.laws_keeping.proofs.Others.{Fits}
use Rattle.laws_keeping.proofs.Parts.{Right, valid_right}
use Rattle.laws_secrecy.specs.Secrecy.{Alike, tells, Agree}
use Rattle.laws_secrecy.specs.Corollaries.{OneEvent}
use Rattle.laws_secrecy.proofs.Effects.{effect_alike}
use Rattle.laws_secrecy.proofs.Struck.{At, at_control, Near, set_near, others_near}

-- a thread in T is there, below the count and valid: what is not there, and a record past the count, is in N
pub open_there : (ts : List Thread) (w : ℕ) → (thread ts w).control.msr.state ≡ T → w < length ts
open_there ts w p = go (dec_lt w (length ts))
  where
    go : Dec (w < length ts) → w < length ts
    go (yes b) = b
    go (no o) =
        let d = get_or-eq_default ts no_thread {n = w} (omega arith) in
        absurd (false≢true (ap (λ (t : Thread). in_t t.control.msr.state) (sym d) ∙ ap in_t p))

pub open_below : (m : Machine) (len w : ℕ) → valid m len ≡ true → (thread m.threads w).control.msr.state ≡ T → w < m.count
open_below m len w h p = go (ltb w m.count) refl (r.each w (omega (arith, r.four, open_there m.threads w p)))
  where
    r : Right m len
    r = valid_right m len h

    go : (c : Bool) → ltb w m.count ≡ c → Fits c (thread m.threads w) len → w < m.count
    go true e f = ltb-true w _ e
    go false e f = absurd (false≢true (sym (ap zero_state p) ∙ zero_in_n _ f))

pub open_valid : (m : Machine) (len w : ℕ) → valid m len ≡ true → (thread m.threads w).control.msr.state ≡ T → thread_valid (thread m.threads w) len ≡ true
open_valid m len w h p = valid_thread m len h w (open_below m len w h p)

-- what an event does on two threads v whose transactions were x and y: one answer, one touch, one memory
record EffectAt (w v : ℕ) (mem : List ℕ) (x y : Transaction) (a b : Effect) : Type 0 where
  answer : a.answer ≡ b.answer
  touch : a.touch ≡ b.touch
  memory : written a.write x mem ≡ written b.write y mem
  thread : At w v a.thread b.thread

-- two machines of equal counts whose threads are near are equal or alike
near_machines : (w : ℕ) (m n : Machine) → m.count ≡ n.count → Near w m.threads n.threads → (m ≡ n) ⊎ Alike w m n
near_machines w m n c h = ⊎_elim (λ q. inl (same q)) (λ a. inr (record { count = c; others = λ v d. (h.each v).other d; own = a })) ((h.each w).own refl)
  where
    same : thread m.threads w ≡ thread n.threads w → m ≡ n
    same q = λ j. record { count = c j; threads = ext_get_or no_thread m.threads n.threads h.size (λ v l. go v (ℕ_discrete v w)) j }
      where
        go : (v : ℕ) → Dec (v ≡ w) → thread m.threads v ≡ thread n.threads v
        go v (yes p) = rw p q
        go v (no d) = (h.each v).other d

module _ (w : ℕ) (m n : Machine) (mem : List ℕ) (right : valid m (length mem) ≡ true) (right' : valid n (length mem) ≡ true) (a : Alike w m n) where
  -- their threads are near
  near : Near w m.threads n.threads
  near =
      record {
        size = (valid_right m _ right).four ∙ sym (valid_right n _ right').four;
        each = λ v. record { own = λ p. inr (rw p a.own); other = a.others v };
      }

  -- the tests that refuse read only what is equal
  refusal_same : (v : ℕ) (e : Event) → refusal m (length mem) v e ≡ refusal n (length mem) v e
  unfolding refused_later
  refusal_same v e =
      refusal_valid m _ v e right
      ∙ (λ j. cond (leb (a.count j) v) 3 (cond (not (operands_right e (length mem))) 4 (refused_there (at_control (near.each v) j) e)))
      ∙ sym (refusal_valid n _ v e right')

  -- thread w is valid in both, and its transaction has not failed
  here : thread_valid (thread m.threads w) (length mem) ≡ true
  here = open_valid m _ w right a.own.transactional

  here' : thread_valid (thread n.threads w) (length mem) ≡ true
  here' = open_valid n _ w right' (ap (λ (k : Control). k.msr.state) (sym a.own.control) ∙ a.own.transactional)

  live : failed (thread m.threads w).control ≡ false
  live = live_unfailed_t _ _ a.own.transactional here

  -- an event that passes and does not tell
  module _ (v : ℕ) (e : Event) (passes : refusal m (length mem) v e ≡ 0) (quiet : v ≡ w → tells e (thread m.threads w) ≡ false) where
    -- what it does
    abbrev Does : ℕ → Type 0
    Does k =
        EffectAt w k mem (thread m.threads k).transaction (thread n.threads k).transaction (effect e (thread m.threads k) mem)
        (effect e (thread n.threads k) mem)

    effect_at : Does v
    unfolding written
    effect_at = go (ℕ_discrete v w)
      where
        go : Dec (v ≡ w) → Does v
        go (yes p) =
            let o = rw p at passes in
            let h = effect_alike a.own e mem ((valid_shaped _ _ here).log ∙ sym (valid_shaped _ _ here').log) live (quiet p) (passed_there m _ w e (sym (refusal_valid m _ w e right) ∙ o)) in
            subst Does (sym p)
            (record { answer = h.answer; touch = h.touch; memory = simp (h.unwritten, h.unwritten'); thread = record { own = λ q. h.threads; other = λ d. absurd (d refl) } })
        go (no d) =
            let q = a.others v d in
            record {
              answer = ap (λ (t : Thread). (effect e t mem).answer) q;
              touch = ap (λ (t : Thread). (effect e t mem).touch) q;
              memory = ap (λ (t : Thread). written (effect e t mem).write t.transaction mem) q;
              thread = record { own = λ p. absurd (d p); other = λ d. ap (λ (t : Thread). (effect e t mem).thread) q };
            }

    others_after : Near w (others (effect e (thread m.threads v) mem).touch m.threads v) (others (effect e (thread n.threads v) mem).touch n.threads v)
    others_after =
        subst (λ (k : Touch). Near w (others (effect e (thread m.threads v) mem).touch m.threads v) (others k n.threads v)) effect_at.touch
        (others_near w m.threads n.threads near live v _)

    perform_agree : ((perform m mem v e).done.answer ≡ (perform n mem v e).done.answer) × Agree w (perform m mem v e) (perform n mem v e)
    unfolding perform
    perform_agree =
        (effect_at.answer, record { memory = effect_at.memory; machines = near_machines w _ _ a.count (set_near others_after v effect_at.thread) })

pub one_event : OneEvent
one_event w m n mem v e right right' a h = go (eqb (refusal m (length mem) v e) 0) refl
  where
    same : refusal n (length mem) v e ≡ refusal m (length mem) v e
    same = sym (refusal_same w m n mem right right' a v e)

    go : (b : Bool) → eqb (refusal m (length mem) v e) 0 ≡ b
        → ((step m mem v e).done.answer ≡ (step n mem v e).done.answer) × Agree w (step m mem v e) (step n mem v e)
    go true p =
        let z = eqb-true _ 0 p in
        rw (step_passed m mem v e z, step_passed n mem v e (same ∙ z))
        (perform_agree w m n mem right right' a v e z (λ q. not-true _ (simp (eq-eqb v w q, p) at h)))
    go false p = rw (step_refused m mem v e _ refl p, step_refused n mem v e _ same p) (refl, record { memory = refl; machines = inr a })
