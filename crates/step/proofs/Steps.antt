-- Laws of one event on a valid machine, in the words of the code: refused, ready to be done, and done.
use Rattle.std.proofs.Common.{◌≡◌, ◌≢◌, sym, ap, ◌∙◌, true, Bool, cond, List, ℕ, ◌<◌, ◌≤◌, arith, length, set}
use Rattle.std.proofs.lemmas.List.{set-get_or}
use borrow.Author.Tests.{le-leb, lt-leb, ne_eqb}
use Rattle.base.specs.Answers as answer
use Rattle.transaction.specs.declared.Touch.{Touch}
use Rattle.thread.specs.declared.Thread.{Thread}
use Rattle.event.specs.declared.Event.{Event}
use Rattle.machine.specs.Machine.{thread, no_thread}
use Rattle.machine.specs.Valid.{valid, machine_number}
use Rattle.machine.specs.declared.Machine.{Machine}
use Rattle.machine.proofs.Validity.{valid_memory, valid_places}
use Rattle.step_rules.specs.Effects.{effect}
use Rattle.step_rules.specs.Refusal.{refusal, refused_later}
use Rattle.step_rules.specs.Step.{outcome, perform, step}
use Rattle.step_rules.proofs.Refusals.{passed_operands, refusal_valid}
use Rattle.step_rules.proofs.Steps.{step_refused, step_passed}
use Rattle.conflict.specs.Inner.{others_from}
use Rattle.conflict.proofs.Laws.{others_set}
use Rattle.refusal.specs.Inner.{refused_at}
use Rattle.effect.specs.Inner.{Ready}
use Rattle.effect.specs.Landed.{Landed, landed}

module _ (m : Machine) (mem : List ℕ) (w : ℕ) (e : Event) (v : valid m (length mem) ≡ true) where
  refused_by : (n : ℕ) → refused_later m (length mem) w e ≡ n → n ≢ 0 → outcome n m mem ≡ step m mem w e
  refused_by n p z = sym (step_refused m mem w e n (refusal_valid m (length mem) w e v ∙ p) (ne_eqb n 0 z))

  pub step_without : m.count ≤ w → outcome answer.no_thread m mem ≡ step m mem w e
  unfolding refused_later
  step_without h =
      refused_by answer.no_thread (ap (λ (b : Bool). cond b answer.no_thread (refused_at (thread m.threads w).control e (length mem))) (le-leb _ _ h)) (λ z. omega (arith, z))

  module _ (h : w < m.count) where
    later : refused_later m (length mem) w e ≡ refused_at (thread m.threads w).control e (length mem)
    unfolding refused_later
    later = ap (λ (b : Bool). cond b answer.no_thread (refused_at (thread m.threads w).control e (length mem))) (lt-leb _ _ h)

    pub step_turned_away : (n : ℕ) → n ≡ refused_at (thread m.threads w).control e (length mem) → n ≢ 0
        → outcome n (record { count = m.count; threads = set m.threads w (thread m.threads w) }) mem ≡ step m mem w e
    step_turned_away n q z =
        ap (λ (ts : List Thread). outcome n (record { count = m.count; threads = ts }) mem) (set-get_or m.threads w no_thread) ∙ refused_by n (later ∙ sym q) z

    module _ (q : answer.done ≡ refused_at (thread m.threads w).control e (length mem)) where
      pub step_ready : Ready e (thread m.threads w) (length mem)
      step_ready =
          record { operands = passed_operands m (length mem) w e (later ∙ sym q); memory = valid_memory m (length mem) v; places = valid_places m (length mem) v w h }

      -- its own thread done, and then the others
      pub step_done : (n : ℕ) (t : Thread) (us : List Thread) (touch : Touch) (mem' : List ℕ)
          → ◌≡◌ {A = Landed} (record { answer = n; thread = t; touch = touch; memory = mem' }) (landed (effect e (thread m.threads w) mem) (thread m.threads w).transaction mem)
          → us ≡ others_from (thread m.threads w).control.msr.state touch (set m.threads w t) w
          → outcome n (record { count = m.count; threads = us }) mem' ≡ step m mem w e
      unfolding perform
      step_done n t us touch mem' p o =
          let f = effect e (thread m.threads w) mem in
          ap (λ (ts : List Thread). outcome n (record { count = m.count; threads = ts }) mem') o
          ∙ (λ j. outcome (p j).answer (record { count = m.count; threads = others_from (thread m.threads w).control.msr.state (p j).touch (set m.threads w (p j).thread) w }) (p j).memory)
          ∙ ap (λ (ts : List Thread). outcome f.answer (record { count = m.count; threads = ts }) (p 1).memory) (others_set f.touch m.threads w f.thread)
          ∙ sym (step_passed m mem w e (refusal_valid m (length mem) w e v ∙ later ∙ sym q))

pub ruleset steps = (step_without, step_turned_away, step_ready, step_done)

-- a machine that is not valid is refused
pub not_valid : (m : Machine) (mem : List ℕ) (w : ℕ) (e : Event) (n : ℕ) → n ≡ machine_number m (length mem) → n ≢ 0 → step m mem w e ≡ outcome n m mem
unfolding refusal
not_valid m mem w e n p z = step_refused m mem w e n (simp (sym p, ne_eqb n 0 z)) (ne_eqb n 0 z)
