-- The third demand.
use mathlib.Core.Path.{◌≡◌, refl, sym, ap, ◌∙◌, subst}
use mathlib.Core.Bool.{true, true≢false}
use mathlib.Core.Logic.{inl, inr, ⊎_elim}
use mathlib.Core.List.{List, [], ◌∷◌, ◌++◌}
use Prim.Native.Nat.{ℕ}
use lib.ListN.{length}
use Rattle.machine.specs.Valid.{valid}
use Rattle.step_rules.specs.Refusal.{in_t}
use Rattle.step_rules.specs.Step.{Outcome, outcome, step}
use Rattle.step_rules.specs.Feed.{Fed, after, feed}
use Rattle.machine.specs.declared.Machine.{Machine}
use Rattle.laws_keeping.proofs.Keeping.{keeps}
use Rattle.laws_secrecy.specs.Secrecy.{Alike, Until, Agree, Agrees, Secret, Ended}
use Rattle.laws_secrecy.proofs.Step.{one_event}

-- what is equal agrees through every list
agrees_same : (w : ℕ) (fs : List Fed) (o p : Outcome) → o.done.machine ≡ p.done.machine → o.memory ≡ p.memory → Agrees step w fs o p
unfolding Agrees
agrees_same w [] o p e x = record { memory = x; machines = inl e }
agrees_same w (f ∷ fs) o p e x =
    let s : after o f ≡ after p f = λ j. step (e j) (x j) f.by f.event in (
      record { memory = x; machines = inl e },
      ap (λ (q : Outcome). q.done.answer) s,
      agrees_same w fs (after o f) (after p f) (ap (λ (q : Outcome). q.done.machine) s) (ap (λ (q : Outcome). q.memory) s),
    )

-- what is alike agrees, whatever was answered before
agrees : (w : ℕ) (fs : List Fed) (m n : Machine) (mem : List ℕ) (x y : ℕ) → valid m (length mem) ≡ true → valid n (length mem) ≡ true → Alike w m n
    → Until step w fs (outcome x m mem) → Agrees step w fs (outcome x m mem) (outcome y n mem)
unfolding Agrees Until
agrees w [] m n mem x y right right' a u = record { memory = refl; machines = inr a }
agrees w (f ∷ fs) m n mem x y right right' a u =
    let q = u (ap in_t a.own.transactional) in
    let r = one_event w m n mem f.by f.event right right' a q.0 in
    let o = step m mem f.by f.event in
    let p = step n mem f.by f.event in
    let e = r.1.memory in
    let k : valid p.done.machine (length o.memory) ≡ true = rw e (keeps n mem f.by f.event right').1 in (
      record { memory = refl; machines = inr a },
      r.0,
      ⊎_elim (λ s. agrees_same w fs o p s e)
          (λ b. subst (λ (z : List ℕ). Agrees step w fs o (outcome p.done.answer p.done.machine z)) e
          (agrees w fs o.done.machine p.done.machine o.memory _ _ (keeps m mem f.by f.event right).1 k b q.1))
          r.1.machines,
    )

pub secret : Secret
secret w m n mem right right' a fs u = agrees w fs m n mem 0 0 right right' a u

-- what agrees through a list agrees at its end, where the last answers are equal too
at_end : (w : ℕ) (fs : List Fed) (o p : Outcome) → Agrees step w fs o p → o.done.answer ≡ p.done.answer
    → ((feed fs o).done.answer ≡ (feed fs p).done.answer) × Agree w (feed fs o) (feed fs p)
unfolding Agrees feed
at_end w [] o p h e = (e, h)
at_end w (f ∷ fs) o p h e = at_end w fs (after o f) (after p f) h.2 h.1

feed_append : (fs gs : List Fed) (o : Outcome) → feed (fs ++ gs) o ≡ feed gs (feed fs o)
unfolding feed
feed_append [] gs o = refl
feed_append (f ∷ fs) gs o = feed_append fs gs (after o f)

pub ended : Ended
ended w m n mem right right' a fs u closed gs =
    let z = at_end w fs (outcome 0 m mem) (outcome 0 n mem) (secret w m n mem right right' a fs u) refl in
    let same : feed fs (outcome 0 m mem) ≡ feed fs (outcome 0 n mem) =
    ⊎_elim (λ e j. record { done = record { answer = z.0 j; machine = e j }; memory = z.1.memory j })
    (λ b. absurd (true≢false (sym (ap in_t b.own.transactional) ∙ closed)))
    z.1.machines in
    feed_append fs gs _ ∙ ap (feed gs) same ∙ sym (feed_append fs gs _)
