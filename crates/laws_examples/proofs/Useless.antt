-- A step that changes nothing meets the third demand if it answers the same on machines alike, and it is not `step`.
use mathlib.Core.Path.{◌≡◌, refl, ap}
use mathlib.Core.Bool.{true}
use mathlib.Core.Logic.{inr}
use mathlib.Core.List.{List, [], ◌∷◌}
use Prim.Native.Nat.{ℕ}
use native.Mathlib.Omega.{arith}
use lib.ListN.{length}
use Rattle.event.specs.declared.Event.{Event}
use Rattle.event.specs.declared.Event.TheVariants.{Addi}
use Rattle.machine.specs.Machine.{thread, fresh}
use Rattle.machine.specs.Valid.{valid}
use Rattle.step_rules.specs.Refusal.{in_t}
use Rattle.step_rules.specs.Step.{Outcome, outcome, step}
use Rattle.step_rules.specs.Feed.{Fed, from}
use Rattle.machine.specs.declared.Machine.{Machine}
use Rattle.laws_secrecy.specs.Secrecy.{Alike, allowed, Until, Agrees, SecretOf}
use Rattle.laws_examples.specs.Examples.{small_memory}
use Rattle.laws_examples.specs.Useless.{still, AllMeet, AllDiffer}
use Rattle.laws_secrecy.proofs.Step.{one_event}
use Rattle.laws_examples.proofs.Examples.{computed}

still_secret : (answer : Machine → List ℕ → ℕ → Event → ℕ)
    → ((w : ℕ) (m n : Machine) (mem : List ℕ) (v : ℕ) (e : Event) → valid m (length mem) ≡ true → valid n (length mem) ≡ true → Alike w m n
    → allowed w (from v e) (outcome 0 m mem) ≡ true → answer m mem v e ≡ answer n mem v e)
    → SecretOf (still answer)
unfolding Until Agrees
still_secret answer same w m n mem right right' a fs u = go fs 0 0 u
  where
    go : (fs : List Fed) (x y : ℕ) → Until (still answer) w fs (outcome x m mem) → Agrees (still answer) w fs (outcome x m mem) (outcome y n mem)
    go [] x y u = record { memory = refl; machines = inr a }
    go (f ∷ fs) x y u =
        let q = u (ap in_t a.own.transactional) in
        (record { memory = refl; machines = inr a }, same w m n mem f.by f.event right right' a q.0, go fs _ _ q.1)

pub all_meet : AllMeet
all_meet = (
  still_secret (λ m mem v e. 1) (λ w m n mem v e right right' a h. refl),
  (
    still_secret (λ m mem v e. 0) (λ w m n mem v e right right' a h. refl),
    (still_secret (λ m mem v e. (step m mem v e).done.answer) (λ w m n mem v e right right' a h. (one_event w m n mem v e right right' a h).0), tt),
  ),
)

-- the step goes on to the next instruction
moves : (x : ℕ) → outcome x fresh small_memory ≡ step fresh small_memory 0 (Addi 1 0 5) → ⊥
unfolding computed
moves x e = let z : ◌≡◌ {A = ℕ} 0 4 = ap (λ (o : Outcome). (thread o.done.machine.threads 0).control.nia) e in omega arith

pub all_differ : AllDiffer
all_differ = (moves _, (moves _, (moves _, tt)))
