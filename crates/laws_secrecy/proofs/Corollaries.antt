-- What follows for another thread's loads, and for what is seen.
use mathlib.Core.Path.{◌≡◌, ap}
use mathlib.Core.Logic.{⊎_elim}
use mathlib.Core.List.{List, [], ◌∷◌}
use Prim.Native.Nat.{ℕ}
use borrow.Author.Tests.{ne_eqb}
use Rattle.event.specs.declared.Event.TheVariants.{Ld}
use Rattle.machine.specs.Machine.{thread}
use Rattle.step_rules.specs.Step.{Outcome, step}
use Rattle.step_rules.specs.Feed.{Fed}
use Rattle.machine.specs.declared.Machine.{Machine}
use Rattle.laws_secrecy.specs.Secrecy.{Stepping, after_by, Agrees}
use Rattle.laws_secrecy.specs.Corollaries.{LoadsSame, seen, SeenSame}
use Rattle.laws_secrecy.proofs.Step.{one_event}
use Rattle.laws_secrecy.proofs.Secrecy.{secret}

pub loads_same : LoadsSame
loads_same w m n mem v rt i right right' a d =
    let r = one_event w m n mem v (Ld rt i) right right' a (simp (ne_eqb v w d)) in
    (r.0, ⊎_elim (ap (λ (x : Machine). thread x.threads v)) (λ b. b.others v d) r.1.machines)

-- what agrees is seen to be the same
pub agrees_seen : (s : Stepping) (w : ℕ) (fs : List Fed) (o p : Outcome) → Agrees s w fs o p → seen s fs o ≡ seen s fs p
unfolding Agrees seen
agrees_seen s w [] o p h = h.memory
agrees_seen s w (f ∷ fs) o p h = λ j. h.1 j ∷ agrees_seen s w fs (after_by s o f) (after_by s p f) h.2 j

pub seen_same : SeenSame
seen_same w m n mem right right' a fs u = agrees_seen step w fs _ _ (secret w m n mem right right' a fs u)
