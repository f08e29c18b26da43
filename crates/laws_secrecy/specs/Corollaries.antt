-- What else is proved of two machines alike: one event (proofs/Step.antt), and what follows from the third demand (proofs/Corollaries.antt).
use Rattle.std.specs.Prelude.{◌≡◌, true, List, [], ◌∷◌, ℕ, length}
use Rattle.event.specs.declared.Event.{Event}
use Rattle.event.specs.declared.Event.TheVariants.{Ld}
use Rattle.machine.specs.Machine.{thread}
use Rattle.machine.specs.Valid.{valid}
use Rattle.step_rules.specs.Step.{Outcome, outcome, step}
use Rattle.step_rules.specs.Feed.{Fed, from}
use Rattle.machine.specs.declared.Machine.{Machine}
use Rattle.laws_secrecy.specs.Secrecy.{Alike, allowed, Stepping, after_by, Until, Agree}

-- one event that is allowed: the same answer, the same memory, and machines that are equal or alike
abbrev pub OneEvent : Type 0
OneEvent =
    (w : ℕ) (m n : Machine) (mem : List ℕ) (v : ℕ) (e : Event) → valid m (length mem) ≡ true → valid n (length mem) ≡ true → Alike w m n
    → allowed w (from v e) (outcome 0 m mem) ≡ true
    → ((step m mem v e).done.answer ≡ (step n mem v e).done.answer) × Agree w (step m mem v e) (step n mem v e)

-- another thread's load: its answer, and all of that thread after it, whatever the transaction has stored
abbrev pub LoadsSame : Type 0
LoadsSame =
    (w : ℕ) (m n : Machine) (mem : List ℕ) (v rt i : ℕ) → valid m (length mem) ≡ true → valid n (length mem) ≡ true → Alike w m n → (v ≡ w → ⊥)
    → ((step m mem v (Ld rt i)).done.answer ≡ (step n mem v (Ld rt i)).done.answer)
    × (thread (step m mem v (Ld rt i)).done.machine.threads v ≡ thread (step n mem v (Ld rt i)).done.machine.threads v)

-- what is seen of a list of events: the answers, then the memory after it
unfoldable pub seen : Stepping → List Fed → Outcome → List ℕ
seen s [] o = o.memory
seen s (f ∷ fs) o =
    let p = after_by s o f in
    p.done.answer ∷ seen s fs p

-- it is equal while the demand's condition holds
abbrev pub SeenSame : Type 0
SeenSame =
    (w : ℕ) (m n : Machine) (mem : List ℕ) → valid m (length mem) ≡ true → valid n (length mem) ≡ true → Alike w m n
    → (fs : List Fed) → Until step w fs (outcome 0 m mem) → seen step fs (outcome 0 m mem) ≡ seen step fs (outcome 0 n mem)
