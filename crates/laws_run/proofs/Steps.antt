-- A run is its steps.
use mathlib.Core.Path.{◌≡◌, refl, sym, ap, ◌∙◌, subst}
use mathlib.Core.Bool.{Bool, true, false, not, true≢false}
use mathlib.Core.List.{List, [], ◌∷◌, ◌++◌}
use Prim.Native.Nat.{ℕ, zero, suc, ◌+◌, ◌-◌, ◌/◌}
use native.Mathlib.Omega.{arith}
use borrow.Author.Tests.{eq-eqb, ne_eqb, eqb-true, not-true, not-false}
use lib.Dec.{eqb}
use lib.ListN.{length}
use Rattle.base.proofs.Below.{fork}
use Rattle.event.specs.declared.Event.{Event}
use Rattle.machine.specs.Machine.{thread}
use Rattle.machine.specs.Valid.{machine_number}
use Rattle.step_rules.specs.Refusal.{refusal}
use Rattle.step_rules.specs.Step.{Outcome, outcome, perform, step}
use Rattle.step_rules.specs.Feed.{Fed, feed, from}
use Rattle.machine.specs.declared.Machine.{Machine}
use Rattle.step_rules.proofs.Steps.{step_refused, step_passed}
use Rattle.tape.specs.Tape.{record_size, read, record_at}
use Rattle.tape.specs.FirstBad.{found, bad_record}
use Rattle.tape.specs.declared.Read.{Read}
use Rattle.tape.specs.declared.Read.TheVariants.{Record, Refused}
use Rattle.run_rules.specs.Run.{Result, refused, in_front, goes_on, reads, counted, one, play, run}
use Rattle.laws_run.specs.Steps.{fed, events, all_go, RunIsSteps, StopChangesNothing, CountedWent, Stops}
use Rattle.run_rules.proofs.Records.{uncounted, play_stops, play_goes}
use Rattle.laws_run.proofs.Answers.{effect_done}

-- an event that is not refused goes on
passed_goes : (m : Machine) (mem : List ℕ) (w : ℕ) (e : Event) → goes_on (perform m mem w e).done.answer ≡ true
unfolding perform
passed_goes m mem w e = effect_done e (thread m.threads w) mem

-- so one that does not is refused, and has changed nothing
pub stop_refused : (m : Machine) (mem : List ℕ) (w : ℕ) (e : Event) → goes_on (step m mem w e).done.answer ≡ false → eqb (refusal m (length mem) w e) 0 ≡ false
stop_refused m mem w e p =
    ne_eqb _ 0 (λ (z : refusal m (length mem) w e ≡ 0). true≢false (sym (passed_goes m mem w e) ∙ ap (λ (o : Outcome). goes_on o.done.answer) (sym (step_passed m mem w e z)) ∙ p))

pub stop_changes_nothing : StopChangesNothing
stop_changes_nothing m mem w e p =
    let o = step_refused m mem w e _ refl (stop_refused m mem w e p) in
    (ap (λ (x : Outcome). x.done.machine) o, ap (λ (x : Outcome). x.memory) o)

-- a record that is not counted changes nothing and stops the run
pub one_stops : (r : Read) (m : Machine) (mem : List ℕ) (k : ℕ) → eqb (one r m mem k).ended.count k ≡ true
    → ((one r m mem k).ended.machine ≡ m) × ((one r m mem k).memory ≡ mem) × Stops r (one r m mem k).ended.machine (one r m mem k).memory (one r m mem k).ended.answer
unfolding one counted
one_stops (Refused n) m mem k p = (refl, refl, refl)
one_stops (Record w e) m mem k p =
    let q = not-true _ (sym (uncounted (goes_on (step m mem w e).done.answer) k) ∙ p) in
    let s = stop_changes_nothing m mem w e q in
    (s.0, s.1, ((λ j. (step (s.0 j) (s.1 j) w e).done.answer), q))

-- a record that is counted was an event, and is its step
pub record Counts (r : Read) (m : Machine) (mem : List ℕ) (k : ℕ) : Type 0 where
  pub w : ℕ
  pub e : Event
  pub is : r ≡ Record w e
  pub went : goes_on (step m mem w e).done.answer ≡ true
  pub machine : (one r m mem k).ended.machine ≡ (step m mem w e).done.machine
  pub memory : (one r m mem k).memory ≡ (step m mem w e).memory

one_counts : (r : Read) (m : Machine) (mem : List ℕ) (k : ℕ) → eqb (one r m mem k).ended.count k ≡ false → Counts r m mem k
unfolding one counted
one_counts (Refused n) m mem k p = absurd (true≢false (sym (eq-eqb k k refl) ∙ p))
one_counts (Record v f) m mem k p =
    let q = not-false _ (sym (uncounted (goes_on (step m mem v f).done.answer) k) ∙ p) in
    record { w = v; e = f; is = refl; went = q; machine = refl; memory = refl }

-- from record k on: c records more are counted, each is an event that goes on, and what is left is what they give
pub record After (tape : List ℕ) (k : ℕ) (o : Outcome) (r : Result) : Type 0 where
  pub c : ℕ
  pub count : r.ended.count ≡ k + c
  pub each : length (events (reads tape k c)) ≡ c
  pub went : all_go (events (reads tape k c)) o ≡ true
  pub machine : r.ended.machine ≡ (feed (events (reads tape k c)) o).done.machine
  pub memory : r.memory ≡ (feed (events (reads tape k c)) o).memory

nothing : (tape : List ℕ) (k : ℕ) (o : Outcome) (r : Result) → r.ended.count ≡ k → r.ended.machine ≡ o.done.machine → r.memory ≡ o.memory → After tape k o r
unfolding reads events feed all_go
nothing tape k o r p q s =
    record { c = 0; count = p ∙ (let e : k ≡ k + 0 = omega arith in e); each = refl; went = refl; machine = q; memory = s }

another : (tape : List ℕ) (k : ℕ) (o : Outcome) (n : ℕ) (r : Result) (w : ℕ) (e : Event) → read (record_at tape k) ≡ Record w e
    → goes_on (step o.done.machine o.memory w e).done.answer ≡ true
    → After tape (k + 1) (step o.done.machine o.memory w e) r → After tape k o (in_front n r)
unfolding reads events feed all_go
another tape k o n r w e p g a =
    let f : fed (read (record_at tape k)) ≡ from w e ∷ [] = ap fed p in
    record {
      c = suc a.c;
      count = a.count ∙ (let z : k + 1 + a.c ≡ k + suc a.c = omega arith in z);
      each = ap (λ (l : List Fed). length (l ++ events (reads tape (k + 1) a.c))) f ∙ ap suc a.each;
      went = ap (λ (l : List Fed). all_go (l ++ events (reads tape (k + 1) a.c)) o) f ∙ simp (g, a.went);
      machine = a.machine ∙ sym (ap (λ (l : List Fed). (feed (l ++ events (reads tape (k + 1) a.c)) o).done.machine) f);
      memory = a.memory ∙ sym (ap (λ (l : List Fed). (feed (l ++ events (reads tape (k + 1) a.c)) o).memory) f);
    }

pub steps : (n : ℕ) (tape : List ℕ) (k : ℕ) (o : Outcome) → After tape k o (play (reads tape k n) k o.done.machine o.memory)
unfolding reads play
steps zero tape k o = nothing tape k o _ refl refl refl
steps (suc n) tape k o = go (eqb t.ended.count k) refl (λ p. steps n tape (k + 1) p)
  where
    t : Result
    t = one (read (record_at tape k)) o.done.machine o.memory k

    go : (b : Bool) → eqb t.ended.count k ≡ b → ((p : Outcome) → After tape (k + 1) p (play (reads tape (k + 1) n) (k + 1) p.done.machine p.memory))
        → After tape k o (play (reads tape k (suc n)) k o.done.machine o.memory)
    go true q ih =
        let w = play_stops tape k o.done.machine o.memory (suc n) (omega arith) q in
        let z = one_stops (read (record_at tape k)) o.done.machine o.memory k q in
        nothing tape k o _ (ap (λ (x : Result). x.ended.count) w ∙ eqb-true _ _ q) (ap (λ (x : Result). x.ended.machine) w ∙ z.0) (ap (λ (x : Result). x.memory) w ∙ z.1)
    go false q ih =
        let c = one_counts (read (record_at tape k)) o.done.machine o.memory k q in
        let p = step o.done.machine o.memory c.w c.e in
        let w = play_goes tape k o.done.machine o.memory (suc n) (omega arith) q in
        let i : suc n - 1 ≡ n = omega arith in
        let same : play (reads tape k (suc n)) k o.done.machine o.memory ≡ in_front t.ended.answer (play (reads tape (k + 1) n) (k + 1) p.done.machine p.memory) =
        w ∙ (λ j. in_front t.ended.answer (play (reads tape (k + 1) (i j)) (k + 1) (c.machine j) (c.memory j))) in
        subst (λ (r : Result). After tape k o r) (sym same) (another tape k o _ _ c.w c.e c.is c.went (ih p))

-- a run's tests leave everything as it was, and then the records are taken
run_after : (m : Machine) (mem tape : List ℕ) → After tape 0 (outcome 0 m mem) (run m mem tape)
unfolding run
run_after m mem tape =
    let o = outcome 0 m mem in
    let n = machine_number m (length mem) in
    fork (After tape 0 o) (not (eqb n 0)) (λ e. nothing tape 0 o (refused (found n 0) m mem) refl refl refl)
    (λ e. fork (After tape 0 o) (not (eqb (bad_record tape).answer 0)) (λ b. nothing tape 0 o (refused (bad_record tape) m mem) refl refl refl)
    (λ b. steps (length tape / record_size) tape 0 o))

pub run_is_steps : RunIsSteps
run_is_steps m mem tape =
    let a = run_after m mem tape in
    let e : a.c ≡ (run m mem tape).ended.count = omega (arith, a.count) in (
      a.machine ∙ ap (λ (n : ℕ). (feed (events (reads tape 0 n)) (outcome 0 m mem)).done.machine) e,
      a.memory ∙ ap (λ (n : ℕ). (feed (events (reads tape 0 n)) (outcome 0 m mem)).memory) e,
    )

pub counted_went : CountedWent
counted_went m mem tape =
    let a = run_after m mem tape in
    let e : a.c ≡ (run m mem tape).ended.count = omega (arith, a.count) in (
      ap (λ (n : ℕ). length (events (reads tape 0 n))) (sym e) ∙ a.each ∙ e,
      ap (λ (n : ℕ). all_go (events (reads tape 0 n)) (outcome 0 m mem)) (sym e) ∙ a.went,
    )
