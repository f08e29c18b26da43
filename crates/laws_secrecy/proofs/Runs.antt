-- A run over a tape from two machines alike gives the same answers, count and memory, and machines that are equal or alike.
use mathlib.Core.Path.{◌≡◌, refl, sym, ap, subst, subst₂, ◌∙◌}
use mathlib.Core.Bool.{Bool, true, false, not, ◌||◌}
use mathlib.Core.Logic.{◌⊎◌, inl, inr, ⊎_elim}
use mathlib.Core.List.{List, [], ◌∷◌}
use Prim.Native.Nat.{ℕ, zero, suc, ◌+◌, ◌/◌, ◌≤◌}
use native.Mathlib.Nat.{not-suc-le-zero}
use native.Mathlib.Omega.{arith}
use borrow.Author.Tests.{eq-eqb, ne_eqb, eqb-true}
use lib.Dec.{eqb}
use lib.ListN.{length, take}
use Rattle.base.proofs.Below.{fork}
use Rattle.event.specs.declared.Event.{Event}
use Rattle.machine.specs.Machine.{thread}
use Rattle.machine.specs.Valid.{valid}
use Rattle.step_rules.specs.Step.{Outcome, outcome, step}
use Rattle.step_rules.specs.Feed.{from}
use Rattle.step_rules.specs.Refusal.{in_t}
use Rattle.machine.specs.declared.Machine.{Machine}
use Rattle.machine.proofs.Validity.{valid_passes}
use Rattle.laws_keeping.proofs.Keeping.{keeps}
use Rattle.tape.specs.Tape.{record_size, read, record_at}
use Rattle.tape.specs.FirstBad.{bad_record}
use Rattle.tape.specs.declared.Read.{Read}
use Rattle.tape.specs.declared.Read.TheVariants.{Record, Refused}
use Rattle.run_rules.specs.Run.{Result, run_result, in_front, goes_on, reads, counted, one, play, run}
use Rattle.laws_run.specs.Steps.{events}
use Rattle.run_rules.proofs.Runs.{run_bad, run_plays}
use Rattle.laws_run.proofs.Steps.{stop_refused}
use Rattle.laws_run.proofs.Counts.{ends_first}
use Rattle.laws_secrecy.specs.Secrecy.{Alike, Agree, tells, allowed, Until}
use Rattle.laws_secrecy.specs.Runs.{SameRun, RunsSame}
use Rattle.laws_secrecy.proofs.Step.{one_event}

-- ---- the run over a list of records

-- one record more: the reader refuses it, its event stops the run, or the run goes on
module _ (rs : List Read) (k : ℕ) (m : Machine) (mem : List ℕ) where
  play_refused : (n : ℕ) → play (Refused n ∷ rs) k m mem ≡ run_result n k m mem (n ∷ [])
  unfolding play one
  play_refused n = simp (eq-eqb k k refl)

  module _ (v : ℕ) (e : Event) where
    abbrev o : Outcome
    o = step m mem v e

    play_stopped : goes_on o.done.answer ≡ false → play (Record v e ∷ rs) k m mem ≡ run_result o.done.answer k o.done.machine o.memory (o.done.answer ∷ [])
    unfolding play one counted
    play_stopped q = simp (q, eq-eqb k k refl)

    play_on : goes_on o.done.answer ≡ true → play (Record v e ∷ rs) k m mem ≡ in_front o.done.answer (play rs (k + 1) o.done.machine o.memory)
    unfolding play one counted
    play_on q = simp (q, ne_eqb (k + 1) k (λ (z : k + 1 ≡ k). omega arith))

-- it counts from k on
since : (rs : List Read) (k : ℕ) (m : Machine) (mem : List ℕ) → k ≤ (play rs k m mem).ended.count
unfolding play
since [] k m mem = omega arith
since (r ∷ rs) k m mem =
    let t = one r m mem k in
    fork (λ (x : Result). k ≤ x.ended.count) (eqb t.ended.count k) (λ p. omega (arith, eqb-true t.ended.count k p))
    (λ p. omega (arith, since rs (k + 1) t.ended.machine t.memory))

take_reads : (c n : ℕ) (tape : List ℕ) (k : ℕ) → c ≤ n → take c (reads tape k n) ≡ reads tape k c
unfolding reads
take_reads zero n tape k h = refl
take_reads (suc c) zero tape k h = absurd (not-suc-le-zero h)
take_reads (suc c) (suc n) tape k h = ap (λ (rs : List Read). read (record_at tape k) ∷ rs) (take_reads c n tape (k + 1) (omega arith))

-- ---- from two machines alike

-- a refused event is allowed
quiet : (a b c : Bool) → b ≡ false → (a || not b || c) ≡ true
quiet true b c p = refl
quiet false b c p = simp p

-- the run over these records is the same, if the condition holds of those that are counted
Rest : ℕ → List Read → Type 0
Rest w rs =
    (k c a : ℕ) (m m' : Machine) (mem : List ℕ) → valid m (length mem) ≡ true → valid m' (length mem) ≡ true → Alike w m m'
    → (play rs k m mem).ended.count ≡ k + c → Until step w (events (take c rs)) (outcome a m mem)
    → SameRun w (play rs k m mem) (play rs k m' mem)

-- behind two outcomes that agree
module _ (w : ℕ) (rs : List Read) (rest : Rest w rs) (k c : ℕ) where
  onward : (o p : Outcome) → valid o.done.machine (length o.memory) ≡ true → valid p.done.machine (length p.memory) ≡ true
      → Agree w o p → (play rs k o.done.machine o.memory).ended.count ≡ k + c → Until step w (events (take c rs)) o
      → SameRun w (play rs k o.done.machine o.memory) (play rs k p.done.machine p.memory)
  unfolding Rest
  onward o p v v' g e u = go g.machines
    where
      go : (o.done.machine ≡ p.done.machine) ⊎ Alike w o.done.machine p.done.machine
          → SameRun w (play rs k o.done.machine o.memory) (play rs k p.done.machine p.memory)
      go (inl q) =
          subst (SameRun w (play rs k o.done.machine o.memory)) (λ j. play rs k (q j) (g.memory j))
          (record { answer = refl; count = refl; index = refl; memory = refl; answers = refl; machines = inl refl })
      go (inr a) =
          subst (λ (mem : List ℕ). SameRun w (play rs k o.done.machine o.memory) (play rs k p.done.machine mem)) g.memory
          (rest k c o.done.answer o.done.machine p.done.machine o.memory v
          (subst (λ (mem : List ℕ). valid p.done.machine (length mem) ≡ true) (sym g.memory) v') a e u)

-- a record that is an event
module _ (w : ℕ) (rs : List Read) (rest : Rest w rs) (k a : ℕ) (m m' : Machine) (mem : List ℕ)
    (h : valid m (length mem) ≡ true) (h' : valid m' (length mem) ≡ true) (l : Alike w m m') (v : ℕ) (ev : Event) where
  -- the answers and what is left agree where the event is allowed
  agree : allowed w (from v ev) (outcome a m mem) ≡ true → ((step m mem v ev).done.answer ≡ (step m' mem v ev).done.answer) × Agree w (step m mem v ev) (step m' mem v ev)
  agree q = one_event w m m' mem v ev h h' l q

  ends : goes_on (step m mem v ev).done.answer ≡ false → SameRun w (play (Record v ev ∷ rs) k m mem) (play (Record v ev ∷ rs) k m' mem)
  ends q =
      let s = agree (quiet (not (eqb v w)) _ (not (tells ev (thread m.threads w))) (stop_refused m mem v ev q)) in
      let q' = ap goes_on (sym s.0) ∙ q in
      subst₂ (SameRun w) (sym (play_stopped rs k m mem v ev q)) (sym (play_stopped rs k m' mem v ev q'))
      (record { answer = s.0; count = refl; index = refl; memory = s.1.memory; answers = ap (λ (n : ℕ). n ∷ []) s.0; machines = s.1.machines })

  goes : (c : ℕ) → goes_on (step m mem v ev).done.answer ≡ true → (play (Record v ev ∷ rs) k m mem).ended.count ≡ k + c
      → Until step w (events (take c (Record v ev ∷ rs))) (outcome a m mem) → SameRun w (play (Record v ev ∷ rs) k m mem) (play (Record v ev ∷ rs) k m' mem)
  unfolding events Until
  goes zero q e u =
      let z = ap (λ (r : Result). r.ended.count) (sym (play_on rs k m mem v ev q)) ∙ e in
      absurd (omega (arith, since rs (k + 1) (step m mem v ev).done.machine (step m mem v ev).memory, z))
  goes (suc c) q e u =
      let o = step m mem v ev in
      let p = step m' mem v ev in
      let x = u (ap in_t l.own.transactional) in
      let s = agree x.0 in
      let q' = ap goes_on (sym s.0) ∙ q in
      let z = ap (λ (r : Result). r.ended.count) (sym (play_on rs k m mem v ev q)) ∙ e in
      let r = onward w rs rest (k + 1) c o p (keeps m mem v ev h).1 (keeps m' mem v ev h').1 s.1 (omega (arith, z)) x.1 in
      subst₂ (SameRun w) (sym (play_on rs k m mem v ev q)) (sym (play_on rs k m' mem v ev q'))
      (record { answer = r.answer; count = r.count; index = r.index; memory = r.memory; answers = λ j. s.0 j ∷ r.answers j; machines = r.machines })

  event_same : (c : ℕ) (b : Bool) → goes_on (step m mem v ev).done.answer ≡ b → (play (Record v ev ∷ rs) k m mem).ended.count ≡ k + c
      → Until step w (events (take c (Record v ev ∷ rs))) (outcome a m mem) → SameRun w (play (Record v ev ∷ rs) k m mem) (play (Record v ev ∷ rs) k m' mem)
  event_same c true q e u = goes c q e u
  event_same c false q e u = ends q

runs : (w : ℕ) (rs : List Read) → Rest w rs
unfolding Rest play
runs w [] k c a m m' mem h h' l e u = record { answer = refl; count = refl; index = refl; memory = refl; answers = refl; machines = inr l }
runs w (Refused n ∷ rs) k c a m m' mem h h' l e u =
    subst₂ (SameRun w) (sym (play_refused rs k m mem n)) (sym (play_refused rs k m' mem n))
    (record { answer = refl; count = refl; index = refl; memory = refl; answers = refl; machines = inr l })
runs w (Record v ev ∷ rs) k c a m m' mem h h' l e u =
    event_same w rs (runs w rs) k a m m' mem h h' l v ev c (goes_on (step m mem v ev).done.answer) refl e u

-- a tape without a bad record is played, another is refused on both sides alike
pub runs_same : RunsSame
unfolding Rest
runs_same w m n mem tape h h' l u = go (eqb (bad_record tape).answer 0) refl
  where
    go : (b : Bool) → eqb (bad_record tape).answer 0 ≡ b → SameRun w (run m mem tape) (run n mem tape)
    go true q =
        let all = length tape / record_size in
        let c = (run m mem tape).ended.count in
        let z = eqb-true _ 0 q in
        let f : c ≤ all = ⊎_elim (λ x. omega (arith, x.0)) (λ x. omega (arith, x.0)) (ends_first m mem tape h z) in
        let p = run_plays m mem tape h z in
        let e : c ≡ 0 + c = omega arith in
        subst₂ (SameRun w) (sym p) (sym (run_plays n mem tape h' z))
        (runs w (reads tape 0 all) 0 c 0 m n mem h h' l (ap (λ (r : Result). r.ended.count) (sym p) ∙ e)
        (subst (λ (rs : List Read). Until step w (events rs) (outcome 0 m mem)) (sym (take_reads c all tape 0 f)) u))
    go false q =
        subst₂ (SameRun w) (sym (run_bad m mem tape (valid_passes m _ h) q)) (sym (run_bad n mem tape (valid_passes n _ h') q))
        (record { answer = refl; count = refl; index = refl; memory = refl; answers = refl; machines = inr l })
