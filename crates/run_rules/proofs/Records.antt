-- Laws of records: what one leaves, one turn of the run and of its answers in a buffer, and that the machine stays valid.
use mathlib.Core.Path.{◌≡◌, refl, ap, ◌∙◌}
use mathlib.Core.Bool.{Bool, true, false, not, cond}
use mathlib.Core.List.{List, [], ◌∷◌}
use Prim.Native.Nat.{ℕ, zero, suc, ◌+◌, ◌-◌, ◌≤◌, ◌<◌}
use native.Mathlib.Nat.{not-suc-le-zero}
use native.Mathlib.Omega.{arith}
use borrow.Author.Tests.{eq-eqb, ne_eqb}
use lib.Dec.{eqb}
use lib.ListN.{length, set}
use lib.Seq.{sets}
use Rattle.machine.specs.Valid.{valid}
use Rattle.step_rules.specs.Step.{Outcome}
use Rattle.machine.specs.declared.Machine.{Machine}
use Rattle.tape.specs.Tape.{read, record_at}
use Rattle.tape.specs.declared.Read.{Read}
use Rattle.tape.specs.declared.Read.TheVariants.{Record, Refused}
use Rattle.laws_keeping.proofs.Keeping.{keeps}
use Rattle.run_rules.specs.Inner.{filled}
use Rattle.run_rules.specs.Records.{Result, run_result, in_front, goes_on, reads, counted, one, play}

-- an event that the run goes on after is counted, another is not
pub is_counted : (o : Outcome) (k : ℕ) → goes_on o.done.answer ≡ true
    → counted o k ≡ run_result o.done.answer (k + 1) o.done.machine o.memory (o.done.answer ∷ [])
unfolding counted
is_counted o k p = simp p

pub not_counted : (o : Outcome) (k : ℕ) → goes_on o.done.answer ≡ false
    → counted o k ≡ run_result o.done.answer k o.done.machine o.memory (o.done.answer ∷ [])
unfolding counted
not_counted o k p = simp p

-- and the count tells which it was
pub uncounted : (b : Bool) (k : ℕ) → eqb (cond b (k + 1) k) k ≡ not b
uncounted true k = ne_eqb (k + 1) k (λ (z : k + 1 ≡ k). omega arith)
uncounted false k = eq-eqb k k refl

-- one record has one answer
pub one_answer : (r : Read) (m : Machine) (mem : List ℕ) (k : ℕ) → (one r m mem k).answers ≡ (one r m mem k).ended.answer ∷ []
unfolding one counted
one_answer (Refused n) m mem k = refl
one_answer (Record w e) m mem k = refl

-- and its index is its count
pub one_index : (r : Read) (m : Machine) (mem : List ℕ) (k : ℕ) → (one r m mem k).ended.index ≡ (one r m mem k).ended.count
unfolding one counted
one_index (Refused n) m mem k = refl
one_index (Record w e) m mem k = refl

-- the end of the tape, and one turn before it
module _ (tape : List ℕ) (k : ℕ) (m : Machine) (mem : List ℕ) where
  pub play_none : (n : ℕ) → n ≤ 0 → play (reads tape k n) k m mem ≡ run_result 0 k m mem []
  unfolding reads play
  play_none zero h = refl
  play_none (suc n) h = absurd (not-suc-le-zero h)

  abbrev turn : Result
  turn = one (read (record_at tape k)) m mem k

  pub play_stops : (n : ℕ) → 0 < n → eqb turn.ended.count k ≡ true → play (reads tape k n) k m mem ≡ turn
  unfolding reads play
  play_stops zero h p = absurd (not-suc-le-zero h)
  play_stops (suc n) h p = simp p

  pub play_goes : (n : ℕ) → 0 < n → eqb turn.ended.count k ≡ false
      → play (reads tape k n) k m mem ≡ in_front turn.ended.answer (play (reads tape (k + 1) (n - 1)) (k + 1) turn.ended.machine turn.memory)
  unfolding reads play
  play_goes zero h p = absurd (not-suc-le-zero h)
  play_goes (suc n) h p =
      let e : n ≡ suc n - 1 = omega arith in
      simp p (λ j. in_front turn.ended.answer (play (reads tape (k + 1) (e j)) (k + 1) turn.ended.machine turn.memory))

  -- the same of a buffer of answers
  pub fills_stops : (old : List ℕ) (n : ℕ) → 0 < n → eqb turn.ended.count k ≡ true
      → filled old k (play (reads tape k n) k m mem) ≡ record { ended = turn.ended; memory = turn.memory; answers = set old k turn.ended.answer }
  fills_stops old n h p =
      ap (filled old k) (play_stops n h p)
      ∙ ap (λ (given : List ℕ). record { ended = turn.ended; memory = turn.memory; answers = sets old k given }) (one_answer (read (record_at tape k)) m mem k)

  pub fills_goes : (old : List ℕ) (n : ℕ) → 0 < n → eqb turn.ended.count k ≡ false
      → filled old k (play (reads tape k n) k m mem)
      ≡ filled (set old k turn.ended.answer) (k + 1) (play (reads tape (k + 1) (n - 1)) (k + 1) turn.ended.machine turn.memory)
  fills_goes old n h p =
      let rest = play (reads tape (k + 1) (n - 1)) (k + 1) turn.ended.machine turn.memory in
      let e : suc k ≡ k + 1 = omega arith in
      ap (filled old k) (play_goes n h p) ∙ (λ j. filled (set old k turn.ended.answer) (e j) rest)

-- the machine stays valid and memory as long as it was
pub one_keeps : (r : Read) (m : Machine) (mem : List ℕ) (k : ℕ) → valid m (length mem) ≡ true
    → (length (one r m mem k).memory ≡ length mem) × (valid (one r m mem k).ended.machine (length (one r m mem k).memory) ≡ true)
unfolding one counted
one_keeps (Refused n) m mem k v = (refl, v)
one_keeps (Record w e) m mem k v = keeps m mem w e v
