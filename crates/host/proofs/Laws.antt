-- An event by its fields is a tape of one record.
use mathlib.Core.Path.{◌≡◌, refl, ap, ◌∙◌}
use mathlib.Core.Bool.{Bool, true, false, cond}
use mathlib.Core.List.{List, [], ◌∷◌}
use Prim.Native.Nat.{ℕ}
use lib.Dec.{eqb}
use lib.ListN.{length}
use Rattle.machine.specs.Valid.{machine_number}
use Rattle.machine.specs.declared.Machine.{Machine}
use Rattle.step_rules.specs.Refusal.{refusal}
use Rattle.step_rules.specs.Step.{Outcome, outcome, step}
use Rattle.event.specs.declared.Event.{Event}
use Rattle.event.specs.declared.Fields.{Fields}
use Rattle.tape.specs.Tape.{bytes, of_kind, read, number}
use Rattle.tape.specs.FirstBad.{first_bad, bad_record}
use Rattle.tape.specs.declared.Read.{Read}
use Rattle.tape.specs.declared.Read.TheVariants.{Record}
use Rattle.tape.proofs.Laws.{begun_right}
use Rattle.laws_round.specs.Round.{FieldsFit}
use Rattle.laws_round.proofs.Round.{sized, fields_back}
use Rattle.run_rules.specs.Run.{goes_on, counted, one, play, reads, run}
use Rattle.host.specs.Inner.{left, lone}

same : (b : Bool) (n : ℕ) → cond b n n ≡ n
same true n = refl
same false n = refl

module _ (m : Machine) (mem : List ℕ) (w : ℕ) (e : Event) where
  abbrev o : Outcome
  o = step m mem w e

  -- the record alone, by whether a run goes on after it
  played : (b : Bool) → goes_on o.done.answer ≡ b → left (play (Record w e ∷ []) 0 m mem) ≡ o
  unfolding play one counted
  played true p = simp p
  played false p = simp (p, same (eqb o.done.answer 0) o.done.answer)

  -- a machine that the tests 1 and 2 refuse
  refused : eqb (machine_number m (length mem)) 0 ≡ false → outcome (machine_number m (length mem)) m mem ≡ o
  unfolding step refusal
  refused p = simp p

-- what is written of fields is read as they are
fields_read : (f : Fields) → FieldsFit f → read (bytes f) ≡ of_kind f true
unfolding bytes
fields_read f fit = begun_right (bytes f) (sized f) refl ∙ ap (λ (g : Fields). of_kind g true) (fields_back f fit)

pub run_of_one : (m : Machine) (mem : List ℕ) (f : Fields) (w : ℕ) (e : Event) → FieldsFit f → of_kind f true ≡ Record w e
    → lone m mem f ≡ step m mem w e
unfolding run reads bytes bad_record first_bad
run_of_one m mem f w e fit p = go (eqb (machine_number m (length mem)) 0) refl
  where
    go : (b : Bool) → eqb (machine_number m (length mem)) 0 ≡ b → lone m mem f ≡ step m mem w e
    go true z = simp (z, ap number (fields_read f fit ∙ p)) (ap (λ (r : Read). left (play (r ∷ []) 0 m mem)) (fields_read f fit ∙ p) ∙ played m mem w e _ refl)
    go false z = simp z (refused m mem w e z)
