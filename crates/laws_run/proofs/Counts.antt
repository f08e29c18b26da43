-- Where a run ends, at the tape's end or at the first record that is refused, and how many answers it has then.
use mathlib.Core.Path.{◌≡◌, refl, sym, ap, subst, ◌∙◌}
use mathlib.Core.Bool.{Bool, true, false}
use mathlib.Core.Logic.{◌⊎◌, inl, inr, ⊎_elim}
use mathlib.Core.List.{List}
use Prim.Native.Nat.{ℕ, zero, suc, ◌+◌, ◌-◌, ◌/◌, ◌%◌, ◌<◌}
use native.Mathlib.Omega.{arith}
use lib.Dec.{eqb}
use lib.ListN.{length, get_or}
use borrow.Author.Tests.{eq-eqb, ne_eqb, eqb-true}
use Rattle.machine.specs.Valid.{valid}
use Rattle.machine.specs.declared.Machine.{Machine}
use Rattle.machine.proofs.Validity.{valid_passes}
use Rattle.tape.specs.Tape.{record_size, read, record_at}
use Rattle.tape.specs.FirstBad.{read_number, first_bad, bad_record}
use Rattle.tape.proofs.FirstBad.{each_good, first_found, whole_length, all_judged}
use Rattle.run_rules.specs.Run.{Result, in_front, reads, one, play, run}
use Rattle.laws_run.specs.Steps.{Stops, EndsFirst, BadRefused, AllRecords, FirstBad, OneAnswerEach}
use Rattle.run_rules.proofs.Records.{one_answer, play_stops, play_goes}
use Rattle.run_rules.proofs.Runs.{run_bad, run_plays}
use Rattle.laws_run.proofs.Steps.{one_stops}

-- the end of a run over n records from record k on, of which c are counted
abbrev pub End : List ℕ → ℕ → ℕ → Result → ℕ → Type 0
End tape k n r c =
    ((c ≡ n) × (r.ended.answer ≡ 0) × (length r.answers ≡ n))
    ⊎ ((c < n)
    × Stops (read (record_at tape (k + c))) r.ended.machine r.memory r.ended.answer
    × (length r.answers ≡ c + 1)
    × (get_or r.answers c 0 ≡ r.ended.answer))

abbrev pub Ends : List ℕ → ℕ → ℕ → Result → Type 0
Ends tape k n r = (c : ℕ) × (r.ended.count ≡ k + c) × End tape k n r c

pub ends : (n : ℕ) (tape : List ℕ) (k : ℕ) (m : Machine) (mem : List ℕ) → Ends tape k n (play (reads tape k n) k m mem)
unfolding reads play
ends zero tape k m mem = (0, omega arith, inl (refl, refl, refl))
ends (suc n) tape k m mem = go (eqb t.ended.count k) refl (ends n tape (k + 1) t.ended.machine t.memory)
  where
    t : Result
    t = one (read (record_at tape k)) m mem k

    rest : Result
    rest = play (reads tape (k + 1) n) (k + 1) t.ended.machine t.memory

    next : (c : ℕ) → End tape (k + 1) n rest c → End tape k (suc n) (in_front t.ended.answer rest) (suc c)
    next c (inl w) = inl (omega arith, w.1, omega arith)
    next c (inr w) =
        let i : k + 1 + c ≡ k + suc c = omega arith in
        inr (omega arith, subst (λ (l : ℕ). Stops (read (record_at tape l)) rest.ended.machine rest.memory rest.ended.answer) i w.1, omega arith, w.3)

    go : (b : Bool) → eqb t.ended.count k ≡ b → Ends tape (k + 1) n rest → Ends tape k (suc n) (play (reads tape k (suc n)) k m mem)
    go true q ih =
        let z : k ≡ k + 0 = omega arith in
        let a = one_answer (read (record_at tape k)) m mem k in
        subst (Ends tape k (suc n)) (sym (play_stops tape k m mem (suc n) (omega arith) q))
        ((0, eqb-true _ _ q ∙ z, inr (omega arith, subst (λ (l : ℕ). Stops (read (record_at tape l)) t.ended.machine t.memory t.ended.answer) z (one_stops (read (record_at tape k)) m mem k q).2, ap length a, ap (λ (l : List ℕ). get_or l 0 0) a)))
    go false q (c, p, e) =
        let i : suc n - 1 ≡ n = omega arith in
        subst (Ends tape k (suc n)) (sym (play_goes tape k m mem (suc n) (omega arith) q ∙ (λ j. in_front t.ended.answer (play (reads tape (k + 1) (i j)) (k + 1) t.ended.machine t.memory))))
        ((suc c, omega arith, next c e))

-- of a run from its start
module _ (m : Machine) (mem tape : List ℕ) (v : valid m (length mem) ≡ true) (r : (bad_record tape).answer ≡ 0) where
  run_ends : End tape 0 (length tape / record_size) (run m mem tape) (run m mem tape).ended.count
  run_ends =
      let n = length tape / record_size in
      let (c, p, e) = ends n tape 0 m mem in
      let i : c ≡ (play (reads tape 0 n) 0 m mem).ended.count = omega arith in
      subst (λ (x : Result). End tape 0 n x x.ended.count) (sym (run_plays m mem tape v r)) (subst (End tape 0 n (play (reads tape 0 n) 0 m mem)) i e)

pub ends_first : EndsFirst
ends_first m mem tape v r =
    let n = (run m mem tape).ended.count in
    let z : 0 + n ≡ n = omega arith in
    ⊎_elim (λ w. inl (w.0, w.1)) (λ w. inr (w.0, subst (λ (l : ℕ). Stops (read (record_at tape l)) (run m mem tape).ended.machine (run m mem tape).memory (run m mem tape).ended.answer) z w.1)) (run_ends m mem tape v r)

pub one_answer_each : OneAnswerEach
one_answer_each m mem tape v r = ⊎_elim (λ w. inl (w.0, w.2)) (λ w. inr (w.0, w.2, w.3)) (run_ends m mem tape v r)

pub bad_refused : BadRefused
bad_refused m mem tape v b = run_bad m mem tape (valid_passes m (length mem) v) (ne_eqb _ 0 b)

pub all_records : AllRecords
all_records tape z = (whole_length tape z, λ k h. each_good read_number tape (length tape / record_size) k (all_judged tape z) h)

pub first_bad_one : FirstBad
unfolding bad_record
first_bad_one tape w =
    simp (eq-eqb (length tape % record_size) 0 w)
    (λ b.
    let f = first_found read_number tape (length tape / record_size) 0 b in
    let z : 0 + length tape / record_size ≡ length tape / record_size = omega arith in
    (subst (λ (n : ℕ). (first_bad read_number tape 0 (length tape / record_size)).index < n) z f.0, f.1, λ i h. f.2 i (omega arith) h))
