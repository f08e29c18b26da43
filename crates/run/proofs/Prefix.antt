-- The records up to the first bad one, and that one behind them, over plain values: what `play` rests on.
use mathlib.Core.Path.{◌≡◌, refl, sym, ap, ◌∙◌}
use mathlib.Core.Bool.{Bool, true, false, cond}
use mathlib.Core.List.{List, [], ◌∷◌, ◌++◌}
use Prim.Native.Nat.{ℕ, ◌+◌, ◌*◌, ◌/◌, ◌≤◌}
use native.Mathlib.Omega.{arith}
use borrow.Author.Tests.{eq-eqb, ne_eqb}
use lib.Dec.{eqb}
use lib.ListN.{length, take, set}
use lib.Seq.{sets}
use Rattle.machine.specs.declared.Machine.{Machine}
use Rattle.tape.specs.FirstBad.{read_number, first_bad}
use Rattle.tape.specs.declared.Found.{Found}
use Rattle.tape.proofs.FirstBad.{up_to}
use Rattle.run_rules.specs.Inner.{filled}
use Rattle.run_rules.specs.Run.{Result, run_result, reads, play}
use Rattle.run_rules.proofs.Pieces.{stop, part_good, part_play, play_up_to, all_answered, length_reads, sets_append}

same : {A : Type 0} (b : Bool) (r : A) → cond b r r ≡ r
same true r = refl
same false r = refl

-- f is what the code found
module _ (m : Machine) (mem tape : List ℕ) (f : Found) (is : f ≡ stop m mem tape) where
  pub inside : f.index * 16 ≤ length tape
  inside =
      let u = (up_to read_number tape (length tape / 16)).0 in
      let e = ap (λ (x : Found). x.index) is in
      omega (arith, u, e)

  pub none_before : (first_bad read_number (take (f.index * 16) tape) 0 (length (take (f.index * 16) tape) / 16)).answer ≡ 0
  none_before =
      ap (λ (x : Found). (first_bad read_number (take (x.index * 16) tape) 0 (length (take (x.index * 16) tape) / 16)).answer) is
      ∙ part_good m mem tape

  -- what the records before it leave, and what all leave
  abbrev pub before : Result
  before = play (reads (take (f.index * 16) tape) 0 (length (take (f.index * 16) tape) / 16)) 0 m mem

  abbrev pub whole : Result
  whole = play (reads tape 0 (length tape / 16)) 0 m mem

  abbrev part : Result
  part = play (reads tape 0 f.index) 0 m mem

  is_part : before ≡ part
  is_part =
      ap (λ (x : Found). play (reads (take (x.index * 16) tape) 0 (length (take (x.index * 16) tape) / 16)) 0 m mem) is
      ∙ part_play m mem tape ∙ ap (λ (x : Found). play (reads tape 0 x.index) 0 m mem) (sym is)

  abbrev choice : Found → Result → Result
  choice x r =
      cond (eqb r.ended.count x.index)
      (cond (eqb x.answer 0) r (run_result x.answer x.index r.ended.machine r.memory (r.answers ++ x.answer ∷ [])))
      r

  chosen : whole ≡ choice f before
  chosen =
      play_up_to m mem tape ∙ ap (λ (x : Found). choice x (play (reads tape 0 x.index) 0 m mem)) (sym is)
      ∙ ap (choice f) (sym is_part)

  module _ (old : List ℕ) (r : Result) (left : r ≡ filled old 0 before) where
    -- where those before it were not all counted, it is that
    pub not_counted : (r.ended.count ≡ f.index → ⊥) → r ≡ filled old 0 whole
    not_counted w =
        let n : before.ended.count ≡ f.index → ⊥ = λ z. w (ap (λ (x : Result). x.ended.count) left ∙ z) in
        left
        ∙ ap (filled old 0)
        (sym (chosen ∙ ap (λ (b : Bool). cond b (cond (eqb f.answer 0) before (run_result f.answer f.index before.ended.machine before.memory (before.answers ++ f.answer ∷ []))) before) (ne_eqb _ _ n)))

    -- and where none is bad
    pub none_bad : f.answer ≡ 0 → r ≡ filled old 0 whole
    none_bad z =
        left
        ∙ ap (filled old 0)
        (sym (chosen ∙ ap (λ (b : Bool). cond (eqb before.ended.count f.index) (cond b before (run_result f.answer f.index before.ended.machine before.memory (before.answers ++ f.answer ∷ []))) before) (eq-eqb _ 0 z)
        ∙ same (eqb before.ended.count f.index) before))

    -- else the bad one stands behind them
    pub bad_behind : r.ended.count ≡ f.index → (f.answer ≡ 0 → ⊥)
        → run_result f.answer f.index r.ended.machine r.memory (set r.answers f.index f.answer) ≡ filled old 0 whole
    bad_behind p z =
        let q : before.ended.count ≡ f.index = sym (ap (λ (x : Result). x.ended.count) left) ∙ p in
        let rs = reads tape 0 f.index in
        let e : 0 + f.index ≡ f.index = omega arith in
        let l : 0 + length rs ≡ f.index = ap (◌+◌ 0) (length_reads f.index tape 0) ∙ e in
        let c : part.ended.count ≡ 0 + length rs = ap (λ (x : Result). x.ended.count) (sym is_part) ∙ q ∙ sym l in
        let h : 0 + length before.answers ≡ f.index = ap (λ (x : Result). 0 + length x.answers) is_part ∙ ap (◌+◌ 0) (all_answered rs 0 m mem c) ∙ l in
        let bad : run_result f.answer f.index before.ended.machine before.memory (before.answers ++ f.answer ∷ []) ≡ whole = sym (chosen ∙ simp (eq-eqb before.ended.count f.index q, ne_eqb f.answer 0 z)) in
        (λ j. run_result f.answer f.index (left j).ended.machine (left j).memory (set (left j).answers f.index f.answer))
        ∙ ap (λ (l : List ℕ). run_result f.answer f.index before.ended.machine before.memory l)
        (sym (sets_append before.answers (f.answer ∷ []) old 0 ∙ ap (λ (n : ℕ). set (sets old 0 before.answers) n f.answer) h))
        ∙ ap (filled old 0) bad

pub ruleset prefix = (inside, none_before, not_counted, none_bad, bad_behind)
