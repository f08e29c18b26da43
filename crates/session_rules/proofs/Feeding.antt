-- Laws of pieces: bytes left, how a run of whole records ends, and a piece behind another.
use mathlib.Core.Path.{◌≡◌, refl, sym, ap, ◌∙◌}
use mathlib.Core.Bool.{Bool, true, false, cond, true≢false}
use mathlib.Core.Logic.{◌⊎◌, inl, inr, ⊎_elim}
use mathlib.Core.List.{List, [], ◌∷◌, ◌++◌, append_assoc, append-nil}
use Prim.Native.Nat.{ℕ, suc, ◌+◌, ◌-◌, ◌*◌, ◌/◌, ◌≤◌, ◌<◌}
use native.Mathlib.Omega.{arith}
use lib.Dec.{eqb, ltb}
use lib.ListN.{length, take, drop, set, length-append, length-drop, take-append-drop}
use lib.Seq.{sets, take_all, take-length, drop-length, length-take-le, drop-append-add}
use borrow.Author.Tests.{eq-eqb, ne_eqb, eqb-true, lt-ltb, le-ltb}
use Rattle.machine.specs.declared.Machine.{Machine}
use Rattle.machine.specs.Valid.{valid}
use Rattle.tape.specs.Tape.{record_size, read, record_at}
use Rattle.tape.specs.declared.Read.{Read}
use Rattle.tape.specs.declared.Read.TheVariants.{Record, Refused}
use Rattle.tape.proofs.Laws.{refusal_number}
use Rattle.run_rules.specs.Run.{Result, in_front, goes_on, reads, one, play}
use Rattle.run_rules.proofs.Records.{one_keeps}
use Rattle.run_rules.proofs.Pieces as pieces
use Rattle.laws_run.specs.Steps.{Stops}
use Rattle.laws_run.proofs.Counts.{End, ends}
use Rattle.session_rules.specs.declared.Session.{Session}
use Rattle.session_rules.specs.Value.{most_held, session, holds}
use Rattle.session_rules.proofs.Value.{holds_those}
use Rattle.session_rules.specs.Feeding.{Feeding, onto, wrapped, rest, did, feed_on}

-- ---- bytes left

pub rest_small : (bs : List ℕ) → length (rest bs) ≤ most_held
rest_small bs = let l = length-drop (record_size * (length bs / record_size)) bs in omega arith

-- the rest as the code takes it
pub rest_part : (bs : List ℕ) → take (length bs - length bs / record_size * record_size) (drop (length bs / record_size * record_size) bs) ≡ rest bs
rest_part bs =
    let k = length bs / record_size * record_size in
    let e : k ≡ record_size * (length bs / record_size) = omega arith in
    take_all (length bs - k) (drop k bs) (let l = length-drop k bs in omega arith) ∙ ap (λ (n : ℕ). drop n bs) e

-- ---- answers in a buffer

-- one without places stays; and those from place 1 on are those of its part from there
pub sets_none : (xs l : List ℕ) (i j : ℕ) → length l ≡ 0 → sets l i xs ≡ sets l j xs
sets_none [] l i j h = refl
sets_none (x ∷ xs) [] i j h = sets_none xs [] (suc i) (suc j) refl
sets_none (x ∷ xs) (y ∷ l) i j h = absurd (omega arith)

sets_drop : (xs : List ℕ) (y : ℕ) (l : List ℕ) (i : ℕ) → sets (y ∷ l) (suc i) xs ≡ y ∷ sets l i xs
sets_drop [] y l i = refl
sets_drop (x ∷ xs) y l i = sets_drop xs y (set l i x) (suc i)

pub sets_next : (xs l ys : List ℕ) → (length l ≡ 0 → ⊥) → ys ≡ sets (take (length l - 1) (drop 1 l)) 0 xs
    → take 1 l ++ (ys ++ drop (length l - 1) (drop 1 l)) ≡ sets l 1 xs
sets_next xs [] ys h p = absurd (h refl)
sets_next xs (y ∷ l) ys h p =
    let e : suc (length l) - 1 ≡ length l = omega arith in
    (λ j. y ∷ ((p ∙ ap (λ (z : List ℕ). sets z 0 xs) (ap (λ (k : ℕ). take k l) e ∙ take-length l)) j ++ (ap (λ (k : ℕ). drop k l) e ∙ drop-length l) j))
    ∙ ap (◌∷◌ y) (append-nil (sets l 0 xs)) ∙ sym (sets_drop xs y l 0)

-- ---- a machine stays valid

pub play_keeps : (rs : List Read) (k : ℕ) (m : Machine) (mem : List ℕ) → valid m (length mem) ≡ true
    → (length (play rs k m mem).memory ≡ length mem) × (valid (play rs k m mem).ended.machine (length (play rs k m mem).memory) ≡ true)
unfolding play
play_keeps [] k m mem v = (refl, v)
play_keeps (r ∷ rs) k m mem v = go (eqb o.ended.count k) (play_keeps rs (k + 1) o.ended.machine o.memory kept.1)
  where
    o : Result
    o = one r m mem k

    kept : (length o.memory ≡ length mem) × (valid o.ended.machine (length o.memory) ≡ true)
    kept = one_keeps r m mem k v

    rest_of : Result
    rest_of = play rs (k + 1) o.ended.machine o.memory

    go : (b : Bool) → (length rest_of.memory ≡ length o.memory) × (valid rest_of.ended.machine (length rest_of.memory) ≡ true)
        → let x = cond b o (in_front o.ended.answer rest_of) in (length x.memory ≡ length mem) × (valid x.ended.machine (length x.memory) ≡ true)
    go true w = kept
    go false w = (w.0 ∙ kept.0, w.1)

-- ---- how a run of whole records ends

module _ (bs : List ℕ) (m : Machine) (mem : List ℕ) where
  abbrev pub whole : ℕ
  whole = length bs / record_size

  abbrev pub ran : Result
  ran = play (reads bs 0 whole) 0 m mem

  -- an answer that stops a run is not 0
  stopped : (n : ℕ) (r : Read) (x : Machine) (y : List ℕ) → (r ≡ Refused 0 → ⊥) → Stops r x y n → (n ≡ 0 → ⊥)
  stopped n (Record w e) x y z s q = true≢false (sym (ap goes_on q) ∙ s.1)
  stopped n (Refused k) x y z s q = z (ap Refused (s ∙ q))

  -- all are counted, and answered; or one more is answered than counted, and the answer is not 0
  pub how : ((ran.ended.count ≡ whole) × (ran.ended.answer ≡ 0) × (length ran.answers ≡ whole))
      ⊎ ((ran.ended.count < whole) × (ran.ended.answer ≡ 0 → ⊥) × (length ran.answers ≡ ran.ended.count + 1))
  how =
      let (c, p, e) = ends whole bs 0 m mem in
      let i : ran.ended.count ≡ c = omega (arith, p) in
      go c i e
    where
      go : (c : ℕ) → ran.ended.count ≡ c → End bs 0 whole ran c
          → ((ran.ended.count ≡ whole) × (ran.ended.answer ≡ 0) × (length ran.answers ≡ whole))
          ⊎ ((ran.ended.count < whole) × (ran.ended.answer ≡ 0 → ⊥) × (length ran.answers ≡ ran.ended.count + 1))
      go c i (inl w) = inl (omega (arith, w.0), w.1, w.2)
      go c i (inr w) = inr (omega (arith, w.0), stopped _ (read (record_at bs (0 + c))) _ _ (refusal_number (record_at bs (0 + c))) w.1, omega (arith, w.2))

  pub zero_full : eqb ran.ended.count whole ≡ eqb ran.ended.answer 0
  zero_full =
      ⊎_elim (λ w. eq-eqb _ _ w.0 ∙ sym (eq-eqb _ _ w.1))
      (λ w. ne_eqb _ _ (λ (z : ran.ended.count ≡ whole). omega (arith, w.0)) ∙ sym (ne_eqb _ _ w.1))
      how

  pub finished_is : length ran.answers ≡ cond (ltb ran.ended.count whole) (ran.ended.count + 1) ran.ended.count
  finished_is =
      ⊎_elim (λ w. w.2 ∙ sym w.0 ∙ sym (simp (le-ltb ran.ended.count whole (let z = w.0 in omega arith))))
      (λ w. w.2 ∙ sym (simp (lt-ltb ran.ended.count whole w.0)))
      how

  pub answers_few : length ran.answers ≤ whole
  answers_few = ⊎_elim (λ w. let z = w.2 in omega arith) (λ w. let z = w.2 in omega (arith, w.0)) how

-- ---- a piece behind another

-- a second piece is fed to the session that the first leaves, unless that has stopped
abbrev pub then_feed : List ℕ → Feeding → Feeding
then_feed q a = cond (eqb a.fed.answer 0) (onto a (feed_on a.fed.session a.memory q)) a

wrapped_twice : (k a b : ℕ) → wrapped (k + (a + b)) ≡ wrapped (wrapped (k + a) + b)
wrapped_twice k a b = omega arith

-- bytes behind others: their records, and what is left of them
module _ (bs q : List ℕ) where
  abbrev left : List ℕ
  left = rest bs ++ q

  n : ℕ
  n = length bs / record_size

  head : List ℕ
  head = take (record_size * n) bs

  head_length : length head ≡ record_size * n
  unfolding head n
  head_length = length-take-le (record_size * (length bs / record_size)) bs (omega arith)

  all_is : bs ++ q ≡ head ++ left
  unfolding head n
  all_is = ap (λ (l : List ℕ). l ++ q) (sym (take-append-drop (record_size * (length bs / record_size)) bs)) ∙ append_assoc head (rest bs) q

  count_is : length (bs ++ q) / record_size ≡ n + length left / record_size
  unfolding n
  count_is =
      let a = length-append bs q in
      let b = length-append (rest bs) q in
      let c = length-drop (record_size * (length bs / record_size)) bs in
      omega arith

  rest_is : rest (bs ++ q) ≡ rest left
  rest_is =
      let e : record_size * (n + length left / record_size) ≡ length head + record_size * (length left / record_size) = let h = head_length in omega arith in
      (λ j. drop (record_size * count_is j) (all_is j)) ∙ ap (λ (k : ℕ). drop k (head ++ left)) e ∙ drop-append-add head left (record_size * (length left / record_size))

  reads_are : reads (bs ++ q) 0 (length (bs ++ q) / record_size) ≡ reads bs 0 n ++ reads left 0 (length left / record_size)
  unfolding n
  reads_are =
      let k = length left / record_size in
      let z : 0 + n ≡ n + 0 = omega arith in
      ap (reads (bs ++ q) 0) count_is ∙ pieces.reads_add n (bs ++ q) 0 k
      ∙ (λ j. pieces.reads_left n bs q 0 (omega arith) j ++ (ap (λ (i : ℕ). reads (bs ++ q) i k) z ∙ ap (λ (l : List ℕ). reads l (n + 0) k) all_is ∙ pieces.reads_right k head left n 0 head_length) j)

-- what a run of records leaves, from its parts
abbrev made : Result → ℕ → ℕ → List ℕ → Feeding
made r f c hs =
    record { fed = record { answer = r.ended.answer; finished = f; session = session r.ended.answer r.ended.machine c hs }; memory = r.memory; answers = r.answers }

module _ (k : ℕ) (bs q : List ℕ) (m : Machine) (mem : List ℕ) where
  first : Result
  first = ran bs m mem

  second : Result
  second = ran (left bs q) first.ended.machine first.memory

  -- the records of all bytes, by those of the first
  both : Result
  both = pieces.behind first.answers (pieces.shifted (n bs q) second)

  ran_join : ran (bs ++ q) m mem ≡ cond (eqb first.ended.answer 0) both first
  unfolding first second both n
  ran_join =
      let y = reads (left bs q) 0 (whole (left bs q) m mem) in
      let l : 0 + length (reads bs 0 (n bs q)) ≡ n bs q = ap (◌+◌ 0) (pieces.length_reads (n bs q) bs 0) ∙ (let z : 0 + n bs q ≡ n bs q = omega arith in z) in
      let o : n bs q ≡ n bs q + 0 = omega arith in
      ap (λ (rs : List Read). play rs 0 m mem) (reads_are bs q) ∙ pieces.play_append (reads bs 0 (n bs q)) y 0 m mem
      ∙ ap (λ (i : ℕ). pieces.then_play y i first) l
      ∙ (λ j. cond (zero_full bs m mem j) (pieces.behind first.answers ((ap (λ (i : ℕ). play y i first.ended.machine first.memory) o ∙ pieces.play_shifted y (n bs q) 0 first.ended.machine first.memory) j)) first)

  did_join : did k (bs ++ q) (ran (bs ++ q) m mem) ≡ then_feed q (did k bs (ran bs m mem))
  unfolding first second both feed_on n
  did_join = ap (did k (bs ++ q)) ran_join ∙ go (eqb first.ended.answer 0) refl
    where
      a : Feeding
      a = did k bs first

      c : ℕ
      c = wrapped (k + first.ended.count)

      go : (b : Bool) → eqb first.ended.answer 0 ≡ b → did k (bs ++ q) (cond b both first) ≡ cond b (onto a (feed_on a.fed.session a.memory q)) a
      go true e =
          let w : first.ended.count ≡ n bs q = eqb-true _ _ (zero_full bs m mem ∙ e) in
          let hs = cond (eqb first.ended.answer 0) (rest bs) [] in
          let g : hs ≡ rest bs = simp e in
          let h : holds a.fed.session ≡ rest bs = holds_those first.ended.answer first.ended.machine c hs ∙ g in
          let z = second.ended.answer in
          let f = length-append first.answers second.answers in
          let t = ap (λ (i : ℕ). wrapped (k + (i + second.ended.count))) (sym w) ∙ wrapped_twice k first.ended.count second.ended.count in
          (λ j. made both (f j) (t j) (cond (eqb z 0) (rest_is bs q j) [])) ∙ (λ j. onto a (did c (sym h j ++ q) (ran (sym h j ++ q) first.ended.machine first.memory)))
      go false e =
          let h : cond (eqb first.ended.answer 0) (rest (bs ++ q)) [] ≡ cond (eqb first.ended.answer 0) (rest bs) [] = simp e in
          ap (made first (length first.answers) c) h

pub feed_join : (s : Session) (mem p q : List ℕ) → feed_on s mem (p ++ q) ≡ then_feed q (feed_on s mem p)
unfolding feed_on
feed_join s mem p q =
    ap (λ (l : List ℕ). did s.count l (ran l s.machine mem)) (sym (append_assoc (holds s) p q)) ∙ did_join s.count (holds s ++ p) q s.machine mem

-- a piece that fills up a record: where that does not stop the session nothing is held, and one record is finished
pub filled_up : (s : Session) (mem p : List ℕ) → length (holds s ++ p) ≡ record_size → (feed_on s mem p).fed.answer ≡ 0
    → (holds (feed_on s mem p).fed.session ≡ []) × (length (feed_on s mem p).answers ≡ 1)
unfolding feed_on
filled_up s mem p l z =
    let bs = holds s ++ p in
    let r = ran bs s.machine mem in
    let hs = cond (eqb r.ended.answer 0) (rest bs) [] in
    let n : record_size * (length bs / record_size) ≡ length bs = omega arith in
    let e : hs ≡ [] = simp (eq-eqb r.ended.answer 0 z) (ap (λ (k : ℕ). drop k bs) n ∙ drop-length bs) in
    let w : whole bs s.machine mem ≡ 1 = omega arith in
    (holds_those r.ended.answer r.ended.machine (wrapped (s.count + r.ended.count)) hs ∙ e, ⊎_elim (λ x. x.2 ∙ w) (λ x. absurd (x.1 z)) (how bs s.machine mem))

pub feed_keeps : (s : Session) (mem p : List ℕ) → valid s.machine (length mem) ≡ true
    → (length (feed_on s mem p).memory ≡ length mem) × (valid (feed_on s mem p).fed.session.machine (length (feed_on s mem p).memory) ≡ true)
unfolding feed_on
feed_keeps s mem p v = let bs = holds s ++ p in play_keeps (reads bs 0 (length bs / record_size)) 0 s.machine mem v
