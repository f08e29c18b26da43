-- Laws of records in pieces: the records of bytes one behind the other, a run of records behind others, and a run from another count.
use mathlib.Core.Path.{◌≡◌, refl, sym, ap, ◌∙◌}
use mathlib.Core.Bool.{Bool, true, false, cond}
use mathlib.Core.Logic.{◌⊎◌, inl, inr}
use mathlib.Core.List.{List, [], ◌∷◌, ◌++◌}
use Prim.Native.Nat.{ℕ, zero, suc, ◌+◌, ◌-◌, ◌*◌, ◌/◌, ◌≤◌, ◌<◌}
use native.Mathlib.Omega.{arith}
use lib.Dec.{eqb}
use lib.ListN.{length, take, drop, set, length-drop, take-append-drop}
use lib.Seq.{sets, length-take-le, take-append-le, drop-append-le, drop-append-add}
use borrow.Author.Tests.{eq-eqb, ne_eqb, eqb-true, eqb-false}
use Rattle.machine.specs.declared.Machine.{Machine}
use Rattle.step_rules.specs.Step.{Outcome, step}
use Rattle.tape.specs.Tape.{record_size, read, number, record_at}
use Rattle.tape.specs.FirstBad.{read_number, first_bad}
use Rattle.tape.specs.declared.Found.{Found}
use Rattle.tape.proofs.FirstBad.{up_to, none_bad}
use Rattle.tape.specs.declared.Read.{Read}
use Rattle.tape.specs.declared.Read.TheVariants.{Record, Refused}
use Rattle.run_rules.specs.Run.{Result, run_result, in_front, goes_on, reads, counted, one, play}

-- ---- the records of bytes

-- of bytes behind which others stand, and of those
record_left : (p q : List ℕ) (k : ℕ) → record_size * k + record_size ≤ length p → record_at (p ++ q) k ≡ record_at p k
record_left p q k h =
    let a : record_size * k ≤ length p = omega arith in
    let d = length-drop (record_size * k) p in
    ap (take record_size) (drop-append-le (record_size * k) p q a) ∙ take-append-le record_size (drop (record_size * k) p) q (omega arith)

record_right : (p q : List ℕ) (j k : ℕ) → length p ≡ record_size * j → record_at (p ++ q) (j + k) ≡ record_at q k
record_right p q j k l =
    let e : record_size * (j + k) ≡ length p + record_size * k = omega arith in
    ap (λ (n : ℕ). take record_size (drop n (p ++ q))) e ∙ ap (take record_size) (drop-append-add p q (record_size * k))

pub reads_left : (n : ℕ) (p q : List ℕ) (k : ℕ) → record_size * (k + n) ≤ length p → reads (p ++ q) k n ≡ reads p k n
unfolding reads
reads_left zero p q k h = refl
reads_left (suc n) p q k h =
    λ j. read (record_left p q k (omega arith) j) ∷ reads_left n p q (k + 1) (omega arith) j

pub reads_right : (n : ℕ) (p q : List ℕ) (j k : ℕ) → length p ≡ record_size * j → reads (p ++ q) (j + k) n ≡ reads q k n
unfolding reads
reads_right zero p q j k l = refl
reads_right (suc n) p q j k l =
    let e : j + k + 1 ≡ j + (k + 1) = omega arith in
    λ i. read (record_right p q j k l i) ∷ (ap (λ (x : ℕ). reads (p ++ q) x n) e ∙ reads_right n p q j (k + 1) l) i

-- some records, and those behind them
pub reads_add : (a : ℕ) (tape : List ℕ) (k b : ℕ) → reads tape k (a + b) ≡ reads tape k a ++ reads tape (k + a) b
unfolding reads
reads_add zero tape k b =
    let e : 0 + b ≡ b = omega arith in
    let f : k ≡ k + 0 = omega arith in
    λ i. reads tape (f i) (e i)
reads_add (suc a) tape k b =
    let e : suc a + b ≡ suc (a + b) = omega arith in
    let f : k + 1 + a ≡ k + suc a = omega arith in
    ap (reads tape k) e
    ∙ ap (◌∷◌ (read (record_at tape k))) (reads_add a tape (k + 1) b ∙ ap (λ (x : ℕ). reads tape (k + 1) a ++ reads tape x b) f)

pub length_reads : (n : ℕ) (tape : List ℕ) (k : ℕ) → length (reads tape k n) ≡ n
unfolding reads
length_reads zero tape k = refl
length_reads (suc n) tape k = ap suc (length_reads n tape (k + 1))

-- ---- a run of records behind others

-- a result with more answers in front
abbrev pub behind : List ℕ → Result → Result
behind given r = record { ended = r.ended; memory = r.memory; answers = given ++ r.answers }

-- the records behind those of a run are played where it counted all of its own
abbrev pub then_play : List Read → ℕ → Result → Result
then_play bs n r = cond (eqb r.ended.count n) (behind r.answers (play bs n r.ended.machine r.memory)) r

pub play_append : (xs ys : List Read) (k : ℕ) (m : Machine) (mem : List ℕ) → play (xs ++ ys) k m mem ≡ then_play ys (k + length xs) (play xs k m mem)
unfolding play
play_append [] ys k m mem =
    let e : k ≡ k + 0 = omega arith in
    ap (λ (n : ℕ). play ys n m mem) e ∙ sym (simp (eq-eqb k (k + 0) e))
play_append (a ∷ xs) ys k m mem = go (eqb o.ended.count k) refl (play_append xs ys (k + 1) o.ended.machine o.memory)
  where
    o : Result
    o = one a m mem k

    rest : List Read → Result
    rest rs = play rs (k + 1) o.ended.machine o.memory

    go : (b : Bool) → eqb o.ended.count k ≡ b → rest (xs ++ ys) ≡ then_play ys (k + 1 + length xs) (rest xs)
        → cond b o (in_front o.ended.answer (rest (xs ++ ys))) ≡ then_play ys (k + suc (length xs)) (cond b o (in_front o.ended.answer (rest xs)))
    go true p ih =
        let c : o.ended.count ≡ k = eqb-true _ _ p in
        sym (simp (ne_eqb o.ended.count (k + suc (length xs)) (λ (z : o.ended.count ≡ k + suc (length xs)). omega arith)))
    go false p ih =
        let e : k + 1 + length xs ≡ k + suc (length xs) = omega arith in
        ap (in_front o.ended.answer) (ih ∙ ap (λ (n : ℕ). then_play ys n (rest xs)) e)
        ∙ front (eqb (rest xs).ended.count (k + suc (length xs))) (play ys (k + suc (length xs)) (rest xs).ended.machine (rest xs).memory) (rest xs)
      where
        front : (b : Bool) (x y : Result) → in_front o.ended.answer (cond b (behind y.answers x) y) ≡ cond b (behind (o.ended.answer ∷ y.answers) x) (in_front o.ended.answer y)
        front true x y = refl
        front false x y = refl

-- ---- a run from another count

abbrev pub shifted : ℕ → Result → Result
shifted k r =
    record {
      ended = record { answer = r.ended.answer; count = k + r.ended.count; index = k + r.ended.index; machine = r.ended.machine };
      memory = r.memory;
      answers = r.answers;
    }

one_shifted : (r : Read) (k j : ℕ) (m : Machine) (mem : List ℕ) → one r m mem (k + j) ≡ shifted k (one r m mem j)
unfolding one counted
one_shifted (Refused n) k j m mem = refl
one_shifted (Record w e) k j m mem = go (goes_on (step m mem w e).done.answer)
  where
    o : Outcome
    o = step m mem w e

    go : (b : Bool) → run_result o.done.answer (cond b (k + j + 1) (k + j)) o.done.machine o.memory (o.done.answer ∷ [])
        ≡ shifted k (run_result o.done.answer (cond b (j + 1) j) o.done.machine o.memory (o.done.answer ∷ []))
    go true = let e : k + j + 1 ≡ k + (j + 1) = omega arith in ap (λ (n : ℕ). run_result o.done.answer n o.done.machine o.memory (o.done.answer ∷ [])) e
    go false = refl

eqb_shifted : (k c j : ℕ) → eqb (k + c) (k + j) ≡ eqb c j
eqb_shifted k c j = go (eqb c j) refl
  where
    go : (b : Bool) → eqb c j ≡ b → eqb (k + c) (k + j) ≡ b
    go true p = let e = eqb-true c j p in eq-eqb (k + c) (k + j) (omega arith)
    go false p = ne_eqb (k + c) (k + j) (λ z. eqb-false c j p (omega (arith, z)))

pub play_shifted : (rs : List Read) (k j : ℕ) (m : Machine) (mem : List ℕ) → play rs (k + j) m mem ≡ shifted k (play rs j m mem)
unfolding play
play_shifted [] k j m mem = refl
play_shifted (r ∷ rs) k j m mem =
    (λ i. turn (one_shifted r k j m mem i) (k + j))
    ∙ ap (λ (b : Bool). cond b (shifted k o) (in_front o.ended.answer (play rs (k + j + 1) o.ended.machine o.memory))) (eqb_shifted k o.ended.count j)
    ∙ ap (λ (x : Result). cond (eqb o.ended.count j) (shifted k o) (in_front o.ended.answer x)) ((let e : k + j + 1 ≡ k + (j + 1) = omega arith in ap (λ (n : ℕ). play rs n o.ended.machine o.memory) e) ∙ play_shifted rs k (j + 1) o.ended.machine o.memory)
    ∙ out (eqb o.ended.count j) (play rs (j + 1) o.ended.machine o.memory)
  where
    o : Result
    o = one r m mem j

    turn : Result → ℕ → Result
    turn x n = cond (eqb x.ended.count n) x (in_front x.ended.answer (play rs (n + 1) x.ended.machine x.memory))

    out : (b : Bool) (x : Result) → cond b (shifted k o) (in_front o.ended.answer (shifted k x)) ≡ shifted k (cond b o (in_front o.ended.answer x))
    out true x = refl
    out false x = refl

-- ---- the records up to the first bad one

-- a run that counted all its records has an answer for each
pub all_answered : (rs : List Read) (k : ℕ) (m : Machine) (mem : List ℕ) → (play rs k m mem).ended.count ≡ k + length rs → length (play rs k m mem).answers ≡ length rs
unfolding play
all_answered [] k m mem = λ p. refl
all_answered (r ∷ rs) k m mem = go (eqb o.ended.count k) refl (all_answered rs (k + 1) o.ended.machine o.memory)
  where
    o : Result
    o = one r m mem k

    rest : Result
    rest = play rs (k + 1) o.ended.machine o.memory

    go : (b : Bool) → eqb o.ended.count k ≡ b → (rest.ended.count ≡ k + 1 + length rs → length rest.answers ≡ length rs)
        → (cond b o (in_front o.ended.answer rest)).ended.count ≡ k + suc (length rs)
        → length (cond b o (in_front o.ended.answer rest)).answers ≡ suc (length rs)
    go true p ih e = let c : o.ended.count ≡ k = eqb-true _ _ p in absurd (omega (arith, e))
    go false p ih e = ap suc (ih (omega (arith, e)))

-- a record that has a number is refused by it, and stops the run
refused_by : (r : Read) (b : ℕ) → number r ≡ b → (b ≡ 0 → ⊥) → r ≡ Refused b
refused_by (Record w e) b p z = absurd (z (sym p))
refused_by (Refused n) b p z = ap Refused p

pub play_refused : (r : Read) (rs : List Read) (b k : ℕ) (m : Machine) (mem : List ℕ) → number r ≡ b → (b ≡ 0 → ⊥) → play (r ∷ rs) k m mem ≡ run_result b k m mem (b ∷ [])
unfolding play one
play_refused r rs b k m mem p z =
    ap (λ (x : Read). play (x ∷ rs) k m mem) (refused_by r b p z) ∙ simp (eq-eqb k k refl)

module _ (m : Machine) (mem tape : List ℕ) where
  abbrev pub all : ℕ
  all = length tape / record_size

  abbrev pub stop : Found
  stop = first_bad read_number tape 0 all

  abbrev pub good_part : List ℕ
  good_part = take (stop.index * record_size) tape

  -- the part before the first bad record: its length, its records, and that none is bad
  part_length : length good_part ≡ record_size * stop.index
  part_length = let u = up_to read_number tape all in length-take-le (stop.index * record_size) tape (omega (arith, u.0)) ∙ (let e : stop.index * record_size ≡ record_size * stop.index = omega arith in e)

  pub part_count : length good_part / record_size ≡ stop.index
  part_count = let l = part_length in omega arith

  split : tape ≡ good_part ++ drop (stop.index * record_size) tape
  split = sym (take-append-drop (stop.index * record_size) tape)

  part_reads : (k n : ℕ) → k + n ≤ stop.index → reads tape k n ≡ reads good_part k n
  part_reads k n h =
      let l = part_length in
      ap (λ (t : List ℕ). reads t k n) split ∙ reads_left n good_part (drop (stop.index * record_size) tape) k (omega arith)

  pub part_good : (first_bad read_number good_part 0 (length good_part / record_size)).answer ≡ 0
  part_good =
      let u = up_to read_number tape all in
      let l = part_length in
      let rest = drop (stop.index * record_size) tape in
      ap (λ (n : ℕ). (first_bad read_number good_part 0 n).answer) part_count
      ∙ ap (λ (x : Found). x.answer)
      (none_bad read_number good_part stop.index 0
      (λ i h.
      let e : 0 + i ≡ i = omega arith in
      sym (ap read_number (ap (λ (t : List ℕ). record_at t i) split ∙ record_left good_part rest i (omega arith) ∙ ap (record_at good_part) (sym e))) ∙ u.1 i h))

  pub part_play : play (reads good_part 0 (length good_part / record_size)) 0 m mem ≡ play (reads tape 0 stop.index) 0 m mem
  part_play = ap (λ (n : ℕ). play (reads good_part 0 n) 0 m mem) part_count ∙ sym (ap (λ (rs : List Read). play rs 0 m mem) (part_reads 0 stop.index (omega arith)))

  -- so all is played by the records of that part, and the bad one behind them
  pub play_up_to : let r = play (reads tape 0 stop.index) 0 m mem in
      play (reads tape 0 all) 0 m mem
      ≡ cond (eqb r.ended.count stop.index)
      (cond (eqb stop.answer 0) r (run_result stop.answer stop.index r.ended.machine r.memory (r.answers ++ stop.answer ∷ [])))
      r
  unfolding reads
  play_up_to = go (up_to read_number tape all).2
    where
      i : ℕ
      i = stop.index

      r : Result
      r = play (reads tape 0 i) 0 m mem

      -- the bad one behind them
      bad : Result
      bad = run_result stop.answer i r.ended.machine r.memory (r.answers ++ stop.answer ∷ [])

      same : (b : Bool) → r ≡ cond b r r
      same true = refl
      same false = refl

      go : ((stop.answer ≡ 0) × (stop.index ≡ all)) ⊎ ((stop.answer ≡ 0 → ⊥) × (stop.index < all) × (read_number (record_at tape stop.index) ≡ stop.answer))
          → play (reads tape 0 all) 0 m mem ≡ cond (eqb r.ended.count i) (cond (eqb stop.answer 0) r bad) r
      go (inl (z, e)) =
          ap (λ (n : ℕ). play (reads tape 0 n) 0 m mem) (sym e) ∙ same (eqb r.ended.count i)
          ∙ ap (λ (b : Bool). cond (eqb r.ended.count i) (cond b r bad) r) (sym (eq-eqb stop.answer 0 z))
      go (inr (w, h, q)) =
          let n = all - i - 1 in
          let e : all ≡ i + suc n = omega (arith, h) in
          let f : 0 + i ≡ i = omega arith in
          let g : 0 + length (reads tape 0 i) ≡ i = ap (◌+◌ 0) (length_reads i tape 0) ∙ f in
          ap (λ (x : ℕ). play (reads tape 0 x) 0 m mem) e
          ∙ ap (λ (rs : List Read). play rs 0 m mem) (reads_add i tape 0 (suc n) ∙ ap (λ (x : ℕ). reads tape 0 i ++ reads tape x (suc n)) f)
          ∙ play_append (reads tape 0 i) (reads tape i (suc n)) 0 m mem
          ∙ ap (λ (x : ℕ). then_play (reads tape i (suc n)) x r) g
          ∙ ap (λ (x : Result). cond (eqb r.ended.count i) (behind r.answers x) r) (play_refused (read (record_at tape i)) (reads tape (i + 1) n) stop.answer i r.ended.machine r.memory q w)
          ∙ ap (λ (b : Bool). cond (eqb r.ended.count i) (cond b r bad) r) (sym (ne_eqb stop.answer 0 w))

-- ---- answers in a buffer

pub sets_append : (xs ys l : List ℕ) (i : ℕ) → sets l i (xs ++ ys) ≡ sets (sets l i xs) (i + length xs) ys
sets_append [] ys l i = let e : i ≡ i + 0 = omega arith in ap (λ (n : ℕ). sets l n ys) e
sets_append (x ∷ xs) ys l i =
    let e : suc i + length xs ≡ i + suc (length xs) = omega arith in
    sets_append xs ys (set l i x) (suc i) ∙ ap (λ (n : ℕ). sets (sets (set l i x) (suc i) xs) n ys) e
