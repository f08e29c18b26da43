-- The promises of the two editions: of one record, of a tape converted, of a tape of the other edition, and of a converted tape that is run.
use mathlib.Core.Path.{◌≡◌, refl, sym, ap, subst, ◌∙◌}
use mathlib.Core.Bool.{Bool, true, false, not, cond}
use mathlib.Core.List.{List, [], ◌∷◌, ◌++◌}
use Prim.Native.Nat.{ℕ, zero, suc, ◌+◌, ◌*◌, ◌/◌, ◌%◌, ◌≤◌, ◌<◌}
use native.Mathlib.Nat.{zero-add}
use native.Mathlib.Omega.{arith}
use lib.Dec.{eqb, ltb}
use lib.ListN.{length, take, drop, get_or, length-drop}
use lib.Seq.{sets, length-sets, take_at, drop_at, take_all, take-add, take-append-le, drop-append-le, get_or-take, get_or-drop, length-take-le}
use borrow.Author.Tests.{eq-eqb, ne_eqb, eqb-true, eqb-false, ltb-true, ltb-false, le-ltb, lt-leb}
use Rattle.base.proofs.Below.{no_number}
use Rattle.event.specs.Event.{fields_of}
use Rattle.event.specs.declared.Event.{Event}
use Rattle.tape.specs.Tape as three
use Rattle.tape.specs.Tape.{record_size, first_byte, byte, record_at, number}
use Rattle.tape.specs.FirstBad.{found, read_number, bad_record}
use Rattle.tape.specs.declared.Read.{Read}
use Rattle.tape.specs.declared.Read.TheVariants.{Record, Refused}
use Rattle.tape.proofs.Laws.{over_all}
use Rattle.tape.proofs.FirstBad.{bad_here, each_good, none_bad}
use Rattle.edition_two.specs.Two as two
use Rattle.edition_two.specs.Two.{last_thread}
use Rattle.editions.specs.Editions as editions
use Rattle.editions.specs.Editions.{other, read, bytes, no_record, write_answer, write, turned_number, turned_bytes, turned, all_turned, convert_answer, convert}
use Rattle.editions.specs.declared.Edition.{Edition}
use Rattle.editions.specs.declared.Edition.TheVariants.{Two, Three}
use Rattle.tape.specs.declared.Found.{Found}
use Rattle.editions.proofs.Laws.{record_of, length_bytes, length_turned, length_all_turned}
use Rattle.laws_round.specs.Round.{Bytes}
use Rattle.machine.specs.Valid.{machine_number}
use Rattle.machine.proofs.Validity.{valid_passes}
use Rattle.run_rules.specs.Run as tape_run
use Rattle.run_rules.specs.Run.{Result, refused, play, run}
use Rattle.run_rules.proofs.Runs.{run_bad}
use Rattle.laws_editions.specs.Promises.{ReadsWritten, WritesRead, OneRecord, KeepsRest, KeepsPast, SameEvents, ThereAndBack, Begins, OtherRefused, TwoNotRun, reads, Replays}
use Rattle.laws_editions.proofs.Layouts.{record_read, record_bytes, record_has, record_fits}

-- ---- one record

-- bytes laid over a buffer's start
front : (buf cs : List ℕ) (n : ℕ) → length cs ≡ n → n ≤ length buf → take n (sets buf 0 cs) ≡ cs
front buf cs n e h = ap (take n) (over_all buf cs (omega arith)) ∙ take_at cs _ n e

behind : (buf cs : List ℕ) (n : ℕ) → length cs ≡ n → n ≤ length buf → drop n (sets buf 0 cs) ≡ drop n buf
behind buf cs n e h = ap (drop n) (over_all buf cs (omega arith)) ∙ drop_at cs _ n e ∙ ap (λ (i : ℕ). drop i buf) e

-- what a writer's 0 tells
answer_0 : (d : Edition) (w : ℕ) (e : Event) (buf : List ℕ) → write_answer d w e buf ≡ 0 → (no_record d w e ≡ 0) × (record_size ≤ length buf)
unfolding write_answer three.write_answer
answer_0 d w e buf z = go (eqb (no_record d w e) 0) refl
  where
    go : (b : Bool) → eqb (no_record d w e) 0 ≡ b → (no_record d w e ≡ 0) × (record_size ≤ length buf)
    go true p = (eqb-true _ 0 p, ltb-false _ _ (no_number (ltb (length buf) record_size) 9 0 (simp p at z)).0)
    go false p = absurd (eqb-false _ 0 p (simp p at z))

wrote : (d : Edition) (w : ℕ) (e : Event) (buf : List ℕ) → write_answer d w e buf ≡ 0 → write d w e buf ≡ sets buf 0 (bytes d (fields_of w e))
unfolding write
wrote d w e buf z = simp (eq-eqb (write_answer d w e buf) 0 z)

pub reads_written : ReadsWritten
reads_written d w e buf z fit =
    let a = answer_0 d w e buf z in
    ap (λ (b : List ℕ). read d (take record_size b)) (wrote d w e buf z)
    ∙ ap (read d) (front buf (bytes d (fields_of w e)) record_size (length_bytes d _) a.1)
    ∙ record_read d w e a.0 fit

pub writes_read : WritesRead
unfolding write_answer three.write_answer
writes_read d bs w e buf h p long =
    let n = record_has d bs w e h p in
    let z : write_answer d w e buf ≡ 0 = simp (eq-eqb (no_record d w e) 0 n, le-ltb (length buf) record_size long) in
    (z, ap (take record_size) (wrote d w e buf z) ∙ front buf (bytes d (fields_of w e)) record_size (length_bytes d _) long ∙ record_bytes d bs w e h p)

pub one_record : OneRecord
one_record d bs cs w e hb hc p q = sym (record_bytes d bs w e hb p) ∙ record_bytes d cs w e hc q

pub keeps_rest : KeepsRest
unfolding write
keeps_rest d w e buf = go (eqb (write_answer d w e buf) 0) refl
  where
    go : (b : Bool) → eqb (write_answer d w e buf) 0 ≡ b
        → (length (write d w e buf) ≡ length buf) × (drop record_size (write d w e buf) ≡ drop record_size buf)
    go true p =
        let z = eqb-true _ 0 p in
        let o = wrote d w e buf z in
        (ap length o ∙ length-sets buf 0 (bytes d (fields_of w e)), ap (drop record_size) o ∙ behind buf (bytes d (fields_of w e)) record_size (length_bytes d _) (answer_0 d w e buf z).1)
    go false p = simp p (refl, refl)

-- ---- one record in the other edition

other_back : (d : Edition) → other (other d) ≡ d
other_back Two = refl
other_back Three = refl

module _ (d : Edition) (bs : List ℕ) (h : Bytes bs) (z : editions.number d bs ≡ 0) where
  as_read : (w : ℕ) × (e : Event) × (read d bs ≡ Record w e)
  as_read = record_of d bs z

  abbrev w : ℕ
  w = as_read.0

  abbrev e : Event
  e = as_read.1

  p : read d bs ≡ Record w e
  p = as_read.2

  there_bytes : turned d bs ≡ bytes (other d) (fields_of w e)
  unfolding turned
  there_bytes = ap (turned_bytes d) p

  there_has : no_record (other d) w e ≡ 0
  unfolding editions.number
  there_has = sym (ap (turned_number d) p) ∙ z

  there_read : read (other d) (turned d bs) ≡ Record w e
  there_read = ap (read (other d)) there_bytes ∙ record_read (other d) w e there_has (record_fits d bs w e h p)

  turned_same : read (other d) (turned d bs) ≡ read d bs
  turned_same = there_read ∙ sym p

  turned_good : editions.number (other d) (turned d bs) ≡ 0
  unfolding editions.number
  turned_good = ap (turned_number (other d)) there_read ∙ ap (λ (c : Edition). no_record c w e) (other_back d) ∙ record_has d bs w e h p

  turned_back : turned (other d) (turned d bs) ≡ bs
  unfolding turned
  turned_back =
      ap (turned_bytes (other d)) there_read ∙ ap (λ (c : Edition). bytes c (fields_of w e)) (other_back d) ∙ record_bytes d bs w e h p

-- ---- the records of a tape

-- nothing stands past what is taken
taken_past : (m : ℕ) (l : List ℕ) (n : ℕ) → m ≤ n → get_or (take m l) n 0 ≡ 0
taken_past zero l n h = refl
taken_past (suc m) [] n h = refl
taken_past (suc m) (x ∷ l) zero h = absurd (omega arith)
taken_past (suc m) (x ∷ l) (suc n) h = taken_past m l n (omega arith)

-- a record of bytes
record_bytes_fit : (tape : List ℕ) (k : ℕ) → Bytes tape → Bytes (record_at tape k)
record_bytes_fit tape k h n = go (ltb n record_size) refl
  where
    go : (b : Bool) → ltb n record_size ≡ b → byte (record_at tape k) n < 256
    go true p =
        subst (λ (x : ℕ). x < 256) (sym (get_or-take record_size (drop (record_size * k) tape) n 0 (ltb-true _ _ p) ∙ get_or-drop (record_size * k) tape n 0)) (h (record_size * k + n))
    go false p = subst (λ (x : ℕ). x < 256) (sym (taken_past record_size (drop (record_size * k) tape) n (ltb-false _ _ p))) (omega arith)

-- a record in front of other bytes
record_front : (xs ys : List ℕ) (k : ℕ) → record_size * k + record_size ≤ length xs → record_at (xs ++ ys) k ≡ record_at xs k
record_front xs ys k h =
    ap (take record_size) (drop-append-le (record_size * k) xs ys (omega arith))
    ∙ take-append-le record_size (drop (record_size * k) xs) ys (let l = length-drop (record_size * k) xs in omega (arith, l))

-- the last record
record_last : (xs ys : List ℕ) (k : ℕ) → length xs ≡ record_size * k → length ys ≡ record_size → record_at (xs ++ ys) k ≡ ys
record_last xs ys k h l = ap (take record_size) (drop_at xs ys (record_size * k) h) ∙ take_all record_size ys (omega arith)

-- what holds of each number, for a count from 0 on
from_0 : (P : ℕ → Type 0) (n : ℕ) → ((i : ℕ) → i < n → P i) → (i : ℕ) → i < n → P (0 + i)
from_0 P n g i h = subst P (sym (zero-add i)) (g i h)

abbrev Good : Edition → List ℕ → ℕ → Type 0
Good d tape n = (i : ℕ) → i < n → editions.number d (record_at tape i) ≡ 0

-- one record of all that were turned
turned_at : (d : Edition) (tape : List ℕ) (n : ℕ) → Good d tape n → (k : ℕ) → k < n → record_at (all_turned d tape n) k ≡ turned d (record_at tape k)
unfolding all_turned
turned_at d tape zero g k h = absurd (omega arith)
turned_at d tape (suc n) g k h = go (ltb k n) refl (turned_at d tape n (λ i j. g i (omega arith)) k)
  where
    l : length (all_turned d tape n) ≡ record_size * n
    l = length_all_turned d tape n (λ i j. g i (omega arith))

    go : (b : Bool) → ltb k n ≡ b → (k < n → record_at (all_turned d tape n) k ≡ turned d (record_at tape k))
        → record_at (all_turned d tape n ++ turned d (record_at tape n)) k ≡ turned d (record_at tape k)
    go true p before = let q = ltb-true k n p in record_front (all_turned d tape n) _ k (omega (arith, l)) ∙ before q
    go false p before =
        let e : k ≡ n = let q = ltb-false k n p in omega arith in
        ap (record_at (all_turned d tape n ++ turned d (record_at tape n))) e
        ∙ record_last (all_turned d tape n) (turned d (record_at tape n)) n l (length_turned d (record_at tape n) (g n (omega arith)))
        ∙ ap (λ (i : ℕ). turned d (record_at tape i)) (sym e)

-- ---- a tape

-- what a converter's 0 tells, and what it leaves
record Passed (d : Edition) (tape buf : List ℕ) : Type 0 where
  whole : length tape % record_size ≡ 0
  long : length tape ≤ length buf
  good : Good d tape (length tape / record_size)

passed : (d : Edition) (tape buf : List ℕ) → (convert_answer d tape buf).answer ≡ 0 → Passed d tape buf
unfolding convert_answer
passed d tape buf z = go (eqb (length tape % record_size) 0) (ltb (length buf) (length tape)) refl refl
  where
    go : (a b : Bool) → eqb (length tape % record_size) 0 ≡ a → ltb (length buf) (length tape) ≡ b → Passed d tape buf
    go false b p q = let o : ◌≡◌ {A = ℕ} 6 0 = simp p at z in absurd (omega arith)
    go true true p q = let o : ◌≡◌ {A = ℕ} 10 0 = simp (p, q) at z in absurd (omega arith)
    go true false p q =
        record { whole = eqb-true _ 0 p; long = ltb-false _ _ q; good = λ i. each_good (editions.number d) tape (length tape / record_size) i (simp (p, q) at z) }

module _ (d : Edition) (tape buf : List ℕ) (z : (convert_answer d tape buf).answer ≡ 0) where
  abbrev all : List ℕ
  all = all_turned d tape (length tape / record_size)

  as_passed : Passed d tape buf
  as_passed = passed d tape buf z

  all_length : length all ≡ length tape
  all_length = length_all_turned d tape _ as_passed.good ∙ (let w = as_passed.whole in omega (arith, w))

  left : convert d tape buf ≡ sets buf 0 all
  unfolding convert
  left = simp (eq-eqb (convert_answer d tape buf).answer 0 z)

  left_front : take (length tape) (convert d tape buf) ≡ all
  left_front = ap (take (length tape)) left ∙ front buf all (length tape) all_length as_passed.long

pub keeps_past : KeepsPast
unfolding convert
keeps_past d tape buf = go (eqb (convert_answer d tape buf).answer 0) refl
  where
    go : (b : Bool) → eqb (convert_answer d tape buf).answer 0 ≡ b
        → (length (convert d tape buf) ≡ length buf) × (drop (length tape) (convert d tape buf) ≡ drop (length tape) buf)
    go true p =
        let z = eqb-true _ 0 p in
        let o = left d tape buf z in
        (ap length o ∙ length-sets buf 0 (all d tape buf z), ap (drop (length tape)) o ∙ behind buf (all d tape buf z) (length tape) (all_length d tape buf z) (passed d tape buf z).long)
    go false p = simp p (refl, refl)

pub same_events : SameEvents
same_events d tape buf h z k lt =
    let n = length tape / record_size in
    let g = (passed d tape buf z).good in
    let a = all d tape buf z in
    let l = all_length d tape buf z in
    ap (λ (x : List ℕ). read (other d) (record_at x k)) (left d tape buf z ∙ over_all buf a (let q = (passed d tape buf z).long in omega (arith, l)))
    ∙ ap (read (other d)) (record_front a _ k (omega (arith, l)) ∙ turned_at d tape n g k lt)
    ∙ turned_same d (record_at tape k) (record_bytes_fit tape k h) (g k lt)

-- all turned back
module _ (d : Edition) (tape : List ℕ) (h : Bytes tape) (n : ℕ) (g : Good d tape n) where
  abbrev there : List ℕ
  there = all_turned d tape n

  good_back : Good (other d) there n
  good_back i lt = ap (editions.number (other d)) (turned_at d tape n g i lt) ∙ turned_good d (record_at tape i) (record_bytes_fit tape i h) (g i lt)

  first_back : (m : ℕ) → m ≤ n → all_turned (other d) there m ≡ take (record_size * m) tape
  unfolding all_turned
  first_back zero le = refl
  first_back (suc m) le =
      let e : record_size * m + record_size ≡ record_size * suc m = omega arith in
      (λ j. first_back m (omega arith) j ++ (ap (turned (other d)) (turned_at d tape n g m le) ∙ turned_back d (record_at tape m) (record_bytes_fit tape m h) (g m le)) j)
      ∙ sym (take-add (record_size * m) record_size tape) ∙ ap (λ (i : ℕ). take i tape) e

pub there_and_back : ThereAndBack
unfolding convert_answer
there_and_back d tape buf back h z long =
    let n = length tape / record_size in
    let q = passed d tape buf z in
    let a = all d tape buf z in
    let l = all_length d tape buf z in
    let f = left_front d tape buf z in
    let none = none_bad (editions.number (other d)) a n 0 (from_0 (λ i. editions.number (other d) (record_at a i) ≡ 0) n (good_back d tape h n q.good)) in
    let told : convert_answer (other d) a back ≡ found 0 n =
    simp (l, eq-eqb (length tape % record_size) 0 q.whole, le-ltb (length back) (length tape) long) (none ∙ ap (found 0) (zero-add n)) in
    let w = q.whole in
    let whole : record_size * n ≡ length tape = omega (arith, w) in (
      ap (λ (x : List ℕ). convert_answer (other d) x back) f ∙ told,
      ap (λ (x : List ℕ). take (length tape) (convert (other d) x back)) f
          ∙ ap (λ (i : ℕ). take i (convert (other d) a back)) (sym l)
          ∙ left_front (other d) a back (ap (λ (x : Found). x.answer) told)
          ∙ ap (λ (i : ℕ). all_turned (other d) a (i / record_size)) l
          ∙ first_back d tape h n q.good n (omega arith)
          ∙ take_all (record_size * n) tape (omega arith),
    )

-- ---- a tape of the other edition

other_number : (d : Edition) (bs : List ℕ) → length bs ≡ record_size → Begins (other d) bs → read d bs ≡ Refused 7
unfolding read two.read three.read
other_number Two bs l b =
    let q : last_thread < byte bs 0 = omega (arith, b) in
    simp (eq-eqb (length bs) record_size l, lt-leb (byte bs 0) last_thread q)
other_number Three bs l b = simp (eq-eqb (length bs) record_size l, ne_eqb (byte bs 0) first_byte (λ p. omega (arith, b)))

begins_first : (d : Edition) (tape : List ℕ) → Begins d tape → Begins d (record_at tape 0)
begins_first Two tape b = subst (λ (x : ℕ). x ≤ last_thread) (sym (get_or-take record_size tape 0 0 (omega arith))) b
begins_first Three tape b = get_or-take record_size tape 0 0 (omega arith) ∙ b

pub other_refused : OtherRefused
unfolding convert_answer editions.number
other_refused d tape buf b pos whole =
    let seven = other_number d (record_at tape 0) (length-take-le record_size tape (omega (arith, whole, pos))) (begins_first (other d) tape b) in
    let n : editions.number d (record_at tape 0) ≡ 7 = ap (turned_number d) seven in (
      ap number seven,
      λ long.
          simp (eq-eqb (length tape % record_size) 0 whole, le-ltb (length buf) (length tape) long)
          (bad_here (editions.number d) tape 0 (length tape / record_size) (omega (arith, whole, pos)) (λ z. let o : ◌≡◌ {A = ℕ} 7 0 = sym n ∙ z in omega arith) ∙ ap (λ (i : ℕ). found i 0) n),
    )

pub two_not_run : TwoNotRun
unfolding bad_record read
two_not_run m mem tape v b pos whole =
    let seven = other_number Three (record_at tape 0) (length-take-le record_size tape (omega (arith, whole, pos))) (begins_first Two tape b) in
    let n : read_number (record_at tape 0) ≡ 7 = ap number seven in
    let first : bad_record tape ≡ found 7 0 =
    simp (eq-eqb (length tape % record_size) 0 whole)
    (bad_here read_number tape 0 (length tape / record_size) (omega (arith, whole, pos)) (λ z. let o : ◌≡◌ {A = ℕ} 7 0 = sym n ∙ z in omega arith) ∙ ap (λ (i : ℕ). found i 0) n) in
    run_bad m mem tape (valid_passes m (length mem) v) (ap (λ (x : Found). eqb x.answer 0) first) ∙ ap (λ (x : Found). refused x m mem) first

-- ---- a converted tape that is run

read_same : (tape all : List ℕ) (n k : ℕ) → ((i : ℕ) → i < n → three.read (record_at all (k + i)) ≡ read Two (record_at tape (k + i)))
    → tape_run.reads all k n ≡ reads Two tape k n
unfolding tape_run.reads reads
read_same tape all zero k g = refl
read_same tape all (suc n) k g =
    let z : k + 0 ≡ k = omega arith in
    let one : three.read (record_at all k) ≡ read Two (record_at tape k) = (λ j. three.read (record_at all (sym z j))) ∙ g 0 (omega arith) ∙ (λ j. read Two (record_at tape (z j))) in
    let rest = read_same tape all n (k + 1) (λ i h. let e : k + 1 + i ≡ k + suc i = omega arith in (λ j. three.read (record_at all (e j))) ∙ g (suc i) (omega arith) ∙ (λ j. read Two (record_at tape (sym e j)))) in
    λ j. one j ∷ rest j

pub replays : Replays
unfolding run read bad_record
replays m mem tape buf h z =
    let n = length tape / record_size in
    let q = passed Two tape buf z in
    let a = all Two tape buf z in
    let l = all_length Two tape buf z in
    let same =
    read_same tape a n 0
    (from_0 (λ i. three.read (record_at a i) ≡ read Two (record_at tape i)) n
    (λ i lt. ap three.read (turned_at Two tape n q.good i lt) ∙ turned_same Two (record_at tape i) (record_bytes_fit tape i h) (q.good i lt))) in
    let none =
    none_bad read_number a n 0
    (from_0 (λ i. read_number (record_at a i) ≡ 0) n
    (λ i lt. ap read_number (turned_at Two tape n q.good i lt) ∙ ap number (there_read Two (record_at tape i) (record_bytes_fit tape i h) (q.good i lt)))) in
    let k = machine_number m (length mem) in
    ap (run m mem) (left_front Two tape buf z)
    ∙ simp (l, eq-eqb (length tape % record_size) 0 q.whole, none)
    (ap (λ (rs : List Read). cond (not (eqb k 0)) (refused (found k 0) m mem) (play rs 0 m mem)) same)
