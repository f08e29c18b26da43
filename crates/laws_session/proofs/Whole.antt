-- A whole tape in pieces is one run.
use mathlib.Core.Path.{◌≡◌, refl, sym, ap, ◌∙◌}
use mathlib.Core.Bool.{Bool, true, false, cond, not}
use mathlib.Core.Logic.{⊎_elim}
use mathlib.Core.List.{List, [], ◌∷◌, ◌++◌, append-nil, flatten}
use Prim.Native.Nat.{ℕ, ◌+◌, ◌*◌, ◌/◌, ◌%◌, ◌^◌, ◌≤◌, ◌<◌}
use native.Mathlib.Omega.{arith}
use lib.Dec.{eqb}
use lib.ListN.{length, length-append, length-drop}
use borrow.Author.Tests.{eq-eqb, ne_eqb, eqb-true, eqb-false}
use Rattle.machine.specs.Valid.{machine_number, first_of}
use Rattle.machine.specs.declared.Machine.{Machine}
use Rattle.machine.proofs.Validity.{passes_valid}
use Rattle.tape.specs.Tape.{record_size}
use Rattle.tape.specs.FirstBad.{found, bad_record}
use Rattle.tape.specs.declared.Read.{Read}
use Rattle.tape.proofs.FirstBad.{whole_length}
use Rattle.run_rules.specs.Run.{Result, run_result, refused, in_front, reads, one, play, run}
use Rattle.run_rules.specs.declared.Ended.{Ended}
use Rattle.run_rules.proofs.Records.{one_index}
use Rattle.run_rules.proofs.Runs.{run_unready, run_plays}
use Rattle.run_rules.proofs.Pieces.{reads_left}
use Rattle.session_rules.specs.Session.{number, opened, Feeding, wrapped, rest, behind, did, feed_on, feed, ended, last_answer, close}
use Rattle.session_rules.specs.declared.Session.{Session}
use Rattle.session_rules.proofs.Feeding.{ran, how}
use Rattle.laws_session.specs.Pieces.{ragged, played, run_as_read, SessionIsRun, GoodTapeSame, cut_short, UnfinishedUnread}
use Rattle.laws_session.proofs.Kept.{session_right, passes, feed_goes, no_session, on_kept}
use Rattle.laws_session.proofs.Pieces.{feeds_join}

-- ---- the close

-- what feeding leaves, closed
abbrev closed : Feeding → Result
closed f = record { ended = close f.fed.session (length f.memory); memory = f.memory; answers = f.answers }

close_right : (s : Session) (len : ℕ) → number s len ≡ 0 → close s len ≡ ended (last_answer s) s.count s.machine
unfolding close
close_right s len p = simp p

close_refused : (s : Session) (len n : ℕ) → number s len ≡ n → (n ≡ 0 → ⊥) → close s len ≡ ended n 0 s.machine
unfolding close
close_refused s len n p z = rw (p, ne_eqb n 0 z)

-- the last answer of a session behind whole records
rest_length : (bs : List ℕ) → length (rest bs) ≡ length bs % record_size
rest_length bs = let l = length-drop (record_size * (length bs / record_size)) bs in omega arith

last_is : (k : ℕ) (bs : List ℕ) (e : Ended) → last_answer (behind k bs e) ≡ first_of e.answer (ragged bs)
last_is k bs e = go (eqb e.answer 0)
  where
    go : (b : Bool) → cond b (cond (eqb (length (cond b (rest bs) [])) 0) 0 6) e.answer ≡ cond b (ragged bs) e.answer
    go true = ap (λ (n : ℕ). cond (eqb n 0) 0 6) (rest_length bs)
    go false = refl

-- ---- one piece, from the opening to the close

module _ (m : Machine) (mem tape : List ℕ) where
  abbrev start : Session
  start = opened m (length mem)

  abbrev r : Result
  r = ran tape m mem

  start_number : (n : ℕ) → machine_number m (length mem) ≡ n → (n ≡ 0 → ⊥) → number start (length mem) ≡ n
  unfolding opened number
  start_number n p z = rw (p, ne_eqb n 0 z)

  start_right : machine_number m (length mem) ≡ 0 → number start (length mem) ≡ 0
  unfolding opened
  start_right p = passes start (length mem) (passes_valid m (length mem) p) (session_right (machine_number m (length mem)) m 0 [] (omega arith) (simp p))

  at_once_refused : (n : ℕ) → machine_number m (length mem) ≡ n → (n ≡ 0 → ⊥) → closed (feed start mem tape) ≡ refused (found n 0) m mem
  unfolding opened
  at_once_refused n p z =
      let k = start_number n p z in
      ap closed (no_session start mem tape (λ w. z (sym k ∙ w)))
      ∙ ap (λ (e : Ended). record { ended = e; memory = mem; answers = [] }) (close_refused start (length mem) n k z)

  at_once_played : machine_number m (length mem) ≡ 0 → closed (feed start mem tape) ≡ played m mem tape
  unfolding opened feed_on played
  at_once_played p =
      let f = did 0 tape r in
      let c : 0 + r.ended.count ≡ r.ended.count = omega arith in
      ap closed (feed_goes start mem tape (start_right p) p)
      ∙ ap (λ (e : Ended). record { ended = e; memory = r.memory; answers = r.answers })
      (close_right f.fed.session (length f.memory) (on_kept start mem tape (passes_valid m (length mem) p))
      ∙ (λ j. ended (last_is 0 tape r.ended j) (wrapped (c j)) r.ended.machine))

  at_once : closed (feed start mem tape) ≡ run_as_read m mem tape
  unfolding run_as_read
  at_once = go (eqb n 0) refl
    where
      n : ℕ
      n = machine_number m (length mem)

      go : (b : Bool) → eqb n 0 ≡ b → closed (feed start mem tape) ≡ cond (not b) (refused (found n 0) m mem) (played m mem tape)
      go true q = at_once_played (eqb-true n 0 q)
      go false q = at_once_refused n refl (eqb-false n 0 q)

pub session_is_run : SessionIsRun
session_is_run m mem p ps = ap closed (feeds_join (opened m (length mem)) mem p ps) ∙ at_once m mem (p ++ flatten ps)

-- ---- a tape without a bad record

play_index : (rs : List Read) (k : ℕ) (m : Machine) (mem : List ℕ) → (play rs k m mem).ended.index ≡ (play rs k m mem).ended.count
unfolding play
play_index [] k m mem = refl
play_index (x ∷ rs) k m mem = go (eqb o.ended.count k) (play_index rs (k + 1) o.ended.machine o.memory)
  where
    o : Result
    o = one x m mem k

    after : Result
    after = play rs (k + 1) o.ended.machine o.memory

    go : (b : Bool) → after.ended.index ≡ after.ended.count
        → (cond b o (in_front o.ended.answer after)).ended.index ≡ (cond b o (in_front o.ended.answer after)).ended.count
    go true ih = one_index x m mem k
    go false ih = ih

first_zero_last : (a : ℕ) → first_of a 0 ≡ a
first_zero_last a = go (eqb a 0) refl
  where
    go : (b : Bool) → eqb a 0 ≡ b → cond b 0 a ≡ a
    go true p = sym (eqb-true a 0 p)
    go false p = refl

module _ (m : Machine) (mem tape : List ℕ) where
  counted_few : (r m mem tape).ended.count ≤ length tape / record_size
  counted_few = ⊎_elim (λ w. let z = w.0 in omega arith) (λ w. omega (arith, w.0)) (how tape m mem)

  played_good : (bad_record tape).answer ≡ 0 → length tape / record_size < 2 ^ 64 → played m mem tape ≡ r m mem tape
  unfolding played
  played_good z h =
      let x = r m mem tape in
      let g : ragged tape ≡ 0 = simp (eq-eqb (length tape % record_size) 0 (whole_length tape z)) in
      let a : first_of x.ended.answer (ragged tape) ≡ x.ended.answer = ap (first_of x.ended.answer) g ∙ first_zero_last x.ended.answer in
      let c : wrapped x.ended.count ≡ x.ended.count = let l = counted_few in omega arith in
      λ j. record {
        ended = record { answer = a j; count = c j; index = (c ∙ sym (play_index (reads tape 0 (length tape / record_size)) 0 m mem)) j; machine = x.ended.machine };
        memory = x.memory;
        answers = x.answers;
      }

  as_run : (bad_record tape).answer ≡ 0 → length tape / record_size < 2 ^ 64 → run_as_read m mem tape ≡ run m mem tape
  unfolding run_as_read
  as_run z h = go (eqb n 0) refl
    where
      n : ℕ
      n = machine_number m (length mem)

      go : (b : Bool) → eqb n 0 ≡ b → cond (not b) (refused (found n 0) m mem) (played m mem tape) ≡ run m mem tape
      go true q = played_good z h ∙ sym (run_plays m mem tape (passes_valid m (length mem) (eqb-true n 0 q)) z)
      go false q = sym (run_unready m mem tape n refl q)

pub good_tape_same : GoodTapeSame
good_tape_same m mem p ps z h = session_is_run m mem p ps ∙ as_run m mem (p ++ flatten ps) z h

-- ---- a record that is not whole

six_last : (a : ℕ) → first_of a 6 ≡ first_of (first_of a 0) 6
six_last a = sym (ap (λ (n : ℕ). first_of n 6) (first_zero_last a))

module _ (m : Machine) (mem tape more : List ℕ) (w : length tape % record_size ≡ 0) (lo : 0 < length more) (hi : length more < record_size) where
  whole_same : length (tape ++ more) / record_size ≡ length tape / record_size
  whole_same = let l = length-append tape more in omega arith

  ran_same : r m mem (tape ++ more) ≡ r m mem tape
  ran_same =
      ap (λ (rs : List Read). play rs 0 m mem)
      (ap (reads (tape ++ more) 0) whole_same ∙ reads_left (length tape / record_size) tape more 0 (omega arith))

  ragged_whole : ragged tape ≡ 0
  ragged_whole = simp (eq-eqb (length tape % record_size) 0 w)

  ragged_more : ragged (tape ++ more) ≡ 6
  ragged_more = let l = length-append tape more in simp (ne_eqb (length (tape ++ more) % record_size) 0 (λ z. omega (arith, z)))

  played_more : played m mem (tape ++ more) ≡ cut_short (played m mem tape)
  unfolding played
  played_more =
      (λ j. run_result (first_of (ran_same j).ended.answer (ragged_more j)) (wrapped (ran_same j).ended.count) (ran_same j).ended.machine (ran_same j).memory (ran_same j).answers)
      ∙ ap (λ (n : ℕ). run_result n (wrapped (r m mem tape).ended.count) (r m mem tape).ended.machine (r m mem tape).memory (r m mem tape).answers)
      (six_last (r m mem tape).ended.answer ∙ ap (λ (n : ℕ). first_of (first_of (r m mem tape).ended.answer n) 6) (sym ragged_whole))

  unread : run_as_read m mem (tape ++ more) ≡ cut_short (run_as_read m mem tape)
  unfolding run_as_read
  unread = go (eqb n 0) refl
    where
      n : ℕ
      n = machine_number m (length mem)

      x : Result
      x = refused (found n 0) m mem

      go : (b : Bool) → eqb n 0 ≡ b → cond (not b) x (played m mem (tape ++ more)) ≡ cut_short (cond (not b) x (played m mem tape))
      go true q = played_more
      go false q = ap (λ (b : Bool). record { ended = record { answer = cond b 6 n; count = 0; index = 0; machine = m }; memory = mem; answers = [] }) (sym q)

pub unfinished_unread : UnfinishedUnread
unfolding flatten
unfinished_unread m mem tape more p ps w lo hi e =
    session_is_run m mem p ps ∙ ap (run_as_read m mem) e ∙ unread m mem tape more w lo hi
    ∙ ap cut_short (ap (run_as_read m mem) (sym (append-nil tape)) ∙ sym (session_is_run m mem tape []))
