-- What feeding leaves is a session: the numbers that stop one, and that it holds what a session may hold.
use mathlib.Core.Path.{◌≡◌, refl, sym, ap, ◌∙◌, subst}
use mathlib.Core.Bool.{Bool, true, false, not, cond, ◌&&◌, ◌||◌, true≢false}
use mathlib.Core.Logic.{◌⊎◌, inl, inr, ⊎_elim}
use mathlib.Core.List.{List, [], ◌++◌}
use Prim.Native.Nat.{ℕ, zero, suc, ◌+◌, ◌-◌, ◌*◌, ◌/◌, ◌≤◌, ◌<◌}
use native.Mathlib.Omega.{arith}
use lib.Dec.{eqb, leb, ltb}
use lib.ListN.{length, get_or, drop, replicate, length-drop}
use lib.Seq.{get_or-append-add, length-take-le}
use borrow.Author.Tests.{eq-eqb, ne_eqb, eqb-true, eqb-false, le-leb, ltb-false}
use Rattle.base.proofs.Below.{fork, and_intro, all_from}
use Rattle.kinds.specs.Rows.{kind_right, row}
use Rattle.event.specs.Event.{kind, operands_right, event_of, tm_instruction}
use Rattle.event.specs.declared.Event.{Event}
use Rattle.thread.specs.declared.Control.{Control}
use Rattle.machine.specs.Machine.{thread}
use Rattle.machine.specs.Valid.{valid, first_of}
use Rattle.machine.specs.declared.Machine.{Machine}
use Rattle.machine.proofs.Validity.{valid_passes, passes_valid}
use Rattle.step_rules.specs.Refusal.{host_in_t, off, forbidden, bad_thing, refused_there, refused_later, refusal, turned_down}
use Rattle.step_rules.proofs.Refusals.{refusal_valid}
use Rattle.step_rules.specs.Step.{Outcome, step}
use Rattle.step_rules.proofs.Steps.{step_refused}
use Rattle.tape.specs.Tape.{record_size, first_byte, byte, record_at, fields_at, fixed_zero, unused_clear, judged, of_kind, read}
use Rattle.tape.specs.declared.Read.{Read}
use Rattle.tape.specs.declared.Read.TheVariants.{Record, Refused}
use Rattle.run_rules.specs.Run.{goes_on, reads}
use Rattle.laws_run.specs.Steps.{Stops}
use Rattle.laws_run.proofs.Steps.{stop_refused}
use Rattle.laws_run.proofs.Counts.{End, ends}
use Rattle.session_rules.specs.Session.{most_held, laid, session, holds, stops_at, place_right, right, number, Feeding, idle, wrapped, rest, behind, feed_on, feed}
use Rattle.session_rules.specs.declared.Session.{Session}
use Rattle.session_rules.proofs.Value.{number_zero}
use Rattle.session_rules.proofs.Feeding.{whole, ran, rest_small, play_keeps, feed_keeps}
use Rattle.laws_session.specs.Pieces.{SessionKept, NoSession, StopHolds}

-- ---- the numbers that stop a session

-- the reader's, of a record that is whole
read_stops : (bs : List ℕ) (n : ℕ) → length bs ≡ record_size → read bs ≡ Refused n → stops_at n ≡ true
unfolding read of_kind judged
read_stops bs n l =
    go (eqb (length bs) record_size) (eq-eqb _ _ l) (eqb (byte bs 0) first_byte) (kind_right (fields_at bs).kind) (fixed_zero bs && unused_clear (row (fields_at bs).kind) (fields_at bs))
  where
    go : (a : Bool) → a ≡ true → (b c d : Bool)
        → cond (not a) (Refused 6) (cond (not b) (Refused 7) (cond (not c) (Refused 8) (cond (not d) (Refused 9) (Record (fields_at bs).thread (event_of (fields_at bs)))))) ≡ Refused n
        → stops_at n ≡ true
    go true h true true true z = absurd (let o : ◌≡◌ {A = ℕ} 0 1 = cc in omega arith)
    go true h true true false z = let e : n ≡ 9 = cc in ap stops_at e
    go true h true false d z = let e : n ≡ 8 = cc in ap stops_at e
    go true h false c d z = let e : n ≡ 7 = cc in ap stops_at e
    go false h b c d z = absurd (true≢false (sym h))

-- the step's, of a valid machine
abbrev Stopping : ℕ → Type 0
Stopping n = (n ≡ 0) ⊎ (stops_at n ≡ true)

there_stops : (k : Control) (e : Event) → Stopping (refused_there k e)
unfolding refused_there
there_stops k e =
    fork Stopping (host_in_t k.msr.state (kind e)) (λ p. inr refl)
    (λ p. fork Stopping (off k e) (λ q. inr refl)
    (λ q. fork Stopping (forbidden k e) (λ r. inr refl)
    (λ r. fork Stopping (bad_thing k.msr.state k (kind e) (tm_instruction e) || turned_down k e) (λ t. inr refl) (λ t. inl refl))))

later_stops : (m : Machine) (len w : ℕ) (e : Event) → Stopping (refused_later m len w e)
unfolding refused_later
later_stops m len w e =
    fork Stopping (leb m.count w) (λ p. inr refl)
    (λ p. fork Stopping (not (operands_right e len)) (λ q. inr refl) (λ q. there_stops (thread m.threads w).control e))

step_stops : (m : Machine) (mem : List ℕ) (w : ℕ) (e : Event) → valid m (length mem) ≡ true → goes_on (step m mem w e).done.answer ≡ false
    → stops_at (step m mem w e).done.answer ≡ true
step_stops m mem w e v p =
    let n = refusal m (length mem) w e in
    let z = stop_refused m mem w e p in
    let s : (step m mem w e).done.answer ≡ n = ap (λ (o : Outcome). o.done.answer) (step_refused m mem w e n refl z) in
    let l = refusal_valid m (length mem) w e v in
    ⊎_elim (λ (q : refused_later m (length mem) w e ≡ 0). absurd (eqb-false n 0 z (l ∙ q))) (λ q. ap stops_at (s ∙ l) ∙ q) (later_stops m (length mem) w e)

stop_number : (r : Read) (n : ℕ) (m : Machine) (mem : List ℕ) → ((k : ℕ) → r ≡ Refused k → stops_at k ≡ true) → valid m (length mem) ≡ true → Stops r m mem n
    → stops_at n ≡ true
stop_number (Record w e) n m mem f v (p, q) = sym (ap stops_at p) ∙ step_stops m mem w e v (ap goes_on p ∙ q)
stop_number (Refused k) n m mem f v p = sym (ap stops_at p) ∙ f k refl

-- so a run of whole records from a valid machine ends with 0 or with such a number
module _ (bs : List ℕ) (m : Machine) (mem : List ℕ) (v : valid m (length mem) ≡ true) where
  record_whole : (c : ℕ) → c < length bs / record_size → length (record_at bs (0 + c)) ≡ record_size
  record_whole c h = length-take-le record_size (drop (record_size * (0 + c)) bs) (let l = length-drop (record_size * (0 + c)) bs in omega arith)

  pub ran_stops : Stopping (ran bs m mem).ended.answer
  ran_stops = let (c, p, e) = ends (whole bs m mem) bs 0 m mem in go c e
    where
      go : (c : ℕ) → End bs 0 (whole bs m mem) (ran bs m mem) c → Stopping (ran bs m mem).ended.answer
      go c (inl w) = inl w.1
      go c (inr w) =
          inr (stop_number (read (record_at bs (0 + c))) _ _ _ (λ k. read_stops (record_at bs (0 + c)) k (record_whole c w.0)) (play_keeps (reads bs 0 (whole bs m mem)) 0 m mem v).1 w.1)

-- ---- what is held

zero_at : (n i : ℕ) → ◌≡◌ {A = ℕ} (get_or (replicate n 0) i 0) 0
zero_at zero i = refl
zero_at (suc n) zero = refl
zero_at (suc n) (suc i) = zero_at n i

laid_right : (n : ℕ) (m : Machine) (k : ℕ) (hs : List ℕ) (i : ℕ) → place_right (session n m k hs) i ≡ true
laid_right n m k hs i = go (ltb i (length hs)) refl
  where
    go : (b : Bool) → ltb i (length hs) ≡ b → (b || eqb (get_or (laid hs) i 0) 0) ≡ true
    go true p = refl
    go false p =
        let h = ltb-false i (length hs) p in
        let e : i ≡ length hs + (i - length hs) = omega arith in
        eq-eqb _ 0 (ap (λ (j : ℕ). get_or (laid hs) j 0) e ∙ get_or-append-add hs (replicate (most_held - length hs) 0) (i - length hs) 0 ∙ zero_at (most_held - length hs) (i - length hs))

pub session_right : (n : ℕ) (m : Machine) (k : ℕ) (hs : List ℕ) → length hs ≤ most_held → (eqb n 0 || (stops_at n && eqb (length hs) 0)) ≡ true → right (session n m k hs) ≡ true
unfolding right
session_right n m k hs h p =
    and_intro _ _ (and_intro _ _ (le-leb (length hs) most_held h) (all_from (place_right (session n m k hs)) most_held (λ i l. laid_right n m k hs i))) p

-- the session behind a run of whole records
or_right : (a b : Bool) → b ≡ true → (a || b) ≡ true
or_right true b p = refl
or_right false b p = p

behind_right : (k : ℕ) (bs : List ℕ) (m : Machine) (mem : List ℕ) → valid m (length mem) ≡ true → right (behind k bs (ran bs m mem).ended) ≡ true
behind_right k bs m mem v = go (eqb n 0) refl
  where
    n : ℕ
    n = (ran bs m mem).ended.answer

    go : (b : Bool) → eqb n 0 ≡ b → right (session n (ran bs m mem).ended.machine (wrapped (k + (ran bs m mem).ended.count)) (cond b (rest bs) [])) ≡ true
    go true p = session_right n _ _ (rest bs) (rest_small bs) (simp p)
    go false p =
        session_right n _ _ [] (omega arith)
        (or_right (eqb n 0) (stops_at n && true) (and_intro (stops_at n) true (⊎_elim (λ z. absurd (eqb-false n 0 p z)) (λ q. q) (ran_stops bs m mem v)) refl))

-- ---- feeding by cases

module _ (s : Session) (mem piece : List ℕ) where
  pub feed_goes : number s (length mem) ≡ 0 → s.answer ≡ 0 → feed s mem piece ≡ feed_on s mem piece
  unfolding feed
  feed_goes p z = simp (p, z)

  pub feed_idle : (n : ℕ) → first_of (number s (length mem)) s.answer ≡ n → (n ≡ 0 → ⊥) → feed s mem piece ≡ idle n s mem
  unfolding feed
  feed_idle n p z = rw (p, ne_eqb n 0 z)

pub no_session : NoSession
no_session s mem piece z = feed_idle s mem piece (number s (length mem)) (simp (ne_eqb _ 0 z)) z

pub stop_holds : StopHolds
stop_holds s mem piece p z = feed_idle s mem piece s.answer (simp p) z

-- ---- what is left is a session

pub passes : (s : Session) (len : ℕ) → valid s.machine len ≡ true → right s ≡ true → number s len ≡ 0
unfolding number
passes s len v r = simp (valid_passes s.machine len v, r)

pub on_kept : (s : Session) (mem piece : List ℕ) → valid s.machine (length mem) ≡ true
    → number (feed_on s mem piece).fed.session (length (feed_on s mem piece).memory) ≡ 0
unfolding feed_on
on_kept s mem piece v = passes _ _ (feed_keeps s mem piece v).1 (behind_right s.count (holds s ++ piece) s.machine mem v)

pub session_valid : (s : Session) (len : ℕ) → number s len ≡ 0 → valid s.machine len ≡ true
session_valid s len p = passes_valid s.machine len (number_zero s len p).0

pub session_kept : SessionKept
session_kept s mem piece p = go (eqb s.answer 0) refl
  where
    Kept : Feeding → Type 0
    Kept f = number f.fed.session (length f.memory) ≡ 0

    go : (b : Bool) → eqb s.answer 0 ≡ b → Kept (feed s mem piece)
    go true q = subst Kept (sym (feed_goes s mem piece p (eqb-true _ 0 q))) (on_kept s mem piece (session_valid s (length mem) p))
    go false q = subst Kept (sym (stop_holds s mem piece p (eqb-false _ 0 q))) p
