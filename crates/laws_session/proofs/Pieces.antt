-- Pieces fed one by one, and the bytes that finish no record.
use mathlib.Core.Path.{◌≡◌, refl, sym, ap, ◌∙◌}
use mathlib.Core.Bool.{Bool, true, false, cond, ◌&&◌, ◌||◌}
use mathlib.Core.List.{List, [], ◌∷◌, ◌++◌, append-nil, flatten}
use Prim.Native.Nat.{ℕ, suc, ◌+◌, ◌-◌, ◌*◌, ◌/◌, ◌<◌}
use native.Mathlib.Omega.{arith}
use lib.Dec.{eqb, leb, ltb}
use lib.ListN.{length, get_or, drop, replicate, length-append, length-take, length-drop, take-append-drop}
use lib.Seq.{get_or-drop, length-take-le}
use borrow.Author.Tests.{eqb-true, eqb-false, le-ltb}
use Rattle.base.specs.Below.{all_below}
use Rattle.base.proofs.Below.{and_left, and_right, all_at}
use Rattle.machine.specs.Valid.{first_of}
use Rattle.tape.specs.Tape.{record_size}
use Rattle.run_rules.specs.Run.{reads, play}
use Rattle.session_rules.specs.Session.{most_held, laid, session, holds, stops_at, place_right, right, number, Feeding, idle, onto, wrapped, did, feed_on, feed}
use Rattle.session_rules.specs.declared.Session.{Session}
use Rattle.session_rules.proofs.Value.{first_zero, number_zero, right_held}
use Rattle.session_rules.proofs.Feeding.{then_feed, feed_join}
use Rattle.laws_session.specs.Pieces.{feeds, FeedsJoin, CuttingsAgree, RestUnread, EmptyPiece}
use Rattle.laws_session.proofs.Kept.{feed_goes, feed_idle, stop_holds, on_kept, session_valid}

-- the answer of a feeding is that of the session which it gives
same_answer : (s : Session) (mem p : List ℕ) → (feed_on s mem p).fed.session.answer ≡ (feed_on s mem p).fed.answer
unfolding feed_on
same_answer s mem p = refl

-- a stopped session adds nothing
onto_idle : (a : Feeding) → a.fed.session.answer ≡ a.fed.answer → onto a (idle a.fed.session.answer a.fed.session a.memory) ≡ a
onto_idle a e =
    let z : a.fed.finished + 0 ≡ a.fed.finished = omega arith in
    λ j. record {
      fed = record { answer = e j; finished = z j; session = a.fed.session };
      memory = a.memory;
      answers = append-nil a.answers j;
    }

module _ (s : Session) (mem p q : List ℕ) where
  -- a second piece behind a first
  abbrev second : Feeding → Feeding
  second a = onto a (feed a.fed.session a.memory q)

  next : (a : Feeding) → number a.fed.session (length a.memory) ≡ 0 → a.fed.session.answer ≡ a.fed.answer → second a ≡ then_feed q a
  next a k e = go (eqb a.fed.answer 0) refl
    where
      go : (b : Bool) → eqb a.fed.answer 0 ≡ b → second a ≡ cond b (onto a (feed_on a.fed.session a.memory q)) a
      go true z = ap (onto a) (feed_goes a.fed.session a.memory q k (e ∙ eqb-true _ 0 z))
      go false z = ap (onto a) (stop_holds a.fed.session a.memory q k (λ w. eqb-false _ 0 z (sym e ∙ w))) ∙ onto_idle a e

  feed_two : second (feed s mem p) ≡ feed s mem (p ++ q)
  feed_two = go (eqb n 0) refl
    where
      n : ℕ
      n = first_of (number s (length mem)) s.answer

      go : (b : Bool) → eqb n 0 ≡ b → second (feed s mem p) ≡ feed s mem (p ++ q)
      go true z =
          let (k, e) = first_zero (number s (length mem)) s.answer (eqb-true n 0 z) in
          ap second (feed_goes s mem p k e) ∙ next (feed_on s mem p) (on_kept s mem p (session_valid s (length mem) k)) (same_answer s mem p)
          ∙ sym (feed_join s mem p q) ∙ sym (feed_goes s mem (p ++ q) k e)
      go false z =
          let w = eqb-false n 0 z in
          ap second (feed_idle s mem p n refl w) ∙ ap (onto (idle n s mem)) (feed_idle s mem q n refl w) ∙ sym (feed_idle s mem (p ++ q) n refl w)

pub feeds_join : FeedsJoin
unfolding feeds flatten
feeds_join s mem p [] = ap (feed s mem) (sym (append-nil p))
feeds_join s mem p (q ∷ qs) =
    let a = feed s mem p in
    ap (onto a) (feeds_join a.fed.session a.memory q qs) ∙ feed_two s mem p (q ++ flatten qs)

pub cuttings_agree : CuttingsAgree
cuttings_agree s mem p ps q qs e = feeds_join s mem p ps ∙ ap (feed s mem) e ∙ sym (feeds_join s mem q qs)

pub rest_unread : RestUnread
unfolding feed_on reads play
rest_unread s mem piece k e h =
    let bs = holds s ++ piece in
    let w : length bs / record_size ≡ 0 = let a = length-append (holds s) piece in let b = length-take s.held s.bytes in omega arith in
    let c : s.count + 0 ≡ s.count = omega arith in
    let d : record_size * (length bs / record_size) ≡ 0 = omega arith in
    feed_goes s mem piece k e
    ∙ ap (λ (i : ℕ). did s.count bs (play (reads bs 0 i) 0 s.machine mem)) w
    ∙ (λ j. idle 0 (session 0 s.machine (wrapped (c j)) (drop (d j) bs)) mem)

-- ---- a piece of no bytes

all_zero : (l : List ℕ) → ((i : ℕ) → i < length l → ◌≡◌ {A = ℕ} (get_or l i 0) 0) → l ≡ replicate (length l) 0
all_zero [] f = refl
all_zero (x ∷ l) f = λ j. f 0 (omega arith) j ∷ all_zero l (λ i h. f (suc i) (omega arith)) j

-- the held bytes with zeros behind them are the session's
module _ (s : Session) (p : right s ≡ true) (l : length s.bytes ≡ most_held) where
  places : all_below (place_right s) most_held ≡ true
  unfolding right
  places =
      and_right (leb s.held most_held) (all_below (place_right s) most_held)
      (and_left (leb s.held most_held && all_below (place_right s) most_held) (eqb s.answer 0 || (stops_at s.answer && eqb s.held 0)) p)

  behind_zero : (i : ℕ) → i < length (drop s.held s.bytes) → ◌≡◌ {A = ℕ} (get_or (drop s.held s.bytes) i 0) 0
  behind_zero i h =
      let d = length-drop s.held s.bytes in
      let k = s.held + i in
      let a = all_at (place_right s) most_held k places (omega arith) in
      let b : ltb k s.held ≡ false = le-ltb k s.held (omega arith) in
      get_or-drop s.held s.bytes i 0 ∙ eqb-true _ 0 (simp b at a)

  held_length : length (holds s) ≡ s.held
  held_length = length-take-le s.held s.bytes (let h = right_held s p in omega arith)

  zeros_behind : drop s.held s.bytes ≡ replicate (most_held - length (holds s)) 0
  zeros_behind =
      let d = length-drop s.held s.bytes in
      let e : length (drop s.held s.bytes) ≡ most_held - length (holds s) = let h = held_length in omega arith in
      all_zero (drop s.held s.bytes) behind_zero ∙ ap (λ (n : ℕ). replicate n 0) e

  laid_back : laid (holds s) ≡ s.bytes
  laid_back = ap (◌++◌ (holds s)) (sym zeros_behind) ∙ take-append-drop s.held s.bytes

pub empty_piece : EmptyPiece
empty_piece s mem k l h = go (eqb s.answer 0) refl
  where
    go : (b : Bool) → eqb s.answer 0 ≡ b → feed s mem [] ≡ idle s.answer s mem
    go false z = stop_holds s mem [] k (eqb-false _ 0 z)
    go true z =
        let p = (number_zero s (length mem) k).1 in
        let e = eqb-true _ 0 z in
        let c : wrapped s.count ≡ s.count = omega arith in
        rest_unread s mem [] k e (let x = right_held s p in omega arith)
        ∙ ap (λ (hs : List ℕ). idle 0 (session 0 s.machine (wrapped s.count) hs) mem) (append-nil (holds s))
        ∙ (λ j. idle (sym e j) (record { machine = s.machine; count = c j; held = held_length s p l j; answer = sym e j; bytes = laid_back s p l j }) mem)
