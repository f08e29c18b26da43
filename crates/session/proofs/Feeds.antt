-- Laws of feeding in the words of the code: bytes laid behind others, and what a piece leaves, with the buffer that was lent for the answers.
use Rattle.std.proofs.Common.{◌≡◌, sym, ap, ◌∙◌, Bool, true, cond, eqb, ltb, List, [], ◌++◌, ℕ, ◌+◌, ◌-◌, ◌*◌, ◌/◌, ◌^◌, ◌<◌, ◌≤◌, arith, length, take, drop, length-append, length-drop, take-append-drop, length-take-le, take_all, eq-eqb, ne_eqb, Fits, w64}
use Rattle.std.proofs.lemmas.List.Edits.{sets}
use Rattle.std.proofs.lemmas.Slice.{take-put_mid}
use borrow.Rule.Slice.PartMut.{put_mid}
use lib.Seq.{take_at}
use Rattle.machine.specs.Valid.{valid, first_of}
use Rattle.machine.specs.declared.Machine.{Machine}
use Rattle.machine.proofs.Validity.{passes_valid}
use Rattle.tape.specs.Tape.{record_size}
use Rattle.run_rules.specs.declared.Ended.{Ended}
use Rattle.run_rules.proofs.Pieces.{sets_append}
use Rattle.session_rules.specs.declared.Fed.{Fed}
use Rattle.session_rules.specs.declared.Session.{Session}
use Rattle.session_rules.specs.Value.{most_held, session, holds, number, right}
use Rattle.session_rules.specs.Feeding.{Feeding, onto, wrapped, did, feed_on}
use Rattle.session_rules.specs.Session.{idle, feed}
use Rattle.session_rules.proofs.Value.{first_zero, number_zero, right_held}
use Rattle.session_rules.proofs.Feeding.{ran, rest_part, finished_is, answers_few, sets_none, sets_next, then_feed, feed_join, filled_up, feed_keeps}
use Rattle.session.specs.Inner.{Left, left}

-- bytes laid into a record from its start, and others behind them
pub laid_behind : (hs ms xs ys zs : List ℕ) (n k : ℕ) → xs ≡ hs → ys ≡ ms → length hs ≡ n → take (n + length ms) (put_mid n k (xs ++ zs) ys) ≡ hs ++ ms
laid_behind hs ms xs ys zs n k p q l =
    let a : length xs ≡ n = ap (λ (x : List ℕ). length x) p ∙ l in
    let b : n + length ms ≡ n + length ys = ap (λ (x : List ℕ). n + length x) (sym q) in
    let c = length-append xs zs in
    take-put_mid n k (xs ++ zs) ys (n + length ms) b (omega (arith, a, c)) ∙ (λ j. take_at xs zs n a j ++ ys) ∙ (λ j. p j ++ q j)

-- what a run of the whole records leaves
pub did_leaves : (bs : List ℕ) (m : Machine) (mem l : List ℕ) (k : ℕ) (e : Ended) (mem' out : List ℕ) (f : ℕ) (s : Session)
    → e ≡ (ran bs m mem).ended → mem' ≡ (ran bs m mem).memory → out ≡ sets l 0 (ran bs m mem).answers
    → f ≡ cond (ltb e.count (length bs / record_size)) (e.count + 1) e.count
    → s ≡ session e.answer e.machine (wrapped (k + e.count)) (cond (eqb e.answer 0) (take (length bs - length bs / record_size * record_size) (drop (length bs / record_size * record_size) bs)) [])
    → ◌≡◌ {A = Left} (record { fed = record { answer = e.answer; finished = f; session = s }; memory = mem'; buffer = out }) (left (did k bs (ran bs m mem)) l 0)
did_leaves bs m mem l k e mem' out f s p q a g h =
    let f_is : f ≡ length (ran bs m mem).answers = g ∙ ap (λ (x : Ended). cond (ltb x.count (length bs / record_size)) (x.count + 1) x.count) p ∙ sym (finished_is bs m mem) in
    let s_is = h ∙ (λ j. session (p j).answer (p j).machine (wrapped (k + (p j).count)) (cond (eqb (p j).answer 0) (rest_part bs j) [])) in
    (λ j. record { fed = record { answer = (p j).answer; finished = f_is j; session = s_is j }; memory = q j; buffer = a j })

-- answers from place 1 on: none where there is no place, else those of the part from there
pub no_place : (f : Feeding) (l : List ℕ) (x : Left) → x ≡ left f l 0 → length l ≡ 0 → x ≡ left f l 1
no_place f l x e z = e ∙ (λ j. record { fed = f.fed; memory = f.memory; buffer = sets_none f.answers l 0 1 z j })

pub next_place : (f : Feeding) (l : List ℕ) (r : Fed) (mem ys : List ℕ)
    → ◌≡◌ {A = Left} (record { fed = r; memory = mem; buffer = ys }) (left f (take (length l - 1) (drop 1 l)) 0) → (length l ≡ 0 → ⊥)
    → ◌≡◌ {A = Left} (record { fed = r; memory = mem; buffer = put_mid 1 (length l - 1) l ys }) (left f l 1)
next_place f l r mem ys e w =
    (λ j. record { fed = (e j).fed; memory = (e j).memory; buffer = sets_next f.answers l ys w (ap (λ (x : Left). x.buffer) e) j })

-- the held bytes and the piece, as they are laid together
pub laid_fed : (s : Session) (mem p l bs : List ℕ) (x : Left) → bs ≡ holds s ++ p → x ≡ left (did s.count bs (ran bs s.machine mem)) l 0 → x ≡ left (feed_on s mem p) l 0
unfolding feed_on
laid_fed s mem p l bs x e i = i ∙ ap (λ (y : List ℕ). left (did s.count y (ran y s.machine mem)) l 0) e

-- ---- a piece that more than fills up the record: its first n bytes, and what stands behind them

module _ (s : Session) (mem p l : List ℕ) (n : ℕ) where
  abbrev front : Feeding
  front = feed_on s mem (take n p)

  all_is : feed_on s mem p ≡ then_feed (drop n p) front
  all_is = ap (feed_on s mem) (sym (take-append-drop n p)) ∙ feed_join s mem (take n p) (drop n p)

  module _ (r : Fed) (mem' out : List ℕ) (is : ◌≡◌ {A = Left} (record { fed = r; memory = mem'; buffer = out }) (left (feed_on s mem (take n p)) l 0)) where
    pub front_stops : (r.answer ≡ 0 → ⊥) → ◌≡◌ {A = Left} (record { fed = r; memory = mem'; buffer = out }) (left (feed_on s mem p) l 0)
    front_stops w =
        let z : eqb front.fed.answer 0 ≡ cond true (eqb 1 0) true = ne_eqb _ 0 (λ z. w (ap (λ (x : Left). x.fed.answer) is ∙ z)) in
        is ∙ ap (λ (f : Feeding). left f l 0) (sym (all_is ∙ ap (λ (b : Bool). cond b (onto front (feed_on front.fed.session front.memory (drop n p))) front) z))

    pub front_valid : valid s.machine (length mem) ≡ true → valid r.session.machine (length mem') ≡ true
    front_valid v = (λ j. valid (is j).fed.session.machine (length (is j).memory)) ∙ (feed_keeps s mem (take n p) v).1

    abbrev back : List ℕ
    back = take (length p - n) (drop n p)

    back_is : back ≡ drop n p
    back_is = take_all (length p - n) (drop n p) (let h = length-drop n p in omega arith)

    pub count_fits : (k : ℕ) (r' : Fed) (mem'' out' : List ℕ)
        → ◌≡◌ {A = Left} (record { fed = r'; memory = mem''; buffer = out' }) (left (did k back (ran back r.session.machine mem')) out 1)
        → length p < 2 ^ 64 → Fits w64 (1 + r'.finished)
    count_fits k r' mem'' out' next h =
        let a : r'.finished ≡ length (ran back r.session.machine mem').answers = ap (λ (x : Left). x.fed.finished) next in
        let b = answers_few back r.session.machine mem' in
        let c = length-drop n p in
        let d = ap (λ (x : List ℕ). length x) back_is in
        let e : 1 + r'.finished < 2 ^ 64 = omega (arith, a, b, c, d, h) in
        record { fits = e }

    module _ (r' : Fed) (mem'' out' : List ℕ) (next : ◌≡◌ {A = Left} (record { fed = r'; memory = mem''; buffer = out' }) (left (did r.session.count back (ran back r.session.machine mem')) out 1)) where
      pub back_fed : length (holds s) ≡ s.held → s.held ≤ most_held → n ≡ record_size - s.held → n < length p → r.answer ≡ 0
          → ◌≡◌ {A = Left} (record { fed = record { answer = r'.answer; finished = 1 + r'.finished; session = r'.session }; memory = mem''; buffer = out' }) (left (feed_on s mem p) l 0)
      unfolding feed_on
      back_fed h hs e longer z =
          let a : length (take n p) ≡ n = length-take-le n p (omega (arith, longer)) in
          let fills : length (holds s ++ take n p) ≡ record_size = (let b = length-append (holds s) (take n p) in omega (arith, a, b, h, hs, e)) in
          let done : front.fed.answer ≡ 0 = sym (ap (λ (x : Left). x.fed.answer) is) ∙ z in
          let second : Feeding = feed_on front.fed.session front.memory (drop n p) in
          let w : feed_on s mem p ≡ onto front second = all_is ∙ ap (λ (b : Bool). cond b (onto front second) front) (eq-eqb _ 0 done) in
          let u = filled_up s mem (take n p) fills done in
          let g : (x : Fed) (y q : List ℕ) → Feeding = λ x y q. did x.session.count q (ran q x.session.machine y) in
          let k : g r mem' back ≡ second = (λ j. g (is j).fed (is j).memory (back_is j)) ∙ ap (λ (q : List ℕ). g front.fed front.memory (q ++ drop n p)) (sym u.0) in
          let one : 0 + length front.answers ≡ 1 = ap (◌+◌ 0) u.1 in
          let more : (f : ℕ) (x : Left) → Left = λ f x. record { fed = record { answer = x.fed.answer; finished = f + x.fed.finished; session = x.fed.session }; memory = x.memory; buffer = x.buffer } in
          ap (more 1) next ∙ (λ j. more 1 (left (k j) (is j).buffer 1)) ∙ (λ j. more (sym u.1 j) (left second (sets l 0 front.answers) (sym one j)))
          ∙ (λ j. record { fed = (onto front second).fed; memory = second.memory; buffer = sym (sets_append front.answers second.answers l 0) j })
          ∙ ap (λ (f : Feeding). left f l 0) (sym w)

-- ---- any piece

module _ (s : Session) (mem p l : List ℕ) (n : ℕ) (why : n ≡ first_of (number s (length mem)) s.answer) where
  is_idle : (n ≡ 0 → ⊥) → idle n s mem ≡ feed s mem p
  unfolding feed
  is_idle w =
      let k = first_of (number s (length mem)) s.answer in
      ap (λ (i : ℕ). idle i s mem) why ∙ ap (λ (b : Bool). cond b (feed_on s mem p) (idle k s mem)) (sym (ne_eqb k 0 (λ z. w (why ∙ z))))

  is_fed : n ≡ 0 → feed_on s mem p ≡ feed s mem p
  unfolding feed
  is_fed z =
      let k = first_of (number s (length mem)) s.answer in
      ap (λ (b : Bool). cond b (feed_on s mem p) (idle k s mem)) (sym (eq-eqb k 0 (sym why ∙ z)))

  pub idle_fed : (n ≡ 0 → ⊥) → ◌≡◌ {A = Fed} (record { answer = n; finished = 0; session = s }) (feed s mem p).fed
  idle_fed w = ap (λ (f : Feeding). f.fed) (is_idle w)

  pub idle_memory : (n ≡ 0 → ⊥) → mem ≡ (feed s mem p).memory
  idle_memory w = ap (λ (f : Feeding). f.memory) (is_idle w)

  pub idle_answers : (n ≡ 0 → ⊥) → l ≡ sets l 0 (feed s mem p).answers
  idle_answers w = ap (λ (f : Feeding). sets l 0 f.answers) (is_idle w)

  ready : n ≡ 0 → (valid s.machine (length mem) ≡ true) × (right s ≡ true)
  ready z =
      let w = number_zero s (length mem) (first_zero _ _ (sym why ∙ z)).0 in
      (passes_valid _ _ w.0, w.1)

  pub ready_valid : n ≡ 0 → valid s.machine (length mem) ≡ true
  ready_valid z = (ready z).0

  pub ready_held : n ≡ 0 → (s.held ≡ 0 → ⊥) → (1 ≤ s.held) × (s.held ≤ most_held)
  ready_held z w = (omega (arith, w), right_held s (ready z).1)

  module _ (z : n ≡ 0) (r : Fed) (mem' out : List ℕ) (is : ◌≡◌ {A = Left} (record { fed = r; memory = mem'; buffer = out }) (left (feed_on s mem p) l 0)) where
    pub all_fed : (r ≡ (feed s mem p).fed) × (mem' ≡ (feed s mem p).memory) × (out ≡ sets l 0 (feed s mem p).answers)
    all_fed = (
      ap (λ (x : Left). x.fed) is ∙ ap (λ (f : Feeding). f.fed) (is_fed z),
      ap (λ (x : Left). x.memory) is ∙ ap (λ (f : Feeding). f.memory) (is_fed z),
      ap (λ (x : Left). x.buffer) is ∙ ap (λ (f : Feeding). sets l 0 f.answers) (is_fed z),
    )

-- where no bytes are held, the piece is all
pub none_held : (s : Session) (mem p l : List ℕ) (x : Left) → s.held ≡ 0 → x ≡ left (did s.count p (ran p s.machine mem)) l 0 → x ≡ left (feed_on s mem p) l 0
none_held s mem p l x z i = laid_fed s mem p l p x (ap (λ (n : ℕ). take n s.bytes ++ p) (sym z)) i

pub ruleset judged = (idle_fed, idle_memory, idle_answers, ready_valid, ready_held)
