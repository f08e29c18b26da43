-- Both round trips: of fields and events, of any layout, and of the tape's reader and writer; and the reader's numbers.
use mathlib.Core.Path.{◌≡◌, refl, sym, ap, subst, ◌∙◌}
use mathlib.Core.Bool.{Bool, true, false, not, cond, ◌&&◌, ◌||◌}
use mathlib.Core.List.{List, [], ◌∷◌, ◌++◌}
use mathlib.Core.Logic.{⊎_elim}
use mathlib.Core.Option.{some, none}
use Prim.Native.Nat.{ℕ, zero, suc, ◌+◌, ◌*◌, ◌/◌, ◌%◌, ◌≤◌, ◌<◌, ◌^◌}
use native.Mathlib.Nat.{eq-or-lt_of_le, le_of_suc-le-suc}
use native.Mathlib.Omega.{arith}
use lib.Dec.{eqb, leb, ltb}
use lib.ListN.{length, take, drop}
use lib.Seq.{take_at, drop_at, take_all, length-sets}
use borrow.Author.Tests.{leb-true, ltb-false, le-ltb, eqb-true, eq-eqb, ne_eqb}
use Rattle.base.specs.Below.{bit}
use Rattle.base.proofs.Below.{and_left, and_right, and_intro, digit_bit}
use Rattle.kinds.specs.Rows.{kind_right, row, used, spans}
use Rattle.event.specs.Event.{fields, fields_of, event_of}
use Rattle.event.specs.declared.Event.{Event}
use Rattle.event.specs.declared.Event.TheVariants.{Tbegin, Tend, Tabort, Tabortwc, Tabortdc, Tsr, Tcheck, Treclaim, Trechkpt, Mtspr, Mfspr, Ld, Std, Addi, Disallowed, Interrupt, Host, Rfid, Mtmsrd, Lbz, Lhz, Lwz, Stb, Sth, Stw, Tlbie}
use Rattle.event.specs.declared.Fields.{Fields}
use Rattle.kinds.specs.declared.Row.{Row}
use Rattle.tape.specs.Tape.{record_size, first_byte, byte, two, four, fields_at, fixed_zero, bytes, unused_clear, judged, of_kind, read, number, values, write}
use Rattle.tape.specs.declared.Read.{Read}
use Rattle.tape.specs.declared.Read.TheVariants.{Record, Refused}
use Rattle.tape.proofs.Laws.{begun_right, over_all}
use Rattle.laws_round.specs.Round.{FieldsFit, Bytes, EventKept, FieldsKept, Layout, Means, laid, LayoutReadsWritten, LayoutWritesRead, LayoutOneRecord, LayoutTurned, LayoutKeepsRest, accepts, ReadsWritten, WritesRead, WritesOver, KeepsRest, OneRecord, PaperRecord, NumbersInOrder, OneMeaning, EditionTwo}

-- ---- what the reader takes

-- a refusal is no record
refused : (n w : ℕ) (e : Event) → Refused n ≡ Record w e → ⊥
refused n w e p = let z : ◌≡◌ {A = ℕ} 0 1 = cc in omega arith

-- a test on the way to a record
pub passed : (b : Bool) (n : ℕ) (r : Read) (w : ℕ) (e : Event) → cond (not b) (Refused n) r ≡ Record w e → (b ≡ true) × (r ≡ Record w e)
passed true n r w e p = (refl, p)
passed false n r w e p = absurd (refused n w e p)

-- what a record that is read has passed; z says that every fixed 0 byte is 0
pub record Taken (f : Fields) (z : Bool) (w : ℕ) (e : Event) : Type 0 where
  pub right : kind_right f.kind ≡ true
  pub fixed : z ≡ true
  pub clear : unused_clear (row f.kind) f ≡ true
  pub thread : f.thread ≡ w
  pub event : event_of f ≡ e

pub taken : (f : Fields) (z : Bool) (w : ℕ) (e : Event) → of_kind f z ≡ Record w e → Taken f z w e
unfolding of_kind judged
taken f z w e p =
    let k = passed (kind_right f.kind) 8 _ w e p in
    let c = passed (z && unused_clear (row f.kind) f) 9 _ w e k.1 in
    let q : Record f.thread (event_of f) ≡ Record w e = c.1 in
    record { right = k.0; fixed = and_left z _ c.0; clear = and_right z _ c.0; thread = cc q; event = cc q }

-- ---- fields and events

-- the fields of an event are taken as that event
pub written : (w : ℕ) (e : Event) → of_kind (fields_of w e) true ≡ Record w e
unfolding kind_right row unused_clear event_of fields_of judged of_kind
written w (Tbegin true) = refl
written w (Tbegin false) = refl
written w (Tend true) = refl
written w (Tend false) = refl
written w (Tabort ra) = refl
written w (Tabortwc to ra rb) = refl
written w (Tabortdc to ra rb) = refl
written w (Tsr true) = refl
written w (Tsr false) = refl
written w (Tcheck bf) = refl
written w (Treclaim ra) = refl
written w Trechkpt = refl
written w (Mtspr spr ra) = refl
written w (Mfspr rt spr) = refl
written w (Ld rt i) = refl
written w (Std ra i) = refl
written w (Addi rt ra si) = refl
written w Disallowed = refl
written w Interrupt = refl
written w (Host true true) = refl
written w (Host true false) = refl
written w (Host false true) = refl
written w (Host false false) = refl
written w Rfid = refl
written w (Mtmsrd true true true true) = refl
written w (Mtmsrd true true true false) = refl
written w (Mtmsrd true true false true) = refl
written w (Mtmsrd true true false false) = refl
written w (Mtmsrd true false true true) = refl
written w (Mtmsrd true false true false) = refl
written w (Mtmsrd true false false true) = refl
written w (Mtmsrd true false false false) = refl
written w (Mtmsrd false true true true) = refl
written w (Mtmsrd false true true false) = refl
written w (Mtmsrd false true false true) = refl
written w (Mtmsrd false true false false) = refl
written w (Mtmsrd false false true true) = refl
written w (Mtmsrd false false true false) = refl
written w (Mtmsrd false false false true) = refl
written w (Mtmsrd false false false false) = refl
written w (Lbz rt a) = refl
written w (Lhz rt a) = refl
written w (Lwz rt a) = refl
written w (Stb ra a) = refl
written w (Sth ra a) = refl
written w (Stw ra a) = refl
written w (Tlbie p) = refl

pub event_kept : EventKept
event_kept w e =
    let t = taken (fields_of w e) true w e (written w e) in
    (t.right, t.clear, t.event)

-- what holds of each number from 1 to n
abbrev Each : (ℕ → Type 0) → ℕ → Type 0
Each P zero = Unit {0}
Each P (suc n) = Each P n × P (suc n)

each_at : (P : ℕ → Type 0) (n k : ℕ) → Each P n → 1 ≤ k → k ≤ n → P k
each_at P zero k ps lo hi = absurd (omega arith)
each_at P (suc n) k ps lo hi =
    ⊎_elim (λ e. rw e ps.1) (λ l. each_at P n k ps.0 lo (le_of_suc-le-suc l)) (eq-or-lt_of_le hi)

-- the two low bits of flags, and the four
abbrev low_two : ℕ → ℕ
low_two n = bit (eqb (n % 2) 1) + 2 * bit (eqb (n / 2 % 2) 1)

abbrev low_four : ℕ → ℕ
low_four n = low_two n + 4 * bit (eqb (n / 4 % 2) 1) + 8 * bit (eqb (n / 8 % 2) 1)

-- the flags that an event keeps, by the largest of its row
abbrev flags_kept : ℕ → ℕ → ℕ
flags_kept most n =
    cond (eqb most 0) 0 (cond (eqb most 1) (bit (eqb n 1)) (cond (eqb most 3) (low_two n) (cond (eqb most 15) (low_four n) n)))

-- what an event keeps of its fields: those that its row uses, and its flags
abbrev kept : Row → ℕ → (w x ra rb n i si : ℕ) → Fields
kept r k w x ra rb n i si =
    fields k w (cond (used r.x) x 0) (cond (used r.ra) ra 0) (cond (used r.rb) rb 0) (flags_kept r.flags n) (cond (spans r.index) i 0) (cond r.si si 0)

abbrev Keeps : ℕ → Type 0
Keeps k = (λ w x ra rb n i si. fields_of w (event_of (fields k w x ra rb n i si))) ≡ kept (row k) k

keeps : Each Keeps 26
unfolding row event_of fields_of
keeps = ((((((((((((((((((((((((((tt, refl), refl), refl), refl), refl), refl), refl), refl), refl), refl), refl), refl), refl), refl), refl), refl), refl), refl), refl), refl), refl), refl), refl), refl), refl), refl)

-- so each kind keeps them
kind_keeps : (k : ℕ) → kind_right k ≡ true → Keeps k
unfolding kind_right
kind_keeps k h = each_at Keeps 26 k keeps (leb-true 1 k (and_left (leb 1 k) _ h)) (leb-true k 26 (and_right (leb 1 k) _ h))

-- what is 0 unless it is used
used_kept : (u : Bool) (v : ℕ) → (u || eqb v 0) ≡ true → cond u v 0 ≡ v
used_kept true v p = refl
used_kept false v p = sym (eqb-true v 0 p)

-- flags of two bits
two_bits : (n : ℕ) → n ≤ 3 → low_two n ≡ n
two_bits zero h = refl
two_bits (suc zero) h = refl
two_bits (suc (suc zero)) h = refl
two_bits (suc (suc (suc zero))) h = refl
two_bits (suc (suc (suc (suc n)))) h = absurd (omega arith)

-- and of four
four_bits : (n : ℕ) → n ≤ 15 → low_four n ≡ n
four_bits zero h = refl
four_bits (suc n) h =
    each_at (λ k. low_four k ≡ k) 15 (suc n)
    (((((((((((((((tt, refl), refl), refl), refl), refl), refl), refl), refl), refl), refl), refl), refl), refl), refl), refl)
    (omega arith) h

flags_back : (most n : ℕ) → n ≤ most → flags_kept most n ≡ n
flags_back most n h = go (eqb most 0) (eqb most 1) (eqb most 3) (eqb most 15) refl refl refl refl
  where
    go : (a b c d : Bool) → eqb most 0 ≡ a → eqb most 1 ≡ b → eqb most 3 ≡ c → eqb most 15 ≡ d
        → cond a 0 (cond b (bit (eqb n 1)) (cond c (low_two n) (cond d (low_four n) n))) ≡ n
    go true b c d p q r s = let z = eqb-true most 0 p in omega arith
    go false true c d p q r s = let z = eqb-true most 1 q in digit_bit n (omega arith)
    go false false true d p q r s = let z = eqb-true most 3 r in two_bits n (omega arith)
    go false false false true p q r s = let z = eqb-true most 15 s in four_bits n (omega arith)
    go false false false false p q r s = refl

-- all six tests of unused_clear
six : (a b c d e g : Bool) → (a && b && c && d && e && g) ≡ true
    → (a ≡ true) × (b ≡ true) × (c ≡ true) × (d ≡ true) × (e ≡ true) × (g ≡ true)
six a b c d e g p =
    let p5 = and_left (a && b && c && d && e) g p in
    let p4 = and_left (a && b && c && d) e p5 in
    let p3 = and_left (a && b && c) d p4 in
    let p2 = and_left (a && b) c p3 in
    (and_left a b p2, and_right a b p2, and_right (a && b) c p3, and_right (a && b && c) d p4, and_right (a && b && c && d) e p5, and_right (a && b && c && d && e) g p)

pub fields_kept : FieldsKept
unfolding unused_clear
fields_kept f right c =
    let k = f.kind in
    let r = row k in
    let p =
    six (used r.x || eqb f.x 0) (used r.ra || eqb f.ra 0) (used r.rb || eqb f.rb 0) (leb f.flags r.flags)
    (spans r.index || eqb f.index 0) (r.si || eqb f.si 0) c in
    let same = kind_keeps k right in
    (λ j. same j f.thread f.x f.ra f.rb f.flags f.index f.si)
    ∙ (λ j. record {
      kind = k;
      thread = f.thread;
      x = used_kept (used r.x) f.x p.0 j;
      ra = used_kept (used r.ra) f.ra p.1 j;
      rb = used_kept (used r.rb) f.rb p.2 j;
      flags = flags_back r.flags f.flags (leb-true _ _ p.3) j;
      index = used_kept (spans r.index) f.index p.4 j;
      si = used_kept r.si f.si p.5 j;
    })

-- fields that are taken are those of what they are taken as
pub taken_kept : (f : Fields) (w : ℕ) (e : Event) → of_kind f true ≡ Record w e → fields_of w e ≡ f
taken_kept f w e p =
    let t = taken f true w e p in
    (λ j. fields_of (sym t.thread j) (sym t.event j)) ∙ fields_kept f t.right t.clear

-- ---- any layout

module _ (l : Layout) (w : ℕ) (e : Event) (buf : List ℕ) where
  abbrev cs : List ℕ
  cs = l.to_bytes (fields_of w e)

  -- a buffer that is long enough
  module _ (h : l.size ≤ length buf) where
    over : laid l w e buf ≡ cs ++ drop l.size buf
    over =
        let n = l.sized (fields_of w e) in
        simp (le-ltb (length buf) l.size h) (over_all buf cs (omega arith) ∙ ap (λ (n : ℕ). cs ++ drop n buf) n)

    front : take l.size (laid l w e buf) ≡ cs
    front = ap (take l.size) over ∙ take_at cs _ l.size (l.sized _)

  rest : (b : Bool) → ltb (length buf) l.size ≡ b → drop l.size (laid l w e buf) ≡ drop l.size buf
  rest true p = simp p
  rest false p = ap (drop l.size) (over (ltb-false _ _ p)) ∙ drop_at cs _ l.size (l.sized _)

  length_kept : (b : Bool) → ltb (length buf) l.size ≡ b → length (laid l w e buf) ≡ length buf
  length_kept true p = simp p
  length_kept false p = simp (p, length-sets)

-- the bytes of an event mean it
pub bytes_mean : (l : Layout) (w : ℕ) (e : Event) → FieldsFit (fields_of w e) → l.takes (fields_of w e) ≡ true → Means l (l.to_bytes (fields_of w e)) w e
bytes_mean l w e fits t = (l.sized _, l.accepted _ t, rw (l.fields_back (fields_of w e) fits) (written w e))

-- the fields of bytes that mean an event, and their bytes
pub meant_fields : (l : Layout) (bs : List ℕ) (w : ℕ) (e : Event) → Means l bs w e → fields_of w e ≡ l.of_bytes bs
meant_fields l bs w e m = taken_kept (l.of_bytes bs) w e m.2

pub meant_bytes : (l : Layout) (bs : List ℕ) (w : ℕ) (e : Event) → Bytes bs → Means l bs w e → l.to_bytes (fields_of w e) ≡ bs
meant_bytes l bs w e h m = ap l.to_bytes (meant_fields l bs w e m) ∙ l.bytes_back bs h m.0 m.1

pub layout_reads_written : LayoutReadsWritten
layout_reads_written l w e buf h fits t = rw (front l w e buf h) (bytes_mean l w e fits t)

pub layout_writes_read : LayoutWritesRead
layout_writes_read l bs w e buf h m long = front l w e buf long ∙ meant_bytes l bs w e h m

pub layout_one_record : LayoutOneRecord
layout_one_record l bs cs w e hb hc p q = sym (meant_bytes l bs w e hb p) ∙ meant_bytes l cs w e hc q

pub layout_turned : LayoutTurned
layout_turned l k bs w e h m t =
    let f = meant_fields l bs w e m in
    (bytes_mean k w e (subst FieldsFit (sym f) (l.fits bs h)) t, ap l.takes f ∙ l.took bs m.1, meant_bytes l bs w e h m)

pub layout_keeps_rest : LayoutKeepsRest
layout_keeps_rest l w e buf = (length_kept l w e buf _ refl, rest l w e buf _ refl)

-- ---- the tape's layout

-- a number of four or two bytes is its bytes, and they are it
pub four_back : (i : ℕ) → i < 2 ^ 32 → four (i / 256 / 256 / 256 % 256) (i / 256 / 256 % 256) (i / 256 % 256) (i % 256) ≡ i
four_back i h = omega arith

pub two_back : (i : ℕ) → i < 2 ^ 16 → two (i / 256 % 256) (i % 256) ≡ i
two_back i h = omega arith

pub four_bytes : (a b c d : ℕ) → a < 256 → b < 256 → c < 256 → d < 256
    → (four a b c d / 256 / 256 / 256 % 256 ≡ a) × (four a b c d / 256 / 256 % 256 ≡ b) × (four a b c d / 256 % 256 ≡ c) × (four a b c d % 256 ≡ d)
four_bytes a b c d ha hb hc hd = (omega arith, omega arith, omega arith, omega arith)

pub two_bytes : (a b : ℕ) → a < 256 → b < 256 → (two a b / 256 % 256 ≡ a) × (two a b % 256 ≡ b)
two_bytes a b ha hb = (omega arith, omega arith)

-- a list by its elements
abbrev pub listed : ℕ → (ℕ → ℕ) → List ℕ
listed zero b = []
listed (suc n) b = b 0 ∷ listed n (λ i. b (suc i))

pub listed_back : (n : ℕ) (bs : List ℕ) → length bs ≡ n → listed n (byte bs) ≡ bs
listed_back zero [] e = refl
listed_back zero (b ∷ bs) e = absurd (omega arith)
listed_back (suc n) [] e = absurd (omega arith)
listed_back (suc n) (b ∷ bs) e = ap (λ (cs : List ℕ). b ∷ cs) (listed_back n bs (omega arith))

pub bytes_back : (bs : List ℕ) → Bytes bs → length bs ≡ record_size → accepts bs ≡ true → bytes (fields_at bs) ≡ bs
unfolding bytes fields_at
bytes_back bs h e a =
    let b = byte bs in
    let z = and_right (eqb (b 0) first_byte) _ a in
    let y = and_left (eqb (b 7) 0 && eqb (b 14) 0) (eqb (b 15) 0) z in
    let first = sym (eqb-true (b 0) _ (and_left (eqb (b 0) first_byte) _ a)) in
    let seven = sym (eqb-true (b 7) 0 (and_left (eqb (b 7) 0) _ y)) in
    let fourteen = sym (eqb-true (b 14) 0 (and_right (eqb (b 7) 0) _ y)) in
    let fifteen = sym (eqb-true (b 15) 0 (and_right (eqb (b 7) 0 && eqb (b 14) 0) _ z)) in
    let i = four_bytes (b 8) (b 9) (b 10) (b 11) (h 8) (h 9) (h 10) (h 11) in
    let s = two_bytes (b 12) (b 13) (h 12) (h 13) in
    (λ j. first j ∷ b 1 ∷ b 2 ∷ b 3 ∷ b 4 ∷ b 5 ∷ b 6 ∷ seven j
    ∷ i.0 j ∷ i.1 j ∷ i.2 j ∷ i.3 j ∷ s.0 j ∷ s.1 j ∷ fourteen j ∷ fifteen j ∷ [])
    ∙ listed_back record_size bs e

pub sized : (f : Fields) → length (bytes f) ≡ record_size
unfolding bytes
sized f = refl

pub accepted : (f : Fields) → accepts (bytes f) ≡ true
unfolding bytes
accepted f = refl

-- bytes in four places and in two are below 2^32 and 2^16
pub four_fits : (a b c d : ℕ) → a < 256 → b < 256 → c < 256 → d < 256 → four a b c d < 2 ^ 32
four_fits a b c d ha hb hc hd = omega arith

pub two_fits : (a b : ℕ) → a < 256 → b < 256 → two a b < 2 ^ 16
two_fits a b ha hb = omega arith

pub fits : (bs : List ℕ) → Bytes bs → FieldsFit (fields_at bs)
unfolding fields_at
fits bs h =
    record {
      kind = h 1;
      thread = h 2;
      x = h 3;
      ra = h 4;
      rb = h 5;
      flags = h 6;
      index = four_fits (byte bs 8) (byte bs 9) (byte bs 10) (byte bs 11) (h 8) (h 9) (h 10) (h 11);
      si = two_fits (byte bs 12) (byte bs 13) (h 12) (h 13);
    }

pub fields_back : (f : Fields) → FieldsFit f → fields_at (bytes f) ≡ f
unfolding bytes fields_at
fields_back f fit =
    λ j. record {
      kind = f.kind;
      thread = f.thread;
      x = f.x;
      ra = f.ra;
      rb = f.rb;
      flags = f.flags;
      index = four_back f.index fit.index j;
      si = two_back f.si fit.si j;
    }

abbrev pub tape : Layout
tape = record {
  size = record_size;
  to_bytes = bytes;
  of_bytes = fields_at;
  takes = λ f. true;
  accepts = accepts;
  sized = sized;
  accepted = λ f t. accepted f;
  took = λ bs a. refl;
  fits = fits;
  fields_back = fields_back;
  bytes_back = bytes_back;
}

-- the reader takes what the layout takes
pub read_means : (bs : List ℕ) (w : ℕ) (e : Event) → read bs ≡ Record w e → Means tape bs w e
unfolding read
read_means bs w e p =
    let l = passed (eqb (length bs) record_size) 6 _ w e p in
    let b = passed (eqb (byte bs 0) first_byte) 7 _ w e l.1 in
    let z = (taken (fields_at bs) (fixed_zero bs) w e b.1).fixed in
    (eqb-true _ _ l.0, and_intro (eqb (byte bs 0) first_byte) _ b.0 z, rw z at b.1)

pub means_read : (bs : List ℕ) (w : ℕ) (e : Event) → Means tape bs w e → read bs ≡ Record w e
means_read bs w e m =
    let b = eqb-true (byte bs 0) first_byte (and_left (eqb (byte bs 0) first_byte) _ m.1) in
    let z = and_right (eqb (byte bs 0) first_byte) _ m.1 in
    begun_right bs m.0 b ∙ ap (of_kind (fields_at bs)) z ∙ m.2

pub reads_written : ReadsWritten
unfolding write
reads_written w e buf h fit = means_read _ w e (layout_reads_written tape w e buf h fit refl)

pub writes_read : WritesRead
unfolding write
writes_read bs w e buf h p long = layout_writes_read tape bs w e buf h (read_means bs w e p) long

pub keeps_rest : KeepsRest
unfolding write
keeps_rest w e buf = layout_keeps_rest tape w e buf

pub writes_over : WritesOver
writes_over bs w e h p =
    let n = (read_means bs w e p).0 in
    sym (take_all record_size _ (omega (arith, (keeps_rest w e bs).0))) ∙ writes_read bs w e bs h p (omega arith)

pub one_record : OneRecord
one_record bs cs w e hb hc p q = layout_one_record tape bs cs w e hb hc (read_means bs w e p) (read_means cs w e q)

pub paper_record : PaperRecord
unfolding bytes fields_of write
paper_record buf h = front tape 0 (Std 3 17) buf h

-- ---- the reader's numbers

number_chosen : (b : Bool) (n : ℕ) (r : Read) → number (cond (not b) (Refused n) r) ≡ cond (not b) n (number r)
number_chosen true n r = refl
number_chosen false n r = refl

pub numbers_in_order : NumbersInOrder
unfolding read of_kind judged fields_at
numbers_in_order bs = simp number_chosen

-- an answer has values if its number is 0, and no other has
abbrev pub Meant : ℕ × Event → Read → Type 0
Meant v r = values r ≡ cond (eqb (number r) 0) (some v) none

meant : (v : ℕ × Event) (b : Bool) (n : ℕ) (r : Read) → eqb n 0 ≡ false → Meant v r → Meant v (cond (not b) (Refused n) r)
meant v true n r z p = p
meant v false n r z p = simp z

pub of_kind_meant : (f : Fields) (z : Bool) → Meant (f.thread, event_of f) (of_kind f z)
unfolding of_kind judged
of_kind_meant f z =
    meant _ (kind_right f.kind) 8 _ refl (meant _ (z && unused_clear (row f.kind) f) 9 _ refl refl)

pub one_meaning : OneMeaning
unfolding read fields_at
one_meaning bs =
    meant _ (eqb (length bs) record_size) 6 _ refl
    (meant _ (eqb (byte bs 0) first_byte) 7 _ refl (of_kind_meant (fields_at bs) (fixed_zero bs)))

-- so no refusal is 0
pub not_0 : (v : ℕ × Event) (r : Read) (n : ℕ) → Meant v r → r ≡ Refused n → n ≡ 0 → ⊥
not_0 v r n m p z =
    let q : Meant v (Refused 0) = subst (Meant v) (p ∙ ap Refused z) m in
    let o : ◌≡◌ {A = ℕ} 0 1 = cc q in
    omega arith

pub edition_two : EditionTwo
unfolding read
edition_two bs l h = rw (eq-eqb (length bs) record_size l, ne_eqb (byte bs 0) first_byte (λ p. omega arith))
