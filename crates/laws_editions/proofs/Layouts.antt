-- The layouts of the two editions: what each reader takes and each writer writes is what its layout says.
use mathlib.Core.Path.{◌≡◌, refl, sym, ap, subst, ◌∙◌}
use mathlib.Core.Bool.{Bool, true, ◌&&◌}
use mathlib.Core.List.{List, [], ◌∷◌}
use Prim.Native.Nat.{ℕ}
use lib.Dec.{eqb, leb, ltb}
use lib.ListN.{length}
use borrow.Author.Tests.{leb-true, ltb-false, le-leb, le-ltb, eqb-true}
use Rattle.base.proofs.Below.{and_left, and_right, and_intro, no_number}
use Rattle.event.specs.Event.{kind, fields_of}
use Rattle.event.specs.declared.Event.{Event}
use Rattle.event.specs.declared.Event.TheVariants.{Tbegin, Tend, Tabort, Tabortwc, Tabortdc, Tsr, Tcheck, Treclaim, Trechkpt, Mtspr, Mfspr, Ld, Std, Addi, Disallowed, Interrupt, Host, Rfid, Mtmsrd, Lbz, Lhz, Lwz, Stb, Sth, Stw, Tlbie}
use Rattle.event.specs.declared.Fields.{Fields}
use Rattle.tape.specs.Tape.{record_size, byte, of_kind}
use Rattle.tape.specs.declared.Read.TheVariants.{Record}
use Rattle.edition_two.specs.Two as two
use Rattle.edition_two.specs.Two.{last_thread, last_kind}
use Rattle.editions.specs.Editions.{read, bytes, no_record}
use Rattle.editions.specs.declared.Edition.{Edition}
use Rattle.editions.specs.declared.Edition.TheVariants.{Two, Three}
use Rattle.edition_two.proofs.Laws.{begun_right}
use Rattle.laws_round.specs.Round.{FieldsFit, Bytes, Layout, Means}
use Rattle.laws_round.proofs.Round.{passed, taken, written, bytes_mean, meant_fields, meant_bytes, four_back, two_back, four_bytes, two_bytes, four_fits, two_fits, listed_back, tape, read_means, means_read}

-- ---- edition two

-- the fields that edition two has a record for
abbrev pub takes : Fields → Bool
takes f = leb f.thread last_thread && leb f.kind last_kind

abbrev pub accepts : List ℕ → Bool
accepts bs = leb (byte bs 0) last_thread && leb (byte bs 1) last_kind && two.fixed_zero bs

pub sized : (f : Fields) → length (two.bytes f) ≡ record_size
unfolding two.bytes
sized f = refl

pub accepted : (f : Fields) → takes f ≡ true → accepts (two.bytes f) ≡ true
unfolding two.bytes
accepted f t = and_intro (takes f) true t refl

pub took : (bs : List ℕ) → accepts bs ≡ true → takes (two.fields_at bs) ≡ true
unfolding two.fields_at
took bs a = and_left (leb (byte bs 0) last_thread && leb (byte bs 1) last_kind) (two.fixed_zero bs) a

pub fits : (bs : List ℕ) → Bytes bs → FieldsFit (two.fields_at bs)
unfolding two.fields_at
fits bs h =
    record {
      kind = h 1;
      thread = h 0;
      x = h 2;
      ra = h 3;
      rb = h 4;
      flags = h 5;
      index = four_fits (byte bs 11) (byte bs 10) (byte bs 9) (byte bs 8) (h 11) (h 10) (h 9) (h 8);
      si = two_fits (byte bs 7) (byte bs 6) (h 7) (h 6);
    }

pub fields_back : (f : Fields) → FieldsFit f → two.fields_at (two.bytes f) ≡ f
unfolding two.bytes two.fields_at
fields_back f fit =
    λ j. record {
      kind = f.kind;
      thread = f.thread;
      x = f.x;
      ra = f.ra;
      rb = f.rb;
      flags = f.flags;
      index = four_back f.index fit.index j;
      si = two_back f.si fit.si j;
    }

pub bytes_back : (bs : List ℕ) → Bytes bs → length bs ≡ record_size → accepts bs ≡ true → two.bytes (two.fields_at bs) ≡ bs
unfolding two.bytes two.fields_at
bytes_back bs h e a =
    let b = byte bs in
    let z = and_right (leb (b 0) last_thread && leb (b 1) last_kind) (two.fixed_zero bs) a in
    let y = and_left (eqb (b 12) 0 && eqb (b 13) 0 && eqb (b 14) 0) (eqb (b 15) 0) z in
    let x = and_left (eqb (b 12) 0 && eqb (b 13) 0) (eqb (b 14) 0) y in
    let twelve = sym (eqb-true (b 12) 0 (and_left (eqb (b 12) 0) (eqb (b 13) 0) x)) in
    let thirteen = sym (eqb-true (b 13) 0 (and_right (eqb (b 12) 0) (eqb (b 13) 0) x)) in
    let fourteen = sym (eqb-true (b 14) 0 (and_right (eqb (b 12) 0 && eqb (b 13) 0) (eqb (b 14) 0) y)) in
    let fifteen = sym (eqb-true (b 15) 0 (and_right (eqb (b 12) 0 && eqb (b 13) 0 && eqb (b 14) 0) (eqb (b 15) 0) z)) in
    let i = four_bytes (b 11) (b 10) (b 9) (b 8) (h 11) (h 10) (h 9) (h 8) in
    let s = two_bytes (b 7) (b 6) (h 7) (h 6) in
    (λ j. b 0 ∷ b 1 ∷ b 2 ∷ b 3 ∷ b 4 ∷ b 5 ∷ s.1 j ∷ s.0 j
    ∷ i.3 j ∷ i.2 j ∷ i.1 j ∷ i.0 j ∷ twelve j ∷ thirteen j ∷ fourteen j ∷ fifteen j ∷ [])
    ∙ listed_back record_size bs e

abbrev pub older : Layout
older = record {
  size = record_size;
  to_bytes = two.bytes;
  of_bytes = two.fields_at;
  takes = takes;
  accepts = accepts;
  sized = sized;
  accepted = accepted;
  took = took;
  fits = fits;
  fields_back = fields_back;
  bytes_back = bytes_back;
}

-- the reader takes what the layout takes
two_means : (bs : List ℕ) (w : ℕ) (e : Event) → two.read bs ≡ Record w e → Means older bs w e
unfolding two.read
two_means bs w e p =
    let l = passed (eqb (length bs) record_size) 6 _ w e p in
    let t = passed (leb (byte bs 0) last_thread) 7 _ w e l.1 in
    let k = passed (leb (byte bs 1) last_kind) 8 _ w e t.1 in
    let z = (taken (two.fields_at bs) (two.fixed_zero bs) w e k.1).fixed in
    (eqb-true _ _ l.0, and_intro (leb (byte bs 0) last_thread && leb (byte bs 1) last_kind) _ (and_intro (leb (byte bs 0) last_thread) _ t.0 k.0) z, rw z at k.1)

means_two : (bs : List ℕ) (w : ℕ) (e : Event) → Means older bs w e → two.read bs ≡ Record w e
means_two bs w e m =
    let tk = and_left (leb (byte bs 0) last_thread && leb (byte bs 1) last_kind) (two.fixed_zero bs) m.1 in
    let t = leb-true _ _ (and_left (leb (byte bs 0) last_thread) _ tk) in
    let k = leb-true _ _ (and_right (leb (byte bs 0) last_thread) _ tk) in
    let z = and_right (leb (byte bs 0) last_thread && leb (byte bs 1) last_kind) _ m.1 in
    begun_right bs m.0 t k ∙ ap (of_kind (two.fields_at bs)) z ∙ m.2

-- ---- an edition's layout

abbrev pub layout : Edition → Layout
layout Two = older
layout Three = tape

pub means : (d : Edition) (bs : List ℕ) (w : ℕ) (e : Event) → read d bs ≡ Record w e → Means (layout d) bs w e
unfolding read
means Two bs w e p = two_means bs w e p
means Three bs w e p = read_means bs w e p

pub is_read : (d : Edition) (bs : List ℕ) (w : ℕ) (e : Event) → Means (layout d) bs w e → read d bs ≡ Record w e
unfolding read
is_read Two bs w e m = means_two bs w e m
is_read Three bs w e m = means_read bs w e m

pub its_bytes : (d : Edition) (f : Fields) → bytes d f ≡ (layout d).to_bytes f
unfolding bytes
its_bytes Two f = refl
its_bytes Three f = refl

-- ---- the events that an edition has a record for

same_kind : (w : ℕ) (e : Event) → (fields_of w e).kind ≡ kind e
unfolding kind fields_of
same_kind w (Tbegin r) = refl
same_kind w (Tend a) = refl
same_kind w (Tabort ra) = refl
same_kind w (Tabortwc to ra rb) = refl
same_kind w (Tabortdc to ra rb) = refl
same_kind w (Tsr l) = refl
same_kind w (Tcheck bf) = refl
same_kind w (Treclaim ra) = refl
same_kind w Trechkpt = refl
same_kind w (Mtspr spr ra) = refl
same_kind w (Mfspr rt spr) = refl
same_kind w (Ld rt i) = refl
same_kind w (Std ra i) = refl
same_kind w (Addi rt ra si) = refl
same_kind w Disallowed = refl
same_kind w Interrupt = refl
same_kind w (Host pr tm) = refl
same_kind w Rfid = refl
same_kind w (Mtmsrd t s tm pr) = refl
same_kind w (Lbz rt a) = refl
same_kind w (Lhz rt a) = refl
same_kind w (Lwz rt a) = refl
same_kind w (Stb ra a) = refl
same_kind w (Sth ra a) = refl
same_kind w (Stw ra a) = refl
same_kind w (Tlbie p) = refl

same_thread : (w : ℕ) (e : Event) → (fields_of w e).thread ≡ w
same_thread w e = (taken (fields_of w e) true w e (written w e)).thread

pub has : (d : Edition) (w : ℕ) (e : Event) → no_record d w e ≡ 0 → (layout d).takes (fields_of w e) ≡ true
unfolding no_record
has Two w e z =
    let t = no_number (ltb last_thread w) 2 _ z in
    let k = no_number (ltb last_kind (kind e)) 7 _ t.1 in
    (λ j. leb (same_thread w e j) last_thread && leb (same_kind w e j) last_kind)
    ∙ and_intro (leb w last_thread) _ (le-leb w last_thread (ltb-false _ _ t.0)) (le-leb (kind e) last_kind (ltb-false _ _ k.0))
has Three w e z = refl

pub has_none : (d : Edition) (w : ℕ) (e : Event) → (layout d).takes (fields_of w e) ≡ true → no_record d w e ≡ 0
unfolding no_record
has_none Two w e t =
    let u = sym (λ j. leb (same_thread w e j) last_thread && leb (same_kind w e j) last_kind) ∙ t in
    let a = leb-true _ _ (and_left (leb w last_thread) (leb (kind e) last_kind) u) in
    let b = leb-true _ _ (and_right (leb w last_thread) (leb (kind e) last_kind) u) in
    simp (le-ltb last_thread w a, le-ltb last_kind (kind e) b)
has_none Three w e t = refl

-- ---- one record

-- the bytes of an event are read as it
pub record_read : (d : Edition) (w : ℕ) (e : Event) → no_record d w e ≡ 0 → FieldsFit (fields_of w e) → read d (bytes d (fields_of w e)) ≡ Record w e
record_read d w e z fit =
    ap (read d) (its_bytes d (fields_of w e)) ∙ is_read d ((layout d).to_bytes (fields_of w e)) w e (bytes_mean (layout d) w e fit (has d w e z))

module _ (d : Edition) (bs : List ℕ) (w : ℕ) (e : Event) (h : Bytes bs) (p : read d bs ≡ Record w e) where
  -- a record that is read is its event's, and its event has one
  pub record_bytes : bytes d (fields_of w e) ≡ bs
  record_bytes = its_bytes d (fields_of w e) ∙ meant_bytes (layout d) bs w e h (means d bs w e p)

  pub record_has : no_record d w e ≡ 0
  record_has =
      let m = means d bs w e p in
      has_none d w e (ap (layout d).takes (meant_fields (layout d) bs w e m) ∙ (layout d).took bs m.1)

  pub record_fits : FieldsFit (fields_of w e)
  record_fits = subst FieldsFit (sym (meant_fields (layout d) bs w e (means d bs w e p))) ((layout d).fits bs h)
