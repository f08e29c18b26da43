-- What the reader's tests tell: its first two, and its match on the kind; a tape's record as code takes it; bytes laid over a buffer's start.
use mathlib.Core.Path.{◌≡◌, refl, ◌∙◌}
use mathlib.Core.Bool.{Bool, true, false, not, cond, ◌&&◌}
use mathlib.Core.List.{List, ◌++◌}
use Prim.Native.Nat.{ℕ, ◌+◌, ◌-◌, ◌*◌, ◌<◌, ◌≤◌}
use native.Mathlib.Omega.{arith}
use native.Mathlib.Nat.{zero-add}
use lib.ListN.{length, take, drop}
use lib.Seq.{sets, sets-eq}
use borrow.Author.Tests.{le-leb, lt-leb, eq-eqb, eqb-true}
use lib.Dec.{eqb}
use Rattle.event.specs.Event.{event_of}
use Rattle.kinds.specs.Rows.{kind_right, row}
use Rattle.event.specs.declared.Fields.{Fields}
use Rattle.tape.specs.Tape.{record_size, first_byte, byte, record_at, fields_at, fixed_zero, unused_clear, judged, of_kind, read, number}
use Rattle.tape.specs.declared.Read.{Read}
use Rattle.tape.specs.declared.Read.TheVariants.{Record, Refused}

-- a record of the right length that begins right is read by its kind
pub begun_right : (bs : List ℕ) → length bs ≡ record_size → byte bs 0 ≡ first_byte → read bs ≡ of_kind (fields_at bs) (fixed_zero bs)
unfolding read
begun_right bs l b = rw (eq-eqb (length bs) record_size l, eq-eqb (byte bs 0) first_byte b)

-- the kinds, and the numbers that are none
pub kind_in : (k : ℕ) → 1 ≤ k → k ≤ 26 → kind_right k ≡ true
unfolding kind_right
kind_in k lo hi = simp (le-leb 1 k lo, le-leb k 26 hi)

pub kind_low : (k : ℕ) → k < 1 → kind_right k ≡ false
unfolding kind_right
kind_low k h = simp (lt-leb 1 k h)

pub kind_high : (k : ℕ) → 26 < k → kind_right k ≡ false
unfolding kind_right
kind_high k h = let l : 1 ≤ k = omega arith in simp (le-leb 1 k l, lt-leb k 26 h)

-- fields of a kind are judged by its row
pub of_a_kind : (f : Fields) (zero : Bool) (r : Read) → kind_right f.kind ≡ true
    → r ≡ judged f (zero && unused_clear (row f.kind) f) → r ≡ of_kind f zero
unfolding of_kind
of_a_kind f zero r h p = p ∙ simp h

-- a record that has no number is of the right length, and its fields tell its thread and its event
pub taken : (bs : List ℕ) → number (read bs) ≡ 0 → (length bs ≡ record_size) × (read bs ≡ Record (fields_at bs).thread (event_of (fields_at bs)))
unfolding read of_kind judged
taken bs = go (eqb (length bs) record_size) refl (eqb (byte bs 0) first_byte) (kind_right (fields_at bs).kind) (fixed_zero bs && unused_clear (row (fields_at bs).kind) (fields_at bs))
  where
    go : (a : Bool) → eqb (length bs) record_size ≡ a → (b c d : Bool)
        → let r = cond (not a) (Refused 6) (cond (not b) (Refused 7) (cond (not c) (Refused 8) (cond (not d) (Refused 9) (Record (fields_at bs).thread (event_of (fields_at bs)))))) in
        number r ≡ 0 → (length bs ≡ record_size) × (r ≡ Record (fields_at bs).thread (event_of (fields_at bs)))
    go true e true true true z = (eqb-true _ _ e, refl)
    go true e true true false z = absurd (omega (arith, z))
    go true e true false d z = absurd (omega (arith, z))
    go true e false c d z = absurd (omega (arith, z))
    go false e b c d z = absurd (omega (arith, z))

-- the reader refuses by no 0
pub refusal_number : (bs : List ℕ) → read bs ≡ Refused 0 → ⊥
unfolding read of_kind judged
refusal_number bs =
    go (eqb (length bs) record_size) (eqb (byte bs 0) first_byte) (kind_right (fields_at bs).kind) (fixed_zero bs && unused_clear (row (fields_at bs).kind) (fields_at bs))
  where
    go : (a b c d : Bool)
        → cond (not a) (Refused 6) (cond (not b) (Refused 7) (cond (not c) (Refused 8) (cond (not d) (Refused 9) (Record (fields_at bs).thread (event_of (fields_at bs)))))) ≡ Refused 0
        → ⊥
    go true true true true z = let o : ◌≡◌ {A = ℕ} 0 1 = cc in omega arith
    go true true true false z = let o : ◌≡◌ {A = ℕ} 9 0 = cc in omega arith
    go true true false d z = let o : ◌≡◌ {A = ℕ} 8 0 = cc in omega arith
    go true false c d z = let o : ◌≡◌ {A = ℕ} 7 0 = cc in omega arith
    go false b c d z = let o : ◌≡◌ {A = ℕ} 6 0 = cc in omega arith

-- a record of a tape as the code takes it
pub part_is : (tape : List ℕ) (k : ℕ) → take (k * record_size + record_size - k * record_size) (drop (k * record_size) tape) ≡ record_at tape k
part_is tape k =
    let a : k * record_size + record_size - k * record_size ≡ record_size = omega arith in
    let b : k * record_size ≡ record_size * k = omega arith in
    λ j. take (a j) (drop (b j) tape)

-- bytes laid over a buffer's start
pub over_all : (buf cs : List ℕ) → length cs ≤ length buf → sets buf 0 cs ≡ cs ++ drop (length cs) buf
over_all buf cs h = simp zero-add at (sets-eq cs buf 0 (omega arith))
