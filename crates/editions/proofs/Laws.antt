-- What the definitions of the editions say: of a record's tests, of the first bad record, and of records turned and laid one behind another.
use mathlib.Core.Path.{◌≡◌, refl, ap, ◌∙◌}
use mathlib.Core.Bool.{Bool, true, false, not, cond, ◌&&◌}
use mathlib.Core.List.{List, [], ◌∷◌, ◌++◌}
use Prim.Native.Nat.{ℕ, zero, suc, ◌+◌, ◌*◌, ◌<◌}
use native.Mathlib.Omega.{arith}
use lib.Dec.{eqb, leb}
use lib.ListN.{length, get_or, set, length-append}
use lib.Seq.{sets}
use Rattle.event.specs.Event.{fields_of}
use Rattle.event.specs.declared.Event.{Event}
use Rattle.event.specs.declared.Fields.{Fields}
use Rattle.kinds.specs.Rows.{kind_right, row}
use Rattle.tape.specs.Tape as three
use Rattle.tape.specs.Tape.{record_size, first_byte, byte, unused_clear, judged, of_kind, record_at}
use Rattle.std.specs.Simd.{first_chunks}
use Rattle.tape.specs.FirstBad.{first_bad}
use Rattle.tape.proofs.FirstBad.{each_good, chunk_is}
use Rattle.tape.specs.declared.Read.{Read}
use Rattle.tape.specs.declared.Read.TheVariants.{Record, Refused}
use Rattle.edition_two.specs.Two as two
use Rattle.edition_two.specs.Two.{last_thread, last_kind}
use Rattle.editions.specs.Editions.{other, read, bytes, turned_number, number, turned_bytes, turned, all_turned}
use Rattle.editions.specs.declared.Edition.{Edition}
use Rattle.editions.specs.declared.Edition.TheVariants.{Two, Three}

-- ---- no refusal is 0

abbrev pub Told : Read → Type 0
Told (Record w e) = Unit {0}
Told (Refused n) = n ≡ 0 → ⊥

tested : (b : Bool) (n : ℕ) (r : Read) → (n ≡ 0 → ⊥) → Told r → Told (cond (not b) (Refused n) r)
tested true n r h p = p
tested false n r h p = h

of_kind_told : (f : Fields) (z : Bool) → Told (of_kind f z)
unfolding of_kind judged
of_kind_told f z = tested (kind_right f.kind) 8 _ (λ e. omega arith) (tested (z && unused_clear (row f.kind) f) 9 _ (λ e. omega arith) tt)

pub read_told : (d : Edition) (bs : List ℕ) → Told (read d bs)
unfolding read two.read three.read
read_told Two bs =
    tested (eqb (length bs) record_size) 6 _ (λ e. omega arith)
    (tested (leb (byte bs 0) last_thread) 7 _ (λ e. omega arith)
    (tested (leb (byte bs 1) last_kind) 8 _ (λ e. omega arith) (of_kind_told (two.fields_at bs) (two.fixed_zero bs))))
read_told Three bs =
    tested (eqb (length bs) record_size) 6 _ (λ e. omega arith)
    (tested (eqb (byte bs 0) first_byte) 7 _ (λ e. omega arith) (of_kind_told (three.fields_at bs) (three.fixed_zero bs)))

-- a record that can be turned is one
pub record_of : (d : Edition) (bs : List ℕ) → number d bs ≡ 0 → (w : ℕ) × (e : Event) × (read d bs ≡ Record w e)
unfolding number
record_of d bs z = go (read d bs) (read_told d bs) refl z
  where
    go : (r : Read) → Told r → read d bs ≡ r → turned_number d r ≡ 0 → (w : ℕ) × (e : Event) × (read d bs ≡ Record w e)
    go (Record w e) t p q = (w, e, p)
    go (Refused n) t p q = absurd (t q)

-- ---- records turned

pub length_bytes : (d : Edition) (f : Fields) → length (bytes d f) ≡ record_size
unfolding bytes two.bytes three.bytes
length_bytes Two f = refl
length_bytes Three f = refl

pub length_turned : (d : Edition) (bs : List ℕ) → number d bs ≡ 0 → length (turned d bs) ≡ record_size
unfolding turned
length_turned d bs z =
    let r = record_of d bs z in
    ap (λ (x : Read). length (turned_bytes d x)) r.2 ∙ length_bytes (other d) (fields_of r.0 r.1)

pub length_all_turned : (d : Edition) (tape : List ℕ) (n : ℕ) → ((i : ℕ) → i < n → number d (record_at tape i) ≡ 0) → length (all_turned d tape n) ≡ record_size * n
unfolding all_turned
length_all_turned d tape zero g = refl
length_all_turned d tape (suc n) g =
    let a = length_all_turned d tape n (λ i h. g i (omega arith)) in
    let b = length_turned d (record_at tape n) (g n (omega arith)) in
    length-append (all_turned d tape n) (turned d (record_at tape n)) ∙ omega (arith, a, b)

-- bytes laid behind others
pub sets_behind : (l : List ℕ) (i : ℕ) (xs ys : List ℕ) → sets (sets l i xs) (i + length xs) ys ≡ sets l i (xs ++ ys)
sets_behind l i [] ys = let e : i + 0 ≡ i = omega arith in ap (λ (n : ℕ). sets l n ys) e
sets_behind l i (x ∷ xs) ys =
    let e : i + suc (length xs) ≡ suc i + length xs = omega arith in
    ap (λ (n : ℕ). sets (sets (set l i x) (suc i) xs) n ys) e ∙ sets_behind (set l i x) (suc i) xs ys

-- records turned and laid one behind another: none, and one more
pub none_turned : (d : Edition) (tape buf : List ℕ) → sets buf 0 (all_turned d tape 0) ≡ buf
unfolding all_turned
none_turned d tape buf = refl

pub one_more : (d : Edition) (tape buf : List ℕ) (n k : ℕ) → (first_bad (number d) tape 0 n).answer ≡ 0 → k < n
    → sets (sets buf 0 (all_turned d tape k)) (k * record_size) (turned d (get_or (first_chunks record_size n tape) k [])) ≡ sets buf 0 (all_turned d tape (k + 1))
unfolding all_turned
one_more d tape buf n k z h =
    let l = length_all_turned d tape k (λ i g. each_good (number d) tape n i z (omega arith)) in
    let e : k * record_size ≡ 0 + length (all_turned d tape k) = omega arith in
    let m : suc k ≡ k + 1 = omega arith in
    (λ j. sets (sets buf 0 (all_turned d tape k)) (e j) (turned d (chunk_is tape n k h j)))
    ∙ sets_behind buf 0 (all_turned d tape k) (turned d (record_at tape k))
    ∙ ap (λ (i : ℕ). sets buf 0 (all_turned d tape i)) m
