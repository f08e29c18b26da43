-- The bytes of a part, of what is placed and of what is merged, each over the width.
use mathlib.Core.Path.{◌≡◌, refl, sym, ap, ◌∙◌}
use mathlib.Core.Bool.{Bool, true, false, cond, beq}
use Prim.Native.Nat.{ℕ, ◌+◌, ◌-◌, ◌*◌, ◌/◌, ◌%◌, ◌^◌, ◌≤◌, ◌<◌}
use native.Mathlib.Nat.{zero-add, mod-lt, mod-eq_of_lt, div-one, mul-one, lt_of_lt_of_le, div-eq_of_lt}
use native.Mathlib.Omega.{arith}
use lib.Pow.{pow_pos, pow_mono, shl-shr, shr-shr, mod-mod-pow, field}
use lib.Dec.{leb, ltb}
use borrow.Author.Tests.{ltb-true, ltb-false, leb-true}
use Rattle.base.specs.Below.{all_below}
use Rattle.base.proofs.Below.{all_at, and_left, and_right}
use Rattle.lines.specs.Lines.{place}
use Rattle.doubleword.specs.Doubleword.{bytes, byte, merged, part, marks_of, placed}
use Rattle.doubleword.proofs.Laws.{merged_byte}
use Rattle.laws_bytes.specs.Bytes.{among, ReadAfterWrite, Wholes}

-- ---- parts

-- byte i of a part is byte j + i of the whole
pub part_byte : (j w v i : ℕ) → i < w → byte (part j w v) i ≡ byte v (j + i)
unfolding byte part
part_byte j w v i h =
    let x = v / 2 ^ (8 * j) in
    let e : 8 * w ≡ 8 * w - (8 + 8 * i) + (8 + 8 * i) = omega arith in
    let f : 8 * j + 8 * i ≡ 8 * (j + i) = omega arith in
    sym (field (x % 2 ^ (8 * w)) 8 (8 * i))
    ∙ ap (λ (k : ℕ). x % 2 ^ k % 2 ^ (8 + 8 * i) / 2 ^ (8 * i)) e
    ∙ ap (λ (y : ℕ). y / 2 ^ (8 * i)) (mod-mod-pow x (8 * w - (8 + 8 * i)) (8 + 8 * i))
    ∙ field x 8 (8 * i)
    ∙ ap (λ (y : ℕ). y % 256) (shr-shr v (8 * j) (8 * i))
    ∙ ap (λ (k : ℕ). v / 2 ^ k % 256) f

-- above the part are zeros
pub part_above : (j w v i : ℕ) → w ≤ i → byte (part j w v) i ≡ 0
unfolding byte part
part_above j w v i h =
    ap (λ (y : ℕ). y % 256)
    (div-eq_of_lt (lt_of_lt_of_le (mod-lt (v / 2 ^ (8 * j)) (pow_pos (8 * w))) (pow_mono {i = 8 * w} {j = 8 * i} (omega arith))))

-- ---- what is placed

-- byte i of what is placed from k on, at byte k + i
pub placed_byte : (k u x i : ℕ) → i < u → byte (placed k u x) (k + i) ≡ byte x i
unfolding byte part placed
placed_byte k u x i h =
    let f : 8 * (k + i) ≡ 8 * k + 8 * i = omega arith in
    ap (λ (n : ℕ). x % 2 ^ (8 * u) * 2 ^ (8 * k) / 2 ^ n % 256) f
    ∙ ap (λ (y : ℕ). y % 256) (sym (shr-shr (x % 2 ^ (8 * u) * 2 ^ (8 * k)) (8 * k) (8 * i)))
    ∙ ap (λ (y : ℕ). y / 2 ^ (8 * i) % 256) (shl-shr (x % 2 ^ (8 * u)) (8 * k))
    ∙ ap (λ (y : ℕ). y % 2 ^ (8 * u) / 2 ^ (8 * i) % 256) (sym (div-one x))
    ∙ part_byte 0 u x i h
    ∙ ap (byte x) (zero-add i)

-- ---- marks

-- the marks of u bytes from k on: by computation, each within the eight
marks_at : ℕ → ℕ → ℕ → Bool
marks_at k u n = beq (place (marks_of k u) n) (among k u n)

all_marks_right : all_below (λ k. all_below (λ u. all_below (marks_at k u) 8) 9) 9 ≡ true
unfolding all_below marks_at place
all_marks_right = refl

beq_true : (a b : Bool) → beq a b ≡ true → a ≡ b
beq_true true true e = refl
beq_true true false e = sym e
beq_true false true e = e
beq_true false false e = refl

pub marks_are : (k u n : ℕ) → k + u ≤ bytes → n < bytes → place (marks_of k u) n ≡ among k u n
unfolding marks_at
marks_are k u n h l =
    beq_true _ _
    (all_at (marks_at k u) 8 n
    (all_at (λ y. all_below (marks_at k y) 8) 9 u
    (all_at (λ y. all_below (λ z. all_below (marks_at y z) 8) 9) 9 k all_marks_right (omega arith)) (omega arith)) l)

-- ---- what is read after what was written

-- a byte of the doubleword after the write
pub written_byte : (k u old x n : ℕ) → k + u ≤ bytes → n < bytes
    → byte (merged (marks_of k u) old (placed k u x)) n ≡ cond (among k u n) (byte x (n - k)) (byte old n)
written_byte k u old x n h l =
    merged_byte (marks_of k u) old (placed k u x) n l
    ∙ ap (λ (b : Bool). cond b (byte (placed k u x) n) (byte old n)) (marks_are k u n h l)
    ∙ go (among k u n) refl
  where
    go : (b : Bool) → among k u n ≡ b → cond b (byte (placed k u x) n) (byte old n) ≡ cond b (byte x (n - k)) (byte old n)
    go false e = refl
    go true e =
        let low : k ≤ n = leb-true k n (and_left (leb k n) (ltb n (k + u)) e) in
        let high : n < k + u = ltb-true n (k + u) (and_right (leb k n) (ltb n (k + u)) e) in
        let q : n ≡ k + (n - k) = omega arith in
        ap (byte (placed k u x)) q ∙ placed_byte k u x (n - k) (omega arith)

pub read_after_write : ReadAfterWrite
read_after_write j w k u old x i h g = go (ltb i w) refl
  where
    now : ℕ
    now = merged (marks_of k u) old (placed k u x)

    go : (b : Bool) → ltb i w ≡ b → byte (part j w now) i ≡ cond b (cond (among k u (j + i)) (byte x (j + i - k)) (byte old (j + i))) 0
    go true e =
        let l : i < w = ltb-true i w e in
        part_byte j w now i l ∙ written_byte k u old x (j + i) g (omega arith)
    go false e = part_above j w now i (ltb-false i w e)

-- ---- the eight-byte case

eight_in : (i : ℕ) → 8 * i / 8 ≡ i
eight_in i = omega arith

eight_low : (i : ℕ) → 8 - 8 - 8 * i % 8 ≡ 0
eight_low i = omega arith

whole_taken : (v : ℕ) → v < 2 ^ 64 → part 0 bytes v ≡ v
unfolding part
whole_taken v h = ap (λ (y : ℕ). y % 2 ^ 64) (div-one v) ∙ mod-eq_of_lt h

whole_stored : (x : ℕ) → x < 2 ^ 64 → placed 0 bytes x ≡ x
unfolding placed
whole_stored x h = mul-one (x % 2 ^ 64) ∙ mod-eq_of_lt h

pub wholes : Wholes
wholes =
    record {
      in_its_doubleword = eight_in;
      from_the_lowest = eight_low;
      all_marked = refl;
      whole_taken = whole_taken;
      whole_stored = whole_stored;
      ld_narrow = λ s t rt i mem. rw (eight_in, eight_low);
      std_narrow = λ s t x i h. rw (eight_in, eight_low, whole_stored);
    }
