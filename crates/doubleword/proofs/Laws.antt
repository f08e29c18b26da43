-- Laws of the bytes of a doubleword: a number is its bytes, and what merging, placing and taking a part leave at each byte.
use mathlib.Core.Path.{◌≡◌, refl, sym, ap, ◌∙◌}
use mathlib.Core.Bool.{Bool, true, false, cond, ◌&&◌, ◌||◌, true≢false}
use Prim.Native.Nat.{ℕ, zero, suc, ◌+◌, ◌-◌, ◌*◌, ◌/◌, ◌%◌, ◌^◌, ◌≤◌, ◌<◌}
use native.Mathlib.Nat.{mod-lt, mod-eq_of_lt, mod-one, lt_of_le_of_lt, lt_of_lt_of_le, one-mul, mul-pos, zero-div, add_comm, not-suc-le-zero}
use native.Mathlib.Decide.{ℕ_discrete}
use native.Mathlib.Omega.{arith}
use lib.Arith.{digits_lt, digits_div}
use lib.Pow.{pow_pos, pow_mono, pow-lt, pow-add, shl_lt, shl_exact, ones_lt, mod-pow-add, mod-mod-pow, field, low}
use lib.Bits.{bit_and, bit_or, and_shr, and_mod, and_mask, and_le_l, and_zero_r, or_shr, or_mod, or_lt, or_zero_l, or_zero_r}
use lib.Dec.{eqb, lit<}
use borrow.Author.Tests.{eq-eqb, ne_eqb, eqb-true}
use Rattle.base.specs.Below.{all_below}
use Rattle.base.proofs.Below.{all_at, all_from, fork, and_left, and_right}
use Rattle.lines.specs.Lines.{place}
use Rattle.lines.proofs.Laws.{or_place}
use Rattle.doubleword.specs.Doubleword.{bytes, all_marks, byte, number, merged, only_marked, marks_of}
use Rattle.doubleword.specs.Inner.{spread}

-- ---- a number and its bytes

pub byte_lt : (v j : ℕ) → byte v j < 256
unfolding byte
byte_lt v j = mod-lt (v / 2 ^ (8 * j)) (lit< tt)

-- one byte more is a power more
wider : (n : ℕ) → 2 ^ (8 * suc n) ≡ 256 * 2 ^ (8 * n)
wider n = ap (λ (k : ℕ). 2 ^ k) (let e : 8 * suc n ≡ 8 + 8 * n = omega arith in e) ∙ pow-add 2 8 (8 * n)

-- a byte below n is one of the number's low n bytes
byte_low : (v n j : ℕ) → j < n → byte (v % 2 ^ (8 * n)) j ≡ byte v j
unfolding byte
byte_low v n j h =
    let i = 8 * n - (8 + 8 * j) in
    let e : 8 * n ≡ i + (8 + 8 * j) = omega arith in
    sym (field (v % 2 ^ (8 * n)) 8 (8 * j))
    ∙ ap (λ (k : ℕ). v % 2 ^ k % 2 ^ (8 + 8 * j) / 2 ^ (8 * j)) e
    ∙ ap (λ (x : ℕ). x / 2 ^ (8 * j)) (mod-mod-pow v i (8 + 8 * j))
    ∙ field v 8 (8 * j)

module _ (f : ℕ → ℕ) (small : (j : ℕ) → f j < 256) where
  pub number_lt : (n : ℕ) → number f n < 2 ^ (8 * n)
  unfolding number
  number_lt zero = lit< tt
  number_lt (suc n) =
      rw (wider n, add_comm (number f n)) (digits_lt (small n) (number_lt n))

  -- its bytes are those that it is made of
  pub number_byte : (n j : ℕ) → j < n → byte (number f n) j ≡ f j
  unfolding number byte
  number_byte zero j h = absurd (not-suc-le-zero h)
  number_byte (suc n) j h = go (λ l. number_byte n j l) (ℕ_discrete j n)
    where
      go : (j < n → byte (number f n) j ≡ f j) → Dec (j ≡ n) → (number f n + f n * 2 ^ (8 * n)) / 2 ^ (8 * j) % 256 ≡ f j
      go ih (yes e) =
          rw (e, add_comm (number f n)) (ap (λ (q : ℕ). q % 256) (digits_div (f n) (number_lt n)) ∙ mod-eq_of_lt (small n))
      go ih (no o) =
          sym (byte_low (number f n + f n * 2 ^ (8 * n)) n j (omega arith))
          ∙ ap (λ (x : ℕ). byte (x % 2 ^ (8 * n)) j) (add_comm (number f n) (f n * 2 ^ (8 * n)))
          ∙ ap (λ (x : ℕ). byte x j) (low (f n) (8 * n) (number_lt n))
          ∙ ih (omega arith)

-- a number's low n bytes make its remainder
whole : (v n : ℕ) → number (byte v) n ≡ v % 2 ^ (8 * n)
unfolding number byte
whole v zero = sym (mod-one v)
whole v (suc n) =
    (λ j. whole v n j + v / 2 ^ (8 * n) % 256 * 2 ^ (8 * n))
    ∙ add_comm (v % 2 ^ (8 * n)) (v / 2 ^ (8 * n) % 256 * 2 ^ (8 * n))
    ∙ sym (mod-pow-add v 8 (8 * n))
    ∙ ap (λ (k : ℕ). v % 2 ^ k) (let e : 8 + 8 * n ≡ 8 * suc n = omega arith in e)

number_cong : (f g : ℕ → ℕ) (n : ℕ) → ((j : ℕ) → j < n → f j ≡ g j) → number f n ≡ number g n
unfolding number
number_cong f g zero h = refl
number_cong f g (suc n) h = (λ j. number_cong f g n (λ k l. h k (omega arith)) j + h n (omega arith) j * 2 ^ (8 * n))

-- doublewords with the same bytes are the same
pub same_bytes : (v w : ℕ) → v < 2 ^ 64 → w < 2 ^ 64 → ((j : ℕ) → j < bytes → byte v j ≡ byte w j) → v ≡ w
same_bytes v w g h e =
    sym (mod-eq_of_lt g) ∙ sym (whole v bytes) ∙ number_cong (byte v) (byte w) bytes e ∙ whole w bytes ∙ mod-eq_of_lt h

-- ---- merging

abbrev pub chosen : ℕ → ℕ → ℕ → ℕ → ℕ
chosen m old new j = cond (place m j) (byte new j) (byte old j)

chosen_lt : (m old new j : ℕ) → chosen m old new j < 256
chosen_lt m old new j = fork (λ x. x < 256) (place m j) (λ e. byte_lt new j) (λ e. byte_lt old j)

pub merged_lt : (m old new : ℕ) → merged m old new < 2 ^ 64
unfolding merged
merged_lt m old new = number_lt (chosen m old new) (chosen_lt m old new) bytes

-- each byte: the new one where it is marked, else the old one
pub merged_byte : (m old new j : ℕ) → j < bytes → byte (merged m old new) j ≡ chosen m old new j
unfolding merged
merged_byte m old new j = number_byte (chosen m old new) (chosen_lt m old new) bytes j

-- a doubleword by its bytes
pub merged_is : (m old new v : ℕ) → v < 2 ^ 64 → ((j : ℕ) → j < bytes → chosen m old new j ≡ byte v j) → merged m old new ≡ v
merged_is m old new v h e = same_bytes (merged m old new) v (merged_lt m old new) h (λ j l. merged_byte m old new j l ∙ e j l)

all_marked : (j : ℕ) → j < bytes → place all_marks j ≡ true
unfolding place all_below
all_marked j h = all_at (place all_marks) bytes j refl h

-- all eight marked: the new one
pub merged_all : (old new : ℕ) → new < 2 ^ 64 → merged all_marks old new ≡ new
merged_all old new h = merged_is all_marks old new new h (λ j l. simp (all_marked j l))

-- a merge over a merge: the marks of both, the later one's bytes over the earlier one's
pub merged_over : (a m old e v : ℕ) → merged (bit_or a m) old (merged m e v) ≡ merged m (merged a old e) v
merged_over a m old e v =
    merged_is (bit_or a m) old (merged m e v) _ (merged_lt m (merged a old e) v) (λ j l. at j l (place a j) (place m j) refl refl ∙ sym (merged_byte m (merged a old e) v j l))
  where
    at : (j : ℕ) → j < bytes → (x y : Bool) → place a j ≡ x → place m j ≡ y → chosen (bit_or a m) old (merged m e v) j ≡ chosen m (merged a old e) v j
    at j l true true p q = simp (or_place, p, q) (merged_byte m e v j l ∙ ap (λ (b : Bool). cond b (byte v j) (byte e j)) q)
    at j l false true p q = simp (or_place, p, q) (merged_byte m e v j l ∙ ap (λ (b : Bool). cond b (byte v j) (byte e j)) q)
    at j l true false p q =
        simp (or_place, p, q)
        (merged_byte m e v j l ∙ ap (λ (b : Bool). cond b (byte v j) (byte e j)) q
        ∙ sym (merged_byte a old e j l ∙ ap (λ (b : Bool). cond b (byte e j) (byte old j)) p))
    at j l false false p q = simp (or_place, p, q) (sym (merged_byte a old e j l ∙ ap (λ (b : Bool). cond b (byte e j) (byte old j)) p))

-- what was merged under the same marks is merged
pub merged_once : (m old e v : ℕ) → merged m old (merged m e v) ≡ merged m old v
merged_once m old e v = merged_is m old (merged m e v) _ (merged_lt m old v) (λ j l. at j l (place m j) refl ∙ sym (merged_byte m old v j l))
  where
    at : (j : ℕ) → j < bytes → (b : Bool) → place m j ≡ b → chosen m old (merged m e v) j ≡ chosen m old v j
    at j l true q = simp q (merged_byte m e v j l ∙ ap (λ (b : Bool). cond b (byte v j) (byte e j)) q)
    at j l false q = simp q

-- ---- merging by masks

op_byte : (op : ℕ → ℕ → ℕ) → ((a b k : ℕ) → op a b / 2 ^ k ≡ op (a / 2 ^ k) (b / 2 ^ k)) → ((a b k : ℕ) → op a b % 2 ^ k ≡ op (a % 2 ^ k) (b % 2 ^ k)) → (a b j : ℕ) → byte (op a b) j ≡ op (byte a j) (byte b j)
unfolding byte
op_byte op shr rem a b j = ap (λ (x : ℕ). x % 256) (shr a b (8 * j)) ∙ rem (a / 2 ^ (8 * j)) (b / 2 ^ (8 * j)) 8

-- a byte under a mask of ones, and of zeros
under_ones : (v j : ℕ) → bit_and (byte v j) 255 ≡ byte v j
under_ones v j = and_mask (byte v j) 8 ∙ mod-eq_of_lt (byte_lt v j)

-- a mask for the marks: ones where a byte is marked
abbrev pub Masks : ℕ → ℕ → Type 0
Masks m mask = (j : ℕ) → j < bytes → (byte mask j ≡ cond (place m j) 255 0) × (byte (0xFFFFFFFFFFFFFFFF - mask) j ≡ cond (place m j) 0 255)

pub merged_masked : (m mask old new : ℕ) → Masks m mask → old < 2 ^ 64 → new < 2 ^ 64 → bit_or (bit_and new mask) (bit_and old (0xFFFFFFFFFFFFFFFF - mask)) ≡ merged m old new
merged_masked m mask old new k g h =
    sym (merged_is m old new _ (or_lt 64 _ _ (lt_of_le_of_lt (and_le_l new mask) h) (lt_of_le_of_lt (and_le_l old rest) g)) (λ j l. at j l (place m j) refl))
  where
    rest : ℕ
    rest = 0xFFFFFFFFFFFFFFFF - mask

    taken : (j : ℕ) → byte (bit_or (bit_and new mask) (bit_and old rest)) j ≡ bit_or (bit_and (byte new j) (byte mask j)) (bit_and (byte old j) (byte rest j))
    taken j = op_byte bit_or or_shr or_mod (bit_and new mask) (bit_and old rest) j ∙ (λ i. bit_or (op_byte bit_and and_shr and_mod new mask j i) (op_byte bit_and and_shr and_mod old rest j i))

    under : (j : ℕ) → j < bytes → (b : Bool) → place m j ≡ b → byte (bit_or (bit_and new mask) (bit_and old rest)) j ≡ bit_or (bit_and (byte new j) (cond b 255 0)) (bit_and (byte old j) (cond b 0 255))
    under j l b e =
        taken j ∙ (λ i. bit_or (bit_and (byte new j) ((k j l).0 i)) (bit_and (byte old j) ((k j l).1 i)))
        ∙ ap (λ (x : Bool). bit_or (bit_and (byte new j) (cond x 255 0)) (bit_and (byte old j) (cond x 0 255))) e

    at : (j : ℕ) → j < bytes → (b : Bool) → place m j ≡ b → chosen m old new j ≡ byte (bit_or (bit_and new mask) (bit_and old rest)) j
    at j l true e =
        simp e (sym (under j l true e ∙ (λ i. bit_or (under_ones new j i) (and_zero_r (byte old j) i)) ∙ or_zero_r (byte new j)))
    at j l false e =
        simp e (sym (under j l false e ∙ (λ i. bit_or (and_zero_r (byte new j) i) (under_ones old j i)) ∙ or_zero_l (byte old j)))

-- the spread marks are such a mask: by computation, each of the 256
masks_at : ℕ → ℕ → Bool
masks_at m j = eqb (byte (spread m) j) (cond (place m j) 255 0) && eqb (byte (0xFFFFFFFFFFFFFFFF - spread m) j) (cond (place m j) 0 255)

all_masks : all_below (λ m. all_below (masks_at m) bytes) 256 ≡ true
unfolding all_below masks_at byte spread place
all_masks = refl

pub spread_masks : (m : ℕ) → m < 256 → Masks m (spread m)
unfolding masks_at
spread_masks m h j l =
    let e = all_at (masks_at m) bytes j (all_at (λ x. all_below (masks_at x) bytes) 256 m all_masks h) l in
    let ones = eqb (byte (spread m) j) (cond (place m j) 255 0) in
    let zeros = eqb (byte (0xFFFFFFFFFFFFFFFF - spread m) j) (cond (place m j) 0 255) in
    (eqb-true _ _ (and_left ones zeros e), eqb-true _ _ (and_right ones zeros e))

-- ---- shifts, as the code has them

-- a one that is shifted within its width
pub one_shifted : (k w : ℕ) → k < w → 1 * 2 ^ k % 2 ^ w ≡ 2 ^ k
one_shifted k w h = shl_exact 1 k w (lit< tt) (omega arith) ∙ one-mul (2 ^ k)

-- bytes that are shifted within a doubleword
pub bytes_shifted : (j w x : ℕ) → j + w ≤ bytes → x % 2 ^ (8 * w) * 2 ^ (8 * j) % 2 ^ 64 ≡ x % 2 ^ (8 * w) * 2 ^ (8 * j)
bytes_shifted j w x h = shl_exact (8 * w) (8 * j) 64 (mod-lt x (pow_pos (8 * w))) (omega arith)

-- the marks of some bytes fit the eight, and there is one
pub marks_lt : (j w : ℕ) → j + w ≤ bytes → marks_of j w < 256
marks_lt j w h =
    lt_of_lt_of_le (shl_lt w j (ones_lt w)) (pow_mono {i = w + j} {j = 8} (omega arith))

pub marks_some : (j w : ℕ) → 0 < w → 0 < marks_of j w
marks_some j w h = mul-pos (omega (arith, pow-lt {i = 0} {j = w} h)) (pow_pos j)

byte_zero : (j : ℕ) → byte 0 j ≡ 0
unfolding byte
byte_zero j = ap (λ (x : ℕ). x % 256) (zero-div (2 ^ (8 * j)))

-- a value whose bytes are zero where they are not marked is itself, merged with zeros
pub only_is : (m v : ℕ) → v < 2 ^ 64 → eqb (merged m 0 v) v ≡ only_marked m v
unfolding only_marked
only_is m v h = go (all_below only bytes) refl
  where
    only : ℕ → Bool
    only j = place m j || eqb (byte v j) 0

    at : (j : ℕ) → (b : Bool) → place m j ≡ b → only j ≡ true → chosen m 0 v j ≡ byte v j
    at j true e o = simp e
    at j false e o = simp e (byte_zero j ∙ sym (eqb-true (byte v j) 0 (sym (ap (λ (b : Bool). b || eqb (byte v j) 0) e) ∙ o)))

    back : merged m 0 v ≡ v → (j : ℕ) → j < bytes → (b : Bool) → place m j ≡ b → only j ≡ true
    back q j l true e = simp e
    back q j l false e =
        simp e (eq-eqb (byte v j) 0 (sym (ap (λ (x : ℕ). byte x j) q) ∙ merged_byte m 0 v j l ∙ ap (λ (b : Bool). cond b (byte v j) (byte 0 j)) e ∙ byte_zero j))

    go : (b : Bool) → all_below only bytes ≡ b → eqb (merged m 0 v) v ≡ b
    go true e = eq-eqb _ _ (merged_is m 0 v v h (λ j l. at j (place m j) refl (all_at only bytes j e l)))
    go false e = ne_eqb _ _ (λ q. true≢false (sym (all_from only bytes (λ j l. back q j l (place m j) refl)) ∙ e))

-- a merge with zeros is zero where it is not marked, and a second merge leaves zeros where neither marks
pub merged_only : (m em old new : ℕ) → only_marked em old ≡ true → only_marked (bit_or em m) (merged m old new) ≡ true
unfolding only_marked
merged_only m em old new o = all_from _ bytes (λ j l. at j l (place em j) (place m j) refl refl)
  where
    at : (j : ℕ) → j < bytes → (a b : Bool) → place em j ≡ a → place m j ≡ b → (place (bit_or em m) j || eqb (byte (merged m old new) j) 0) ≡ true
    at j l true b e f = simp (or_place, e)
    at j l false true e f = simp (or_place, e, f)
    at j l false false e f =
        simp (or_place, e, f)
        (ap (λ (x : ℕ). eqb x 0) (merged_byte m old new j l ∙ ap (λ (b : Bool). cond b (byte new j) (byte old j)) f)
        ∙ sym (ap (λ (b : Bool). b || eqb (byte old j) 0) e) ∙ all_at (λ i. place em i || eqb (byte old i) 0) bytes j o l)
