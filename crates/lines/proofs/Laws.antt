-- Laws of the line sets: places of words, what a set holds after a line was added, footprints and meetings.
use mathlib.Core.Path.{◌≡◌, refl, sym, ap, subst, ◌∙◌}
use mathlib.Core.Bool.{Bool, true, false, ◌&&◌, ◌||◌, not, cond, beq, and_comm, or_comm, or-false, or-true, and-true, and-false, true≢false}
use mathlib.Core.List.{List, [], ◌∷◌}
use Prim.Native.Nat.{ℕ, zero, suc, ◌+◌, ◌-◌, ◌*◌, ◌/◌, ◌%◌, ◌^◌, ◌≤◌, ◌<◌, min, max}
use native.Mathlib.Nat.{mod-lt, zero-add, zero-div, div-one, lt_of_le_of_lt}
use native.Mathlib.Decide.{ℕ_discrete, dec_lt}
use native.Mathlib.Omega.{arith}
use native.Mathlib.Numerals.{one-add}
use lib.Arith.{digits_mod, lt-one}
use lib.Pow.{shr-shr, shr_lt}
use lib.Bits.{bit_and, bit_or, and_shr, and_step, and_le_l, or_shr, or_step, or_lt}
use lib.Count.{ones, ones_step}
use lib.Dec.{eqb, ltb, eqb-suc-zero, eqb-zero-suc, eqb-suc-suc, lit<}
use lib.ListN.{get_or, length, length-set, replicate}
use lib.Pointwise.{pointwise}
use lib.Seq.{get_or-set_same, get_or-set_other, set_out}
use borrow.Author.Tests.{eq-eqb, ne_eqb, eqb-true, eqb-false, not-true, lt-ltb, le-ltb}
use Rattle.base.specs.Limits.{lines, words, page_lines}
use Rattle.base.specs.Below.{bit, all_below, any_below, count_below}
use Rattle.base.proofs.Below.{all_at, all_from, all_cong, all_add, any_at, any_false, any_false_at, any_witness, any_not, any_cong, any_add, count_low, count_cong, count_le, count_add, count_one, and_intro, bit_lt, bit_test, digit_bit}
use Rattle.lines.specs.Lines.{place, word, empty, has, has_page, with, meets, footprint}
use Rattle.lines.specs.Inner.{same, ends, shared, alike, joined, clear_from, line_mask, page_mask}
use Rattle.lines.specs.declared.LineSet.{LineSet}

-- ---- the places of a word

-- a digit is below 2
digit : (n : ℕ) → n % 2 < 2
digit n = mod-lt n (lit< tt)

-- the places of two words that are joined digit by digit
module _ (op f : ℕ → ℕ → ℕ) (o : Bool → Bool → Bool)
    (shr : (a b k : ℕ) → op a b / 2 ^ k ≡ op (a / 2 ^ k) (b / 2 ^ k))
    (step : (a b : ℕ) → op a b ≡ op (a / 2) (b / 2) * 2 + f (a % 2) (b % 2))
    (bits : (x y : Bool) → f (bit x) (bit y) ≡ bit (o x y)) where
  op_place : (a b i : ℕ) → place (op a b) i ≡ o (place a i) (place b i)
  unfolding place
  op_place a b i =
      let x = a / 2 ^ i in
      let y = b / 2 ^ i in
      let c = o (place a i) (place b i) in
      let e : f (x % 2) (y % 2) ≡ bit c = (λ j. f (sym (digit_bit (x % 2) (digit x)) j) (sym (digit_bit (y % 2) (digit y)) j)) ∙ bits (place a i) (place b i) in
      ap (λ (n : ℕ). eqb (n % 2) 1) (shr a b i ∙ step x y ∙ ap (λ (n : ℕ). op (x / 2) (y / 2) * 2 + n) e)
      ∙ ap (λ (n : ℕ). eqb n 1) (digits_mod (op (x / 2) (y / 2)) (bit_lt c)) ∙ bit_test c

pub or_place : (a b i : ℕ) → place (bit_or a b) i ≡ (place a i || place b i)
or_place = op_place bit_or max ◌||◌ or_shr or_step bits
  where
    bits : (x y : Bool) → max (bit x) (bit y) ≡ bit (x || y)
    bits true true = refl
    bits true false = refl
    bits false true = refl
    bits false false = refl

pub and_place : (a b i : ℕ) → place (bit_and a b) i ≡ (place a i && place b i)
and_place = op_place bit_and min ◌&&◌ and_shr and_step bits
  where
    bits : (x y : Bool) → min (bit x) (bit y) ≡ bit (x && y)
    bits true true = refl
    bits true false = refl
    bits false true = refl
    bits false false = refl

-- 0 has no place set
zero_place : (i : ℕ) → place 0 i ≡ false
unfolding place
zero_place i = ap (λ (n : ℕ). eqb (n % 2) 1) (zero-div (2 ^ i))

-- the lowest place, and the others
low_place : (n : ℕ) → place n 0 ≡ eqb (n % 2) 1
unfolding place
low_place n = ap (λ (x : ℕ). eqb (x % 2) 1) (div-one n)

half_place : (n i : ℕ) → place (n / 2) i ≡ place n (suc i)
unfolding place
half_place n i = ap (λ (x : ℕ). eqb (x % 2) 1) (shr-shr n 1 i ∙ ap (λ (k : ℕ). n / 2 ^ k) (one-add i))

-- the one place of a power of two
power_place : (b i : ℕ) → place (2 ^ b) i ≡ eqb i b
unfolding place
power_place zero zero = refl
power_place zero (suc i) = sym (half_place 1 i) ∙ zero_place i ∙ sym (eqb-suc-zero i)
power_place (suc b) zero =
    low_place (2 ^ suc b) ∙ ap (λ (n : ℕ). eqb n 1) (let e : 2 ^ suc b % 2 ≡ 0 = omega arith in e) ∙ sym (eqb-zero-suc b)
power_place (suc b) (suc i) =
    sym (half_place (2 ^ suc b) i) ∙ ap (λ (n : ℕ). place n i) (let e : 2 ^ suc b / 2 ≡ 2 ^ b = omega arith in e)
    ∙ power_place b i ∙ sym (eqb-suc-suc i b)

-- the ones of a number of k digits are the places below k that are set
pub ones_count : (k n : ℕ) → n < 2 ^ k → ones n ≡ count_below (place n) k
unfolding count_below ones
ones_count zero n h = ap ones (lt-one h)
ones_count (suc k) n h =
    ones_step n
    ∙ (λ j. (sym (digit_bit (n % 2) (digit n)) ∙ ap bit (sym (low_place n))) j + ones_count k (n / 2) (omega arith) j)
    ∙ (λ j. bit (place n 0) + count_below (λ i. half_place n i j) k)
    ∙ sym (count_low (place n) k)

-- numbers of k digits with the same places set are equal
same_places : (k m n : ℕ) → m < 2 ^ k → n < 2 ^ k → ((i : ℕ) → i < k → place m i ≡ place n i) → m ≡ n
same_places zero m n g h p = lt-one g ∙ sym (lt-one h)
same_places (suc k) m n g h p =
    let low : m % 2 ≡ n % 2 = sym (low_digit m) ∙ ap bit (p 0 (omega arith)) ∙ low_digit n in
    let high : m / 2 ≡ n / 2 = same_places k (m / 2) (n / 2) (omega arith) (omega arith) (λ i l. half_place m i ∙ p (suc i) (omega arith) ∙ sym (half_place n i)) in
    omega arith
  where
    low_digit : (x : ℕ) → bit (place x 0) ≡ x % 2
    low_digit x = ap bit (low_place x) ∙ digit_bit (x % 2) (digit x)

-- and such a number has a place set unless it is 0
pub any_place : (k n : ℕ) → n < 2 ^ k → any_below (place n) k ≡ not (eqb n 0)
any_place k n h = go (any_below (place n) k) refl
  where
    go : (b : Bool) → any_below (place n) k ≡ b → b ≡ not (eqb n 0)
    go true e =
        let w = any_witness (place n) k e in
        ap not (sym (ne_eqb n 0 (λ z. true≢false (sym w.2 ∙ ap (λ (x : ℕ). place x w.0) z ∙ zero_place w.0))))
    go false e = ap not (sym (eq-eqb n 0 (same_places k n 0 h (omega arith) (λ i l. any_false_at (place n) k i e l ∙ sym (zero_place i)))))

-- the ones of two joined words are the places that are set in either
pub joined_ones : (a b : ℕ) → a < 2 ^ 64 → b < 2 ^ 64 → ones (bit_or a b) ≡ joined a b
unfolding joined
joined_ones a b h k = ones_count 64 (bit_or a b) (or_lt 64 a b h k) ∙ count_cong _ _ 64 (λ i l. or_place a b i)

pub joined_le : (a b : ℕ) → joined a b ≤ 64
unfolding joined
joined_le a b = count_le _ 64

-- a place of a word shifted
place_shifted : (v s i : ℕ) → place v (s + i) ≡ place (v / 2 ^ s) i
unfolding place
place_shifted v s i = ap (λ (x : ℕ). eqb (x % 2) 1) (sym (shr-shr v s i))

-- no place from s on is set in either of two words unless the joined word, shifted, is 0
pub clear_shifted : (a b s : ℕ) → a < 2 ^ 64 → b < 2 ^ 64 → s < 64 → clear_from a b s ≡ eqb (bit_or a b / 2 ^ s) 0
unfolding clear_from
clear_shifted a b s h k l =
    all_cong _ (λ i. ltb i s || not (place v i)) 64 (λ i q. ap (λ (x : Bool). ltb i s || not x) (sym (or_place a b i)))
    ∙ ap (all_below (λ i. ltb i s || not (place v i))) (let e : 64 ≡ s + (64 - s) = omega arith in e)
    ∙ all_add (λ i. ltb i s || not (place v i)) s (64 - s)
    ∙ (λ j. upper j && all_from (λ i. ltb i s || not (place v i)) s (λ i q. simp (lt-ltb i s q)) j)
    ∙ and-true (all_below (λ i. not (place u i)) (64 - s))
    ∙ not_back (all_below (λ i. not (place u i)) (64 - s)) (eqb u 0) (sym (any_not (place u) (64 - s)) ∙ any_place (64 - s) u (shr_lt (64 - s) s (subst (λ (x : ℕ). v < 2 ^ x) (let e : 64 ≡ 64 - s + s = omega arith in e) (or_lt 64 a b h k))))
  where
    v : ℕ
    v = bit_or a b

    u : ℕ
    u = v / 2 ^ s

    upper : all_below (λ i. ltb (s + i) s || not (place v (s + i))) (64 - s) ≡ all_below (λ i. not (place u i)) (64 - s)
    upper = all_cong _ _ (64 - s) (λ i q. simp (le-ltb (s + i) s (omega arith)) (ap not (place_shifted v s i)))

    not_back : (x y : Bool) → not x ≡ not y → x ≡ y
    not_back true true e = refl
    not_back true false e = sym e
    not_back false true e = sym e
    not_back false false e = refl

-- and there is none from 64 on
pub clear_past : (a b s : ℕ) → 64 ≤ s → clear_from a b s ≡ true
unfolding clear_from
clear_past a b s h = all_from _ 64 (λ i q. simp (lt-ltb i s (omega arith)))

-- two words share a place unless their bitwise and is 0
pub shared_and : (a b : ℕ) → a < 2 ^ 64 → shared a b ≡ not (eqb (bit_and a b) 0)
unfolding shared
shared_and a b h =
    any_cong _ _ 64 (λ i l. sym (and_place a b i)) ∙ any_place 64 (bit_and a b) (lt_of_le_of_lt (and_le_l a b) h)

-- a word shares a line's mask if the line's place is set
pub shared_line : (s : LineSet) (l : ℕ) → shared (word s (l / 64)) (line_mask l) ≡ has s l
unfolding shared has
shared_line s l = go (place w k) refl
  where
    w : ℕ
    w = word s (l / 64)

    k : ℕ
    k = l % 64

    f : ℕ → Bool
    f i = place w i && place (2 ^ k) i

    at : f k ≡ place w k
    at = ap (◌&&◌ (place w k)) (power_place k k ∙ eq-eqb k k refl) ∙ and-true (place w k)

    other : (i : ℕ) → (i ≡ k → ⊥) → f i ≡ false
    other i n = ap (◌&&◌ (place w i)) (power_place k i ∙ ne_eqb i k n) ∙ and-false (place w i)

    go : (b : Bool) → place w k ≡ b → any_below f 64 ≡ b
    go true e = any_at f 64 k (at ∙ e) (mod-lt l (lit< tt))
    go false e = any_false f 64 (λ i h. pick i (ℕ_discrete i k))
      where
        pick : (i : ℕ) → Dec (i ≡ k) → f i ≡ false
        pick i (yes q) = ap f q ∙ at ∙ e
        pick i (no n) = other i n

-- two words are equal if the same places are set
pub alike_eqb : (a b : ℕ) → a < 2 ^ 64 → b < 2 ^ 64 → alike a b ≡ eqb a b
unfolding alike
alike_eqb a b h k = go (all_below agree 64) refl
  where
    agree : ℕ → Bool
    agree i = beq (place a i) (place b i)

    beq_equal : (x y : Bool) → beq x y ≡ true → x ≡ y
    beq_equal true true p = refl
    beq_equal true false p = sym p
    beq_equal false true p = p
    beq_equal false false p = refl

    beq_same : (x : Bool) → beq x x ≡ true
    beq_same true = refl
    beq_same false = refl

    go : (t : Bool) → all_below agree 64 ≡ t → t ≡ eqb a b
    go true e = sym (eq-eqb a b (same_places 64 a b h k (λ i l. beq_equal _ _ (all_at agree 64 i e l))))
    go false e =
        sym (ne_eqb a b (λ q. true≢false (sym (all_from agree 64 (λ i l. ap (λ (x : ℕ). beq (place a i) (place x i)) (sym q) ∙ beq_same (place a i))) ∙ e)))

-- ---- the lines of a word

-- the line is in either set, or in both
abbrev pub either : LineSet → LineSet → ℕ → Bool
either r w l = has r l || has w l

abbrev pub both : LineSet → LineSet → ℕ → Bool
both a b l = has a l && has b l

-- the sets agree about the line
abbrev pub agree : LineSet → LineSet → ℕ → Bool
agree a b l = beq (has a l) (has b l)

-- line 64 k + i is place i of word k
at_word : (s : LineSet) (k i : ℕ) → i < 64 → has s (64 * k + i) ≡ place (word s k) i
unfolding has
at_word s k i h =
    let q : (64 * k + i) / 64 ≡ k = omega arith in
    let r : (64 * k + i) % 64 ≡ i = omega arith in
    λ j. place (word s (q j)) (r j)

-- a mask of half a word has all places of that half set, and no other
module _ (m : ℕ) (a b : Bool)
    (lower : (i : ℕ) → i < 32 → place m i ≡ a)
    (upper : (i : ℕ) → i < 32 → place m (32 + i) ≡ b) where
  halves : (w : ℕ) → shared w m ≡ (any_below (λ i. place w (32 + i) && b) 32 || any_below (λ i. place w i && a) 32)
  unfolding shared
  halves w =
      any_add (λ i. place w i && place m i) 32 32
      ∙ (λ j. any_cong (λ i. place w (32 + i) && place m (32 + i)) (λ i. place w (32 + i) && b) 32 (λ i h. ap (◌&&◌ (place w (32 + i))) (upper i h)) j
      || any_cong (λ i. place w i && place m i) (λ i. place w i && a) 32 (λ i h. ap (◌&&◌ (place w i)) (lower i h)) j)

low_set : (i : ℕ) → i < 32 → place 0x00000000FFFFFFFF i ≡ true
unfolding all_below place
low_set i h = all_at (place 0x00000000FFFFFFFF) 32 i refl h

low_clear : (i : ℕ) → i < 32 → place 0x00000000FFFFFFFF (32 + i) ≡ false
unfolding all_below place
low_clear i h = not-true _ (all_at (λ i. not (place 0x00000000FFFFFFFF (32 + i))) 32 i refl h)

high_set : (i : ℕ) → i < 32 → place 0xFFFFFFFF00000000 (32 + i) ≡ true
unfolding all_below place
high_set i h = all_at (λ i. place 0xFFFFFFFF00000000 (32 + i)) 32 i refl h

high_clear : (i : ℕ) → i < 32 → place 0xFFFFFFFF00000000 i ≡ false
unfolding all_below place
high_clear i h = not-true _ (all_at (λ i. not (place 0xFFFFFFFF00000000 i)) 32 i refl h)

low_half : (w : ℕ) → shared w 0x00000000FFFFFFFF ≡ any_below (λ i. place w (0 + i)) 32
low_half w =
    halves 0x00000000FFFFFFFF true false low_set low_clear w
    ∙ (λ j. any_false (λ i. place w (32 + i) && false) 32 (λ i h. and-false (place w (32 + i))) j
    || any_cong (λ i. place w i && true) (λ i. place w (0 + i)) 32 (λ i h. and-true (place w i) ∙ ap (place w) (sym (zero-add i))) j)

high_half : (w : ℕ) → shared w 0xFFFFFFFF00000000 ≡ any_below (λ i. place w (32 + i)) 32
high_half w =
    halves 0xFFFFFFFF00000000 false true high_clear high_set w
    ∙ (λ j. any_cong (λ i. place w (32 + i) && true) (λ i. place w (32 + i)) 32 (λ i h. and-true (place w (32 + i))) j
    || any_false (λ i. place w i && false) 32 (λ i h. and-false (place w i)) j)
    ∙ or-false (any_below (λ i. place w (32 + i)) 32)

one : (n : ℕ) → n < 2 → (n ≡ 0 → ⊥) → n ≡ 1
one zero h n = absurd (n refl)
one (suc zero) h n = refl
one (suc (suc k)) h n = absurd (omega arith)

-- a page is a half of word p / 2
page_at : (s : LineSet) (p h : ℕ) → p % 2 ≡ h → h < 2 → any_below (λ i. place (word s (p / 2)) (32 * h + i)) 32 ≡ has_page s p
unfolding has_page
page_at s p h e l =
    any_cong (λ i. place (word s (p / 2)) (32 * h + i)) (λ i. has s (page_lines * p + i)) 32
    (λ i k. sym (at_word s (p / 2) (32 * h + i) (omega arith)) ∙ ap (has s) (let q : 64 * (p / 2) + (32 * h + i) ≡ page_lines * p + i = omega arith in q))

-- a word shares a page's mask if the set that it is of holds a line of the page
pub shared_page : (s : LineSet) (p : ℕ) → shared (word s (p / 2)) (page_mask p) ≡ has_page s p
shared_page s p = go (eqb (p % 2) 0) refl
  where
    go : (b : Bool) → eqb (p % 2) 0 ≡ b → shared (word s (p / 2)) (cond b 0x00000000FFFFFFFF 0xFFFFFFFF00000000) ≡ has_page s p
    go true e = low_half (word s (p / 2)) ∙ page_at s p 0 (eqb-true (p % 2) 0 e) (omega arith)
    go false e = high_half (word s (p / 2)) ∙ page_at s p 1 (odd (mod-lt p (lit< tt))) (omega arith)
      where
        odd : p % 2 < 2 → p % 2 ≡ 1
        odd h = one (p % 2) h (eqb-false (p % 2) 0 e)

-- the lines of the first k words, and of one word more
pub footprint_more : (r w : LineSet) (k : ℕ) → count_below (either r w) (64 * (k + 1)) ≡ count_below (either r w) (64 * k) + joined (word r k) (word w k)
unfolding joined
footprint_more r w k =
    ap (count_below _) (let e : 64 * (k + 1) ≡ 64 * k + 64 = omega arith in e) ∙ count_add (either r w) (64 * k) 64
    ∙ ap (λ (x : ℕ). count_below (either r w) (64 * k) + x) (count_cong _ _ 64 (λ i h. λ j. at_word r k i h j || at_word w k i h j))

pub meets_more : (a b : LineSet) (k : ℕ) (t : Bool) → shared (word a k) (word b k) ≡ t → any_below (both a b) (64 * (k + 1)) ≡ (t || any_below (both a b) (64 * k))
unfolding shared
meets_more a b k t q =
    ap (any_below _) (let e : 64 * (k + 1) ≡ 64 * k + 64 = omega arith in e) ∙ any_add (both a b) (64 * k) 64
    ∙ ap (λ (x : Bool). x || any_below (both a b) (64 * k))
    (any_cong _ _ 64 (λ i h. λ j. at_word a k i h j && at_word b k i h j) ∙ q)

-- sets that meet in some of the words meet
pub meets_found : (a b : LineSet) (k : ℕ) → k < words → shared (word a k) (word b k) ≡ true → meets a b ≡ true
unfolding meets
meets_found a b k h q =
    let w = any_witness (both a b) (64 * (k + 1)) (meets_more a b k true q) in
    any_at (both a b) lines w.0 w.2 (omega (arith, w.1))

same_words : (a b : LineSet) (k : ℕ) → all_below (agree a b) (64 * k) ≡ all_below (λ i. alike (word a i) (word b i)) k
unfolding alike all_below
same_words a b zero = refl
same_words a b (suc k) =
    ap (all_below _) (let e : 64 * suc k ≡ 64 * k + 64 = omega arith in e) ∙ all_add (agree a b) (64 * k) 64
    ∙ (λ j. all_cong (λ i. agree a b (64 * k + i)) _ 64 (λ i h. λ l. beq (at_word a k i h l) (at_word b k i h l)) j && same_words a b k j)

equal_words : (xs ys : List ℕ) (n : ℕ) → length xs ≡ n → length ys ≡ n → all_below (λ k. eqb (get_or xs k 0) (get_or ys k 0)) n ≡ pointwise eqb xs ys
unfolding all_below
equal_words [] [] zero h k = refl
equal_words [] ys (suc n) h k = cc
equal_words (x ∷ xs) ys zero h k = cc
equal_words [] (y ∷ ys) zero h k = cc
equal_words (x ∷ xs) [] (suc n) h k = cc
equal_words (x ∷ xs) (y ∷ ys) (suc n) h k =
    let f = λ (k : ℕ). eqb (get_or (x ∷ xs) k 0) (get_or (y ∷ ys) k 0) in
    let shorter : all_below (λ k. eqb (get_or xs k 0) (get_or ys k 0)) n ≡ pointwise eqb xs ys = equal_words xs ys n (cc) (cc) in
    ap (all_below f) (sym (one-add n)) ∙ all_add f 1 n
    ∙ (λ j. all_cong (λ i. f (1 + i)) (λ i. eqb (get_or xs i 0) (get_or ys i 0)) n (λ i l. ap f (one-add i)) j && and-true (eqb x y) j)
    ∙ and_comm _ (eqb x y) ∙ ap (◌&&◌ (eqb x y)) shorter

-- two sets of words of 64 bits hold the same lines where they are equal
pub same_equal : (a b : LineSet) → length a.words ≡ words → length b.words ≡ words → ((k : ℕ) → k < words → word a k < 2 ^ 64) → ((k : ℕ) → k < words → word b k < 2 ^ 64) → same a b ≡ pointwise eqb a.words b.words
unfolding same
same_equal a b h k f g = same_words a b words ∙ all_cong _ _ words (λ i l. alike_eqb (word a i) (word b i) (f i l) (g i l)) ∙ equal_words a.words b.words words h k

-- a line is below n, or in neither set
abbrev pub before : LineSet → LineSet → ℕ → ℕ → Bool
before a b n l = ltb l n || not (has a l || has b l)

shifted : (m i n : ℕ) → ltb (m + i) n ≡ ltb i (n - m)
shifted m i n = go (dec_lt i (n - m))
  where
    go : Dec (i < n - m) → ltb (m + i) n ≡ ltb i (n - m)
    go (yes h) = lt-ltb (m + i) n (omega arith) ∙ sym (lt-ltb i (n - m) h)
    go (no h) = le-ltb (m + i) n (omega arith) ∙ sym (le-ltb i (n - m) (omega arith))

pub ends_more : (a b : LineSet) (n k : ℕ) (t : Bool) → clear_from (word a k) (word b k) (n - 64 * k) ≡ t → all_below (before a b n) (64 * (k + 1)) ≡ (t && all_below (before a b n) (64 * k))
unfolding clear_from
ends_more a b n k t q =
    ap (all_below _) (let e : 64 * (k + 1) ≡ 64 * k + 64 = omega arith in e) ∙ all_add (before a b n) (64 * k) 64
    ∙ ap (λ (x : Bool). x && all_below (before a b n) (64 * k))
    (all_cong _ _ 64 (λ i h. λ j. shifted (64 * k) i n j || not (at_word a k i h j || at_word b k i h j)) ∙ q)

-- a word that has a line from n on is enough to refuse
pub ends_found : (a b : LineSet) (n k : ℕ) → k < words → clear_from (word a k) (word b k) (n - 64 * k) ≡ false → ends a b n ≡ false
unfolding ends
ends_found a b n k h q = go (all_below (before a b n) lines) refl
  where
    go : (t : Bool) → all_below (before a b n) lines ≡ t → t ≡ false
    go true e = sym (all_from (before a b n) (64 * (k + 1)) (λ i l. all_at (before a b n) lines i e (omega arith))) ∙ ends_more a b n k false q
    go false e = refl

-- ---- what a set holds

-- the empty set holds no line, as a read past its words is 0 too
pub has_none : (n l : ℕ) → has (record { words = replicate n 0 }) l ≡ false
unfolding has
has_none n l = ap (λ (x : ℕ). place x (l % 64)) (zeros 0 n (l / 64)) ∙ zero_place (l % 64)
  where
    zeros : (z n k : ℕ) → get_or (replicate n z) k z ≡ z
    zeros z zero k = refl
    zeros z (suc n) zero = refl
    zeros z (suc n) (suc k) = zeros z n k

pub has_empty : (l : ℕ) → has empty l ≡ false
unfolding empty
has_empty l = has_none words l

pub length_with : (s : LineSet) (l : ℕ) → length (with s l).words ≡ length s.words
unfolding with
length_with s l = length-set s.words (l / 64) _

-- of two lines of one word, the places tell them apart
same_line : (l m : ℕ) → m / 64 ≡ l / 64 → eqb (m % 64) (l % 64) ≡ eqb m l
same_line l m e = go (ℕ_discrete m l)
  where
    go : Dec (m ≡ l) → eqb (m % 64) (l % 64) ≡ eqb m l
    go (yes f) = eq-eqb _ _ (ap (λ (x : ℕ). x % 64) f) ∙ sym (eq-eqb m l f)
    go (no n) = ne_eqb _ _ (λ (f : m % 64 ≡ l % 64). n (omega arith)) ∙ sym (ne_eqb m l n)

-- what a set holds after a line was added
pub has_with : (s : LineSet) (l m : ℕ) → l / 64 < length s.words → has (with s l) m ≡ (has s m || eqb m l)
unfolding has with
has_with s l m h = go (ℕ_discrete (m / 64) (l / 64))
  where
    go : Dec (m / 64 ≡ l / 64) → has (with s l) m ≡ (has s m || eqb m l)
    go (yes e) =
        ap (λ (x : ℕ). place x (m % 64)) (ap (word (with s l)) e ∙ get_or-set_same s.words (l / 64) _ 0 h)
        ∙ or_place (word s (l / 64)) (2 ^ (l % 64)) (m % 64)
        ∙ (λ j. place (word s (sym e j)) (m % 64) || (power_place (l % 64) (m % 64) ∙ same_line l m e) j)
    go (no n) =
        ap (λ (x : ℕ). place x (m % 64)) (get_or-set_other s.words (l / 64) (m / 64) _ 0 n)
        ∙ sym (or-false (has s m)) ∙ ap (◌||◌ (has s m)) (sym (ne_eqb m l (λ f. n (ap (λ (x : ℕ). x / 64) f))))

pub has_with_same : (s : LineSet) (l : ℕ) → l / 64 < length s.words → has (with s l) l ≡ true
has_with_same s l h = has_with s l l h ∙ ap (◌||◌ (has s l)) (eq-eqb l l refl) ∙ or-true (has s l)

-- a line past the words is not added
with_out : (s : LineSet) (l : ℕ) → length s.words ≤ l / 64 → with s l ≡ s
unfolding with
with_out s l h = ap (λ (ws : List ℕ). record { words = ws }) (set_out s.words (l / 64) _ h)

-- nothing changes at a line that is not the new one, or is there already
with_same : (s : LineSet) (l m : ℕ) → (m ≡ l → has s m ≡ true) → has (with s l) m ≡ has s m
with_same s l m p = go (dec_lt (l / 64) (length s.words))
  where
    or_left : (a b : Bool) → (b ≡ true → a ≡ true) → (a || b) ≡ a
    or_left true b q = refl
    or_left false true q = sym (q refl)
    or_left false false q = refl

    go : Dec (l / 64 < length s.words) → has (with s l) m ≡ has s m
    go (yes h) = has_with s l m h ∙ or_left (has s m) (eqb m l) (λ q. p (eqb-true m l q))
    go (no h) = ap (λ (t : LineSet). has t m) (with_out s l (omega arith))

pub has_with_other : (s : LineSet) (l m : ℕ) → (m ≡ l → ⊥) → has (with s l) m ≡ has s m
has_with_other s l m n = with_same s l m (λ e. absurd (n e))

pub with_there : (s : LineSet) (l : ℕ) → has s l ≡ true → (m : ℕ) → has (with s l) m ≡ has s m
with_there s l p m = with_same s l m (λ e. ap (has s) e ∙ p)

-- ---- footprints

pub footprint_empty : footprint empty empty ≡ 0
unfolding footprint empty has place count_below
footprint_empty = refl

pub footprint_comm : (r w : LineSet) → footprint r w ≡ footprint w r
unfolding footprint
footprint_comm r w = count_cong (either r w) (either w r) lines (λ l h. or_comm (has r l) (has w l))

-- a line that is in neither set counts, in whichever set it joins
pub footprint_with_new : (r w : LineSet) (l : ℕ) → l < lines → l / 64 < length r.words → (has r l || has w l) ≡ false → footprint (with r l) w ≡ suc (footprint r w)
unfolding footprint
footprint_with_new r w l k h p =
    count_one (either r w) (either (with r l) w) lines l k p (ap (λ (b : Bool). b || has w l) (has_with_same r l h))
    (λ i t n. ap (λ (b : Bool). b || has w i) (has_with_other r l i n))

pub footprint_with_new_write : (r w : LineSet) (l : ℕ) → l < lines → l / 64 < length w.words → (has r l || has w l) ≡ false → footprint r (with w l) ≡ suc (footprint r w)
footprint_with_new_write r w l k h p =
    footprint_comm r (with w l) ∙ footprint_with_new w r l k h (or_comm (has w l) (has r l) ∙ p) ∙ ap suc (footprint_comm w r)

-- a line that is in either set is counted already
pub footprint_with_old : (r w : LineSet) (l : ℕ) → (has r l || has w l) ≡ true → footprint (with r l) w ≡ footprint r w
unfolding footprint
footprint_with_old r w l p = count_cong (either (with r l) w) (either r w) lines (λ m h. go m (has w m) refl)
  where
    go : (m : ℕ) (b : Bool) → has w m ≡ b → (has (with r l) m || b) ≡ (has r m || b)
    go m true e = or-true (has (with r l) m) ∙ sym (or-true (has r m))
    go m false e =
        ap (λ (b : Bool). b || false) (with_same r l m (λ q. sym (or-false (has r m)) ∙ ap (◌||◌ (has r m)) (sym e) ∙ ap (either r w) q ∙ p))

pub footprint_with_old_write : (r w : LineSet) (l : ℕ) → (has r l || has w l) ≡ true → footprint r (with w l) ≡ footprint r w
footprint_with_old_write r w l p =
    footprint_comm r (with w l) ∙ footprint_with_old w r l (or_comm (has w l) (has r l) ∙ p) ∙ footprint_comm w r

-- ---- meetings

pub meets_at : (a b : LineSet) (l : ℕ) → has a l ≡ true → has b l ≡ true → l < lines → meets a b ≡ true
unfolding meets
meets_at a b l p q h = any_at (both a b) lines l (and_intro (has a l) (has b l) p q) h

pub meets_none : (a b : LineSet) → ((l : ℕ) → l < lines → (has a l && has b l) ≡ false) → meets a b ≡ false
unfolding meets
meets_none a b p = any_false (both a b) lines p

pub meets_false_at : (a b : LineSet) (l : ℕ) → meets a b ≡ false → l < lines → (has a l && has b l) ≡ false
unfolding meets
meets_false_at a b l p h = any_false_at (both a b) lines l p h

pub meets_comm : (a b : LineSet) → meets a b ≡ meets b a
unfolding meets
meets_comm a b = any_cong (both a b) (both b a) lines (λ l h. and_comm (has a l) (has b l))
