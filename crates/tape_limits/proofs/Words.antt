-- Laws of a record's bytes by fours: four bytes have no bit that their limits have not where each is within its own.
use mathlib.Core.Path.{◌≡◌, refl, sym, ap, ◌∙◌}
use mathlib.Core.Bool.{Bool, true, false, not, ◌&&◌, ◌||◌, false≢true, and-true}
use mathlib.Core.List.{List}
use Prim.Native.Nat.{ℕ, ◌+◌, ◌*◌, ◌≤◌, ◌<◌}
use native.Mathlib.Omega.{arith}
use lib.Bits.{bit_or, or_block, or_lt}
use lib.Dec.{eqb, leb, ltb}
use lib.ListN.{get_or}
use borrow.Author.Tests.{eq-eqb, eqb-true, le-leb, ltb-true}
use Rattle.base.specs.Below.{all_below}
use Rattle.base.proofs.Below.{all_at, and_left, and_right}
use Rattle.tape.specs.Tape.{byte, four}
use Rattle.tape_limits.specs.Inner.{word, covered, ones, masks, within}
use Rattle.tape_limits.proofs.Bounds.{both, agree}

-- ---- a byte and its limit, by computation

same : Bool → Bool → Bool
same true b = b
same false b = not b

same_is : (a b : Bool) → same a b ≡ true → a ≡ b
unfolding same
same_is true b p = sym p
same_is false true p = absurd (false≢true p)
same_is false false p = refl

tells : ℕ → ℕ → Bool
tells l a = same (eqb (bit_or a l) l) (leb a l)

all_tell : all_below (λ l. not (ones l) || all_below (tells l) 256) 256 ≡ true
unfolding all_below ones tells same
all_tell = refl

if_ones : (a b : Bool) → (not a || b) ≡ true → a ≡ true → b ≡ true
if_ones true b p q = p
if_ones false b p q = absurd (false≢true q)

ones_lt : (l : ℕ) → ones l ≡ true → l < 256
unfolding ones
ones_lt l p = ltb-true l 256 (and_left (ltb l 256) _ p)

byte_covered : (a l : ℕ) → a < 256 → ones l ≡ true → eqb (bit_or a l) l ≡ leb a l
unfolding tells
byte_covered a l h p =
    let t = all_at (λ l. not (ones l) || all_below (tells l) 256) 256 l all_tell (ones_lt l p) in
    same_is _ _ (all_at (tells l) 256 a (if_ones (ones l) _ t p) h)

-- ---- one byte more

eqb_block : (x r y s : ℕ) → r < 256 → s < 256 → eqb (x * 256 + r) (y * 256 + s) ≡ (eqb x y && eqb r s)
eqb_block x r y s h g =
    agree _ _
    (λ e. let q = eqb-true (x * 256 + r) (y * 256 + s) e in both (eq-eqb x y (omega arith)) (eq-eqb r s (omega arith)))
    (λ e.
    let p = eqb-true x y (and_left (eqb x y) (eqb r s) e) in
    let q = eqb-true r s (and_right (eqb x y) (eqb r s) e) in
    eq-eqb (x * 256 + r) (y * 256 + s) (omega arith))

one_more : (x r y s : ℕ) → r < 256 → s < 256 → eqb (bit_or (x * 256 + r) (y * 256 + s)) (y * 256 + s) ≡ (eqb (bit_or x y) y && eqb (bit_or r s) s)
one_more x r y s h g =
    ap (λ (z : ℕ). eqb z (y * 256 + s)) (or_block 8 x y r s h g) ∙ eqb_block (bit_or x y) (bit_or r s) y s (or_lt 8 r s h g) g

-- four bytes, the highest first
nested : (a b c d : ℕ) → four a b c d ≡ ((a * 256 + b) * 256 + c) * 256 + d
nested a b c d = omega arith

four_covered : (a b c d l m n o : ℕ) → a < 256 → b < 256 → c < 256 → d < 256 → ones l ≡ true → ones m ≡ true → ones n ≡ true → ones o ≡ true
    → covered (four a b c d) (four l m n o) ≡ (((leb a l && leb b m) && leb c n) && leb d o)
unfolding covered
four_covered a b c d l m n o ha hb hc hd hl hm hn ho =
    (λ j. eqb (bit_or (nested a b c d j) (nested l m n o j)) (nested l m n o j))
    ∙ one_more ((a * 256 + b) * 256 + c) d ((l * 256 + m) * 256 + n) o hd (ones_lt o ho)
    ∙ ap (λ (z : Bool). z && eqb (bit_or d o) o)
    (one_more (a * 256 + b) c (l * 256 + m) n hc (ones_lt n hn) ∙ ap (λ (z : Bool). z && eqb (bit_or c n) n) (one_more a b l m hb (ones_lt m hm)))
    ∙ (λ j. ((byte_covered a l ha hl j && byte_covered b m hb hm j) && byte_covered c n hc hn j) && byte_covered d o hd ho j)

-- ---- a record

joined : (a b c d r : Bool) → ((((a && b) && c) && d) && r) ≡ (a && (b && (c && (d && r))))
joined false b c d r = refl
joined true false c d r = refl
joined true true false d r = refl
joined true true true d r = refl

three : (a b c r : Bool) → (((a && b) && c) && r) ≡ (a && (b && (c && r)))
three false b c r = refl
three true false c r = refl
three true true c r = refl

module _ (bs ls : List ℕ) (small : (i : ℕ) → byte bs i < 256) (m : masks ls ≡ true) where
  abbrev passes : ℕ → Bool
  passes i = leb (byte bs i) (get_or ls i 0)

  limit_ones : (i : ℕ) → i < 16 → ones (get_or ls i 0) ≡ true
  unfolding masks
  limit_ones i h = all_at (λ i. ones (get_or ls i 0)) 16 i (and_right (all_below (λ i. eqb (get_or ls i 0) 255) 3) _ m) h

  any : (i : ℕ) → i < 3 → passes i ≡ true
  unfolding masks
  any i h =
      let e = eqb-true (get_or ls i 0) 255 (all_at (λ i. eqb (get_or ls i 0) 255) 3 i (and_left _ (all_below (λ i. ones (get_or ls i 0)) 16) m) h) in
      le-leb (byte bs i) (get_or ls i 0) (omega (arith, small i, e))

  abbrev fours : ℕ → Bool
  fours i = ((passes (i + 3) && passes (i + 2)) && passes (i + 1)) && passes i

  word_within : (i : ℕ) → i + 4 ≤ 16 → covered (word bs i) (word ls i) ≡ fours i
  unfolding word
  word_within i h =
      four_covered _ _ _ _ _ _ _ _ (small (i + 3)) (small (i + 2)) (small (i + 1)) (small i)
      (limit_ones (i + 3) (omega arith)) (limit_ones (i + 2) (omega arith)) (limit_ones (i + 1) (omega arith)) (limit_ones i (omega arith))

  pub within_is : (((covered (word bs 12) (word ls 12) && covered (word bs 8) (word ls 8)) && covered (word bs 4) (word ls 4)) && passes 3) ≡ within bs ls
  unfolding within all_below
  within_is =
      let p = passes in
      let none : (p 2 && (p 1 && (p 0 && true))) ≡ true = both (any 2 (omega arith)) (both (any 1 (omega arith)) (both (any 0 (omega arith)) refl)) in
      let low = joined (p 7) (p 6) (p 5) (p 4) (p 3) ∙ ap (λ (b : Bool). p 7 && (p 6 && (p 5 && (p 4 && b)))) (sym (and-true (p 3)) ∙ ap (λ (b : Bool). p 3 && b) (sym none)) in
      let middle = joined (p 11) (p 10) (p 9) (p 8) (fours 4 && p 3) ∙ ap (λ (b : Bool). p 11 && (p 10 && (p 9 && (p 8 && b)))) low in
      let high = joined (p 15) (p 14) (p 13) (p 12) (fours 8 && (fours 4 && p 3)) ∙ ap (λ (b : Bool). p 15 && (p 14 && (p 13 && (p 12 && b)))) middle in
      (λ j. ((word_within 12 (omega arith) j && word_within 8 (omega arith) j) && word_within 4 (omega arith) j) && p 3)
      ∙ three (fours 12) (fours 8) (fours 4) (p 3) ∙ high
