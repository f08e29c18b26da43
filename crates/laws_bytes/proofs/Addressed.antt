-- Accesses by their addresses: which bytes of which doubleword an aligned access has.
use mathlib.Core.Path.{◌≡◌, refl, sym, ap, ◌∙◌}
use mathlib.Core.Bool.{Bool, true, false, cond, ◌&&◌, and-false}
use Prim.Native.Nat.{ℕ, ◌+◌, ◌-◌, ◌/◌, ◌%◌, ◌≤◌, ◌<◌}
use native.Mathlib.Omega.{arith}
use lib.Dec.{eqb, leb, ltb}
use borrow.Author.Tests.{ltb-true, ltb-false, leb-true, leb-false, lt-ltb, le-ltb, le-leb, lt-leb, eqb-true, eqb-false}
use Rattle.base.proofs.Below.{and_left, and_right}
use Rattle.doubleword.specs.Doubleword.{bytes, all_marks, byte, merged, doubleword_of, lowest, part, marks_of, placed}
use Rattle.doubleword.proofs.Laws.{merged_byte}
use Rattle.laws_bytes.specs.Bytes.{among}
use Rattle.laws_bytes.specs.Atomic.{Width, wide, Aligned, Nested, over}
use Rattle.laws_bytes.specs.Atomic.Width.{One, Two, Four, Eight}
use Rattle.laws_bytes.proofs.Bytes.{part_byte, part_above, marks_are, written_byte}

-- ---- the accesses

pub nested : Nested
nested One One a c h g l p q = (omega arith, omega arith)
nested One Two a c h g l p q = (omega arith, omega arith)
nested One Four a c h g l p q = (omega arith, omega arith)
nested One Eight a c h g l p q = (omega arith, omega arith)
nested Two One a c h g l p q = absurd (omega arith)
nested Two Two a c h g l p q = (omega arith, omega arith)
nested Two Four a c h g l p q = (omega arith, omega arith)
nested Two Eight a c h g l p q = (omega arith, omega arith)
nested Four One a c h g l p q = absurd (omega arith)
nested Four Two a c h g l p q = absurd (omega arith)
nested Four Four a c h g l p q = (omega arith, omega arith)
nested Four Eight a c h g l p q = (omega arith, omega arith)
nested Eight One a c h g l p q = absurd (omega arith)
nested Eight Two a c h g l p q = absurd (omega arith)
nested Eight Four a c h g l p q = absurd (omega arith)
nested Eight Eight a c h g l p q = (omega arith, omega arith)

-- an aligned access ends within its doubleword
pub within : (w : Width) (a : ℕ) → Aligned w a → a % 8 + wide w ≤ 8
within One a h = omega arith
within Two a h = omega arith
within Four a h = omega arith
within Eight a h = omega arith

-- its lowest byte, as the events have it: ld and std name none
abbrev pub low : Width → ℕ → ℕ
low One a = lowest 1 a
low Two a = lowest 2 a
low Four a = lowest 4 a
low Eight a = 0

pub low_is : (w : Width) (a : ℕ) → Aligned w a → low w a ≡ lowest (wide w) a
low_is One a h = refl
low_is Two a h = refl
low_is Four a h = refl
low_is Eight a h = omega arith

-- what a store of it writes: marks, and a value
abbrev pub marks : Width → ℕ → ℕ
marks One a = marks_of (lowest 1 a) 1
marks Two a = marks_of (lowest 2 a) 2
marks Four a = marks_of (lowest 4 a) 4
marks Eight a = all_marks

abbrev pub value : Width → ℕ → ℕ → ℕ
value One a x = placed (lowest 1 a) 1 x
value Two a x = placed (lowest 2 a) 2 x
value Four a x = placed (lowest 4 a) 4 x
value Eight a x = x

-- its doubleword then
merged_at : (w : Width) (a x old n : ℕ) → Aligned w a → n < bytes
    → byte (merged (marks w a) old (value w a x)) n ≡ cond (among (low w a) (wide w) n) (byte x (n - low w a)) (byte old n)
merged_at One a x old n h l = written_byte (lowest 1 a) 1 old x n (omega arith) l
merged_at Two a x old n h l = written_byte (lowest 2 a) 2 old x n (omega arith) l
merged_at Four a x old n h l = written_byte (lowest 4 a) 4 old x n (omega arith) l
merged_at Eight a x old n h l =
    let e : n ≡ n - 0 = omega arith in
    merged_byte all_marks old x n l
    ∙ ap (λ (b : Bool). cond b (byte x n) (byte old n)) (marks_are 0 8 n (omega arith) l)
    ∙ ap (λ (k : ℕ). cond (among 0 8 n) (byte x k) (byte old n)) e

-- ---- by addresses

-- u bytes from address a on, in its doubleword
module _ (u a b : ℕ) (h : a % 8 + u ≤ 8) where
  -- an address in the doubleword is one of theirs if its byte is
  there : b / 8 ≡ a / 8 → among (lowest u a) u (lowest 1 b) ≡ among a u b
  there e = go (leb a b) refl (ltb b (a + u)) refl
    where
      go : (p : Bool) → leb a b ≡ p → (q : Bool) → ltb b (a + u) ≡ q → among (lowest u a) u (lowest 1 b) ≡ (p && q)
      go true f true g =
          let l = leb-true a b f in
          let m = ltb-true b (a + u) g in
          simp (le-leb (8 - u - a % 8) (8 - 1 - b % 8) (omega arith), lt-ltb (8 - 1 - b % 8) (8 - u - a % 8 + u) (omega arith))
      go true f false g =
          let l = ltb-false b (a + u) g in
          simp (lt-leb (8 - u - a % 8) (8 - 1 - b % 8) (omega arith))
      go false f q g =
          let l = leb-false a b f in
          simp (le-ltb (8 - 1 - b % 8) (8 - u - a % 8 + u) (omega arith), and-false)

  -- an address of theirs is in the doubleword
  elsewhere : (a / 8 ≡ b / 8 → ⊥) → among a u b ≡ false
  elsewhere n = go (leb a b) refl (ltb b (a + u)) refl
    where
      go : (p : Bool) → leb a b ≡ p → (q : Bool) → ltb b (a + u) ≡ q → (p && q) ≡ false
      go true f true g =
          let l = leb-true a b f in
          let m = ltb-true b (a + u) g in
          let e : a / 8 ≡ b / 8 = omega arith in
          absurd (n e)
      go true f false g = refl
      go false f q g = refl

-- doublewords before and after a store of an aligned access, byte by byte
pub stored_over : (w : Width) (a x : ℕ) → Aligned w a → (f g : ℕ → ℕ)
    → ((d : ℕ) → g d ≡ cond (eqb (doubleword_of a) d) (merged (marks w a) (f d) (value w a x)) (f d))
    → (b : ℕ) → byte (g (doubleword_of b)) (lowest 1 b) ≡ over w a x b (byte (f (doubleword_of b)) (lowest 1 b))
stored_over w a x h f g e b = ap (λ (y : ℕ). byte y (lowest 1 b)) (e (doubleword_of b)) ∙ go (eqb (doubleword_of a) (doubleword_of b)) refl
  where
    old : ℕ
    old = f (doubleword_of b)

    same : (p : Bool) → among a (wide w) b ≡ p → a / 8 ≡ b / 8
        → cond p (byte x (lowest 1 b - lowest (wide w) a)) (byte old (lowest 1 b)) ≡ cond p (byte x (a + wide w - 1 - b)) (byte old (lowest 1 b))
    same false q d = refl
    same true q d =
        let l = leb-true a b (and_left (leb a b) _ q) in
        let m = ltb-true b (a + wide w) (and_right (leb a b) _ q) in
        let i = within w a h in
        let k : lowest 1 b - lowest (wide w) a ≡ a + wide w - 1 - b = omega arith in
        ap (byte x) k

    go : (p : Bool) → eqb (doubleword_of a) (doubleword_of b) ≡ p
        → byte (cond p (merged (marks w a) old (value w a x)) old) (lowest 1 b) ≡ over w a x b (byte old (lowest 1 b))
    go true q =
        let d = eqb-true (doubleword_of a) (doubleword_of b) q in
        merged_at w a x old (lowest 1 b) h (omega arith)
        ∙ ap (λ (k : ℕ). cond (among k (wide w) (lowest 1 b)) (byte x (lowest 1 b - k)) (byte old (lowest 1 b))) (low_is w a h)
        ∙ ap (λ (p : Bool). cond p (byte x (lowest 1 b - lowest (wide w) a)) (byte old (lowest 1 b))) (there (wide w) a b (within w a h) (sym d))
        ∙ same (among a (wide w) b) refl d
    go false q = sym (ap (λ (p : Bool). cond p (byte x (a + wide w - 1 - b)) (byte old (lowest 1 b))) (elsewhere (wide w) a b (within w a h) (eqb-false _ _ q)))

-- the bytes of a load of an aligned access
pub loaded_at : (u : Width) (c : ℕ) → Aligned u c → (f : ℕ → ℕ) (i : ℕ)
    → byte (part (low u c) (wide u) (f (doubleword_of c))) i
    ≡ cond (ltb i (wide u)) (byte (f (doubleword_of (c + wide u - 1 - i))) (lowest 1 (c + wide u - 1 - i))) 0
loaded_at u c h f i = go (ltb i (wide u)) refl
  where
    go : (p : Bool) → ltb i (wide u) ≡ p
        → byte (part (low u c) (wide u) (f (doubleword_of c))) i ≡ cond p (byte (f (doubleword_of (c + wide u - 1 - i))) (lowest 1 (c + wide u - 1 - i))) 0
    go true p =
        let l = ltb-true i (wide u) p in
        let n = within u c h in
        let d : c / 8 ≡ (c + wide u - 1 - i) / 8 = omega arith in
        let k : lowest (wide u) c + i ≡ lowest 1 (c + wide u - 1 - i) = omega arith in
        part_byte (low u c) (wide u) (f (doubleword_of c)) i l
        ∙ (λ j. byte (f (d j)) (low_is u c h j + i))
        ∙ ap (byte (f (doubleword_of (c + wide u - 1 - i)))) k
    go false p = part_above (low u c) (wide u) (f (doubleword_of c)) i (ltb-false i (wide u) p)
