-- The limits of a record's bytes: the table that the code has is what the rows say, and a record is within them where the reader takes it.
use mathlib.Core.Path.{◌≡◌, refl, sym, ap, ◌∙◌}
use mathlib.Core.Bool.{Bool, true, false, not, cond, ◌&&◌, ◌||◌, false≢true}
use mathlib.Core.List.{List, [], ◌∷◌, map}
use Prim.Native.Nat.{ℕ, zero, suc, ◌-◌, ◌≤◌, ◌<◌}
use native.Mathlib.Omega.{arith}
use lib.Dec.{eqb, leb}
use lib.ListN.{get_or, length}
use borrow.Author.Tests.{eq-eqb, eqb-true, le-leb, leb-true}
use Rattle.base.specs.Below.{all_below}
use Rattle.base.proofs.Below.{all_at, and_intro, and_left, and_right}
use Rattle.kinds.specs.Rows.{rows, kind_right, no_row, row, used, spans}
use Rattle.kinds.specs.declared.Row.{Row}
use Rattle.tape.specs.Tape.{record_size, first_byte, byte, two, four, fields_at, fixed_zero, unused_clear, judged, of_kind, read, number}
use Rattle.tape.specs.FirstBad.{read_number}
use Rattle.tape_limits.specs.Inner.{most, limits, table, ones, masks, within}
use Rattle.tape.specs.declared.Read.{Read}
use Rattle.tape.specs.declared.Read.TheVariants.{Refused}
use Rattle.tape.proofs.Laws.{of_a_kind}

-- the table has the limits of each kind
each_row : (rs : List Row) (k : ℕ) → k < length rs → get_or (map limits rs) k [] ≡ limits (get_or rs k no_row)
each_row [] k h = absurd (omega arith)
each_row (r ∷ rs) zero h = refl
each_row (r ∷ rs) (suc k) h = each_row rs k (omega arith)

pub table_at : (k : ℕ) → 1 ≤ k → k ≤ 26 → get_or table (k - 1) [] ≡ limits (row k)
unfolding table rows row
table_at zero lo hi = absurd (omega arith)
table_at (suc k) lo hi = let e : suc k - 1 ≡ k = omega arith in ap (λ (n : ℕ). get_or table n []) e ∙ each_row rows k (omega arith)

-- the limits of each kind are ones from some bit down: by computation
all_masks : all_below (λ k. masks (get_or table k [])) 26 ≡ true
unfolding table rows limits masks ones all_below
all_masks = refl

pub masks_at : (k : ℕ) → k < 26 → masks (get_or table k []) ≡ true
masks_at k h = all_at (λ i. masks (get_or table i [])) 26 k all_masks h

-- ---- a record within the limits

pub both : {a b : Bool} → a ≡ true → b ≡ true → (a && b) ≡ true
both p q = and_intro _ _ p q

pub agree : (a b : Bool) → (a ≡ true → b ≡ true) → (b ≡ true → a ≡ true) → a ≡ b
agree true b p q = sym (p refl)
agree false true p q = q refl
agree false false p q = refl

-- a byte that must be 0; one that is used or must be 0
none : (b : ℕ) → leb b 0 ≡ true → eqb b 0 ≡ true
none b p = let q = leb-true b 0 p in eq-eqb b 0 (omega arith)

none_is : (b : ℕ) → eqb b 0 ≡ true → leb b 0 ≡ true
none_is b p = let q = eqb-true b 0 p in le-leb b 0 (omega arith)

used_or_none : (u : Bool) (b : ℕ) → leb b (most u) ≡ true → (u || eqb b 0) ≡ true
used_or_none true b p = refl
used_or_none false b p = none b p

none_or_used : (u : Bool) (b : ℕ) → b < 256 → (u || eqb b 0) ≡ true → leb b (most u) ≡ true
none_or_used true b h p = le-leb b 255 (omega arith)
none_or_used false b h p = none_is b p

-- a field of two or four bytes is 0 where its bytes are
two_joined : (u : Bool) (a b : ℕ) → leb a (most u) ≡ true → leb b (most u) ≡ true → (u || eqb (two a b) 0) ≡ true
two_joined true a b p q = refl
two_joined false a b p q =
    let x = leb-true a 0 p in
    let y = leb-true b 0 q in
    eq-eqb (two a b) 0 (omega arith)

two_apart : (u : Bool) (a b : ℕ) → a < 256 → b < 256 → (u || eqb (two a b) 0) ≡ true → (leb a (most u) ≡ true) × (leb b (most u) ≡ true)
two_apart true a b ha hb p = (le-leb a 255 (omega arith), le-leb b 255 (omega arith))
two_apart false a b ha hb p = let q = eqb-true (two a b) 0 p in (le-leb a 0 (omega arith), le-leb b 0 (omega arith))

halves : (u : Bool) (a b c d : ℕ) → (u || eqb (four a b c d) 0) ≡ ((u || eqb (two a b) 0) && (u || eqb (two c d) 0))
halves true a b c d = refl
halves false a b c d =
    agree _ _
    (λ p. let q = eqb-true (four a b c d) 0 p in both (eq-eqb (two a b) 0 (omega arith)) (eq-eqb (two c d) 0 (omega arith)))
    (λ p.
    let x = eqb-true (two a b) 0 (and_left (eqb (two a b) 0) (eqb (two c d) 0) p) in
    let y = eqb-true (two c d) 0 (and_right (eqb (two a b) 0) (eqb (two c d) 0) p) in
    eq-eqb (four a b c d) 0 (omega arith))

-- the nine tests of a record, each by itself
each : (a b c d e f g h i : Bool) → ((a && b && c) && (d && e && f && g && h && i)) ≡ true
    → (a ≡ true) × (b ≡ true) × (c ≡ true) × (d ≡ true) × (e ≡ true) × (f ≡ true) × (g ≡ true) × (h ≡ true) × (i ≡ true)
each true true true true true true true true true p = (refl, refl, refl, refl, refl, refl, refl, refl, refl)
each true true true true true true true true false p = absurd (false≢true p)
each true true true true true true true false i p = absurd (false≢true p)
each true true true true true true false h i p = absurd (false≢true p)
each true true true true true false g h i p = absurd (false≢true p)
each true true true true false f g h i p = absurd (false≢true p)
each true true true false e f g h i p = absurd (false≢true p)
each true true false d e f g h i p = absurd (false≢true p)
each true false c d e f g h i p = absurd (false≢true p)
each false b c d e f g h i p = absurd (false≢true p)

module _ (bs : List ℕ) (r : Row) (small : (i : ℕ) → byte bs i < 256) where
  abbrev pub passes : ℕ → Bool
  unfolding limits
  passes i = leb (byte bs i) (get_or (limits r) i 0)

  abbrev pub clear : Bool
  unfolding fields_at
  clear = fixed_zero bs && unused_clear r (fields_at bs)

  passes_clear : ((i : ℕ) → i < 16 → passes i ≡ true) → clear ≡ true
  unfolding limits unused_clear fields_at
  passes_clear at =
      let z = both (both (none (byte bs 7) (at 7 (omega arith))) (none (byte bs 14) (at 14 (omega arith)))) (none (byte bs 15) (at 15 (omega arith))) in
      let x = used_or_none (used r.x) (byte bs 3) (at 3 (omega arith)) in
      let ra = used_or_none (used r.ra) (byte bs 4) (at 4 (omega arith)) in
      let rb = used_or_none (used r.rb) (byte bs 5) (at 5 (omega arith)) in
      let high = two_joined (spans r.index) (byte bs 8) (byte bs 9) (at 8 (omega arith)) (at 9 (omega arith)) in
      let low = two_joined (spans r.index) (byte bs 10) (byte bs 11) (at 10 (omega arith)) (at 11 (omega arith)) in
      let index = halves (spans r.index) (byte bs 8) (byte bs 9) (byte bs 10) (byte bs 11) ∙ both high low in
      let si = two_joined r.si (byte bs 12) (byte bs 13) (at 12 (omega arith)) (at 13 (omega arith)) in
      both z (both (both (both (both (both x ra) rb) (at 6 (omega arith))) index) si)

  clear_passes : clear ≡ true → all_below passes 16 ≡ true
  unfolding limits unused_clear fields_at all_below
  clear_passes p =
      let t = each (eqb (byte bs 7) 0) (eqb (byte bs 14) 0) (eqb (byte bs 15) 0) (used r.x || eqb (byte bs 3) 0) (used r.ra || eqb (byte bs 4) 0)
      (used r.rb || eqb (byte bs 5) 0) (leb (byte bs 6) r.flags) (spans r.index || eqb (four (byte bs 8) (byte bs 9) (byte bs 10) (byte bs 11)) 0)
      (r.si || eqb (two (byte bs 12) (byte bs 13)) 0) p in
      let high = spans r.index || eqb (two (byte bs 8) (byte bs 9)) 0 in
      let low = spans r.index || eqb (two (byte bs 10) (byte bs 11)) 0 in
      let h : (high && low) ≡ true = sym (halves (spans r.index) (byte bs 8) (byte bs 9) (byte bs 10) (byte bs 11)) ∙ t.7 in
      let a = two_apart (spans r.index) (byte bs 8) (byte bs 9) (small 8) (small 9) (and_left high low h) in
      let b = two_apart (spans r.index) (byte bs 10) (byte bs 11) (small 10) (small 11) (and_right high low h) in
      let c = two_apart r.si (byte bs 12) (byte bs 13) (small 12) (small 13) t.8 in
      both (none_is (byte bs 15) t.2)
      (both (none_is (byte bs 14) t.1)
      (both c.1
      (both c.0
      (both b.1
      (both b.0
      (both a.1
      (both a.0
      (both (none_is (byte bs 7) t.0)
      (both t.6
      (both (none_or_used (used r.rb) (byte bs 5) (small 5) t.5)
      (both (none_or_used (used r.ra) (byte bs 4) (small 4) t.4)
      (both (none_or_used (used r.x) (byte bs 3) (small 3) t.3)
      (both (any 2) (both (any 1) (both (any 0) refl)))))))))))))))
    where
      any : (i : ℕ) → leb (byte bs i) 255 ≡ true
      any i = le-leb (byte bs i) 255 (omega (arith, small i))

  within_clear : all_below passes 16 ≡ clear
  within_clear = agree _ _ (λ p. passes_clear (λ i h. all_at passes 16 i p h)) clear_passes

-- the reader takes a record of a right kind that begins right and is within its limits
module _ (bs : List ℕ) (small : (i : ℕ) → byte bs i < 256) (l : length bs ≡ record_size) where
  pub good_in : kind_right (byte bs 1) ≡ true → (eqb (byte bs 0) first_byte && within bs (limits (row (byte bs 1)))) ≡ eqb (read_number bs) 0
  unfolding read within fields_at judged all_below limits
  good_in k =
      simp (eq-eqb (length bs) record_size l) (ap (λ (w : Bool). eqb (byte bs 0) first_byte && w) (within_clear bs (row (byte bs 1)) small) ∙ go (eqb (byte bs 0) first_byte) (clear bs (row (byte bs 1)) small) _ (sym (of_a_kind (fields_at bs) (fixed_zero bs) _ k refl)))
    where
      go : (b c : Bool) (x : Read) → x ≡ judged (fields_at bs) c → (b && c) ≡ eqb (number (cond (not b) (Refused 7) x)) 0
      go true true x e = sym (ap (λ (y : Read). eqb (number y) 0) e)
      go true false x e = sym (ap (λ (y : Read). eqb (number y) 0) e)
      go false c x e = refl

  pub good_out : kind_right (byte bs 1) ≡ false → false ≡ eqb (read_number bs) 0
  unfolding read of_kind fields_at
  good_out k = simp (eq-eqb (length bs) record_size l, k) (go (eqb (byte bs 0) first_byte))
    where
      go : (b : Bool) → false ≡ eqb (number (cond (not b) (Refused 7) (Refused 8))) 0
      go true = refl
      go false = refl
