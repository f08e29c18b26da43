-- The first record that has a number: here, later, or none; and what is known of all records where none has one.
use mathlib.Core.Path.{◌≡◌, refl, sym, ap, ◌∙◌}
use mathlib.Core.Bool.{Bool, true, false, not, cond}
use mathlib.Core.Logic.{◌⊎◌, inl, inr}
use mathlib.Core.List.{List, []}
use Prim.Native.Nat.{ℕ, zero, suc, ◌+◌, ◌-◌, ◌/◌, ◌%◌, ◌<◌, ◌≤◌}
use native.Mathlib.Omega.{arith}
use lib.Dec.{eqb, ltb}
use lib.ListN.{length, drop, get_or}
use Rattle.std.proofs.Common.{Option, Some, None, drop-drop, ◌*◌}
use Rattle.std.specs.Simd.{first_chunks}
use Rattle.std.specs.List.{position_from, position}
use Rattle.std.proofs.lemmas.Iterator.Adapters.{position_from-zero}
use Rattle.std.proofs.lemmas.List.Quantifiers.{position-Some}
use borrow.Author.Tests.{eq-eqb, ne_eqb, eqb-true, eqb-false, ltb-true, ltb-false}
use Rattle.tape.specs.Tape.{record_size, record_at}
use Rattle.tape.specs.FirstBad.{found, first_bad, read_number, bad_record}
use Rattle.tape.specs.declared.Found.{Found}

module _ (f : List ℕ → ℕ) (tape : List ℕ) where
  pub bad_none : (k n : ℕ) → n ≤ 0 → first_bad f tape k n ≡ found 0 k
  unfolding first_bad
  bad_none k zero h = refl
  bad_none k (suc n) h = absurd (omega arith)

  pub bad_here : (k n : ℕ) → 0 < n → (f (record_at tape k) ≡ 0 → ⊥) → first_bad f tape k n ≡ found (f (record_at tape k)) k
  unfolding first_bad
  bad_here k zero h p = absurd (omega arith)
  bad_here k (suc n) h p = simp (ne_eqb (f (record_at tape k)) 0 p)

  pub bad_later : (k n : ℕ) → 0 < n → f (record_at tape k) ≡ 0 → first_bad f tape k n ≡ first_bad f tape (k + 1) (n - 1)
  unfolding first_bad
  bad_later k zero h p = absurd (omega arith)
  bad_later k (suc n) h p = let e : n ≡ suc n - 1 = omega arith in simp (eq-eqb (f (record_at tape k)) 0 p) (ap (first_bad f tape (k + 1)) e)

  -- where none is bad each has no number
  all_good : (n k i : ℕ) → (first_bad f tape k n).answer ≡ 0 → i < n → f (record_at tape (k + i)) ≡ 0
  unfolding first_bad
  all_good zero k i z h = absurd (omega arith)
  all_good (suc n) k i z h = go (eqb (f (record_at tape k)) 0) refl (λ q j g. all_good n (k + 1) j q g) i h
    where
      go : (b : Bool) → eqb (f (record_at tape k)) 0 ≡ b
          → ((first_bad f tape (k + 1) n).answer ≡ 0 → (j : ℕ) → j < n → f (record_at tape (k + 1 + j)) ≡ 0)
          → (j : ℕ) → j < suc n → f (record_at tape (k + j)) ≡ 0
      go true p rest zero g = let e : k + 0 ≡ k = omega arith in ap (λ (m : ℕ). f (record_at tape m)) e ∙ eqb-true _ 0 p
      go true p rest (suc j) g =
          let e : k + suc j ≡ k + 1 + j = omega arith in
          ap (λ (m : ℕ). f (record_at tape m)) e ∙ rest (simp p at z) j (omega arith)
      go false p rest j g = absurd (eqb-false _ 0 p (simp p at z))

  pub each_good : (n i : ℕ) → (first_bad f tape 0 n).answer ≡ 0 → i < n → f (record_at tape i) ≡ 0
  each_good n i z h = let e : i ≡ 0 + i = omega arith in ap (λ (m : ℕ). f (record_at tape m)) e ∙ all_good n 0 i z h

  -- and the other way
  pub none_bad : (n k : ℕ) → ((i : ℕ) → i < n → f (record_at tape (k + i)) ≡ 0) → first_bad f tape k n ≡ found 0 (k + n)
  unfolding first_bad
  none_bad zero k g = let e : k ≡ k + 0 = omega arith in ap (found 0) e
  none_bad (suc n) k g =
      let a : k + 0 ≡ k = omega arith in
      let p : f (record_at tape k) ≡ 0 = sym (ap (λ (m : ℕ). f (record_at tape m)) a) ∙ g 0 (omega arith) in
      let e : k + 1 + n ≡ k + suc n = omega arith in
      simp (eq-eqb (f (record_at tape k)) 0 p)
      (none_bad n (k + 1) (λ i h. let b : k + 1 + i ≡ k + suc i = omega arith in ap (λ (m : ℕ). f (record_at tape m)) b ∙ g (suc i) (omega arith)) ∙ ap (found 0) e)

  -- the one that is found has its number, and those before it have none
  abbrev pub Is_first : ℕ → ℕ → Found → Type 0
  Is_first k n x = (x.index < k + n) × (f (record_at tape x.index) ≡ x.answer) × ((i : ℕ) → k ≤ i → i < x.index → f (record_at tape i) ≡ 0)

  -- from one place earlier on
  before : (k i m : ℕ) → f (record_at tape k) ≡ 0 → ((j : ℕ) → k + 1 ≤ j → j < m → f (record_at tape j) ≡ 0) → k ≤ i → i < m → f (record_at tape i) ≡ 0
  before k i m z later lo hi = go (ltb k i) refl
    where
      go : (c : Bool) → ltb k i ≡ c → f (record_at tape i) ≡ 0
      go true p = later i (let q = ltb-true k i p in omega arith) hi
      go false p = let e : i ≡ k = let q = ltb-false k i p in omega arith in ap (λ (j : ℕ). f (record_at tape j)) e ∙ z

  pub first_found : (n k : ℕ) → ((first_bad f tape k n).answer ≡ 0 → ⊥) → Is_first k n (first_bad f tape k n)
  unfolding first_bad
  first_found zero k b = absurd (b refl)
  first_found (suc n) k b = go (eqb (f (record_at tape k)) 0) refl (first_found n (k + 1)) b
    where
      go : (c : Bool) → eqb (f (record_at tape k)) 0 ≡ c → (((first_bad f tape (k + 1) n).answer ≡ 0 → ⊥) → Is_first (k + 1) n (first_bad f tape (k + 1) n))
          → ((cond c (first_bad f tape (k + 1) n) (found (f (record_at tape k)) k)).answer ≡ 0 → ⊥)
          → Is_first k (suc n) (cond c (first_bad f tape (k + 1) n) (found (f (record_at tape k)) k))
      go true p rest b =
          let r = rest b in
          (omega (arith, r.0), r.1, λ i lo hi. before k i (first_bad f tape (k + 1) n).index (eqb-true _ 0 p) r.2 lo hi)
      go false p rest b = (omega arith, refl, λ i lo hi. absurd (omega arith))

-- the same by its place among the records as the code takes them
abbrev bad : (List ℕ → ℕ) → List ℕ → Bool
bad f r = not (eqb (f r) 0)

abbrev found_at : (List ℕ → ℕ) → List ℕ → ℕ → Option ℕ → Found
found_at f tape n (Some i) = found (f (record_at tape i)) i
found_at f tape n None = found 0 n

from_place : (f : List ℕ → ℕ) (tape : List ℕ) (n k : ℕ)
    → first_bad f tape k n ≡ found_at f tape (k + n) (position_from (bad f) k (first_chunks record_size n (drop (record_size * k) tape)))
unfolding first_bad
from_place f tape zero k = let e : k ≡ k + 0 = omega arith in ap (found 0) e
from_place f tape (suc n) k =
    let a : k + 1 + n ≡ k + suc n = omega arith in
    let b : record_size * (k + 1) ≡ record_size * k + record_size = omega arith in
    let c : drop (record_size * (k + 1)) tape ≡ drop record_size (drop (record_size * k) tape) = ap (λ (j : ℕ). drop j tape) b ∙ sym (drop-drop record_size (record_size * k) tape) in
    let o = position_from (bad f) (k + 1) (first_chunks record_size n (drop record_size (drop (record_size * k) tape))) in
    go (eqb (f (record_at tape k)) 0) refl o (from_place f tape n (k + 1) ∙ (λ j. found_at f tape (a j) (position_from (bad f) (k + 1) (first_chunks record_size n (c j)))))
  where
    go : (b : Bool) → eqb (f (record_at tape k)) 0 ≡ b
        → {x : Found} (o : Option ℕ) → x ≡ found_at f tape (k + suc n) o
        → cond (eqb (f (record_at tape k)) 0) x (found (f (record_at tape k)) k) ≡ found_at f tape (k + suc n) (cond (not (eqb (f (record_at tape k)) 0)) (Some k) o)
    go true p o e = simp p e
    go false p o e = simp p

-- a record of a tape as the code takes it
chunk_from : (tape : List ℕ) (n k i : ℕ) → i < n → get_or (first_chunks record_size n (drop (record_size * k) tape)) i [] ≡ record_at tape (k + i)
chunk_from tape zero k i h = absurd (omega arith)
chunk_from tape (suc n) k zero h = let e : k ≡ k + 0 = omega arith in ap (record_at tape) e
chunk_from tape (suc n) k (suc i) h =
    let e : k + 1 + i ≡ k + suc i = omega arith in
    let b : record_size * k + record_size ≡ record_size * (k + 1) = omega arith in
    (λ j. get_or (first_chunks record_size n ((drop-drop record_size (record_size * k) tape ∙ ap (λ (m : ℕ). drop m tape) b) j)) i [])
    ∙ chunk_from tape n (k + 1) i (omega arith) ∙ ap (record_at tape) e

pub chunk_is : (tape : List ℕ) (n i : ℕ) → i < n → get_or (first_chunks record_size n tape) i [] ≡ record_at tape i
chunk_is tape n i h = let e : 0 + i ≡ i = omega arith in chunk_from tape n 0 i h ∙ ap (record_at tape) e

length_chunks : (n : ℕ) (tape : List ℕ) → length (first_chunks record_size n tape) ≡ n
length_chunks zero tape = refl
length_chunks (suc n) tape = ap suc (length_chunks n (drop record_size tape))

-- what is found by the place of the first bad record
abbrev pub placed : (List ℕ → ℕ) → List (List ℕ) → Option ℕ → Found
placed f rs (Some i) = found (f (get_or rs i [])) i
placed f rs None = found 0 (length rs)

pub by_place : (f : List ℕ → ℕ) (tape : List ℕ) (n : ℕ)
    → let rs = first_chunks record_size n tape in first_bad f tape 0 n ≡ placed f rs (position (λ r. not (eqb (f r) 0)) rs)
by_place f tape n =
    let a : 0 + n ≡ n = omega arith in
    from_place f tape n 0
    ∙ ap (λ (m : ℕ). found_at f tape m (position_from (bad f) 0 rs)) a
    ∙ ap (found_at f tape n) (sym (position_from-zero (bad f) rs)) ∙ go (position (bad f) rs) refl
  where
    rs : List (List ℕ)
    rs = first_chunks record_size n tape

    go : (o : Option ℕ) → position (bad f) rs ≡ o → found_at f tape n o ≡ placed f rs o
    go (Some i) p =
        let h : i < n = let q = (position-Some (bad f) rs i [] p).0 in let l = length_chunks n tape in omega arith in
        ap (λ (r : List ℕ). found (f r) i) (sym (chunk_is tape n i h))
    go None p = ap (found 0) (sym (length_chunks n tape))

-- the records up to the one that is found have no number; it stands among all, or behind them where none is bad
pub up_to : (f : List ℕ → ℕ) (tape : List ℕ) (n : ℕ) → let x = first_bad f tape 0 n in
    (x.index ≤ n) × ((i : ℕ) → i < x.index → f (record_at tape i) ≡ 0)
    × (((x.answer ≡ 0) × (x.index ≡ n)) ⊎ ((x.answer ≡ 0 → ⊥) × (x.index < n) × (f (record_at tape x.index) ≡ x.answer)))
up_to f tape n = go (eqb (first_bad f tape 0 n).answer 0) refl
  where
    x : Found
    x = first_bad f tape 0 n

    go : (b : Bool) → eqb x.answer 0 ≡ b → (x.index ≤ n) × ((i : ℕ) → i < x.index → f (record_at tape i) ≡ 0)
        × (((x.answer ≡ 0) × (x.index ≡ n)) ⊎ ((x.answer ≡ 0 → ⊥) × (x.index < n) × (f (record_at tape x.index) ≡ x.answer)))
    go true p =
        let z = eqb-true x.answer 0 p in
        let e : x.index ≡ 0 + n = ap (λ (y : Found). y.index) (none_bad f tape n 0 (λ i h. all_good f tape n 0 i z h)) in
        (omega arith, (λ i h. each_good f tape n i z (omega arith)), inl (z, omega arith))
    go false p =
        let w = eqb-false x.answer 0 p in
        let g = first_found f tape n 0 w in
        let h : x.index < n = let a : x.index < 0 + n = g.0 in omega arith in
        (omega arith, (λ i l. g.2 i (omega arith) l), inr (w, h, g.1))

-- of a tape without a bad record: its length is right, and none of its records is bad
pub whole_length : (tape : List ℕ) → (bad_record tape).answer ≡ 0 → length tape % record_size ≡ 0
unfolding bad_record
whole_length tape z = go (eqb (length tape % record_size) 0) refl
  where
    go : (b : Bool) → eqb (length tape % record_size) 0 ≡ b → length tape % record_size ≡ 0
    go true p = eqb-true _ 0 p
    go false p = let o : ◌≡◌ {A = ℕ} 6 0 = simp p at z in absurd (omega arith)

pub all_judged : (tape : List ℕ) → (bad_record tape).answer ≡ 0 → (first_bad read_number tape 0 (length tape / record_size)).answer ≡ 0
unfolding bad_record
all_judged tape z = simp (eq-eqb (length tape % record_size) 0 (whole_length tape z)) at z
