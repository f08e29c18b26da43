-- A test of all numbers below a bound, each at its place of a list, is the test of the list's items there.
use mathlib.Core.Path.{◌≡◌, refl, sym, ap, ◌∙◌}
use mathlib.Core.Bool.{Bool, ◌&&◌, and_assoc, and_comm}
use mathlib.Core.List.{List, [], ◌∷◌}
use Prim.Native.Nat.{ℕ, zero, suc, ◌+◌, ◌-◌, ◌≤◌}
use native.Mathlib.Nat.{add-zero}
use native.Mathlib.Omega.{arith}
use lib.Dec.{eqb}
use lib.ListN.{length, get_or, take, drop, replicate}
use lib.Pointwise.{pointwise}
use Rattle.std.proofs.lemmas.List.{get_or-take, get_or-drop, length-take-le, length-drop}
use Rattle.std.specs.List.{list_all, range_with_len}
use Rattle.base.specs.Below.{all_below}
use Rattle.base.proofs.Below.{all_cong}

-- counting from below instead of from above
pub all_low : (f : ℕ → Bool) (n : ℕ) → all_below f (suc n) ≡ (f 0 && all_below (λ i. f (suc i)) n)
unfolding all_below
all_low f zero = refl
all_low f (suc n) =
    let a = f (suc n) in
    let r = all_below (λ i. f (suc i)) n in
    ap (◌&&◌ a) (all_low f n) ∙ sym (and_assoc a (f 0) r) ∙ ap (λ (b : Bool). b && r) (and_comm a (f 0)) ∙ and_assoc (f 0) a r

module _ {X : Type 0} (p : X → Bool) (d : X) where
  -- all items
  pub all_list : (xs : List X) → all_below (λ k. p (get_or xs k d)) (length xs) ≡ list_all p xs
  unfolding all_below
  all_list [] = refl
  all_list (x ∷ xs) = all_low (λ k. p (get_or (x ∷ xs) k d)) (length xs) ∙ ap (◌&&◌ (p x)) (all_list xs)

  -- as many as are known
  pub all_listed : (xs : List X) (n : ℕ) → length xs ≡ n → all_below (λ k. p (get_or xs k d)) n ≡ list_all p xs
  all_listed xs n e = ap (all_below (λ k. p (get_or xs k d))) (sym e) ∙ all_list xs

  -- the first n
  pub all_taken : (xs : List X) (n : ℕ) → n ≤ length xs → all_below (λ k. p (get_or xs k d)) n ≡ list_all p (take n xs)
  all_taken xs n h =
      all_cong _ _ n (λ k l. ap p (sym (get_or-take n xs k d l))) ∙ all_listed (take n xs) n (length-take-le n xs h)

  -- those from a place on
  pub all_dropped : (xs : List X) (n m : ℕ) → n + m ≡ length xs → all_below (λ k. p (get_or xs (n + k) d)) m ≡ list_all p (drop n xs)
  all_dropped xs n m e =
      all_cong _ _ m (λ k l. ap p (sym (get_or-drop n xs k d)))
      ∙ all_listed (drop n xs) m (let q : length (drop n xs) ≡ length xs - n = length-drop n xs in omega arith)

-- all numbers of a range
ranged : (p : ℕ → Bool) (a n : ℕ) → all_below (λ i. p (a + i)) n ≡ list_all p (range_with_len a n)
unfolding all_below
ranged p a zero = refl
ranged p a (suc n) =
    all_low (λ i. p (a + i)) n
    ∙ (λ j. p (add-zero a j) && all_cong (λ i. p (a + suc i)) (λ i. p (a + 1 + i)) n (λ i h. ap p (let e : a + suc i ≡ a + 1 + i = omega arith in e)) j)
    ∙ ap (◌&&◌ (p a)) (ranged p (a + 1) n)

pub all_range : (p : ℕ → Bool) (n : ℕ) → all_below p n ≡ list_all p (range_with_len 0 n)
all_range p n = all_cong _ _ n (λ i h. ap p (let e : i ≡ 0 + i = omega arith in e)) ∙ ranged p 0 n

-- a list held against zeros
zeros : (xs : List ℕ) → list_all (λ x. eqb x 0) xs ≡ pointwise eqb xs (replicate (length xs) 0)
zeros [] = refl
zeros (x ∷ xs) = ap (◌&&◌ (eqb x 0)) (zeros xs)

pub all_zero : (xs : List ℕ) (n : ℕ) → length xs ≡ n → all_below (λ k. eqb (get_or xs k 0) 0) n ≡ pointwise eqb xs (replicate n 0)
all_zero xs n e = all_listed (λ (x : ℕ). eqb x 0) 0 xs n e ∙ zeros xs ∙ ap (λ (m : ℕ). pointwise eqb xs (replicate m 0)) e
