-- Laws of tests and of what they choose; and of the tests of all numbers below a number: whether all pass, whether any passes, how many pass.
use mathlib.Core.Path.{◌≡◌, refl, sym, ap, ◌∙◌}
use mathlib.Core.Bool.{Bool, true, false, ◌&&◌, ◌||◌, not, cond, and_assoc, and-eq-true_iff, or_assoc, true≢false, false≢true}
use mathlib.Core.List.{List, map}
use mathlib.Core.Logic.{⊎_elim}
use Prim.Native.Nat.{ℕ, zero, suc, ◌+◌, ◌-◌, ◌≤◌, ◌<◌}
use native.Mathlib.Nat.{add_left_comm, add-suc, add-zero, eq-or-lt_of_le, le_of_suc-le-suc, not-suc-le-zero}
use native.Mathlib.Decide.{ℕ_discrete}
use native.Mathlib.Omega.{arith}
use lib.Dec.{eqb}
use lib.ListN.{length, length-map}
use borrow.Author.Tests.{eq-eqb, ne_eqb, not-true, not-false}
use Rattle.base.specs.Below.{all_below, any_below, bit, count_below}

-- ---- tests

-- both sides of a test
pub and_left : (a b : Bool) → (a && b) ≡ true → a ≡ true
and_left a b p = ((and-eq-true_iff a b).0 p).0

pub and_right : (a b : Bool) → (a && b) ≡ true → b ≡ true
and_right a b p = ((and-eq-true_iff a b).0 p).1

pub and_intro : (a b : Bool) → a ≡ true → b ≡ true → (a && b) ≡ true
and_intro a b p q = (and-eq-true_iff a b).1 (p, q)

-- both sides of one that fails
pub neither : (a b : Bool) → (a || b) ≡ false → (a ≡ false) × (b ≡ false)
neither true b p = absurd (true≢false p)
neither false b p = (refl, p)

-- a test that fails before, and passes only where it passed, fails after
pub still_false : (a b : Bool) → (b ≡ true → a ≡ true) → a ≡ false → b ≡ false
still_false a true p q = sym (p refl) ∙ q
still_false a false p q = refl

-- equality is tested either way round
pub eqb_comm : (m n : ℕ) → eqb m n ≡ eqb n m
eqb_comm m n = go (ℕ_discrete m n)
  where
    go : Dec (m ≡ n) → eqb m n ≡ eqb n m
    go (yes e) = eq-eqb m n e ∙ sym (eq-eqb n m (sym e))
    go (no d) = ne_eqb m n d ∙ sym (ne_eqb n m (λ e. d (sym e)))

-- what holds on both ways of a test
pub fork : {A : Type 0} (P : A → Type 0) (b : Bool) {x y : A} → (b ≡ true → P x) → (b ≡ false → P y) → P (cond b x y)
fork P true p q = p refl
fork P false p q = q refl

-- the first number that refuses is 0 only where no test does
pub no_number : (b : Bool) (n m : ℕ) → cond b (suc n) m ≡ 0 → (b ≡ false) × (m ≡ 0)
no_number true n m p = absurd (let z : suc n ≡ 0 = p in omega arith)
no_number false n m p = (refl, p)

-- a single bit is below 2; the test whether it is 1 is its own; and a number below 2 is the bit of that test
pub bit_lt : (b : Bool) → bit b < 2
bit_lt true = omega arith
bit_lt false = omega arith

pub bit_test : (b : Bool) → eqb (bit b) 1 ≡ b
bit_test true = refl
bit_test false = refl

pub digit_bit : (d : ℕ) → d < 2 → bit (eqb d 1) ≡ d
digit_bit zero h = refl
digit_bit (suc zero) h = refl
digit_bit (suc (suc d)) h = absurd (let z : suc (suc d) < 2 = h in omega arith)

-- what a callee's flag says, from a negated test of it
pub flag_true : {r a : Bool} → r ≡ a → not r ≡ false → a ≡ true
flag_true e p = sym e ∙ not-false _ p

pub flag_false : {r a : Bool} → r ≡ a → not r ≡ true → a ≡ false
flag_false e p = sym e ∙ not-true _ p

-- ---- whether all pass

-- a loop that goes down: at its end, and one turn
pub all_none : (f : ℕ → Bool) (i : ℕ) → i ≤ 0 → all_below f i ≡ true
unfolding all_below
all_none f zero h = refl
all_none f (suc n) h = absurd (not-suc-le-zero h)

pub all_step : (f : ℕ → Bool) (i : ℕ) → 0 < i → all_below f i ≡ (f (i - 1) && all_below f (i - 1))
unfolding all_below
all_step f zero h = absurd (not-suc-le-zero h)
all_step f (suc n) h = ap (λ (k : ℕ). f k && all_below f k) (let e : n ≡ suc n - 1 = omega arith in e)

-- what is searched for holds if the numbers below i pass
module _ {v : Bool} (f : ℕ → Bool) (i : ℕ) (e : v ≡ all_below f i) where
  -- a turn that ends the search
  pub all_fails : 0 < i → f (i - 1) ≡ false → false ≡ v
  all_fails h p = sym (e ∙ all_step f i h ∙ simp p)

  -- one after which it goes on
  pub all_passes : 0 < i → f (i - 1) ≡ true → v ≡ all_below f (i - 1)
  all_passes h p = e ∙ all_step f i h ∙ simp p

  -- none is left
  pub all_passed : i ≤ 0 → true ≡ v
  all_passed h = sym (e ∙ all_none f i h)

-- all pass if each passes
pub all_at : (f : ℕ → Bool) (n i : ℕ) → all_below f n ≡ true → i < n → f i ≡ true
unfolding all_below
all_at f zero i p h = absurd (not-suc-le-zero h)
all_at f (suc n) i p h =
    ⊎_elim (λ q. ap f q ∙ and_left (f n) (all_below f n) p) (λ l. all_at f n i (and_right (f n) (all_below f n) p) l)
    (eq-or-lt_of_le (le_of_suc-le-suc h))

pub all_from : (f : ℕ → Bool) (n : ℕ) → ((k : ℕ) → k < n → f k ≡ true) → all_below f n ≡ true
unfolding all_below
all_from f zero h = refl
all_from f (suc n) h = and_intro (f n) (all_below f n) (h n (omega arith)) (all_from f n (λ k l. h k (omega arith)))

-- the same test below n
pub all_cong : (f g : ℕ → Bool) (n : ℕ) → ((i : ℕ) → i < n → f i ≡ g i) → all_below f n ≡ all_below g n
unfolding all_below
all_cong f g zero h = refl
all_cong f g (suc n) h = λ j. h n (omega arith) j && all_cong f g n (λ i l. h i (omega arith)) j

-- a + b numbers: b more, and those below a
pub all_add : (f : ℕ → Bool) (a b : ℕ) → all_below f (a + b) ≡ (all_below (λ i. f (a + i)) b && all_below f a)
unfolding all_below
all_add f a zero = ap (all_below f) (add-zero a)
all_add f a (suc b) =
    ap (all_below f) (add-suc a b) ∙ ap (◌&&◌ (f (a + b))) (all_add f a b)
    ∙ sym (and_assoc (f (a + b)) (all_below (λ i. f (a + i)) b) (all_below f a))

-- ---- whether any passes

pub any_none : (f : ℕ → Bool) (i : ℕ) → i ≤ 0 → any_below f i ≡ false
unfolding any_below
any_none f zero h = refl
any_none f (suc n) h = absurd (not-suc-le-zero h)

pub any_step : (f : ℕ → Bool) (i : ℕ) → 0 < i → any_below f i ≡ (f (i - 1) || any_below f (i - 1))
unfolding any_below
any_step f zero h = absurd (not-suc-le-zero h)
any_step f (suc n) h = ap (λ (k : ℕ). f k || any_below f k) (let e : n ≡ suc n - 1 = omega arith in e)

-- the same of a search for a number that passes
module _ {v : Bool} (f : ℕ → Bool) (i : ℕ) (e : v ≡ any_below f i) where
  pub any_passes : 0 < i → f (i - 1) ≡ true → true ≡ v
  any_passes h p = sym (e ∙ any_step f i h ∙ simp p)

  pub any_fails : 0 < i → f (i - 1) ≡ false → v ≡ any_below f (i - 1)
  any_fails h p = e ∙ any_step f i h ∙ simp p

  pub any_failed : i ≤ 0 → false ≡ v
  any_failed h = sym (e ∙ any_none f i h)

-- one passes unless all fail
pub any_not : (f : ℕ → Bool) (n : ℕ) → any_below f n ≡ not (all_below (λ i. not (f i)) n)
unfolding all_below any_below
any_not f zero = refl
any_not f (suc n) = go (f n) (any_not f n)
  where
    go : (b : Bool) → any_below f n ≡ not (all_below (λ i. not (f i)) n) → (b || any_below f n) ≡ not (not b && all_below (λ i. not (f i)) n)
    go true e = refl
    go false e = e

pub any_false_at : (f : ℕ → Bool) (n i : ℕ) → any_below f n ≡ false → i < n → f i ≡ false
any_false_at f n i p h = not-true (f i) (all_at (λ k. not (f k)) n i (not-false _ (sym (any_not f n) ∙ p)) h)

pub any_false : (f : ℕ → Bool) (n : ℕ) → ((k : ℕ) → k < n → f k ≡ false) → any_below f n ≡ false
any_false f n h = any_not f n ∙ ap not (all_from (λ k. not (f k)) n (λ k l. ap not (h k l)))

pub any_at : (f : ℕ → Bool) (n i : ℕ) → f i ≡ true → i < n → any_below f n ≡ true
any_at f n i p h = go (any_below f n) refl
  where
    go : (b : Bool) → any_below f n ≡ b → b ≡ true
    go true e = refl
    go false e = sym (any_false_at f n i e h) ∙ p

-- a number that passes
pub any_witness : (f : ℕ → Bool) (n : ℕ) → any_below f n ≡ true → (k : ℕ) × (k < n) × (f k ≡ true)
unfolding any_below
any_witness f zero p = absurd (false≢true p)
any_witness f (suc n) p = go (f n) refl p (any_witness f n)
  where
    go : (b : Bool) → f n ≡ b → (b || any_below f n) ≡ true → (any_below f n ≡ true → (k : ℕ) × (k < n) × (f k ≡ true))
        → (k : ℕ) × (k < suc n) × (f k ≡ true)
    go true e q ih = (n, omega arith, e)
    go false e q ih = let w = ih q in (w.0, omega arith, w.2)

pub any_cong : (f g : ℕ → Bool) (n : ℕ) → ((i : ℕ) → i < n → f i ≡ g i) → any_below f n ≡ any_below g n
unfolding any_below
any_cong f g zero h = refl
any_cong f g (suc n) h = λ j. h n (omega arith) j || any_cong f g n (λ i l. h i (omega arith)) j

pub any_add : (f : ℕ → Bool) (a b : ℕ) → any_below f (a + b) ≡ (any_below (λ i. f (a + i)) b || any_below f a)
unfolding any_below
any_add f a zero = ap (any_below f) (add-zero a)
any_add f a (suc b) =
    ap (any_below f) (add-suc a b) ∙ ap (◌||◌ (f (a + b))) (any_add f a b)
    ∙ sym (or_assoc (f (a + b)) (any_below (λ i. f (a + i)) b) (any_below f a))

-- ---- how many pass

-- counting from below instead of from above
pub count_low : (f : ℕ → Bool) (n : ℕ) → count_below f (suc n) ≡ bit (f 0) + count_below (λ i. f (suc i)) n
unfolding count_below
count_low f zero = refl
count_low f (suc n) = ap (λ (x : ℕ). bit (f (suc n)) + x) (count_low f n) ∙ add_left_comm (bit (f (suc n))) (bit (f 0)) _

pub count_cong : (f g : ℕ → Bool) (n : ℕ) → ((i : ℕ) → i < n → f i ≡ g i) → count_below f n ≡ count_below g n
unfolding count_below
count_cong f g zero h = refl
count_cong f g (suc n) h = λ j. bit (h n (omega arith) j) + count_cong f g n (λ i l. h i (omega arith)) j

pub count_le : (f : ℕ → Bool) (n : ℕ) → count_below f n ≤ n
unfolding count_below
count_le f zero = omega arith
count_le f (suc n) = go (f n) (count_le f n)
  where
    go : (b : Bool) → count_below f n ≤ n → bit b + count_below f n ≤ suc n
    go true h = omega arith
    go false h = omega arith

pub count_add : (f : ℕ → Bool) (a b : ℕ) → count_below f (a + b) ≡ count_below f a + count_below (λ i. f (a + i)) b
unfolding count_below
count_add f a zero = ap (count_below f) (add-zero a) ∙ sym (add-zero _)
count_add f a (suc b) =
    ap (count_below f) (add-suc a b) ∙ ap (λ (x : ℕ). bit (f (a + b)) + x) (count_add f a b)
    ∙ add_left_comm (bit (f (a + b))) (count_below f a) _

-- g passes one number more than f, and is f elsewhere
pub count_one : (f g : ℕ → Bool) (n l : ℕ) → l < n → f l ≡ false → g l ≡ true → ((i : ℕ) → i < n → (i ≡ l → ⊥) → g i ≡ f i)
    → count_below g n ≡ suc (count_below f n)
unfolding count_below
count_one f g zero l h p q s = absurd (not-suc-le-zero h)
count_one f g (suc n) l h p q s =
    ⊎_elim
    (λ e. (λ j. bit ((ap g (sym e) ∙ q) j) + count_cong g f n (λ i k. s i (omega arith) (λ d. omega arith)) j)
    ∙ let z : bit (f n) ≡ 0 = ap bit (ap f (sym e) ∙ p) in omega arith)
    (λ k. (λ j. bit (s n (omega arith) (λ d. omega arith) j) + count_one f g n l k p q (λ i t. s i (omega arith)) j) ∙ omega arith)
    (eq-or-lt_of_le (le_of_suc-le-suc h))

-- the length of a field that is an array of structs: what owning the struct tells is of the list of the elements' parts
pub length_parts : (X Y : Type 0) (f : X → Y) (l : List X) (n : ℕ) → length (map f l) ≡ n → length l ≡ n
length_parts X Y f l n e = sym (length-map l f) ∙ e
