-- Laws of a transaction's log: lookups, stores, loads and commit.
use mathlib.Core.Path.{◌≡◌, refl, sym, ap, ◌∙◌, subst}
use mathlib.Core.Bool.{Bool, true, false, cond}
use mathlib.Core.List.{List}
use Rattle.std.specs.Prelude.{Option, Some, None, MatchOption, ◌≢◌}
use mathlib.Core.Logic.{⊎_elim}
use Prim.Native.Nat.{ℕ, zero, suc, ◌+◌, ◌≤◌, ◌<◌}
use native.Mathlib.Nat.{not-suc-le-zero, eq-or-lt_of_le, le_of_suc-le-suc}
use native.Mathlib.Decide.{ℕ_discrete}
use native.Mathlib.Numerals.{add-one}
use native.Mathlib.Omega.{arith}
use borrow.Author.Tests.{eqb-true, eqb-false, leb-false}
use lib.Dec.{eqb}
use lib.ListN.{length, get_or, set, take, length-set}
use Rattle.std.proofs.lemmas.List.{get_or-take, length-take-le}
use lib.Seq.{get_or-set_same, get_or-set_other}
use lib.Bits.{or_zero_l}
use Rattle.doubleword.specs.Doubleword.{merged}
use Rattle.doubleword.proofs.Laws.{merged_over, merged_once}
use Rattle.base.specs.Limits.{most_places}
use Rattle.lines.specs.Lines as lines
use Rattle.transaction.specs.Transaction.{no_entry, entry, line, lookup_in, lookup, loaded, load, full, stored, store_at, store, put, commit_in, commit}
use Rattle.transaction.specs.declared.Entry.{Entry}
use Rattle.transaction.specs.declared.Transaction.{Transaction}

-- what a lookup finds: a place looked at that holds the doubleword, or none where no such place does
abbrev Finds : List Entry → ℕ → ℕ → Option ℕ → Type 0
Finds es i n (Some k) = (k < n) × ((entry es k).index ≡ i)
Finds es i n None = (k : ℕ) → k < n → (entry es k).index ≡ i → ⊥

lookup_finds : (es : List Entry) (i n : ℕ) → Finds es i n (lookup_in es i n)
unfolding lookup_in
lookup_finds es i zero = λ k h w. not-suc-le-zero h
lookup_finds es i (suc n) = go (eqb (entry es n).index i) refl (lookup_in es i n) (lookup_finds es i n)
  where
    go : (b : Bool) → eqb (entry es n).index i ≡ b → (f : Option ℕ) → Finds es i n f → Finds es i (suc n) (cond b (Some n) f)
    go true e f h = (omega arith, eqb-true _ _ e)
    go false e (Some k) h = (omega arith, h.1)
    go false e None h = λ k l w. ⊎_elim (λ s. eqb-false (entry es n).index i e (rw (← s) w)) (λ m. h k m w) (eq-or-lt_of_le (le_of_suc-le-suc l))

-- a lookup depends on the places' indices alone
pub lookup_same : (es fs : List Entry) (i n : ℕ) → ((k : ℕ) → k < n → (entry es k).index ≡ (entry fs k).index) → lookup_in es i n ≡ lookup_in fs i n
unfolding lookup_in
lookup_same es fs i zero h = refl
lookup_same es fs i (suc n) h = simp (h n (omega arith), lookup_same es fs i n (λ k l. h k (omega arith)))

-- the last of the first n places that holds the doubleword is what a lookup among these finds
abbrev pub IsLast : List Entry → ℕ → ℕ → Option ℕ → Type 0
IsLast es i n r = MatchOption r ((k : ℕ) → k < n → (entry es k).index ≢ i) (λ m. (m < n) × ((entry es m).index ≡ i) × ((k : ℕ) → m < k → k < n → (entry es k).index ≢ i))

pub lookup_is : (es : List Entry) (i n : ℕ) (r : Option ℕ) → IsLast es i n r → r ≡ lookup_in es i n
unfolding lookup_in
lookup_is es i zero None h = refl
lookup_is es i zero (Some m) h = absurd (not-suc-le-zero h.0)
lookup_is es i (suc n) r h = go (eqb (entry es n).index i) refl r h (lookup_is es i n)
  where
    go : (b : Bool) → eqb (entry es n).index i ≡ b → (r : Option ℕ) → IsLast es i (suc n) r → ((r : Option ℕ) → IsLast es i n r → r ≡ lookup_in es i n) → r ≡ cond b (Some n) (lookup_in es i n)
    go true e None h below = absurd (h n (omega arith) (eqb-true _ _ e))
    go true e (Some m) h below =
        ⊎_elim (λ s. ap Some s) (λ l. absurd (h.2 n l (omega arith) (eqb-true _ _ e))) (eq-or-lt_of_le (le_of_suc-le-suc h.0))
    go false e None h below = below None (λ k l. h k (omega arith))
    go false e (Some m) h below =
        ⊎_elim (λ s. absurd (eqb-false (entry es n).index i e (rw (← s) h.1)))
        (λ l. below (Some m) (l, h.1, λ k a b. h.2 k a (omega arith)))
        (eq-or-lt_of_le (le_of_suc-le-suc h.0))

-- a lookup among the first n places alone
pub lookup_first : (es : List Entry) (i n : ℕ) → n ≤ length es → lookup_in (take n es) i (length (take n es)) ≡ lookup_in es i n
lookup_first es i n h = ap (lookup_in (take n es) i) (length-take-le n es h) ∙ lookup_same (take n es) es i n (λ k l. ap (λ (e : Entry). e.index) (get_or-take n es k no_entry l))

-- a place that is found is one of those looked at
pub lookup_below : (es : List Entry) (i n : ℕ) {k : ℕ} → lookup_in es i n ≡ Some k → k < n
lookup_below es i n p = (subst (Finds es i n) p (lookup_finds es i n)).0

-- it holds the doubleword
pub lookup_there : (es : List Entry) (i n : ℕ) {k : ℕ} → lookup_in es i n ≡ Some k → (entry es k).index ≡ i
lookup_there es i n p = (subst (Finds es i n) p (lookup_finds es i n)).1

-- where none is found, none of the places looked at holds the doubleword
pub lookup_absent : (es : List Entry) (i n : ℕ) {k : ℕ} → lookup_in es i n ≡ None → k < n → (entry es k).index ≡ i → ⊥
lookup_absent es i n {k} p = subst (Finds es i n) p (lookup_finds es i n) k

-- the place that a store takes, and how many places are used after it
abbrev pub store_place : Transaction → Option ℕ → ℕ
store_place x (Some n) = n
store_place x None = x.count

abbrev pub store_count : Transaction → Option ℕ → ℕ
store_count x (Some n) = x.count
store_count x None = x.count + 1

-- what its place held before
abbrev pub store_over : Transaction → Option ℕ → Entry
store_over x (Some n) = entry x.log n
store_over x None = no_entry

-- what a store leaves
pub store_is : (x : Transaction) (f : Option ℕ) (i m v : ℕ) →
    store_at x f i m v ≡ record { reads = x.reads; writes = lines.with x.writes (line i); count = store_count x f; log = set x.log (store_place x f) (stored (store_over x f) i m v) }
unfolding store_at
store_is x (Some n) i m v = refl
store_is x None i m v = refl

-- a store changes no place but its own
pub store_other : (x : Transaction) (f : Option ℕ) (i m v k : ℕ) → (k ≡ store_place x f → ⊥) → entry (store_at x f i m v).log k ≡ entry x.log k
store_other x f i m v k o = simp (store_is, get_or-set_other)

-- a store's place is a used one after it
pub store_place_below : (x : Transaction) (i : ℕ) → store_place x (lookup x i) < store_count x (lookup x i)
store_place_below x i = go (lookup x i) refl
  where
    go : (f : Option ℕ) → lookup x i ≡ f → store_place x f < store_count x f
    go (Some k) e = lookup_below x.log i x.count e
    go None e = omega arith

-- if it was used before, it held the doubleword
pub store_place_there : (x : Transaction) (i k : ℕ) → k < x.count → k ≡ store_place x (lookup x i) → (entry x.log k).index ≡ i
store_place_there x i k l = go (lookup x i) refl
  where
    go : (f : Option ℕ) → lookup x i ≡ f → k ≡ store_place x f → (entry x.log k).index ≡ i
    go (Some m) e q = rw q (lookup_there x.log i x.count e)
    go None e q = absurd (omega arith)

-- a store that has room leaves no more used places than there are
pub store_count_most : (x : Transaction) (f : Option ℕ) → x.count ≤ most_places → full x f ≡ false → store_count x f ≤ most_places
unfolding full
store_count_most x (Some n) few room = few
store_count_most x None few room = omega (arith, leb-false most_places x.count room)

-- a store that has room
module _ (x : Transaction) (i m v : ℕ) (size : length x.log ≡ most_places) (few : x.count ≤ most_places) (room : full x (lookup x i) ≡ false) where
  -- a store's place holds what was stored, over what it held
  pub store_there : entry (store x i m v).log (store_place x (lookup x i)) ≡ stored (store_over x (lookup x i)) i m v
  store_there =
      let h : store_place x (lookup x i) < length x.log = omega (arith, store_place_below x i, store_count_most x (lookup x i) few room) in
      simp (store_is, get_or-set_same)

  -- a place that was used keeps its index
  pub store_index : (k : ℕ) → k < x.count → (entry (store x i m v).log k).index ≡ (entry x.log k).index
  unfolding stored
  store_index k l = go (ℕ_discrete k (store_place x (lookup x i)))
    where
      go : Dec (k ≡ store_place x (lookup x i)) → (entry (store x i m v).log k).index ≡ (entry x.log k).index
      go (yes q) = ap (λ (n : ℕ). (entry (store x i m v).log n).index) q ∙ ap (λ z. z.index) store_there ∙ sym (store_place_there x i k l q)
      go (no o) = ap (λ z. z.index) (store_other x (lookup x i) i m v k o)

  -- after a store a lookup finds the store's place for its doubleword, and for another what it found before
  pub lookup_store : (j : ℕ) → lookup (store x i m v) j ≡ cond (eqb i j) (Some (store_place x (lookup x i))) (lookup x j)
  unfolding lookup_in store_at stored
  lookup_store j = go (lookup x i) refl store_there (lookup_same (store x i m v).log x.log j x.count store_index)
    where
      go : (f : Option ℕ) → lookup x i ≡ f → entry (store_at x f i m v).log (store_place x f) ≡ stored (store_over x f) i m v → lookup_in (store_at x f i m v).log j x.count ≡ lookup x j → lookup (store_at x f i m v) j ≡ cond (eqb i j) (Some (store_place x f)) (lookup x j)
      go (Some k) e w s = s ∙ found (eqb i j) refl
        where
          found : (b : Bool) → eqb i j ≡ b → lookup x j ≡ cond b (Some k) (lookup x j)
          found true q = ap (lookup x) (sym (eqb-true _ _ q)) ∙ e
          found false q = refl
      go None e w s = rw (add-one, w, s)

  -- a load after a store sees the stored bytes over those that it saw before, and at another doubleword what it saw before
  pub load_store : (mem : List ℕ) (j : ℕ) → load (store x i m v) mem j ≡ cond (eqb i j) (merged m (load x mem j) v) (load x mem j)
  unfolding loaded stored
  load_store mem j = rw lookup_store (go (eqb i j) refl)
    where
      own : (f : Option ℕ) → lookup x i ≡ f → merged (stored (store_over x f) i m v).marks (get_or mem i 0) (stored (store_over x f) i m v).value ≡ merged m (loaded x.log mem f i) v
      own (Some k) e = merged_over (entry x.log k).marks m (get_or mem i 0) (entry x.log k).value v
      own None e = ap (λ (b : ℕ). merged b (get_or mem i 0) (merged m 0 v)) (or_zero_l m) ∙ merged_once m (get_or mem i 0) 0 v

      go : (b : Bool) → eqb i j ≡ b → loaded (store x i m v).log mem (cond b (Some (store_place x (lookup x i))) (lookup x j)) j ≡ cond b (merged m (load x mem j) v) (load x mem j)
      go true e = rw (← eqb-true i j e) (ap (λ (z : Entry). merged z.marks (get_or mem i 0) z.value) store_there ∙ own (lookup x i) refl)
      go false e = kept (lookup x j) refl
        where
          kept : (f : Option ℕ) → lookup x j ≡ f → loaded (store x i m v).log mem f j ≡ loaded x.log mem f j
          kept (Some k) p =
              let other : k ≡ store_place x (lookup x i) → ⊥ = λ q. eqb-false i j e (sym (store_place_there x i k (lookup_below x.log j x.count p) q) ∙ lookup_there x.log j x.count p) in
              ap (λ (z : Entry). merged z.marks (get_or mem j 0) z.value) (store_other x (lookup x i) i m v k other)
          kept None p = refl

-- a commit of no places
pub commit_none : (mem : List ℕ) (es : List Entry) → mem ≡ commit_in mem es 0
unfolding commit_in
commit_none mem es = refl

-- one turn of the commit, which goes up
pub commit_step : (mem : List ℕ) (es : List Entry) (n : ℕ) → commit_in mem es (n + 1) ≡ put (commit_in mem es n) (entry es n).index (entry es n).marks (entry es n).value
unfolding commit_in
commit_step mem es n = ap (commit_in mem es) (add-one n)

-- a commit keeps memory's length
pub commit_length : (mem : List ℕ) (es : List Entry) (n : ℕ) → length (commit_in mem es n) ≡ length mem
unfolding commit_in
commit_length mem es zero = refl
commit_length mem es (suc n) = simp (length-set, commit_length mem es n)

-- no place has a doubleword that one before it has (rule V11)
abbrev pub Apart : List Entry → ℕ → Type 0
Apart es n = (k : ℕ) → k < n → lookup_in es (entry es k).index k ≡ None

-- a commit leaves at each doubleword what the transaction would load there
pub commit_at : (mem : List ℕ) (es : List Entry) (n d : ℕ) → Apart es n → d < length mem → get_or (commit_in mem es n) d 0 ≡ loaded es mem (lookup_in es d n) d
unfolding commit_in lookup_in loaded
commit_at mem es zero d a h = refl
commit_at mem es (suc n) d a h = go (eqb (entry es n).index d) refl (commit_at mem es n d (λ k l. a k (omega arith)) h)
  where
    e : Entry
    e = entry es n

    go : (b : Bool) → eqb e.index d ≡ b → get_or (commit_in mem es n) d 0 ≡ loaded es mem (lookup_in es d n) d → get_or (put (commit_in mem es n) e.index e.marks e.value) d 0 ≡ loaded es mem (cond b (Some n) (lookup_in es d n)) d
    go true p ih =
        let q = eqb-true e.index d p in
        let none = sym (ap (λ (i : ℕ). lookup_in es i n) q) ∙ a n (omega arith) in
        let was = ih ∙ ap (λ (f : Option ℕ). loaded es mem f d) none in
        ap (λ (i : ℕ). get_or (put (commit_in mem es n) i e.marks e.value) d 0) q
        ∙ get_or-set_same (commit_in mem es n) d _ _ (rw commit_length h)
        ∙ ap (λ (o : ℕ). merged e.marks o e.value) was
    go false p ih = get_or-set_other (commit_in mem es n) _ d _ _ (λ q. eqb-false _ _ p (sym q)) ∙ ih

-- a commit of an empty log changes nothing
pub commit_empty : (x : Transaction) (mem : List ℕ) → x.count ≡ 0 → commit x mem ≡ mem
commit_empty x mem e = rw e (sym (commit_none mem x.log))
