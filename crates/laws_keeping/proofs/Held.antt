-- What a transaction holds stays right: emptied, with a line more in its read set, with a store in its log.
use mathlib.Core.Path.{◌≡◌, refl, sym, ap, ◌∙◌, subst}
use mathlib.Core.Bool.{Bool, true, false, not, ◌&&◌, ◌||◌, beq, or_assoc, or_comm, or-true, or-false, false≢true}
use mathlib.Core.List.{List}
use Prim.Native.Nat.{ℕ, suc, ◌*◌, ◌≤◌, ◌<◌}
use native.Mathlib.Decide.{ℕ_discrete, dec_lt}
use native.Mathlib.Omega.{arith}
use lib.Dec.{eqb, leb, ltb}
use lib.ListN.{get_or, length, length-set, length-replicate, get_or-replicate, replicate}
use lib.Seq.{ext_get_or}
use borrow.Author.Tests.{leb-false, ltb-true, eqb-true, eqb-false, le-leb, lt-ltb, le-ltb, eq-eqb, ne_eqb}
use Rattle.base.specs.Limits.{line_size, lines, words, most_footprint, most_places}
use Rattle.base.specs.Below.{all_below, any_below}
use Rattle.base.proofs.Below.{and_left, and_right, and_intro, all_at, all_from, any_at, any_false, any_false_at, any_witness}
use Rattle.lines.specs.Lines as lineset
use Rattle.lines.specs.Lines.{place}
use Rattle.doubleword.specs.Doubleword.{byte, only_marked}
use Rattle.doubleword.proofs.Laws.{merged_only}
use lib.Bits.{bit_or, or_add_and, and_le_l}
use Rattle.lines.specs.declared.LineSet.{LineSet}
use Rattle.lines.proofs.Laws.{has_empty, has_with, length_with, footprint_with_new, footprint_with_new_write, footprint_with_old, footprint_with_old_write}
use Rattle.transaction.specs.Transaction as transaction
use Rattle.transaction.specs.declared.Entry.{Entry}
use Rattle.std.specs.Prelude.{Option, Some, None}
use Rattle.transaction.specs.declared.Transaction.{Transaction}
use Rattle.transaction.proofs.Laws.{lookup_absent, lookup_below, store_place, store_count, store_over, store_is, store_other, store_place_below, store_count_most, store_there, store_index}
use Rattle.machine.specs.Valid.{place_right, unused_zero, indices_inside, line_inside, lines_inside, unlike, distinct, logs_line, line_logged, writes_logged, marked_right, marks_right, held_right, no_line, holds_nothing}
use Rattle.machine.proofs.Laws.{unused_count}

-- the arrays have their lengths
pub record Shaped (x : Transaction) : Type 0 where
  pub reads : length x.reads.words ≡ words
  pub writes : length x.writes.words ≡ words
  pub log : length x.log ≡ most_places

pub empty_shaped : Shaped transaction.empty
unfolding transaction.empty lineset.empty
empty_shaped = record { reads = refl; writes = refl; log = refl }

pub join_shaped : (x : Transaction) (i : ℕ) → Shaped x → Shaped (transaction.join x i)
join_shaped x i s = record { reads = length_with x.reads (transaction.line i) ∙ s.reads; writes = s.writes; log = s.log }

pub store_shaped : (x : Transaction) (i ms v : ℕ) → Shaped x → Shaped (transaction.store x i ms v)
store_shaped x i ms v s =
    subst Shaped (sym (store_is x (transaction.lookup x i) i ms v))
    (record { reads = s.reads; writes = length_with x.writes (transaction.line i) ∙ s.writes; log = simp length-set s.log })

-- the parts of what is held
pub record Held (x : Transaction) (len : ℕ) : Type 0 where
  pub unused : unused_zero x ≡ true
  pub indices : indices_inside x len ≡ true
  pub touched : lines_inside x len ≡ true
  pub differ : distinct x ≡ true
  pub logged : writes_logged x ≡ true
  pub marks : marks_right x ≡ true

pub held_parts : (x : Transaction) (len : ℕ) → held_right x len ≡ true → Held x len
unfolding held_right
held_parts x len h =
    let w = and_left _ (marks_right x) h in
    let d = and_left _ (writes_logged x) w in
    let l = and_left _ (distinct x) d in
    let i = and_left _ (lines_inside x len) l in
    record {
      unused = and_left (unused_zero x) _ i;
      indices = and_right (unused_zero x) _ i;
      touched = and_right (unused_zero x && indices_inside x len) _ l;
      differ = and_right (unused_zero x && indices_inside x len && lines_inside x len) _ d;
      logged = and_right (unused_zero x && indices_inside x len && lines_inside x len && distinct x) _ w;
      marks = and_right (unused_zero x && indices_inside x len && lines_inside x len && distinct x && writes_logged x) _ h;
    }

pub held_whole : (x : Transaction) (len : ℕ) → Held x len → held_right x len ≡ true
unfolding held_right
held_whole x len p =
    and_intro _ _ (and_intro _ _ (and_intro _ _ (and_intro _ _ (and_intro _ _ p.unused p.indices) p.touched) p.differ) p.logged) p.marks

pub held_unused : (x : Transaction) (len : ℕ) → held_right x len ≡ true → unused_zero x ≡ true
held_unused x len h = (held_parts x len h).unused

-- at most 64 places of the log are used
pub held_count : (x : Transaction) (len : ℕ) → held_right x len ≡ true → x.count ≤ most_places
held_count x len h = unused_count x (held_unused x len h)

unused_place : (x : Transaction) → unused_zero x ≡ true → (n : ℕ) → n < most_places → place_right (transaction.entry x.log n) n x.count ≡ true
unfolding unused_zero
unused_place x u n h =
    all_at (λ n. place_right (transaction.entry x.log n) n x.count) most_places n (and_right (leb x.count most_places) _ u) h

-- ---- nothing held

-- a list whose elements are all the same
all_same : {A : Type 0} (a : A) (n : ℕ) (xs : List A) → length xs ≡ n → ((k : ℕ) → k < n → get_or xs k a ≡ a) → xs ≡ replicate n a
all_same a n xs e h =
    ext_get_or a xs (replicate n a) (e ∙ sym (length-replicate n a))
    (λ k l. let q : k < n = subst (λ (m : ℕ). k < m) e l in h k q ∙ sym (get_or-replicate n k a a q))

no_line_empty : (s : LineSet) → length s.words ≡ words → no_line s ≡ true → s ≡ lineset.empty
unfolding no_line lineset.empty
no_line_empty s e h =
    ap (λ (ws : List ℕ). record { words = ws }) (all_same 0 words s.words e (λ k l. eqb-true _ _ (all_at (λ k. eqb (lineset.word s k) 0) words k h l)))

unused_entry : (e : Entry) (n : ℕ) → place_right e n 0 ≡ true → e ≡ transaction.no_entry
unfolding place_right
unused_entry e n p =
    let q : (eqb e.index 0 && eqb e.marks 0 && eqb e.value 0) ≡ true = rw (le-ltb n 0 (omega arith)) at p in
    let r = and_left (eqb e.index 0 && eqb e.marks 0) _ q in
    let i : e.index ≡ 0 = eqb-true _ _ (and_left (eqb e.index 0) _ r) in
    let b : e.marks ≡ 0 = eqb-true _ _ (and_right (eqb e.index 0) _ r) in
    let v : e.value ≡ 0 = eqb-true _ _ (and_right (eqb e.index 0 && eqb e.marks 0) _ q) in
    λ j. record { index = i j; marks = b j; value = v j }

-- what holds nothing is empty
pub nothing_is_empty : (x : Transaction) → Shaped x → unused_zero x ≡ true → holds_nothing x ≡ true → x ≡ transaction.empty
unfolding holds_nothing transaction.empty
nothing_is_empty x s u h =
    let b = and_left (no_line x.reads && no_line x.writes) _ h in
    let c : x.count ≡ 0 = eqb-true _ _ (and_right (no_line x.reads && no_line x.writes) _ h) in
    let r = no_line_empty x.reads s.reads (and_left (no_line x.reads) _ b) in
    let w = no_line_empty x.writes s.writes (and_right (no_line x.reads) _ b) in
    let l = all_same transaction.no_entry most_places x.log s.log (λ k q. unused_entry _ k (rw c at (unused_place x u k q))) in
    λ j. record { reads = r j; writes = w j; count = c j; log = l j }

pub empty_nothing : holds_nothing transaction.empty ≡ true
unfolding holds_nothing transaction.empty lineset.empty no_line all_below
empty_nothing = refl

pub empty_touches : (m : ℕ) → transaction.touches transaction.empty m ≡ false
unfolding transaction.empty
empty_touches m = simp has_empty

pub empty_held : (len : ℕ) → held_right transaction.empty len ≡ true
unfolding transaction.empty unused_zero place_right indices_inside lines_inside line_inside distinct writes_logged line_logged logs_line marks_right all_below any_below
empty_held len =
    held_whole transaction.empty len (record {
      unused = refl;
      indices = refl;
      touched = all_from (λ l. line_inside transaction.empty l len) lines (λ l h. rw empty_touches (or-true (ltb (l * line_size) len)));
      differ = refl;
      logged = all_from (line_logged transaction.empty) lines (λ l h. rw has_empty);
      marks = refl;
    })

-- ---- a line more

-- all lines lie in memory still
more_inside : (x y : Transaction) (i len : ℕ) → i < len → ((m : ℕ) → transaction.touches y m ≡ (transaction.touches x m || eqb m (transaction.line i)))
    → lines_inside x len ≡ true → lines_inside y len ≡ true
unfolding lines_inside line_inside
more_inside x y i len h t p = all_from _ lines (λ m q. rw t (go m (eqb m (transaction.line i)) refl (all_at (λ l. line_inside x l len) lines m p q)))
  where
    go : (m : ℕ) (b : Bool) → eqb m (transaction.line i) ≡ b → line_inside x m len ≡ true → (ltb (m * line_size) len || not (transaction.touches x m || b)) ≡ true
    go m true e p = ap (λ (b : Bool). b || not (transaction.touches x m || true)) (lt-ltb (m * line_size) len (omega (arith, eqb-true m _ e)))
    go m false e p = rw or-false p

-- what the sets have after a load
pub join_has : (x : Transaction) (i m : ℕ) → Shaped x → transaction.line i < lines → lineset.has (transaction.join x i).reads m ≡ (lineset.has x.reads m || eqb m (transaction.line i))
join_has x i m s l = has_with x.reads (transaction.line i) m (omega arith)

pub join_touches : (x : Transaction) (i m : ℕ) → Shaped x → transaction.line i < lines → transaction.touches (transaction.join x i) m ≡ (transaction.touches x m || eqb m (transaction.line i))
join_touches x i m s l = rw join_has (swap (lineset.has x.reads m) _ _)
  where
    swap : (a b c : Bool) → (a || b || c) ≡ (a || c || b)
    swap true b c = refl
    swap false b c = or_comm b c

pub join_held : (x : Transaction) (i len : ℕ) → Shaped x → i < len → transaction.line i < lines → held_right x len ≡ true → held_right (transaction.join x i) len ≡ true
unfolding unused_zero indices_inside distinct unlike writes_logged line_logged logs_line marks_right
join_held x i len s h l r =
    let p = held_parts x len r in
    held_whole (transaction.join x i) len (record {
      unused = p.unused;
      indices = p.indices;
      touched = more_inside x (transaction.join x i) i len h (λ m. join_touches x i m s l) p.touched;
      differ = p.differ;
      logged = p.logged;
      marks = p.marks;
    })

-- ---- a store

-- what the sets have after it
pub store_has : (x : Transaction) (i ms v m : ℕ) → Shaped x → transaction.line i < lines
    → lineset.has (transaction.store x i ms v).writes m ≡ (lineset.has x.writes m || eqb m (transaction.line i))
store_has x i ms v m s l = rw store_is (has_with x.writes (transaction.line i) m (omega arith))

pub store_reads : (x : Transaction) (i ms v : ℕ) → (transaction.store x i ms v).reads ≡ x.reads
store_reads x i ms v = simp store_is

pub store_touches : (x : Transaction) (i ms v m : ℕ) → Shaped x → transaction.line i < lines
    → transaction.touches (transaction.store x i ms v) m ≡ (transaction.touches x m || eqb m (transaction.line i))
store_touches x i ms v m s l = simp (store_reads, store_has x i ms v m s l, or_assoc)

-- no byte of an empty place is stored
none_marked : only_marked 0 0 ≡ true
unfolding only_marked byte place all_below
none_marked = refl

-- a used place is right, and a place that is right is so still where more are used
place_used : (e : Entry) (n c : ℕ) → n < c → place_right e n c ≡ true
unfolding place_right
place_used e n c h = ap (λ (b : Bool). b || eqb e.index 0 && eqb e.marks 0 && eqb e.value 0) (lt-ltb n c h)

place_more : (e : Entry) (n c d : ℕ) → c ≤ d → place_right e n c ≡ true → place_right e n d ≡ true
unfolding place_right
place_more e n c d h p = go (ltb n c) refl
  where
    go : (b : Bool) → ltb n c ≡ b → place_right e n d ≡ true
    go true q = place_used e n d (omega (arith, ltb-true n c q))
    go false q = rest (ltb n d) (rw q at p)
      where
        rest : (b : Bool) → (eqb e.index 0 && eqb e.marks 0 && eqb e.value 0) ≡ true → (b || eqb e.index 0 && eqb e.marks 0 && eqb e.value 0) ≡ true
        rest true z = refl
        rest false z = z

-- a place that is used after a store, with the doubleword that it holds: it was used before, or is the new one
data Used (x : Transaction) (i n j : ℕ) : Type 0 where
  old : n < x.count → j ≡ (transaction.entry x.log n).index → Used x i n j
  new : n ≡ x.count → j ≡ i → transaction.lookup x i ≡ None → Used x i n j

module _ (x : Transaction) (i ms v : ℕ) (s : Shaped x) (u : unused_zero x ≡ true) (f : transaction.full x (transaction.lookup x i) ≡ false) where
  count_is : (transaction.store x i ms v).count ≡ store_count x (transaction.lookup x i)
  count_is = simp store_is

  count_grows : x.count ≤ (transaction.store x i ms v).count
  count_grows = rw count_is (go (transaction.lookup x i))
    where
      go : (g : Option ℕ) → x.count ≤ store_count x g
      go (Some k) = omega arith
      go None = omega arith

  kept : (n : ℕ) → n < x.count → (transaction.entry (transaction.store x i ms v).log n).index ≡ (transaction.entry x.log n).index
  kept = store_index x i ms v s.log (unused_count x u) f

  there : transaction.entry (transaction.store x i ms v).log (store_place x (transaction.lookup x i)) ≡ transaction.stored (store_over x (transaction.lookup x i)) i ms v
  there = store_there x i ms v s.log (unused_count x u) f

  there_index : (transaction.entry (transaction.store x i ms v).log (store_place x (transaction.lookup x i))).index ≡ i
  unfolding transaction.stored
  there_index = ap (λ (e : Entry). e.index) there

  used : (n : ℕ) → n < (transaction.store x i ms v).count → Used x i n (transaction.entry (transaction.store x i ms v).log n).index
  used n h = go (dec_lt n x.count)
    where
      last : (g : Option ℕ) → n < store_count x g → x.count ≤ n → (n ≡ x.count) × (n ≡ store_place x g) × (g ≡ None)
      last (Some k) q o = absurd (omega arith)
      last None q o = (omega arith, omega arith, refl)

      go : Dec (n < x.count) → Used x i n (transaction.entry (transaction.store x i ms v).log n).index
      go (yes q) = old q (kept n q)
      go (no q) =
          let z = last (transaction.lookup x i) (rw count_is at h) (omega arith) in
          new z.0 (ap (λ (k : ℕ). (transaction.entry (transaction.store x i ms v).log k).index) z.1 ∙ there_index) z.2

  store_unused : unused_zero (transaction.store x i ms v) ≡ true
  unfolding unused_zero
  store_unused =
      and_intro _ _ (le-leb (transaction.store x i ms v).count most_places (rw count_is (store_count_most x (transaction.lookup x i) (unused_count x u) f)))
      (all_from _ most_places (λ n h. go n h (ℕ_discrete n (store_place x (transaction.lookup x i)))))
    where
      go : (n : ℕ) → n < most_places → Dec (n ≡ store_place x (transaction.lookup x i))
          → place_right (transaction.entry (transaction.store x i ms v).log n) n (transaction.store x i ms v).count ≡ true
      go n h (yes e) = place_used _ n _ (rw (count_is, e) (store_place_below x i))
      go n h (no o) = rw (store_other x (transaction.lookup x i) i ms v n o) (place_more _ n x.count _ count_grows (unused_place x u n h))

  store_indices : (len : ℕ) → i < len → indices_inside x len ≡ true → indices_inside (transaction.store x i ms v) len ≡ true
  unfolding indices_inside
  store_indices len h p = all_from _ _ (λ n q. go n _ (used n q))
    where
      go : (n j : ℕ) → Used x i n j → ltb j len ≡ true
      go n j (old q e) = rw e (all_at (λ n. ltb (transaction.entry x.log n).index len) x.count n p q)
      go n j (new q e a) = rw e (lt-ltb i len h)

  store_differ : distinct x ≡ true → distinct (transaction.store x i ms v) ≡ true
  unfolding distinct unlike
  store_differ p = all_from _ _ (λ n q. all_from _ n (λ k l. go n k l _ (used n q)))
    where
      go : (n k : ℕ) → k < n → (j : ℕ) → Used x i n j → not (eqb (transaction.entry (transaction.store x i ms v).log k).index j) ≡ true
      go n k l j (old q e) = rw (e, kept k (omega arith)) (all_at _ n k (all_at (unlike x) x.count n p q) l)
      go n k l j (new q e a) =
          rw (e, kept k (omega arith)) (ap not (ne_eqb (transaction.entry x.log k).index i (lookup_absent x.log i x.count {k = k} a (omega arith))))

  -- the lines of the log's indices after a store
  logs : (m : ℕ) → logs_line (transaction.store x i ms v) m ≡ (logs_line x m || eqb m (transaction.line i))
  unfolding logs_line
  logs m = go (eqb m (transaction.line i)) refl (logs_line x m) refl
    where
      go : (b : Bool) → eqb m (transaction.line i) ≡ b → (c : Bool) → logs_line x m ≡ c → logs_line (transaction.store x i ms v) m ≡ (c || b)
      go true e c d =
          any_at _ _ (store_place x (transaction.lookup x i)) (rw there_index (eq-eqb _ m (sym (eqb-true m _ e)))) (rw count_is (store_place_below x i)) ∙ sym (or-true c)
      go false e true d = let w = any_witness _ x.count d in any_at _ _ w.0 (rw (kept w.0 w.1) w.2) (omega (arith, count_grows, w.1))
      go false e false d = any_false _ _ (λ n q. line_of n _ (used n q))
        where
          line_of : (n j : ℕ) → Used x i n j → eqb (transaction.line j) m ≡ false
          line_of n j (old q r) = rw r (any_false_at (λ n. eqb (transaction.line (transaction.entry x.log n).index) m) x.count n d q)
          line_of n j (new q r a) = rw r (ne_eqb _ m (λ z. eqb-false m _ e (sym z)))

  store_logged : transaction.line i < lines → writes_logged x ≡ true → writes_logged (transaction.store x i ms v) ≡ true
  unfolding writes_logged line_logged
  store_logged l p = all_from _ lines (λ m h. rw (store_has x i ms v m s l, logs m) (both (lineset.has x.writes m) (logs_line x m) _ (all_at (line_logged x) lines m p h)))
    where
      both : (a b c : Bool) → beq a b ≡ true → beq (a || c) (b || c) ≡ true
      both true true c e = refl
      both true false c e = absurd (false≢true e)
      both false true c e = absurd (false≢true e)
      both false false true e = refl
      both false false false e = refl

  -- marks and values after a store: its place has a mark, and zeros where none is
  stored_right : (e : Entry) → 0 < ms → only_marked e.marks e.value ≡ true → marked_right (transaction.stored e i ms v) ≡ true
  unfolding marked_right transaction.stored
  stored_right e z o =
      and_intro _ _ (ap not (ne_eqb (bit_or e.marks ms) 0 (λ q. omega (arith, or_add_and e.marks ms, and_le_l e.marks ms)))) (merged_only ms e.marks e.value v o)

  over_right : marks_right x ≡ true → (g : Option ℕ) → transaction.lookup x i ≡ g → only_marked (store_over x g).marks (store_over x g).value ≡ true
  unfolding marks_right marked_right
  over_right p (Some k) e =
      and_right (not (eqb (transaction.entry x.log k).marks 0)) _ (all_at (λ n. marked_right (transaction.entry x.log n)) x.count k p (lookup_below x.log i x.count e))
  over_right p None e = none_marked

  store_marks : 0 < ms → marks_right x ≡ true → marks_right (transaction.store x i ms v) ≡ true
  unfolding marks_right
  store_marks z p = all_from _ _ (λ n q. go n (ℕ_discrete n (store_place x (transaction.lookup x i))) (used n q))
    where
      below : (n : ℕ) {j : ℕ} → (n ≡ store_place x (transaction.lookup x i) → ⊥) → Used x i n j → n < x.count
      below n o (old q e) = q
      below n o (new q e a) = absurd (o (q ∙ sym (ap (store_place x) a)))

      go : (n : ℕ) → Dec (n ≡ store_place x (transaction.lookup x i)) → Used x i n (transaction.entry (transaction.store x i ms v).log n).index → marked_right (transaction.entry (transaction.store x i ms v).log n) ≡ true
      go n (yes e) q = ap (λ (k : ℕ). marked_right (transaction.entry (transaction.store x i ms v).log k)) e ∙ ap marked_right there ∙ stored_right _ z (over_right p (transaction.lookup x i) refl)
      go n (no o) q = rw (store_other x (transaction.lookup x i) i ms v n o) (all_at (λ n. marked_right (transaction.entry x.log n)) x.count n p (below n o q))

pub store_held : (x : Transaction) (i ms v len : ℕ) → Shaped x → 0 < ms → i < len → transaction.line i < lines → transaction.full x (transaction.lookup x i) ≡ false
    → held_right x len ≡ true → held_right (transaction.store x i ms v) len ≡ true
store_held x i ms v len s z h l f r =
    let p = held_parts x len r in
    held_whole (transaction.store x i ms v) len (record {
      unused = store_unused x i ms v s p.unused f;
      indices = store_indices x i ms v s p.unused f len h p.indices;
      touched = more_inside x (transaction.store x i ms v) i len h (λ m. store_touches x i ms v m s l) p.touched;
      differ = store_differ x i ms v s p.unused f p.differ;
      logged = store_logged x i ms v s p.unused f l p.logged;
      marks = store_marks x i ms v s p.unused f z p.marks;
    })

-- ---- footprints

-- where an access is not crowded, its line is counted already or there is room for one more
room : (x : Transaction) (l n : ℕ) → transaction.crowded x l ≡ false → lineset.footprint x.reads x.writes ≤ most_footprint
    → (transaction.touches x l ≡ true → n ≡ lineset.footprint x.reads x.writes)
    → (transaction.touches x l ≡ false → n ≡ suc (lineset.footprint x.reads x.writes)) → n ≤ most_footprint
unfolding transaction.crowded
room x l n c h same more = go (transaction.touches x l) refl
  where
    go : (b : Bool) → transaction.touches x l ≡ b → n ≤ most_footprint
    go true e = omega (arith, same e)
    go false e = omega (arith, more e, leb-false most_footprint (lineset.footprint x.reads x.writes) (rw e at c))

-- where an access does not overflow the footprint stays at most 32
pub join_footprint : (x : Transaction) (i : ℕ) → Shaped x → transaction.line i < lines → transaction.crowded x (transaction.line i) ≡ false
    → lineset.footprint x.reads x.writes ≤ most_footprint
    → lineset.footprint (transaction.join x i).reads (transaction.join x i).writes ≤ most_footprint
join_footprint x i s l c h =
    room x (transaction.line i) _ c h (footprint_with_old x.reads x.writes (transaction.line i))
    (footprint_with_new x.reads x.writes (transaction.line i) l (omega arith))

pub store_footprint : (x : Transaction) (i ms v : ℕ) → Shaped x → transaction.line i < lines → transaction.crowded x (transaction.line i) ≡ false
    → lineset.footprint x.reads x.writes ≤ most_footprint
    → lineset.footprint (transaction.store x i ms v).reads (transaction.store x i ms v).writes ≤ most_footprint
store_footprint x i ms v s l c h =
    rw store_is
    (room x (transaction.line i) _ c h (footprint_with_old_write x.reads x.writes (transaction.line i))
    (footprint_with_new_write x.reads x.writes (transaction.line i) l (omega arith)))
