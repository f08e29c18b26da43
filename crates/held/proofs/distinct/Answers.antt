-- `held::distinct` meets its contract: after each turn the indices so far are distinct, and the set holds them.
use borrow.Author.Tests.{ne_eqb}
use mathlib.Core.Path.{◌≡◌, refl, sym, ap, subst, ◌∙◌}
use mathlib.Core.Bool.{Bool, true, false, not, ◌&&◌, ◌||◌, or_comm, or-false, not-not}
use mathlib.Core.List.{List}
use Prim.Native.Nat.{ℕ, ◌+◌, ◌-◌, ◌/◌, ◌≤◌, ◌<◌}
use native.Mathlib.Omega.{arith}
use lib.Dec.{eqb}
use lib.ListN.{length, take}
use Rattle.std.specs.List.{list_all}
use Rattle.base.specs.Below.{all_below, any_below}
use Rattle.base.specs.Limits.{most_memory}
use Rattle.base.proofs.Below.{all_none, all_at, all_cong, all_step, any_none, any_not, any_step, eqb_comm, still_false}
use Rattle.base.proofs.Lists.{all_taken}
use Rattle.lines.specs.Lines.{has, with}
use Rattle.lines.specs.declared.LineSet.{LineSet}
use Rattle.lines.proofs.Laws.{has_none, has_with, length_with}
use Rattle.transaction.specs.Transaction.{entry, no_entry}
use Rattle.transaction.specs.declared.Entry.{Entry}
use Rattle.machine.specs.Valid.{unlike, distinct}
use Rattle.held.specs.Inner.{Seen}
use Rattle.held.proofs.Places.{new_at, used_at}
use Rattle.held.proofs.distinct.Goals as goal
use Rattle.held.proofs.distinct.Goals.{then-d-lt-MEMORY, else-d-lt-MEMORY}

-- place k names the doubleword
abbrev names : List Entry → ℕ → ℕ → Bool
names es d k = eqb (entry es k).index d

-- the first n places, and one more
module _ (ws : List ℕ) (es : List Entry) (n : ℕ) (a : Seen ws es n) where
  more : (d : ℕ) → any_below (names es d) (n + 1) ≡ (any_below (names es d) n || names es d n)
  more d =
      any_step (names es d) (n + 1) (omega arith)
      ∙ ap (λ (k : ℕ). names es d k || any_below (names es d) k) (let e : n + 1 - 1 ≡ n = omega arith in e)
      ∙ or_comm (names es d n) (any_below (names es d) n)

  -- the doubleword of place n marked
  with_one : (us : List ℕ) → (entry es n).index < most_memory → record { words = us } ≡ with (record { words = ws }) (entry es n).index → Seen us es (n + 1)
  with_one us h e =
      let i = (entry es n).index in
      let w : i / 64 < length ws = omega (arith, a.0) in (
        ap (λ (s : LineSet). length s.words) e ∙ length_with (record { words = ws }) i ∙ a.0,
        λ d g. ap (λ (s : LineSet). has s d) e ∙ has_with (record { words = ws }) i d w ∙ (λ j. a.1 d g j || eqb_comm d i j) ∙ sym (more d),
      )

  -- place n has an index past memory
  past : most_memory ≤ (entry es n).index → Seen ws es (n + 1)
  past h = (
    a.0,
    λ d g. a.1 d g ∙ sym (or-false _) ∙ ap (◌||◌ (any_below (names es d) n)) (sym (ne_eqb (entry es n).index d (λ q. omega arith))) ∙ sym (more d),
  )

  -- the set tells whether the index at place n is new
  told : (entry es n).index < most_memory → not (has (record { words = ws }) (entry es n).index) ≡ new_at es n
  told h = ap not (a.1 (entry es n).index h ∙ any_not (names es (entry es n).index) n) ∙ not-not _

-- so does a look at the places before it
looked : (es : List Entry) (n : ℕ) → n ≤ length es → list_all (λ e. not (eqb e.index (entry es n).index)) (take n es) ≡ new_at es n
looked es n h = sym (all_taken (λ (e : Entry). not (eqb e.index (entry es n).index)) no_entry es n h)

-- all below n + 1
next : (f : ℕ → Bool) (n : ℕ) → all_below f (n + 1) ≡ (f n && all_below f n)
next f n = all_step f (n + 1) (omega arith) ∙ ap (λ (k : ℕ). f k && all_below f k) (let q : n + 1 - 1 ≡ n = omega arith in q)

-- a test that one number fails
fails : (f : ℕ → Bool) (n i : ℕ) → f i ≡ false → i < n → false ≡ all_below f n
fails f n i p h = sym (still_false (f i) (all_below f n) (λ e. all_at f n i e h) p)

-- of the used places as of the log
distinct_used : (es us : List Entry) (n : ℕ) → us ≡ take n es → all_below (λ k. all_below (λ j. not (eqb (entry es j).index (entry es k).index)) k) n ≡ all_below (new_at us) n
distinct_used es us n q =
    all_cong _ _ n (λ k h. all_cong _ _ k (λ j g. (λ i. not (eqb (sym (used_at es us n q j (omega arith)) i).index (sym (used_at es us n q k h) i).index))))

pub loop-k-init : goal.loop-k-init
loop-k-init c = record { distinct = all_none _ 0 (omega arith); seen = (refl, λ d h. has_none 64 d ∙ sym (any_none _ 0 (omega arith))) }

pub returns-then-not-fresh : goal.returns-then-not-fresh
unfolding distinct unlike
returns-then-not-fresh c =
    let x = c.args.x.now in
    let us = c.used-used.result.now in
    let k = c.loop-k.k in
    let old : new_at us k ≡ false =
    elim c.if-d-lt-MEMORY.branch [
      | then-d-lt-MEMORY w ↦ sym (w.fresh-is ∙ w.insert-fresh.ensures.value ∙ told c.loop-k.seen us k c.loop-k.invariant.seen w.if-d-lt-MEMORY.true) ∙ c.if-not-fresh.true
      | else-d-lt-MEMORY w ↦ sym (w.fresh-is ∙ w.is_unlike-fresh.ensures ∙ looked us k (omega (arith, c.loop-k-test.true))) ∙ c.if-not-fresh.true
    ] in
    fails (new_at us) x.count k old (omega (arith, c.loop-k-test.true, c.used-used.ensures.len))
    ∙ sym (distinct_used x.log us x.count c.used-used.ensures.value)

pub loop-k-preserved : goal.loop-k-preserved
loop-k-preserved c =
    let us = c.used-used.result.now in
    let k = c.loop-k.k in
    let before = c.loop-k.invariant in
    elim c.if-d-lt-MEMORY.branch [
      | then-d-lt-MEMORY w ↦
          let new : new_at us k ≡ true = sym (w.fresh-is ∙ w.insert-fresh.ensures.value ∙ told c.loop-k.seen us k before.seen w.if-d-lt-MEMORY.true) ∙ c.if-not-fresh.false in
          record {
            distinct = next (new_at us) k ∙ simp (new, before.distinct);
            seen = subst (λ (ws : List ℕ). Seen ws us (k + 1)) (sym w.seen-is) (with_one c.loop-k.seen us k before.seen _ w.if-d-lt-MEMORY.true w.insert-fresh.ensures.seen_after);
          }
      | else-d-lt-MEMORY w ↦
          let new : new_at us k ≡ true = sym (w.fresh-is ∙ w.is_unlike-fresh.ensures ∙ looked us k (omega (arith, c.loop-k-test.true))) ∙ c.if-not-fresh.false in
          record {
            distinct = next (new_at us) k ∙ simp (new, before.distinct);
            seen = subst (λ (ws : List ℕ). Seen ws us (k + 1)) (sym w.seen-is) (past c.loop-k.seen us k before.seen w.if-d-lt-MEMORY.false);
          }
    ]

pub returns : goal.returns
unfolding distinct unlike
returns c =
    let x = c.args.x.now in
    let us = c.used-used.result.now in
    let all : c.loop-k.k ≡ x.count = omega (arith, c.loop-k-test.false, c.used-used.ensures.len) in
    sym (distinct_used x.log us x.count c.used-used.ensures.value ∙ ap (all_below (new_at us)) (sym all) ∙ c.loop-k.invariant.distinct)
