-- The places of a log as lists.
use borrow.Author.Tests.{le-ltb, lt-ltb}
use mathlib.Core.Path.{◌≡◌, sym, ap, ◌∙◌}
use mathlib.Core.Bool.{Bool, ◌&&◌, ◌||◌, not, and-true}
use mathlib.Core.List.{List}
use Prim.Native.Nat.{ℕ, ◌+◌, ◌-◌, ◌≤◌, ◌<◌}
use native.Mathlib.Omega.{arith}
use lib.Dec.{eqb}
use lib.ListN.{length, drop, take}
use Rattle.std.proofs.lemmas.List.{get_or-take}
use Rattle.std.specs.List.{list_all}
use Rattle.base.specs.Below.{all_below, any_below}
use Rattle.base.specs.Limits.{lines, most_places, words}
use Rattle.base.proofs.Below.{all_add, all_cong, all_from}
use Rattle.base.proofs.Lists.{all_dropped, all_listed}
use Rattle.transaction.specs.Transaction.{entry, line, no_entry}
use Rattle.transaction.specs.declared.Entry.{Entry}
use Rattle.lines.specs.Lines.{has}
use Rattle.lines.specs.declared.LineSet.{LineSet}
use Rattle.machine.specs.Valid.{place_right}

-- the used ones are the first n
module _ (es us : List Entry) (n : ℕ) (q : us ≡ take n es) where
  pub used_at : (k : ℕ) → k < n → entry us k ≡ entry es k
  used_at k h = ap (λ (xs : List Entry). entry xs k) q ∙ get_or-take n es k no_entry h

  pub all_used : (p : Entry → Bool) → length us ≡ n → all_below (λ k. p (entry es k)) n ≡ list_all p us
  all_used p e = all_cong _ _ n (λ k h. ap p (sym (used_at k h))) ∙ all_listed p no_entry us n e

-- the index at place n is none of those before it
abbrev pub new_at : List Entry → ℕ → Bool
new_at es n = all_below (λ k. not (eqb (entry es k).index (entry es n).index)) n

-- place n has the line
abbrev pub there : List Entry → ℕ → ℕ → Bool
there es l n = eqb (line (entry es n).index) l

-- the set has the lines of the first i places
abbrev pub Lines_of : LineSet → List Entry → ℕ → Type 0
Lines_of s es i = (length s.words ≡ words) × ((l : ℕ) → l < lines → has s l ≡ any_below (there es l) i)

-- those past the count
abbrev pub is_unused : Entry → Bool
is_unused e = eqb e.index 0 && eqb e.marks 0 && eqb e.value 0

pub unused_listed : (es : List Entry) (n : ℕ) → length es ≡ most_places → n ≤ most_places
    → all_below (λ k. place_right (entry es k) k n) most_places ≡ list_all is_unused (drop n es)
unfolding place_right
unused_listed es n e h =
    let f = λ (k : ℕ). place_right (entry es k) k n in
    ap (all_below f) (let q : most_places ≡ n + (most_places - n) = omega arith in q)
    ∙ all_add f n (most_places - n)
    ∙ ap (λ (b : Bool). all_below (λ k. f (n + k)) (most_places - n) && b) (all_from f n (λ k l. ap (λ (b : Bool). b || is_unused (entry es k)) (lt-ltb k n l)))
    ∙ and-true _
    ∙ all_cong _ _ (most_places - n) (λ k l. ap (λ (b : Bool). b || is_unused (entry es (n + k))) (le-ltb (n + k) n (omega arith)))
    ∙ all_dropped is_unused no_entry es n (most_places - n) (omega arith)
