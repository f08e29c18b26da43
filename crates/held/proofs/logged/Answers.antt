-- `held::logged` meets its contract: after each turn the set has the lines of the places so far.
use borrow.Author.Tests.{ne_eqb}
use mathlib.Core.Path.{◌≡◌, refl, sym, ap, subst, ◌∙◌}
use mathlib.Core.Bool.{◌||◌, or_comm, or-false}
use mathlib.Core.List.{List}
use Prim.Native.Nat.{ℕ, ◌+◌, ◌-◌, ◌/◌, ◌≤◌, ◌<◌}
use native.Mathlib.Omega.{arith}
use lib.Dec.{eqb}
use lib.ListN.{length}
use Rattle.base.specs.Below.{any_below}
use Rattle.base.specs.Limits.{lines}
use Rattle.base.proofs.Below.{any_none, any_step, any_cong, eqb_comm}
use Rattle.lines.specs.Lines.{empty, with}
use Rattle.lines.specs.declared.LineSet.{LineSet}
use Rattle.lines.proofs.Laws.{has_empty, has_with, length_with}
use Rattle.transaction.specs.Transaction.{entry, line}
use Rattle.transaction.specs.declared.Entry.{Entry}
use Rattle.machine.specs.Valid.{logs_line}
use Rattle.held.proofs.Places.{there, used_at, Lines_of}
use Rattle.held.proofs.logged.Goals as goal
use Rattle.held.proofs.logged.Goals.{then-l-lt-LINES, else-l-lt-LINES}

-- the first i places, and one place more
module _ (s : LineSet) (es : List Entry) (i : ℕ) (a : Lines_of s es i) where
  more : (l : ℕ) → any_below (there es l) (i + 1) ≡ (any_below (there es l) i || there es l i)
  more l =
      any_step (there es l) (i + 1) (omega arith)
      ∙ ap (λ (k : ℕ). there es l k || any_below (there es l) k) (let e : i + 1 - 1 ≡ i = omega arith in e)
      ∙ or_comm (there es l i) (any_below (there es l) i)

  with_line : line (entry es i).index < lines → Lines_of (with s (line (entry es i).index)) es (i + 1)
  with_line h =
      let k = line (entry es i).index in
      let n : k / 64 < length s.words = omega (arith, a.0) in (
        length_with s k ∙ a.0,
        λ l g. has_with s k l n ∙ (λ j. a.1 l g j || eqb_comm l k j) ∙ sym (more l),
      )

  past_lines : lines ≤ line (entry es i).index → Lines_of s es (i + 1)
  past_lines h = (
    a.0,
    λ l g. a.1 l g ∙ sym (or-false _) ∙ ap (◌||◌ (any_below (there es l) i)) (sym (ne_eqb (line (entry es i).index) l (λ q. omega arith))) ∙ sym (more l),
  )

pub loop-e-init : goal.loop-e-init
unfolding empty
loop-e-init c = rw c.empty-s.ensures (refl, λ l g. has_empty l ∙ sym (any_none _ 0 (omega arith)))

pub loop-e-preserved : goal.loop-e-preserved
loop-e-preserved c =
    let us = c.used-e-items.result.now in
    let i = c.loop-e.e-index in
    elim c.if-l-lt-LINES.branch [
      | then-l-lt-LINES w ↦
          subst (λ (t : LineSet). Lines_of t us (i + 1)) (sym (w.s-is ∙ w.insert.ensures)) (with_line c.loop-e.s us i c.loop-e.invariant w.if-l-lt-LINES.true)
      | else-l-lt-LINES w ↦
          subst (λ (t : LineSet). Lines_of t us (i + 1)) (sym w.s-is) (past_lines c.loop-e.s us i c.loop-e.invariant w.if-l-lt-LINES.false)
    ]

pub returns : goal.returns
unfolding logs_line
returns c =
    let x = c.args.x.now in
    let us = c.used-e-items.result.now in
    let all : c.loop-e.e-index ≡ x.count = omega (arith, c.loop-e-test.false, c.used-e-items.ensures.len) in
    λ l g. c.loop-e.invariant.1 l g ∙ ap (any_below (there us l)) all
    ∙ any_cong _ _ x.count (λ k h. ap (λ (e : Entry). eqb (line e.index) l) (used_at x.log us x.count c.used-e-items.ensures.value k h))
