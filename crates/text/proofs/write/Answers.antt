-- `text::write` meets its contract: too long, a bad record, or run.
use mathlib.Core.Path.{sym, ap, ◌∙◌}
use Prim.Native.Nat.{ℕ}
use native.Mathlib.Omega.{arith}
use borrow.Author.Tests.{ltb-true, ltb-false}
use lib.ListN.{take}
use Rattle.std.specs.Prelude.{Some}
use mathlib.Core.List.{List}
use Rattle.text_lines.specs.Inner.{written}
use Rattle.text_lines.specs.Lines.{lines, end_line}
use Rattle.text_lines.specs.declared.Page.{Page}
use Rattle.text_lines.proofs.Laws.{written_on, lines_fit}
use Rattle.text.specs.Text.{ended}
use Rattle.text.proofs.Laws.{fresh_ended, text_long, text_bad, given_length, given_few, run_text}
use Rattle.text.proofs.write.Goals as goal

pub returns-then-is_long-clause-page_after : goal.returns-then-is_long-clause-page_after
returns-then-is_long-clause-page_after c =
    c.long_line.ensures ∙ ap (written c.args.page.now) (sym (text_long c.args.input.now (ltb-true _ _ (sym c.is_long.ensures ∙ c.if-is_long.true))))

pub returns-then-is_long-clause-value : goal.returns-then-is_long-clause-value
unfolding ended
returns-then-is_long-clause-value c = simp (sym c.is_long.ensures ∙ c.if-is_long.true)

pub returns-then-is_bad-clause-page_after : goal.returns-then-is_bad-clause-page_after
returns-then-is_bad-clause-page_after c =
    c.bad_line.ensures
    ∙ ap (written c.args.page.now) (sym (text_bad c.args.input.now c.run-ended.result (fresh_ended _ c.fresh.result _ c.fresh.ensures c.run-ended.ensures.value)
    (ltb-false _ _ (sym c.is_long.ensures ∙ c.if-is_long.false)) (sym c.is_bad.ensures ∙ c.if-is_bad.true)))

pub returns-then-is_bad-clause-value : goal.returns-then-is_bad-clause-value
unfolding ended
returns-then-is_bad-clause-value c =
    simp (sym c.is_long.ensures ∙ c.if-is_long.false) (ap Some (fresh_ended _ c.fresh.result _ c.fresh.ensures c.run-ended.ensures.value))

pub slice_bounds-answers-end : goal.slice_bounds-answers-end
slice_bounds-answers-end c =
    omega (arith, given_few c.args.input.now c.fresh.result c.run-ended.result c.run-ended.new.answers c.answered-n.result c.fresh.ensures c.run-ended.ensures.value c.run-ended.ensures.answers_after (ltb-false _ _ (sym c.is_long.ensures ∙ c.if-is_long.false)) (sym c.is_bad.ensures ∙ c.if-is_bad.false) c.answered-n.ensures, c.run-ended.auto.answers)

pub slice_bounds-lines-end : goal.slice_bounds-lines-end
slice_bounds-lines-end c =
    given_length c.args.input.now c.fresh.result c.run-ended.result c.run-ended.new.answers c.answered-n.result c.fresh.ensures c.run-ended.ensures.value c.run-ended.ensures.answers_after (ltb-false _ _ (sym c.is_long.ensures ∙ c.if-is_long.false)) (sym c.is_bad.ensures ∙ c.if-is_bad.false) c.answered-n.ensures

pub end_line-requires : goal.end_line-requires
end_line-requires c =
    let n = c.answered-n.result in
    let given : List ℕ = take n c.run-ended.new.answers in
    let long = given_length c.args.input.now c.fresh.result c.run-ended.result c.run-ended.new.answers c.answered-n.result c.fresh.ensures c.run-ended.ensures.value c.run-ended.ensures.answers_after (ltb-false _ _ (sym c.is_long.ensures ∙ c.if-is_long.false)) (sym c.is_bad.ensures ∙ c.if-is_bad.false) c.answered-n.ensures in
    let few = given_few c.args.input.now c.fresh.result c.run-ended.result c.run-ended.new.answers c.answered-n.result c.fresh.ensures c.run-ended.ensures.value c.run-ended.ensures.answers_after (ltb-false _ _ (sym c.is_long.ensures ∙ c.if-is_long.false)) (sym c.is_bad.ensures ∙ c.if-is_bad.false) c.answered-n.ensures in
    omega (arith, ap (λ p. p.at) c.lines.ensures, lines_fit 0 given)

pub returns-else-is_bad-clause-page_after : goal.returns-else-is_bad-clause-page_after
returns-else-is_bad-clause-page_after c =
    let page = c.args.page.now in
    let given : List ℕ = take c.answered-n.result c.run-ended.new.answers in
    let n : ℕ = c.run-ended.result.count in
    c.end_line.ensures ∙ ap (λ (p : Page). written p (end_line n)) c.lines.ensures ∙ written_on page (lines 0 given) (end_line n)
    ∙ ap (written page) (run_text c.args.input.now c.fresh.result c.run-ended.result c.run-ended.new.answers c.answered-n.result c.fresh.ensures c.run-ended.ensures.value c.run-ended.ensures.answers_after (ltb-false _ _ (sym c.is_long.ensures ∙ c.if-is_long.false)) (sym c.is_bad.ensures ∙ c.if-is_bad.false) c.answered-n.ensures)

pub returns-else-is_bad-clause-value : goal.returns-else-is_bad-clause-value
unfolding ended
returns-else-is_bad-clause-value c =
    simp (sym c.is_long.ensures ∙ c.if-is_long.false) (ap Some (fresh_ended _ c.fresh.result _ c.fresh.ensures c.run-ended.ensures.value))
