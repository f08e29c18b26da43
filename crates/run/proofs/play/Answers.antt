-- `run::play` meets its contract: the records up to the first bad one, and that one behind them.
use Rattle.std.proofs.Common.{◌≡◌, sym, ap, ◌∙◌, ◌*◌, ◌≤◌, arith, length}
use Rattle.std.proofs.lemmas.List.{length-take-le}
use Rattle.run_rules.specs.Inner.{filled}
use Rattle.run_rules.specs.Run.{Result}
use Rattle.run.proofs.Prefix.{inside, none_before, whole, not_counted, none_bad, bad_behind}
use Rattle.run.proofs.play.Goals as goal
use Rattle.run.proofs.play.Goals.{then-ended-found-via-then-ended-found, then-ended-found-via-else-ended-found+then-found-eq-DONE}

pub overflow_mul-found : goal.overflow_mul-found
overflow_mul-found c =
    let h : c.first_bad-found.result.index * 16 ≤ length c.args.tape.now = inside c.args.m c.args.mem.now c.args.tape.now _ c.first_bad-found.ensures in
    omega (arith, h)

pub slice_bounds-run_valid-end : goal.slice_bounds-run_valid-end
slice_bounds-run_valid-end c =
    sym (length-take-le _ _ (inside c.args.m c.args.mem.now c.args.tape.now _ c.first_bad-found.ensures))

pub run_valid-ended-requires-clause-record_size_value : goal.run_valid-ended-requires-clause-record_size_value
run_valid-ended-requires-clause-record_size_value c =
    none_before c.args.m c.args.mem.now c.args.tape.now _ c.first_bad-found.ensures

pub returns-then-ended-found : goal.returns-then-ended-found
returns-then-ended-found c =
    let e : ◌≡◌ {A = Result} (record { ended = c.run_valid-ended.result; memory = c.run_valid-ended.new.mem; answers = c.run_valid-ended.new.answers }) (filled c.args.answers.now 0 (whole c.args.m c.args.mem.now c.args.tape.now _ c.first_bad-found.ensures)) =
    elim c.then-ended-found.branch [
      | then-ended-found-via-then-ended-found w ↦ not_counted c.args.m c.args.mem.now c.args.tape.now c.first_bad-found.result c.first_bad-found.ensures c.args.answers.now _ c.run_valid-ended.ensures w.if-ended-found.true
      | then-ended-found-via-else-ended-found+then-found-eq-DONE w ↦ none_bad c.args.m c.args.mem.now c.args.tape.now c.first_bad-found.result c.first_bad-found.ensures c.args.answers.now _ c.run_valid-ended.ensures w.if-found-eq-DONE.true
    ] in
    record { value = ap (λ (x : Result). x.ended) e; mem_after = ap (λ (x : Result). x.memory) e; answers_after = ap (λ (x : Result). x.answers) e }

pub returns : goal.returns
returns c =
    let e = bad_behind c.args.m c.args.mem.now c.args.tape.now c.first_bad-found.result c.first_bad-found.ensures c.args.answers.now _ c.run_valid-ended.ensures c.if-ended-found.false c.if-found-eq-DONE.false in
    record { value = ap (λ (x : Result). x.ended) e; mem_after = ap (λ (x : Result). x.memory) e; answers_after = c.put.ensures ∙ ap (λ (x : Result). x.answers) e }
