-- Each thing that the condition excludes tells, by computation: each case, and the table.
use mathlib.Core.Path.{refl}
use mathlib.Core.Bool.{true, false}
use Rattle.step_rules.specs.Step.{step}
use Rattle.laws_examples.specs.Needed.{example, Needed, commit, commit_all, suspend, interrupt, abort_words, abort_doublewords, abort_coded, reclaim_coded, AllNeeded}
use Rattle.laws_examples.proofs.Examples.{computed, level_1, told_apart}

-- the numbers: the place at which what is seen differs, the answers before the memory
commit_needed : Needed commit
unfolding computed
commit_needed = record { excluded = refl; closed = refl; apart = told_apart step (example commit) 1 (level_1 true) refl }

commit_all_needed : Needed commit_all
unfolding computed
commit_all_needed = record { excluded = refl; closed = refl; apart = told_apart step (example commit_all) 1 (λ n. refl) refl }

suspend_needed : Needed suspend
unfolding computed
suspend_needed = record { excluded = refl; closed = refl; apart = told_apart step (example suspend) 18 (level_1 true) refl }

interrupt_needed : Needed interrupt
unfolding computed
interrupt_needed = record { excluded = refl; closed = refl; apart = told_apart step (example interrupt) 18 (level_1 true) refl }

abort_words_needed : Needed abort_words
unfolding computed
abort_words_needed = record { excluded = refl; closed = refl; apart = told_apart step (example abort_words) 0 (level_1 true) refl }

abort_doublewords_needed : Needed abort_doublewords
unfolding computed
abort_doublewords_needed = record { excluded = refl; closed = refl; apart = told_apart step (example abort_doublewords) 0 (level_1 true) refl }

abort_coded_needed : Needed abort_coded
unfolding computed
abort_coded_needed = record { excluded = refl; closed = refl; apart = told_apart step (example abort_coded) 3 (level_1 true) refl }

reclaim_coded_needed : Needed reclaim_coded
unfolding computed
reclaim_coded_needed = record { excluded = refl; closed = refl; apart = told_apart step (example reclaim_coded) 3 (level_1 false) refl }

pub all_needed : AllNeeded
all_needed =
    (commit_needed, (commit_all_needed, (suspend_needed, (interrupt_needed, (abort_words_needed, (abort_doublewords_needed, (abort_coded_needed, (reclaim_coded_needed, tt))))))))
