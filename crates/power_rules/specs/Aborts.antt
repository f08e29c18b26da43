-- tabort., tabortwc. and tabortdc. (rules E3 to E5). Clauses by state first.
use Rattle.std.specs.Prelude.{ℕ, Bool, true, cond}
use Rattle.transaction.specs.declared.Cause.{Cause}
use Rattle.transaction.specs.declared.Cause.TheVariants.{Abort}
use Rattle.thread.specs.declared.State.{State}
use Rattle.thread.specs.declared.State.TheVariants.{N, T, S}
use Rattle.thread.specs.declared.Thread.{Thread}
use Rattle.power_rules.specs.Common.{cr0_from_state, cr0_only, gpr, fails, dooms}
use Rattle.power_rules.specs.declared.Did.{Did}
use Rattle.power_rules.specs.Compare.{holds_in_words, holds_in_doublewords}

-- 3. tabort. (RA): the cause by RA, recorded in T and S
unfoldable pub tabort : State → Thread → Cause → Did
tabort N t cause = cr0_only t
tabort T t cause = fails t cause
tabort S t cause = dooms (cr0_from_state t) cause true

-- 4, 5. tabortwc., tabortdc.: the cause of RA = 0, where one of the comparisons asked for is true
unfoldable pub tabort_if : Thread → Bool → Did
tabort_if t held = cond held (tabort t.control.msr.state t (Abort 0)) (cr0_only t)

abbrev pub tabortwc : Thread → ℕ → ℕ → ℕ → Did
tabortwc t to ra rb = tabort_if t (holds_in_words to (gpr t ra) (gpr t rb))

abbrev pub tabortdc : Thread → ℕ → ℕ → ℕ → Did
tabortdc t to ra rb = tabort_if t (holds_in_doublewords to (gpr t ra) (gpr t rb))
