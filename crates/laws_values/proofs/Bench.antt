-- K1 to K10 hold, by computation over the definitions: each case, and the table. A step tests the whole machine; `keeps` says that it stays
-- valid, so the computation leaves that test out.
use mathlib.Core.Path.{◌≡◌, refl, ap, ◌∙◌}
use mathlib.Core.Bool.{Bool, true, false, cond, ◌&&◌}
use mathlib.Core.List.{List, [], ◌∷◌}
use Prim.Native.Nat.{ℕ}
use lib.Dec.{eqb}
use lib.ListN.{length}
use Rattle.base.specs.Below.{all_below, any_below, count_below}
use Rattle.lines.specs.Lines as lineset
use Rattle.doubleword.specs.Doubleword as doubleword
use Rattle.transaction.specs.Transaction as transaction
use Rattle.thread.specs.Thread.{recording, handling, felled}
use Rattle.event.specs.Event.{kind, operands_right, tm_instruction, privileged}
use Rattle.power_rules.specs.Common.{fails, dooms}
use Rattle.power_rules.specs.Compare as compare
use Rattle.power_rules.specs.Access.{load, logs, meets_own, store}
use Rattle.power_rules.specs.Aborts.{tabort, tabort_if}
use Rattle.power_rules.specs.Begins.{tbegin}
use Rattle.power_rules.specs.Suspends.{tsuspend, tsr}
use Rattle.power_rules.specs.Plain.{addi, disallowed, host}
use Rattle.step_rules.specs.Effects.{effect}
use Rattle.machine.specs.Machine.{fresh, fresh_thread}
use Rattle.machine.specs.Valid as valid
use Rattle.step_rules.specs.Refusal.{bad_thing, turned_down, refused_there, refused_later}
use Rattle.step_rules.specs.Conflict.{hits, struck, strike, others}
use Rattle.step_rules.specs.Step.{Outcome, outcome, perform, step}
use Rattle.step_rules.specs.Feed.{Fed, after}
use Rattle.step_rules.proofs.Refusals.{refusal_valid}
use Rattle.laws_keeping.proofs.Keeping.{keeps}
use Rattle.laws_values.specs.Bench.{Case, Expect, met, all_met, told, holds, all_hold, table, k1, k2, k3, k4, k5, k6, k6_done, k7, k7_done, k8, k9, k10, k10_not}

-- the step on a machine that is known to be valid
abbrev quick : Outcome → Fed → Outcome
quick o f =
    let m = o.done.machine in
    let n = refused_later m (length o.memory) f.by f.event in
    cond (eqb n 0) (perform m o.memory f.by f.event) (outcome n m o.memory)

quick_same : (o : Outcome) (f : Fed) → valid.valid o.done.machine (length o.memory) ≡ true → after o f ≡ quick o f
unfolding step
quick_same o f v = simp (refusal_valid o.done.machine (length o.memory) f.by f.event v)

unfoldable told_valid : List Fed → List ℕ → List Expect → Outcome → Bool
told_valid [] [] expects o = all_met o expects
told_valid [] (a ∷ rest) expects o = false
told_valid (f ∷ fs) [] expects o = false
told_valid (f ∷ fs) (a ∷ rest) expects o = eqb (quick o f).done.answer a && told_valid fs rest expects (quick o f)

told_same : (fs : List Fed) (answers : List ℕ) (expects : List Expect) (o : Outcome) → valid.valid o.done.machine (length o.memory) ≡ true
    → told fs answers expects o ≡ told_valid fs answers expects o
unfolding told told_valid
told_same [] [] expects o v = refl
told_same [] (a ∷ rest) expects o v = refl
told_same (f ∷ fs) [] expects o v = refl
told_same (f ∷ fs) (a ∷ rest) expects o v =
    ap (λ (b : Bool). eqb (after o f).done.answer a && b) (told_same fs rest expects (after o f) (keeps o.done.machine o.memory f.by f.event v).1)
    ∙ ap (λ (p : Outcome). eqb p.done.answer a && told_valid fs rest expects p) (quick_same o f v)

-- a name for all that the cases compute through: to unfold it is to unfold what stands on its line
computed : Bool
unfolding all_below any_below count_below
    doubleword.byte doubleword.number doubleword.merged doubleword.only_marked doubleword.part
    lineset.place lineset.empty lineset.has lineset.with lineset.meets lineset.footprint
    transaction.empty transaction.discard transaction.lookup_in transaction.loaded transaction.crowded transaction.full transaction.stored transaction.store_at transaction.written
    recording handling felled kind operands_right tm_instruction privileged fails dooms compare.picked compare.holds
    effect tbegin tabort tabort_if tsuspend tsr load logs meets_own store addi disallowed host
    fresh fresh_thread
    valid.sized valid.shaped valid.place_right valid.unused_zero valid.aligned valid.cr_small valid.fields_small valid.no_line valid.holds_nothing valid.live_rules valid.state_rules valid.indices_inside valid.line_inside valid.lines_inside valid.unlike valid.distinct valid.logs_line valid.line_logged valid.writes_logged valid.marked_right valid.marks_right valid.held_right valid.thread_valid valid.zero_gpr valid.zero_cr valid.zero_msr valid.zero_failure valid.zero_saved valid.zero_control valid.zero_thread valid.clash valid.clear_of valid.apart valid.thread_right valid.threads_right valid.valid
    bad_thing turned_down refused_there refused_later hits struck strike others perform met all_met told_valid
computed = true

-- a case of a valid machine: what is computed of it, and what is promised
abbrev ValidCase : Case → Type 0
ValidCase c = (valid.valid c.start (length c.memory) ≡ true) × (told_valid c.events c.answers c.expects (outcome 0 c.start c.memory) ≡ true)

held : (c : Case) → ValidCase c → holds c ≡ true
unfolding holds
held c p = told_same c.events c.answers c.expects (outcome 0 c.start c.memory) p.0 ∙ p.1

k1_holds : ValidCase k1
unfolding computed
k1_holds = (refl, refl)

k2_holds : ValidCase k2
unfolding computed
k2_holds = (refl, refl)

k3_holds : ValidCase k3
unfolding computed
k3_holds = (refl, refl)

k4_holds : ValidCase k4
unfolding computed
k4_holds = (refl, refl)

k5_holds : ValidCase k5
unfolding computed
k5_holds = (refl, refl)

k6_holds : ValidCase k6
unfolding computed
k6_holds = (refl, refl)

k6_done_holds : ValidCase k6_done
unfolding computed
k6_done_holds = (refl, refl)

k7_holds : ValidCase k7
unfolding computed
k7_holds = (refl, refl)

k7_done_holds : ValidCase k7_done
unfolding computed
k7_done_holds = (refl, refl)

k8_holds : ValidCase k8
unfolding computed
k8_holds = (refl, refl)

k9_holds : ValidCase k9
unfolding computed
k9_holds = (refl, refl)

k10_holds : ValidCase k10
unfolding computed
k10_holds = (refl, refl)

k10_not_holds : ValidCase k10_not
unfolding computed
k10_not_holds = (refl, refl)

pub k1_to_k10 : all_hold table ≡ true
unfolding all_hold
k1_to_k10 = simp (held k1 k1_holds, held k2 k2_holds, held k3 k3_holds, held k4 k4_holds, held k5 k5_holds, held k6 k6_holds, held k6_done k6_done_holds, held k7 k7_holds, held k7_done k7_done_holds, held k8 k8_holds, held k9 k9_holds, held k10 k10_holds, held k10_not k10_not_holds)
