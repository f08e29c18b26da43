-- The examples' machines: alike, and what they compute through.
use mathlib.Core.Path.{◌≡◌, refl, ap}
use mathlib.Core.Bool.{Bool, true, false}
use mathlib.Core.List.{List, []}
use Prim.Native.Nat.{ℕ, zero, suc}
use lib.Dec.{eqb}
use lib.ListN.{length, get_or}
use borrow.Author.Tests.{eqb-false}
use Rattle.base.specs.Below.{all_below, any_below, count_below}
use Rattle.lines.specs.Lines as lineset
use Rattle.doubleword.specs.Doubleword as doubleword
use Rattle.transaction.specs.Transaction as transaction
use Rattle.thread.specs.Thread.{recording, handling, felled}
use Rattle.event.specs.Event.{kind, operands_right, tm_instruction, privileged}
use Rattle.power_rules.specs.Common.{fails}
use Rattle.power_rules.specs.Compare as compare
use Rattle.power_rules.specs.Aborts as aborts
use Rattle.power_rules.specs.Access as access
use Rattle.power_rules.specs.Ends as ends
use Rattle.power_rules.specs.Suspends as suspends
use Rattle.power_rules.specs.Reclaims as reclaims
use Rattle.power_rules.specs.Special as special
use Rattle.power_rules.specs.Plain as plain
use Rattle.step_rules.specs.Effects.{effect}
use Rattle.machine.specs.Machine.{fresh, fresh_thread}
use Rattle.machine.specs.Valid as valid
use Rattle.step_rules.specs.Refusal.{bad_thing, turned_down, refused_there, refused_later, refusal}
use Rattle.step_rules.specs.Conflict.{hits, struck, strike, others}
use Rattle.step_rules.specs.Step.{perform, step}
use Rattle.laws_secrecy.specs.Secrecy.{Alike, tells, Stepping}
use Rattle.laws_secrecy.specs.Corollaries.{seen}
use Rattle.laws_examples.specs.Examples.{Example, small_memory, machine, start, ToldApart}

-- a name for all that the examples compute through: to unfold it is to unfold what stands on its line
unfoldable pub computed : Bool
unfolding all_below any_below count_below
    doubleword.byte doubleword.number doubleword.merged doubleword.only_marked doubleword.part doubleword.placed
    lineset.place lineset.empty lineset.has lineset.with lineset.meets lineset.footprint
    transaction.empty transaction.discard transaction.lookup_in transaction.loaded transaction.crowded transaction.full transaction.stored transaction.store_at transaction.commit_in transaction.written
    recording handling felled kind operands_right tm_instruction privileged fails compare.picked compare.holds
    effect ends.tend aborts.tabort aborts.tabort_if suspends.tsuspend suspends.tsr reclaims.treclaim special.get_spr special.mfspr
    access.load access.logs access.meets_own access.store plain.addi plain.disallowed plain.interrupt
    fresh fresh_thread
    valid.sized valid.shaped valid.place_right valid.unused_zero valid.aligned valid.cr_small valid.fields_small valid.no_line valid.holds_nothing valid.live_rules valid.state_rules valid.indices_inside valid.line_inside valid.lines_inside valid.unlike valid.distinct valid.logs_line valid.line_logged valid.writes_logged valid.marked_right valid.marks_right valid.held_right valid.thread_valid valid.clash valid.clear_of valid.apart valid.thread_right valid.threads_right valid.valid valid.machine_number
    bad_thing turned_down refused_there refused_later refusal hits struck strike others perform step tells seen
computed = true

-- whatever the values
pub machines_alike : (x : Example) (a b : ℕ) → Alike 0 (machine x a) (machine x b)
unfolding transaction.empty transaction.stored transaction.store_at transaction.lookup_in
machines_alike x a b =
    record {
      count = refl;
      others = elim [ zero ↦ λ d. absurd (d refl) | suc v ↦ λ d. refl ];
      own =
          record {
            transactional = refl;
            control = refl;
            checkpoint = refl;
            reads = refl;
            writes = refl;
            count = refl;
            addresses = elim [ zero ↦ refl | suc n ↦ refl ];
            marks = elim [ zero ↦ refl | suc n ↦ refl ];
          };
    }

-- valid at level 1, with a fresh thread 1
pub level_1 : (pr : Bool) (n : ℕ) → valid.valid (machine (record { level = 1; pr = pr; other = fresh_thread; events = [] }) n) (length small_memory) ≡ true
unfolding computed
level_1 pr n = refl

-- an example is told apart by one place of what is seen
pub told_apart : (s : Stepping) (x : Example) (k : ℕ) → ((n : ℕ) → valid.valid (machine x n) (length small_memory) ≡ true)
    → eqb (get_or (seen s x.events (start x 0)) k 0) (get_or (seen s x.events (start x 1)) k 0) ≡ false → ToldApart s x
told_apart s x k right differ =
    record { right = right; alike = machines_alike x 0 1; differ = λ e. eqb-false _ _ differ (ap (λ (l : List ℕ). get_or l k 0) e) }
