-- The third demand is false of each leaky variant, by computation.
use mathlib.Core.Path.{refl}
use mathlib.Core.Bool.{true}
use Rattle.laws_secrecy.specs.Secrecy.{Until}
use Rattle.laws_examples.specs.Examples.{small_memory, machine, start, ToldApart}
use Rattle.laws_leaks.specs.Leaks.{at_once, unless_same, from_log, unrestored, nonzero, by_value, never_stored, Leak, Caught, leak_at_once, leak_unless_same, leak_from_log, leak_unrestored, leak_by_value, leak_never_stored, AllCaught}
use Rattle.laws_secrecy.proofs.Corollaries.{agrees_seen}
use Rattle.laws_examples.proofs.Examples.{computed, level_1, told_apart}

-- what is told apart by events that are allowed makes the demand false
caught : (l : Leak) → Until l.leaky 0 l.shown.events (start l.shown 0) → ToldApart l.leaky l.shown → Caught l
caught l u a =
    let x = l.shown in
    record {
      until = u;
      apart = a;
      caught = λ d. a.differ (agrees_seen l.leaky 0 x.events _ _ (d 0 (machine x 0) (machine x 1) small_memory (a.right 0) (a.right 1) a.alike x.events u));
    }

-- the numbers: the place at which what is seen differs, the answers before the memory
at_once_caught : Caught leak_at_once
unfolding computed at_once Until
at_once_caught = caught leak_at_once (λ o. (refl, tt)) (told_apart at_once leak_at_once.shown 17 (level_1 true) refl)

unless_same_caught : Caught leak_unless_same
unfolding computed unless_same Until
unless_same_caught = caught leak_unless_same (λ o. (refl, λ p. (refl, tt))) (told_apart unless_same leak_unless_same.shown 1 (λ n. refl) refl)

from_log_caught : Caught leak_from_log
unfolding computed from_log Until
from_log_caught = caught leak_from_log (λ o. (refl, λ p. (refl, tt))) (told_apart from_log leak_from_log.shown 18 (level_1 true) refl)

unrestored_caught : Caught leak_unrestored
unfolding computed unrestored Until
unrestored_caught = caught leak_unrestored (λ o. (refl, λ p. (refl, tt))) (told_apart unrestored leak_unrestored.shown 18 (level_1 true) refl)

by_value_caught : Caught leak_by_value
unfolding computed nonzero by_value Until
by_value_caught = caught leak_by_value (λ o. (refl, λ p. (refl, λ q. (refl, tt)))) (told_apart by_value leak_by_value.shown 2 (level_1 true) refl)

never_stored_caught : Caught leak_never_stored
unfolding computed never_stored Until
never_stored_caught = caught leak_never_stored (λ o. (refl, λ p. (refl, tt))) (told_apart never_stored leak_never_stored.shown 2 (λ n. refl) refl)

pub all_caught : AllCaught
all_caught = (at_once_caught, (unless_same_caught, (from_log_caught, (unrestored_caught, (by_value_caught, (never_stored_caught, tt))))))
