-- An event that is done answers 0, 20 or 21.
use mathlib.Core.Path.{◌≡◌, refl}
use mathlib.Core.Bool.{Bool, true}
use mathlib.Core.List.{List}
use Prim.Native.Nat.{ℕ}
use lib.Dec.{leb}
use Rattle.base.specs.Limits.{most_levels}
use Rattle.base.proofs.Below.{fork}
use Rattle.transaction.specs.declared.Cause.{Cause}
use Rattle.transaction.specs.declared.Cause.TheVariants.{Nesting, Footprint}
use Rattle.thread.specs.Texasr.{tl}
use Rattle.event.specs.declared.Event.{Event}
use Rattle.thread.specs.Thread.{failed}
use Rattle.thread.specs.declared.State.{State}
use Rattle.thread.specs.declared.State.TheVariants.{N, T, S}
use Rattle.thread.specs.declared.Thread.{Thread}
use Rattle.thread.specs.declared.Effect.{Effect}
use Rattle.power_rules.specs.Common.{cr0_from_state, gpr, fails, dooms, abort_cause}
use Rattle.power_rules.specs.Compare.{holds_in_words, holds_in_doublewords}
use Rattle.power_rules.specs.Access.{ld_overflows, std_overflows, load, logs, meets_own, store, tlbie}
use Rattle.power_rules.specs.Aborts.{tabort, tabort_if}
use Rattle.power_rules.specs.Begins.{tbegin}
use Rattle.power_rules.specs.Ends.{commits, tend}
use Rattle.power_rules.specs.Suspends.{tsuspend, tresume, tsr}
use Rattle.power_rules.specs.Reclaims.{tcheck, treclaim, trechkpt}
use Rattle.power_rules.specs.Special.{mtspr}
use Rattle.power_rules.specs.Plain.{disallowed, interrupt, host}
use Rattle.power_rules.specs.Returns.{taking}
use Rattle.thread.specs.declared.turns.Turn.{Turn}
use Rattle.thread.specs.declared.turns.Turn.TheVariants.{Bad, Fails, To}
use Rattle.step_rules.specs.Effects.{effect}
use Rattle.step_rules.proofs.Cases.{effect_by}
use Rattle.power_rules.specs.declared.Did.{Did}
use Rattle.run_rules.specs.Run.{goes_on}

abbrev Done : Did → Type 0
Done d = goes_on d.answer ≡ true

abbrev Does : Effect → Type 0
Does f = goes_on f.answer ≡ true

fails_done : (t : Thread) (cause : Cause) → Done (fails t cause)
unfolding fails
fails_done t cause = refl

dooms_done : (t : Thread) (cause : Cause) (exact : Bool) → Done (dooms t cause exact)
unfolding dooms
dooms_done t cause exact = fork (λ (n : ℕ). goes_on n ≡ true) (failed t.control) (λ e. refl) (λ e. refl)

tbegin_done : (s : State) (t : Thread) (r : Bool) → Done (tbegin s t r)
unfolding tbegin
tbegin_done N t r = refl
tbegin_done T t r =
    fork Done (leb most_levels (tl t.control.failure.texasr)) (λ e. fails_done t Nesting) (λ e. refl)
tbegin_done S t r = refl

tend_done : (s : State) (t : Thread) (a : Bool) → Does (tend s t a)
unfolding tend
tend_done N t a = refl
tend_done T t a = fork Does (commits t a) (λ e. refl) (λ e. refl)
tend_done S t a = refl

tabort_done : (s : State) (t : Thread) (cause : Cause) → Done (tabort s t cause)
unfolding tabort
tabort_done N t cause = refl
tabort_done T t cause = fails_done t cause
tabort_done S t cause = dooms_done (cr0_from_state t) cause true

tabort_if_done : (t : Thread) (held : Bool) → Done (tabort_if t held)
unfolding tabort_if
tabort_if_done t held = fork Done held (λ e. tabort_done t.control.msr.state t _) (λ e. refl)

tsuspend_done : (s : State) (t : Thread) → Done (tsuspend s t)
unfolding tsuspend
tsuspend_done N t = refl
tsuspend_done T t = refl
tsuspend_done S t = refl

tresume_done : (s : State) (t : Thread) → Done (tresume s t)
unfolding tresume
tresume_done N t = refl
tresume_done T t = refl
tresume_done S t = fork Done t.control.msr.doomed (λ e. refl) (λ e. refl)

load_done : (s : State) (t : Thread) (rt i j w : ℕ) (mem : List ℕ) → Does (load s t rt i j w mem)
unfolding load
load_done N t rt i j w mem = refl
load_done T t rt i j w mem =
    fork Does (ld_overflows t i) (λ e. fails_done t Footprint) (λ e. refl)
load_done S t rt i j w mem = refl

meets_own_done : (met : Bool) (t : Thread) (cause : Cause) (exact : Bool) → Done (meets_own met t cause exact)
unfolding meets_own
meets_own_done met t cause exact = fork Done met (λ e. dooms_done t cause exact) (λ e. refl)

store_done : (s : State) (t : Thread) (i m v : ℕ) → Does (store s t i m v)
unfolding store logs
store_done N t i m v = refl
store_done T t i m v = fork Does (std_overflows t i) (λ e. fails_done t Footprint) (λ e. refl)
store_done S t i m v = meets_own_done _ t _ _

tlbie_done : (s : State) (t : Thread) (p : ℕ) → Does (tlbie s t p)
unfolding tlbie
tlbie_done N t p = refl
tlbie_done T t p = fails_done t _
tlbie_done S t p = meets_own_done _ t _ _

disallowed_done : (s : State) (t : Thread) → Done (disallowed s t)
unfolding disallowed
disallowed_done N t = refl
disallowed_done T t = fails_done t _
disallowed_done S t = refl

taking_done : (x : Turn) (t : Thread) (pr : Bool) (at : ℕ) → Done (taking x t pr at)
unfolding taking
taking_done Bad t pr at = refl
taking_done Fails t pr at = fails_done t _
taking_done (To N tm) t pr at = refl
taking_done (To T tm) t pr at = fork Done t.control.msr.doomed (λ e. refl) (λ e. refl)
taking_done (To S tm) t pr at = refl

pub effect_done : (e : Event) (t : Thread) (mem : List ℕ) → Does (effect e t mem)
unfolding effect tsr tcheck treclaim trechkpt mtspr interrupt host
effect_done e t mem =
    effect_by (λ e f. Does (f t mem))
    (record {
      tbegin = λ r. tbegin_done t.control.msr.state t r;
      tend = λ a. tend_done t.control.msr.state t a;
      tabort = λ ra. tabort_done t.control.msr.state t (abort_cause t ra);
      tabortwc = λ to ra rb. tabort_if_done t (holds_in_words to (gpr t ra) (gpr t rb));
      tabortdc = λ to ra rb. tabort_if_done t (holds_in_doublewords to (gpr t ra) (gpr t rb));
      tsr = λ l. fork Done l (λ e. tresume_done t.control.msr.state t) (λ e. tsuspend_done t.control.msr.state t);
      tcheck = λ bf. refl;
      treclaim = λ ra. refl;
      trechkpt = refl;
      mtspr = λ spr ra. refl;
      load = λ e rt i j w a. load_done t.control.msr.state t rt i j w mem;
      store = λ e ra i m v a z. store_done t.control.msr.state t i m (v (gpr t ra));
      disallowed = disallowed_done t.control.msr.state t;
      interrupt = refl;
      host = λ pr tm. refl;
      tlbie = λ p. tlbie_done t.control.msr.state t p;
      returns = λ e a at m. taking_done _ t _ _;
      registers = λ e g s. refl;
    })
    e
