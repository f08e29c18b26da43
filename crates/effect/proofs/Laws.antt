-- What an event touches is one of the 256 lines, or one of the 8 pages: a law of the rules, beside the code's own clause.
use mathlib.Core.Path.{◌≡◌}
use mathlib.Core.Bool.{Bool, true}
use mathlib.Core.List.{List}
use Prim.Native.Nat.{ℕ, ◌≤◌, ◌<◌, ◌*◌, ◌^◌}
use native.Mathlib.Omega.{arith}
use native.Mathlib.Nat.{mod-eq_of_lt}
use mathlib.Core.Path.{ap, ◌∙◌}
use lib.ListN.{length}
use Rattle.base.specs.Limits.{line_size, lines, page_size, pages}
use Rattle.base.proofs.Below.{fork}
use Rattle.doubleword.specs.Doubleword.{placed}
use Rattle.transaction.specs.Transaction.{line}
use Rattle.transaction.specs.Inner.{Lined}
use Rattle.thread.specs.declared.State.{State}
use Rattle.thread.specs.declared.State.TheVariants.{N, T, S}
use Rattle.thread.specs.declared.Thread.{Thread}
use Rattle.thread.specs.declared.Effect.{Effect}
use Rattle.event.specs.Event.{operands_right}
use Rattle.event.specs.declared.Event.{Event}
use Rattle.event.proofs.Laws.{tlbie_in}
use Rattle.power_rules.specs.Ends.{commits, tend}
use Rattle.power_rules.specs.Access.{ld_overflows, std_overflows, load, logs, store, tlbie}
use Rattle.step_rules.specs.Effects.{effect}
use Rattle.step_rules.proofs.Cases.{effect_by}

abbrev Touches : Effect → Type 0
Touches f = Lined f.touch

tend_lined : (s : State) (t : Thread) (a : Bool) → Touches (tend s t a)
unfolding tend
tend_lined N t a = tt
tend_lined T t a = fork Touches (commits t a) (λ p. tt) (λ p. tt)
tend_lined S t a = tt

module _ (t : Thread) (i : ℕ) (below : line i < lines) where
  load_lined : (s : State) (rt j w : ℕ) (mem : List ℕ) → Touches (load s t rt i j w mem)
  unfolding load
  load_lined N rt j w mem = below
  load_lined T rt j w mem = fork Touches (ld_overflows t i) (λ p. tt) (λ p. below)
  load_lined S rt j w mem = below

  store_lined : (s : State) (m v : ℕ) → Touches (store s t i m v)
  unfolding store logs
  store_lined N m v = below
  store_lined T m v = fork Touches (std_overflows t i) (λ p. tt) (λ p. below)
  store_lined S m v = below

tlbie_lined : (s : State) (t : Thread) (p : ℕ) → p < pages → Touches (tlbie s t p)
unfolding tlbie
tlbie_lined N t p h = h
tlbie_lined T t p h = tt
tlbie_lined S t p h = h

-- the number of a page of a memory
pub page_in : (p len : ℕ) → page_size * p < len → len ≤ line_size * lines → p < pages
page_in p len h m = omega arith

pub effect_lined : (e : Event) (t : Thread) (mem : List ℕ) → operands_right e (length mem) ≡ true → length mem ≤ line_size * lines → Touches (effect e t mem)
unfolding effect
effect_lined e t mem o h =
    effect_by (λ e f. operands_right e (length mem) ≡ true → Touches (f t mem))
    (record {
      tbegin = λ r o. tt;
      tend = λ a o. tend_lined t.control.msr.state t a;
      tabort = λ ra o. tt;
      tabortwc = λ to ra rb o. tt;
      tabortdc = λ to ra rb o. tt;
      tsr = λ l o. tt;
      tcheck = λ bf o. tt;
      treclaim = λ ra o. tt;
      trechkpt = λ o. tt;
      mtspr = λ spr ra o. tt;
      load = λ e rt i j w a o. let l = (a _ o).1 in load_lined t i (omega arith) t.control.msr.state rt j w mem;
      store = λ e ra i m v a z o. let l = (a _ o).1 in store_lined t i (omega arith) t.control.msr.state m _;
      disallowed = λ o. tt;
      interrupt = λ o. tt;
      host = λ pr tm o. tt;
      tlbie = λ p o. tlbie_lined t.control.msr.state t p (page_in p _ (tlbie_in p _ o) h);
      returns = λ e a at m o. tt;
      registers = λ e g s o. tt;
    })
    e o

-- all eight bytes of a register are its value
pub placed_all : (v : ℕ) → v < 2 ^ 64 → placed 0 8 v ≡ v
unfolding placed
placed_all v h = ap (λ (y : ℕ). y * 1) (mod-eq_of_lt h) ∙ omega arith
