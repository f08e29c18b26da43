-- Every cell by computation: the state, TM and what is asked are taken apart, and TDOOMED, PR and all else may be anything.
use mathlib.Core.Path.{◌≡◌, refl, ◌∙◌}
use mathlib.Core.Bool.{Bool, true, false, cond, and-false}
use mathlib.Core.List.{List}
use Prim.Native.Nat.{ℕ, ◌-◌, ◌%◌}
use lib.Dec.{eqb}
use lib.ListN.{length}
use borrow.Author.Tests.{lt-leb}
use Rattle.thread.specs.Thread.{handling}
use Rattle.thread.specs.Turns as turns
use Rattle.thread.specs.declared.State.{State}
use Rattle.thread.specs.declared.State.TheVariants.{N, T, S}
use Rattle.thread.specs.declared.Control.{Control}
use Rattle.thread.specs.declared.Thread.{Thread}
use Rattle.event.specs.Event.{kind, operands_right, tm_instruction, privileged}
use Rattle.event.specs.declared.Event.{Event}
use Rattle.event.specs.declared.Event.TheVariants.{Rfid, Mtmsrd}
use Rattle.power_rules.specs.Common.{quiet, next}
use Rattle.power_rules.specs.declared.Did.{Did}
use Rattle.power_rules.specs.Returns.{taking, rfid, mtmsrd}
use Rattle.step_rules.specs.Effects.{effect}
use Rattle.machine.specs.Machine.{thread}
use Rattle.machine.specs.declared.Machine.{Machine}
use Rattle.step_rules.specs.Refusal.{bad_thing, turned_down, refused_there, refused_later, refusal}
use Rattle.step_rules.proofs.Refusals.{refusal_valid}
use Rattle.step_rules.specs.Step.{Outcome, outcome, applied, perform, step}
use Rattle.laws_returns.specs.Table.{cell, given, Privileged, MtmsrdByTable, RfidByTable}

-- a test within an effect, and on its outcome
parted : (m : Machine) (mem : List ℕ) (w : ℕ) (d : Bool) (x y : Did)
    → applied m mem w (quiet (cond d x y)) ≡ cond d (applied m mem w (quiet x)) (applied m mem w (quiet y))
parted m mem w true x y = refl
parted m mem w false x y = refl

-- what the definitions make of a cell
module _ (m : Machine) (mem : List ℕ) (w : ℕ) (t : Thread) (pr : Bool) (at : ℕ) where
  abbrev Made : State → (now b c tm : Bool) → Type 0
  Made s now b c tm =
      let x = turns.table s b c now tm in
      cond (turns.is_bad x) (outcome 13 m mem) (applied m mem w (quiet (taking x t pr at))) ≡ given (cell s now b c tm) t pr at m mem w

  made : (s : State) (now b c tm : Bool) → Made s now b c tm
  unfolding turns.table taking handling
  made N false false false false = refl
  made N false false false true = refl
  made N false false true false = refl
  made N false false true true = refl
  made N false true false false = refl
  made N false true false true = refl
  made N false true true false = refl
  made N false true true true = refl
  made N true false false false = refl
  made N true false false true = refl
  made N true false true false = refl
  made N true false true true = refl
  made N true true false false = refl
  made N true true false true = refl
  made N true true true false = refl
  made N true true true true = refl
  made T false false false false = refl
  made T false false false true = refl
  made T false false true false = refl
  made T false false true true = refl
  made T false true false false = refl
  made T false true false true = refl
  made T false true true false = refl
  made T false true true true = refl
  made T true false false false = refl
  made T true false false true = refl
  made T true false true false = refl
  made T true false true true = refl
  made T true true false false = refl
  made T true true false true = refl
  made T true true true false = refl
  made T true true true true = refl
  made S false false false false = refl
  made S false false false true = refl
  made S false false true false = refl
  made S false false true true = refl
  made S false true false false = refl
  made S false true false true = parted m mem w t.control.msr.doomed _ _
  made S false true true false = refl
  made S false true true true = refl
  made S true false false false = refl
  made S true false false true = refl
  made S true false true false = refl
  made S true false true true = refl
  made S true true false false = refl
  made S true true false true = parted m mem w t.control.msr.doomed _ _
  made S true true true false = refl
  made S true true true true = refl

-- neither is a Bad Thing but by the table
module _ (k : Control) (p : k.msr.pr ≡ false) where
  mtmsrd_sound : (s : State) → bad_thing s k 19 false ≡ false
  unfolding bad_thing
  mtmsrd_sound N = refl
  mtmsrd_sound T = refl
  mtmsrd_sound S = refl

  rfid_sound : (s : State) → bad_thing s k 18 false ≡ false
  unfolding bad_thing
  rfid_sound N = refl
  rfid_sound T = refl
  rfid_sound S = refl

  mtmsrd_there : (t s tm pr : Bool) → refused_there k (Mtmsrd t s tm pr) ≡ cond (turns.is_bad (turns.turned k.msr (turns.asked t s tm pr))) 13 0
  unfolding refused_there turned_down tm_instruction privileged kind
  mtmsrd_there t s tm pr = simp (and-false, p, mtmsrd_sound k.msr.state)

  rfid_there : refused_there k Rfid ≡ cond (turns.is_bad (turns.turned k.msr (turns.by_srr1 k.saved.srr1))) 13 0
  unfolding refused_there turned_down tm_instruction privileged kind
  rfid_there = simp (and-false, p, rfid_sound k.msr.state)

-- a step that 13 alone may refuse
chosen : (x : Bool) (o : Outcome) (m : Machine) (mem : List ℕ) → cond (eqb (cond x 13 0) 0) o (outcome (cond x 13 0) m mem) ≡ cond x (outcome 13 m mem) o
chosen true o m mem = refl
chosen false o m mem = refl

module _ (m : Machine) (mem : List ℕ) (w : ℕ) (h : Privileged m mem w) where
  stepped : (e : Event) (x : Bool) → operands_right e (length mem) ≡ true → refused_there (thread m.threads w).control e ≡ cond x 13 0
      → step m mem w e ≡ cond x (outcome 13 m mem) (perform m mem w e)
  unfolding step refused_later
  stepped e x o q =
      let n : refusal m (length mem) w e ≡ cond x 13 0 = refusal_valid m (length mem) w e h.valid ∙ simp (lt-leb m.count w h.there, o) q in
      simp n (chosen x (perform m mem w e) m mem)

pub mtmsrd_by_table : MtmsrdByTable
unfolding operands_right perform effect mtmsrd kind
mtmsrd_by_table m mem w h t s tm pr =
    let u = thread m.threads w in
    stepped m mem w h (Mtmsrd t s tm pr) (turns.is_bad (turns.turned u.control.msr (turns.asked t s tm pr))) refl (mtmsrd_there u.control h.privileged t s tm pr)
    ∙ made m mem w u pr (next u.control.nia) u.control.msr.state u.control.msr.tm t s tm

pub rfid_by_table : RfidByTable
unfolding operands_right perform effect rfid kind turns.by_srr1
rfid_by_table m mem w h =
    let u = thread m.threads w in
    let a = turns.by_srr1 u.control.saved.srr1 in
    stepped m mem w h Rfid (turns.is_bad (turns.turned u.control.msr a)) refl (rfid_there u.control h.privileged)
    ∙ made m mem w u a.pr (u.control.saved.srr0 - u.control.saved.srr0 % 4) u.control.msr.state u.control.msr.tm a.t a.s a.tm
