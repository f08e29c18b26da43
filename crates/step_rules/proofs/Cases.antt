-- The effects by cases. The kinds whose effect only sets general registers and goes on are one case, loads of every width are one, and so are
-- stores: a law that goes by these cases need not name them, nor a new kind of that sort.
use mathlib.Core.Path.{◌≡◌}
use mathlib.Core.Bool.{Bool, true}
use mathlib.Core.List.{List}
use Prim.Native.Nat.{ℕ, ◌-◌, ◌%◌, ◌<◌}
use native.Mathlib.Omega.{arith}
use lib.Dec.{lit<}
use lib.ListN.{length, set, length-set}
use Rattle.doubleword.specs.Doubleword.{bytes, all_marks, doubleword_of, lowest, marks_of, placed}
use Rattle.doubleword.proofs.Laws.{marks_some}
use Rattle.thread.specs.Thread.{with_live}
use Rattle.thread.specs.Turns.{asked, by_srr1}
use Rattle.thread.specs.declared.turns.Asked.{Asked}
use Rattle.thread.specs.declared.Control.{Control}
use Rattle.thread.specs.declared.Thread.{Thread}
use Rattle.thread.specs.declared.Effect.{Effect}
use Rattle.event.specs.declared.Event.{Event}
use Rattle.event.specs.declared.Event.TheVariants.{Tbegin, Tend, Tabort, Tabortwc, Tabortdc, Tsr, Tcheck, Treclaim, Trechkpt, Mtspr, Mfspr, Ld, Std, Addi, Disallowed, Interrupt, Host, Rfid, Mtmsrd, Lbz, Lhz, Lwz, Stb, Sth, Stw, Tlbie}
use Rattle.event.specs.Event.{operands_right}
use Rattle.event.proofs.Laws.{ld_in, std_in, lbz_in, lhz_in, lwz_in, stb_in, sth_in, stw_in}
use Rattle.power_rules.specs.Access.{load, store}
use Rattle.power_rules.specs.Common.{quiet, gpr, next, passes}
use Rattle.power_rules.specs.Special.{mfspr}
use Rattle.power_rules.specs.Plain.{addi}
use Rattle.power_rules.specs.Returns.{returning, rfid, mtmsrd}
use Rattle.step_rules.specs.Effects.{effect}

-- what an event does to any thread over any memory
abbrev pub Works : Type 0
Works = Thread → List ℕ → Effect

-- the thread with other general registers
abbrev pub with_gprs : Thread → List ℕ → Thread
with_gprs t g = with_live t (record { gpr = g; cr = t.live.cr })

-- an event whose right operands are a register and a doubleword of memory
abbrev pub Accesses : Event → (r i : ℕ) → Type 0
Accesses e r i = (len : ℕ) → operands_right e len ≡ true → (r < 32) × (i < len)

pub record Cases (P : Event → Works → Type 0) : Type 0 where
  pub tbegin : (r : Bool) → P (Tbegin r) (effect (Tbegin r))
  pub tend : (a : Bool) → P (Tend a) (effect (Tend a))
  pub tabort : (ra : ℕ) → P (Tabort ra) (effect (Tabort ra))
  pub tabortwc : (to ra rb : ℕ) → P (Tabortwc to ra rb) (effect (Tabortwc to ra rb))
  pub tabortdc : (to ra rb : ℕ) → P (Tabortdc to ra rb) (effect (Tabortdc to ra rb))
  pub tsr : (l : Bool) → P (Tsr l) (effect (Tsr l))
  pub tcheck : (bf : ℕ) → P (Tcheck bf) (effect (Tcheck bf))
  pub treclaim : (ra : ℕ) → P (Treclaim ra) (effect (Treclaim ra))
  pub trechkpt : P Trechkpt (effect Trechkpt)
  pub mtspr : (spr ra : ℕ) → P (Mtspr spr ra) (effect (Mtspr spr ra))
  pub disallowed : P Disallowed (effect Disallowed)
  pub interrupt : P Interrupt (effect Interrupt)
  pub host : (pr tm : Bool) → P (Host pr tm) (effect (Host pr tm))
  pub tlbie : (p : ℕ) → P (Tlbie p) (effect (Tlbie p))
  -- a load of w bytes of a doubleword, and a store of some marked bytes that a register's value gives
  pub load : (e : Event) (rt i j w : ℕ) → Accesses e rt i → P e (λ t mem. load t.control.msr.state t rt i j w mem)
  pub store : (e : Event) (ra i m : ℕ) (v : ℕ → ℕ) → Accesses e ra i → 0 < m → P e (λ t mem. store t.control.msr.state t i m (v (gpr t ra)))
  -- rfid and mtmsrd: the control registers tell what is asked and where it goes on, at a multiple of 4
  pub returns : (e : Event) (a : Control → Asked) (at : Control → ℕ) → ((k : Control) → k.nia % 4 ≡ 0 → at k % 4 ≡ 0) → P e (λ t mem. quiet (returning t (a t.control) (at t.control)))
  -- any that only sets general registers and goes on
  pub registers : (e : Event) (g : Thread → List ℕ) → ((t : Thread) → length (g t) ≡ length t.live.gpr) → P e (λ t mem. quiet (passes (with_gprs t (g t))))

pub effect_by : (P : Event → Works → Type 0) → Cases P → (e : Event) → P e (effect e)
unfolding effect mfspr addi rfid mtmsrd
effect_by P c (Tbegin r) = c.tbegin r
effect_by P c (Tend a) = c.tend a
effect_by P c (Tabort ra) = c.tabort ra
effect_by P c (Tabortwc to ra rb) = c.tabortwc to ra rb
effect_by P c (Tabortdc to ra rb) = c.tabortdc to ra rb
effect_by P c (Tsr l) = c.tsr l
effect_by P c (Tcheck bf) = c.tcheck bf
effect_by P c (Treclaim ra) = c.treclaim ra
effect_by P c Trechkpt = c.trechkpt
effect_by P c (Mtspr spr ra) = c.mtspr spr ra
effect_by P c (Mfspr rt spr) = c.registers (Mfspr rt spr) (λ t. set t.live.gpr rt _) (λ t. simp length-set)
effect_by P c (Ld rt i) = c.load (Ld rt i) rt i 0 bytes (ld_in rt i)
effect_by P c (Std ra i) = c.store (Std ra i) ra i all_marks (λ v. v) (std_in ra i) (lit< tt)
effect_by P c (Addi rt ra si) = c.registers (Addi rt ra si) (λ t. set t.live.gpr rt _) (λ t. simp length-set)
effect_by P c Disallowed = c.disallowed
effect_by P c Interrupt = c.interrupt
effect_by P c (Host pr tm) = c.host pr tm
effect_by P c Rfid = c.returns Rfid (λ k. by_srr1 k.saved.srr1) (λ k. k.saved.srr0 - k.saved.srr0 % 4) (λ k h. omega arith)
effect_by P c (Mtmsrd t s tm pr) = c.returns (Mtmsrd t s tm pr) (λ k. asked t s tm pr) (λ k. next k.nia) (λ k h. omega arith)
effect_by P c (Lbz rt a) = c.load (Lbz rt a) rt (doubleword_of a) (lowest 1 a) 1 (λ len o. let h = lbz_in rt a len o in (h.0, h.1))
effect_by P c (Lhz rt a) = c.load (Lhz rt a) rt (doubleword_of a) (lowest 2 a) 2 (λ len o. let h = lhz_in rt a len o in (h.0, h.1))
effect_by P c (Lwz rt a) = c.load (Lwz rt a) rt (doubleword_of a) (lowest 4 a) 4 (λ len o. let h = lwz_in rt a len o in (h.0, h.1))
effect_by P c (Stb ra a) = c.store (Stb ra a) ra (doubleword_of a) (marks_of (lowest 1 a) 1) (placed (lowest 1 a) 1) (λ len o. let h = stb_in ra a len o in (h.0, h.1)) (marks_some (lowest 1 a) 1 (lit< tt))
effect_by P c (Sth ra a) = c.store (Sth ra a) ra (doubleword_of a) (marks_of (lowest 2 a) 2) (placed (lowest 2 a) 2) (λ len o. let h = sth_in ra a len o in (h.0, h.1)) (marks_some (lowest 2 a) 2 (lit< tt))
effect_by P c (Stw ra a) = c.store (Stw ra a) ra (doubleword_of a) (marks_of (lowest 4 a) 4) (placed (lowest 4 a) 4) (λ len o. let h = stw_in ra a len o in (h.0, h.1)) (marks_some (lowest 4 a) 4 (lit< tt))
effect_by P c (Tlbie p) = c.tlbie p
