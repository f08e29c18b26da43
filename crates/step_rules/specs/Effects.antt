-- What each event that is not refused does: its answer and thread, what it touches and what it writes (rules E1 to E26). The meanings are in power_rules.
use Rattle.std.specs.Prelude.{ℕ, List}
use Rattle.thread.specs.declared.Thread.{Thread}
use Rattle.thread.specs.declared.Effect.{Effect}
use Rattle.event.specs.declared.Event.{Event}
use Rattle.event.specs.declared.Event.TheVariants.{Tbegin, Tend, Tabort, Tabortwc, Tabortdc, Tsr, Tcheck, Treclaim, Trechkpt, Mtspr, Mfspr, Ld, Std, Addi, Disallowed, Interrupt, Host, Rfid, Mtmsrd, Lbz, Lhz, Lwz, Stb, Sth, Stw, Tlbie}
use Rattle.power_rules.specs.Common.{quiet, gpr, abort_cause}
use Rattle.power_rules.specs.Begins.{tbegin}
use Rattle.power_rules.specs.Ends.{tend}
use Rattle.power_rules.specs.Suspends.{tsr}
use Rattle.power_rules.specs.Aborts.{tabort, tabortwc, tabortdc}
use Rattle.power_rules.specs.Reclaims.{tcheck, treclaim, trechkpt}
use Rattle.power_rules.specs.Special.{mtspr, mfspr}
use Rattle.power_rules.specs.Access.{ld, narrow_load, std, narrow_store, tlbie}
use Rattle.power_rules.specs.Plain.{addi, disallowed, interrupt, host}
use Rattle.power_rules.specs.Returns.{rfid, mtmsrd}

unfoldable pub effect : Event → Thread → List ℕ → Effect
effect (Tbegin r) t mem = quiet (tbegin t.control.msr.state t r)
effect (Tend a) t mem = tend t.control.msr.state t a
effect (Tabort ra) t mem = quiet (tabort t.control.msr.state t (abort_cause t ra))
effect (Tabortwc to ra rb) t mem = quiet (tabortwc t to ra rb)
effect (Tabortdc to ra rb) t mem = quiet (tabortdc t to ra rb)
effect (Tsr l) t mem = quiet (tsr t l)
effect (Tcheck bf) t mem = quiet (tcheck t bf)
effect (Treclaim ra) t mem = quiet (treclaim t ra)
effect Trechkpt t mem = quiet (trechkpt t)
effect (Mtspr spr ra) t mem = quiet (mtspr t spr ra)
effect (Mfspr rt spr) t mem = quiet (mfspr t rt spr)
effect (Ld rt i) t mem = ld t.control.msr.state t rt i mem
effect (Std ra i) t mem = std t.control.msr.state t (gpr t ra) i
effect (Addi rt ra si) t mem = quiet (addi t rt ra si)
effect Disallowed t mem = quiet (disallowed t.control.msr.state t)
effect Interrupt t mem = quiet (interrupt t)
effect (Host pr tm) t mem = quiet (host t pr tm)
effect Rfid t mem = quiet (rfid t)
effect (Mtmsrd b29 b30 tm pr) t mem = quiet (mtmsrd t b29 b30 tm pr)
effect (Lbz rt a) t mem = narrow_load 1 t.control.msr.state t rt a mem
effect (Lhz rt a) t mem = narrow_load 2 t.control.msr.state t rt a mem
effect (Lwz rt a) t mem = narrow_load 4 t.control.msr.state t rt a mem
effect (Stb ra a) t mem = narrow_store 1 t.control.msr.state t (gpr t ra) a
effect (Sth ra a) t mem = narrow_store 2 t.control.msr.state t (gpr t ra) a
effect (Stw ra a) t mem = narrow_store 4 t.control.msr.state t (gpr t ra) a
effect (Tlbie p) t mem = tlbie t.control.msr.state t p
