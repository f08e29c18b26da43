-- Whom a tlbie makes fail: one statement for all pages and all threads, its own included. Proved in proofs/Pages.antt.
use Rattle.std.specs.Prelude.{◌≡◌, Bool, true, false, not, ◌&&◌, List, ℕ, ◌<◌, length}
use Rattle.transaction.specs.Transaction.{touches_page}
use Rattle.transaction.specs.declared.Cause.TheVariants.{Translation}
use Rattle.thread.specs.Thread.{is_live, noted}
use Rattle.thread.specs.declared.Thread.{Thread}
use Rattle.event.specs.declared.Event.TheVariants.{Tlbie}
use Rattle.machine.specs.Machine.{thread}
use Rattle.machine.specs.Valid.{valid}
use Rattle.machine.specs.declared.Machine.{Machine}
use Rattle.step_rules.specs.Refusal.{in_t, refusal}
use Rattle.step_rules.specs.Step.{step}

-- the thread's transaction is live
abbrev pub live : Thread → Bool
live t = is_live t.control.msr.state t.control.msr.doomed

-- it was live and is no more
abbrev pub fell : Thread → Thread → Bool
fell t u = live t && not (live u)

-- a thread t that a tlbie of page p left as u. It fell exactly if it was live and had a line of the page in either set. Then the cause is
-- recorded as inexact, for the address that was its next: the instruction's own, CIA, where the tlbie was its own. Where it did not fall,
-- its transaction, its failure registers, its state and TDOOMED are as they were
pub record Left (p : ℕ) (t u : Thread) : Type 0 where
  pub exactly : fell t u ≡ (live t && touches_page t.transaction p)
  pub recorded : fell t u ≡ true → u.control.failure ≡ noted t.control Translation false t.control.nia
  pub spared : fell t u ≡ false → (u.transaction ≡ t.transaction) × (u.control.failure ≡ t.control.failure) × (u.control.msr ≡ t.control.msr)

-- after a tlbie by thread w that is done in N or S, whatever the page, and of every thread v of the machine
abbrev pub WhoFails : Type 0
WhoFails =
    (m : Machine) (mem : List ℕ) (w p : ℕ) → valid m (length mem) ≡ true → refusal m (length mem) w (Tlbie p) ≡ 0
    → in_t (thread m.threads w).control.msr.state ≡ false
    → (v : ℕ) → v < m.count → Left p (thread m.threads v) (thread (step m mem w (Tlbie p)).done.machine.threads v)
