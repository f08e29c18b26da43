-- Laws of the refusal: what an event that is not refused has passed.
use mathlib.Core.Path.{◌≡◌}
use mathlib.Core.Bool.{true, not, cond}
use Prim.Native.Nat.{ℕ, ◌<◌}
use lib.Dec.{leb}
use borrow.Author.Tests.{leb-false, not-false}
use Rattle.base.proofs.Below.{no_number}
use Rattle.event.specs.Event.{operands_right}
use Rattle.event.specs.declared.Event.{Event}
use Rattle.machine.specs.Machine.{thread}
use Rattle.machine.specs.Valid.{valid}
use Rattle.machine.specs.declared.Machine.{Machine}
use Rattle.machine.proofs.Validity.{valid_passes}
use Rattle.step_rules.specs.Refusal.{refused_there, refused_later, refusal}

-- an event that passes the later tests has a thread, right operands, and passes those on its thread
module _ (m : Machine) (len w : ℕ) (e : Event) (z : refused_later m len w e ≡ 0) where
  there : cond (leb m.count w) 3 (cond (not (operands_right e len)) 4 (refused_there (thread m.threads w).control e)) ≡ 0
  unfolding refused_later
  there = z

  pub passed_thread : w < m.count
  passed_thread = leb-false m.count w (no_number _ 2 _ there).0

  after_thread : cond (not (operands_right e len)) 4 (refused_there (thread m.threads w).control e) ≡ 0
  after_thread = (no_number (leb m.count w) 2 _ there).1

  pub passed_operands : operands_right e len ≡ true
  passed_operands = not-false (operands_right e len) (no_number _ 3 _ after_thread).0

  pub passed_there : refused_there (thread m.threads w).control e ≡ 0
  passed_there = (no_number (not (operands_right e len)) 3 _ after_thread).1

-- on a valid machine only the later tests are left
pub refusal_valid : (m : Machine) (len w : ℕ) (e : Event) → valid m len ≡ true → refusal m len w e ≡ refused_later m len w e
unfolding refusal
refusal_valid m len w e v = simp (valid_passes m len v)
