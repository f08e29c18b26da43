-- What a valid machine tells: sizes, and that its threads are valid.
use mathlib.Core.Path.{◌≡◌}
use mathlib.Core.Bool.{true, not, ◌&&◌}
use Prim.Native.Nat.{ℕ, ◌*◌, ◌%◌, ◌≤◌, ◌<◌}
use native.Mathlib.Omega.{arith}
use lib.Dec.{eqb, leb}
use lib.ListN.{length}
use borrow.Author.Tests.{leb-true, lt-ltb, not-false}
use Rattle.base.specs.Limits.{line_size, lines, most_places, most_threads}
use Rattle.base.proofs.Below.{and_left, and_right, all_at, no_number}
use Rattle.machine.specs.Machine.{thread}
use Rattle.machine.specs.Valid.{memory_sized, sized, shaped, aligned, fields_small, state_rules, indices_inside, lines_inside, distinct, writes_logged, marks_right, held_right, thread_valid, thread_right, threads_right, apart, valid, machine_number}
use Rattle.machine.specs.declared.Machine.{Machine}
use Rattle.machine.proofs.Laws.{unused_count}

-- the most that a memory has
pub memory_most : (len : ℕ) → memory_sized len ≡ true → len ≤ line_size * lines
memory_most len z = leb-true len (line_size * lines) (and_right (eqb (len % line_size) 0 && leb line_size len) _ z)

module _ (m : Machine) (len : ℕ) (v : valid m len ≡ true) where
  pub valid_sized : sized m len ≡ true
  unfolding valid
  valid_sized = and_left _ (eqb (length m.threads) most_threads) (and_left _ (threads_right m len) (and_left _ (apart m) v))

  pub valid_threads : threads_right m len ≡ true
  unfolding valid
  valid_threads = and_right (sized m len && eqb (length m.threads) most_threads) _ (and_left _ (apart m) v)

  pub valid_memory_sized : memory_sized len ≡ true
  unfolding sized
  valid_memory_sized = and_left _ (leb 1 m.count) (and_left _ (leb m.count most_threads) valid_sized)

  pub valid_memory : len ≤ line_size * lines
  valid_memory = memory_most len valid_memory_sized

  pub valid_count : m.count ≤ most_threads
  unfolding sized
  valid_count = leb-true m.count most_threads (and_right (memory_sized len && leb 1 m.count) _ valid_sized)

  -- a thread below the count is valid, and its log has at most 64 entries
  pub valid_thread : (w : ℕ) → w < m.count → thread_valid (thread m.threads w) len ≡ true
  unfolding threads_right thread_right
  valid_thread w h =
      let a = all_at (thread_right m len) most_threads w valid_threads (omega (arith, valid_count)) in
      simp (lt-ltb w m.count h) at a

  pub valid_places : (w : ℕ) → w < m.count → (thread m.threads w).transaction.count ≤ most_places
  unfolding thread_valid held_right
  valid_places w h =
      let t = thread m.threads w in
      let x = t.transaction in
      let held = and_right (shaped t && aligned t.control && fields_small t && state_rules t.control.msr.state t) (held_right x len) (valid_thread w h) in
      unused_count x (and_left _ (indices_inside x len) (and_left _ (lines_inside x len) (and_left _ (distinct x) (and_left _ (writes_logged x) (and_left _ (marks_right x) held)))))

-- a valid machine is one that the tests 1 and 2 pass
pub valid_passes : (m : Machine) (len : ℕ) → valid m len ≡ true → machine_number m len ≡ 0
unfolding machine_number
valid_passes m len v = simp (valid_sized m len v, v)

pub passes_valid : (m : Machine) (len : ℕ) → machine_number m len ≡ 0 → valid m len ≡ true
unfolding machine_number
passes_valid m len z = not-false (valid m len) (no_number _ 1 _ (no_number (not (sized m len)) 0 _ z).1).0
