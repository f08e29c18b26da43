-- The crossing loses nothing.
use mathlib.Core.Path.{◌≡◌, refl, ◌∙◌}
use mathlib.Core.Bool.{Bool, true, false, and-eq-true_iff}
use mathlib.Core.List.{List, [], ◌∷◌}
use Prim.Native.Nat.{ℕ, zero, suc, ◌≤◌}
use native.Mathlib.Omega.{arith}
use lib.Dec.{leb}
use lib.ListN.{length, get_or}
use borrow.Author.Tests.{leb-true}
use Rattle.base.specs.Below.{bit}
use Rattle.base.specs.Limits.{most_threads}
use Rattle.base.proofs.Below.{bit_test, digit_bit}
use Rattle.thread.specs.declared.State.{State}
use Rattle.thread.specs.declared.State.TheVariants.{N, T, S}
use Rattle.thread.specs.declared.Control.{Control}
use Rattle.thread.specs.declared.Thread.{Thread}
use Rattle.machine.specs.Machine.{thread, no_thread}
use Rattle.crossing.specs.Crossing.{state_of, state_number, control_right, right, control_of, raw_control, thread_of, raw_thread, machine_of, raw_machine, raw_at, no_raw_thread}
use Rattle.laws_host.specs.Crosses.{Forth, ForthRight, Back}
use Rattle.crossing.specs.declared.RawControl.{RawControl}
use Rattle.crossing.specs.declared.RawThread.{RawThread}

-- ---- flags, states, control registers

bit_small : (b : Bool) → leb (bit b) 1 ≡ true
bit_small true = refl
bit_small false = refl

state_back : (n : ℕ) → n ≤ 2 → state_number (state_of n) ≡ n
unfolding state_of
state_back zero h = refl
state_back (suc zero) h = refl
state_back (suc (suc zero)) h = refl
state_back (suc (suc (suc n))) h = absurd (omega (arith, h))

state_forth : (s : State) → state_of (state_number s) ≡ s
unfolding state_of
state_forth N = refl
state_forth T = refl
state_forth S = refl

state_small : (s : State) → leb (state_number s) 2 ≡ true
state_small N = refl
state_small T = refl
state_small S = refl

control_back : (k : RawControl) → control_right k ≡ true → raw_control (control_of k) ≡ k
unfolding control_right control_of raw_control
control_back k h =
    let q = simp and-eq-true_iff at h in
    λ j. record {
      nia = k.nia;
      pr = digit_bit k.pr (omega (arith, leb-true k.pr 1 q.0.0.0)) j;
      tm = digit_bit k.tm (omega (arith, leb-true k.tm 1 q.0.0.1)) j;
      state = state_back k.state (leb-true _ _ q.0.1) j;
      doomed = digit_bit k.doomed (omega (arith, leb-true k.doomed 1 q.1)) j;
      tfhar = k.tfhar;
      tfiar = k.tfiar;
      texasr = k.texasr;
      srr0 = k.srr0;
      srr1 = k.srr1;
    }

control_forth : (k : Control) → control_of (raw_control k) ≡ k
unfolding control_of raw_control
control_forth k =
    λ j. record {
      nia = k.nia;
      msr = record { pr = bit_test k.msr.pr j; tm = bit_test k.msr.tm j; state = state_forth k.msr.state j; doomed = bit_test k.msr.doomed j };
      failure = k.failure;
      saved = k.saved;
    }

raw_right : (k : Control) → control_right (raw_control k) ≡ true
unfolding control_right raw_control
raw_right k = simp (bit_small k.msr.pr, bit_small k.msr.tm, state_small k.msr.state, bit_small k.msr.doomed)

-- ---- threads, machines

thread_back : (t : RawThread) → control_right t.control ≡ true → raw_thread (thread_of t) ≡ t
unfolding thread_of raw_thread
thread_back t h =
    λ j. record { live = t.live; cr0 = t.cr0; checkpoint = t.checkpoint; control = control_back t.control h j; transaction = t.transaction }

thread_forth : (t : Thread) → thread_of (raw_thread t) ≡ t
unfolding thread_of raw_thread
thread_forth t =
    λ j. record { live = t.live; cr0 = t.cr0; checkpoint = t.checkpoint; control = control_forth t.control j; transaction = t.transaction }

-- a list of four is its four places
four_places : {A : Type 0} (ts : List A) (d : A) → length ts ≡ most_threads → get_or ts 0 d ∷ get_or ts 1 d ∷ get_or ts 2 d ∷ get_or ts 3 d ∷ [] ≡ ts
four_places [] d p = absurd (omega (arith, p))
four_places (a ∷ []) d p = absurd (omega (arith, p))
four_places (a ∷ b ∷ []) d p = absurd (omega (arith, p))
four_places (a ∷ b ∷ c ∷ []) d p = absurd (omega (arith, p))
four_places (a ∷ b ∷ c ∷ e ∷ []) d p = refl
four_places (a ∷ b ∷ c ∷ e ∷ f ∷ ts) d p = absurd (omega (arith, p))

pub forth : Forth
unfolding machine_of raw_machine
forth m four =
    (λ j. record {
      count = m.count;
      threads = thread_forth (thread m.threads 0) j ∷ thread_forth (thread m.threads 1) j ∷ thread_forth (thread m.threads 2) j ∷ thread_forth (thread m.threads 3) j ∷ [];
    }) ∙ (λ j. record { count = m.count; threads = four_places m.threads no_thread four j })

pub forth_right : ForthRight
unfolding right raw_machine raw_thread
forth_right m =
    simp (
      raw_right (thread m.threads 0).control,
      raw_right (thread m.threads 1).control,
      raw_right (thread m.threads 2).control,
      raw_right (thread m.threads 3).control,
    )

pub back : Back
unfolding machine_of raw_machine right
back m four h =
    let q = simp and-eq-true_iff at h in
    (λ j. record {
      count = m.count;
      threads = thread_back (raw_at m 0) q.0.0.0 j ∷ thread_back (raw_at m 1) q.0.0.1 j ∷ thread_back (raw_at m 2) q.0.1 j ∷ thread_back (raw_at m 3) q.1 j ∷ [];
    }) ∙ (λ j. record { count = m.count; threads = four_places m.threads no_raw_thread four j })
