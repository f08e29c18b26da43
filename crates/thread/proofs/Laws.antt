-- Laws of TEXASR's fields, of recording and of handling.
use mathlib.Core.Path.{◌≡◌, refl, sym, ap, ◌∙◌}
use mathlib.Core.Bool.{Bool, true, false}
use Prim.Native.Nat.{ℕ, ◌+◌, ◌-◌, ◌*◌, ◌/◌, ◌%◌, ◌<◌, ◌^◌}
use native.Mathlib.Omega.{arith}
use borrow.Author.Tests.{eq-eqb}
use Rattle.base.specs.Below.{bit}
use Rattle.base.proofs.Below.{bit_lt}
use lib.Dec.{eqb}
use Rattle.transaction.specs.declared.Cause.{Cause}
use Rattle.thread.specs.Texasr.{weight, fs, rot, tl, upper, packed, begun, nested, cause_bits}
use Rattle.thread.specs.Thread.{failed, suspended, noted, recording}
use Rattle.thread.specs.declared.State.{State}
use Rattle.thread.specs.declared.State.TheVariants.{N, T, S}
use Rattle.thread.specs.declared.Control.{Control}
use Rattle.thread.specs.declared.Thread.{Thread}

pub suspended_lt : (s : State) → suspended s < 2
suspended_lt N = omega arith
suspended_lt T = omega arith
suspended_lt S = omega arith

-- each field of a packed TEXASR is what was put there
module _ (cause s p e r l : ℕ) (hs : s < 2) (hp : p < 2) (he : e < 2) (hr : r < 2) (hl : l < 2 ^ 12) where
  pub packed_fs : fs (packed cause s p e r l) ≡ 1
  packed_fs = omega arith

  pub packed_rot : rot (packed cause s p e r l) ≡ r
  packed_rot = omega arith

  pub packed_tl : tl (packed cause s p e r l) ≡ l
  packed_tl = omega arith

  pub packed_upper : upper (packed cause s p e r l) ≡ cause
  packed_upper = omega arith

-- what an outermost tbegin. leaves: FS = 0, level 1, ROT as asked
pub begun_fs : (b : Bool) → fs (begun (bit b)) ≡ 0
begun_fs true = refl
begun_fs false = refl

pub begun_tl : (b : Bool) → tl (begun (bit b)) ≡ 1
begun_tl true = refl
begun_tl false = refl

pub begun_rot : (b : Bool) → rot (begun (bit b)) ≡ bit b
begun_rot true = refl
begun_rot false = refl

even_by_4 : (n : ℕ) → (n - n % 2) / 4 ≡ n / 4
even_by_4 n = omega arith

-- what a nested tbegin. leaves, where the level has room: FS as it was, one level more, ROT as it was if R = 1 and else off
module _ (x : ℕ) (h : tl x + 1 < 2 ^ 12) where
  pub nested_fs : (b : Bool) → fs (nested x b) ≡ fs x
  nested_fs true = omega arith
  nested_fs false =
      let y = nested x false in
      let q : y / weight 38 ≡ x / weight 38 - rot x = omega arith in
      let a : x / weight 36 ≡ x / weight 38 / 4 = omega arith in
      let b : y / weight 36 ≡ y / weight 38 / 4 = omega arith in
      ap (λ (n : ℕ). n % 2) (b ∙ ap (λ (n : ℕ). n / 4) q ∙ even_by_4 (x / weight 38) ∙ sym a)

  pub nested_tl : (b : Bool) → tl (nested x b) ≡ tl x + 1
  nested_tl true = omega arith
  nested_tl false = omega arith

  pub nested_rot : (b : Bool) → rot (nested x b) ≡ bit b * rot x
  nested_rot true = omega arith
  nested_rot false = omega arith

-- a noted failure has FS = 1, and keeps ROT and TL
module _ (k : Control) (cause : Cause) (exact : Bool) (at : ℕ) where
  pub noted_failed : eqb (fs (noted k cause exact at).texasr) 1 ≡ true
  noted_failed =
      eq-eqb _ 1
      (packed_fs (cause_bits cause) (suspended k.msr.state) (bit k.msr.pr) (bit exact) (rot k.failure.texasr) (tl k.failure.texasr) (suspended_lt k.msr.state) (bit_lt k.msr.pr) (bit_lt exact)
      (omega arith) (omega arith))

  pub noted_tl : tl (noted k cause exact at).texasr ≡ tl k.failure.texasr
  noted_tl =
      packed_tl (cause_bits cause) (suspended k.msr.state) (bit k.msr.pr) (bit exact) (rot k.failure.texasr) (tl k.failure.texasr) (suspended_lt k.msr.state) (bit_lt k.msr.pr) (bit_lt exact)
      (omega arith) (omega arith)

-- a second failure leaves the first; the first is recorded
pub recording_again : (t : Thread) (cause : Cause) (exact : Bool) (at : ℕ) → failed t.control ≡ true → recording t cause exact at ≡ t
unfolding recording
recording_again t cause exact at p = simp p

-- after recording FS = 1, whatever it was
pub recording_failed : (t : Thread) (cause : Cause) (exact : Bool) (at : ℕ) → failed (recording t cause exact at).control ≡ true
unfolding recording
recording_failed t cause exact at = go (failed t.control) refl
  where
    go : (b : Bool) → failed t.control ≡ b → failed (recording t cause exact at).control ≡ true
    go true p = ap (λ (u : Thread). failed u.control) (recording_again t cause exact at p) ∙ p
    go false p = simp p (noted_failed t.control cause exact at)
