-- What an event leaves of a thread that is not its own.
use mathlib.Core.Path.{◌≡◌, refl, ap, ◌∙◌}
use mathlib.Core.Bool.{Bool, true, false, cond, and-eq-true_iff}
use mathlib.Core.List.{List}
use Prim.Native.Nat.{ℕ, ◌<◌}
use native.Mathlib.Omega.{arith}
use lib.ListN.{length}
use Rattle.base.specs.Limits.{most_threads}
use Rattle.base.proofs.Below.{still_false}
use Rattle.lines.specs.Lines as lineset
use Rattle.transaction.specs.Transaction as transaction
use Rattle.transaction.specs.declared.Cause.{Cause}
use Rattle.transaction.specs.declared.Touch.{Touch}
use Rattle.transaction.specs.declared.Touch.TheVariants.{Untouched, Load, Store, Page}
use Rattle.transaction.specs.declared.Transaction.{Transaction}
use Rattle.thread.specs.declared.Thread.{Thread}
use Rattle.machine.specs.Machine.{thread}
use Rattle.machine.specs.Valid.{thread_valid, zero_thread}
use Rattle.step_rules.specs.Conflict.{struck, strike, others}
use Rattle.laws_keeping.proofs.Held.{nothing_is_empty, empty_touches}
use Rattle.laws_keeping.proofs.Fails.{shaped_sets}
use Rattle.laws_keeping.proofs.Sets.{writes_touch}
use Rattle.laws_keeping.proofs.Struck.{struck_keeps, struck_zero, struck_writes, struck_touches, struck_written, struck_touched, strike_length, strike_other}

-- ---- what is left of a thread

-- a thread as a valid machine has it, below the count or past it
abbrev pub Fits : Bool → Thread → ℕ → Type 0
Fits c y len = cond c (thread_valid y len) (zero_thread y) ≡ true

-- a record past the count holds nothing
zero_touches : (y : Thread) (l : ℕ) → zero_thread y ≡ true → transaction.touches y.transaction l ≡ false
unfolding zero_thread
zero_touches y l h =
    let z = simp and-eq-true_iff at h in
    ap (λ (x : Transaction). transaction.touches x l) (nothing_is_empty y.transaction (shaped_sets y z.0.0.0.0.0.0) z.1 z.0.1) ∙ empty_touches l

-- a thread y struck, or not, by what is touched: it fits still, its sets only lose lines, and the access's line is not in them
pub record Met (touch : Touch) (y z : Thread) (c : Bool) (len : ℕ) : Type 0 where
  pub fits : Fits c z len
  pub writes : (l : ℕ) → lineset.has z.transaction.writes l ≡ true → lineset.has y.transaction.writes l ≡ true
  pub touches : (l : ℕ) → transaction.touches z.transaction l ≡ true → transaction.touches y.transaction l ≡ true
  pub stored : (l : ℕ) → touch ≡ Store l → transaction.touches z.transaction l ≡ false
  pub loaded : (l : ℕ) → touch ≡ Load l → lineset.has z.transaction.writes l ≡ false

module _ (y : Thread) (len : ℕ) (touch : Touch) (cause : Cause) where
  met : (c : Bool) → Fits c y len → Met touch y (struck y.control.msr.state y touch cause) c len
  met true h =
      record {
        fits = struck_keeps y len touch cause h;
        writes = struck_writes y len touch cause;
        touches = struck_touches y len touch cause;
        stored = λ l p. struck_touched y len touch cause l p h;
        loaded = λ l p. struck_written y len touch cause l p h;
      }
  met false h =
      record {
        fits = rw (struck_zero y len touch cause h) h;
        writes = struck_writes y len touch cause;
        touches = struck_touches y len touch cause;
        stored = λ l p. still_false _ _ (struck_touches y len touch cause l) (zero_touches y l h);
        loaded = λ l p. still_false _ _ (λ x. writes_touch y.transaction l (struck_writes y len touch cause l x)) (zero_touches y l h);
      }

-- what is touched leaves as many threads
pub others_length : (touch : Touch) (ts : List Thread) (w : ℕ) → length (others touch ts w) ≡ length ts
unfolding others
others_length Untouched ts w = refl
others_length (Load l) ts w = strike_length ts w (Load l) _ most_threads
others_length (Store l) ts w = strike_length ts w (Store l) _ most_threads
others_length (Page p) ts w = strike_length ts w (Page p) _ most_threads

module _ (ts : List Thread) (w v : ℕ) (c : Bool) (len : ℕ) (z : length ts ≡ most_threads) (b : v < most_threads) (n : v ≡ w → ⊥) (h : Fits c (thread ts v) len) where
  strike_met : (touch : Touch) (cause : Cause) → Met touch (thread ts v) (thread (strike ts w touch cause most_threads) v) c len
  strike_met touch cause = rw (strike_other ts w touch cause most_threads v (omega arith) b n) (met (thread ts v) len touch cause c h)

  pub others_met : (touch : Touch) → Met touch (thread ts v) (thread (others touch ts w) v) c len
  unfolding others
  others_met Untouched =
      record { fits = h; writes = λ l x. x; touches = λ l x. x; stored = λ l p. absurd (untouched l p); loaded = λ l p. absurd (unloaded l p) }
    where
      untouched : (l : ℕ) → Untouched ≡ Store l → ⊥
      untouched l p = let q : ◌≡◌ {A = ℕ} 0 1 = cc in omega arith

      unloaded : (l : ℕ) → Untouched ≡ Load l → ⊥
      unloaded l p = let q : ◌≡◌ {A = ℕ} 0 1 = cc in omega arith
  others_met (Load l) = strike_met (Load l) _
  others_met (Store l) = strike_met (Store l) _
  others_met (Page p) = strike_met (Page p) _
