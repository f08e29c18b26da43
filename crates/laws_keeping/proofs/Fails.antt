-- The plain facts of a valid thread; a failure keeps a thread valid: recorded and handled in T, recorded in S.
use mathlib.Core.Path.{◌≡◌, refl, sym, ap, ◌∙◌, subst}
use mathlib.Core.Bool.{Bool, true, false, not, cond, ◌&&◌, and-eq-true_iff, true≢false}
use mathlib.Core.Logic.{◌⊎◌, inl, inr}
use Prim.Native.Nat.{ℕ, ◌%◌, ◌≤◌, ◌<◌}
use native.Mathlib.Omega.{arith}
use lib.Dec.{eqb}
use lib.ListN.{length}
use borrow.Author.Tests.{eqb-true, eq-eqb, ltb-true, lt-ltb, leb-true, le-leb, not-true, eqb-false, ne_eqb}
use Rattle.base.specs.Limits.{most_footprint, most_levels}
use Rattle.lines.specs.Lines as lineset
use Rattle.transaction.specs.Transaction as transaction
use Rattle.transaction.specs.declared.Cause.{Cause}
use Rattle.transaction.specs.declared.Transaction.{Transaction}
use Rattle.thread.specs.Texasr.{fs, tl}
use Rattle.thread.specs.Thread.{with_control, with_transaction, failed, noted, recording, handling, with_failure, in_state}
use Rattle.thread.specs.declared.Registers.{Registers}
use Rattle.thread.specs.declared.State.{State}
use Rattle.thread.specs.declared.State.TheVariants.{N, T, S}
use Rattle.thread.specs.declared.Thread.{Thread}
use Rattle.thread.proofs.Laws.{noted_failed, recording_again}
use Rattle.machine.specs.Valid.{shaped, aligned, cr_small, fields_small, holds_nothing, live_rules, state_rules, held_right, thread_valid}
use Rattle.machine.proofs.Laws.{shaped_from, shaped_lengths}
use Rattle.laws_keeping.proofs.Held.{Shaped, nothing_is_empty, held_unused, empty_nothing, empty_held, empty_shaped}

-- registers of the right lengths, with CR fields below 16
pub record Good (r : Registers) : Type 0 where
  pub gpr : length r.gpr ≡ 32
  pub cr : length r.cr ≡ 7
  pub small : cr_small r ≡ true

-- registers, checkpoint and CR0
pub record Filed (r s : Registers) (f : ℕ) : Type 0 where
  pub live : Good r
  pub saved : Good s
  pub cr0 : f < 16

-- NIA and TFHAR
pub record Addressed (a b : ℕ) : Type 0 where
  pub nia : a % 4 ≡ 0
  pub tfhar : b % 4 ≡ 0

-- what a transaction holds, over a memory of len doublewords
pub record Holds (x : Transaction) (len : ℕ) : Type 0 where
  pub shape : Shaped x
  pub held : held_right x len ≡ true

-- a live transaction, under a TEXASR
pub record Live (texasr : ℕ) (x : Transaction) : Type 0 where
  pub unfailed : fs texasr ≡ 0
  pub low : 1 ≤ tl texasr
  pub high : tl texasr ≤ most_levels
  pub small : lineset.footprint x.reads x.writes ≤ most_footprint

-- what each state asks of TDOOMED, TEXASR and the transaction
abbrev pub Rules : State → Bool → ℕ → Transaction → Type 0
Rules N doomed texasr x = (doomed ≡ false) × (x ≡ transaction.empty)
Rules T doomed texasr x = (doomed ≡ false) × Live texasr x
Rules S doomed texasr x = ((doomed ≡ true) × (fs texasr ≡ 1) × (x ≡ transaction.empty)) ⊎ ((doomed ≡ false) × Live texasr x)

-- the plain facts of a valid thread in state s
pub record Right (s : State) (t : Thread) (len : ℕ) : Type 0 where
  pub is : t.control.msr.state ≡ s
  pub file : Filed t.live t.checkpoint t.cr0
  pub addresses : Addressed t.control.nia t.control.failure.tfhar
  pub rules : Rules s t.control.msr.doomed t.control.failure.texasr t.transaction
  pub holds : Holds t.transaction len

-- the same as the tests have it
live_from : (t : Thread) → live_rules t ≡ true → Live t.control.failure.texasr t.transaction
unfolding live_rules
live_from t h =
    let c = simp and-eq-true_iff at h in
    let f : fs t.control.failure.texasr ≡ 1 → ⊥ = eqb-false _ 1 (not-true _ c.0.0.0) in
    record { unfailed = omega arith; low = leb-true _ _ c.0.0.1; high = leb-true _ _ c.0.1; small = leb-true _ _ c.1 }

live_back : (t : Thread) → Live t.control.failure.texasr t.transaction → live_rules t ≡ true
unfolding live_rules
live_back t l =
    simp and-eq-true_iff
    (((ap not (ne_eqb (fs t.control.failure.texasr) 1 (omega arith)), le-leb _ _ l.low), le-leb _ _ l.high), le-leb _ _ l.small)

rules_from : (s : State) (t : Thread) (len : ℕ) → Holds t.transaction len → state_rules s t ≡ true → Rules s t.control.msr.doomed t.control.failure.texasr t.transaction
unfolding state_rules
rules_from N t len g h =
    let c = simp and-eq-true_iff at h in
    (not-true _ c.0, nothing_is_empty _ g.shape (held_unused _ len g.held) c.1)
rules_from T t len g h =
    let c = simp and-eq-true_iff at h in
    (not-true _ c.0, live_from t c.1)
rules_from S t len g h = go t.control.msr.doomed refl h
  where
    go : (b : Bool) → t.control.msr.doomed ≡ b → cond b (holds_nothing t.transaction && failed t.control) (live_rules t) ≡ true
        → Rules S t.control.msr.doomed t.control.failure.texasr t.transaction
    go true d q =
        let c = simp and-eq-true_iff at q in
        inl (d, eqb-true _ 1 c.1, nothing_is_empty _ g.shape (held_unused _ len g.held) c.0)
    go false d q = inr (d, live_from t q)

rules_back : (s : State) (t : Thread) → Rules s t.control.msr.doomed t.control.failure.texasr t.transaction → state_rules s t ≡ true
unfolding state_rules
rules_back N t r = simp and-eq-true_iff (ap not r.0, ap holds_nothing r.1 ∙ empty_nothing)
rules_back T t r = simp and-eq-true_iff (ap not r.0, live_back t r.1)
rules_back S t (inl r) = simp (r.0, and-eq-true_iff) (ap holds_nothing r.2 ∙ empty_nothing, eq-eqb _ 1 r.1)
rules_back S t (inr r) = simp r.0 (live_back t r.1)

-- a thread whose arrays have their lengths has the transaction's too
pub shaped_sets : (t : Thread) → shaped t ≡ true → Shaped t.transaction
shaped_sets t h =
    let l = shaped_lengths t h in
    record { reads = l.4; writes = l.5; log = l.6 }

-- a valid thread has these facts, and one that has them is valid
pub right : (s : State) (t : Thread) (len : ℕ) → t.control.msr.state ≡ s → thread_valid t len ≡ true → Right s t len
unfolding thread_valid aligned fields_small
right s t len p h =
    let c = simp and-eq-true_iff at h in
    let a = shaped_lengths t c.0.0.0.0 in
    let f = c.0.0.1 in
    let g : Holds t.transaction len = record { shape = shaped_sets t c.0.0.0.0; held = c.1 } in
    record {
      is = p;
      file =
          record {
            live = record { gpr = a.0; cr = a.1; small = f.0.1 };
            saved = record { gpr = a.2; cr = a.3; small = f.1 };
            cr0 = ltb-true _ _ f.0.0;
          };
      addresses = record { nia = eqb-true _ _ c.0.0.0.1.0; tfhar = eqb-true _ _ c.0.0.0.1.1 };
      rules = rules_from s t len g (subst (λ (z : State). state_rules z t ≡ true) p c.0.1);
      holds = g;
    }

pub valid : {s : State} {t : Thread} {len : ℕ} → Right s t len → thread_valid t len ≡ true
unfolding thread_valid aligned fields_small
valid {s} {t} r =
    let f = r.file in
    let h = r.holds.shape in
    simp and-eq-true_iff (
      (
        (
          (
            shaped_from t (f.live.gpr, f.live.cr, f.saved.gpr, f.saved.cr, h.reads, h.writes, h.log),
            (eq-eqb _ _ r.addresses.nia, eq-eqb _ _ r.addresses.tfhar),
          ),
          ((lt-ltb _ _ f.cr0, f.live.small), f.saved.small),
        ),
        subst (λ (z : State). state_rules z t ≡ true) (sym r.is) (rules_back s t r.rules),
      ),
      r.holds.held,
    )

pub live_unfailed : {x : ℕ} {y : Transaction} → Live x y → eqb (fs x) 1 ≡ false
live_unfailed {x} l = ne_eqb (fs x) 1 (omega arith)

-- in S, by TDOOMED
module _ (d : Bool) (texasr : ℕ) (x : Transaction) where
  pub doomed_empty : d ≡ true → Rules S d texasr x → x ≡ transaction.empty
  doomed_empty p (inl r) = r.2
  doomed_empty p (inr r) = absurd (true≢false (sym p ∙ r.0))

  pub undoomed_live : d ≡ false → Rules S d texasr x → Live texasr x
  undoomed_live p (inl r) = absurd (true≢false (sym r.0 ∙ p))
  undoomed_live p (inr r) = r.1

-- a live transaction has FS = 0
pub live_unfailed_t : (t : Thread) (len : ℕ) → t.control.msr.state ≡ T → thread_valid t len ≡ true → failed t.control ≡ false
live_unfailed_t t len p h = live_unfailed (right T t len p h).rules.1

pub live_unfailed_s : (t : Thread) (len : ℕ) → t.control.msr.state ≡ S → t.control.msr.doomed ≡ false → thread_valid t len ≡ true → failed t.control ≡ false
live_unfailed_s t len p d h = live_unfailed (undoomed_live _ _ _ d (right S t len p h).rules)

pub valid_shaped : (t : Thread) (len : ℕ) → thread_valid t len ≡ true → Shaped t.transaction
valid_shaped t len h = (right _ t len refl h).holds.shape

-- without a live transaction nothing is held
pub held_nothing_n : (t : Thread) (len : ℕ) → t.control.msr.state ≡ N → thread_valid t len ≡ true → t.transaction ≡ transaction.empty
held_nothing_n t len p h = (right N t len p h).rules.1

pub held_nothing_s : (t : Thread) (len : ℕ) → t.control.msr.state ≡ S → t.control.msr.doomed ≡ true → thread_valid t len ≡ true → t.transaction ≡ transaction.empty
held_nothing_s t len p d h = doomed_empty _ _ _ d (right S t len p h).rules

pub empty_holds : (len : ℕ) → Holds transaction.empty len
empty_holds len = record { shape = empty_shaped; held = empty_held len }

-- handling where nothing is held
pub handled : (t : Thread) (len : ℕ) → Filed t.live t.checkpoint t.cr0 → Addressed t.control.nia t.control.failure.tfhar → t.transaction ≡ transaction.empty
    → Right N (handling t) len
unfolding handling
handled t len f a e =
    record {
      is = refl;
      file = record { live = f.saved; saved = f.saved; cr0 = omega arith };
      addresses = record { nia = a.tfhar; tfhar = a.tfhar };
      rules = (refl, e);
      holds = rw e (empty_holds len);
    }

module _ (t : Thread) (cause : Cause) (exact : Bool) (at : ℕ) where
  -- a first failure is noted, and empties sets and log
  recorded : failed t.control ≡ false → recording t cause exact at ≡ with_transaction (with_control t (with_failure (in_state t.control t.control.msr.state true) (noted t.control cause exact at))) transaction.empty
  unfolding recording transaction.discard
  recorded p = simp p

  pub failure_empties : failed t.control ≡ false → (recording t cause exact at).transaction ≡ transaction.empty
  failure_empties p = ap (λ (u : Thread). u.transaction) (recorded p)

  -- a failure in T, recorded and handled; a failure in S, recorded, or left where one is recorded
  pub failure_t : (len : ℕ) → Right T t len → Right N (handling (recording t cause exact at)) len
  failure_t len r = rw (recorded (live_unfailed r.rules.1)) (handled _ len r.file r.addresses refl)

  pub failure_s : (len : ℕ) → Right S t len → Right S (recording t cause exact at) len
  failure_s len r = go r.rules
    where
      go : Rules S t.control.msr.doomed t.control.failure.texasr t.transaction → Right S (recording t cause exact at) len
      go (inl d) = rw (recording_again t cause exact at (eq-eqb _ 1 d.1)) r
      go (inr d) =
          rw (recorded (live_unfailed d.1))
          (record {
            is = r.is;
            file = r.file;
            addresses = r.addresses;
            rules = inl (refl, eqb-true _ 1 (noted_failed t.control cause exact at), refl);
            holds = empty_holds len;
          })

-- so on the tests themselves
pub failure_keeps_t : (t : Thread) (len : ℕ) (cause : Cause) (exact : Bool) (at : ℕ) → t.control.msr.state ≡ T → thread_valid t len ≡ true
    → thread_valid (handling (recording t cause exact at)) len ≡ true
failure_keeps_t t len cause exact at p h = valid (failure_t t cause exact at len (right T t len p h))

pub failure_keeps_s : (t : Thread) (len : ℕ) (cause : Cause) (exact : Bool) (at : ℕ) → t.control.msr.state ≡ S → thread_valid t len ≡ true
    → thread_valid (recording t cause exact at) len ≡ true
failure_keeps_s t len cause exact at p h = valid (failure_s t cause exact at len (right S t len p h))
