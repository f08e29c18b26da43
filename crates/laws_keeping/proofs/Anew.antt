-- A valid thread with one part anew.
use mathlib.Core.Path.{◌≡◌, ◌∙◌}
use mathlib.Core.Bool.{Bool, true}
use mathlib.Core.List.{List, [], ◌∷◌}
use Prim.Native.Nat.{ℕ, zero, suc, ◌-◌, ◌%◌, ◌≤◌, ◌<◌}
use native.Mathlib.Omega.{arith}
use lib.Dec.{eqb, ltb}
use lib.ListN.{length, get_or, set, length-set}
use borrow.Author.Tests.{lt-ltb}
use Rattle.base.specs.Limits.{most_footprint, most_levels}
use Rattle.base.proofs.Below.{fork, all_at, all_from}
use Rattle.lines.specs.Lines as lineset
use Rattle.transaction.specs.declared.Transaction.{Transaction}
use Rattle.power_rules.specs.Common.{next, advance, ts_field, cr0_from_state, put_gpr}
use Rattle.power_rules.specs.Reclaims.{put_cr}
use Rattle.step_rules.proofs.Cases.{with_gprs}
use Rattle.thread.specs.Texasr.{tl, nested}
use Rattle.thread.specs.Thread.{with_live, with_cr0, with_control, with_transaction, take_checkpoint}
use Rattle.thread.specs.declared.Registers.{Registers}
use Rattle.thread.specs.declared.State.{State}
use Rattle.thread.specs.declared.State.TheVariants.{N, T, S}
use Rattle.thread.specs.declared.Control.{Control}
use Rattle.thread.specs.declared.Thread.{Thread}
use Rattle.thread.proofs.Laws.{nested_fs, nested_tl}
use Rattle.machine.specs.Valid.{cr_small}
use Rattle.laws_keeping.proofs.Fails.{Good, Addressed, Holds, Live, Rules, Right}

-- what holds of a new element and of each old one holds after a store
pub set_keeps : {A : Type 0} (P : A → Type 0) (d : A) (xs : List A) (i : ℕ) (a : A) (k : ℕ) → P a → P (get_or xs k d) → P (get_or (set xs i a) k d)
set_keeps P d [] i a k pa px = px
set_keeps P d (x ∷ xs) zero a zero pa px = pa
set_keeps P d (x ∷ xs) zero a (suc k) pa px = px
set_keeps P d (x ∷ xs) (suc i) a zero pa px = px
set_keeps P d (x ∷ xs) (suc i) a (suc k) pa px = set_keeps P d xs i a k pa px

-- CR0 from state is small, and the next address a multiple of 4
pub ts_small : (s : State) → ts_field s < 8
ts_small N = omega arith
ts_small T = omega arith
ts_small S = omega arith

pub next_aligned : (a : ℕ) → a % 4 ≡ 0 → next a % 4 ≡ 0
next_aligned a h = omega arith

-- one level more, with ROT off or as it was; one level less
pub up : {x : ℕ} {y : Transaction} (r : Bool) → Live x y → tl x < most_levels → Live (nested x r) y
up {x} r l h =
    let n = nested_tl x (omega arith) r in
    record { unfailed = nested_fs x (omega arith) r ∙ l.unfailed; low = omega arith; high = omega arith; small = l.small }

pub down : {x : ℕ} {y : Transaction} → Live x y → 1 < tl x → Live (x - 1) y
down l h = record { unfailed = omega arith; low = omega arith; high = omega arith; small = l.small }

-- registers, CR0 and checkpoint anew
module _ {s : State} {t : Thread} {len : ℕ} (r : Right s t len) where
  pub with_field : (f : ℕ) → f < 16 → Right s (with_cr0 t f) len
  with_field f h =
      record { is = r.is; file = record { live = r.file.live; saved = r.file.saved; cr0 = h }; addresses = r.addresses; rules = r.rules; holds = r.holds }

  pub with_registers : (g : Registers) → Good g → Right s (with_live t g) len
  with_registers g h =
      record { is = r.is; file = record { live = h; saved = r.file.saved; cr0 = r.file.cr0 }; addresses = r.addresses; rules = r.rules; holds = r.holds }

  pub saved : Right s (take_checkpoint t) len
  saved =
      record {
        is = r.is;
        file = record { live = r.file.live; saved = r.file.live; cr0 = r.file.cr0 };
        addresses = r.addresses;
        rules = r.rules;
        holds = r.holds;
      }

  -- control registers, perhaps of another state
  pub with_controls : {s' : State} (k : Control) → k.msr.state ≡ s' → Addressed k.nia k.failure.tfhar → Rules s' k.msr.doomed k.failure.texasr t.transaction
      → Right s' (with_control t k) len
  with_controls k p a g = record { is = p; file = r.file; addresses = a; rules = g; holds = r.holds }

  -- on to the next instruction
  pub passed : Right s (advance t) len
  passed = with_controls _ r.is (record { nia = next_aligned _ r.addresses.nia; tfhar = r.addresses.tfhar }) r.rules

  pub from_state : Right s (cr0_from_state t) len
  from_state = with_field _ (let h = ts_small t.control.msr.state in omega arith)

  -- the general registers, one of them, one CR field
  pub with_generals : (g : List ℕ) → length g ≡ length t.live.gpr → Right s (with_gprs t g) len
  unfolding cr_small
  with_generals g e = with_registers _ (record { gpr = e ∙ r.file.live.gpr; cr = r.file.live.cr; small = r.file.live.small })

  pub with_gpr : (n v : ℕ) → Right s (put_gpr t n v) len
  with_gpr n v = with_generals _ (simp length-set)

  pub with_cr : (bf f : ℕ) → f < 16 → Right s (put_cr t bf f) len
  unfolding cr_small
  with_cr bf f h =
      fork (λ (u : Thread). Right s u len) (eqb bf 0) (λ p. with_field f h)
      (λ p. with_registers _
      (record {
        gpr = r.file.live.gpr;
        cr = simp length-set r.file.live.cr;
        small =
            all_from _ 7
            (λ k l. set_keeps (λ (x : ℕ). ltb x 16 ≡ true) 0 t.live.cr (bf - 1) f k (lt-ltb _ _ h)
            (all_at (λ n. ltb (get_or t.live.cr n 0) 16) 7 k r.file.live.small l));
      }))

-- a live transaction with other sets and another log
pub with_held : {t : Thread} {len : ℕ} (x : Transaction) → Right T t len → lineset.footprint x.reads x.writes ≤ most_footprint → Holds x len
    → Right T (with_transaction t x) len
with_held x r f h =
    let l = r.rules.1 in
    record {
      is = r.is;
      file = r.file;
      addresses = r.addresses;
      rules = (r.rules.0, record { unfailed = l.unfailed; low = l.low; high = l.high; small = f });
      holds = h;
    }
