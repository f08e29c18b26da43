-- A valid machine part by part, from the Boolean test and back to it.
use mathlib.Core.Path.{◌≡◌, refl, ap}
use mathlib.Core.Bool.{Bool, true, false, not, ◌&&◌, ◌||◌, and-eq-true_iff}
use Prim.Native.Nat.{ℕ, ◌<◌}
use lib.Dec.{eqb, ltb}
use lib.ListN.{length}
use borrow.Author.Tests.{eq-eqb, eqb-true, eqb-false, ne_eqb, not-true}
use Rattle.base.specs.Limits.{lines, most_threads}
use Rattle.base.proofs.Below.{neither, all_at, all_from}
use Rattle.lines.specs.Lines as lineset
use Rattle.lines.specs.declared.LineSet.{LineSet}
use Rattle.lines.proofs.Laws.{meets_none, meets_false_at}
use Rattle.transaction.specs.Transaction as transaction
use Rattle.transaction.specs.declared.Transaction.{Transaction}
use Rattle.thread.specs.declared.Thread.{Thread}
use Rattle.machine.specs.Machine.{thread}
use Rattle.machine.specs.Valid.{sized, clash, clear_of, apart, thread_right, threads_right, valid}
use Rattle.machine.specs.declared.Machine.{Machine}
use Rattle.laws_keeping.proofs.Others.{Fits}

-- a machine's thread v
abbrev pub thread_of : Machine → ℕ → Thread
thread_of m v = thread m.threads v

-- no line of the one's write set is in the other's sets
abbrev pub Clear : Transaction → Transaction → Type 0
Clear x y = (l : ℕ) → l < lines → lineset.has x.writes l ≡ true → transaction.touches y l ≡ false

clash_clear : (x y : Transaction) → clash x y ≡ false → Clear x y
unfolding clash
clash_clear x y p l h q =
    let n = neither (lineset.meets x.writes y.reads) _ p in
    simp (only y.reads n.0, only y.writes n.1)
  where
    only : (s : LineSet) → lineset.meets x.writes s ≡ false → lineset.has s l ≡ false
    only s r = rw q at (meets_false_at x.writes s l r h)

clear_clash : (x y : Transaction) → Clear x y → clash x y ≡ false
unfolding clash
clear_clash x y c =
    simp (meets_none x.writes y.reads (λ l h. (apart_at l h).0), meets_none x.writes y.writes (λ l h. (apart_at l h).1))
  where
    go : (a r w : Bool) → (a ≡ true → (r || w) ≡ false) → ((a && r) ≡ false) × ((a && w) ≡ false)
    go true r w p = neither r w (p refl)
    go false r w p = (refl, refl)

    apart_at : (l : ℕ) → l < lines
        → ((lineset.has x.writes l && lineset.has y.reads l) ≡ false) × ((lineset.has x.writes l && lineset.has y.writes l) ≡ false)
    apart_at l h = go (lineset.has x.writes l) (lineset.has y.reads l) (lineset.has y.writes l) (c l h)

-- the sizes; each thread valid, or zero past the count; no two threads clash
pub record Right (m : Machine) (len : ℕ) : Type 0 where
  pub sizes : sized m len ≡ true
  pub four : length m.threads ≡ most_threads
  pub each : (v : ℕ) → v < most_threads → Fits (ltb v m.count) (thread_of m v) len
  pub clear : (u v : ℕ) → u < most_threads → v < most_threads → (u ≡ v → ⊥) → Clear (thread_of m u).transaction (thread_of m v).transaction

pub valid_right : (m : Machine) (len : ℕ) → valid m len ≡ true → Right m len
unfolding valid threads_right thread_right apart clear_of
valid_right m len h =
    let z = simp and-eq-true_iff at h in
    record {
      sizes = z.0.0.0;
      four = eqb-true _ _ z.0.0.1;
      each = λ v b. all_at (thread_right m len) most_threads v z.0.1 b;
      clear = λ u v b c n. clash_clear _ _ (not-true _ (rw (ne_eqb u v n) at (all_at (apart_from u) most_threads v (all_at (clear_of m) most_threads u z.1 b) c)));
    }
  where
    apart_from : ℕ → ℕ → Bool
    apart_from u v = eqb u v || not (clash (thread_of m u).transaction (thread_of m v).transaction)

pub right_valid : (m : Machine) (len : ℕ) → Right m len → valid m len ≡ true
unfolding valid threads_right thread_right apart clear_of
right_valid m len r =
    simp and-eq-true_iff (
      ((r.sizes, eq-eqb _ _ r.four), all_from (thread_right m len) most_threads r.each),
      all_from (clear_of m) most_threads (λ u b. all_from _ most_threads (λ v c. go u v b c (eqb u v) refl)),
    )
  where
    go : (u v : ℕ) → u < most_threads → v < most_threads → (b : Bool) → eqb u v ≡ b → (b || not (clash (thread_of m u).transaction (thread_of m v).transaction)) ≡ true
    go u v b c true e = refl
    go u v b c false e = ap not (clear_clash _ _ (r.clear u v b c (eqb-false u v e)))
