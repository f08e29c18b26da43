-- What the definitions of the valid machine say of a log and of a thread.
use mathlib.Core.Path.{◌≡◌}
use mathlib.Core.Bool.{true, and-eq-true_iff}
use Prim.Native.Nat.{◌≤◌}
use borrow.Author.Tests.{leb-true, eq-eqb, eqb-true}
use lib.ListN.{length}
use Rattle.base.specs.Limits.{words, most_places}
use Rattle.base.proofs.Below.{and_left}
use Rattle.transaction.specs.declared.Transaction.{Transaction}
use Rattle.thread.specs.declared.Thread.{Thread}
use Rattle.machine.specs.Valid.{shaped, unused_zero}

-- the count of a log whose unused places are zero
pub unused_count : (x : Transaction) → unused_zero x ≡ true → x.count ≤ most_places
unfolding unused_zero
unused_count x p = leb-true _ _ (and_left _ _ p)

-- a thread whose arrays have their lengths
abbrev pub Lengths : Thread → Type 0
Lengths t =
    (length t.live.gpr ≡ 32) × (length t.live.cr ≡ 7) × (length t.checkpoint.gpr ≡ 32) × (length t.checkpoint.cr ≡ 7)
    × (length t.transaction.reads.words ≡ words) × (length t.transaction.writes.words ≡ words) × (length t.transaction.log ≡ most_places)

pub shaped_from : (t : Thread) → Lengths t → shaped t ≡ true
unfolding shaped
shaped_from t l =
    simp (eq-eqb _ _ l.0, eq-eqb _ _ l.1, eq-eqb _ _ l.2, eq-eqb _ _ l.3, eq-eqb _ _ l.4, eq-eqb _ _ l.5, eq-eqb _ _ l.6)

pub shaped_lengths : (t : Thread) → shaped t ≡ true → Lengths t
unfolding shaped
shaped_lengths t h =
    let z = simp and-eq-true_iff at h in
    let r = z.0.0.0 in
    (eqb-true _ _ r.0.0, eqb-true _ _ r.0.1, eqb-true _ _ r.1.0, eqb-true _ _ r.1.1, eqb-true _ _ z.0.0.1, eqb-true _ _ z.0.1, eqb-true _ _ z.1)
