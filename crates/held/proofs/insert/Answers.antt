-- `held::insert` meets its contract: the word is the doubleword's, and the shift is the place in it.
use mathlib.Core.Path.{◌≡◌, refl, ap, ◌∙◌}
use Prim.Native.Nat.{ℕ, zero, suc, ◌<◌, ◌/◌, ◌%◌, ◌^◌}
use mathlib.Core.Bool.{not}
use native.Mathlib.Nat.{mod-lt, one-mul}
use native.Mathlib.Omega.{arith}
use lib.Bits.{bit_or, and_mask}
use lib.Dec.{eqb, lit<}
use lib.ListN.{set, get_or}
use lib.Pow.{shl_exact}
use Rattle.lines.specs.Lines.{place, has, with}
use Rattle.held.proofs.insert.Goals as goal

-- a bit is 0 where it is not 1
flip : (n : ℕ) → n < 2 → eqb n 0 ≡ not (eqb n 1)
flip zero h = refl
flip (suc zero) h = refl
flip (suc (suc n)) h = absurd (let z : suc (suc n) < 2 = h in omega arith)

pub returns-clause-value : goal.returns-clause-value
unfolding has place with
returns-clause-value c =
    let ws = c.args.seen.now in
    let d = c.args.d in
    let w = get_or ws (d / 64) 0 / 2 ^ (d % 64) in
    ap (λ (x : ℕ). eqb x 0) (and_mask w 1) ∙ flip (w % 2) (mod-lt w (lit< tt))

pub returns-clause-seen_after : goal.returns-clause-seen_after
unfolding has place with
returns-clause-seen_after c =
    let ws = c.args.seen.now in
    let d = c.args.d in
    ap (λ (x : ℕ). record { words = set ws (d / 64) (bit_or (get_or ws (d / 64) 0) x) }) (shl_exact 1 (d % 64) 64 (lit< tt) (omega arith) ∙ one-mul _)
