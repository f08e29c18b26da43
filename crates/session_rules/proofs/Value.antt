-- Laws of a session as a value: bytes held, and the numbers 1 and 2.
use mathlib.Core.Path.{◌≡◌, refl}
use mathlib.Core.Bool.{Bool, true, false, cond, ◌&&◌, ◌||◌}
use mathlib.Core.List.{List}
use Prim.Native.Nat.{ℕ, ◌-◌, ◌≤◌}
use native.Mathlib.Omega.{arith}
use lib.Dec.{eqb, leb}
use lib.ListN.{length, replicate}
use lib.Seq.{take-append_seam}
use borrow.Author.Tests.{eqb-true, eqb-false, leb-true}
use Rattle.base.specs.Below.{all_below}
use Rattle.base.proofs.Below.{and_left}
use Rattle.machine.specs.Valid.{machine_number, first_of}
use Rattle.machine.specs.declared.Machine.{Machine}
use Rattle.session_rules.specs.declared.Session.{Session}
use Rattle.session_rules.specs.Value.{most_held, session, holds, stops_at, place_right, right, number}

-- ---- bytes held

pub holds_those : (n : ℕ) (m : Machine) (k : ℕ) (hs : List ℕ) → holds (session n m k hs) ≡ hs
holds_those n m k hs = take-append_seam hs (replicate (most_held - length hs) 0)

-- ---- the numbers 1 and 2

pub first_zero : (a b : ℕ) → first_of a b ≡ 0 → (a ≡ 0) × (b ≡ 0)
first_zero a b p = go (eqb a 0) refl
  where
    go : (c : Bool) → eqb a 0 ≡ c → (a ≡ 0) × (b ≡ 0)
    go true q = (eqb-true a 0 q, simp q at p)
    go false q = absurd (eqb-false a 0 q (simp q at p))

pub number_zero : (s : Session) (len : ℕ) → number s len ≡ 0 → (machine_number s.machine len ≡ 0) × (right s ≡ true)
unfolding number
number_zero s len p =
    let w = first_zero (machine_number s.machine len) (cond (right s) 0 2) p in
    (w.0, go (right s) w.1)
  where
    go : (b : Bool) → ◌≡◌ {A = ℕ} (cond b 0 2) 0 → b ≡ true
    go true q = refl
    go false q = absurd (let z : ◌≡◌ {A = ℕ} 2 0 = q in omega arith)

pub right_held : (s : Session) → right s ≡ true → s.held ≤ most_held
unfolding right
right_held s p =
    leb-true s.held most_held (and_left (leb s.held most_held) (all_below (place_right s) most_held)
    (and_left (leb s.held most_held && all_below (place_right s) most_held) (eqb s.answer 0 || (stops_at s.answer && eqb s.held 0)) p))
