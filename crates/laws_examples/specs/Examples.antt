-- Examples: two machines alike except for a value that thread 0 keeps to itself, and events that tell them apart.
use Rattle.std.specs.Prelude.{◌≡◌, Bool, true, false, List, [], ◌∷◌, ℕ, length, set, replicate}
use Rattle.base.specs.Limits.{most_threads}
use Rattle.doubleword.specs.Doubleword.{all_marks}
use Rattle.transaction.specs.Transaction as transaction
use Rattle.transaction.specs.declared.Transaction.{Transaction}
use Rattle.thread.specs.declared.State.TheVariants.{T}
use Rattle.thread.specs.declared.Thread.{Thread}
use Rattle.machine.specs.Machine.{blank_registers, fresh_thread}
use Rattle.machine.specs.Valid.{valid}
use Rattle.step_rules.specs.Step.{Outcome, outcome}
use Rattle.step_rules.specs.Feed.{Fed}
use Rattle.machine.specs.declared.Machine.{Machine}
use Rattle.laws_secrecy.specs.Secrecy.{Alike, Stepping}
use Rattle.laws_secrecy.specs.Corollaries.{seen}

-- a thread in T at a level, with a value in register 1 and what its transaction holds
abbrev pub open_thread : ℕ → Bool → ℕ → Transaction → Thread
open_thread level pr value x =
    record {
      live = record { gpr = set blank_registers.gpr 1 value; cr = blank_registers.cr };
      cr0 = 0;
      checkpoint = blank_registers;
      control =
          record { nia = 0; msr = record { pr = pr; tm = true; state = T; doomed = false }; failure = record { tfhar = 0; tfiar = 0; texasr = level }; saved = record { srr0 = 0; srr1 = 0 } };
      transaction = x;
    }

-- thread 0 has a value in register 1, and has stored it to doubleword 0
abbrev pub holding : ℕ → Bool → ℕ → Thread
holding level pr value = open_thread level pr value (transaction.store transaction.empty 0 all_marks value)

-- the level and PR of thread 0, thread 1, and the events
pub record Example : Type 0 where
  pub level : ℕ
  pub pr : Bool
  pub other : Thread
  pub events : List Fed

-- two lines of memory, all zero, and a machine of four threads with a value in thread 0
abbrev pub small_memory : List ℕ
small_memory = replicate 32 0

abbrev pub machine : Example → ℕ → Machine
machine x value = record { count = most_threads; threads = holding x.level x.pr value ∷ x.other ∷ fresh_thread ∷ fresh_thread ∷ [] }

abbrev pub start : Example → ℕ → Outcome
start x value = outcome 0 (machine x value) small_memory

-- the machines with the values 0 and 1 are valid and alike, and what is seen of them differs
pub record ToldApart (s : Stepping) (x : Example) : Type 0 where
  pub right : (value : ℕ) → valid (machine x value) (length small_memory) ≡ true
  pub alike : Alike 0 (machine x 0) (machine x 1)
  pub differ : seen s x.events (start x 0) ≡ seen s x.events (start x 1) → ⊥

-- what is so of each of a list
abbrev pub Each : {A : Type 0} → (A → Type 0) → List A → Type 0
Each P [] = Unit {0}
Each P (x ∷ xs) = P x × Each P xs
