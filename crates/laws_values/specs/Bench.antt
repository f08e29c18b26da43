-- K1 to K10 as one table (docs/RULES.md, bench values): a machine, events, and what is expected after them.
use Rattle.std.specs.Prelude.{ℕ, zero, suc, ◌*◌, ◌^◌, ◌-◌, Bool, true, false, ◌&&◌, List, [], ◌∷◌, ◌++◌, set, replicate, ◌==◌}
use Rattle.base.specs.Limits.{most_levels}
use Rattle.thread.specs.Thread.{with_control, with_nia, with_texasr, in_state}
use Rattle.thread.specs.declared.State.TheVariants.{T}
use Rattle.thread.specs.declared.Thread.{Thread}
use Rattle.event.specs.declared.Event.{Event}
use Rattle.event.specs.declared.Event.TheVariants.{Tbegin, Tabort, Tabortwc, Tabortdc, Tsr, Ld, Std, Addi, Disallowed, Host}
use Rattle.machine.specs.Machine.{thread, with_threads, fresh, fresh_memory}
use Rattle.step_rules.specs.Step.{Outcome, outcome}
use Rattle.step_rules.specs.Feed.{Fed, from, after}
use Rattle.machine.specs.declared.Machine.{Machine}

-- what is expected of a thread's registers afterwards
pub data Expect : Type 0 where
  texasr tfiar tfhar cr0 : ℕ → ℕ → Expect

-- a machine and its memory, the events fed to it, the answers that they get, and what is expected after them
pub record Case : Type 0 where
  pub start : Machine
  pub memory : List ℕ
  pub events : List Fed
  pub answers : List ℕ
  pub expects : List Expect

unfoldable pub met : Outcome → Expect → Bool
met o (texasr w v) = (thread o.done.machine.threads w).control.failure.texasr == v
met o (tfiar w v) = (thread o.done.machine.threads w).control.failure.tfiar == v
met o (tfhar w v) = (thread o.done.machine.threads w).control.failure.tfhar == v
met o (cr0 w v) = (thread o.done.machine.threads w).cr0 == v

unfoldable pub all_met : Outcome → List Expect → Bool
all_met o [] = true
all_met o (e ∷ es) = met o e && all_met o es

-- each event gets its answer, and at the end all that is expected is met
unfoldable pub told : List Fed → List ℕ → List Expect → Outcome → Bool
told [] [] expects o = all_met o expects
told [] (a ∷ rest) expects o = false
told (f ∷ fs) [] expects o = false
told (f ∷ fs) (a ∷ rest) expects o =
    let next = after o f in
    (next.done.answer == a) && told fs rest expects next

unfoldable pub holds : Case → Bool
holds c = told c.events c.answers c.expects (outcome 0 c.start c.memory)

unfoldable pub all_hold : List Case → Bool
all_hold [] = true
all_hold (c ∷ cs) = holds c && all_hold cs

-- a fresh machine with thread 0 at an address
abbrev pub moved : Thread → ℕ → Thread
moved t a = with_control t (with_nia t.control a)

abbrev pub at : ℕ → Machine
at a = with_threads fresh (set fresh.threads 0 (moved (thread fresh.threads 0) a))

abbrev pub case : ℕ → List Fed → List ℕ → List Expect → Case
case a events answers expects = record { start = at a; memory = fresh_memory; events = events; answers = answers; expects = expects }

-- thread 0 privileged
abbrev pub supervisor : Fed
supervisor = from 0 (Host false true)

-- loads of the first doublewords of n lines, the last line first
abbrev pub loads : ℕ → List Fed
loads zero = []
loads (suc n) = from 0 (Ld 0 (n * 16)) ∷ loads n

abbrev pub begins : ℕ → List Fed
begins n = replicate n (from 0 (Tbegin false))

-- thread 0 of a fresh machine in a transaction of n levels. tapes/longest.tape reaches each of them by tbegin. alone, from level 1 to the
-- highest, and fails past it; so many steps are not computed here.
abbrev pub deep : ℕ → Thread → Thread
deep n t = with_control t (with_texasr (in_state t.control T false) n)

abbrev pub nested_case : ℕ → List ℕ → ℕ → Case
nested_case n answers after =
    record { start = with_threads fresh (set fresh.threads 0 (deep n (thread fresh.threads 0))); memory = fresh_memory; events = begins 1; answers = answers; expects = texasr 0 after ∷ [] }

-- 0xFFFFFFFF in doubleword 5
abbrev pub all_ones : List ℕ
all_ones = set fresh_memory 5 0xFFFFFFFF

-- r3 is loaded from doubleword 5; r4 is 0
abbrev pub compares : Event → List ℕ → List Expect → Case
compares e answers expects =
    record { start = at 0; memory = all_ones; events = from 0 (Ld 3 5) ∷ from 0 (Tbegin false) ∷ from 0 e ∷ []; answers = answers; expects = expects }

abbrev pub k1 : Case
k1 =
    case 0x1000 (from 0 (Tbegin false) ∷ from 0 (Addi 4 0 0) ∷ from 0 (Tabort 0) ∷ []) (0 ∷ 0 ∷ 20 ∷ [])
    (texasr 0 0x000000011C000001 ∷ tfiar 0 0x1009 ∷ tfhar 0 0x1004 ∷ cr0 0 0b1010 ∷ [])

abbrev pub k2 : Case
k2 =
    case 0x1000 (from 0 (Tbegin false) ∷ from 0 (Addi 3 0 0x1A5) ∷ from 0 (Tabort 3) ∷ []) (0 ∷ 0 ∷ 20 ∷ [])
    (texasr 0 0xA50000011C000001 ∷ tfiar 0 0x1009 ∷ tfhar 0 0x1004 ∷ cr0 0 0b1010 ∷ [])

abbrev pub k3 : Case
k3 =
    case 0x1000 (supervisor ∷ begins 2 ++ from 0 Disallowed ∷ []) (0 ∷ 0 ∷ 0 ∷ 20 ∷ []) (texasr 0 0x008000000C000002 ∷ [])

abbrev pub k4 : Case
k4 =
    case 0x1000 (from 0 (Tbegin false) ∷ from 0 (Ld 0 17) ∷ from 1 (Std 0 16) ∷ []) (0 ∷ 0 ∷ 0 ∷ []) (texasr 0 0x0008000018000001 ∷ [])

abbrev pub k5 : Case
k5 =
    case 0x1000 (from 0 (Tbegin false) ∷ from 0 (Std 0 17) ∷ from 0 (Tsr false) ∷ from 0 (Std 0 16) ∷ []) (0 ∷ 0 ∷ 0 ∷ 21 ∷ []) (texasr 0 0x001000009C000001 ∷ [])

-- the 33rd line
abbrev pub k6 : Case
k6 =
    case 0x1000 (supervisor ∷ from 0 (Tbegin false) ∷ loads 33) (replicate 34 0 ++ 20 ∷ []) (texasr 0 0x002000000C000001 ∷ [])

-- the 32nd line
abbrev pub k6_done : Case
k6_done =
    case 0x1000 (supervisor ∷ from 0 (Tbegin false) ∷ loads 32) (replicate 34 0) (texasr 0 0x00000001 ∷ [])

-- at the highest TL
abbrev pub k7 : Case
k7 =
    nested_case most_levels (20 ∷ []) 0x004000001C000FFF

-- one below it
abbrev pub k7_done : Case
k7_done =
    nested_case (most_levels - 1) (0 ∷ []) 0x00000FFF

abbrev pub k8 : Case
k8 =
    case 0x1000 (from 0 (Tbegin true) ∷ []) (0 ∷ []) (texasr 0 0x02000001 ∷ [])

abbrev pub k9 : Case
k9 =
    case (2 ^ 64 - 4) (from 0 (Tbegin false) ∷ []) (0 ∷ []) (tfhar 0 0 ∷ [])

-- the word form aborts
abbrev pub k10 : Case
k10 =
    compares (Tabortwc 16 3 4) (0 ∷ 0 ∷ 20 ∷ []) (texasr 0 0x000000011C000001 ∷ [])

-- the doubleword form doesn't
abbrev pub k10_not : Case
k10_not =
    compares (Tabortdc 16 3 4) (0 ∷ 0 ∷ 0 ∷ []) (texasr 0 0x00000001 ∷ [])

abbrev pub table : List Case
table = k1 ∷ k2 ∷ k3 ∷ k4 ∷ k5 ∷ k6 ∷ k6_done ∷ k7 ∷ k7_done ∷ k8 ∷ k9 ∷ k10 ∷ k10_not ∷ []
