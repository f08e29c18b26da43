-- The third demand's condition is needed: of each thing that it excludes, two machines alike that are told apart by it. Proved in proofs/Needed.antt.
use Rattle.std.specs.Prelude.{◌≡◌, Bool, true, false, List, [], ◌∷◌, map, ℕ}
use Rattle.event.specs.declared.Event.{Event}
use Rattle.event.specs.declared.Event.TheVariants.{Tend, Tabort, Tabortwc, Tabortdc, Tsr, Treclaim, Mfspr, Std, Interrupt}
use Rattle.machine.specs.Machine.{fresh_thread}
use Rattle.step_rules.specs.Step.{step}
use Rattle.step_rules.specs.Feed.{after, from}
use Rattle.laws_secrecy.specs.Secrecy.{open_at, allowed}
use Rattle.laws_examples.specs.Examples.{Example, start, ToldApart, Each}

-- thread 0's level and PR, what it executes though it must not, and what it executes then
pub record Case : Type 0 where
  pub level : ℕ
  pub pr : Bool
  pub telling : Event
  pub then : List Event

abbrev pub example : Case → Example
example c = record { level = c.level; pr = c.pr; other = fresh_thread; events = map (from 0) (c.telling ∷ c.then) }

-- the event is excluded, and nothing after it is: the transaction is open no more. The machines are told apart
pub record Needed (c : Case) : Type 0 where
  pub excluded : allowed 0 (from 0 c.telling) (start (example c) 0) ≡ false
  pub closed : open_at 0 (after (start (example c) 0) (from 0 c.telling)) ≡ false
  pub apart : ToldApart step (example c)

abbrev pub case : Event → List Event → Case
case e es = record { level = 1; pr = true; telling = e; then = es }

-- TEXASR's upper half, with the failure code, to memory
abbrev pub shows_code : List Event
shows_code = Mfspr 3 131 ∷ Std 3 0 ∷ []

-- a tend. that commits, at level 1 and with A = 1 at level 2: the log goes to memory
abbrev pub commit : Case
commit = case (Tend false) []

abbrev pub commit_all : Case
commit_all = record { level = 2; pr = true; telling = Tend true; then = [] }

-- a suspension, an interrupt: a plain store of register 1 follows
abbrev pub suspend : Case
suspend = case (Tsr false) (Std 1 16 ∷ [])

abbrev pub interrupt : Case
interrupt = case Interrupt (Std 1 16 ∷ [])

-- a conditional abort, if registers 1 and 2 are equal: the answers differ
abbrev pub abort_words : Case
abort_words = case (Tabortwc 4 1 2) []

abbrev pub abort_doublewords : Case
abort_doublewords = case (Tabortdc 4 1 2) []

-- an abort, a reclaim with the failure code from register 1
abbrev pub abort_coded : Case
abort_coded = case (Tabort 1) shows_code

abbrev pub reclaim_coded : Case
reclaim_coded = record { level = 1; pr = false; telling = Treclaim 1; then = shows_code }

abbrev pub table : List Case
table = commit ∷ commit_all ∷ suspend ∷ interrupt ∷ abort_words ∷ abort_doublewords ∷ abort_coded ∷ reclaim_coded ∷ []

abbrev pub AllNeeded : Type 0
AllNeeded = Each Needed table
