-- What the code of the choice asks.
use Rattle.std.specs.Prelude.{ℕ, ◌*◌, ◌≤◌, ◌≡◌, true}
use Rattle.base.specs.Limits.{line_size, lines, most_places}
use Rattle.thread.specs.declared.Thread.{Thread}
use Rattle.event.specs.Event.{operands_right}
use Rattle.event.specs.declared.Event.{Event}

-- an event over a memory of len doublewords, and a thread that it can be done on. The count is asked here, and is no invariant of
-- `Transaction`: a machine with a greater one can be handed in, and is refused by number 2 (`validity::judged`)
pub record Ready (e : Event) (t : Thread) (len : ℕ) : Type 0 where
  pub operands : operands_right e len ≡ true
  pub memory : len ≤ line_size * lines
  pub places : t.transaction.count ≤ most_places
