-- What a transaction holds: read set, write set and log (rules M9 to M13), and what loads, stores, commit and discard do to it
-- (rules A1 and A4; E2). A place of the log has marks for the bytes that were stored (rule M11; `doubleword/specs/Doubleword`).
use Rattle.std.specs.Prelude.{ℕ, zero, suc, ◌+◌, ◌/◌, Bool, false, not, cond, ◌&&◌, ◌||◌, Option, Some, None, List, set, replicate, nat_le, slice_index, slice_index_or, ◌==◌}
use Rattle.std.specs.Int.Bits.{bit_or}
use Rattle.doubleword.specs.Doubleword.{merged}
use Rattle.base.specs.Limits.{line_size, most_footprint, most_places}
use Rattle.lines.specs.Lines as lines
use Rattle.transaction.specs.declared.Entry.{Entry}
use Rattle.transaction.specs.declared.Transaction.{Transaction}
use Rattle.transaction.specs.declared.Write.{Write}
use Rattle.transaction.specs.declared.Write.TheVariants.{Unwritten, Bytes, Log}

-- a place that is not used
abbrev pub no_entry : Entry
no_entry = record { index = 0; marks = 0; value = 0 }

abbrev pub entry : List Entry → ℕ → Entry
entry es n = slice_index_or es n no_entry

-- the line of a doubleword
abbrev pub line : ℕ → ℕ
line i = i / line_size

unfoldable pub empty : Transaction
empty = record { reads = lines.empty; writes = lines.empty; count = 0; log = replicate most_places no_entry }

-- sets and log emptied
unfoldable pub discard : Transaction → Transaction
discard x = empty

-- the place of doubleword i among the first n
unfoldable pub lookup_in : List Entry → ℕ → ℕ → Option ℕ
lookup_in es i zero = None
lookup_in es i (suc n) = cond ((entry es n).index == i) (Some n) (lookup_in es i n)

abbrev pub lookup : Transaction → ℕ → Option ℕ
lookup x i = lookup_in x.log i x.count

-- (d) a load sees the log's marked bytes over memory's
unfoldable pub loaded : List Entry → List ℕ → Option ℕ → ℕ → ℕ
loaded es mem (Some n) i = merged (entry es n).marks (slice_index mem i) (entry es n).value
loaded es mem None i = slice_index mem i

abbrev pub load : Transaction → List ℕ → ℕ → ℕ
load x mem i = loaded x.log mem (lookup x i) i

-- the line is in one of the sets
abbrev pub touches : Transaction → ℕ → Bool
touches x l = lines.has x.reads l || lines.has x.writes l

-- a line of the page is in one of the sets (rule M16)
abbrev pub touches_page : Transaction → ℕ → Bool
touches_page x p = lines.has_page x.reads p || lines.has_page x.writes p

-- (a) no room for the line
unfoldable pub crowded : Transaction → ℕ → Bool
crowded x l = not (touches x l) && nat_le most_footprint (lines.footprint x.reads x.writes)

-- (a) no room in the log
unfoldable pub full : Transaction → Option ℕ → Bool
full x (Some n) = false
full x None = nat_le most_places x.count

abbrev pub load_overflows : Transaction → ℕ → Bool
load_overflows x i = crowded x (line i)

abbrev pub store_overflows : Transaction → ℕ → Bool
store_overflows x i = crowded x (line i) || full x (lookup x i)

-- (d) a tracked load
abbrev pub join : Transaction → ℕ → Transaction
join x i = record { reads = lines.with x.reads (line i); writes = x.writes; count = x.count; log = x.log }

-- (d) a store into the log, which has one place for a doubleword: the marked bytes of v over those of the place, a new one's being 0
unfoldable pub stored : Entry → ℕ → ℕ → ℕ → Entry
stored e i m v = record { index = i; marks = bit_or e.marks m; value = merged m e.value v }

unfoldable pub store_at : Transaction → Option ℕ → ℕ → ℕ → ℕ → Transaction
store_at x (Some n) i m v =
    record { reads = x.reads; writes = lines.with x.writes (line i); count = x.count; log = set x.log n (stored (entry x.log n) i m v) }
store_at x None i m v =
    record { reads = x.reads; writes = lines.with x.writes (line i); count = x.count + 1; log = set x.log x.count (stored no_entry i m v) }

abbrev pub store : Transaction → ℕ → ℕ → ℕ → Transaction
store x i m v = store_at x (lookup x i) i m v

-- the marked bytes of v to doubleword i of memory
abbrev pub put : List ℕ → ℕ → ℕ → ℕ → List ℕ
put mem i m v = set mem i (merged m (slice_index mem i) v)

-- tend.: every place's marked bytes go to its doubleword; memory after the first n places
unfoldable pub commit_in : List ℕ → List Entry → ℕ → List ℕ
commit_in mem es zero = mem
commit_in mem es (suc n) = put (commit_in mem es n) (entry es n).index (entry es n).marks (entry es n).value

abbrev pub commit : Transaction → List ℕ → List ℕ
commit x mem = commit_in mem x.log x.count

-- memory after what an event writes; the log is that of the thread before the event
unfoldable pub written : Write → Transaction → List ℕ → List ℕ
written Unwritten x mem = mem
written (Bytes i m v) x mem = put mem i m v
written Log x mem = commit x mem
