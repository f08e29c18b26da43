-- What the definitions of edition two say: of a record's tests.
use mathlib.Core.Path.{◌≡◌}
use mathlib.Core.List.{List}
use Prim.Native.Nat.{ℕ, ◌≤◌}
use lib.ListN.{length}
use borrow.Author.Tests.{eq-eqb, le-leb}
use Rattle.tape.specs.Tape.{record_size, byte, of_kind}
use Rattle.edition_two.specs.Two as two
use Rattle.edition_two.specs.Two.{last_thread, last_kind}

-- a record of edition two of the right length, thread and kind is read by its kind
pub begun_right : (bs : List ℕ) → length bs ≡ record_size → byte bs 0 ≤ last_thread → byte bs 1 ≤ last_kind
    → two.read bs ≡ of_kind (two.fields_at bs) (two.fixed_zero bs)
unfolding two.read
begun_right bs l t k = rw (eq-eqb (length bs) record_size l, le-leb (byte bs 0) last_thread t, le-leb (byte bs 1) last_kind k)
