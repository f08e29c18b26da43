-- Loads and stores (rules A1, A2 and A4; E12, E13 and E20 to E25), and tlbie (rule E26). Rules A3 and A6 are in `step_rules/specs/Conflict`.
-- Clauses by state first. A load is of w bytes of doubleword i, the lowest of them byte j; a store is of the marked bytes m of a value v.
use Rattle.std.specs.Prelude.{ℕ, Bool, true, false, cond, ◌&&◌, List, ◌==◌}
use Rattle.doubleword.specs.Doubleword.{bytes, all_marks, doubleword_of, lowest, part, marks_of, placed}
use Rattle.transaction.specs.Transaction as transaction
use Rattle.transaction.specs.declared.Cause.TheVariants.{Disallowed, Footprint, OwnStore, Translation}
use Rattle.transaction.specs.declared.Cause.{Cause}
use Rattle.transaction.specs.declared.Touch.TheVariants.{Load, Store, Page}
use Rattle.transaction.specs.declared.Write.{Write}
use Rattle.transaction.specs.declared.Write.TheVariants.{Unwritten, Bytes}
use Rattle.thread.specs.Texasr.{rot}
use Rattle.thread.specs.Thread.{with_transaction}
use Rattle.thread.specs.declared.State.{State}
use Rattle.thread.specs.declared.State.TheVariants.{N, T, S}
use Rattle.thread.specs.declared.Thread.{Thread}
use Rattle.thread.specs.declared.Effect.{Effect}
use Rattle.power_rules.specs.Common.{doing, quiet, passes, put_gpr, fails, dooms}
use Rattle.power_rules.specs.declared.Did.{Did}

-- under ROT a load is not tracked
abbrev pub tracked : Thread → Bool
tracked t = rot t.control.failure.texasr == 0

-- (a) overflow, which only T has: the access is not made, and nothing is touched
abbrev pub ld_overflows : Thread → ℕ → Bool
ld_overflows t i = tracked t && transaction.load_overflows t.transaction i

abbrev pub std_overflows : Thread → ℕ → Bool
std_overflows t i = transaction.store_overflows t.transaction i

-- a load into RT: (a), then (d): the log's marked bytes over memory's; in T the line joins the read set unless ROT
abbrev pub takes : Thread → (rt i j w : ℕ) → List ℕ → Did
takes t rt i j w mem = passes (put_gpr t rt (part j w (transaction.load t.transaction mem i)))

abbrev pub joins : Thread → ℕ → Thread
joins t i = with_transaction t (transaction.join t.transaction i)

abbrev pub loads : Did → ℕ → Effect
loads d i = doing d (Load (transaction.line i)) Unwritten

unfoldable pub load : State → Thread → (rt i j w : ℕ) → List ℕ → Effect
load N t rt i j w mem = loads (takes t rt i j w mem) i
load T t rt i j w mem = cond (ld_overflows t i) (quiet (fails t Footprint)) (loads (takes (cond (tracked t) (joins t i) t) rt i j w mem) i)
load S t rt i j w mem = loads (takes t rt i j w mem) i

-- 12. ld (RT, index): all eight bytes; 20 to 22. lbz, lhz, lwz (RT, address): w bytes
abbrev pub ld : State → Thread → (rt i : ℕ) → List ℕ → Effect
ld s t rt i mem = load s t rt i 0 bytes mem

abbrev pub narrow_load : ℕ → State → Thread → (rt a : ℕ) → List ℕ → Effect
narrow_load w s t rt a mem = load s t rt (doubleword_of a) (lowest w a) w mem

-- a store: (a), then (b) where the suspended thread meets its own sets, then (d)
abbrev pub stores : Did → ℕ → Write → Effect
stores d i write = doing d (Store (transaction.line i)) write

unfoldable pub logs : Thread → (i m v : ℕ) → Effect
logs t i m v =
    cond (std_overflows t i) (quiet (fails t Footprint))
    (stores (passes (with_transaction t (transaction.store t.transaction i m v))) i Unwritten)

-- in S an event that meets the thread's own sets fails its transaction, and the event is done all the same
unfoldable pub meets_own : Bool → Thread → Cause → Bool → Did
meets_own met t cause exact = cond met (dooms t cause exact) (passes t)

unfoldable pub store : State → Thread → (i m v : ℕ) → Effect
store N t i m v = stores (passes t) i (Bytes i m v)
store T t i m v = logs t i m v
store S t i m v = stores (meets_own (transaction.touches t.transaction (transaction.line i)) t OwnStore true) i (Bytes i m v)

-- 13. std (RA, index): all eight bytes; 23 to 25. stb, sth, stw (RA, address): the low w bytes of RA. The value v is RA's
abbrev pub std : State → Thread → (v i : ℕ) → Effect
std s t v i = store s t i all_marks v

abbrev pub narrow_store : ℕ → State → Thread → (v a : ℕ) → Effect
narrow_store w s t v a = store s t (doubleword_of a) (marks_of (lowest w a) w) (placed (lowest w a) w v)

-- 26. tlbie (page): in T a disallowed instruction; else a touch of the page, in S by the thread's own sets too. That one is recorded for the
-- instruction's own address, and not as exact
abbrev pub invalidates : Did → ℕ → Effect
invalidates d p = doing d (Page p) Unwritten

unfoldable pub tlbie : State → Thread → ℕ → Effect
tlbie N t p = invalidates (passes t) p
tlbie T t p = quiet (fails t Disallowed)
tlbie S t p = invalidates (meets_own (transaction.touches_page t.transaction p) t Translation false) p
