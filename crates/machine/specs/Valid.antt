-- The valid machine, clause by clause (rules V1 to V15).
use Rattle.std.specs.Prelude.{ℕ, ◌*◌, ◌%◌, Bool, true, false, not, cond, ◌&&◌, ◌||◌, length, nat_le, nat_lt, slice_index, ◌==◌}
use Rattle.std.specs.Bool.{beq}
use Rattle.base.specs.Answers as answer
use Rattle.base.specs.Limits.{line_size, lines, most_memory, words, most_footprint, most_places, most_levels, most_threads, gprs, cr_fields}
use Rattle.base.specs.Below.{all_below, any_below}
use Rattle.lines.specs.Lines as lineset
use Rattle.lines.specs.declared.LineSet.{LineSet}
use Rattle.doubleword.specs.Doubleword.{only_marked}
use Rattle.transaction.specs.Transaction.{entry, line, touches}
use Rattle.transaction.specs.declared.Entry.{Entry}
use Rattle.transaction.specs.declared.Transaction.{Transaction}
use Rattle.thread.specs.Texasr.{tl}
use Rattle.thread.specs.Thread.{failed}
use Rattle.thread.specs.declared.Registers.{Registers}
use Rattle.thread.specs.declared.State.{State}
use Rattle.thread.specs.declared.State.TheVariants.{N, T, S}
use Rattle.thread.specs.declared.Msr.{Msr}
use Rattle.thread.specs.declared.Failure.{Failure}
use Rattle.thread.specs.declared.Saved.{Saved}
use Rattle.thread.specs.declared.Control.{Control}
use Rattle.thread.specs.declared.Thread.{Thread}
use Rattle.machine.specs.Machine.{thread}
use Rattle.machine.specs.declared.Machine.{Machine}

-- number 1: memory of whole lines, 1 to 256 of them, and a count that the records can hold
abbrev pub memory_sized : ℕ → Bool
memory_sized len = ((len % line_size) == 0) && nat_le line_size len && nat_le len most_memory

unfoldable pub sized : Machine → ℕ → Bool
sized m len = memory_sized len && nat_le 1 m.count && nat_le m.count most_threads

-- the arrays have their lengths, as the code's types give them
abbrev pub registers_shaped : Registers → Bool
registers_shaped r = (length r.gpr == gprs) && (length r.cr == cr_fields)

unfoldable pub shaped : Thread → Bool
shaped t =
    registers_shaped t.live && registers_shaped t.checkpoint
    && (length t.transaction.reads.words == words)
    && (length t.transaction.writes.words == words)
    && (length t.transaction.log == most_places)

-- unused log places are zero
unfoldable pub place_right : Entry → ℕ → ℕ → Bool
place_right e n count = nat_lt n count || (e.index == 0) && (e.marks == 0) && (e.value == 0)

unfoldable pub unused_zero : Transaction → Bool
unused_zero x = nat_le x.count most_places && all_below (λ n. place_right (entry x.log n) n x.count) most_places

-- NIA and TFHAR are multiples of 4
unfoldable pub aligned : Control → Bool
aligned k = ((k.nia % 4) == 0) && ((k.failure.tfhar % 4) == 0)

-- CR fields are below 16
unfoldable pub cr_small : Registers → Bool
cr_small r = all_below (λ f. nat_lt (slice_index r.cr f) 16) cr_fields

unfoldable pub fields_small : Thread → Bool
fields_small t = nat_lt t.cr0 16 && cr_small t.live && cr_small t.checkpoint

-- sets and log are empty
unfoldable pub no_line : LineSet → Bool
no_line s = all_below (λ k. (lineset.word s k == 0)) words

unfoldable pub holds_nothing : Transaction → Bool
holds_nothing x = no_line x.reads && no_line x.writes && (x.count == 0)

-- what a live transaction asks of FS, level and footprint
unfoldable pub live_rules : Thread → Bool
live_rules t =
    not (failed t.control)
    && nat_le 1 (tl t.control.failure.texasr)
    && nat_le (tl t.control.failure.texasr) most_levels
    && nat_le (lineset.footprint t.transaction.reads t.transaction.writes) most_footprint

-- what each state asks of TDOOMED, of FS and of what is held
unfoldable pub state_rules : State → Thread → Bool
state_rules N t = not t.control.msr.doomed && holds_nothing t.transaction
state_rules T t = not t.control.msr.doomed && live_rules t
state_rules S t = cond t.control.msr.doomed (holds_nothing t.transaction && failed t.control) (live_rules t)

-- all indices and lines lie in memory
unfoldable pub indices_inside : Transaction → ℕ → Bool
indices_inside x len = all_below (λ n. nat_lt (entry x.log n).index len) x.count

unfoldable pub line_inside : Transaction → ℕ → ℕ → Bool
line_inside x l len = nat_lt (l * line_size) len || not (touches x l)

unfoldable pub lines_inside : Transaction → ℕ → Bool
lines_inside x len = all_below (λ l. line_inside x l len) lines

-- log indices are distinct: each is none of those before it
unfoldable pub unlike : Transaction → ℕ → Bool
unlike x n = all_below (λ k. not ((entry x.log k).index == (entry x.log n).index)) n

unfoldable pub distinct : Transaction → Bool
distinct x = all_below (unlike x) x.count

-- the write set is the set of the log's lines
unfoldable pub logs_line : Transaction → ℕ → Bool
logs_line x l = any_below (λ n. (line (entry x.log n).index == l)) x.count

unfoldable pub line_logged : Transaction → ℕ → Bool
line_logged x l = beq (lineset.has x.writes l) (logs_line x l)

unfoldable pub writes_logged : Transaction → Bool
writes_logged x = all_below (line_logged x) lines

-- a used place has a mark, and its bytes are zero where they have none
unfoldable pub marked_right : Entry → Bool
marked_right e = not (e.marks == 0) && only_marked e.marks e.value

unfoldable pub marks_right : Transaction → Bool
marks_right x = all_below (λ n. marked_right (entry x.log n)) x.count

unfoldable pub held_right : Transaction → ℕ → Bool
held_right x len = unused_zero x && indices_inside x len && lines_inside x len && distinct x && writes_logged x && marks_right x

unfoldable pub thread_valid : Thread → ℕ → Bool
thread_valid t len = shaped t && aligned t.control && fields_small t && state_rules t.control.msr.state t && held_right t.transaction len

-- records that are no threads are zero
unfoldable pub zero_gpr : Registers → Bool
zero_gpr r = all_below (λ i. (slice_index r.gpr i == 0)) gprs

unfoldable pub zero_cr : Registers → Bool
zero_cr r = all_below (λ f. (slice_index r.cr f == 0)) cr_fields

abbrev pub zero_registers : Registers → Bool
zero_registers r = zero_gpr r && zero_cr r

abbrev pub zero_state : State → Bool
zero_state N = true
zero_state T = false
zero_state S = false

unfoldable pub zero_msr : Msr → Bool
zero_msr m = not m.pr && not m.tm && not m.doomed && zero_state m.state

unfoldable pub zero_failure : Failure → Bool
zero_failure f = (f.tfhar == 0) && (f.tfiar == 0) && (f.texasr == 0)

unfoldable pub zero_saved : Saved → Bool
zero_saved s = (s.srr0 == 0) && (s.srr1 == 0)

unfoldable pub zero_control : Control → Bool
zero_control k = (k.nia == 0) && zero_msr k.msr && zero_failure k.failure && zero_saved k.saved

unfoldable pub zero_thread : Thread → Bool
zero_thread t =
    shaped t
    && zero_registers t.live
    && (t.cr0 == 0)
    && zero_registers t.checkpoint
    && zero_control t.control
    && holds_nothing t.transaction
    && unused_zero t.transaction

-- what one thread has written no other has read or written
unfoldable pub clash : Transaction → Transaction → Bool
clash x y = lineset.meets x.writes y.reads || lineset.meets x.writes y.writes

unfoldable pub clear_of : Machine → ℕ → Bool
clear_of m v =
    all_below (λ w. (v == w) || not (clash (thread m.threads v).transaction (thread m.threads w).transaction)) most_threads

unfoldable pub apart : Machine → Bool
apart m = all_below (clear_of m) most_threads

unfoldable pub thread_right : Machine → ℕ → ℕ → Bool
thread_right m len w = cond (nat_lt w m.count) (thread_valid (thread m.threads w) len) (zero_thread (thread m.threads w))

unfoldable pub threads_right : Machine → ℕ → Bool
threads_right m len = all_below (thread_right m len) most_threads

-- all of it, with the sizes that number 1 tests
unfoldable pub valid : Machine → ℕ → Bool
valid m len = sized m len && (length m.threads == most_threads) && threads_right m len && apart m

-- the number of a machine over a memory of len doublewords: 1, or 2, or 0
unfoldable pub machine_number : Machine → ℕ → ℕ
machine_number m len = cond (not (sized m len)) answer.size (cond (not (valid m len)) answer.no_machine answer.done)

-- the first of two numbers that refuses
abbrev pub first_of : ℕ → ℕ → ℕ
first_of k n = cond (k == 0) n k
