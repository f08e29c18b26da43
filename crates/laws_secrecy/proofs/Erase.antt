-- A machine with a thread in T, and its erasure.
use mathlib.Core.Path.{◌≡◌, refl, sym, ap, ◌∙◌}
use mathlib.Core.Bool.{Bool, true, false, not, ◌&&◌, ◌||◌, or-true}
use mathlib.Core.List.{List, [], map}
use Prim.Native.Nat.{ℕ, ◌*◌, ◌%◌, ◌^◌, ◌<◌}
use native.Mathlib.Nat.{zero-div}
use native.Mathlib.Decide.{ℕ_discrete, dec_lt}
use native.Mathlib.Omega.{arith}
use lib.Dec.{eqb, leb, ltb}
use lib.ListN.{length, get_or, replicate, length-set, length-map, length-replicate, get_or-replicate, get_or-map, get_or-eq_default}
use lib.Seq.{get_or-set_same, get_or-set_other}
use borrow.Author.Tests.{lt-ltb}
use Rattle.base.specs.Limits.{lines, most_places}
use Rattle.base.proofs.Below.{and_left, and_right, and_intro, all_at, all_from, all_cong}
use Rattle.lines.specs.Lines as lineset
use Rattle.lines.specs.Lines.{place}
use Rattle.doubleword.specs.Doubleword.{bytes, byte, only_marked}
use Rattle.lines.specs.declared.LineSet.{LineSet}
use Rattle.transaction.specs.Transaction.{entry, no_entry}
use Rattle.transaction.specs.declared.Entry.{Entry}
use Rattle.transaction.specs.declared.Transaction.{Transaction}
use Rattle.thread.specs.declared.State.{State}
use Rattle.thread.specs.declared.State.TheVariants.{T}
use Rattle.thread.specs.declared.Thread.{Thread}
use Rattle.machine.specs.Machine.{thread, no_thread}
use Rattle.machine.specs.Valid.{sized, place_right, unused_zero, indices_inside, line_inside, lines_inside, unlike, distinct, logs_line, line_logged, writes_logged, marked_right, marks_right, held_right, cr_small, thread_valid}
use Rattle.machine.specs.declared.Machine.{Machine}
use Rattle.laws_keeping.proofs.Held.{held_parts, held_whole}
use Rattle.laws_keeping.proofs.Fails.{right, valid}
use Rattle.laws_keeping.proofs.Others.{Fits}
use Rattle.laws_keeping.proofs.Parts.{Right, valid_right, right_valid}
use Rattle.laws_secrecy.specs.Secrecy.{AlikeThread, Alike}
use Rattle.laws_secrecy.specs.Erase.{erase_entry, erase_held, erase_in, erase, Erased, ErasedEvent}
use Rattle.laws_secrecy.proofs.Step.{open_there, open_below, open_valid, one_event}

-- a place of the log
entry_erased : (es : List Entry) (n : ℕ) → entry (map erase_entry es) n ≡ erase_entry (entry es n)
entry_erased es n = get_or-map erase_entry es n no_entry

-- what is held stays right
place_erased : (e : Entry) (n c : ℕ) → place_right e n c ≡ true → place_right (erase_entry e) n c ≡ true
unfolding place_right
place_erased e n c h = go (ltb n c) (eqb e.index 0 && eqb e.marks 0) h
  where
    go : (b i : Bool) → (b || i && eqb e.value 0) ≡ true → (b || i && true) ≡ true
    go true i h = refl
    go false i h = and_intro i true (and_left i _ h) refl

byte_zero : (j : ℕ) → byte 0 j ≡ 0
unfolding byte
byte_zero j = ap (λ (x : ℕ). x % 256) (zero-div (2 ^ (8 * j)))

-- zeros are right under any marks
zeros_marked : (m : ℕ) → only_marked m 0 ≡ true
unfolding only_marked
zeros_marked m = all_from _ bytes (λ j l. rw byte_zero (or-true (place m j)))

marked_erased : (e : Entry) → marked_right e ≡ true → marked_right (erase_entry e) ≡ true
unfolding marked_right
marked_erased e h = and_intro _ _ (and_left (not (eqb e.marks 0)) _ h) (zeros_marked e.marks)

held_erased : (x : Transaction) (len : ℕ) → held_right x len ≡ true → held_right (erase_held x) len ≡ true
unfolding unused_zero indices_inside lines_inside line_inside distinct unlike writes_logged line_logged logs_line marks_right
held_erased x len h =
    let p = held_parts x len h in
    let few = leb x.count most_places in
    let place : ℕ → Bool = λ n. place_right (entry x.log n) n x.count in
    held_whole (erase_held x) len (record {
      unused =
          and_intro few _ (and_left few _ p.unused)
          (all_from _ most_places (λ n b. rw entry_erased (place_erased _ n _ (all_at place most_places n (and_right few _ p.unused) b))));
      indices = simp entry_erased p.indices;
      touched = p.touched;
      differ = all_cong (unlike (erase_held x)) (unlike x) x.count (λ n b. simp entry_erased) ∙ p.differ;
      logged = all_cong (line_logged (erase_held x)) (line_logged x) lines (λ l b. simp entry_erased) ∙ p.logged;
      marks = all_from _ x.count (λ n b. rw entry_erased (marked_erased _ (all_at (λ n. marked_right (entry x.log n)) x.count n p.marks b)));
    })

-- CR fields that are zero are small
zeros_small : (n : ℕ) → cr_small (record { gpr = []; cr = replicate n 0 }) ≡ true
unfolding cr_small
zeros_small n = all_from _ 7 (λ k b. go k (dec_lt k n))
  where
    go : (k : ℕ) → Dec (k < n) → ltb (get_or (replicate n 0) k 0) 16 ≡ true
    go k (yes b) = rw (get_or-replicate {A = ℕ} n k 0 0 b)
    go k (no o) = rw (get_or-eq_default {A = ℕ} (replicate n 0) 0 {n = k} (simp length-replicate (omega arith)))

-- the thread stays valid
thread_erased : (t : Thread) (len : ℕ) → t.control.msr.state ≡ T → thread_valid t len ≡ true → thread_valid (erase_in T t) len ≡ true
unfolding erase_in cr_small
thread_erased t len p h =
    let r = right T t len p h in
    let l = r.rules.1 in
    valid {s = T} {t = erase_in T t} (record {
      is = p;
      file =
          record {
            live = record { gpr = length-replicate _ 0 ∙ r.file.live.gpr; cr = length-replicate _ 0 ∙ r.file.live.cr; small = zeros_small (length t.live.cr) };
            saved = r.file.saved;
            cr0 = omega arith;
          };
      addresses = r.addresses;
      rules = (r.rules.0, record { unfailed = l.unfailed; low = l.low; high = l.high; small = l.small });
      holds =
          record {
            shape = record { reads = r.holds.shape.reads; writes = r.holds.shape.writes; log = length-map t.transaction.log erase_entry ∙ r.holds.shape.log };
            held = held_erased t.transaction len r.holds.held;
          };
    })

-- the thread and its erasure are alike
erased_alike : (t : Thread) → t.control.msr.state ≡ T → AlikeThread t (erase_in T t)
unfolding erase_in
erased_alike t p =
    record {
      transactional = p;
      control = refl;
      checkpoint = refl;
      reads = refl;
      writes = refl;
      count = refl;
      addresses = λ n. sym (ap (λ (e : Entry). e.index) (entry_erased t.transaction.log n));
      marks = λ n. sym (ap (λ (e : Entry). e.marks) (entry_erased t.transaction.log n));
    }

module _ (w : ℕ) (m : Machine) (p : (thread m.threads w).control.msr.state ≡ T) where
  -- the threads of the erasure
  erased_own : thread (erase w m).threads w ≡ erase_in T (thread m.threads w)
  unfolding erase
  erased_own =
      get_or-set_same m.threads w _ no_thread (open_there m.threads w p)
      ∙ ap (λ (s : State). erase_in s (thread m.threads w)) p

  erased_other : (v : ℕ) → (v ≡ w → ⊥) → thread (erase w m).threads v ≡ thread m.threads v
  unfolding erase
  erased_other v d = get_or-set_other m.threads w v _ no_thread d

  alike : Alike w m (erase w m)
  unfolding erase
  alike =
      record { count = refl; others = λ v d. sym (erased_other v d); own = rw erased_own (erased_alike (thread m.threads w) p) }

  -- a set that is as before in thread w is so in every thread
  set_same : (f : Thread → LineSet) → f (thread m.threads w) ≡ f (thread (erase w m).threads w)
      → (v : ℕ) → f (thread m.threads v) ≡ f (thread (erase w m).threads v)
  set_same f h v = go (ℕ_discrete v w)
    where
      go : Dec (v ≡ w) → f (thread m.threads v) ≡ f (thread (erase w m).threads v)
      go (yes q) = rw q h
      go (no d) = ap f (alike.others v d)

  reads_same : (v : ℕ) → (thread m.threads v).transaction.reads ≡ (thread (erase w m).threads v).transaction.reads
  reads_same = set_same (λ t. t.transaction.reads) alike.own.reads

  writes_same : (v : ℕ) → (thread m.threads v).transaction.writes ≡ (thread (erase w m).threads v).transaction.writes
  writes_same = set_same (λ t. t.transaction.writes) alike.own.writes

  -- the erasure is valid, part by part
  erased_right : (len : ℕ) → Right m len → thread_valid (thread m.threads w) len ≡ true → w < m.count → Right (erase w m) len
  unfolding erase sized
  erased_right len r h b =
      record {
        sizes = r.sizes;
        four = length-set m.threads w _ ∙ r.four;
        each = λ v c. each v (ℕ_discrete v w) (r.each v c);
        clear = λ u v b c d l k q.
            (λ j. lineset.has (sym (reads_same v) j) l || lineset.has (sym (writes_same v) j) l)
            ∙ r.clear u v b c d l k (ap (λ (s : LineSet). lineset.has s l) (writes_same u) ∙ q);
      }
    where
      each : (v : ℕ) → Dec (v ≡ w) → Fits (ltb v m.count) (thread m.threads v) len → Fits (ltb v m.count) (thread (erase w m).threads v) len
      each v (yes q) f = rw (q, erased_own, lt-ltb w m.count b) (thread_erased _ len p h)
      each v (no d) f = rw (erased_other v d) f

pub erased : Erased
erased w m len h p = (alike w m p, right_valid _ len (erased_right w m p len (valid_right m len h) (open_valid m len w h p) (open_below m len w h p)))

pub erased_event : ErasedEvent
erased_event w m mem v e h p a =
    let r = erased w m (length mem) h p in
    one_event w m (erase w m) mem v e h r.1 r.0 a
