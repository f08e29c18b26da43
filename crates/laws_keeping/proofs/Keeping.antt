-- A step keeps a machine valid; a refused event changes nothing; the contract allows one answer.
use mathlib.Core.Path.{◌≡◌, refl, sym, ◌∙◌}
use mathlib.Core.Bool.{Bool, true, false}
use mathlib.Core.Logic.{◌⊎◌, ⊎_elim}
use mathlib.Core.List.{List}
use Prim.Native.Nat.{ℕ, ◌≤◌, ◌<◌}
use native.Mathlib.Decide.{ℕ_discrete}
use native.Mathlib.Omega.{arith}
use lib.Dec.{eqb, ltb}
use lib.ListN.{length, set, length-set}
use lib.Seq.{get_or-set_same, get_or-set_other}
use borrow.Author.Tests.{eqb-true, ne_eqb, lt-ltb}
use Rattle.base.specs.Limits.{most_threads}
use Rattle.base.proofs.Below.{still_false, fork}
use Rattle.lines.specs.Lines as lineset
use Rattle.transaction.specs.Transaction as transaction
use Rattle.thread.specs.declared.Thread.{Thread}
use Rattle.thread.specs.declared.Effect.{Effect}
use Rattle.event.specs.declared.Event.{Event}
use Rattle.step_rules.specs.Effects.{effect}
use Rattle.step_rules.specs.Conflict.{others}
use Rattle.machine.specs.Machine.{thread, no_thread, with_threads}
use Rattle.machine.specs.Valid.{sized, thread_valid, valid}
use Rattle.step_rules.specs.Refusal.{refused_later, refusal}
use Rattle.step_rules.specs.Step.{Outcome, perform, step}
use Rattle.machine.specs.declared.Machine.{Machine}
use Rattle.machine.proofs.Validity.{valid_memory_sized, valid_count, valid_thread}
use Rattle.step_rules.proofs.Refusals.{passed_thread, passed_operands, passed_there, refusal_valid}
use Rattle.laws_keeping.proofs.Effects.{written_length, effect_keeps}
use Rattle.laws_keeping.proofs.Sets.{Stores, Loads, writes_touch, effect_writes, effect_touches}
use Rattle.laws_keeping.proofs.Others.{Fits, Met, others_length, others_met}
use Rattle.laws_keeping.proofs.Parts.{thread_of, Clear, Right, valid_right, right_valid}
use Rattle.laws_keeping.specs.Keeping.{Keeps, RefusedUntouched}

-- ---- the machine after an effect of thread w: the others after what it touches, and its own thread

module _ (m : Machine) (len w : ℕ) (f : Effect)
    (r : Right m len) (here : w < m.count) (few : m.count ≤ most_threads)
    (fine : thread_valid f.thread len ≡ true)
    (writes : (l : ℕ) → lineset.has f.thread.transaction.writes l ≡ true → (lineset.has (thread_of m w).transaction.writes l ≡ true) ⊎ Stores f l)
    (touches : (l : ℕ) → transaction.touches f.thread.transaction l ≡ true
    → (transaction.touches (thread_of m w).transaction l ≡ true) ⊎ (Stores f l ⊎ Loads f l)) where
  abbrev us : List Thread
  us = others f.touch m.threads w

  abbrev y : Thread
  y = f.thread

  four : length us ≡ most_threads
  four = others_length f.touch m.threads w ∙ r.four

  own_at : thread (set us w y) w ≡ y
  own_at = let h : w < length us = omega (arith, four) in get_or-set_same us w y no_thread h

  -- what the event leaves of another thread
  other_at : (v : ℕ) → (v ≡ w → ⊥) → thread (set us w y) v ≡ thread us v
  other_at v n = get_or-set_other us w v y no_thread n

  other : (v : ℕ) → v < most_threads → (v ≡ w → ⊥) → Met f.touch (thread_of m v) (thread us v) (ltb v m.count) len
  other v b n = others_met m.threads w v _ len r.four b n (r.each v b) f.touch

  each : (v : ℕ) → v < most_threads → Fits (ltb v m.count) (thread (set us w y) v) len
  each v b = go (ℕ_discrete v w)
    where
      go : Dec (v ≡ w) → Fits (ltb v m.count) (thread (set us w y) v) len
      go (yes q) = rw (q, own_at, lt-ltb w m.count here) fine
      go (no n) = rw (other_at v n) (other v b n).fits

  -- its own write set against the others' sets, theirs against its own, and theirs against one another's
  own_clear : (v : ℕ) → v < most_threads → (v ≡ w → ⊥) → Clear y.transaction (thread us v).transaction
  own_clear v b n l h p =
      ⊎_elim (λ q. still_false _ _ ((other v b n).touches l) (r.clear w v (omega arith) b (λ f. n (sym f)) l h q)) ((other v b n).stored l) (writes l p)

  clear_own : (u : ℕ) → u < most_threads → (u ≡ w → ⊥) → Clear (thread us u).transaction y.transaction
  clear_own u b n l h p = go (transaction.touches y.transaction l) refl
    where
      go : (c : Bool) → transaction.touches y.transaction l ≡ c → c ≡ false
      go false q = refl
      go true q =
          ⊎_elim (λ k. sym k ∙ r.clear u w b (omega arith) n l h ((other u b n).writes l p))
          (⊎_elim (λ k. sym (writes_touch (thread us u).transaction l p) ∙ (other u b n).stored l k) (λ k. sym p ∙ (other u b n).loaded l k))
          (touches l q)

  between : (u v : ℕ) → u < most_threads → v < most_threads → (u ≡ v → ⊥) → (u ≡ w → ⊥) → (v ≡ w → ⊥)
      → Clear (thread us u).transaction (thread us v).transaction
  between u v b c n a d l h p = still_false _ _ ((other v c d).touches l) (r.clear u v b c n l h ((other u b a).writes l p))

  clear : (u v : ℕ) → u < most_threads → v < most_threads → (u ≡ v → ⊥)
      → Clear (thread (set us w y) u).transaction (thread (set us w y) v).transaction
  clear u v b c n = go (ℕ_discrete u w) (ℕ_discrete v w)
    where
      go : Dec (u ≡ w) → Dec (v ≡ w) → Clear (thread (set us w y) u).transaction (thread (set us w y) v).transaction
      go (yes p) (yes q) = absurd (n (p ∙ sym q))
      go (yes p) (no d) = rw (p, own_at, other_at v d) (own_clear v c d)
      go (no a) (yes q) = rw (q, own_at, other_at u a) (clear_own u b a)
      go (no a) (no d) = rw (other_at u a, other_at v d) (between u v b c n a d)

  joined_right : Right (with_threads m (set us w y)) len
  unfolding sized
  joined_right = record { sizes = r.sizes; four = length-set us w y ∙ four; each = each; clear = clear }

-- an event that is not refused keeps the machine's parts, and memory's length
perform_right : (m : Machine) (mem : List ℕ) (w : ℕ) (e : Event) → valid m (length mem) ≡ true → refused_later m (length mem) w e ≡ 0
    → Right (perform m mem w e).done.machine (length mem)
unfolding perform
perform_right m mem w e v p =
    let len = length mem in
    let t = thread_of m w in
    let here = passed_thread m len w e p in
    let z = valid_memory_sized m len v in
    let h = valid_thread m len v w here in
    let o = passed_operands m len w e p in
    joined_right m len w (effect e t mem) (valid_right m len v) here (valid_count m len v)
    (effect_keeps e t mem z h o (passed_there m len w e p)) (effect_writes e t mem z h o) (effect_touches e t mem z h o)

perform_length : (m : Machine) (mem : List ℕ) (w : ℕ) (e : Event) → length (perform m mem w e).memory ≡ length mem
unfolding perform
perform_length m mem w e = written_length (effect e (thread_of m w) mem).write (thread_of m w).transaction mem

abbrev Kept : List ℕ → Outcome → Type 0
Kept mem o = (length o.memory ≡ length mem) × (valid o.done.machine (length o.memory) ≡ true)

perform_keeps : (m : Machine) (mem : List ℕ) (w : ℕ) (e : Event) → valid m (length mem) ≡ true → refusal m (length mem) w e ≡ 0 → Kept mem (perform m mem w e)
perform_keeps m mem w e v p = (
  perform_length m mem w e,
  rw perform_length (right_valid _ _ (perform_right m mem w e v (sym (refusal_valid m (length mem) w e v) ∙ p))),
)

pub keeps : Keeps
unfolding step
keeps m mem w e v = fork (Kept mem) (eqb (refusal m (length mem) w e) 0) (λ p. perform_keeps m mem w e v (eqb-true _ _ p)) (λ p. (refl, v))

pub refused_untouched : RefusedUntouched
unfolding step
refused_untouched m mem w e r = rw (ne_eqb (refusal m (length mem) w e) 0 r)
