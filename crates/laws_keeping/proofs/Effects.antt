-- The effect of an event that is not refused: its thread is valid, and memory keeps its length.
use mathlib.Core.Path.{◌≡◌, refl, sym, ap, ◌∙◌}
use mathlib.Core.Bool.{Bool, true, false, true≢false, ◌||◌, or-false}
use mathlib.Core.Logic.{inl, inr}
use mathlib.Core.List.{List}
use Prim.Native.Nat.{ℕ, ◌%◌, ◌<◌}
use native.Mathlib.Omega.{arith}
use lib.Dec.{eqb, leb}
use lib.ListN.{length, length-set}
use borrow.Author.Tests.{eqb-true, eqb-false, leb-true, leb-false, not-false}
use Rattle.base.specs.Limits.{lines, most_levels}
use Rattle.base.specs.Below.{bit}
use Rattle.base.proofs.Below.{and_left, and_right, neither, fork, no_number, bit_lt}
use Rattle.lines.proofs.Laws.{footprint_empty}
use Rattle.transaction.specs.Transaction as transaction
use Rattle.transaction.specs.declared.Cause.{Cause}
use Rattle.transaction.specs.declared.Transaction.{Transaction}
use Rattle.transaction.specs.declared.Write.{Write}
use Rattle.transaction.specs.declared.Write.TheVariants.{Unwritten, Bytes, Log}
use Rattle.transaction.proofs.Laws.{commit_length}
use Rattle.kinds.specs.Rows.{row, tm_spr, srr}
use Rattle.event.specs.Event.{trechkpt_kind, mtspr_kind, kind, operands_right, tm_instruction}
use Rattle.event.specs.declared.Event.{Event}
use Rattle.event.specs.declared.Event.TheVariants.{Trechkpt, Mtspr}
use Rattle.power_rules.specs.Common.{passes, cr0_from_state, put_gpr, own_recording, fails, dooms, cr0_only, leveled, abort_cause}
use Rattle.power_rules.specs.Access.{tracked, ld_overflows, std_overflows, takes, joins, load, logs, meets_own, store, tlbie}
use Rattle.power_rules.specs.Aborts.{tabort, tabort_if}
use Rattle.power_rules.specs.Begins.{begins, tbegin}
use Rattle.power_rules.specs.Ends.{commits, tend}
use Rattle.power_rules.specs.Suspends.{moves, tsuspend, tresume, tsr}
use Rattle.power_rules.specs.Reclaims.{check_field, tcheck, treclaim, trechkpt}
use Rattle.power_rules.specs.Special.{put_failure, put_spr, mtspr}
use Rattle.power_rules.specs.Returns.{goes, taking}
use Rattle.power_rules.specs.Plain.{disallowed, interrupted, interrupt, host}
use Rattle.step_rules.specs.Effects.{effect}
use Rattle.step_rules.proofs.Cases.{Works, effect_by}
use Rattle.power_rules.specs.declared.Did.{Did}
use Rattle.thread.specs.Texasr.{tl, begun}
use Rattle.thread.specs.Thread.{with_control, with_failure, with_saved, failed, recording}
use Rattle.thread.specs.Turns.{table}
use Rattle.thread.specs.declared.Saved.{Saved}
use Rattle.thread.specs.declared.State.{State}
use Rattle.thread.specs.declared.State.TheVariants.{N, T, S}
use Rattle.thread.specs.declared.Failure.{Failure}
use Rattle.thread.specs.declared.Control.{Control}
use Rattle.thread.specs.declared.Thread.{Thread}
use Rattle.thread.specs.declared.Effect.{Effect}
use Rattle.thread.proofs.Laws.{begun_fs, begun_tl}
use Rattle.machine.specs.Valid.{memory_sized, thread_valid}
use Rattle.step_rules.specs.Refusal.{host_in_t, off, forbidden, bad_thing, turned_down, refused_there}
use Rattle.machine.proofs.Validity.{memory_most}
use Rattle.laws_keeping.proofs.Held.{join_shaped, store_shaped, join_held, store_held, join_footprint, store_footprint}
use Rattle.laws_keeping.proofs.Fails.{Filed, Addressed, Live, Rules, Right, right, valid, doomed_empty, undoomed_live, empty_holds, handled, failure_t, failure_s}
use Rattle.laws_keeping.proofs.Anew.{ts_small, next_aligned, up, down, with_field, saved, with_controls, passed, from_state, with_generals, with_gpr, with_cr, with_held}

-- what is written leaves memory as long as it was
pub written_length : (w : Write) (x : Transaction) (mem : List ℕ) → length (transaction.written w x mem) ≡ length mem
unfolding transaction.written
written_length Unwritten x mem = refl
written_length (Bytes i m v) x mem = simp length-set
written_length Log x mem = commit_length mem _ _

-- an SPR that mtspr names is SRR0 or SRR1, unless it is a failure register
no_other : (spr : ℕ) → (srr spr || tm_spr spr) ≡ true → tm_spr spr ≡ false → eqb spr 26 ≡ false → eqb spr 27 ≡ false → ⊥
no_other spr o b x y =
    let z : srr spr ≡ true = sym (or-false (srr spr)) ∙ (simp b at o) in
    let l = leb-true 26 spr (and_left (leb 26 spr) _ z) in
    let h = leb-true spr 27 (and_right (leb 26 spr) _ z) in
    let n = eqb-false spr 26 x in
    let m = eqb-false spr 27 y in
    omega arith

-- an index in memory has a line
pub line_below : (i len : ℕ) → memory_sized len ≡ true → i < len → transaction.line i < lines
line_below i len z h = omega (arith, memory_most len z)

-- ---- each event on its own thread

-- the thread that is left is valid
abbrev Fine : ℕ → Did → Type 0
Fine len d = thread_valid d.thread len ≡ true

abbrev Does : ℕ → Effect → Type 0
Does len f = thread_valid f.thread len ≡ true

-- a failure of the thread's own, in T and in S
fails_fine : (t : Thread) (len : ℕ) (cause : Cause) → Right T t len → Fine len (fails t cause)
unfolding fails
fails_fine t len cause r = valid (failure_t t cause true _ len r)

dooms_fine : (t : Thread) (len : ℕ) (cause : Cause) (exact : Bool) → Right S t len → Fine len (dooms t cause exact)
unfolding dooms
dooms_fine t len cause exact r = valid (passed (failure_s t cause exact _ len r))

meets_own_fine : (t : Thread) (len : ℕ) (met : Bool) (cause : Cause) (exact : Bool) → Right S t len → Fine len (meets_own met t cause exact)
unfolding meets_own
meets_own_fine t len met cause exact r = fork (Fine len) met (λ p. dooms_fine t len cause exact r) (λ p. valid (passed r))

module _ (t : Thread) (len : ℕ) where
  cr0_only_fine : {s : State} → Right s t len → Fine len (cr0_only t)
  cr0_only_fine r = valid (passed (from_state r))

  leveled_fine : (x : ℕ) → Right T t len → Live x t.transaction → Fine len (leveled t x)
  leveled_fine x r l = valid (passed (from_state (with_controls r _ r.is r.addresses (r.rules.0, l))))

  -- tbegin. and tend.: a level more or less, or a transaction begun or ended
  begun_live : (b : Bool) → t.transaction ≡ transaction.empty → Live (begun (bit b)) t.transaction
  unfolding transaction.empty
  begun_live b e =
      let l = begun_tl b in
      record { unfailed = begun_fs b; low = omega arith; high = omega arith; small = rw e (rw footprint_empty (omega arith)) }

  tbegin_fine : (s : State) (b : Bool) → Right s t len → Fine len (tbegin s t b)
  unfolding tbegin
  tbegin_fine N b r =
      valid
      (passed
      (with_controls (saved (from_state r)) (begins t.control b) refl (record { nia = r.addresses.nia; tfhar = next_aligned _ r.addresses.nia })
      (r.rules.0, begun_live b r.rules.1)))
  tbegin_fine T b r =
      fork (Fine len) (leb most_levels (tl t.control.failure.texasr)) (λ p. fails_fine t len _ r)
      (λ p. leveled_fine _ r (up b r.rules.1 (leb-false _ _ p)))
  tbegin_fine S b r = cr0_only_fine r

  tend_fine : (s : State) (a : Bool) → Right s t len → Does len (tend s t a)
  unfolding tend transaction.discard
  tend_fine N a r = cr0_only_fine r
  tend_fine T a r =
      fork (Does len) (commits t a)
      (λ p. valid
      (passed
      (record {
        is = refl;
        file = record { live = r.file.live; saved = r.file.saved; cr0 = omega arith };
        addresses = r.addresses;
        rules = (r.rules.0, refl);
        holds = empty_holds len;
      })))
      (λ p. leveled_fine _ r (down r.rules.1 (leb-false _ _ (neither a _ p).1)))
  tend_fine S a r = cr0_only_fine r

  -- tabort. and its conditional forms
  tabort_fine : (s : State) (cause : Cause) → Right s t len → Fine len (tabort s t cause)
  unfolding tabort
  tabort_fine N cause r = cr0_only_fine r
  tabort_fine T cause r = fails_fine t len cause r
  tabort_fine S cause r = dooms_fine (cr0_from_state t) len cause true (from_state r)

  tabort_if_fine : (held : Bool) → Right t.control.msr.state t len → Fine len (tabort_if t held)
  unfolding tabort_if
  tabort_if_fine held r = fork (Fine len) held (λ p. tabort_fine _ _ r) (λ p. cr0_only_fine r)

  -- tsr.
  moves_fine : {s : State} (s' : State) → Right s t len → Rules s' t.control.msr.doomed t.control.failure.texasr t.transaction → Fine len (moves t s')
  moves_fine s' r g = valid (passed (with_controls (from_state r) _ refl r.addresses g))

  tsuspend_fine : (s : State) → Right s t len → Fine len (tsuspend s t)
  unfolding tsuspend
  tsuspend_fine N r = cr0_only_fine r
  tsuspend_fine T r = moves_fine S r (inr r.rules)
  tsuspend_fine S r = cr0_only_fine r

  tresume_fine : (s : State) → Right s t len → Fine len (tresume s t)
  unfolding tresume
  tresume_fine N r = cr0_only_fine r
  tresume_fine T r = cr0_only_fine r
  tresume_fine S r =
      fork (Fine len) t.control.msr.doomed (λ d. valid (handled t len r.file r.addresses (doomed_empty _ _ _ d r.rules)))
      (λ d. moves_fine T r (d, undoomed_live _ _ _ d r.rules))

  tcheck_fine : {s : State} (bf : ℕ) → Right s t len → Fine len (tcheck t bf)
  unfolding tcheck
  tcheck_fine bf r =
      valid (passed (with_cr r bf (check_field t.control) (let h = ts_small t.control.msr.state in let d = bit_lt t.control.msr.doomed in omega arith)))

  -- treclaim.: a recording changes neither registers nor addresses
  treclaim_fine : {s : State} (ra : ℕ) → Right s t len → Fine len (treclaim t ra)
  unfolding treclaim recording transaction.discard
  treclaim_fine ra r =
      valid
      (passed
      (record {
        is = refl;
        file = record { live = k.0.saved; saved = k.0.saved; cr0 = (let l = ts_small t.control.msr.state in omega arith) };
        addresses = k.1;
        rules = (refl, refl);
        holds = empty_holds len;
      }))
    where
      Kept : Thread → Type 0
      Kept u = Filed u.live u.checkpoint u.cr0 × Addressed u.control.nia u.control.failure.tfhar

      k : Kept (own_recording t (abort_cause t ra))
      k = fork Kept (failed t.control) (λ p. (r.file, r.addresses)) (λ p. (r.file, r.addresses))

  -- trechkpt. is done only in N
  trechkpt_fine : (s : State) (tm : Bool) → bad_thing s t.control trechkpt_kind tm ≡ false → Right s t len → Fine len (trechkpt t)
  unfolding bad_thing trechkpt
  trechkpt_fine N tm b r =
      valid
      (passed
      (with_controls (with_field (saved r) 0 (omega arith)) _ refl r.addresses
      (inl (refl, eqb-true _ 1 (not-false _ b), r.rules.1))))
  trechkpt_fine T tm b r = absurd (true≢false b)
  trechkpt_fine S tm b r = absurd (true≢false b)

  -- mtspr: SRR0 and SRR1 may be anything
  module _ {s : State} (r : Right s t len) (spr v : ℕ) where
    abbrev Ok : Control → Type 0
    Ok k = Right s (with_control t k) len

    put_fine : (eqb spr 26 ≡ false → eqb spr 27 ≡ false → Ok (with_failure t.control (put_failure t.control.failure spr v))) → Ok (put_spr t.control spr v)
    unfolding put_spr
    put_fine f = fork Ok (eqb spr 26) (λ p. kept _) (λ p. fork Ok (eqb spr 27) (λ q. kept _) (λ q. f p q))
      where
        kept : (x : Saved) → Ok (with_saved t.control x)
        kept x = with_controls r _ r.is r.addresses r.rules

  -- of the failure registers it is done only in N
  mtspr_fine : (s : State) (spr ra : ℕ) → (srr spr || tm_spr spr) ≡ true → bad_thing s t.control mtspr_kind (tm_spr spr) ≡ false → Right s t len → Fine len (mtspr t spr ra)
  unfolding bad_thing mtspr put_failure
  mtspr_fine N spr ra o b r =
      valid
      (passed
      (put_fine r spr _
      (λ x y. fork Of (eqb spr 128) (λ p. put _ (omega arith))
      (λ p. fork Of (eqb spr 129) (λ p. put _ r.addresses.tfhar)
      (λ p. fork Of (eqb spr 130) (λ p. put _ r.addresses.tfhar)
      (λ p. put _ r.addresses.tfhar))))))
    where
      Of : Failure → Type 0
      Of f = Right N (with_control t (with_failure t.control f)) len

      put : (f : Failure) → f.tfhar % 4 ≡ 0 → Of f
      put f h = with_controls r _ r.is (record { nia = r.addresses.nia; tfhar = h }) r.rules
  mtspr_fine T spr ra o b r = absurd (true≢false b)
  mtspr_fine S spr ra o b r = valid (passed (put_fine r spr _ (λ x y. absurd (no_other spr o b x y))))

  gpr_fine : {s : State} (n v : ℕ) → Right s t len → Fine len (passes (put_gpr t n v))
  gpr_fine n v r = valid (passed (with_gpr r n v))

  -- an access inside memory
  module _ (i : ℕ) (inside : i < len) (below : transaction.line i < lines) where
    joined : Right T t len → transaction.crowded t.transaction (transaction.line i) ≡ false → Right T (joins t i) len
    joined r c =
        with_held _ r (join_footprint _ i r.holds.shape below c r.rules.1.small)
        (record { shape = join_shaped _ i r.holds.shape; held = join_held _ i len r.holds.shape inside below r.holds.held })

    load_fine : (s : State) (rt j w : ℕ) (mem : List ℕ) → Right s t len → Does len (load s t rt i j w mem)
    unfolding load
    load_fine N rt j w mem r = gpr_fine rt _ r
    load_fine T rt j w mem r =
        fork (Does len) (ld_overflows t i) (λ p. fails_fine t len _ r)
        (λ p. fork (λ (u : Thread). Fine len (takes u rt i j w mem)) (tracked t)
        (λ q. valid (passed (with_gpr (joined r (simp q at p)) rt _)))
        (λ q. gpr_fine rt _ r))
    load_fine S rt j w mem r = gpr_fine rt _ r

    logs_fine : (m v : ℕ) → 0 < m → Right T t len → Does len (logs t i m v)
    unfolding logs
    logs_fine m v z r =
        fork (Does len) (std_overflows t i) (λ p. fails_fine t len _ r)
        (λ p. let q = neither _ _ p in
        valid
        (passed
        (with_held _ r (store_footprint _ i m v r.holds.shape below q.0 r.rules.1.small)
        (record { shape = store_shaped _ i m v r.holds.shape; held = store_held _ i m v len r.holds.shape z inside below q.1 r.holds.held }))))

    store_fine : (s : State) (m v : ℕ) → 0 < m → Right s t len → Does len (store s t i m v)
    unfolding store
    store_fine N m v z r = valid (passed r)
    store_fine T m v z r = logs_fine m v z r
    store_fine S m v z r = meets_own_fine t len _ _ _ r

  tlbie_fine : (s : State) (p : ℕ) → Right s t len → Does len (tlbie s t p)
  unfolding tlbie
  tlbie_fine N p r = valid (passed r)
  tlbie_fine T p r = fails_fine t len _ r
  tlbie_fine S p r = meets_own_fine t len _ _ _ r

  disallowed_fine : (s : State) → Right s t len → Fine len (disallowed s t)
  unfolding disallowed
  disallowed_fine N r = valid (passed r)
  disallowed_fine T r = fails_fine t len _ r
  disallowed_fine S r = valid (passed r)

  interrupt_fine : (s : State) → Right s t len → Fine len (interrupt t)
  unfolding interrupt
  interrupt_fine s r = valid (with_controls r _ (ap interrupted r.is) (record { nia = refl; tfhar = r.addresses.tfhar }) (go s r.rules))
    where
      go : (s : State) → Rules s t.control.msr.doomed t.control.failure.texasr t.transaction → Rules (interrupted s) t.control.msr.doomed t.control.failure.texasr t.transaction
      go N g = g
      go T g = inr g
      go S g = g

  host_fine : {s : State} (pr tm : Bool) → Right s t len → Fine len (host t pr tm)
  unfolding host
  host_fine pr tm r = valid (with_controls r _ r.is r.addresses r.rules)

  -- rfid and mtmsrd, by the table: a state that is reached keeps what it asks, and in T a doomed thread handles
  goes_fine : {s : State} (s' : State) (pr tm : Bool) (at : ℕ) → at % 4 ≡ 0 → Right s t len
      → Rules s' t.control.msr.doomed t.control.failure.texasr t.transaction → Right s' (goes t s' pr tm at) len
  goes_fine s' pr tm at h r g = with_controls r _ refl (record { nia = h; tfhar = r.addresses.tfhar }) g

  taking_fine : (s : State) (b c now tm pr : Bool) (at : ℕ) → at % 4 ≡ 0 → Right s t len → Fine len (taking (table s b c now tm) t pr at)
  unfolding table taking
  taking_fine N false false now tm pr at h r = valid (goes_fine N pr tm at h r r.rules)
  taking_fine N false true now tm pr at h r = valid r
  taking_fine N true c now tm pr at h r = valid r
  taking_fine T b c now tm pr at h r = fails_fine t len _ r
  taking_fine S false false false false pr at h r = valid (goes_fine S pr false at h r r.rules)
  taking_fine S false false false true pr at h r = valid r
  taking_fine S false false true tm pr at h r = valid r
  taking_fine S false true now tm pr at h r = valid (goes_fine S pr tm at h r r.rules)
  taking_fine S true false now false pr at h r = valid r
  taking_fine S true false now true pr at h r =
      fork (Fine len) t.control.msr.doomed
      (λ d. valid (handled (goes t T pr true at) len r.file (record { nia = h; tfhar = r.addresses.tfhar }) (doomed_empty _ _ _ d r.rules)))
      (λ d. valid (goes_fine T pr true at h r (d, undoomed_live _ _ _ d r.rules)))
  taking_fine S true true now tm pr at h r = valid r

pub not_bad : (k : Control) (e : Event) → refused_there k e ≡ 0 → bad_thing k.msr.state k (kind e) (tm_instruction e) ≡ false
unfolding refused_there
not_bad k e p =
    (neither _ _
    (no_number (bad_thing k.msr.state k (kind e) (tm_instruction e) || turned_down k e) 12 0
    (no_number (forbidden k e) 11 _ (no_number (off k e) 10 _ (no_number (host_in_t k.msr.state (kind e)) 4 _ p).1).1).1).0).0

-- mtspr names one of its registers
named : (spr ra len : ℕ) → operands_right (Mtspr spr ra) len ≡ true → (srr spr || tm_spr spr) ≡ true
unfolding operands_right row kind
named spr ra len o = and_left _ _ (and_left _ _ (and_left _ _ o))

pub effect_keeps : (e : Event) (t : Thread) (mem : List ℕ) → memory_sized (length mem) ≡ true → thread_valid t (length mem) ≡ true
    → operands_right e (length mem) ≡ true → refused_there t.control e ≡ 0
    → thread_valid (effect e t mem).thread (length mem) ≡ true
unfolding effect kind tm_instruction tsr
effect_keeps e t mem z h o q =
    effect_by Keeps
    (record {
      tbegin = λ b o q. tbegin_fine t _ _ b r;
      tend = λ a o q. tend_fine t _ _ a r;
      tabort = λ ra o q. tabort_fine t _ _ _ r;
      tabortwc = λ to ra rb o q. tabort_if_fine t _ _ r;
      tabortdc = λ to ra rb o q. tabort_if_fine t _ _ r;
      tsr = λ l o q. fork (Fine (length mem)) l (λ p. tresume_fine t _ _ r) (λ p. tsuspend_fine t _ _ r);
      tcheck = λ bf o q. tcheck_fine t _ bf r;
      treclaim = λ ra o q. treclaim_fine t _ ra r;
      trechkpt = λ o q. trechkpt_fine t _ _ _ (not_bad _ Trechkpt q) r;
      mtspr = λ spr ra o q. mtspr_fine t _ _ spr ra (named spr ra _ o) (not_bad _ (Mtspr spr ra) q) r;
      load = λ e rt i j w a o q. let l = (a _ o).1 in load_fine t _ i l (line_below i _ z l) _ rt j w mem r;
      store = λ e ra i m v a n o q. let l = (a _ o).1 in store_fine t _ i l (line_below i _ z l) _ m _ n r;
      disallowed = λ o q. disallowed_fine t _ _ r;
      interrupt = λ o q. interrupt_fine t _ _ r;
      host = λ pr tm o q. host_fine t _ pr tm r;
      tlbie = λ p o q. tlbie_fine t _ _ p r;
      returns = λ e a at m o q. taking_fine t _ _ _ _ _ _ _ _ (m _ r.addresses.nia) r;
      registers = λ e g s o q. valid (passed (with_generals r (g t) (s t)));
    })
    e o q
  where
    r : Right t.control.msr.state t (length mem)
    r = right _ t _ refl h

    Keeps : Event → Works → Type 0
    Keeps e f = operands_right e (length mem) ≡ true → refused_there t.control e ≡ 0 → Does (length mem) (f t mem)
